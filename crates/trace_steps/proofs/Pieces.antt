-- What the program's functions make of a sheet and of the pieces of a trace is what document 01 says is printed, however the trace is cut.
-- Assumes nothing.
use Prim.Native.Nat.{ℕ, ◌*◌, ◌≤◌}
use native.Mathlib.Omega.{arith}
use mathlib.Core.Path.{◌≡◌, refl, sym, ap, ap₂, subst, ◌∙◌}
use mathlib.Core.Bool.{false}
use mathlib.Core.List.{List, [], ◌∷◌, ◌++◌, append_assoc}
use lib.ListN.{length, take, drop, length-replicate}
use lib.Seq.{take_at}
use Rattle.laws.specs.Bits.{zeros}
use Rattle.rules.specs.declared.Set.{Set}
use Rattle.std.specs.Prelude.{Result, Ok, Err}
use Rattle.rules.specs.declared.Refusal.{Refusal}
use Rattle.rules.specs.Sheet.{read_of}
use Rattle.line.specs.declared.Line.{Line}
use Rattle.line.specs.Line.{holding}
use Rattle.trace_bytes.specs.Scripts.{script_of}
use Rattle.trace_steps.specs.declared.Tracing.{Tracing}
use Rattle.trace_steps.specs.declared.Turn.{Turn}
use Rattle.trace_steps.specs.Turns.{tracing_after, verdict_line, Beginning, was_read, tracing_from, tracing_on, text_on, text_end, text_to_end, PieceTraced}
use Rattle.trace_steps.specs.Trace.{steps_printed, behind_verdict, TraceOf}
use Rattle.trace_steps.specs.Pieces.{bytes_of, joined_of, Written, halts, ends, goes_on, MadeOf}
use Rattle.trace_steps.proofs.Once.{trace_once}
use Rattle.trace_steps.proofs.IsRun.{dead_rest, trace_is_run}

-- the bytes of a line that holds some
line_bytes : (l : Line) (w : List ℕ) → l ≡ holding w → bytes_of l ≡ w
unfolding holding
line_bytes l w e = ap bytes_of e ∙ take_at w _ (length w) refl

-- a trace may be cut anywhere
tracing_cut : (t : Tracing) (p l : List ℕ) → tracing_on t (p ++ l) ≡ tracing_on (tracing_on t p) l
unfolding tracing_on
tracing_cut t [] l = refl
tracing_cut t (b ∷ p) l = tracing_cut (tracing_after t b) p l

text_cut : (t : Tracing) (p l : List ℕ) → text_on t (p ++ l) ≡ text_on t p ++ text_on (tracing_on t p) l
unfolding text_on tracing_on
text_cut t [] l = refl
text_cut t (b ∷ p) l = rw (text_cut (tracing_after t b) p l, append_assoc)

rest_cut : (t : Tracing) (p l : List ℕ) → text_to_end t (p ++ l) ≡ text_on t p ++ text_to_end (tracing_on t p) l
rest_cut t p l = rw (text_cut t p l, tracing_cut t p l, append_assoc)

-- the front of the page is what a piece prints
piece_text : (t next : Tracing) (p out page : List ℕ) (len : ℕ) → length p * 128 ≤ length out → PieceTraced t p out next len page
    → take len page ≡ text_on t p
piece_text t next p out page len h a =
    ap (take len) (a.room h).1.1 ∙ take_at (text_on t p) _ len (sym (a.room h).1.0)

written_text : {t : Tracing} {ps : List (List ℕ)} {w : List ℕ} → Written t ps w → w ≡ text_to_end t (joined_of ps)
unfolding text_on tracing_on
written_text (halts {t} {ps} e) = sym (dead_rest t e (joined_of ps))
written_text (ends {t} l e) = line_bytes l (text_end t) e
written_text (goes_on {t} {next} {p} {out} {page} {len} {ps} {w} h a b) =
    ap₂ ◌++◌ (piece_text t next p out page len h a)
    (written_text b ∙ ap (λ (u : Tracing). text_to_end u (joined_of ps)) (a.room h).0)
    ∙ sym (rest_cut t p (joined_of ps))

-- what follows the first line
behind : (a : Result (Unit {0}) Refusal) (x : Set) (input : List ℕ) → text_to_end (tracing_from x (was_read a)) input ≡ behind_verdict a (steps_printed x (script_of input))
behind (Ok tt) x input = (trace_is_run x input).text
behind (Err why) x input = dead_rest (tracing_from x false) refl input

pub trace_made : (sheet : List ℕ) (pieces : List (List ℕ)) (out : List ℕ) → MadeOf sheet pieces out → TraceOf sheet (joined_of pieces) out
trace_made sheet pieces out m =
    record {
      verdict = m.begins.verdict;
      is_verdict = m.begins.is_verdict;
      whole =
          m.whole
          ∙ ap₂ ◌++◌ (line_bytes m.first.line (verdict_line m.begins.verdict) m.begins.line)
          (written_text m.written
          ∙ ap (λ (t : Tracing). text_to_end t (joined_of pieces)) m.begins.tracing
          ∙ behind (read_of sheet).answer (read_of sheet).set (joined_of pieces));
    }

-- however a trace is cut, the same is printed
pub cut_anywhere : (sheet : List ℕ) (pieces others : List (List ℕ)) (out other : List ℕ) → joined_of pieces ≡ joined_of others
    → MadeOf sheet pieces out → MadeOf sheet others other → out ≡ other
cut_anywhere sheet pieces others out other e a b =
    trace_once sheet (joined_of others) out other (subst (λ (l : List ℕ). TraceOf sheet l out) e (trace_made sheet pieces out a)) (trace_made sheet others other b)

-- and something is: with pages that have room every piece can be written
piece_some : (t : Tracing) (p out : List ℕ) → length p * 128 ≤ length out
    → PieceTraced t p out (tracing_on t p) (length (text_on t p)) (text_on t p ++ drop (length (text_on t p)) out)
piece_some t p out a = record { room = λ h. (refl, (refl, refl)); none = λ h. absurd (omega arith) }

written_some : (t : Tracing) (ps : List (List ℕ)) → (w : List ℕ) × Written t ps w
written_some t [] = (bytes_of (holding (text_end t)), ends (holding (text_end t)) refl)
written_some t (p ∷ ps) =
    let out : List ℕ = zeros (length p * 128) in
    let room : length p * 128 ≤ length out = omega (arith, length-replicate {A = ℕ} (length p * 128) 0) in
    let more : (w : List ℕ) × Written (tracing_on t p) ps w = written_some (tracing_on t p) ps in
    (_, goes_on room (piece_some t p out room) more.1)

pub made_some : (sheet : List ℕ) (pieces : List (List ℕ)) (first : Turn) → Beginning (read_of sheet) first → (out : List ℕ) × MadeOf sheet pieces out
made_some sheet pieces first b =
    let more : (w : List ℕ) × Written first.tracing pieces w = written_some first.tracing pieces in
    (bytes_of first.line ++ more.0, record { first = first; begins = b; rest = more.0; written = more.1; whole = refl })
