-- A recording and its calls determine each other: its bits say the calls that were recorded, and a recording that ends is that of the calls that it says.
-- Assumes nothing.
use Prim.Native.Nat.{ℕ, zero, suc, ◌≤◌, ◌<◌}
use native.Mathlib.Omega.{arith}
use mathlib.Core.Bool.{Bool, true, false, cond, ◌&&◌}
use mathlib.Core.List.{List, [], ◌∷◌, ◌++◌, append_assoc, append-nil}
use mathlib.Core.Path.{◌≡◌, refl, ap, ap₂, sym, subst, ◌∙◌}
use borrow.Author.Tests.{leb-true, ltb-true, lt-ltb, eqb-true}
use lib.Dec.{ltb, leb}
use lib.ListN.{length, take, drop, length-append}
use lib.Seq.{drop_at}
use Rattle.std.specs.List.{list_all}
use Rattle.laws.specs.Lists.{flat}
use Rattle.laws.specs.Bits.{to_bits, value, bits, zeros}
use Rattle.laws.proofs.Sums.{and_parts, by_test}
use Rattle.laws.proofs.Fields.{IsBit, AreBits, all_append, all_drop, to_bits_bits, to_bits_length, taken_split, taken_lt, bits_bits}
use Rattle.laws.proofs.Packing.{pack_unique}
use Rattle.rules.specs.declared.Call.{Call}
use Rattle.std.specs.Prelude.{Result, Ok, Err, Option, Some, None}
use Rattle.rules.specs.declared.Call.TheVariants.{Posts, Units}
use Rattle.rules.specs.declared.Refusal.{Refusal}
use Rattle.rules.specs.declared.Refusal.TheVariants.{StopsEarly, Trailing}
use Rattle.rules.specs.Sheet.{is_zero}
use Rattle.rules.specs.Recordings.{end_mark, post_mark, kind_mark, call_bits, call_kind, stream_field, recordable, recording_of, mark_of, Stop, ends, refused, behind, tape_by, tape_from, tape_of}
use Rattle.promise_replay.specs.Replays.{mark_by, TapeBack, RecordingBack, AllStepsStand}
use Rattle.record_call.proofs.Widths.{calls_bits}
use Rattle.promise_replay.proofs.Reading.{mark_call, mark_end, padding, padding_few, recording_bits}

-- a call has at least two bits, so that there are fewer calls than bits
call_some : (c : Call) → 2 ≤ length (call_bits c)
unfolding call_bits
call_some c = omega (arith, length-append (to_bits 2 (call_kind c)) (stream_field c), to_bits_length 2 (call_kind c))

calls_few : (cs : List Call) → length cs ≤ length (flat call_bits cs)
unfolding flat
calls_few [] = omega arith
calls_few (c ∷ cs) = omega (arith, calls_few cs, call_some c, length-append (call_bits c) (flat call_bits cs))

-- behind calls, bits that stop
pub tape_from_lem : (last : List ℕ) (stop : Stop) → mark_of last ≡ mark_by stop → (n : ℕ) (cs : List Call) → list_all recordable cs ≡ true → length cs < n
    → tape_from n (flat call_bits cs ++ last) ≡ record { calls = cs; stop = stop }
unfolding tape_from flat
tape_from_lem last stop is zero cs can h = absurd (omega arith)
tape_from_lem last stop is (suc n) [] can h = ap (λ (m : Result (Option Call) Refusal). tape_by m (λ c. tape_from n (drop (length (call_bits c)) last))) is ∙ stops stop
  where
    stops : (t : Stop) → tape_by (mark_by t) (λ c. tape_from n (drop (length (call_bits c)) last)) ≡ record { calls = []; stop = t }
    stops ends = refl
    stops (refused why) = refl
tape_from_lem last stop is (suc n) (c ∷ cs) can h =
    ap (λ (bs : List ℕ). tape_by (mark_of bs) (λ d. tape_from n (drop (length (call_bits d)) bs))) (append_assoc (call_bits c) (flat call_bits cs) last)
    ∙ rw (mark_call c (flat call_bits cs ++ last) (and_parts (recordable c) (list_all recordable cs) can).0, drop_at (call_bits c) (flat call_bits cs ++ last) (length (call_bits c)) refl)
    (ap (behind c) (tape_from_lem last stop is n cs (and_parts (recordable c) (list_all recordable cs) can).1 (omega arith)))

pub tape_of_lem : (recording : List ℕ) (cs : List Call) (last : List ℕ) (stop : Stop) → list_all recordable cs ≡ true → bits recording ≡ flat call_bits cs ++ last → mark_of last ≡ mark_by stop
    → tape_of recording ≡ record { calls = cs; stop = stop }
unfolding tape_of
tape_of_lem recording cs last stop can e is =
    ap (λ (bs : List ℕ). tape_from (suc (length bs)) bs) e
    ∙ tape_from_lem last stop is (suc (length (flat call_bits cs ++ last))) cs can (omega (arith, calls_few cs, length-append (flat call_bits cs) last))

pub tape_back : TapeBack
unfolding TapeBack
tape_back calls can = tape_of_lem (recording_of calls) calls (to_bits 2 3 ++ zeros (padding calls)) ends can (recording_bits calls) (mark_end (padding calls) (padding_few calls))

-- ---- back: what bits say

-- a call in front, the end, or a refusal
data Reads (bs : List ℕ) : Result (Option Call) Refusal → Type 0 where
  a_call : (c : Call) (rest : List ℕ) → recordable c ≡ true → bs ≡ call_bits c ++ rest → Reads bs (Ok (Some c))
  the_end : (k : ℕ) → k < 8 → bs ≡ to_bits 2 3 ++ zeros k → Reads bs (Ok None)
  a_refusal : (why : Refusal) → Reads bs (Err why)

all_zeros : (bs : List ℕ) → list_all is_zero bs ≡ true → bs ≡ zeros (length bs)
all_zeros [] e = refl
all_zeros (b ∷ bs) e =
    let u = and_parts (is_zero b) (list_all is_zero bs) e in
    ap₂ (λ (x : ℕ) (l : List ℕ). x ∷ l) (eqb-true b 0 u.0) (all_zeros bs u.1)

module _ (bs rest : List ℕ) (bits_of : AreBits rest) where
  reads_post : bs ≡ to_bits 2 0 ++ rest → Reads bs (post_mark rest)
  unfolding call_bits
  reads_post e = by_test (leb 4 (length rest))
      (λ y. rw y (a_call (Posts (value (take 4 rest))) (drop 4 rest) (lt-ltb (value (take 4 rest)) 16 (taken_lt 4 rest bits_of (leb-true 4 (length rest) y)))
      (e ∙ ap (λ (l : List ℕ). to_bits 2 0 ++ l) (sym (taken_split 4 rest bits_of (leb-true 4 (length rest) y))) ∙ sym (append_assoc (to_bits 2 0) (to_bits 4 (value (take 4 rest))) (drop 4 rest)))))
      (λ y. rw y (a_refusal StopsEarly))

  reads_unit : (done : Bool) → bs ≡ to_bits 2 (cond done 2 1) ++ rest → Reads bs (Ok (Some (Units done)))
  unfolding call_bits
  reads_unit done e = a_call (Units done) rest refl (e ∙ ap (λ (l : List ℕ). l ++ rest) (sym (append-nil (to_bits 2 (cond done 2 1)))))

  reads_end : bs ≡ to_bits 2 3 ++ rest → Reads bs (end_mark rest)
  reads_end e = by_test (ltb (length rest) 8 && list_all is_zero rest)
      (λ y. let u = and_parts (ltb (length rest) 8) (list_all is_zero rest) y in
      rw y (the_end (length rest) (ltb-true (length rest) 8 u.0) (e ∙ ap (λ (l : List ℕ). to_bits 2 3 ++ l) (all_zeros rest u.1))))
      (λ y. rw y (a_refusal Trailing))

  reads_kind : (k : ℕ) → k < 4 → bs ≡ to_bits 2 k ++ rest → Reads bs (kind_mark k rest)
  reads_kind zero h e = reads_post e
  reads_kind (suc zero) h e = reads_unit false e
  reads_kind (suc (suc zero)) h e = reads_unit true e
  reads_kind (suc (suc (suc zero))) h e = reads_end e
  reads_kind (suc (suc (suc (suc k)))) h e = absurd (omega arith)

reads : (bs : List ℕ) → AreBits bs → Reads bs (mark_of bs)
unfolding mark_of
reads bs h = by_test (leb 2 (length bs))
    (λ y. let n : 2 ≤ length bs = leb-true 2 (length bs) y in
    rw y (reads_kind bs (drop 2 bs) (all_drop IsBit 2 bs h) (value (take 2 bs)) (taken_lt 2 bs h n) (sym (taken_split 2 bs h n))))
    (λ y. rw y (a_refusal StopsEarly))

-- the calls in front, and what is left behind them
record Left (n : ℕ) (bs : List ℕ) : Type 0 where
  rest : List ℕ
  whole : bs ≡ flat call_bits (tape_from n bs).calls ++ rest
  are_bits : AreBits rest
  can : list_all recordable (tape_from n bs).calls ≡ true
  stop : mark_of rest ≡ mark_by (tape_from n bs).stop

tail_bits : (xs ys : List ℕ) → AreBits (xs ++ ys) → AreBits ys
tail_bits [] ys h = h
tail_bits (x ∷ xs) ys h = tail_bits xs ys h.1

left : (n : ℕ) (bs : List ℕ) → AreBits bs → length bs < n → Left n bs
unfolding tape_from flat
left zero bs h f = absurd (omega arith)
left (suc n) bs h f = go (mark_of bs) refl (reads bs h) (λ c rest e. left n rest (tail_bits (call_bits c) rest (subst AreBits e h)) (omega (arith, ap length e, length-append (call_bits c) rest, call_some c)))
  where
    go : (m : Result (Option Call) Refusal) → mark_of bs ≡ m → Reads bs m → ((c : Call) (rest : List ℕ) → bs ≡ call_bits c ++ rest → Left n rest) → Left (suc n) bs
    go m e (a_call c rest ok q) more = call_first c rest e ok q (more c rest q)
      where
        call_first : (c : Call) (rest : List ℕ) → mark_of bs ≡ Ok (Some c) → recordable c ≡ true → bs ≡ call_bits c ++ rest → Left n rest → Left (suc n) bs
        call_first c rest e ok q l =
            let d : drop (length (call_bits c)) bs ≡ rest = ap (drop (length (call_bits c))) q ∙ drop_at (call_bits c) rest (length (call_bits c)) refl in
            record {
              rest = l.rest;
              whole = q ∙ ap (λ (r : List ℕ). call_bits c ++ r) l.whole ∙ sym (append_assoc (call_bits c) (flat call_bits (tape_from n rest).calls) l.rest) ∙ rw (e, d);
              are_bits = l.are_bits;
              can = rw (e, d) (rw (ok, l.can));
              stop = l.stop ∙ rw (e, d);
            }
    go m e (the_end k small q) more = record { rest = bs; whole = rw e; are_bits = h; can = rw e; stop = e ∙ rw e }
    go m e (a_refusal why) more = record { rest = bs; whole = rw e; are_bits = h; can = rw e; stop = e ∙ rw e }

pub all_steps_stand : AllStepsStand
unfolding AllStepsStand tape_of
all_steps_stand s = let l = left (suc (length (bits s))) (bits s) (bits_bits s) (omega arith) in record { rest = l.rest; whole = l.whole; can = l.can; stop = l.stop }

-- a recording that ends
ends_as : (bs : List ℕ) (m : Result (Option Call) Refusal) → m ≡ (Ok None) → Reads bs m → (k : ℕ) × (k < 8) × (bs ≡ to_bits 2 3 ++ zeros k)
ends_as bs m e (a_call c rest ok q) = absurd (let z : ◌≡◌ {A = ℕ} 0 1 = cc in omega arith)
ends_as bs m e (the_end k small q) = (k, small, q)
ends_as bs m e (a_refusal why) = absurd (let z : ◌≡◌ {A = ℕ} 0 1 = cc in omega arith)

pub recording_back : RecordingBack
unfolding RecordingBack recording_of tape_of
recording_back s are-bytes e =
    let l = left (suc (length (bits s))) (bits s) (bits_bits s) (omega arith) in
    let q = ends_as l.rest (mark_of l.rest) (l.stop ∙ ap mark_by e) (reads l.rest l.are_bits) in
    pack_unique (flat call_bits (tape_of s).calls ++ to_bits 2 3) s q.0 (all_append IsBit (flat call_bits (tape_of s).calls) (to_bits 2 3) (calls_bits (tape_of s).calls) (to_bits_bits 2 3)) are-bytes q.1
    (l.whole ∙ ap (λ (r : List ℕ). flat call_bits (tape_of s).calls ++ r) q.2 ∙ sym (append_assoc (flat call_bits (tape_of s).calls) (to_bits 2 3) (zeros q.0)))
