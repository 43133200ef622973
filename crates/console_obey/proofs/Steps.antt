-- The steps that a line may have are those of a trace: their recording is not refused with 9.
-- Assumes nothing.
use Prim.Native.Nat.{ℕ}
use Prim.Native.Char.{code}
use native.Mathlib.Omega.{arith}
use mathlib.Core.Path.{◌≡◌, refl, ◌∙◌}
use mathlib.Core.Bool.{Bool, true, false, cond, ◌&&◌, ◌||◌}
use mathlib.Core.List.{List, [], ◌∷◌}
use lib.Dec.{eqb}
use Rattle.laws.proofs.Sums.{and_parts}
use Rattle.rules.specs.declared.Call.TheVariants.{Units}
use Rattle.rules.specs.Recordings.{record_of}
use Rattle.ascii.specs.Hex.{is_hex}
use Rattle.trace_bytes.specs.Scripts.{Script, over, stops, step_then, byte_then, digit_then, script_of}
use Rattle.record_trace.specs.Traces.{trace_record_of}
use Rattle.console_parse.specs.Bytes.{is_unit, is_steps}

-- a step of one byte
unit_then : (b : ℕ) (s : Script) → is_unit b ≡ true → (byte_then b s).bad ≡ s.bad
unit_then b s = go (eqb b (code "u")) (eqb b (code "d"))
  where
    go : (u d : Bool) → (u || d) ≡ true
        → (cond u (step_then (Units false) s) (cond d (step_then (Units true) s) (cond (eqb b (code " ") || eqb b (code "\n")) s stops))).bad ≡ s.bad
    go true d e = refl
    go false true e = refl
    go false false e = let z : ◌≡◌ {A = ℕ} 0 1 = cc in absurd (omega arith)

pub steps_good : (l : List ℕ) → is_steps l ≡ true → (script_of l).bad ≡ false
unfolding is_steps script_of
steps_good [] e = refl
steps_good (b ∷ []) e = unit_then b over e
steps_good (b ∷ d ∷ l) e = go (eqb b (code "p")) (steps_good l) (steps_good (d ∷ l)) e
  where
    go : (t : Bool) → (is_steps l ≡ true → (script_of l).bad ≡ false) → (is_steps (d ∷ l) ≡ true → (script_of (d ∷ l)).bad ≡ false)
        → cond t (is_hex d && is_steps l) (is_unit b && is_steps (d ∷ l)) ≡ true
        → (cond t (digit_then d (script_of l)) (byte_then b (script_of (d ∷ l)))).bad ≡ false
    go true f g h = let parts = and_parts (is_hex d) (is_steps l) h in rw parts.0 (f parts.1)
    go false f g h =
        let parts = and_parts (is_unit b) (is_steps (d ∷ l)) h in
        unit_then b (script_of (d ∷ l)) parts.0 ∙ g parts.1

-- "Prints `recorded N` with its bytes, or `refused 11`"
pub steps_recorded : (l : List ℕ) (room : ℕ) → is_steps l ≡ true → trace_record_of l room ≡ record_of (script_of l).calls room
unfolding trace_record_of
steps_recorded l room e = rw (steps_good l e)
