-- The script of a trace is what its bytes are heard as, one after the other.
-- Assumes nothing.
use Prim.Native.Nat.{ℕ}
use Prim.Native.Char.{code}
use mathlib.Core.Path.{◌≡◌, refl, sym, ap, ap₂, ◌∙◌}
use mathlib.Core.Bool.{Bool, true, false, cond, ◌||◌}
use mathlib.Core.List.{List, [], ◌∷◌}
use lib.Dec.{eqb}
use borrow.Author.Tests.{eqb-true}
use Rattle.rules.specs.declared.Call.TheVariants.{Posts, Units}
use Rattle.std.specs.Prelude.{Result, Ok, Err}
use Rattle.rules.specs.declared.Refusal.{Refusal}
use Rattle.rules.specs.declared.Refusal.TheVariants.{BadByte}
use Rattle.ascii.specs.Hex.{is_hex, hex_of}
use Rattle.trace_bytes.specs.declared.Heard.{Heard}
use Rattle.trace_bytes.specs.declared.Heard.TheVariants.{Skip, More, Makes}
use Rattle.trace_bytes.specs.Steps.{between_steps, after_p, heard_of}
use Rattle.trace_bytes.specs.Scripts.{Script, over, stops, step_then, byte_then, digit_then, script_of, heard_then, hearing}

-- a byte between steps: with a p comes what the digit's byte says
between : (b : ℕ) (s w : Script) → heard_then (between_steps b) s w ≡ cond (eqb b (code "p")) w (byte_then b s)
unfolding between_steps
between b s w = go (eqb b (code "p")) (eqb b (code "u")) (eqb b (code "d")) (eqb b (code " ") || eqb b (code "\n"))
  where
    go : (p u d k : Bool)
        → heard_then (cond p (Ok More) (cond u (Ok (Makes (Units false))) (cond d (Ok (Makes (Units true))) (cond k (Ok Skip) (Err BadByte))))) s w
        ≡ cond p w (cond u (step_then (Units false) s) (cond d (step_then (Units true) s) (cond k s stops)))
    go true u d k = refl
    go false true d k = refl
    go false false true k = refl
    go false false false true = refl
    go false false false false = refl

-- the byte behind a p
behind_p : (d : ℕ) (s w : Script) → heard_then (after_p d) s w ≡ digit_then d s
unfolding after_p
behind_p d s w = go (is_hex d)
  where
    go : (h : Bool) → heard_then (cond h (Ok (Makes (Posts (hex_of d)))) (Err BadByte)) s w ≡ cond h (step_then (Posts (hex_of d)) s) stops
    go true = refl
    go false = refl

-- a p that has no byte behind it is no step
last_byte : (b : ℕ) → cond (eqb b (code "p")) stops (byte_then b over) ≡ byte_then b over
last_byte b = go (eqb b (code "p")) refl
  where
    go : (t : Bool) → eqb b (code "p") ≡ t → cond t stops (byte_then b over) ≡ byte_then b over
    go true e = sym (ap (λ (n : ℕ). byte_then n over) (eqb-true b (code "p") e))
    go false e = refl

-- what is no step is refused with 9
abbrev pub Nine : Result Heard Refusal → Type 0
Nine (Ok h) = true ≡ true
Nine (Err why) = why ≡ BadByte

pub heard_nine : (waiting : Bool) (b : ℕ) → Nine (heard_of waiting b)
unfolding after_p between_steps
heard_nine true b = go (is_hex b)
  where
    go : (h : Bool) → Nine (cond h (Ok (Makes (Posts (hex_of b)))) (Err BadByte))
    go true = refl
    go false = refl
heard_nine false b = go (eqb b (code "p")) (eqb b (code "u")) (eqb b (code "d")) (eqb b (code " ") || eqb b (code "\n"))
  where
    go : (p u d k : Bool) → Nine (cond p (Ok More) (cond u (Ok (Makes (Units false))) (cond d (Ok (Makes (Units true))) (cond k (Ok Skip) (Err BadByte)))))
    go true u d k = refl
    go false true d k = refl
    go false false true k = refl
    go false false false true = refl
    go false false false false = refl

pub script_heard : (l : List ℕ) → script_of l ≡ hearing false l
unfolding script_of hearing
script_heard [] = refl
script_heard (b ∷ []) = sym (between b over stops ∙ last_byte b)
script_heard (b ∷ d ∷ l) =
    sym (
    between b (hearing false (d ∷ l)) (hearing true (d ∷ l))
    ∙ ap₂ (λ (x y : Script). cond (eqb b (code "p")) x (byte_then b y))
    (behind_p d (hearing false l) (hearing true l) ∙ ap (digit_then d) (sym (script_heard l)))
    (sym (script_heard (d ∷ l)))
    )
