-- Document 01, "The trace program": the steps of a whole trace; and the same heard byte by byte.
-- Assumes nothing.
use Rattle.std.specs.Prelude.{ℕ, Bool, true, false, cond, ◌||◌, List, [], ◌∷◌, eqb, Result, Ok, Err}
use Prim.Native.Char.{code}
use Rattle.rules.specs.declared.Call.{Call}
use Rattle.rules.specs.declared.Call.TheVariants.{Posts, Units}
use Rattle.ascii.specs.Hex.{is_hex, hex_of}
use Rattle.rules.specs.declared.Refusal.{Refusal}
use Rattle.trace_bytes.specs.declared.Heard.{Heard}
use Rattle.trace_bytes.specs.declared.Heard.TheVariants.{Skip, More, Makes}
use Rattle.trace_bytes.specs.Steps.{heard_of, end_of}

-- what a trace asks for: its steps, and whether a byte that is none came behind them
pub record Script : Type 0 where
  pub calls : List Call
  pub bad : Bool

-- the end of the input
abbrev pub over : Script
over = record { calls = []; bad = false }

-- "Any other byte, or p without its digit, .. stops."
abbrev pub stops : Script
stops = record { calls = []; bad = true }

-- a step, and the script behind it
abbrev pub step_then : Call → Script → Script
step_then c s = record { calls = c ∷ s.calls; bad = s.bad }

-- "u is a unit, d a unit with done. Spaces and newlines between steps are skipped. Any other byte .."
abbrev pub byte_then : ℕ → Script → Script
byte_then b s =
    cond (eqb b (code "u")) (step_then (Units false) s)
    (cond (eqb b (code "d")) (step_then (Units true) s)
    (cond (eqb b (code " ") || eqb b (code "\n")) s stops))

-- "p and one lower-case hex digit posts"
abbrev pub digit_then : ℕ → Script → Script
digit_then d s = cond (is_hex d) (step_then (Posts (hex_of d)) s) stops

-- the script of a trace: a p goes with the byte behind it, any other byte by itself, and so does a p that has none behind it
unfoldable pub script_of : List ℕ → Script
script_of [] = over
script_of (b ∷ []) = byte_then b over
script_of (b ∷ d ∷ l) = cond (eqb b (code "p")) (digit_then d (script_of l)) (byte_then b (script_of (d ∷ l)))

-- ---- byte by byte

-- what is heard, and the script behind it: where no p waits for its digit, and where one does
abbrev pub heard_then : Result Heard Refusal → Script → Script → Script
heard_then (Ok Skip) s w = s
heard_then (Ok More) s w = w
heard_then (Ok (Makes c)) s w = step_then c s
heard_then (Err why) s w = stops

unfoldable pub hearing : Bool → List ℕ → Script
hearing waiting [] = heard_then (end_of waiting) over over
hearing waiting (b ∷ l) = heard_then (heard_of waiting b) (hearing false l) (hearing true l)
