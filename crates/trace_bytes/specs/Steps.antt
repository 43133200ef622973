-- Document 01, "The trace program": what a byte of a trace asks for.
-- Assumes nothing.
use Rattle.std.specs.Prelude.{ℕ, Bool, true, false, cond, ◌||◌, eqb, Result, Ok, Err}
use Prim.Native.Char.{code}
use Rattle.rules.specs.declared.Call.TheVariants.{Posts, Units}
use Rattle.rules.specs.declared.Refusal.{Refusal}
use Rattle.rules.specs.declared.Refusal.TheVariants.{BadByte}
use Rattle.trace_bytes.specs.declared.Heard.{Heard}
use Rattle.trace_bytes.specs.declared.Heard.TheVariants.{Skip, More, Makes}
use Rattle.ascii.specs.Hex.{is_hex, hex_of}

-- "p and one lower-case hex digit posts, u is a unit, d a unit with done. Spaces and newlines between steps are skipped.
-- Any other byte [is refused]"
unfoldable pub between_steps : ℕ → Result Heard Refusal
between_steps b =
    cond (eqb b (code "p")) (Ok More)
    (cond (eqb b (code "u")) (Ok (Makes (Units false)))
    (cond (eqb b (code "d")) (Ok (Makes (Units true)))
    (cond (eqb b (code " ") || eqb b (code "\n")) (Ok Skip) (Err BadByte))))

-- "or p without its digit"
unfoldable pub after_p : ℕ → Result Heard Refusal
after_p b = cond (is_hex b) (Ok (Makes (Posts (hex_of b)))) (Err BadByte)

-- a byte, where a p waits for its digit and where none does
abbrev pub heard_of : Bool → ℕ → Result Heard Refusal
heard_of waiting b = cond waiting (after_p b) (between_steps b)

-- the end of the trace
abbrev pub end_of : Bool → Result Heard Refusal
end_of waiting = cond waiting (Err BadByte) (Ok Skip)
