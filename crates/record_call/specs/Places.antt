-- A call as one field; and a field in a buffer.
-- Assumes nothing.
use Rattle.std.specs.Prelude.{ℕ, cond, List, length, Result, Ok, Err}
use Rattle.rules.specs.declared.Call.{Call}
use Rattle.rules.specs.declared.Call.TheVariants.{Posts, Units}
use Rattle.rules.specs.declared.Refusal.{Refusal}
use Rattle.rules.specs.declared.Refusal.TheVariants.{ShortBuffer}
use Rattle.rules.specs.declared.Place.{Place}
use Rattle.rules.specs.Recordings.{place_after, fits, written}

-- the number whose lowest bits a call is recorded as: a post is kind 0 and its stream, so its stream alone
abbrev pub code_of : Call → ℕ
code_of (Posts k) = k
code_of (Units done) = cond done 2 1

-- bits put at a place: the place behind them, or 11
unfoldable pub put_answer : List ℕ → Place → List ℕ → Result Place Refusal
put_answer buffer p bs = cond (fits buffer p bs) (Ok (place_after p (length bs))) (Err ShortBuffer)

unfoldable pub put_buffer : List ℕ → Place → List ℕ → List ℕ
put_buffer buffer p bs = cond (fits buffer p bs) (written buffer p bs) buffer
