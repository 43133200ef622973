-- Number 9 is given: a byte that is no step, and p without its digit, print `refused 9` with no clock, and the trace stops.
-- Assumes nothing.
use mathlib.Core.Bool.{true, false}
use mathlib.Core.List.{[], ◌∷◌}
use mathlib.Core.Path.{◌≡◌, refl}
use Rattle.rules.specs.declared.State.{State}
use Rattle.ascii.specs.Decimal.{letters, digits_of}
use Rattle.answer_words.specs.Words.{says}
use Rattle.trace_bytes.specs.Steps.{between_steps, after_p}
use Rattle.trace_steps.specs.Turns.{going, tracing_after, text_after, text_end}

-- `x`, `p` and then a space, `p` at the end
pub refused_9 : (s : State)
    → (text_after (going s false) 120 ∷ text_after (going s true) 32 ∷ text_end (going s true) ∷ []) ≡ (letters "refused 9\n" ∷ letters "refused 9\n" ∷ letters "refused 9\n" ∷ [])
unfolding text_after text_end between_steps after_p says digits_of
refused_9 s = refl

pub stops_at_9 : (s : State) → tracing_after (going s false) 120 ≡ record { state = s; waiting = false; live = false }
unfolding tracing_after between_steps
stops_at_9 s = refl
