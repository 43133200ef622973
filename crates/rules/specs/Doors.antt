-- Document 02, request 6: "Stop early posts at the door": which streams have a door, when it is shut, and how its wait changes.
-- What is left to wait is kept, not a reading of the clock. That a shut door is one behind which a post would break the stream's limit is `DoorExact` of Runs.
-- Assumes nothing.
use Rattle.std.specs.Prelude.{ℕ, ◌+◌, ◌-◌, Bool, true, false, cond, List, [], ◌∷◌, get_or, ltb, leb, eqb}
use Rattle.rules.specs.declared.Tuple.{Tuple}
use Rattle.rules.specs.declared.Tuple.TheVariants.{Once, Every}
use Rattle.rules.specs.declared.Stream.{Stream}
use Rattle.rules.specs.declared.Door.{Door}
use Rattle.rules.specs.declared.Door.TheVariants.{Unguarded, Single, Spaced}
use Rattle.rules.specs.Streams.{no_tuple}

-- the tuple of a number
abbrev pub tuple_at : Stream → ℕ → Tuple
tuple_at s j = (get_or s.tuples j no_tuple).tuple

-- "a stream with one tuple": once at 0, or a cycle from 0, which is once at 0 and every z from z
abbrev pub door_of_one : Tuple → Door
door_of_one (Once a) = Single
door_of_one (Every z a) = Spaced z z

-- "or with once at 0 followed by one cycle"; the first offset of a stream is 0
abbrev pub door_of_two : Tuple → Tuple → Door
door_of_two (Once a) (Every z b) = Spaced z b
door_of_two (Once a) (Once b) = Unguarded
door_of_two (Every z a) u = Unguarded

-- "For other streams nothing changes": they have none, and a place that is not in use has none
unfoldable pub door_of : Stream → Door
door_of s =
    cond (eqb s.count 1)
    (door_of_one (tuple_at s 0))
    (cond (eqb s.count 2)
    (door_of_two (tuple_at s 0) (tuple_at s 1))
    Unguarded)

unfoldable pub guarded : Door → Bool
guarded Unguarded = false
guarded Single = true
guarded (Spaced z a) = true

-- has a stream a door?
abbrev pub has_door : Stream → Bool
has_door s = guarded (door_of s)

-- the wait up to which a door is open: z - a, 0 where a is above z
abbrev pub slack : ℕ → ℕ → ℕ
slack z a = z - a

abbrev pub larger : ℕ → ℕ → ℕ
larger a z = cond (leb a z) z a

-- 15 is given exactly if the door is shut. Once at 0: when a post was accepted. Once at 0 and every z from a: when the wait is above z - a
unfoldable pub shut : Door → ℕ → Bool
shut Unguarded wait = false
shut Single wait = ltb 0 wait
shut (Spaced z a) wait = ltb (slack z a) wait

-- the wait after an accepted post: 1 for ever, or the larger of a and z more
unfoldable pub wait_after : Door → ℕ → ℕ
wait_after Unguarded wait = wait
wait_after Single wait = 1
wait_after (Spaced z a) wait = wait + larger a z

-- the wait after a unit that moved the clock: 1 less, if it is not 0
unfoldable pub wait_later : Door → ℕ → ℕ
wait_later Unguarded wait = wait
wait_later Single wait = wait
wait_later (Spaced z a) wait = wait - 1

-- the waits of all streams after such a unit
unfoldable pub waits_later : List Stream → List ℕ → List ℕ
waits_later [] ws = ws
waits_later (s ∷ ss) [] = []
waits_later (s ∷ ss) (w ∷ ws) = wait_later (door_of s) w ∷ waits_later ss ws

-- the rules of a wait: at most 1, at most what a post at the last open moment leaves, 0 without a door
unfoldable pub most_wait : Door → ℕ
most_wait Unguarded = 0
most_wait Single = 1
most_wait (Spaced z a) = slack z a + larger a z
