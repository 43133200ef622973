-- Request 8, computed: set B with its middle stream theirs and one place for each party; starts at their edges; states that break a party's rule.
-- Assumes nothing.
use Prim.Native.Nat.{ℕ}
use mathlib.Core.Bool.{true, false}
use mathlib.Core.List.{List, [], ◌∷◌}
use mathlib.Core.Path.{◌≡◌, refl}
use lib.IntN.{pos}
use lib.ListN.{replicate}
use Rattle.rules.specs.declared.Call.{Call}
use Rattle.rules.specs.declared.Call.TheVariants.{Posts, Units}
use Rattle.rules.specs.declared.Party.{Party}
use Rattle.rules.specs.declared.Party.TheVariants.{Theirs}
use Rattle.rules.specs.declared.Places.{Places}
use Rattle.rules.specs.declared.Set.{Set}
use Rattle.rules.specs.declared.State.{State}
use Rattle.rules.specs.Streams.{empty_set}
use Rattle.rules.specs.Parties.{ours}
use Rattle.rules.specs.States.{with_messages, well_formed}
use Rattle.rules.specs.Steps.{fresh, fresh_for, start_for, new_message}
use Rattle.rules.specs.Numbers.{Says, refused, started, posted, done, start_says}
use Rattle.rules.specs.Runs.{Start, answers_for, steps_for}
use Rattle.rules.specs.Sheet.{set_of}
use Rattle.rules.proofs.Examples.{set_b, stream, computed}
use Rattle.rules.specs.declared.Tuple.TheVariants.{Once}

abbrev theirs : Party
theirs = Theirs

abbrev places : ℕ → ℕ → Places
places a b = record { ours = a; theirs = b }

-- the middle stream is theirs, and a place that set B does not use
abbrev given : List Party
given = ours ∷ theirs ∷ ours ∷ theirs ∷ replicate 12 ours

-- what the set does not have is taken as ours
abbrev pub owners_b : List Party
owners_b = ours ∷ theirs ∷ ours ∷ replicate 13 ours

abbrev start_b : Start
start_b = record { set = set_b; owners = given; places = places 1 1 }

-- `p0p2p1dp2p1p0`: ours are full with one, theirs have a place still; 15 comes before 2; a message of ours that leaves frees a place of ours
abbrev calls_b : List Call
calls_b = Posts 0 ∷ Posts 2 ∷ Posts 1 ∷ Units true ∷ Posts 2 ∷ Posts 1 ∷ Posts 3 ∷ []

pub shared_answers : answers_for start_b calls_b ≡ posted 0 5 ∷ refused 2 ∷ posted 1 20 ∷ done 0 0 (pos 4) ∷ posted 2 9 ∷ refused 15 ∷ refused 1 ∷ []
unfolding computed answers_for steps_for
shared_answers = refl

-- ---- starts

abbrev bad_set : Set
bad_set = set_of 1 (stream 0 0 5 (Once 0) ∷ [])

abbrev starts_as : Set → Places → Says
starts_as x p = start_says (start_for x given p).answer

-- 64 places together, none, one more, and more than 32 bits hold together; 7 before 16
pub starts_true : (starts_as set_b (places 40 24) ∷ starts_as set_b (places 0 0) ∷ starts_as set_b (places 40 25) ∷ starts_as set_b (places 4294967295 1) ∷ starts_as bad_set (places 40 25) ∷ [])
    ≡ started ∷ started ∷ refused 16 ∷ refused 16 ∷ refused 7 ∷ []
unfolding computed
starts_true = refl

pub start_owners : (start_for set_b given (places 40 24)).state ≡ fresh_for set_b owners_b (places 40 24)
unfolding computed
start_owners = refl

-- a refused start is that of the empty set, all ours with 64 places
pub refused_start : (start_for set_b given (places 40 25)).state ≡ fresh empty_set
unfolding computed
refused_start = refl

-- ---- 12

-- one message of theirs
abbrev one_of_theirs : Places → State
one_of_theirs p = let s = fresh_for set_b owners_b p in with_messages s 1 (new_message s 1 ∷ replicate 63 (record { stream = 0; deadline = 0; used = 0; stage = 0 }))

-- kept; they have none; the places together above 64; a stream that the set does not have theirs
pub parties_formed : (well_formed (one_of_theirs (places 0 1)) ∷ well_formed (one_of_theirs (places 64 0)) ∷ well_formed (fresh_for set_b owners_b (places 40 25)) ∷ well_formed (fresh_for set_b given (places 1 1)) ∷ [])
    ≡ true ∷ false ∷ false ∷ false ∷ []
unfolding computed
parties_formed = refl
