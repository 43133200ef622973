-- The definitions are not empty: for each number of document 01's table some input is given it. Number 8 is W10 of the yard table;
-- number 9 is the trace program's, and stands with its byte reader.
-- Assumes nothing.
use Prim.Native.Nat.{ℕ}
use mathlib.Core.Bool.{true, false}
use mathlib.Core.List.{List, [], ◌∷◌}
use mathlib.Core.Path.{◌≡◌, refl}
use lib.ListN.{replicate}
use Rattle.rules.specs.declared.Tuple.TheVariants.{Once}
use Rattle.rules.specs.declared.Set.{Set}
use Rattle.rules.specs.declared.State.{State}
use Rattle.rules.specs.Streams.{empty_set, limit_of, jitter_of}
use Rattle.rules.specs.Parties.{all_ours, all_places}
use Rattle.rules.specs.States.{no_message}
use Rattle.rules.specs.Steps.{fresh, new_message, start_of, post_of, choose_of, unit_of}
use Rattle.rules.specs.Load.{demand_of}
use Rattle.rules.specs.Sheet.{read_of, write_of, set_of}
use Rattle.rules.specs.Numbers.{Says, refused, refused_with_0, start_says, post_says, choose_says, unit_says, count_says, jitter_says, read_says, write_says}
use Rattle.rules.proofs.Examples.{set_b, stream, computed}

-- set B at the last clock; one unit after it, which is no state that calls leave
abbrev at : ℕ → State
at clock = record { set = set_b; clock = clock; count = 0; messages = replicate 64 no_message; waits = replicate 16 0; owners = all_ours; places = all_places }

-- 64 messages of stream 0, posted at 0, and nobody waits
abbrev full : State
full = record { set = set_b; clock = 0; count = 64; messages = replicate 64 (new_message (fresh set_b) 0); waits = replicate 16 0; owners = all_ours; places = all_places }

-- a cost of 0
abbrev bad_set : Set
bad_set = set_of 1 (stream 0 0 5 (Once 0) ∷ [])

abbrev steps : List Says
steps =
    post_says (post_of (fresh set_b) 3).answer
    ∷ post_says (post_of full 0).answer
    ∷ unit_says (unit_of (at 4000000000) false).answer
    ∷ unit_says (unit_of (fresh set_b) true).answer
    ∷ start_says (start_of bad_set).answer
    ∷ post_says (post_of (at 4000000001) 0).answer
    ∷ choose_says (choose_of (at 4000000001))
    ∷ unit_says (unit_of (at 4000000001) false).answer
    ∷ []

pub refused_steps : steps ≡ (refused 1 ∷ refused 2 ∷ refused 3 ∷ refused 4 ∷ refused 7 ∷ refused 12 ∷ refused 12 ∷ refused 12 ∷ [])
unfolding computed
refused_steps = refl

abbrev sheets : List Says
sheets =
    read_says (read_of []).answer
    ∷ read_says (read_of (0x10 ∷ [])).answer
    ∷ read_says (read_of (0x30 ∷ [])).answer
    ∷ read_says (read_of (0x30 ∷ 0x00 ∷ [])).answer
    ∷ read_says (read_of (0x18 ∷ 0x80 ∷ [])).answer
    ∷ read_says (read_of (0x10 ∷ 0x01 ∷ [])).answer
    ∷ read_says (read_of (0x10 ∷ 0x00 ∷ 0x00 ∷ [])).answer
    ∷ write_says (write_of bad_set 502)
    ∷ write_says (write_of empty_set 1)
    ∷ []

pub refused_sheets : sheets ≡ (refused 5 ∷ refused 5 ∷ refused 6 ∷ refused 6 ∷ refused 7 ∷ refused 10 ∷ refused 10 ∷ refused 7 ∷ refused 11 ∷ [])
unfolding computed
refused_sheets = refl

abbrev counts : List Says
counts =
    count_says (limit_of bad_set 0 5)
    ∷ count_says (limit_of set_b 3 5)
    ∷ count_says (demand_of bad_set 5)
    ∷ jitter_says (jitter_of 0 0)
    ∷ jitter_says (jitter_of 1000001 1000001)
    ∷ jitter_says (jitter_of 10 6)
    ∷ jitter_says (jitter_of 100001 0)
    ∷ []

pub refused_counts : counts ≡ (refused_with_0 7 ∷ refused_with_0 7 ∷ refused_with_0 7 ∷ refused 7 ∷ refused 7 ∷ refused 7 ∷ refused 7 ∷ [])
unfolding computed
refused_counts = refl
