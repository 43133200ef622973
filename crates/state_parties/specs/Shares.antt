-- What the parties have of the message table, and their rules.
-- Assumes nothing.
use Rattle.std.specs.Prelude.{ℕ, Bool, ◌&&◌, cond, List, leb, ltb, drop, Result, Ok, Err}
use Rattle.std.specs.List.{list_all}
use Rattle.rules.specs.declared.Message.{Message}
use Rattle.rules.specs.declared.Party.{Party}
use Rattle.rules.specs.declared.Party.TheVariants.{Ours, Theirs}
use Rattle.rules.specs.declared.Places.{Places}
use Rattle.rules.specs.Parties.{held_of, places_of, together, owner_unused}
use Rattle.state_parties.specs.declared.Held.{Held}

-- how many of the messages each party has
abbrev pub held_in : List Party → List Message → Held
held_in owners ms = record { ours = held_of owners Ours ms; theirs = held_of owners Theirs ms }

abbrev pub held_for : Held → Party → ℕ
held_for h Ours = h.ours
held_for h Theirs = h.theirs

-- the parties' four rules, of messages and a set of so many streams
abbrev pub fits_of : List Message → List Party → ℕ → Places → Bool
fits_of ms owners streams places =
    leb (together places) 64
    && (list_all owner_unused (drop streams owners)
    && (leb (held_of owners Ours ms) (places_of places Ours)
    && leb (held_of owners Theirs ms) (places_of places Theirs)))

-- how many each party has, and whether the rules are kept
abbrev pub shared_of : List Message → List Party → ℕ → Places → Result Held Held
shared_of ms owners streams places = cond (fits_of ms owners streams places) (Ok (held_in owners ms)) (Err (held_in owners ms))

-- is a place left for a party?
unfoldable pub place_left : Party → Held → Places → Bool
place_left p h places = ltb (held_for h p) (places_of places p)
