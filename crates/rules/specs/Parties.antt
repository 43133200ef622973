-- Document 02, request 8: "Lifting-gear maker on our computer": whose a stream is, and how much of the message table each party has and uses.
-- Assumes nothing.
use Rattle.std.specs.Prelude.{ℕ, ◌+◌, ◌-◌, Bool, true, false, List, ◌++◌, get_or, take, replicate}
use Rattle.laws.specs.Lists.{count}
use Rattle.rules.specs.declared.Message.{Message}
use Rattle.rules.specs.declared.Party.{Party}
use Rattle.rules.specs.declared.Party.TheVariants.{Ours, Theirs}
use Rattle.rules.specs.declared.Places.{Places}

-- "Each party, ours and theirs"
unfoldable pub same : Party → Party → Bool
same Ours Ours = true
same Ours Theirs = false
same Theirs Ours = false
same Theirs Theirs = true

abbrev pub ours : Party
ours = Ours

-- "Each stream has one owner": the party of a stream, by its number; a number that no stream has counts as ours
abbrev pub party_at : List Party → ℕ → Party
party_at owners k = (get_or owners k ours)

-- "owns some streams"
abbrev pub owns : List Party → Party → ℕ → Bool
owns owners p k = same (party_at owners k) p

-- "a post counts against it": a message is its stream's owner's
abbrev pub belongs : List Party → Party → Message → Bool
belongs owners p m = owns owners p m.stream

-- how many of the messages are a party's
abbrev pub held_of : List Party → Party → List Message → ℕ
held_of owners p ms = count (belongs owners p) ms

-- "and a number of places"
abbrev pub places_of : Places → Party → ℕ
places_of x Ours = x.ours
places_of x Theirs = x.theirs

-- "the two numbers together"
abbrev pub together : Places → ℕ
together x = x.ours + x.theirs

-- the owner of a place that no stream of the set uses
unfoldable pub owner_unused : Party → Bool
owner_unused o = same o Ours

-- the owners of the streams of a set that has n: those that it does not have are ours
abbrev pub owners_for : ℕ → List Party → List Party
owners_for n owners = take n owners ++ replicate (16 - n) ours

-- all streams ours, with all places
abbrev pub all_ours : List Party
all_ours = replicate 16 ours

abbrev pub all_places : Places
all_places = record { ours = 64; theirs = 0 }
