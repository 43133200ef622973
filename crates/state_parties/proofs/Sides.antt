-- Of any messages each is one party's: those that are not theirs are ours. Assumes nothing.
use Rattle.std.proofs.Common.{◌≡◌, Bool, ℕ, ◌+◌, ◌-◌, List, [], ◌∷◌, length, cond, arith, refl}
use Rattle.std.specs.List.{count_by}
use Rattle.std.proofs.lemmas.List.Sums.{sum_by-cons}
use Rattle.laws.specs.Lists.{sum, count}
use Rattle.rules.specs.declared.Message.{Message}
use Rattle.rules.specs.declared.Party.{Party}
use Rattle.rules.specs.declared.Party.TheVariants.{Ours, Theirs}
use Rattle.rules.specs.Parties.{same, belongs, held_of, party_at}
use Rattle.state_parties.specs.declared.Held.{Held}
use Rattle.state_parties.specs.Shares.{held_in}

counted_by : {A : Type 0} (p : A → Bool) (l : List A) → count p l ≡ count_by p l
unfolding count sum
counted_by p [] = refl
counted_by p (x ∷ l) = omega (arith, counted_by p l, sum_by-cons (λ y. cond (p y) 1 0) x l)

one_side : (p : Party) → cond (same p Ours) 1 0 + cond (same p Theirs) 1 0 ≡ 1
unfolding same
one_side Ours = refl
one_side Theirs = refl

both_sides : (owners : List Party) (ms : List Message) → held_of owners Ours ms + held_of owners Theirs ms ≡ length ms
unfolding count sum
both_sides owners [] = refl
both_sides owners (m ∷ ms) = omega (arith, both_sides owners ms, one_side (party_at owners m.stream))

pub held_by_theirs : (owners : List Party) (ms : List Message) (n : ℕ) → n ≡ count_by (belongs owners Theirs) ms
    → ◌≡◌ {A = Held} (record { ours = length ms - n; theirs = n }) (held_in owners ms)
held_by_theirs owners ms n e =
    let t : n ≡ held_of owners Theirs ms = omega (arith, e, counted_by (belongs owners Theirs) ms) in
    let o : length ms - n ≡ held_of owners Ours ms = omega (arith, t, both_sides owners ms) in
    rw (o, t)
