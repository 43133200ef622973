-- The moments of a run of document 01 in the deadline argument, and what the run keeps beside them. Assumes nothing.
use mathlib.Core.Bool.{true}
use mathlib.Core.List.{List, [], ◌++◌, append-nil}
use mathlib.Core.Path.{◌≡◌}
use native.Mathlib.Omega.{arith}
use lib.ListN.{length}
use Rattle.rules.specs.declared.Set.{Set}
use Rattle.rules.specs.Streams.{Placed, valid}
use Rattle.rules.specs.States.{pending}
use Rattle.rules.specs.Runs.{Accepted, Run, accepted, departures}
use Rattle.state_formed.proofs.WellFormed.{well_formed_lem}
use Rattle.promise_deadlines.specs.Machine.{Moment, Reached}
use Rattle.promise_steps.specs.Formed.{Formed}
use Rattle.promise_steps.proofs.Cases.{pending_length}
use Rattle.promise_demand3.specs.Kind.{pending_of}
use Rattle.promise_demand3.proofs.Base.{base}

module _ (S : Set) (placed : Placed S) (ok : valid S ≡ true) where
  -- the state is one of S and well formed, each pending message has a number, and the time is the clock
  pub record Good (r : Run) : Type 0 where
    pub set_is : r.state.set ≡ S
    pub formed : Formed r.state
    pub numbered : length r.names ≡ r.state.count
    pub timed : r.time ≡ r.state.clock

  pub few : (r : Run) → Good r → length (pending r.state) ≡ r.state.count
  few r g = pending_length r.state g.formed.housed.places (well_formed_lem r.state g.formed.formed).few

  pub all_numbered : (r : Run) → Good r → length r.names ≡ length (pending r.state)
  all_numbered r g = omega (arith, g.numbered, few r g)

  -- what there is to see of a run
  abbrev pub moment_of : Run → Moment (base S placed ok)
  moment_of r = record { clock = r.time; pending = pending_of r; posts = accepted r; departures = departures r }

  -- the run r is one of the argument
  abbrev pub Reachable : Run → Type 0
  Reachable r = Reached (base S placed ok) (moment_of r)

  -- r' follows on r
  pub record Stepped (r r' : Run) : Type 0 where
    pub good : Good r'
    pub reachable : Reachable r'
    pub more : List Accepted
    pub grown : accepted r' ≡ accepted r ++ more

  -- a call that accepts no post
  pub no_post : (r r' : Run) → accepted r' ≡ accepted r → Good r' → Reachable r' → Stepped r r'
  no_post r r' e g s = record { good = g; reachable = s; more = []; grown = rw append-nil e }
