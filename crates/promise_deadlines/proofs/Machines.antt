-- Demand 3 for any lawful machine, whatever its ties, refusals, extra state and count of time. Assumes nothing.
use mathlib.Core.List.{List, [], ◌∷◌, ◌++◌, append_assoc, append-nil}
use mathlib.Core.Path.{sym, ap, subst, ◌∙◌}
use Rattle.promise_deadlines.specs.Model.{Model, Keeps, Fits, start}
use Rattle.promise_deadlines.specs.Machine.{Moment, outset, Reached, NoneDue, AllLeft, Next, runs, Following, Lawful}
use Rattle.promise_deadlines.proofs.Account.{on_time}
use Rattle.promise_deadlines.proofs.Identity.{keeps_before, left_in_time}

module _ (𝓜 : Model) {S C : Type 0} (begin : S) (step : S → C → S) (law : Lawful 𝓜 begin step) where
  open 𝓜 use {Post}

  -- more calls lead on from a moment
  pub leads : (s : S) (cs : List C) (m : Moment 𝓜) → Reached 𝓜 m → law.Shows s m → Following 𝓜 law.Shows m (runs step s cs)
  unfolding runs
  leads s [] m run shown = record { to = m; shown = shown; next = record { reached = run; more = []; grown = sym (append-nil m.posts) } }
  leads s (c ∷ cs) m run shown =
      let one : Following 𝓜 law.Shows m (step s c) = law.follows s c m run shown in
      let rest : Following 𝓜 law.Shows one.to (runs step (step s c) cs) = leads (step s c) cs one.to one.next.reached one.shown in
      record {
        to = rest.to;
        shown = rest.shown;
        next = record {
          reached = rest.next.reached;
          more = one.next.more ++ rest.next.more;
          grown = rest.next.grown ∙ ap (λ (l : List Post). l ++ rest.next.more) one.next.grown ∙ append_assoc m.posts one.next.more rest.next.more;
        };
      }

  -- each list of calls from the start leads to a moment
  pub moment : (cs : List C) → Following 𝓜 law.Shows (outset 𝓜) (runs step begin cs)
  moment cs = leads begin cs (outset 𝓜) start law.begins

  -- limits that are kept at a moment were kept at the moments before it
  pub kept_earlier : (m m' : Moment 𝓜) → Next 𝓜 m m' → Keeps 𝓜 m'.posts → Keeps 𝓜 m.posts
  kept_earlier m m' next keeps = keeps_before 𝓜 m.posts next.more (subst (λ (h : List Post). Keeps 𝓜 h) next.grown keeps)

  -- the moment after the calls `before`, and the one after the calls `more` as well
  pub later : (before more : List C) → Following 𝓜 law.Shows (moment before).to (runs step (runs step begin before) more)
  later before more = leads (runs step begin before) more (moment before).to (moment before).next.reached (moment before).shown

  -- at every moment of a run that keeps the limits, no message is due
  pub never_due : Fits 𝓜 → (before more : List C) → Keeps 𝓜 (later before more).to.posts → NoneDue 𝓜 (moment before).to
  never_due fits before more keeps = on_time 𝓜 fits (moment before).next.reached (kept_earlier (moment before).to (later before more).to (later before more).next keeps)

  -- DEMAND 3 for any lawful machine
  pub all_left : Fits 𝓜 → (cs : List C) → Keeps 𝓜 (moment cs).to.posts → AllLeft 𝓜 (moment cs).to
  all_left fits cs keeps = left_in_time 𝓜 fits (moment cs).next.reached keeps
