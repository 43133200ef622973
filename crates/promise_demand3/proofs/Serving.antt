-- A unit with a message pending is one of the deadline argument: the chosen message leaves, named by its number, stays with a unit more, or passes on to its next stage.
-- Assumes nothing.
use Prim.Native.Nat.{ℕ, suc, ◌+◌, ◌-◌, ◌≤◌, ◌<◌}
use mathlib.Core.Bool.{true}
use mathlib.Core.List.{List, [], ◌∷◌, ◌++◌, Memᴰ, append-nil}
use mathlib.Core.Logic.{inl, inr, ◌≢◌, ⊎_elim}
use mathlib.Core.Path.{◌≡◌, refl, sym, ap, subst, ◌∙◌}
use native.Mathlib.Numerals.{add-one}
use native.Mathlib.Omega.{arith}
use lib.ListN.{length, get_or, take, drop, length-append, length-drop}
use lib.IntN.{ℤ}
use lib.Seq.{length-take-le}
use Rattle.laws.proofs.Gates.{le_or_lt, Each, mem_here}
use Rattle.rules.specs.declared.Set.{Set}
use Rattle.rules.specs.declared.Message.{Message}
use Rattle.rules.specs.Streams.{Placed, valid}
use Rattle.rules.specs.States.{no_message, pending, stages_in, cost_of}
use Rattle.rules.specs.Steps.{never, place_of, turn_of, gained, passed_on, stayed, departed}
use Rattle.rules.specs.Runs.{How, Departure, Run, accepted, departures, new_departure, after_leaving, after_moving, AtCost}
use Rattle.rules.proofs.Events.{accepted_same, departures_more}
use Rattle.state_formed.proofs.WellFormed.{well_formed_lem}
use Rattle.state_choosing.specs.Words.{Served}
use Rattle.state_choosing.proofs.Choice.{choice}
use Rattle.promise_deadlines.specs.Model.{Choice, Stays, leaves, stays, After, unit, Reaches}
use Rattle.promise_deadlines.proofs.Formed.{formed}
use Rattle.promise_steps.specs.Formed.{Formed}
use Rattle.promise_steps.proofs.Valid.{stream_valid, stage_cost_lem}
use Rattle.promise_steps.proofs.Cases.{Serving, chosen_of, message_is, pending_stayed, pending_departed}
use Rattle.promise_demand3.specs.Kind.{Named, paired, pending_of, Fine, cost_from}
use Rattle.promise_demand3.proofs.Choosing.{Chosen, chosen_of_lem}
use Rattle.promise_demand3.proofs.Pairing.{name, message_in, Has, pair_in, before, behind, pairs_split, pairs_without, pairs_with}
use Rattle.promise_demand3.proofs.Base.{base, from_stream, cost_split, hold_started, hold_unstarted, started_hold}
use Rattle.promise_demand3.proofs.Moments.{Good, few, all_numbered, Reachable, Stepped, no_post}

module _ (S : Set) (placed : Placed S) (ok : valid S ≡ true) (r : Run) (g : Good S placed ok r) (run : Reachable S placed ok r) (v : Serving r.state) where
  -- the pending messages, and the place of the chosen one
  abbrev l : List Message
  l = pending r.state

  abbrev i : ℕ
  i = place_of r.state

  same : length r.names ≡ length l
  same = all_numbered S placed ok r g

  places : length r.state.messages ≡ 64
  places = g.formed.housed.places

  small : r.state.count ≤ 64
  small = (well_formed_lem r.state g.formed.formed).few

  -- ---- the choice

  -- in the paper's words
  pub words : Served (turn_of r.state) S l i
  words = subst (λ (x : Set). Served (turn_of r.state) x l i) g.set_is (choice r.state g.formed.formed places g.formed.housed.set.sixteen v.some)

  pub low : i < r.state.count
  low = omega (arith, words.inside, few S placed ok r g)

  -- the chosen message and its number
  abbrev chosen : Message
  chosen = get_or l i no_message

  abbrev x : Named
  x = name (get_or r.names i 0) chosen

  pub chosen_is : chosen_of r.state ≡ chosen
  chosen_is = message_is r.state places i low

  of_message : {m : Message} → Memᴰ m l → Has (pending_of r) m
  of_message q = pair_in r.names l same q

  -- every deadline is before that of a task with nothing pending
  deadlines_in : Each (λ m. m.deadline < never) l
  deadlines_in m q =
      let h : Has (pending_of r) m = of_message q in
      let y : Named = name h.number m in
      omega (
        arith,
        (formed (base S placed ok) run).soon y h.here,
        v.early,
        g.timed,
        (stream_valid S placed ok m.stream ((formed (base S placed ok) run).fine y h.here).stream_in).deadline.high,
      )

  is_chosen : Chosen S l chosen
  is_chosen = chosen_of_lem S l deadlines_in i words

  -- what stands before it and behind it
  abbrev front : List Named
  front = before r.names l same i words.inside

  abbrev rear : List Named
  rear = behind r.names l same i words.inside

  split : pending_of r ≡ front ++ (x ∷ rear)
  split = pairs_split r.names l same i words.inside

  x_fine : Fine S x
  x_fine = subst (λ (q : List Named). Each (Fine S) q) split (formed (base S placed ok) run).fine x (mem_here front x rear)

  in_argument : Choice (base S placed ok) (pending_of r) x
  in_argument =
      let h : Has (pending_of r) is_chosen.first = of_message is_chosen.first_in in
      record {
        first = name h.number is_chosen.first;
        first_in = h.here;
        first_task = is_chosen.first_task;
        first_least = λ y q. is_chosen.first_least y.message (message_in r.names l q);
        none_started = λ e y q t. hold_unstarted S y (is_chosen.none_started (started_hold S x x_fine e) y.message (message_in r.names l q) t);
        least_own = λ e y q t. is_chosen.least_own (started_hold S x x_fine e) y.message (message_in r.names l q) t;
      }

  -- the unit, whatever it makes of x
  served : (q : List Named) (e : List Departure) → After (base S placed ok) r.time x q e
      → Reaches (base S placed ok) (r.time + 1) (front ++ (q ++ rear)) (accepted r) (departures r ++ e)
  served q e af = rw add-one (unit front x rear q e
      (subst (λ (q : List Named). Reaches (base S placed ok) r.time q (accepted r) (departures r)) split run)
      (subst (λ (q : List Named). Choice (base S placed ok) q x) split in_argument)
      af)

  -- ---- it leaves

  one_less : length (take i r.names ++ drop (suc i) r.names) ≡ r.state.count - 1
  one_less = omega (
    arith,
    length-append (take i r.names) (drop (suc i) r.names),
    length-take-le i r.names (omega (arith, low, g.numbered)),
    length-drop (suc i) r.names,
    low,
    g.numbered,
  )

  taken_out : paired (take i r.names ++ drop (suc i) r.names) (pending (departed r.state i)) ≡ front ++ rear
  taken_out =
      ap (paired (take i r.names ++ drop (suc i) r.names)) (pending_departed r.state places i small low)
      ∙ pairs_without r.names l same i words.inside

  pub leave_step : (how : How) (laxity : ℤ) → AtCost S (new_departure r how laxity) how → Formed (departed r.state i) → Stepped S placed ok r (after_leaving r (departed r.state i) how laxity)
  leave_step how laxity cost f =
      let d : Departure = new_departure r how laxity in
      no_post S placed ok r (after_leaving r (departed r.state i) how laxity) (accepted_same r.events d)
      (record { set_is = g.set_is; formed = f; numbered = one_less; timed = omega (arith, g.timed) })
      (rw (accepted_same r.events d, departures_more r.events d, taken_out)
      (served [] (d ∷ []) (leaves (record {
        named = refl;
        timed = add-one r.time;
        told = record { stream = ap (λ (m : Message). m.stream) chosen_is; used = ap (λ (m : Message). m.used + 1) chosen_is; cost = cost };
      }))))

  -- a finished one was in the last stage of its stream, a cut has used the cost of its stage
  pub last_stage_lem : (chosen_of r.state).stage + 1 ≡ stages_in r.state.set (chosen_of r.state) → suc (chosen_of r.state).stage ≡ stages_in S (chosen_of r.state)
  last_stage_lem e = sym (add-one (chosen_of r.state).stage) ∙ cc (g.set_is, e)

  pub cut_cost : (chosen_of r.state).used + 1 ≡ cost_of r.state.set (chosen_of r.state) → (chosen_of r.state).used + 1 ≡ cost_of S (chosen_of r.state)
  cut_cost e = cc (g.set_is, e)

  -- ---- it stays, as m

  abbrev y : Message → Named
  y m = name (get_or r.names i 0) m

  put_back : (m : Message) → paired r.names (pending (stayed r.state i m)) ≡ front ++ (y m ∷ rear)
  put_back m = ap (paired r.names) (pending_stayed r.state places i m small low) ∙ pairs_with r.names l same i words.inside m

  stay_step : (m : Message) → Stays (base S placed ok) x (y m) → Formed (stayed r.state i m) → Stepped S placed ok r (after_moving r (stayed r.state i m))
  stay_step m st f = no_post S placed ok r (after_moving r (stayed r.state i m)) refl
      (record { set_is = g.set_is; formed = f; numbered = g.numbered; timed = omega (arith, g.timed) })
      (subst (λ (q : List Named). Reaches (base S placed ok) (r.time + 1) q (accepted r) (departures r)) (sym (put_back m))
      (subst (λ (ds : List Departure). Reaches (base S placed ok) (r.time + 1) (front ++ (y m ∷ rear)) (accepted r) ds) (append-nil (departures r))
      (served (y m ∷ []) [] (stays st))))

  whole : cost_from S x chosen.stage ≡ cost_of S chosen + cost_from S x (suc chosen.stage)
  whole = cost_split S placed ok x x_fine.stream_in x_fine.stage_in

  -- ---- with a unit more

  gains : chosen.used + 1 ≢ cost_of S chosen → Stays (base S placed ok) x (y (gained chosen))
  gains short = record {
    same_number = refl;
    same_stream = refl;
    same_deadline = refl;
    less_rest = omega (arith, x_fine.used_in, whole, from_gained);
    same_task = inr refl;
    less_hold = λ p. ⊎_elim
        (λ (q : 1 ≤ chosen.used). omega (arith, x_fine.used_in, hold_started S x q, hold_started S (y (gained chosen)) (omega arith)))
        (λ (q : chosen.used < 1). absurd (omega (arith, hold_unstarted S x (omega arith))))
        (le_or_lt 1 chosen.used);
    still_fine = record { stream_in = x_fine.stream_in; stage_in = x_fine.stage_in; used_in = omega (arith, x_fine.used_in) };
  }
    where
      from_gained : cost_from S (y (gained chosen)) chosen.stage ≡ cost_from S x chosen.stage
      from_gained = from_stream S (y (gained chosen)) x refl chosen.stage

  pub gain_step : (chosen_of r.state).used + 1 ≢ cost_of r.state.set (chosen_of r.state) → Formed (stayed r.state i (gained (chosen_of r.state)))
      → Stepped S placed ok r (after_moving r (stayed r.state i (gained (chosen_of r.state))))
  gain_step short f =
      subst (λ (m : Message). Stepped S placed ok r (after_moving r (stayed r.state i (gained m)))) (sym chosen_is)
      (stay_step (gained chosen) (gains (λ e. short (cc (chosen_is, g.set_is, e)))) (subst (λ (m : Message). Formed (stayed r.state i (gained m))) chosen_is f))

  -- ---- in its next stage: it waits there with no unit used

  passes : chosen.stage + 1 ≢ stages_in S chosen → Stays (base S placed ok) x (y (passed_on chosen))
  passes more = record {
    same_number = refl;
    same_stream = refl;
    same_deadline = refl;
    less_rest = omega (arith, x_fine.used_in, whole, from_passed);
    same_task = inl (hold_unstarted S (y (passed_on chosen)) refl);
    less_hold = λ p. omega (arith, hold_unstarted S (y (passed_on chosen)) refl);
    still_fine = record { stream_in = x_fine.stream_in; stage_in = next; used_in = stage_cost_lem S placed ok chosen.stream x_fine.stream_in (chosen.stage + 1) next };
  }
    where
      next : chosen.stage + 1 < stages_in S chosen
      next = omega (arith, x_fine.stage_in)

      from_passed : cost_from S (y (passed_on chosen)) (chosen.stage + 1) ≡ cost_from S x (suc chosen.stage)
      from_passed = ap (cost_from S (y (passed_on chosen))) (add-one chosen.stage) ∙ from_stream S (y (passed_on chosen)) x refl (suc chosen.stage)

  pub pass_step : (chosen_of r.state).stage + 1 ≢ stages_in r.state.set (chosen_of r.state) → Formed (stayed r.state i (passed_on (chosen_of r.state)))
      → Stepped S placed ok r (after_moving r (stayed r.state i (passed_on (chosen_of r.state))))
  pass_step more f =
      subst (λ (m : Message). Stepped S placed ok r (after_moving r (stayed r.state i (passed_on m)))) (sym chosen_is)
      (stay_step (passed_on chosen) (passes (λ e. more (cc (chosen_is, g.set_is, e)))) (subst (λ (m : Message). Formed (stayed r.state i (passed_on m))) chosen_is f))
