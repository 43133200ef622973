-- The stages of a stream: what its cost and what it blocks are at most; a stage of it among them.
-- Assumes nothing.
use Prim.Native.Nat.{ℕ, zero, suc, ◌-◌, ◌*◌, ◌≤◌, ◌<◌}
use native.Mathlib.Omega.{arith}
use native.Mathlib.Nat.{le_refl, mul-le-mul_right}
use mathlib.Core.Bool.{Bool, true, false, ◌||◌}
use mathlib.Core.List.{List, [], ◌∷◌}
use mathlib.Core.Path.{◌≡◌, refl, ap}
use borrow.Author.Tests.{eq-eqb}
use lib.ListN.{length, get_or, length-take}
use lib.Seq.{get_or-take}
use Rattle.std.specs.List.{list_any}
use Rattle.laws.specs.Lists.{sum, top}
use Rattle.laws.proofs.Sums.{all_map, all_at, sum_le, top_le, top_each, cond_le}
use Rattle.rules.specs.declared.Stage.{Stage}
use Rattle.rules.specs.declared.Stream.{Stream}
use Rattle.rules.specs.Streams.{no_stage, stages_of, stage_at}
use Rattle.rules.specs.Load.{stage_cost, cost_in, on_task, has, less_one, blocks_for}
use Rattle.rules.specs.Valid.{ValidStage, ValidStream}

-- ---- how much there can be

pub stages_few : (s : Stream) → ValidStream s → length (stages_of s) ≤ 4
stages_few s v = omega (arith, v.depth.high, length-take s.depth s.stages)

-- four stages of 65,535
pub cost_fits : (s : Stream) → ValidStream s → cost_in s ≤ 262140
unfolding cost_in
cost_fits s v =
    let u : sum stage_cost (stages_of s) ≤ length (stages_of s) * 65535 =
    sum_le stage_cost 65535 (stages_of s) (all_map ValidStage (λ g. stage_cost g ≤ 65535) (stages_of s) (λ g w. w.cost.high) v.stages) in
    omega (arith, mul-le-mul_right 65535 (stages_few s v))

less_one_fits : (t : ℕ) (g : Stage) → ValidStage g → less_one t g ≤ 65534
less_one_fits t g w = cond_le (on_task t g) (g.cost - 1) 65534 (omega (arith, w.cost.high))

pub blocks_for_fits : (t : ℕ) (s : Stream) → ValidStream s → blocks_for t s ≤ 65534
unfolding blocks_for
blocks_for_fits t s v = top_le (less_one t) 65534 (stages_of s) (all_map ValidStage (λ g. less_one t g ≤ 65534) (stages_of s) (less_one_fits t) v.stages)

-- ---- the stage of a number, where the stream has it

any_first : (b c : Bool) → c ≡ true → (b || c) ≡ true
any_first true c e = refl
any_first false c e = e

any_at : (p : Stage → Bool) (gs : List Stage) (k : ℕ) → k < length gs → p (get_or gs k no_stage) ≡ true → list_any p gs ≡ true
any_at p [] k h e = absurd (let z : k < 0 = h in omega arith)
any_at p (g ∷ gs) zero h e = rw e
any_at p (g ∷ gs) (suc k) h e = any_first (p g) (list_any p gs) (any_at p gs k (omega arith) e)

module _ (s : Stream) (four : length s.stages ≡ 4) (v : ValidStream s) (j : ℕ) (here : j < s.depth) where
  stage_near : j < length (stages_of s)
  stage_near = omega (arith, v.depth.high, length-take s.depth s.stages)

  pub stage_in_lem : get_or (stages_of s) j no_stage ≡ stage_at s j
  stage_in_lem = get_or-take s.depth s.stages j no_stage here

  pub stage_valid : ValidStage (stage_at s j)
  stage_valid = rw (← stage_in_lem) (all_at ValidStage (stages_of s) j no_stage stage_near v.stages)

  -- its task has the stream
  pub stage_has : has (stage_at s j).task s ≡ true
  unfolding has
  stage_has = any_at (on_task (stage_at s j).task) (stages_of s) j stage_near (rw stage_in_lem (eq-eqb (stage_at s j).task (stage_at s j).task refl))

  -- and is blocked by its cost less one
  pub stage_blocks : (stage_at s j).cost - 1 ≤ blocks_for (stage_at s j).task s
  unfolding blocks_for
  stage_blocks =
      let t : ℕ = (stage_at s j).task in
      let u : less_one t (get_or (stages_of s) j no_stage) ≤ top (less_one t) (stages_of s) =
      all_at (λ g. less_one t g ≤ top (less_one t) (stages_of s)) (stages_of s) j no_stage stage_near (top_each (less_one t) (top (less_one t) (stages_of s)) (stages_of s) (le_refl _)) in
      let e : less_one t (stage_at s j) ≡ (stage_at s j).cost - 1 = rw (eq-eqb t t refl) in
      omega (arith, ap (less_one t) stage_in_lem)
