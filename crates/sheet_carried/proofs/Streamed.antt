-- Bits that lead behind whole streams, and into the one that comes.
-- Assumes nothing.
use Prim.Native.Nat.{ℕ, suc, ◌+◌, ◌-◌, ◌*◌, ◌≤◌, ◌<◌}
use mathlib.Core.List.{List, [], ◌∷◌, ◌++◌, append-nil}
use mathlib.Core.Path.{◌≡◌, refl, sym, ap, ap₂, ◌∙◌, subst}
use mathlib.Core.Bool.{Bool, true, false, cond}
use mathlib.Core.Logic.{◌⊎◌, ⊎_elim}
use native.Mathlib.Omega.{arith}
use lib.ListN.{length, get_or, take}
use lib.Seq.{append_snoc, take-suc, length-take-le, take-length}
use lib.Dec.{eqb}
use borrow.Author.Tests.{eqb-true, le-leb, lt-ltb}
use Rattle.laws.specs.Lists.{All, sum}
use Rattle.laws.proofs.Sums.{all_at}
use Rattle.laws.proofs.Fields.{all_take}
use Rattle.rules.specs.declared.TuplePlace.{TuplePlace}
use Rattle.rules.specs.declared.Stage.{Stage}
use Rattle.rules.specs.declared.Stream.{Stream}
use Rattle.rules.specs.declared.Set.{Set}
use Rattle.rules.specs.Streams.{FourPlaces, no_stage, no_stream, no_streams, no_tuple, stages_of, stream_ok, tuples_of}
use Rattle.rules.specs.Sheet.{set_of, stream_of}
use Rattle.rules.specs.Valid.{Between, ValidStage, ValidStream}
use Rattle.sheet_carried.specs.declared.Carried.{Carried}
use Rattle.sheet_carried.specs.Table.{behind_of, following_of, greatest_of, in_rule_of, least_of, opened_of, row_of}
use Rattle.sheet_carried.specs.Reader.{begun, behind_version, goes_on, next_field, no_stages, no_tuples, no_values, with_stream}
use Rattle.sheet_carried.specs.Left.{last_of, stream_room}
use Rattle.sheet_carried.proofs.Whole.{Staged, StreamHolds, stream_holds, whole_stream}
use Rattle.sheet_carried.proofs.Streams.{Chain, chain_first}
use Rattle.sheet_carried.proofs.Chains.{Last, chain_last}
use Rattle.sheet_carried.proofs.Rows.{within_zero}
use Rattle.sheet_carried.proofs.Reached.{At, Reached, reach_as, reach_dated, reach_deep, reach_last, reach_limited, reach_on, reach_staged, reach_stages, reach_start, reach_tuples, set_padded, snoc_length, vals}

-- version 1 or version 2
abbrev pub Either : ℕ → Type 0
Either version = (version ≡ 1) ⊎ (version ≡ 2)

-- a list that is not empty: all but the last, and the last
pub split_last : {A : Type 0} (l : List A) (n : ℕ) (none : A) → length l ≡ n + 1 → take n l ++ (get_or l n none ∷ []) ≡ l
split_last {A} l n none e =
    sym (take-suc l n none (omega arith)) ∙ ap (λ (j : ℕ). take j l) (let q : suc n ≡ length l = omega arith in q) ∙ take-length l

module _ (N : ℕ) (x : Set) where
  -- before a stream, or behind the last
  abbrev pub Opened : Carried
  Opened = begun (opened_of x.version x.count N) 0 (vals N 0 0 0 0 0 0) no_stages no_tuples x

  module _ (room : x.count < N) where
    opens : (first : ℕ) → behind_of x.version 1 ≡ first → Opened ≡ At N x first 0 0 0 0 0 0 0 [] []
    unfolding opened_of
    opens first e =
        ap (λ (b : Bool). begun (cond b (behind_of x.version 1) 9) 0 (vals N 0 0 0 0 0 0) no_stages no_tuples x) (lt-ltb x.count N room)
        ∙ ap (λ (f : ℕ). At N x f 0 0 0 0 0 0 0 [] []) e

    module _ {k : ℕ} (r : Reached Opened k) where
      pub open_first : x.version ≡ 1 → Reached (At N x 4 0 0 0 0 0 0 0 [] []) k
      unfolding behind_of
      open_first e = reach_as (opens 4 (ap (λ (v : ℕ). behind_of v 1) e)) refl r

      pub open_second : x.version ≡ 2 → Reached (At N x 2 0 0 0 0 0 0 0 [] []) k
      unfolding behind_of
      open_second e = reach_as (opens 2 (ap (λ (v : ℕ). behind_of v 1) e)) refl r

      -- version 1: one stage, then the deadline
      pub first_staged : x.version ≡ 1 → (g : Stage) → ValidStage g → Reached (At N x 2 0 0 0 0 0 0 0 (g ∷ []) []) (k + 20)
      unfolding behind_of
      first_staged e g v =
          subst (λ (f : ℕ). Reached (At N x f 0 0 0 0 0 0 0 (g ∷ []) []) (k + 20)) (ap (λ (u : ℕ). behind_of u 5) e)
          (reach_staged N x 0 0 (omega arith) [] (open_first e) g v refl)

      -- version 2: the deadline, stages less one, the stages
      pub second_dated : x.version ≡ 2 → (d : ℕ) → Between 1 d 200000 → Reached (At N x 3 0 d 0 0 0 0 0 [] []) (k + 18)
      unfolding behind_of
      second_dated e d date =
          subst (λ (f : ℕ). Reached (At N x f 0 d 0 0 0 0 0 [] []) (k + 18)) (ap (λ (u : ℕ). behind_of u 2) e) (reach_dated N x d date [] (open_second e))

      pub second_stages : x.version ≡ 2 → (d s : ℕ) → Between 1 d 200000 → s ≤ 3 → (gs : List Stage) → All ValidStage gs → length gs ≤ s
          → Reached (At N x 4 (length gs) d s 0 0 0 0 gs []) (k + 20 + 20 * length gs)
      second_stages e d s date few gs v h =
          reach_stages N x d s few gs [] v (omega arith) (reach_as refl (let q : k + 18 + 2 ≡ k + 20 = omega arith in q) (reach_deep N x d s few (second_dated e d date)))

      module _ (d s : ℕ) (date : Between 1 d 200000) (few : s ≤ 3) (gs : List Stage) (ok : All ValidStage gs) (long : length gs ≡ s + 1) where
        abbrev g : Stage
        g = get_or gs s no_stage

        g_ok : ValidStage g
        g_ok = all_at ValidStage gs s no_stage (omega arith) ok

        head_first : x.version ≡ 1 → s ≡ 0 → Reached (At N x 6 0 d s 0 0 0 0 gs []) (k + 38)
        unfolding behind_of
        head_first e z =
            reach_as
            (ap₂ (λ (f i : ℕ). At N x f 0 d i 0 0 0 0 (g ∷ []) []) (ap (λ (u : ℕ). behind_of u 2) e) (sym z)
            ∙ ap (λ (l : List Stage). At N x 6 0 d s 0 0 0 0 l []) (ap (λ (j : ℕ). take j gs ++ (g ∷ [])) (sym z) ∙ split_last gs s no_stage long))
            (let q : k + 20 + 18 ≡ k + 38 = omega arith in q)
            (reach_dated N x d date (g ∷ []) (first_staged e g g_ok))

        head_second : x.version ≡ 2 → Reached (At N x 6 0 d s 0 0 0 0 gs []) (k + 40 + 20 * s)
        unfolding behind_of
        head_second e =
            let h : length (take s gs) ≡ s = length-take-le s gs (omega arith) in
            reach_as
            (ap (λ (f : ℕ). At N x f 0 d s 0 0 0 0 (take s gs ++ (g ∷ [])) []) (ap (λ (u : ℕ). behind_of u 5) e)
            ∙ ap (λ (l : List Stage). At N x 6 0 d s 0 0 0 0 l []) (split_last gs s no_stage long))
            (let q : k + 20 + 20 * length (take s gs) + 20 ≡ k + 40 + 20 * s = omega arith in q)
            (reach_staged N x d s few (take s gs) (second_stages e d s date few (take s gs) (all_take ValidStage s gs ok) (omega arith)) g g_ok h)

        -- how many bits the head of a stream has, in either version
        abbrev pub head_room : ℕ
        head_room = cond (eqb x.version 1) 38 (40 + 20 * s)

        pub reach_head : Either x.version → (x.version ≡ 1 → s ≡ 0) → Reached (At N x 6 0 d s 0 0 0 0 gs []) (k + head_room)
        reach_head e z =
            ⊎_elim
            (λ (h : x.version ≡ 1). reach_as refl (ap (λ (u : ℕ). k + cond (eqb u 1) 38 (40 + 20 * s)) (sym h)) (head_first h (z h)))
            (λ (h : x.version ≡ 2). reach_as refl ((let q : k + 40 + 20 * s ≡ k + (40 + 20 * s) = omega arith in q) ∙ ap (λ (u : ℕ). k + cond (eqb u 1) 38 (40 + 20 * s)) (sym h)) (head_second h))
            e

        -- some tuples
        pub reach_some : Either x.version → (x.version ≡ 1 → s ≡ 0) → (m : ℕ) → m ≤ 3 → (ps : List TuplePlace) → Chain 0 0 ps → length ps ≤ m
            → Reached (At N x 7 (length ps) d s 0 m 0 (last_of 0 ps) gs ps) (k + head_room + 2 + 37 * length ps)
        unfolding last_of
        reach_some e z m low ps c h = reach_tuples N x d s gs m low ps [] c (omega arith) (reach_limited N x d s gs m low (reach_head e z))

-- ---- whole streams

-- a stream of a set of the version
pub record Fine (version : ℕ) (s : Stream) : Type 0 where
  pub ok : stream_ok s ≡ true
  pub valid : ValidStream s
  pub four : FourPlaces s
  pub staged : Staged version s

pub room_sum : (k v d c : ℕ) (b : Bool) → 1 ≤ d → 1 ≤ c → (b ≡ true → d ≡ 1) → k + cond b 38 (40 + 20 * (d - 1)) + 2 + 37 * (c - 1) + 37 ≡ k + (cond b 20 22 + (20 * d + 37 * c))
room_sum k v d c true h i e = omega (arith, e refl)
room_sum k v d c false h i e = omega arith

module _ (N : ℕ) (x : Set) (few : N ≤ 16) (room : x.count < N) (e : Either x.version) {k : ℕ} (r : Reached (Opened N x) k) (s : Stream) (w : Fine x.version s) where
  held : StreamHolds s
  held = stream_holds s w.valid w.four

  abbrev ts : List TuplePlace
  ts = tuples_of s

  abbrev less : ℕ
  less = s.count - 1

  whole_tuples : take less ts ++ (get_or ts less no_tuple ∷ []) ≡ ts
  whole_tuples = split_last ts less no_tuple (omega (arith, held.tuples.used, w.valid.count.low))

  last : Last 0 0 (take less ts) (get_or ts less no_tuple)
  last = chain_last 0 0 (take less ts) (get_or ts less no_tuple) (subst (Chain 0 0) (sym whole_tuples) (chain_first ts w.valid.first w.valid.order))

  some_long : length (take less ts) ≡ less
  some_long = length-take-le less ts (omega (arith, held.tuples.used))

  reach_stream : Reached (Opened N (with_stream x s)) (k + stream_room x.version s)
  unfolding stream_room
  reach_stream =
      let v : ValidStream s = w.valid in
      let depth : s.depth - 1 + 1 ≡ s.depth = omega (arith, v.depth.low) in
      let long : length (stages_of s) ≡ s.depth - 1 + 1 = omega (arith, held.stages.used) in
      reach_as
      (ap (λ (l : List TuplePlace). Opened N (with_stream x (stream_of (stages_of s) s.deadline l))) whole_tuples ∙ ap (λ (y : Stream). Opened N (with_stream x y)) (whole_stream s held))
      (ap (λ (j : ℕ). k + cond (eqb x.version 1) 38 (40 + 20 * (s.depth - 1)) + 2 + 37 * j + 37) some_long
      ∙ room_sum k x.version s.depth s.count (eqb x.version 1) v.depth.low v.count.low (λ q. w.staged (eqb-true x.version 1 q)))
      (reach_last N x s.deadline (s.depth - 1) (stages_of s) less (omega (arith, v.count.high)) (take less ts)
      (reach_some N x room r s.deadline (s.depth - 1) v.deadline (omega (arith, v.depth.high)) (stages_of s) v.stages long e (λ q. omega (arith, w.staged q)) less (omega (arith, v.count.high)) (take less ts) last.init (omega (arith, some_long)))
      (get_or ts less no_tuple) last.rule last.place some_long long)

pub one_more : (version : ℕ) (ps : List Stream) (s : Stream) → length ps < 16 → with_stream (set_of version ps) s ≡ set_of version (ps ++ (s ∷ []))
one_more version ps s h =
    ap₂ (λ (n : ℕ) (l : List Stream). record { count = n; streams = l; version = version }) (sym (snoc_length ps s)) (set_padded 16 no_stream ps s h)

-- some streams more
reach_streams : (N version : ℕ) → N ≤ 16 → Either version → (qs ps : List Stream) → All (Fine version) qs → length ps + length qs ≤ N → {k : ℕ} → Reached (Opened N (set_of version ps)) k
    → Reached (Opened N (set_of version (ps ++ qs))) (k + sum (stream_room version) qs)
unfolding sum
reach_streams N version few e [] ps w h r = reach_as (ap (λ (l : List Stream). Opened N (set_of version l)) (sym (append-nil ps))) (omega arith) r
reach_streams N version few e (q ∷ qs) ps w h {k} r =
    reach_as (ap (λ (l : List Stream). Opened N (set_of version l)) (append_snoc ps q qs)) (let u : k + stream_room version q + sum (stream_room version) qs ≡ k + (stream_room version q + sum (stream_room version) qs) = omega arith in u)
    (reach_streams N version few e qs (ps ++ (q ∷ [])) w.1 (omega (arith, snoc_length ps q))
    (reach_as (ap (Opened N) (one_more version ps q (omega arith))) refl (reach_stream N (set_of version ps) few (omega arith) e r q w.0)))

-- the version
pub reach_version : (version : ℕ) → Either version → Reached (begun 1 0 no_values no_stages no_tuples (no_streams version)) 4
unfolding goes_on behind_version in_rule_of least_of greatest_of row_of
reach_version version e =
    ⊎_elim
    (λ (h : version ≡ 1). subst (λ (v : ℕ). Reached (begun 1 0 no_values no_stages no_tuples (no_streams v)) 4) (sym h) (reach_on 0 0 no_values no_stages no_tuples (no_streams 1) reach_start 1 (omega arith) (omega arith) refl))
    (λ (h : version ≡ 2). subst (λ (v : ℕ). Reached (begun 1 0 no_values no_stages no_tuples (no_streams v)) 4) (sym h) (reach_on 0 0 no_values no_stages no_tuples (no_streams 1) reach_start 2 (omega arith) (omega arith) refl))
    e

-- the count
reach_count : (N version : ℕ) → N ≤ 16 → Either version → Reached (Opened N (set_of version [])) 9
unfolding goes_on next_field following_of in_rule_of least_of greatest_of row_of
reach_count N version few e =
    reach_on 1 0 no_values no_stages no_tuples (no_streams version) (reach_version version e) N (omega arith) (omega arith) (within_zero N 16 ∙ le-leb N 16 few)

-- behind some streams
pub reach_open : (N version : ℕ) → N ≤ 16 → Either version → (qs : List Stream) → All (Fine version) qs → length qs ≤ N → Reached (Opened N (set_of version qs)) (9 + sum (stream_room version) qs)
reach_open N version few e qs w h = reach_streams N version few e qs [] w (omega arith) (reach_count N version few e)
