-- The walk over the streams' places: what a unit leaves of the waits.
-- Assumes nothing.
use Prim.Native.Nat.{ℕ, suc, ◌+◌, ◌≤◌, ◌<◌}
use native.Mathlib.Omega.{arith}
use native.Mathlib.Numerals.{add-one}
use mathlib.Core.List.{List, [], ◌∷◌, ◌++◌, append_assoc, append-nil}
use mathlib.Core.Path.{◌≡◌, refl, ap, sym, ◌∙◌}
use lib.ListN.{length, get_or, take, drop, set, drop_of_length-le}
use lib.Seq.{take_all, drop-cons, take-suc-set, drop-set-lt}
use Rattle.rules.specs.declared.Stream.{Stream}
use Rattle.rules.specs.declared.Door.{Door}
use Rattle.rules.specs.Streams.{no_stream}
use Rattle.rules.specs.Doors.{door_of, wait_later, waits_later}

-- ---- a unit passes

-- those before k have passed it already
unfoldable pub passed : ℕ → List Stream → List ℕ → List ℕ
passed k ss ws = take k ws ++ waits_later (drop k ss) (drop k ws)

pub begun : (ss : List Stream) (ws : List ℕ) → passed 0 ss ws ≡ waits_later ss ws
unfolding passed
begun ss ws = refl

module _ (ss : List Stream) (ws : List ℕ) (k : ℕ) (whole : List ℕ) (inv : passed k ss ws ≡ whole) where
  pub pass_go : (d : Door) (w : ℕ) → length ss ≡ 16 → length ws ≡ 16 → k < 16 → d ≡ door_of (get_or ss k no_stream) → w ≡ wait_later d (get_or ws k 0)
      → passed (k + 1) ss (set ws k w) ≡ whole
  unfolding passed waits_later
  pass_go d w l m h e f = rw (add-one k) (
      ap (λ (r : List ℕ). r ++ waits_later (drop (suc k) ss) (drop (suc k) (set ws k w))) (take-suc-set ws k w (omega arith))
      ∙ append_assoc (take k ws) (w ∷ []) (waits_later (drop (suc k) ss) (drop (suc k) (set ws k w)))
      ∙ rw (drop-set-lt (suc k) ws k w (omega arith), f, e) (rw (drop-cons ss k no_stream (omega arith), drop-cons ws k 0 (omega arith)) at inv))

  pub pass_end : length ss ≡ 16 → length ws ≡ 16 → 16 ≤ k → ws ≡ whole
  unfolding passed waits_later
  pass_end l m h = sym (take_all k ws (omega arith)) ∙ sym (append-nil (take k ws)) ∙ rw (drop_of_length-le ss {i = k} (omega arith), drop_of_length-le ws {i = k} (omega arith)) at inv
