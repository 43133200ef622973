-- The pass over the waits: those before k have been tested, and have passed a unit.
-- Assumes nothing.
use Prim.Native.Nat.{ℕ, ◌+◌, ◌≤◌, ◌<◌}
use native.Mathlib.Omega.{arith}
use native.Mathlib.Numerals.{add-one}
use mathlib.Core.Bool.{true, false}
use mathlib.Core.List.{List}
use mathlib.Core.Path.{◌≡◌, refl, ap, sym, ◌∙◌}
use lib.Dec.{leb}
use lib.ListN.{length, get_or, set, length-set}
use lib.Seq.{get_or-set_other}
use Rattle.std.specs.List.{list_all}
use Rattle.laws.specs.Lists.{below}
use Rattle.laws.proofs.Parts.{below_no, get_d_any}
use Rattle.rules.specs.declared.Door.{Door}
use Rattle.rules.specs.declared.Stream.{Stream}
use Rattle.rules.specs.Streams.{no_stream}
use Rattle.rules.specs.Doors.{door_of, most_wait, wait_later, waits_later}
use Rattle.std.specs.Prelude.{Some, None}
use Rattle.state_formed.specs.InRange.{door_allows, waits_left}
use Rattle.stream_doors.proofs.Walks.{passed, begun, pass_go, pass_end}

pub record Waiting (ss : List Stream) (ws : List ℕ) (k : ℕ) (later : List ℕ) : Type 0 where
  pub long : length later ≡ 16
  pub tested : list_all (door_allows ss ws) (below k) ≡ true
  pub ahead : (j : ℕ) → k ≤ j → get_or later j 0 ≡ get_or ws j 0
  pub rest : passed k ss later ≡ waits_later ss ws

pub wait_start : (ss : List Stream) (ws : List ℕ) → length ws ≡ 16 → Waiting ss ws 0 ws
wait_start ss ws l = record { long = l; tested = refl; ahead = λ j h. refl; rest = begun ss ws }

-- the door is that of the stream at k, read with any default
module _ (ss : List Stream) (ws : List ℕ) (k : ℕ) (later : List ℕ) (h : Waiting ss ws k later) (l : length ss ≡ 16) (q : k < 16) (d : Door) (y : Stream) (e : d ≡ door_of (get_or ss k y)) where
  door : d ≡ door_of (get_or ss k no_stream)
  door = e ∙ ap door_of (get_d_any ss k y no_stream (omega arith))

  pub wait_go : true ≡ leb (get_or ws k 0) (most_wait d) → (w : ℕ) → w ≡ wait_later d (get_or ws k 0) → Waiting ss ws (k + 1) (set later k w)
  wait_go t w f = record {
    long = simp length-set h.long;
    tested = rw (add-one k, h.tested, ← door, ← t) refl;
    ahead = λ j g. get_or-set_other later k j w 0 (omega arith) ∙ h.ahead j (omega arith);
    rest = pass_go ss later k _ h.rest d w l h.long q door (f ∙ ap (wait_later d) (sym (h.ahead k (omega arith))));
  }

  pub wait_no : false ≡ leb (get_or ws k 0) (most_wait d) → None ≡ waits_left ss ws
  unfolding waits_left
  wait_no t = rw (sym (below_no (door_allows ss ws) 16 k q (rw (← door, ← t) refl)))

pub wait_end : (ss : List Stream) (ws : List ℕ) (k : ℕ) (later : List ℕ) → Waiting ss ws k later → length ss ≡ 16 → k ≡ 16 → Some later ≡ waits_left ss ws
unfolding waits_left
wait_end ss ws k later h l e = rw (rw e at h.tested, pass_end ss later k _ h.rest l h.long (omega arith))
