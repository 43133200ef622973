-- The ways out of post, as the code goes.
-- Assumes nothing.
use Prim.Native.Nat.{ℕ, ◌+◌, ◌≤◌, ◌<◌}
use mathlib.Core.Bool.{Bool, true, false}
use mathlib.Core.Path.{◌≡◌, refl, ap, sym, ◌∙◌}
use native.Mathlib.Omega.{arith}
use borrow.Author.Tests.{lt-ltb, le-ltb, leb-true, ltb-true}
use lib.Dec.{ltb}
use lib.ListN.{length, get_or, set}
use Rattle.std.specs.Prelude.{Ok, Some, None}
use Rattle.laws.proofs.Parts.{get_d_any, below_at}
use Rattle.rules.specs.declared.State.{State}
use Rattle.rules.specs.declared.Stream.{Stream}
use Rattle.rules.specs.declared.Door.{Door}
use Rattle.rules.specs.declared.Party.{Party}
use Rattle.rules.specs.declared.Party.TheVariants.{Ours, Theirs}
use Rattle.rules.specs.Parties.{ours, places_of}
use Rattle.rules.specs.declared.Refusal.TheVariants.{NoStream, Full, IllFormed, Early}
use Rattle.rules.specs.declared.PostResult.{PostResult}
use Rattle.rules.specs.Streams.{stream_at, no_stream}
use Rattle.rules.specs.Doors.{door_of, shut, wait_after, most_wait}
use Rattle.rules.specs.States.{pending, party_of, held_by, wait_ok, well_formed}
use Rattle.rules.specs.Steps.{door_at, wait_at, has_place, post_refused, post_of}
use Rattle.rules.proofs.Valid.{valid_set}
use Rattle.rules.proofs.Waits.{after_keeps, most_fits, door_valid}
use Rattle.state_formed.specs.declared.Tested.{Tested}
use Rattle.state_formed.specs.InRange.{whole_of}
use Rattle.state_formed.proofs.WellFormed.{well_formed_lem, place_room, stream_valid}
use Rattle.state_formed.proofs.Whole.{whole_none, whole_some}
use Rattle.state_parties.specs.Shares.{held_in, held_for, place_left}

module _ (s : State) (k : ℕ) where
  pub post_12 : None ≡ whole_of s → post_refused s IllFormed ≡ post_of s k
  unfolding post_of
  post_12 e = rw (whole_none s e)

  module _ (tested : Tested) (told : Some tested ≡ whole_of s) where
    w : well_formed s ≡ true
    w = (whole_some s tested told).0

    pub post_1 : s.set.count ≤ k → post_refused s NoStream ≡ post_of s k
    unfolding post_of
    post_1 h = rw (w, le-ltb _ _ h)

    module _ (h : k < s.set.count) where
      pub post_place : k < 16
      post_place = omega (arith, (valid_set s.set (well_formed_lem s w).set).count)

      -- the stream as the code reads it
      module _ (ss : length s.set.streams ≡ 16) (ms : length s.messages ≡ 64) (y : Stream) where
        abbrev x : Stream
        x = get_or s.set.streams k y

        read : x ≡ stream_at s.set k
        read = get_d_any s.set.streams k y no_stream (omega (arith, post_place))

        pub post_fits : s.clock + x.deadline < 4000200001
        post_fits = rw read (omega (arith, (well_formed_lem s w).clock, (stream_valid s.set k (well_formed_lem s w).set ss h).deadline.high))

        -- the door, and whether it is shut
        module _ (d : Door) (e : d ≡ door_of x) (c : Bool) (f : c ≡ shut d (wait_at s k)) where
          door : d ≡ door_at s k
          door = e ∙ ap door_of read

          pub post_15 : c ≡ true → post_refused s Early ≡ post_of s k
          unfolding post_of
          post_15 g = rw (w, lt-ltb _ _ h, ← door, ← f, g)

          -- the owner, and whether it has a place
          module _ (r : Bool) (t : r ≡ place_left (get_or s.owners k ours) tested.held s.places) where
            free : r ≡ has_place s k
            unfolding place_left
            free =
                t
                ∙ ap (λ (n : Tested). ltb (held_for n.held (party_of s k)) (places_of s.places (party_of s k))) (whole_some s tested told).1
                ∙ by_side (party_of s k)
              where
                by_side : (p : Party) → ltb (held_for (held_in s.owners (pending s)) p) (places_of s.places p) ≡ ltb (held_by s p) (places_of s.places p)
                by_side Ours = refl
                by_side Theirs = refl

            pub post_2 : c ≡ false → r ≡ false → post_refused s Full ≡ post_of s k
            unfolding post_of
            post_2 g q = rw (w, lt-ltb _ _ h, ← door, ← f, g, ← free, q)

            -- one of the 64 places is left
            pub room_left : r ≡ true → s.count < 64
            room_left q = place_room s (well_formed_lem s w) ms (party_of s k) (ltb-true _ _ (sym free ∙ q))

            pub posted : c ≡ false → r ≡ true → (n : ℕ) → n ≡ wait_after d (wait_at s k)
                → ◌≡◌ {A = PostResult} (record { answer = Ok (record { stream = k; deadline = s.clock + x.deadline }); state = record { set = s.set; clock = s.clock; count = s.count + 1; messages = set s.messages s.count (record { stream = k; deadline = s.clock + x.deadline; used = 0; stage = 0 }); waits = set s.waits k n; owners = s.owners; places = s.places } }) (post_of s k)
            unfolding post_of
            posted g q n t = rw (t, read, w, lt-ltb _ _ h, ← door, ← f, g, ← free, q)

          -- the wait keeps its rule, so it has room
          pub wait_fits : c ≡ false → wait_after d (wait_at s k) ≤ 2000000
          unfolding wait_ok
          wait_fits g =
              let most : wait_at s k ≤ most_wait (door_at s k) = leb-true _ _ (below_at (wait_ok s.set s.waits) 16 k (well_formed_lem s w).waits post_place) in
              omega (
                arith,
                after_keeps d (wait_at s k) (rw door most) (sym f ∙ g),
                most_fits d (rw door (door_valid (stream_at s.set k) (stream_valid s.set k (well_formed_lem s w).set ss h))),
              )
