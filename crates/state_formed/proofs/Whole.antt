-- What the parts of a state's test come to.
-- Assumes nothing.
use Prim.Native.Nat.{ℕ, ◌≤◌, ◌<◌}
use mathlib.Core.Bool.{Bool, true, false, ◌&&◌}
use mathlib.Core.List.{List}
use mathlib.Core.Path.{◌≡◌, refl, ap, sym, ◌∙◌}
use borrow.Author.Tests.{le-leb, lt-leb}
use lib.Dec.{leb}
use lib.ListN.{drop}
use Rattle.std.specs.Prelude.{Some, None, is_some}
use Rattle.std.specs.Result.{result_ok}
use Rattle.std.specs.List.{list_all}
use Rattle.laws.specs.Lists.{below}
use Rattle.laws.proofs.Fits.{and_assoc}
use Rattle.laws.proofs.Sums.{by_test, and_no}
use Rattle.rules.specs.declared.State.{State}
use Rattle.rules.specs.Streams.{valid}
use Rattle.rules.specs.States.{pending, messages_ok, started_once, message_unused, wait_ok, well_formed}
use Rattle.state_parties.specs.declared.Held.{Held}
use Rattle.state_parties.specs.Shares.{fits_of, shared_of}
use Rattle.state_formed.specs.declared.Tested.{Tested}
use Rattle.state_formed.specs.InRange.{messages_pass, door_allows, waits_left, rest_formed, passing, tested_of, whole_of}
use Rattle.state_formed.proofs.Pass.{told_none, told_some, kept_none, kept_some}

module _ (s : State) where
  abbrev messages : Bool
  messages = messages_pass s.set s.clock (pending s)

  abbrev unused : Bool
  unused = list_all message_unused (drop s.count s.messages)

  abbrev waits : Bool
  waits = list_all (door_allows s.set.streams s.waits) (below 16)

  abbrev parties : Bool
  parties = fits_of (pending s) s.owners s.set.count s.places

  by_parts : rest_formed s ≡ (leb s.count 64 && (leb s.clock 4000000000 && (messages && (unused && (waits && parties)))))
  unfolding rest_formed messages_pass wait_ok
  by_parts = ap (λ (r : Bool). leb s.count 64 && (leb s.clock 4000000000 && r)) (and_assoc (messages_ok s.set s.clock (pending s)) (list_all (started_once s.set (pending s)) (below 16)) (unused && (waits && parties)))

  no : (leb s.count 64 && (leb s.clock 4000000000 && (messages && (unused && (waits && parties))))) ≡ false → None ≡ tested_of s
  unfolding tested_of
  no e = rw (by_parts ∙ e)

  pub count_no : 64 < s.count → None ≡ tested_of s
  count_no h = no (rw (lt-leb s.count 64 h))

  pub clock_no : 4000000000 < s.clock → None ≡ tested_of s
  clock_no h = no (and_no (leb s.count 64) _ (rw (lt-leb s.clock 4000000000 h)))

  -- a part behind the count and the clock
  behind : (messages && (unused && (waits && parties))) ≡ false → None ≡ tested_of s
  behind e = no (and_no (leb s.count 64) _ (and_no (leb s.clock 4000000000) _ e))

  pub messages_no : false ≡ messages → None ≡ tested_of s
  messages_no e = behind (rw (← e) refl)

  pub unused_no : false ≡ unused → None ≡ tested_of s
  unused_no e = behind (and_no messages _ (rw (← e) refl))

  pub waits_no : None ≡ waits_left s.set.streams s.waits → None ≡ tested_of s
  unfolding waits_left
  waits_no e = behind (and_no messages _ (and_no unused _ (rw (told_none waits _ e) refl)))

  pub parties_no : None ≡ result_ok (shared_of (pending s) s.owners s.set.count s.places) → None ≡ tested_of s
  parties_no e = behind (and_no messages _ (and_no unused _ (and_no waits _ (kept_none parties _ e))))

  pub all_yes : s.count ≤ 64 → s.clock ≤ 4000000000 → true ≡ messages → true ≡ unused → (ws : List ℕ) → Some ws ≡ waits_left s.set.streams s.waits
      → (h : Held) → Some h ≡ result_ok (shared_of (pending s) s.owners s.set.count s.places) → Some (let r : Tested = record { later = ws; held = h } in r) ≡ tested_of s
  unfolding tested_of waits_left
  all_yes a b c d ws e h f =
      let w = told_some waits ws _ e in
      let p = kept_some parties h _ f in
      rw (by_parts, le-leb s.count 64 a, le-leb s.clock 4000000000 b, ← c, ← d, w.0, p.0, w.1, p.1)

  -- the set's test first
  pub set_no : false ≡ valid s.set → None ≡ whole_of s
  unfolding whole_of well_formed
  set_no e = rw (sym e)

  pub set_yes : true ≡ valid s.set → tested_of s ≡ whole_of s
  unfolding whole_of tested_of well_formed rest_formed
  set_yes e = rw (sym e)

  pub whole_is : is_some (whole_of s) ≡ well_formed s
  unfolding whole_of
  whole_is = by_test (well_formed s) (λ t. rw t) (λ t. rw t)

  pub whole_none : None ≡ whole_of s → well_formed s ≡ false
  unfolding whole_of
  whole_none e = told_none (well_formed s) _ e

  pub whole_some : (t : Tested) → Some t ≡ whole_of s → (well_formed s ≡ true) × (t ≡ passing s)
  unfolding whole_of
  whole_some t e = told_some (well_formed s) t _ e
