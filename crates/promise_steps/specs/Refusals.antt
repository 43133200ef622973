-- Document 01, "Numbers the cab prints", of the steps: each number is given exactly when its row says, in the order "post 12, 1, 2. Unit 12, 3, 4.", with
-- request 6's 15 "after 1 and before 2", and leaves the "state unchanged".
-- Assumes nothing.
use Rattle.std.specs.Prelude.{ℕ, ◌≤◌, ◌<◌, Bool, true, false, ◌↔◌, ◌≡◌}
use Rattle.rules.specs.declared.State.{State}
use Rattle.rules.specs.declared.Call.{Call}
use Rattle.rules.specs.Streams.{empty_set, valid}
use Rattle.rules.specs.Parties.{places_of, together}
use Rattle.rules.specs.States.{party_of, held_by, most_pending, last_clock, well_formed}
use Rattle.rules.specs.Runs.{Start}
use Rattle.rules.specs.Doors.{shut}
use Rattle.rules.specs.Steps.{fresh, start_for, door_at, wait_at, post_of, choose_of, unit_of, call_of}
use Rattle.rules.specs.Numbers.{Says, refused, start_says, post_says, choose_says, unit_says, call_says}

abbrev pub says_to_post : State → ℕ → Says
says_to_post s k = post_says (post_of s k).answer

abbrev pub says_to_unit : State → Bool → Says
says_to_unit s done = unit_says (unit_of s done).answer

-- "12: state not well formed: .. no task named"
pub record TwelveOf (s : State) : Type 0 where
  pub post : (k : ℕ) → (says_to_post s k ≡ refused 12) ↔ (well_formed s ≡ false)
  pub choose : (choose_says (choose_of s) ≡ refused 12) ↔ (well_formed s ≡ false)
  pub unit : (done : Bool) → (says_to_unit s done ≡ refused 12) ↔ (well_formed s ≡ false)

unfoldable pub Twelve : Type 0
Twelve = (s : State) → TwelveOf s

-- "1: post to a stream not in the set"
pub record NotInSet (s : State) (k : ℕ) : Type 0 where
  pub formed : well_formed s ≡ true
  pub beyond : s.set.count ≤ k

unfoldable pub One : Type 0
One = (s : State) (k : ℕ) → (says_to_post s k ≡ refused 1) ↔ NotInSet s k

-- request 6: 15 at a shut door. That it is shut exactly when the post would break the stream's limit is `DoorExact` of rules, for what calls from a start leave
pub record DoorShut (s : State) (k : ℕ) : Type 0 where
  pub formed : well_formed s ≡ true
  pub in_set : k < s.set.count
  pub is_shut : shut (door_at s k) (wait_at s k) ≡ true

unfoldable pub Fifteen : Type 0
Fifteen = (s : State) (k : ℕ) → (says_to_post s k ≡ refused 15) ↔ DoorShut s k

-- request 8: "A post is refused as full exactly when its own party has its number pending."
pub record AllPlacesTaken (s : State) (k : ℕ) : Type 0 where
  pub formed : well_formed s ≡ true
  pub in_set : k < s.set.count
  pub is_open : shut (door_at s k) (wait_at s k) ≡ false
  pub full : places_of s.places (party_of s k) ≤ held_by s (party_of s k)

unfoldable pub Two : Type 0
Two = (s : State) (k : ℕ) → (says_to_post s k ≡ refused 2) ↔ AllPlacesTaken s k

-- "3: unit at clock 4,000,000,000"
pub record AtLastClock (s : State) : Type 0 where
  pub formed : well_formed s ≡ true
  pub last : last_clock ≤ s.clock

unfoldable pub Three : Type 0
Three = (s : State) (done : Bool) → (says_to_unit s done ≡ refused 3) ↔ AtLastClock s

-- "4: unit with done, nothing pending"
pub record DoneWithNothing (s : State) (done : Bool) : Type 0 where
  pub formed : well_formed s ≡ true
  pub early : s.clock < last_clock
  pub nothing : s.count ≡ 0
  pub is_done : done ≡ true

unfoldable pub Four : Type 0
Four = (s : State) (done : Bool) → (says_to_unit s done ≡ refused 4) ↔ DoneWithNothing s done

-- "state unchanged": whatever the number
unfoldable pub RefusedSame : Type 0
RefusedSame = (s : State) (c : Call) (no : ℕ) → call_says (call_of s c).answer ≡ refused no → (call_of s c).state ≡ s

-- ---- the start, from a set, whose its streams are, and the parties' places

abbrev pub says_to_start : Start → Says
says_to_start z = start_says (start_for z.set z.owners z.places).answer

-- "7: value or set out of rule"
unfoldable pub Seven : Type 0
Seven = (z : Start) → (says_to_start z ≡ refused 7) ↔ (valid z.set ≡ false)

-- request 8: "16 at start, after 7, when the places exceed 64"
pub record TooManyPlaces (z : Start) : Type 0 where
  pub valid_set : valid z.set ≡ true
  pub over : most_pending < together z.places

unfoldable pub Sixteen : Type 0
Sixteen = (z : Start) → (says_to_start z ≡ refused 16) ↔ TooManyPlaces z

-- "with the start of the empty set": whatever the number
unfoldable pub RefusedStart : Type 0
RefusedStart = (z : Start) (no : ℕ) → says_to_start z ≡ refused no → (start_for z.set z.owners z.places).state ≡ fresh empty_set
