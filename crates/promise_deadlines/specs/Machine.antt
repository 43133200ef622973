-- Any machine whose calls make the steps of a `Reaches`: whatever its states hold besides, whichever posts it refuses, however it breaks ties and counts time.
-- Assumes nothing.
use Rattle.std.specs.Prelude.{ℕ, ◌+◌, ◌≤◌, ◌<◌, ◌≡◌}
use mathlib.Core.List.{List, [], ◌∷◌, ◌++◌, Memᴰ}
use Rattle.promise_deadlines.specs.Model.{Model, Reaches, Left}

-- a moment of a run: what there is to see of it
pub record Moment (𝓜 : Model) : Type 0 where
  pub clock : ℕ
  pub pending : List 𝓜.Msg
  pub posts : List 𝓜.Post
  pub departures : List 𝓜.Departure

abbrev pub outset : (𝓜 : Model) → Moment 𝓜
outset 𝓜 = record { clock = 0; pending = []; posts = []; departures = [] }

abbrev pub Reached : (𝓜 : Model) → Moment 𝓜 → Type 0
Reached 𝓜 m = Reaches 𝓜 m.clock m.pending m.posts m.departures

-- no message is pending at its deadline or after it
abbrev pub NoneDue : (𝓜 : Model) → Moment 𝓜 → Type 0
NoneDue 𝓜 m = (x : 𝓜.Msg) → Memᴰ x m.pending → m.clock < 𝓜.deadline x

-- DEMAND 3 at a moment: each accepted message whose deadline the clock has reached has left, not after its deadline
abbrev pub AllLeft : (𝓜 : Model) → Moment 𝓜 → Type 0
AllLeft 𝓜 m = (p : 𝓜.Post) → Memᴰ p m.posts → 𝓜.post_clock p + 𝓜.span (𝓜.post_stream p) ≤ m.clock → Left 𝓜 m.departures p

-- m' is reached, and its posts are those of m and perhaps more
pub record Next (𝓜 : Model) (m m' : Moment 𝓜) : Type 0 where
  pub reached : Reached 𝓜 m'
  pub more : List 𝓜.Post
  pub grown : m'.posts ≡ m.posts ++ more

-- the state after calls, the first first
module _ {S C : Type 0} (step : S → C → S) where
  unfoldable pub runs : S → List C → S
  runs s [] = s
  runs s (c ∷ cs) = runs (step s c) cs

pub record Following (𝓜 : Model) {S : Type 0} (Shows : S → Moment 𝓜 → Type 0) (m : Moment 𝓜) (s : S) : Type 0 where
  pub to : Moment 𝓜
  pub shown : Shows s to
  pub next : Next 𝓜 m to

-- A machine with states S and calls C. `Shows s m`: the state s shows the moment m, and keeps what else the machine keeps.
pub record Lawful (𝓜 : Model) {S C : Type 0} (begin : S) (step : S → C → S) : Type 1 where
  pub Shows : S → Moment 𝓜 → Type 0
  pub begins : Shows begin (outset 𝓜)
  pub follows : (s : S) (c : C) (m : Moment 𝓜) → Reached 𝓜 m → Shows s m → Following 𝓜 Shows m (step s c)
