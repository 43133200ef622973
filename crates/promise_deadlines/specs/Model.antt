-- What the deadline argument speaks of: any kind of message, post and departure, and the runs of a scheduler over them.
-- The set of document 01 is one kind; stages, parties, other ties and a wrapped clock are others.
-- Assumes nothing.
use Rattle.std.specs.Prelude.{ℕ, suc, ◌+◌, ◌-◌, ◌*◌, ◌≤◌, ◌<◌, Bool, cond, ◌&&◌, ◌⊎◌, ◌≡◌, length, leb, eqb}
use mathlib.Core.List.{List, [], ◌∷◌, ◌++◌, Memᴰ}
use Rattle.laws.specs.Lists.{within, below, sum, count}

pub record Model : Type 1 where
  -- a message: its number in the order of the accepted posts, its stream, the task that it waits for, its deadline
  pub Msg : Type 0
  pub number : Msg → ℕ
  pub stream : Msg → ℕ
  pub task : Msg → ℕ
  pub deadline : Msg → ℕ
  -- the units that it may still take in all; those that its task may still owe it because it has started, 0 if it has not
  pub rest : Msg → ℕ
  pub hold : Msg → ℕ
  -- the rules of a message by itself
  pub Fine : Msg → Type 0
  -- an accepted post: its number, its stream and the clock at it
  pub Post : Type 0
  pub post_number : Post → ℕ
  pub post_stream : Post → ℕ
  pub post_clock : Post → ℕ
  -- a departure: the number of the message that left, the clock after its last unit, and what else it truly tells of the message as it stood before that unit
  pub Departure : Type 0
  pub left_number : Departure → ℕ
  pub left_clock : Departure → ℕ
  pub Tells : Msg → Departure → Type 0
  -- the set: how many streams and tasks; a stream's cost in all, relative deadline and event limit
  pub streams : ℕ
  pub tasks : ℕ
  pub cost : ℕ → ℕ
  pub span : ℕ → ℕ
  pub limit : ℕ → ℕ → ℕ
  -- a task's largest c - 1 among the streams with d above I; that it has a stream with d not above I; the blocking that the load check counts for it
  pub cap : ℕ → ℕ → ℕ
  pub Urgent : ℕ → ℕ → Type 0
  pub blocking : ℕ → ℕ → ℕ
  pub blocking_urgent : (k i : ℕ) → Urgent k i → cap k i ≤ blocking k i
  -- what the argument uses of a message that keeps the rules
  pub live : (m : Msg) → Fine m → 0 < rest m
  pub task_in : (m : Msg) → Fine m → task m < tasks
  pub capped : (m : Msg) → Fine m → (i : ℕ) → i < span (stream m) → hold m ≤ cap (task m) i
  pub urges : (m : Msg) → Fine m → (i : ℕ) → span (stream m) ≤ i → Urgent (task m) i

module _ (𝓜 : Model) where
  open 𝓜 use {Msg, number, stream, task, deadline, rest, hold, Fine, Post, post_number, post_stream, post_clock, Departure, left_number, left_clock, Tells, streams, tasks, cost, span, limit, blocking}

  -- ---- event limits and demand

  -- a post to the stream s at a clock from x to x + i, both ends counted
  unfoldable pub in_window : ℕ → ℕ → ℕ → Post → Bool
  in_window s x i p = eqb (post_stream p) s && within x (post_clock p) (x + i)

  -- every stream's event limit is kept in every window
  abbrev pub Keeps : List Post → Type 0
  Keeps h = (s : ℕ) → s < streams → (x i : ℕ) → count (in_window s x i) h ≤ limit s i

  -- what the stream s may ask for in a length i
  unfoldable pub due : ℕ → ℕ → ℕ
  due i s = cond (leb (span s) i) (cost s * limit s (i - span s)) 0

  abbrev pub blocked : ℕ → ℕ → ℕ
  blocked i k = blocking k i

  unfoldable pub demand : ℕ → ℕ
  demand i = sum (due i) (below streams) + sum (blocked i) (below tasks)

  -- the set is accepted: demand fits in every length
  abbrev pub Fits : Type 0
  Fits = (i : ℕ) → demand i ≤ i

  -- ---- steps

  -- m is the message of the post p
  pub record Of (p : Post) (m : Msg) : Type 0 where
    pub named : number m ≡ post_number p
    pub to : stream m ≡ post_stream p
    pub until : deadline m ≡ post_clock p + span (post_stream p)

  -- p is accepted at the clock t, behind the posts h, and m is its message
  pub record New (t : ℕ) (h : List Post) (p : Post) (m : Msg) : Type 0 where
    pub next : post_number p ≡ length h
    pub now : post_clock p ≡ t
    pub stream_in : post_stream p < streams
    pub message : Of p m
    pub whole : rest m ≤ cost (post_stream p)
    pub unstarted : hold m ≡ 0
    pub fine : Fine m

  -- The choice of x among the pending messages l: its task has a message `first` of the least deadline of all (the inheritance of 5.3.3),
  -- and x is its started message, if it has one, else one of its least deadline. Nothing is said of ties.
  pub record Choice (l : List Msg) (x : Msg) : Type 0 where
    pub first : Msg
    pub first_in : Memᴰ first l
    pub first_task : task first ≡ task x
    pub first_least : (y : Msg) → Memᴰ y l → deadline first ≤ deadline y
    pub none_started : hold x ≡ 0 → (y : Msg) → Memᴰ y l → task y ≡ task x → hold y ≡ 0
    pub least_own : hold x ≡ 0 → (y : Msg) → Memᴰ y l → task y ≡ task x → deadline x ≤ deadline y

  -- x is y after a unit, if it stays
  pub record Stays (x y : Msg) : Type 0 where
    pub same_number : number y ≡ number x
    pub same_stream : stream y ≡ stream x
    pub same_deadline : deadline y ≡ deadline x
    pub less_rest : rest y < rest x
    -- it stays with its task, or waits unstarted for another
    pub same_task : (hold y ≡ 0) ⊎ (task y ≡ task x)
    pub less_hold : 0 < hold x → hold y < hold x
    pub still_fine : Fine y

  -- x leaves at the unit that begins at the clock t, and d is its departure
  pub record Leaves (t : ℕ) (x : Msg) (d : Departure) : Type 0 where
    pub named : left_number d ≡ number x
    pub timed : left_clock d ≡ suc t
    pub told : Tells x d

  -- what a unit at the clock t makes of x, and the departure that it adds
  pub data After (t : ℕ) (x : Msg) : List Msg → List Departure → Type 0 where
    leaves : {d : Departure} → Leaves t x d → After t x [] (d ∷ [])
    stays : {y : Msg} → Stays x y → After t x (y ∷ []) []

  -- the clock, the pending messages in posting order, the accepted posts and the departures that calls from a start can leave. A refused call changes nothing.
  pub data Reaches : ℕ → List Msg → List Post → List Departure → Type 0 where
    start : Reaches 0 [] [] []
    post : {t : ℕ} {l : List Msg} {h : List Post} {ds : List Departure} → Reaches t l h ds → (p : Post) (m : Msg) → New t h p m → Reaches t (l ++ (m ∷ [])) (h ++ (p ∷ [])) ds
    unit : {t : ℕ} {h : List Post} {ds : List Departure} (xs : List Msg) (x : Msg) (ys r : List Msg) (e : List Departure)
        → Reaches t (xs ++ (x ∷ ys)) h ds → Choice (xs ++ (x ∷ ys)) x → After t x r e → Reaches (suc t) (xs ++ (r ++ ys)) h (ds ++ e)
    idle : {t : ℕ} {h : List Post} {ds : List Departure} → Reaches t [] h ds → Reaches (suc t) [] h ds

  -- ---- what is promised

  -- the message of the post p is pending
  pub record Pending (l : List Msg) (p : Post) : Type 0 where
    pub who : Msg
    pub who_in : Memᴰ who l
    pub of : Of p who

  -- the message of the post p has left, not after its deadline
  pub record Left (ds : List Departure) (p : Post) : Type 0 where
    pub departure : Departure
    pub departure_in : Memᴰ departure ds
    pub who : Msg
    pub of : Of p who
    pub named : left_number departure ≡ number who
    pub told : Tells who departure
    pub in_time : left_clock departure ≤ deadline who
