-- Pending messages in their order, as propositions: what a post, a departure, and a message in the place of another leave of it. Assumes nothing.
use Prim.Native.Nat.{ℕ, ◌+◌, ◌≤◌, ◌<◌}
use mathlib.Core.Bool.{true}
use mathlib.Core.List.{List, [], ◌∷◌, ◌++◌}
use mathlib.Core.Path.{◌≡◌, refl, subst}
use native.Mathlib.Omega.{arith}
use Rattle.laws.specs.Lists.{scan}
use Rattle.laws.proofs.Sums.{and_parts}
use Rattle.rules.specs.declared.Set.{Set}
use Rattle.rules.specs.declared.Message.{Message}
use Rattle.rules.specs.States.{stages_in, cost_of, posted_at, message_ok, messages_ok}
use Rattle.state_formed.proofs.Standing.{Standing, standing, standing_ok}

module _ (x : Set) where
  -- each message stands behind the one before it; the first behind one posted at b
  abbrev pub Rows : ℕ → ℕ → List Message → Type 0
  Rows clock b [] = Unit {0}
  Rows clock b (m ∷ l) = Standing x clock b m × Rows clock (posted_at x m) l

  rows_of : (clock b : ℕ) (l : List Message) → scan (message_ok x clock) (posted_at x) b l ≡ true → Rows clock b l
  unfolding scan
  rows_of clock b [] e = tt
  rows_of clock b (m ∷ l) e = (
    standing x clock b m (and_parts (message_ok x clock b m) (scan (message_ok x clock) (posted_at x) (posted_at x m) l) e).0,
    rows_of clock (posted_at x m) l (and_parts (message_ok x clock b m) (scan (message_ok x clock) (posted_at x) (posted_at x m) l) e).1,
  )

  rows_back : (clock b : ℕ) (l : List Message) → Rows clock b l → scan (message_ok x clock) (posted_at x) b l ≡ true
  unfolding scan
  rows_back clock b [] r = refl
  rows_back clock b (m ∷ l) r = rw (standing_ok x clock b m r.0, rows_back clock (posted_at x m) l r.1)

  pub rows : (clock : ℕ) (l : List Message) → messages_ok x clock l ≡ true → Rows clock 0 l
  unfolding messages_ok
  rows clock l e = rows_of clock 0 l e

  pub rows_ok : (clock : ℕ) (l : List Message) → Rows clock 0 l → messages_ok x clock l ≡ true
  unfolding messages_ok
  rows_ok clock l r = rows_back clock 0 l r

  -- a message that is behind every clock so far goes last
  pub rows_last : (clock b : ℕ) (l : List Message) (m : Message) → b ≤ clock → ((c : ℕ) → c ≤ clock → Standing x clock c m) → Rows clock b l → Rows clock b (l ++ (m ∷ []))
  rows_last clock b [] m h s r = (s b h, tt)
  rows_last clock b (y ∷ l) m h s r = (r.0, rows_last clock (posted_at x y) l m (omega (arith, r.0.late)) s r.1)

  later : (clock b : ℕ) (m : Message) → Standing x clock b m → Standing x (clock + 1) b m
  later clock b m s = record { stream = s.stream; stage = s.stage; used = s.used; early = s.early; late = omega (arith, s.late); order = s.order }

  pub rows_later : (clock b : ℕ) (l : List Message) → Rows clock b l → Rows (clock + 1) b l
  rows_later clock b [] r = tt
  rows_later clock b (m ∷ l) r = (later clock b m r.0, rows_later clock (posted_at x m) l r.1)

  -- a message n in the place of m: of the same stream and deadline, in a stage of its stream, and less than that stage's cost used
  pub record Instead (m n : Message) : Type 0 where
    pub stream : n.stream ≡ m.stream
    pub deadline : n.deadline ≡ m.deadline
    pub stage : n.stage < stages_in x n
    pub used : n.used < cost_of x n

  stands : (clock b : ℕ) (m n : Message) → Instead m n → Standing x clock b m → Standing x clock b n
  stands clock b m n h s =
      record {
        stream = rw h.stream s.stream;
        stage = h.stage;
        used = h.used;
        early = rw (h.stream, h.deadline) s.early;
        late = rw (h.stream, h.deadline) s.late;
        order = rw (h.stream, h.deadline) s.order;
      }

  posted_same : (m n : Message) → Instead m n → posted_at x m ≡ posted_at x n
  posted_same m n h = rw (h.stream, h.deadline)

  pub rows_put : (clock b : ℕ) (xs : List Message) (m n : Message) (ys : List Message) → Instead m n → Rows clock b (xs ++ (m ∷ ys)) → Rows clock b (xs ++ (n ∷ ys))
  rows_put clock b [] m n ys h r = (stands clock b m n h r.0, subst (λ (c : ℕ). Rows clock c ys) (posted_same m n h) r.1)
  rows_put clock b (y ∷ xs) m n ys h r = (r.0, rows_put clock (posted_at x y) xs m n ys h r.1)

  -- a message leaves
  sooner : (clock b c : ℕ) (l : List Message) → c ≤ b → Rows clock b l → Rows clock c l
  sooner clock b c [] h r = tt
  sooner clock b c (m ∷ l) h r =
      (record { stream = r.0.stream; stage = r.0.stage; used = r.0.used; early = r.0.early; late = r.0.late; order = omega (arith, r.0.order) }, r.1)

  pub rows_leave : (clock b : ℕ) (xs : List Message) (m : Message) (ys : List Message) → Rows clock b (xs ++ (m ∷ ys)) → Rows clock b (xs ++ ys)
  rows_leave clock b [] m ys r = sooner clock (posted_at x m) b ys r.0.order r.1
  rows_leave clock b (y ∷ xs) m ys r = (r.0, rows_leave clock (posted_at x y) xs m ys r.1)

  -- the message in the middle
  pub row_at : (clock b : ℕ) (xs : List Message) (m : Message) (ys : List Message) → Rows clock b (xs ++ (m ∷ ys)) → (c : ℕ) × Standing x clock c m
  row_at clock b [] m ys r = (b, r.0)
  row_at clock b (y ∷ xs) m ys r = row_at clock (posted_at x y) xs m ys r.1
