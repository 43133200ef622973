-- What the answers to posts are reckoned from: a ledger of the accepted posts, each with its stream and the time at it, and of how many messages left.
-- Assumes nothing.
use Prim.Native.Nat.{ℕ, ◌+◌, ◌≤◌, ◌<◌}
use mathlib.Core.Bool.{Bool, true, ◌&&◌}
use mathlib.Core.List.{List, [], ◌∷◌, ◌++◌}
use mathlib.Core.Path.{◌≡◌, refl, ap₂, sym, subst, ◌∙◌}
use native.Mathlib.Omega.{arith}
use lib.ListN.{length}
use lib.Dec.{eqb}
use Rattle.laws.specs.Lists.{within, count}
use Rattle.rules.specs.declared.Set.{Set}
use Rattle.rules.specs.Streams.{stream_at, limit}
use Rattle.rules.specs.Doors.{has_door}
use Rattle.rules.specs.Numbers.{Says, refused, posted}
use Rattle.promise_views.specs.Views.{Sight, asks, loses}

pub record Known : Type 0 where
  pub stream : ℕ
  pub at : ℕ

pub record Ledger : Type 0 where
  pub posts : List Known
  pub left : ℕ

abbrev pub known : ℕ → ℕ → Known
known k at = record { stream = k; at = at }

abbrev pub empty : Ledger
empty = record { posts = []; left = 0 }

abbrev pub noted : Ledger → ℕ → ℕ → Ledger
noted l k at = record { posts = l.posts ++ (known k at ∷ []); left = l.left }

abbrev pub lost : Ledger → Ledger
lost l = record { posts = l.posts; left = l.left + 1 }

abbrev pub known_in : ℕ → ℕ → ℕ → Known → Bool
known_in k x i p = eqb p.stream k && within x p.at (x + i)

-- of a set, with so many places
module _ (S : Set) (room : ℕ) where
  -- a post that would break its stream's limit
  pub record TooSoon (l : Ledger) (k at : ℕ) : Type 0 where
    pub door : has_door (stream_at S k) ≡ true
    pub from : ℕ
    pub span : ℕ
    pub over : limit (stream_at S k) span < count (known_in k from span) (l.posts ++ (known k at ∷ []))

  -- what a post is answered, and the ledger behind it
  pub data Tells (l : Ledger) (k at : ℕ) : Says → Ledger → Type 0 where
    unknown : S.count ≤ k → Tells l k at (refused 1) l
    early : k < S.count → TooSoon l k at → Tells l k at (refused 15) l
    full : k < S.count → (TooSoon l k at → ⊥) → room + l.left ≤ length l.posts → Tells l k at (refused 2) l
    taken : k < S.count → (TooSoon l k at → ⊥) → length l.posts < room + l.left → Tells l k at (posted k (at + (stream_at S k).deadline)) (noted l k at)

  pub tells_same : (l : Ledger) (k at : ℕ) {a b : Says} {m n : Ledger} → Tells l k at a m → Tells l k at b n → (a ≡ b) × (m ≡ n)
  tells_same l k at (unknown p) (unknown q) = (refl, refl)
  tells_same l k at (unknown p) (early h q) = absurd (omega arith)
  tells_same l k at (unknown p) (full h q g) = absurd (omega arith)
  tells_same l k at (unknown p) (taken h q g) = absurd (omega arith)
  tells_same l k at (early h p) (unknown q) = absurd (omega arith)
  tells_same l k at (early h p) (early i q) = (refl, refl)
  tells_same l k at (early h p) (full i q g) = absurd (q p)
  tells_same l k at (early h p) (taken i q g) = absurd (q p)
  tells_same l k at (full h p f) (unknown q) = absurd (omega arith)
  tells_same l k at (full h p f) (early i q) = absurd (p q)
  tells_same l k at (full h p f) (full i q g) = (refl, refl)
  tells_same l k at (full h p f) (taken i q g) = absurd (omega arith)
  tells_same l k at (taken h p f) (unknown q) = absurd (omega arith)
  tells_same l k at (taken h p f) (early i q) = absurd (p q)
  tells_same l k at (taken h p f) (full i q g) = absurd (omega arith)
  tells_same l k at (taken h p f) (taken i q g) = (refl, refl)

  -- what all posts that are seen are answered
  pub record Reply (l : Ledger) (k at : ℕ) (says : List Says) (Next : Ledger → List Says → Type 0) : Type 0 where
    pub first : Says
    pub behind : Ledger
    pub others : List Says
    pub are : says ≡ first ∷ others
    pub tells : Tells l k at first behind
    pub next : Next behind others

  unfoldable pub Told : List Sight → Ledger → List Says → Type 0
  Told [] l says = says ≡ []
  Told (asks k at ∷ v) l says = Reply l k at says (Told v)
  Told (loses ∷ v) l says = Told v (lost l) says

  pub told_same : (v : List Sight) (l : Ledger) (a b : List Says) → Told v l a → Told v l b → a ≡ b
  unfolding Told
  told_same [] l a b p q = p ∙ sym q
  told_same (asks k at ∷ v) l a b p q =
      let e = tells_same l k at p.tells q.tells in
      p.are
      ∙ ap₂ (λ (s : Says) (l : List Says). s ∷ l) e.0 (told_same v p.behind p.others q.others p.next (subst (λ (m : Ledger). Told v m q.others) (sym e.1) q.next))
      ∙ sym q.are
  told_same (loses ∷ v) l a b p q = told_same v (lost l) a b p q
