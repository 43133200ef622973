-- Pending messages paired with their numbers. Assumes nothing.
use Prim.Native.Nat.{ℕ, suc, ◌<◌}
use mathlib.Core.List.Memᴰ
use mathlib.Core.List.{List, [], ◌∷◌, ◌++◌, Memᴰ}
use mathlib.Core.Path.{◌≡◌, refl, ap, ◌∙◌}
use native.Mathlib.Omega.{arith}
use lib.ListN.{length, get_or, take, drop}
use lib.Seq.{split_at, length-take-le}
use Rattle.rules.specs.declared.Message.{Message}
use Rattle.rules.specs.States.{no_message}
use Rattle.promise_demand3.specs.Kind.{Named, paired}

abbrev pub name : ℕ → Message → Named
name n m = record { number = n; message = m }

pub paired_none : (ns : List ℕ) → paired ns [] ≡ []
unfolding paired
paired_none [] = refl
paired_none (n ∷ ns) = refl

pub paired_append : (ns : List ℕ) (ms : List Message) (ns' : List ℕ) (ms' : List Message) → length ns ≡ length ms → paired (ns ++ ns') (ms ++ ms') ≡ paired ns ms ++ paired ns' ms'
unfolding paired
paired_append [] [] ns' ms' e = refl
paired_append [] (m ∷ ms) ns' ms' e = absurd (omega arith)
paired_append (n ∷ ns) [] ns' ms' e = absurd (omega arith)
paired_append (n ∷ ns) (m ∷ ms) ns' ms' e = ap (λ (l : List Named). name n m ∷ l) (paired_append ns ms ns' ms' (omega arith))

pub paired_last : (ns : List ℕ) (ms : List Message) (n : ℕ) (m : Message) → length ns ≡ length ms → paired (ns ++ (n ∷ [])) (ms ++ (m ∷ [])) ≡ paired ns ms ++ (name n m ∷ [])
unfolding paired
paired_last ns ms n m e = paired_append ns ms (n ∷ []) (m ∷ []) e

-- a message of a pair is one of the messages, and each message is in a pair
pub message_in : (ns : List ℕ) (ms : List Message) {y : Named} → Memᴰ y (paired ns ms) → Memᴰ y.message ms
unfolding paired
message_in [] ms i = absurd (Memᴰ.not-nil i)
message_in (n ∷ ns) [] i = absurd (Memᴰ.not-nil i)
message_in (n ∷ ns) (m ∷ ms) (Memᴰ.head e) = Memᴰ.head (ap (λ (y : Named). y.message) e)
message_in (n ∷ ns) (m ∷ ms) (Memᴰ.tail i) = Memᴰ.tail (message_in ns ms i)

pub record Has (l : List Named) (m : Message) : Type 0 where
  pub number : ℕ
  pub here : Memᴰ (name number m) l

pub pair_in : (ns : List ℕ) (ms : List Message) {m : Message} → length ns ≡ length ms → Memᴰ m ms → Has (paired ns ms) m
unfolding paired
pair_in [] ms e (Memᴰ.head q) = absurd (omega arith)
pair_in [] ms e (Memᴰ.tail i) = absurd (omega arith)
pair_in (n ∷ ns) [] {m = m} e x3 = elim x3 [ ]
pair_in (n ∷ ns) (x ∷ ms) e (Memᴰ.head q) = record { number = n; here = Memᴰ.head (ap (name n) q) }
pair_in (n ∷ ns) (x ∷ ms) e (Memᴰ.tail i) =
    let h : Has (paired ns ms) _ = pair_in ns ms (omega arith) i in
    record { number = h.number; here = Memᴰ.tail h.here }

-- the pairs with the place i in the middle; without it; and with another message there
module _ (ns : List ℕ) (ms : List Message) (same : length ns ≡ length ms) (i : ℕ) (inside : i < length ms) where
  abbrev pub before : List Named
  before = paired (take i ns) (take i ms)

  abbrev pub behind : List Named
  behind = paired (drop (suc i) ns) (drop (suc i) ms)

  fronts : length (take i ns) ≡ length (take i ms)
  fronts = omega (arith, length-take-le i ns (omega arith), length-take-le i ms (omega arith))

  pub pairs_split : paired ns ms ≡ before ++ (name (get_or ns i 0) (get_or ms i no_message) ∷ behind)
  unfolding paired
  pairs_split =
      ap (λ (l : List ℕ). paired l ms) (split_at ns i 0 (omega arith))
      ∙ ap (λ (l : List Message). paired (take i ns ++ (get_or ns i 0 ∷ drop (suc i) ns)) l) (split_at ms i no_message inside)
      ∙ paired_append (take i ns) (take i ms) (get_or ns i 0 ∷ drop (suc i) ns) (get_or ms i no_message ∷ drop (suc i) ms) fronts

  pub pairs_without : paired (take i ns ++ drop (suc i) ns) (take i ms ++ drop (suc i) ms) ≡ before ++ behind
  pairs_without = paired_append (take i ns) (take i ms) (drop (suc i) ns) (drop (suc i) ms) fronts

  pub pairs_with : (m : Message) → paired ns (take i ms ++ (m ∷ drop (suc i) ms)) ≡ before ++ (name (get_or ns i 0) m ∷ behind)
  unfolding paired
  pairs_with m =
      ap (λ (l : List ℕ). paired l (take i ms ++ (m ∷ drop (suc i) ms))) (split_at ns i 0 (omega arith))
      ∙ paired_append (take i ns) (take i ms) (get_or ns i 0 ∷ drop (suc i) ns) (m ∷ drop (suc i) ms) fronts
