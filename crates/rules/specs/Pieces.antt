-- Document 02, request 5, "Sheets over the service cable".
-- Assumes nothing.
use Rattle.std.specs.Prelude.{ℕ, ◌<◌, List, [], ◌∷◌, ◌≡◌}
use Rattle.laws.specs.Lists.{All, flat}
use Rattle.rules.specs.declared.Refusal.TheVariants.{IllFormed}
use Rattle.std.specs.Prelude.{Result, Ok, Err}
use Rattle.rules.specs.declared.Refusal.{Refusal}
use Rattle.rules.specs.declared.ReadResult.{ReadResult}
use Rattle.rules.specs.Sheet.{no_set, read_of}

-- "The cable brings a sheet as pieces, any cut and some with no bytes.": a piece is bytes, as many as one likes
abbrev pub Byte : ℕ → Type 0
Byte b = b < 256

abbrev pub Piece : List ℕ → Type 0
Piece p = All Byte p

-- "the joined bytes"
abbrev pub whole : List ℕ → List ℕ
whole p = p

abbrev pub joined : List (List ℕ) → List ℕ
joined ps = flat whole ps

-- What takes a sheet from the cable, with any kind of carried state: the state at first; what feeding a piece answers, and the state that it leaves; what closing gives.
pub record Cable (C : Type 0) : Type 0 where
  pub first : C
  pub feeds : C → List ℕ → Result (Unit {0}) Refusal
  pub leaves : C → List ℕ → C
  pub closes : C → ReadResult

-- the pieces are fed one behind the other
unfoldable pub fed_from : {C : Type 0} → Cable C → C → List (List ℕ) → C
fed_from k c [] = c
fed_from k c (p ∷ ps) = fed_from k (k.leaves c p) ps

abbrev pub left_by : {C : Type 0} → Cable C → List (List ℕ) → C
left_by k ps = fed_from k k.first ps

-- "a carried state that no pieces could have left" is one of which this does not hold
pub record CouldLeave {C : Type 0} (k : Cable C) (c : C) : Type 0 where
  pub pieces : List (List ℕ)
  pub bytes : All Piece pieces
  pub same : left_by k pieces ≡ c

-- The request. `Housed` says that a carried state's arrays have the lengths that their types give them: every one that a program holds is so.
pub record TakesPieces {C : Type 0} (k : Cable C) (Housed : C → Type 0) : Type 0 where
  -- "Feeding the pieces and then closing gives the set, or the refusal, that the joined bytes give"
  pub closing : (ps : List (List ℕ)) → All Piece ps → k.closes (left_by k ps) ≡ read_of (joined ps)
  -- "nothing is handed out before closing": whatever has come, a piece is fed
  pub feeding : (c : C) (p : List ℕ) → Housed c → Piece p → CouldLeave k c → k.feeds c p ≡ (Ok tt)
  -- "12 for a carried state that no pieces could have left, which stays unchanged": feeding leaves it as it is, and closing gives the empty set
  pub twelve : (c : C) (p : List ℕ) → Housed c → Piece p → (CouldLeave k c → ⊥) → (k.feeds c p ≡ Err IllFormed) × (k.leaves c p ≡ c)
  pub shut : (c : C) → Housed c → (CouldLeave k c → ⊥) → k.closes c ≡ no_set IllFormed
