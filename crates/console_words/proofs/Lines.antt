-- A line that tells an answer, or its refusal.
-- Assumes nothing.
use Rattle.std.proofs.Common.{◌≡◌, ℕ, ◌≤◌, List, [], length, Result, Ok, Err, refl}
use Rattle.std.specs.Result.{MatchResult}
use Rattle.rules.specs.declared.Refusal.{Refusal}
use Rattle.rules.specs.Numbers.{number, refused}
use Rattle.line.specs.declared.Line.{Line}
use Rattle.line.specs.Line.{holding, put_of, puts}
use Rattle.answer_words.specs.Words.{says, line_of}
use Rattle.answer_words.proofs.Ends.{ended}

-- what `told` gives, where the words that it was given put those of f on a blank line
pub told_is : {T : Type 0} {P : T → Line → Type 0} (f : Result T Refusal → List ℕ) (a : Result T Refusal) (r : Line) → length (f a) ≤ 95
    → ((why : Refusal) → f (Err why) ≡ says (refused (number why)))
    → ((x : T) (l : Line) → P x l → l ≡ puts (holding []) (f (Ok x)))
    → MatchResult a (λ x. (l : Line) × P x l × (r ≡ put_of l 10)) (λ why. r ≡ holding (line_of (says (refused (number why)))))
    → r ≡ holding (line_of (f a))
told_is f (Ok x) r s g h (l, p, e) = ended (holding []) l r (f (Ok x)) s refl (h x l p) e
told_is f (Err why) r s g h e = rw (g why) e
