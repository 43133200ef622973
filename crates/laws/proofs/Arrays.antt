-- What the machine's array of structs says of each of its elements, as a property of the list. Assumes nothing.
use mathlib.Core.List.{List, [], ◌∷◌}
use base.Fml.{Fml}
use mir.Val.{Val}
use denote.Shadow.{shadow}
use denote.Array.{each}
use Rattle.laws.specs.Lists.{All}

pub each_all : {D : Type 0} (own : D → List Val → Fml) (l : List D) (us : List Val) → shadow (each D own l us)
    → (P : D → Type 0) → ((x : D) (u : Val) → shadow (own x (u ∷ [])) → P x) → All P l
each_all own [] [] s P h = tt
each_all own [] (u ∷ us) s P h = tt
each_all own (x ∷ l) [] s P h = absurd s
each_all own (x ∷ l) (u ∷ us) s P h = (h x u s.0, each_all own l us s.1 P h)
