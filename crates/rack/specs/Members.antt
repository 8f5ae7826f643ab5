-- A meaning from the members of a trait, each a function of the rack, and what a maker's methods may ask for.
use Rattle.std.specs.Prelude.{ℕ, Bool, List, ℤ, Option}
use Rattle.sets.specs.declared.bounds.Bounds.{Bounds}
use Rattle.sets.specs.declared.shape.Shape.{Shape}
use Rattle.rack.specs.Meanings.{Meaning, meant, Ready}

-- the meaning of s
abbrev pub meant_at : {S : Type 0} → (S → ℕ) → (S → ℕ → ℕ → Bool) → (S → Shape → ℕ → ℕ → Bool) → (S → Shape → ℕ → List Bounds → Option (List Bounds)) → (S → Shape → ℕ → List ℤ → List ℤ) → S → Meaning
meant_at n fit list wide trans s = meant (n s) (fit s) (list s) (wide s) (trans s)

-- stage k makes some spans of the spans bs
abbrev pub Admitted : Meaning → Shape → ℕ → List Bounds → Type 0
Admitted m f k bs = (cs : List Bounds) × Ready m f k bs cs
