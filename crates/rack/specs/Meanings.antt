-- What a rack means. A rack is a bank of stages behind one interface.
use Rattle.std.specs.Prelude.{◌≡◌, ℕ, ◌<◌, Bool, true, not, List, length, ℤ, Some, Option}
use Rattle.sets.specs.declared.bounds.Bounds.{Bounds}
use Rattle.sets.specs.declared.shape.Shape.{Shape}
use Rattle.sets.specs.Areas.{Within}
use Rattle.sets.specs.Sets.{in_limits}

-- How many stages there are; whether a stage fits so many channels; and at a shape that it fits, whether it lists
-- a channel, the spans that it makes of spans (none: a bound is beyond signed 32 bits), and the samples of samples.
-- A stage is given by its number, after the channels or the shape.
pub record Meaning : Type 0 where
  pub stages : ℕ
  pub fits : ℕ → ℕ → Bool
  pub listed : Shape → ℕ → ℕ → Bool
  pub widened : Shape → ℕ → List Bounds → Option (List Bounds)
  pub transformed : Shape → ℕ → List ℤ → List ℤ

-- the meaning with these members
abbrev pub meant : ℕ → (ℕ → ℕ → Bool) → (Shape → ℕ → ℕ → Bool) → (Shape → ℕ → List Bounds → Option (List Bounds)) → (Shape → ℕ → List ℤ → List ℤ) → Meaning
meant n fit list wide trans = record { stages = n; fits = fit; listed = list; widened = wide; transformed = trans }

-- stage k can be asked for at this shape
pub record Suits (m : Meaning) (f : Shape) (k : ℕ) : Type 0 where
  pub shape : in_limits f ≡ true
  pub below : k < m.stages
  pub fit : m.fits f.channels k ≡ true

-- there is one span for each channel, and stage k makes the spans cs of them
pub record Ready (m : Meaning) (f : Shape) (k : ℕ) (bs cs : List Bounds) : Type 0 where
  pub suits : Suits m f k
  pub many : length bs ≡ f.channels
  pub makes : m.widened f k bs ≡ Some cs

-- the set xs, within the spans bs, is what stage k turns into ys
pub record Undone (m : Meaning) (f : Shape) (k : ℕ) (bs : List Bounds) (ys xs : List ℤ) : Type 0 where
  pub inside : Within f bs xs
  pub gives : m.transformed f k xs ≡ ys

-- the same, and no other set within the spans does
pub record Restored (m : Meaning) (f : Shape) (k : ℕ) (bs : List Bounds) (ys xs : List ℤ) : Type 0 where
  pub undone : Undone m f k bs ys xs
  pub only : (zs : List ℤ) → Undone m f k bs ys zs → zs ≡ xs

abbrev pub unlisted : Meaning → Shape → ℕ → ℕ → Bool
unlisted m f k c = not (m.listed f k c)
