-- The three laws that every rack shows.
use Rattle.std.specs.Prelude.{◌≡◌, ℕ, ◌<◌, ◌≤◌, Bool, true, List, length, ℤ, Some, None, Option}
use Rattle.sets.specs.declared.bounds.Bounds.{Bounds}
use Rattle.sets.specs.declared.shape.Shape.{Shape}
use Rattle.sets.specs.Areas.{Within, span_at, sample_at}
use Rattle.rack.specs.Meanings.{Meaning, Suits, Ready, unlisted}

-- two lists of spans, and two areas, agree at the channels that p tells
abbrev pub SameSpans : Shape → (ℕ → Bool) → List Bounds → List Bounds → Type 0
SameSpans f p bs cs = (c : ℕ) → c < f.channels → p c ≡ true → span_at bs c ≡ span_at cs c

abbrev pub SameSamples : Shape → (ℕ → Bool) → List ℤ → List ℤ → Type 0
SameSamples f p xs ys = (c t : ℕ) → c < f.channels → t < f.samples → p c ≡ true → sample_at f xs c t ≡ sample_at f ys c t

-- both are too wide, or neither is and the spans agree
abbrev pub SameWidth : Shape → (ℕ → Bool) → Option (List Bounds) → Option (List Bounds) → Type 0
SameWidth f p None None = Unit {0}
SameWidth f p None (Some cs) = ⊥
SameWidth f p (Some bs) None = ⊥
SameWidth f p (Some bs) (Some cs) = SameSpans f p bs cs

-- First law: there are at most 1,000 stages, a stage makes one span for each channel again,
-- and an applied set keeps its length and lies within the new spans.
pub record Contained (m : Meaning) : Type 0 where
  pub few : m.stages ≤ 1000
  pub many : (f : Shape) (k : ℕ) (bs cs : List Bounds) → Ready m f k bs cs → length cs ≡ f.channels
  pub inside : (f : Shape) (k : ℕ) (bs cs : List Bounds) (xs : List ℤ) → Ready m f k bs cs → Within f bs xs → Within f cs (m.transformed f k xs)

-- Second law: two different sets within the spans never give the same result.
abbrev pub Apart : Meaning → Type 0
Apart m =
    (f : Shape) (k : ℕ) (bs cs : List Bounds) (xs ys : List ℤ) → Ready m f k bs cs → Within f bs xs → Within f bs ys →
    m.transformed f k xs ≡ m.transformed f k ys → xs ≡ ys

-- Third law: channels that are not listed keep samples and spans, and what becomes of the listed ones,
-- whether the stage is too wide included, depends on listed channels alone.
pub record Local (m : Meaning) : Type 0 where
  pub keeps_spans : (f : Shape) (k : ℕ) (bs cs : List Bounds) → Ready m f k bs cs → SameSpans f (unlisted m f k) bs cs
  pub keeps_samples : (f : Shape) (k : ℕ) (bs cs : List Bounds) (xs : List ℤ) → Ready m f k bs cs → Within f bs xs → SameSamples f (unlisted m f k) xs (m.transformed f k xs)
  pub local_spans : (f : Shape) (k : ℕ) (bs ds : List Bounds) → Suits m f k → length bs ≡ f.channels → length ds ≡ f.channels → SameSpans f (m.listed f k) bs ds → SameWidth f (m.listed f k) (m.widened f k bs) (m.widened f k ds)
  pub local_samples : (f : Shape) (k : ℕ) (bs cs ds es : List Bounds) (xs ys : List ℤ) → Ready m f k bs cs → Ready m f k ds es → Within f bs xs → Within f ds ys → SameSamples f (m.listed f k) xs ys → SameSamples f (m.listed f k) (m.transformed f k xs) (m.transformed f k ys)

-- a meaning with all three laws
pub record Lawful (m : Meaning) : Type 0 where
  pub contained : Contained m
  pub apart : Apart m
  pub local : Local m
