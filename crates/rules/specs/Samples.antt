-- The rule on samples of every kind of stage, and what a bank of stages means.
use Rattle.std.specs.Prelude.{◌≡◌, ℕ, Bool, cond, not, ◌&&◌, List, length, ℤ, Some, None, Option, nat_le, nat_lt}
use Rattle.sets.specs.declared.bounds.Bounds.{Bounds}
use Rattle.sets.specs.declared.shape.Shape.{Shape}
use Rattle.sets.specs.Areas.{size_of, Within}
use Rattle.stages.specs.Plain.{Plain, lift, dep, rct}
use Rattle.stages.specs.Ranges.{all_fit}
use Rattle.stages.specs.Stages.{first_of, end_of, fits_in, spans_after, bounds_made}
use Rattle.rack.specs.Meanings.{Meaning}
use Rattle.rack.specs.Laws.{SameSpans, SameSamples}
use Rattle.rules.specs.Lifted.{lift_samples}
use Rattle.rules.specs.Mixed.{rct_samples, dep_samples}

-- the channels of a stage, from its first one on
abbrev pub lists : Plain → ℕ → Bool
lists s c = nat_le (first_of s) c && nat_lt c (end_of s)

-- the samples after the stage
abbrev pub samples_after : Shape → Plain → List ℤ → List ℤ
samples_after f (lift l ss) xs = lift_samples f l ss xs
samples_after f (dep first rows) xs = dep_samples f first rows xs
samples_after f (rct first) xs = rct_samples f first xs

-- the spans after the stage, unless a bound made on the way is beyond signed 32 bits
abbrev pub spans_made : Shape → Plain → List Bounds → Option (List Bounds)
spans_made f s bs = cond (all_fit (bounds_made f s bs)) (Some (spans_after f s bs)) None

-- a bank of n stages, of which stage k is p c k in a set of c channels
abbrev pub bank : ℕ → (ℕ → ℕ → Plain) → Meaning
bank n p = record {
  stages = n;
  fits = λ c k. fits_in (p c k) c;
  listed = λ f k c. lists (p f.channels k) c;
  widened = λ f k bs. spans_made f (p f.channels k) bs;
  transformed = λ f k xs. samples_after f (p f.channels k) xs;
}

-- what a stage that fits the shape keeps to: the laws of a rack, for one stage
pub record StageLaws (f : Shape) (s : Plain) : Type 0 where
  pub many : (bs : List Bounds) → length bs ≡ f.channels → length (spans_after f s bs) ≡ f.channels
  pub inside : (bs : List Bounds) (xs : List ℤ) → length bs ≡ f.channels → Within f bs xs → Within f (spans_after f s bs) (samples_after f s xs)
  pub apart : (xs ys : List ℤ) → length xs ≡ size_of f → length ys ≡ size_of f → samples_after f s xs ≡ samples_after f s ys → xs ≡ ys
  pub keeps_spans : (bs : List Bounds) → length bs ≡ f.channels → SameSpans f (λ c. not (lists s c)) bs (spans_after f s bs)
  pub keeps_samples : (xs : List ℤ) → length xs ≡ size_of f → SameSamples f (λ c. not (lists s c)) xs (samples_after f s xs)
  pub local_spans : (bs ds : List Bounds) → length bs ≡ f.channels → length ds ≡ f.channels → SameSpans f (lists s) bs ds → SameSpans f (lists s) (spans_after f s bs) (spans_after f s ds)
  pub local_width : (bs ds : List Bounds) → length bs ≡ f.channels → length ds ≡ f.channels → SameSpans f (lists s) bs ds → all_fit (bounds_made f s bs) ≡ all_fit (bounds_made f s ds)
  pub local_samples : (xs ys : List ℤ) → length xs ≡ size_of f → length ys ≡ size_of f → SameSamples f (lists s) xs ys → SameSamples f (lists s) (samples_after f s xs) (samples_after f s ys)
