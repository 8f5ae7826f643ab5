-- Areas: the samples of a set, channel after channel, and what it is to lie within spans.
use Rattle.std.specs.Prelude.{◌≡◌, ℕ, zero, suc, ◌+◌, ◌*◌, ◌/◌, ◌%◌, ◌<◌, Bool, true, ◌&&◌, List, map, length, replicate, ℤ, pos, ◌≤ℤ◌, ◌==◌, int_le, slice_index_or}
use Rattle.std.specs.List.{range_with_len}
use Rattle.sets.specs.declared.bounds.Bounds.{Bounds}
use Rattle.sets.specs.declared.shape.Shape.{Shape}
use Rattle.sets.specs.Ordered.{no_bounds}

-- how many samples a set of the shape has
abbrev pub size_of : Shape → ℕ
size_of f = f.channels * f.samples

-- what stands at an address of an area
abbrev pub at : List ℤ → ℕ → ℤ
at xs a = slice_index_or xs a (pos 0)

-- sample t of channel c
abbrev pub sample_at : Shape → List ℤ → ℕ → ℕ → ℤ
sample_at f xs c t = at xs (c * f.samples + t)

-- the span of channel c
abbrev pub span_at : List Bounds → ℕ → Bounds
span_at bs c = slice_index_or bs c no_bounds

-- the area whose sample t of channel c is g c t
unfoldable pub area_of : Shape → (ℕ → ℕ → ℤ) → List ℤ
area_of f g = map (λ a. g (a / f.samples) (a % f.samples)) (range_with_len 0 (size_of f))

-- a number lies within bounds
pub record In (b : Bounds) (x : ℤ) : Type 0 where
  pub low : b.least ≤ℤ x
  pub high : x ≤ℤ b.greatest

-- a set within spans: as long as its shape says, each sample in its channel's span
pub record Within (f : Shape) (bs : List Bounds) (xs : List ℤ) : Type 0 where
  pub long : length xs ≡ size_of f
  pub inside : (c t : ℕ) → c < f.channels → t < f.samples → In (span_at bs c) (sample_at f xs c t)

-- the same as a test
abbrev pub holds : Bounds → ℤ → Bool
holds b x = int_le b.least x && int_le x b.greatest

-- each number below n passes
unfoldable pub every : ℕ → (ℕ → Bool) → Bool
every zero p = true
every (suc n) p = p n && every n p

abbrev pub within : Shape → List Bounds → List ℤ → Bool
within f bs xs = length xs == size_of f && every f.channels (λ c. every f.samples (λ t. holds (span_at bs c) (sample_at f xs c t)))

-- an area of the same length, all zeros
abbrev pub zeros : List ℤ → List ℤ
zeros xs = replicate (length xs) (pos 0)
