-- What the colour transform and dependency rows do to samples, each value from the old samples.
use Rattle.std.specs.Prelude.{ℕ, zero, suc, ◌+◌, ◌-◌, ◌/◌, ◌%◌, cond, ◌&&◌, List, [], ◌∷◌, map, length, ℤ, pos, ◌+ℤ◌, ◌-ℤ◌, ◌*ℤ◌, neg_ℤ, ◌==◌, nat_lt, slice_index_or}
use Rattle.std.specs.List.{range_with_len}
use Rattle.sets.specs.declared.shape.Shape.{Shape}
use Rattle.sets.specs.Areas.{sample_at, area_of}
use Rattle.stages.specs.Channels.{no_row}
use Rattle.stages.specs.Floors.{floor_over}
use Rattle.stages.specs.Plain.{PlainRow}
use Rattle.stages.specs.Quotients.{quotient_of}
use Rattle.rules.specs.Passes.{Pass}

-- Y0 = floor((I0 + 2 × I1 + I2) / 4), Y1 = I2 - I1, Y2 = I0 - I1, at every t, of three channels from the first on
abbrev pub rct_at : Shape → ℕ → List ℤ → ℕ → ℕ → ℤ
rct_at f first xs c t =
    cond (c == first) (floor_over (sample_at f xs first t +ℤ (pos 2 *ℤ sample_at f xs (first + 1) t +ℤ sample_at f xs (first + 2) t)) 2)
    (cond (c == first + 1) (sample_at f xs (first + 2) t -ℤ sample_at f xs (first + 1) t)
    (cond (c == first + 2) (sample_at f xs first t -ℤ sample_at f xs (first + 1) t) (sample_at f xs c t)))

abbrev pub rct_samples : Shape → ℕ → List ℤ → List ℤ
rct_samples f first xs = area_of f (rct_at f first xs)

-- the samples at t of i channels from the first on
abbrev pub before : Shape → ℕ → List ℤ → ℕ → ℕ → List ℤ
before f first xs i t = map (λ j. sample_at f xs (first + j) t) (range_with_len 0 i)

-- what row i, from 1 up, takes away at t: the floor of (the sum of its taps times x_0 to x_(i-1), plus h) / 2^e
abbrev pub row_quotient : Shape → ℕ → List PlainRow → List ℤ → ℕ → ℕ → ℤ
row_quotient f first rows xs i t = let q = slice_index_or rows (i - 1) no_row in quotient_of q.taps q.residue q.exponent (before f first xs i t)

-- y_i = x_i minus that, and x_0 is unchanged
abbrev pub dep_at : Shape → ℕ → List PlainRow → List ℤ → ℕ → ℕ → ℤ
dep_at f first rows xs c t = cond (nat_lt first c && nat_lt c (first + (length rows + 1))) (sample_at f xs c t -ℤ row_quotient f first rows xs (c - first) t) (sample_at f xs c t)

abbrev pub dep_samples : Shape → ℕ → List PlainRow → List ℤ → List ℤ
dep_samples f first rows xs = area_of f (dep_at f first rows xs)

-- Row i as a pass over its channel. The rows from i down to 1, in this order, read old samples alone.
abbrev pub row_pass : Shape → ℕ → List PlainRow → ℕ → Pass
row_pass f first rows i = record {
  hits = λ a. (a / f.samples == first + i);
  amount = λ xs a. neg_ℤ (row_quotient f first rows xs i (a % f.samples));
}

unfoldable pub row_passes : Shape → ℕ → List PlainRow → ℕ → List Pass
row_passes f first rows zero = []
row_passes f first rows (suc i) = row_pass f first rows (suc i) ∷ row_passes f first rows i
