-- What the colour transform and dependency rows do to spans: the least and the greatest of each formula over the old spans.
use Rattle.std.specs.Prelude.{ℕ, zero, suc, ◌+◌, ◌-◌, ◌^◌, cond, ◌&&◌, List, [], ◌∷◌, map, length, take, drop, pos, ◌+ℤ◌, ◌*ℤ◌, ◌==◌, nat_lt, slice_index_or}
use Rattle.std.specs.List.{range_with_len}
use Rattle.sets.specs.declared.bounds.Bounds.{Bounds}
use Rattle.stages.specs.Floors.{floor_over}
use Rattle.stages.specs.Plain.{PlainRow}
use Rattle.stages.specs.Quotients.{reach_of}
use Rattle.stages.specs.Ranges.{lowered, at}

-- Y0 = floor((I0 + 2 × I1 + I2) / 4)
abbrev pub luma : Bounds → Bounds → Bounds → Bounds
luma a b c = record {
  least = floor_over (a.least +ℤ (pos 2 *ℤ b.least +ℤ c.least)) 2;
  greatest = floor_over (a.greatest +ℤ (pos 2 *ℤ b.greatest +ℤ c.greatest)) 2;
}

-- a channel where three new spans stand from a channel on
abbrev pub coloured : ℕ → Bounds → Bounds → Bounds → List Bounds → ℕ → Bounds
coloured first y0 y1 y2 bs c = cond (c == first) y0 (cond (c == first + 1) y1 (cond (c == first + 2) y2 (at bs c)))

abbrev pub recoloured : ℕ → Bounds → Bounds → Bounds → List Bounds → List Bounds
recoloured first y0 y1 y2 bs = map (coloured first y0 y1 y2 bs) (range_with_len 0 (length bs))

-- Y1 = I2 - I1 and Y2 = I0 - I1
abbrev pub rct_after : ℕ → List Bounds → List Bounds
rct_after first bs =
    recoloured first
    (luma (at bs first) (at bs (first + 1)) (at bs (first + 2)))
    (lowered (at bs (first + 2)) (at bs (first + 1)))
    (lowered (at bs first) (at bs (first + 1)))
    bs

-- the three new spans, which are all the bounds that it makes
abbrev pub rct_made : ℕ → List Bounds → List Bounds
rct_made first bs =
    luma (at bs first) (at bs (first + 1)) (at bs (first + 2))
    ∷ lowered (at bs (first + 2)) (at bs (first + 1))
    ∷ lowered (at bs first) (at bs (first + 1))
    ∷ []

-- Row i, from 1 up, is y_i = x_i - floor((sum over j below i of t_j × x_j, plus h) / 2^e).
-- The residue of a row is its h: 2^(e - 1), or 0 when e is 0.
abbrev pub half_of : ℕ → ℕ
half_of zero = 0
half_of (suc e) = 2 ^ e

-- what is read past the last row
abbrev pub no_row : PlainRow
no_row = record { exponent = 0; residue = pos 0; taps = [] }

-- the span of y_i, where xs are the old spans of x_0, x_1 and so on
abbrev pub row_after : List PlainRow → List Bounds → ℕ → Bounds
row_after rows xs i = lowered (at xs i) (let q = slice_index_or rows (i - 1) no_row in reach_of q.taps q.residue q.exponent (take i xs))

-- the old spans of n channels
abbrev pub taken : ℕ → ℕ → List Bounds → List Bounds
taken first n bs = take n (drop first bs)

-- a channel after rows over n channels: x_0 is unchanged
abbrev pub dep_at : ℕ → ℕ → List PlainRow → List Bounds → ℕ → Bounds
dep_at first n rows bs c = cond (nat_lt first c && nat_lt c (first + n)) (row_after rows (taken first n bs) (c - first)) (at bs c)

-- the channels are one more than the rows
abbrev pub dep_after : ℕ → List PlainRow → List Bounds → List Bounds
dep_after first rows bs = map (dep_at first (length rows + 1) rows bs) (range_with_len 0 (length bs))

abbrev pub dep_made : ℕ → List PlainRow → List Bounds → List Bounds
dep_made first rows bs = map (row_after rows (taken first (length rows + 1) bs)) (range_with_len 1 (length rows))
