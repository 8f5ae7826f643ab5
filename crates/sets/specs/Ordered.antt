-- The rules that hold for every row of a list of spans.
use Rattle.std.specs.Prelude.{ℕ, ◌<◌, List, pos, negsuc, ◌≤ℤ◌, slice_index_or}
use Rattle.sets.specs.declared.bounds.Bounds.{Bounds}

-- what is read past the end of a list of rows
abbrev pub no_bounds : Bounds
no_bounds = record { least = pos 0; greatest = pos 0 }

-- none of the first n rows has its least above its greatest
abbrev pub Ordered : List Bounds → ℕ → Type 0
Ordered rows n = (c : ℕ) → c < n → (slice_index_or rows c no_bounds).least ≤ℤ (slice_index_or rows c no_bounds).greatest

-- no bound of the first n rows is beyond signed 32 bits
abbrev pub NoneBelow : List Bounds → ℕ → Type 0
NoneBelow rows n = (c : ℕ) → c < n → negsuc 2147483647 ≤ℤ (slice_index_or rows c no_bounds).least

abbrev pub NoneAbove : List Bounds → ℕ → Type 0
NoneAbove rows n = (c : ℕ) → c < n → (slice_index_or rows c no_bounds).greatest ≤ℤ pos 2147483647
