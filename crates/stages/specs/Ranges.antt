-- Bounds, and what is done with them. In these definitions a bound is any whole number; fits says where signed 32 bits end.
use Rattle.std.specs.Prelude.{ℕ, Bool, true, ◌&&◌, List, [], ◌∷◌, ℤ, pos, negsuc, ◌+ℤ◌, ◌-ℤ◌, int_le, slice_index_or}
use Rattle.std.specs.Int.{int_max, int_min}
use Rattle.sets.specs.declared.bounds.Bounds.{Bounds}
use Rattle.sets.specs.Ordered.{no_bounds}

-- both bounds added
abbrev pub raised : Bounds → Bounds → Bounds
raised b q = record { least = b.least +ℤ q.least; greatest = b.greatest +ℤ q.greatest }

-- b minus anything between the bounds q
abbrev pub lowered : Bounds → Bounds → Bounds
lowered b q = record { least = b.least -ℤ q.greatest; greatest = b.greatest -ℤ q.least }

-- the smallest bounds that hold both
abbrev pub hull : Bounds → Bounds → Bounds
hull a b = record { least = int_min a.least b.least; greatest = int_max a.greatest b.greatest }

-- twice both bounds
abbrev pub doubled : Bounds → Bounds
doubled b = raised b b

-- a number of signed 32 bits
abbrev pub fits32 : ℤ → Bool
fits32 z = int_le (negsuc 2147483647) z && int_le z (pos 2147483647)

abbrev pub fits : Bounds → Bool
fits b = fits32 b.least && fits32 b.greatest

-- no bound of the list is beyond signed 32 bits
abbrev pub all_fit : List Bounds → Bool
all_fit [] = true
all_fit (b ∷ bs) = fits b && all_fit bs

-- the bounds that stand at a place of a list
abbrev pub at : List Bounds → ℕ → Bounds
at bs k = slice_index_or bs k no_bounds
