-- What one call of the inner loop does: a run of evenly spaced samples, each changed by a quotient of others.
use Rattle.std.specs.Prelude.{◌≡◌, ℕ, ◌+◌, ◌*◌, ◌<◌, Bool, List, map, length, ℤ, FitsSigned, ◌≢◌, slice_index}
use Rattle.std.specs.List.{range_with_len}
use Rattle.std.specs.Int.{int_wrap, w32}
use Rattle.sets.specs.Areas.{at}
use Rattle.stages.specs.declared.quotient.Quotient.{Quotient}
use Rattle.stages.specs.Plain.{taps_of}
use Rattle.stages.specs.Quotients.{quotient_of}
use Rattle.transform.specs.declared.row.Row.{Row}
use Rattle.transform.specs.Turned.{turned_by}

-- the address of sample i
abbrev pub place : Row → ℕ → ℕ
place r i = r.to + i * r.by

-- the quotient of the samples of xs at the addresses from, each moved on by shift
abbrev pub quotient_at : Quotient → List ℤ → List ℕ → ℕ → ℤ
quotient_at q xs from shift = quotient_of (taps_of q) q.residue q.exponent (map (λ k. at xs (slice_index from k + shift)) (range_with_len 0 q.tap_count))

-- what becomes of sample i of xs
abbrev pub turned_at : Bool → Row → List ℤ → ℕ → ℤ
turned_at undo r xs i = int_wrap w32 (turned_by undo (at xs (place r i)) (quotient_at r.quotient xs r.from (i * r.by)))

-- the first n samples are changed, each by the quotient of what stood at the addresses that it reads
pub record Rowed (undo : Bool) (r : Row) (n : ℕ) (xs ys : List ℤ) : Type 0 where
  pub long : length ys ≡ length xs
  pub hit : (i : ℕ) → i < n → FitsSigned w32 (at xs (place r i)) × (at ys (place r i) ≡ turned_at undo r xs i)
  pub kept : (a : ℕ) → ((i : ℕ) → i < n → a ≢ place r i) → at ys a ≡ at xs a

-- the addresses lie in an area of so many samples
pub record Fitted (r : Row) (size : ℕ) : Type 0 where
  pub inside : (i : ℕ) → i < r.count → place r i < size
  pub sources : (k i : ℕ) → k < r.quotient.tap_count → i < r.count → slice_index r.from k + i * r.by < size
