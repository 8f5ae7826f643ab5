-- Every pass of dependency rows meets and leaves signed 32-bit numbers, where the old spans and the new ones are such.
use Rattle.std.proofs.Common.{◌≡◌, ℕ, zero, suc, ◌+◌, ◌/◌, ◌%◌, ◌<◌, ◌≤◌, true, List, length, ℤ, ◌-ℤ◌, sym, refl, ap, ◌∙◌, arith, w32, SFits}
use Rattle.std.proofs.lemmas.Bool.{eqb-true, leb-true}
use Rattle.sets.specs.declared.bounds.Bounds.{Bounds}
use Rattle.sets.specs.declared.shape.Shape.{Shape}
use Rattle.sets.specs.Areas.{size_of, at, sample_at, span_at, Within}
use Rattle.stages.specs.Channels.{row_after, taken, dep_made}
use Rattle.stages.specs.Plain.{PlainRow, dep}
use Rattle.stages.specs.Ranges.{all_fit}
use Rattle.stages.specs.Stages.{fits_in, bounds_made}
use Rattle.rules.specs.Mixed.{row_quotient, row_pass, row_passes}
use Rattle.rules.specs.Passes.{passed, FitsAt, Fitting, none, more}
use Rattle.rules.proofs.Fits.{in_fits, all_fit_at, all_fit_made}
use Rattle.rules.proofs.Passing.{length-passed}
use Rattle.rules.proofs.Places.{at-sample, time_below}
use Rattle.rules.proofs.RowPasses.{row_kept}
use Rattle.rules.proofs.RowReads.{quotient_same, row_in}

module _ (f : Shape) (first : ℕ) (rows : List PlainRow) (fit : first + (length rows + 1) ≤ f.channels)
    (bs : List Bounds) (xs : List ℤ) (l : length bs ≡ f.channels) (old : all_fit bs ≡ true) (new : all_fit (dep_made first rows bs) ≡ true) (w : Within f bs xs) where
  old_fits : (c t : ℕ) → c < f.channels → t < f.samples → SFits w32 (sample_at f xs c t)
  old_fits c t h k = in_fits (span_at bs c) _ (all_fit_at bs c (omega arith) old) (w.inside c t h k)

  new_fits : (i t : ℕ) → 1 ≤ i → i ≤ length rows → t < f.samples → SFits w32 (sample_at f xs (first + i) t -ℤ row_quotient f first rows xs i t)
  new_fits i t h k m =
      in_fits (row_after rows (taken first (length rows + 1) bs) i) _
      (all_fit_made (row_after rows (taken first (length rows + 1) bs)) 1 (length rows) new i h (omega arith))
      (row_in first rows f bs xs (length rows + 1) i t (omega arith) fit m l w)

  -- an area whose samples up to channel first + i are the old ones
  module _ (zs : List ℤ) (m : length zs ≡ size_of f) (i : ℕ) (some : 1 ≤ i) (few : i ≤ length rows)
      (same : (c t : ℕ) → c ≤ first + i → t < f.samples → sample_at f zs c t ≡ sample_at f xs c t) where
    -- an address that the row hits is in channel first + i
    hit_old : (a : ℕ) → a < size_of f → a / f.samples ≡ first + i → at zs a ≡ sample_at f xs (first + i) (a % f.samples)
    hit_old a h e = sym (at-sample f a zs) ∙ ap (λ c. sample_at f zs c (a % f.samples)) e ∙ same (first + i) (a % f.samples) (omega arith) (time_below f a h)

    hit_new : (a : ℕ) → a < size_of f → a / f.samples ≡ first + i → at zs a -ℤ row_quotient f first rows zs i (a % f.samples) ≡ sample_at f xs (first + i) (a % f.samples) -ℤ row_quotient f first rows xs i (a % f.samples)
    hit_new a h e =
        let q = quotient_same first rows f zs xs i (a % f.samples) (λ c low high. same c (a % f.samples) (omega arith) (time_below f a h)) in
        λ j. hit_old a h e j -ℤ q j

    row_fits : FitsAt (row_pass f first rows i) zs
    row_fits = record {
      before = λ a h hit. rw (hit_old a (omega arith) (eqb-true _ _ hit)) (old_fits (first + i) (a % f.samples) (omega arith) (time_below f a (omega arith)));
      after = λ a h hit. rw (hit_new a (omega arith) (eqb-true _ _ hit)) (new_fits i (a % f.samples) some few (time_below f a (omega arith)));
    }

  rows_fit : (i : ℕ) (zs : List ℤ) → length zs ≡ size_of f → i ≤ length rows → ((c t : ℕ) → c ≤ first + i → t < f.samples → sample_at f zs c t ≡ sample_at f xs c t) → Fitting (row_passes f first rows i) zs
  unfolding row_passes
  rows_fit zero zs m few same = none
  rows_fit (suc i) zs m few same =
      more (row_fits zs m (suc i) (omega arith) few same)
      (rows_fit i (passed (row_pass f first rows (suc i)) zs) (length-passed _ zs ∙ m) (omega arith)
      (λ c t h k. row_kept f first rows (suc i) zs m c t (omega arith) k (λ e. omega arith) ∙ same c t (omega arith) k))

pub rows_fitting : (f : Shape) (first : ℕ) (rows : List PlainRow) → fits_in (dep first rows) f.channels ≡ true → (bs : List Bounds) (xs : List ℤ) → length bs ≡ f.channels → all_fit bs ≡ true → all_fit (bounds_made f (dep first rows) bs) ≡ true → Within f bs xs → Fitting (row_passes f first rows (length rows)) xs
rows_fitting f first rows fit bs xs l old new w =
    rows_fit f first rows (leb-true (first + (length rows + 1)) f.channels fit) bs xs l old new w (length rows) xs w.long (omega arith) (λ c t h k. refl)
