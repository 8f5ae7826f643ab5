-- The passes of dependency rows: each is blind to what it changes, and run from the last row down they do what the rows do.
use Rattle.std.proofs.Common.{◌≡◌, ℕ, zero, suc, ◌+◌, ◌-◌, ◌*◌, ◌/◌, ◌%◌, ◌<◌, ◌≤◌, false, cond, ◌&&◌, eqb, ltb, List, length, ℤ, ◌-ℤ◌, neg_ℤ, sym, ap, ◌∙◌, ⊎_elim, arith}
use Rattle.std.proofs.lemmas.Bool.{cond-true, cond-false, and_from, and_left, and_right, lt-ltb, le-ltb, eq-eqb, ne_eqb, cases_lt, cases_order}
use Rattle.sets.specs.declared.shape.Shape.{Shape}
use Rattle.sets.specs.Areas.{size_of, sample_at}
use Rattle.stages.specs.Plain.{PlainRow}
use Rattle.rules.specs.Mixed.{row_quotient, dep_samples, dep_at, row_pass, row_passes}
use Rattle.rules.specs.Passes.{passed, ran, Blind, AllBlind, none, more}
use Rattle.rules.proofs.Passing.{at-passed-hit, at-passed-kept, length-passed, length-ran}
use Rattle.rules.proofs.Places.{address_below, address_channel, address_time, length-area, sample_area, same-areas, time_below}
use Rattle.rules.proofs.RowReads.{quotient_same}

module _ (f : Shape) (first : ℕ) (rows : List PlainRow) where
  row_blind : (i : ℕ) → first + i ≤ f.channels → Blind (size_of f) (row_pass f first rows i)
  row_blind i fit xs ys l m same a h hit =
      let t = a % f.samples in
      let k = time_below f a h in
      ap neg_ℤ
      (quotient_same first rows f xs ys i t (λ c low high.
      let b : c < f.channels = omega arith in
      let miss : eqb ((c * f.samples + t) / f.samples) (first + i) ≡ false = ne_eqb _ _ (λ e. let d = address_channel f c t b k in omega arith) in
      same (c * f.samples + t) (address_below f c t b k) miss))

  pub rows_blind : (i : ℕ) → first + i ≤ f.channels → AllBlind (size_of f) (row_passes f first rows i)
  unfolding row_passes
  rows_blind zero fit = none
  rows_blind (suc i) fit = more (row_blind (suc i) fit) (rows_blind i (omega arith))

  -- what row i makes of a sample
  module _ (i : ℕ) (xs : List ℤ) (l : length xs ≡ size_of f) (c t : ℕ) (h : c < f.channels) (k : t < f.samples) where
    pub row_hit : c ≡ first + i → sample_at f (passed (row_pass f first rows i) xs) c t ≡ sample_at f xs c t -ℤ row_quotient f first rows xs i t
    row_hit e =
        let b = address_below f c t h k in
        at-passed-hit (row_pass f first rows i) xs (c * f.samples + t) (omega arith) (eq-eqb _ _ (address_channel f c t h k ∙ e))
        ∙ ap (λ n. sample_at f xs c t -ℤ row_quotient f first rows xs i n) (address_time f c t h k)

    pub row_kept : (c ≡ first + i → ⊥) → sample_at f (passed (row_pass f first rows i) xs) c t ≡ sample_at f xs c t
    row_kept n =
        let b = address_below f c t h k in
        at-passed-kept (row_pass f first rows i) xs (c * f.samples + t) (omega arith) (ne_eqb _ _ (λ e. n (sym (address_channel f c t h k) ∙ e)))

  -- a sample after the rows 1 to i
  abbrev up_to : ℕ → List ℤ → ℕ → ℕ → ℤ
  up_to i xs c t = cond (ltb first c && ltb c (first + (i + 1))) (sample_at f xs c t -ℤ row_quotient f first rows xs (c - first) t) (sample_at f xs c t)

  module _ (i : ℕ) (xs : List ℤ) (c t : ℕ) where
    up_to_row : first < c → c < first + (i + 1) → up_to i xs c t ≡ sample_at f xs c t -ℤ row_quotient f first rows xs (c - first) t
    up_to_row h k = cond-true _ _ _ (and_from _ _ (lt-ltb first c h) (lt-ltb c (first + (i + 1)) k))

    up_to_low : c ≤ first → up_to i xs c t ≡ sample_at f xs c t
    up_to_low h = cond-false _ _ _ (and_left _ _ (le-ltb first c h))

    up_to_high : first + (i + 1) ≤ c → up_to i xs c t ≡ sample_at f xs c t
    up_to_high h = cond-false _ _ _ (and_right _ _ (le-ltb c (first + (i + 1)) h))

  -- row i + 1 first, and then the rows from i down
  module _ (i : ℕ) (xs : List ℤ) (l : length xs ≡ size_of f) (c t : ℕ) (h : c < f.channels) (k : t < f.samples) (fit : first + suc i ≤ f.channels) where
    abbrev ys : List ℤ
    ys = passed (row_pass f first rows (suc i)) xs

    kept : (n : ℕ) → n < first + suc i → sample_at f ys n t ≡ sample_at f xs n t
    kept n m = row_kept (suc i) xs l n t (omega arith) k (λ e. omega arith)

    below_row : c ≤ first → up_to i ys c t ≡ up_to (suc i) xs c t
    below_row low = up_to_low i ys c t low ∙ kept c (omega arith) ∙ sym (up_to_low (suc i) xs c t low)

    earlier_row : first < c → c < first + (i + 1) → up_to i ys c t ≡ up_to (suc i) xs c t
    earlier_row low high =
        let q = quotient_same first rows f ys xs (c - first) t (λ n m o. kept n (omega arith)) in
        up_to_row i ys c t low high ∙ (λ j. kept c (omega arith) j -ℤ q j) ∙ sym (up_to_row (suc i) xs c t low (omega arith))

    this_row : c ≡ first + suc i → up_to i ys c t ≡ up_to (suc i) xs c t
    this_row e =
        let d : suc i ≡ c - first = omega arith in
        up_to_high i ys c t (omega arith) ∙ row_hit (suc i) xs l c t h k e ∙ ap (λ n. sample_at f xs c t -ℤ row_quotient f first rows xs n t) d
        ∙ sym (up_to_row (suc i) xs c t (omega arith) (omega arith))

    above_row : first + suc i < c → up_to i ys c t ≡ up_to (suc i) xs c t
    above_row high = up_to_high i ys c t (omega arith) ∙ row_kept (suc i) xs l c t h k (λ e. omega arith) ∙ sym (up_to_high (suc i) xs c t (omega arith))

    up_to_more : up_to i ys c t ≡ up_to (suc i) xs c t
    up_to_more =
        ⊎_elim this_row (⊎_elim (λ earlier. ⊎_elim (λ up. earlier_row up (omega arith)) below_row (cases_lt first c)) above_row) (cases_order c (first + suc i))

  rows_up_to : (i : ℕ) (xs : List ℤ) → length xs ≡ size_of f → first + i ≤ f.channels → (c t : ℕ) → c < f.channels → t < f.samples → sample_at f (ran (row_passes f first rows i) xs) c t ≡ up_to i xs c t
  unfolding ran row_passes
  rows_up_to zero xs l fit c t h k = ⊎_elim (λ low. sym (up_to_low 0 xs c t (omega arith))) (λ high. sym (up_to_high 0 xs c t high)) (cases_lt c (first + 1))
  rows_up_to (suc i) xs l fit c t h k =
      rows_up_to i (passed (row_pass f first rows (suc i)) xs) (length-passed _ xs ∙ l) (omega arith) c t h k ∙ up_to_more i xs l c t h k fit

  pub rows_ran : (xs : List ℤ) → length xs ≡ size_of f → first + length rows ≤ f.channels → ran (row_passes f first rows (length rows)) xs ≡ dep_samples f first rows xs
  rows_ran xs l fit =
      same-areas f _ _ (length-ran (row_passes f first rows (length rows)) xs ∙ l) (length-area f (dep_at f first rows xs))
      (λ c t h k. rows_up_to (length rows) xs l fit c t h k ∙ sym (sample_area f (dep_at f first rows xs) c t h k))
