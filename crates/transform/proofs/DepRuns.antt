-- Rows one after the other, from row i down, as the passes of a list.
use Rattle.std.proofs.Common.{◌≡◌, ℕ, zero, suc, ◌+◌, ◌-◌, ◌<◌, ◌≤◌, true, false, List, ℤ, sym, subst, arith}
use Rattle.sets.specs.declared.shape.Shape.{Shape}
use Rattle.stages.specs.Plain.{PlainRow}
use Rattle.rules.specs.Mixed.{row_pass, row_passes}
use Rattle.transform.specs.Turned.{Turned, Forth, Back, none, more}

module _ (f : Shape) (first : ℕ) (rows : List PlainRow) where
  pub forth_none : (i : ℕ) (xs : List ℤ) → i ≤ 0 → Forth (row_passes f first rows i) xs xs
  unfolding row_passes
  forth_none zero xs h = none
  forth_none (suc i) xs h = absurd (omega arith)

  pub forth_more : (i n : ℕ) (xs ys zs : List ℤ) → i ≡ n + 1 → Turned false (row_pass f first rows i) xs ys → Forth (row_passes f first rows n) ys zs → Forth (row_passes f first rows i) xs zs
  unfolding row_passes
  forth_more zero n xs ys zs h t rest = absurd (omega arith)
  forth_more (suc i) n xs ys zs h t rest = let e : n ≡ i = omega arith in more t (subst (λ j. Forth (row_passes f first rows j) ys zs) e rest)

  pub back_none : (i : ℕ) (xs : List ℤ) → i ≤ 0 → Back (row_passes f first rows i) xs xs
  unfolding row_passes
  back_none zero xs h = none
  back_none (suc i) xs h = absurd (omega arith)

  pub back_more : (i n : ℕ) (xs ys zs : List ℤ) → 0 < i → n ≡ i → Back (row_passes f first rows (i - 1)) xs ys → Turned true (row_pass f first rows i) ys zs → Back (row_passes f first rows n) xs zs
  unfolding row_passes
  back_more zero n xs ys zs h e rest t = absurd (omega arith)
  back_more (suc i) n xs ys zs h e rest t =
      let less : suc i - 1 ≡ i = omega arith in
      subst (λ j. Back (row_passes f first rows j) xs zs) (sym e) (more (subst (λ j. Back (row_passes f first rows j) xs ys) less rest) t)
