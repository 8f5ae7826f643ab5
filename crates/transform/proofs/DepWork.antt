-- Dependency rows on an area that they are admitted to, applied and undone.
use Rattle.std.proofs.Common.{◌≡◌, ℕ, ◌+◌, ◌-◌, ◌≤◌, List, length, ℤ, sym, ◌∙◌, subst, arith}
use Rattle.std.proofs.lemmas.Bool.{leb-true}
use Rattle.sets.specs.declared.shape.Shape.{Shape}
use Rattle.sets.specs.declared.span_list.SpanList.{SpanList}
use Rattle.sets.specs.Areas.{size_of, Within}
use Rattle.sets.specs.Sets.{rows_of}
use Rattle.stages.specs.declared.stage.Dep.{Dep}
use Rattle.stages.specs.Plain.{dep, plain_rows}
use Rattle.stages.proofs.Plains.{rows_count}
use Rattle.rules.specs.Mixed.{dep_samples, row_passes}
use Rattle.rules.specs.Passes.{Fitting}
use Rattle.rules.proofs.RowPasses.{rows_blind, rows_ran}
use Rattle.rules.proofs.RowsFitting.{rows_fitting}
use Rattle.transform.specs.Turned.{Forth, Back}
use Rattle.transform.specs.Work.{Workable, OnlySource}
use Rattle.transform.proofs.Finding.{source_by_passes}
use Rattle.transform.proofs.Narrow.{rows_fit}
use Rattle.transform.proofs.Turning.{forth_exact}

-- there is one row less than there are channels
rows_less : (d : Dep) → length (plain_rows d) ≡ d.count - 1
rows_less d = let n = rows_count d in omega arith

module _ (d : Dep) (f : Shape) (l : SpanList) (w : Workable f (dep d.first (plain_rows d)) (rows_of l)) where
  -- all rows, by how many there are
  rows_all : (P : ℕ → Type 0) → P (d.count - 1) → P (length (plain_rows d))
  rows_all P p = subst P (sym (rows_less d)) p

  room : d.first + length (plain_rows d) ≤ f.channels
  room = let h = leb-true (d.first + (length (plain_rows d) + 1)) f.channels w.fit in omega arith

  fitting : (xs : List ℤ) → Within f (rows_of l) xs → Fitting (row_passes f d.first (plain_rows d) (length (plain_rows d))) xs
  fitting xs inside = rows_fitting f d.first (plain_rows d) w.fit (rows_of l) xs w.many (rows_fit l) w.made inside

  pub dep_applied : (xs ys : List ℤ) → Within f (rows_of l) xs → Forth (row_passes f d.first (plain_rows d) (d.count - 1)) xs ys → ys ≡ dep_samples f d.first (plain_rows d) xs
  dep_applied xs ys inside forth =
      forth_exact _ xs ys (rows_all (λ n. Forth (row_passes f d.first (plain_rows d) n) xs ys) forth) (fitting xs inside) ∙ rows_ran f d.first (plain_rows d) xs inside.long room

  pub dep_source : (ys zs : List ℤ) → length ys ≡ size_of f → Back (row_passes f d.first (plain_rows d) (d.count - 1)) ys zs → OnlySource f (dep d.first (plain_rows d)) (rows_of l) ys zs
  dep_source ys zs long back =
      source_by_passes f (dep d.first (plain_rows d)) (rows_of l) ys zs _ long (rows_blind f d.first (plain_rows d) (length (plain_rows d)) room) fitting
      (λ xs long. sym (rows_ran f d.first (plain_rows d) xs long room)) (rows_all (λ n. Back (row_passes f d.first (plain_rows d) n) ys zs) back)
