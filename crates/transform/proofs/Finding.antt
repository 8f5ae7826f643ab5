-- Undoing passes finds the set that gave an area, or shows that there is none.
use Rattle.std.proofs.Common.{◌≡◌, Bool, true, false, List, length, ℤ, sym, ◌∙◌, subst}
use Rattle.sets.specs.declared.bounds.Bounds.{Bounds}
use Rattle.sets.specs.declared.shape.Shape.{Shape}
use Rattle.sets.specs.declared.span_list.SpanList.{SpanList}
use Rattle.sets.specs.Areas.{size_of, within, Within}
use Rattle.sets.specs.Sets.{rows_of}
use Rattle.sets.proofs.Everywhere.{within-from-true, not_within_from_false}
use Rattle.stages.specs.Plain.{Plain}
use Rattle.rules.specs.Passes.{Pass, ran, AllBlind, Fitting}
use Rattle.rules.specs.Samples.{samples_after}
use Rattle.transform.specs.Turned.{Back}
use Rattle.transform.specs.Work.{FoundSet, OnlySource, TakenBack, Workable}
use Rattle.transform.proofs.Turning.{back_exact, back_only}

module _ (f : Shape) (s : Plain) (bs : List Bounds) (ys zs : List ℤ) where
  -- passes undone give the one source
  pub source_by_passes : (ps : List Pass) → length ys ≡ size_of f → AllBlind (size_of f) ps → ((xs : List ℤ) → Within f bs xs → Fitting ps xs) →
      ((xs : List ℤ) → length xs ≡ size_of f → samples_after f s xs ≡ ran ps xs) → Back ps ys zs → OnlySource f s bs ys zs
  source_by_passes ps long blind fit runs back = record {
    gives = λ w. runs zs w.long ∙ back_exact (size_of f) ps ys zs long blind back (fit zs w);
    only = λ xs w g. back_only (size_of f) ps xs ys zs w.long blind (fit xs w) (sym (runs xs w.long) ∙ g) back;
  }

  -- the one source is a set within the spans where it lies within them, and there is none where it does not
  pub found_if_within : (Within f bs zs → samples_after f s zs ≡ ys) → ((xs : List ℤ) → Within f bs xs → samples_after f s xs ≡ ys → zs ≡ xs) → (r : Bool) → r ≡ within f bs zs → FoundSet f s bs ys r zs
  found_if_within gives only true e = let w = within-from-true f bs zs (sym e) in (w, gives w)
  found_if_within gives only false e = λ xs w g. not_within_from_false f bs zs (sym e) (subst (Within f bs) (sym (only xs w g)) w)

-- what was taken back is found where it lies within the spans
pub found_set : (f : Shape) (s : Plain) (l : SpanList) (ys zs : List ℤ) (r : Bool) → TakenBack f s ys true zs → Workable f s (rows_of l) → r ≡ within f (rows_of l) zs → FoundSet f s (rows_of l) ys r zs
found_set f s l ys zs r back w e = let o = back l w in found_if_within f s (rows_of l) ys zs o.gives o.only r e
