-- The colour transform on an area that it is admitted to, applied and undone.
use Rattle.std.proofs.Common.{◌≡◌, ◌+◌, ◌≤◌, true, false, List, length, ℤ}
use Rattle.std.proofs.lemmas.Bool.{leb-true}
use Rattle.sets.specs.declared.shape.Shape.{Shape}
use Rattle.sets.specs.declared.span_list.SpanList.{SpanList}
use Rattle.sets.specs.Areas.{size_of, Within}
use Rattle.sets.specs.Sets.{rows_of}
use Rattle.stages.specs.declared.stage.Rct.{Rct}
use Rattle.stages.specs.Plain.{rct}
use Rattle.rules.specs.Mixed.{rct_samples}
use Rattle.transform.specs.Colours.{RctTurned}
use Rattle.transform.specs.Work.{Workable, OnlySource}
use Rattle.transform.proofs.Narrow.{rows_fit}
use Rattle.transform.proofs.Recolouring.{recolour_exact, uncolour_exact, uncolour_only}

module _ (r : Rct) (f : Shape) (l : SpanList) (w : Workable f (rct r.first) (rows_of l)) where
  pub rct_room : r.first + 3 ≤ f.channels
  rct_room = leb-true (r.first + 3) f.channels w.fit

  pub rct_applied : (xs ys : List ℤ) → Within f (rows_of l) xs → RctTurned false f r.first xs ys → ys ≡ rct_samples f r.first xs
  rct_applied xs ys inside turn = recolour_exact f r.first rct_room (rows_of l) w.many (rows_fit l) w.made xs ys inside turn

  pub rct_source : (ys zs : List ℤ) → length ys ≡ size_of f → RctTurned true f r.first ys zs → OnlySource f (rct r.first) (rows_of l) ys zs
  rct_source ys zs long turn = record {
    gives = λ inside. uncolour_exact f r.first rct_room (rows_of l) w.many (rows_fit l) w.made ys zs long turn inside;
    only = λ xs inside gives. uncolour_only f r.first rct_room (rows_of l) w.many (rows_fit l) w.made xs ys zs inside gives turn;
  }
