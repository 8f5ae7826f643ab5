use Rattle.std.proofs.Common.{List, sym, subst}
use Rattle.sets.specs.declared.bounds.Bounds.{Bounds}
use Rattle.sets.specs.declared.shape.Shape.{Shape}
use Rattle.sets.specs.Sets.{rows_of}
use Rattle.rack.specs.Calls.{Undoes}
use Rattle.timing.specs.Timed.{timed_rack, timed_shape}
use Rattle.timing.proofs.timing_undo.Goals as goal

pub returns : goal.returns
returns c =
    let Call : Shape → List Bounds → Type 0 = λ f bs. Undoes timed_rack f c.args.task bs c.args.area.now c.undo.result c.undo.new.area in
    let shaped = subst (λ f. Call f (rows_of c.timed_spans-spans.result)) c.timed_shape-shape.ensures c.undo.ensures in
    (c.undo.result, sym c.number_of.ensures, subst (Call (timed_shape c.args.channels c.args.samples)) c.timed_spans-spans.ensures shaped)
