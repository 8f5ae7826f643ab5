use Rattle.std.proofs.Common.{ap, sym, ◌∙◌, subst, arith}
use Rattle.std.specs.Iterator.Adapters.{enumerate_source, enumerate_count, rev_source}
use Rattle.std.specs.Slice.Iter.{iter_rest}
use Rattle.transform.proofs.Stepping.{Undone, back_none, back_more}
use Rattle.transform.proofs.long_lines.LongLines.undo_steps.Goals as goal

pub loop-k-init : goal.loop-k-init
loop-k-init c =
    let s = c.args.self.now in
    let xs = c.args.area.now in
    let source = ap rev_source c.into_iter-k-iterator.ensures.into_iter_gives ∙ c.rev-k-items.ensures.source in
    let all = ap (λ e. iter_rest (enumerate_source e)) source ∙ ap iter_rest c.enumerate.ensures.source ∙ c.iter.ensures.rest ∙ c.steps.ensures in
    (ap enumerate_count source ∙ c.enumerate.ensures.count, subst (λ left. Undone s left xs xs) (sym all) (back_none s xs))

pub loop-k-preserved : goal.loop-k-preserved
loop-k-preserved c =
    let inv = c.loop-k.invariant in
    let step = c.in-Some.ensures.steps in
    (step.0 ∙ inv.0, back_more _ _ _ _ _ _ _ (omega (arith, step.1.1, inv.0)) (rw step.1.0 at inv.1) c.turn.ensures)
