use Rattle.std.proofs.Common.{Some, sym, refl, ap, ◌∙◌}
use Rattle.recipe.specs.Rules.{lift, dep, rct}
use Rattle.recipe.proofs.Faults.{passed}
use Rattle.recipe.proofs.Openings.{word, begun-lift, begun-dep, begun-rct, begun-none, begins_fault, begins_judged, begins_none}
use Rattle.recipe.proofs.table.Recipe.stage_line.Goals as goal

pub returns-in_err-check_start : goal.returns-in_err-check_start
returns-in_err-check_start c =
    passed _ _ c.from_residual.result _ c.from_residual.ensures
    (begins_fault _ c.args.line.now lift (begun-lift (word c.args.line.now) (sym c.if-begins.ensures)) 7 (λ m. refl) _ c.in_err-check_start.ensures)

pub returns-then-begins : goal.returns-then-begins
returns-then-begins c =
    begins_judged _ c.args.line.now lift (begun-lift (word c.args.line.now) (sym c.if-begins.ensures)) 7 (λ m. refl) _ _ c.lift_line.result refl c.in_ok-check_start.ensures.0 c.lift_line.ensures

pub returns-in_err-check_start-2 : goal.returns-in_err-check_start-2
returns-in_err-check_start-2 c =
    passed _ _ c.from_residual-in_err-check_start-2.result _ c.from_residual-in_err-check_start-2.ensures
    (begins_fault _ c.args.line.now dep (begun-dep (word c.args.line.now) (sym c.if-begins.ensures) (sym c.if-begins-2.ensures)) 2 (λ m. refl) _ c.in_err-check_start-2.ensures)

pub returns-then-begins-2 : goal.returns-then-begins-2
returns-then-begins-2 c =
    begins_judged _ c.args.line.now dep (begun-dep (word c.args.line.now) (sym c.if-begins.ensures) (sym c.if-begins-2.ensures)) 2 (λ m. refl) _ _ c.dep_line.result refl c.in_ok-check_start-2.ensures.0 c.dep_line.ensures

pub returns-in_err-check_start-3 : goal.returns-in_err-check_start-3
returns-in_err-check_start-3 c =
    passed _ _ c.from_residual-in_err-check_start-3.result _ c.from_residual-in_err-check_start-3.ensures
    (begins_fault _ c.args.line.now rct (begun-rct (word c.args.line.now) (sym c.if-begins.ensures) (sym c.if-begins-2.ensures) (sym c.if-begins-3.ensures)) 1 (λ m. refl) _ c.in_err-check_start-3.ensures)

pub returns-then-begins-3 : goal.returns-then-begins-3
returns-then-begins-3 c =
    begins_judged _ c.args.line.now rct (begun-rct (word c.args.line.now) (sym c.if-begins.ensures) (sym c.if-begins-2.ensures) (sym c.if-begins-3.ensures)) 1 (λ m. refl) _ _ c.rct_line.result refl c.in_ok-check_start-3.ensures.0 c.rct_line.ensures

pub returns : goal.returns
returns c =
    begins_none _ _ _ (begun-none (word c.args.line.now) (sym c.if-begins.ensures) (sym c.if-begins-2.ensures) (sym c.if-begins-3.ensures)) ∙ ap Some (sym c.fault.ensures)
