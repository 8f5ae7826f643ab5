use Rattle.std.proofs.Common.{◌≡◌, Ok, Err, refl, sym, ap, ◌∙◌}
use Rattle.recipe.specs.declared.fault.Cause.TheVariants.{EndsInside}
use Rattle.recipe.specs.declared.lines.Lines.{Lines}
use Rattle.recipe.specs.Grammar.{begun}
use Rattle.recipe.specs.Promises.{fields_in}
use Rattle.recipe.specs.Readings.{reading_from}
use Rattle.recipe.specs.Requests.{asked, requested}
use Rattle.recipe.proofs.Alike.{alike_requests}
use Rattle.recipe.proofs.Reports.{too_long, no_line, set_wrong, set_right, answers_err, answers_ok, answered-err}
use Rattle.recipe.proofs.ask.set_and_recipe.Goals as goal
use Rattle.recipe.proofs.ask.set_and_recipe.Goals.{In_ok-shape, at-returns-in_err-fill, at-returns}

-- the set is right, so the recipe decides
after-set : (c : In_ok-shape) → requested c.args.text.now ≡ asked (fields_in c.in-Some.line) (reading_from begun c.next_line.new.self)
after-set c = set_right _ refl c.if-text-gt65536.false _ _ c.in-Some.ensures.cases c.in_ok-shape.ensures.0

pub returns-then-text-gt65536 : goal.returns-then-text-gt65536
returns-then-text-gt65536 c = sym (too_long c.args.text.now c.if-text-gt65536.true)

pub returns-in_default : goal.returns-in_default
returns-in_default c =
    let ends = c.in_default.ensures.cases in
    rw c.ends_inside.ensures (ap (λ (l : Lines). Err (record { cause = EndsInside; line = l.number; field = 0 })) ends.same ∙ sym (no_line c.args.text.now c.if-text-gt65536.false ends.none))

pub returns-in_err-shape : goal.returns-in_err-shape
returns-in_err-shape c =
    answered-err c.from_residual.result _ _ c.from_residual.ensures (set_wrong _ refl c.if-text-gt65536.false _ _ c.in-Some.ensures.cases _ c.in_err-shape.ensures)

pub returns-in_err-fill : goal.returns-in_err-fill
returns-in_err-fill c =
    answered-err c.from_residual-in_err-fill.result _ _ c.from_residual-in_err-fill.ensures
    (after-set (at-returns-in_err-fill c).In_ok-shape ∙ ap (asked (fields_in c.in-Some.line)) (answers_err _ _ _ c.in_err-fill.ensures))

pub returns : goal.returns
returns c =
    let sets = c.in_ok-shape.ensures.1 in
    sym (after-set (at-returns c).In_ok-shape ∙ ap (asked (fields_in c.in-Some.line)) (answers_ok _ _ c.in_ok-fill.ensures) ∙ ap Ok (alike_requests (sym sets.shape) (sym sets.span)))
