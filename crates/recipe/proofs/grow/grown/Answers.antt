use Rattle.std.proofs.Common.{Some, sym, ap, ◌∙◌, arith, length-set}
use Rattle.stages.specs.Plain.{lift, dep, plain, plain_lift}
use Rattle.recipe.specs.Promises.{fields_in}
use Rattle.recipe.proofs.Faults.{passed}
use Rattle.recipe.proofs.Growing.{done, lift_fault, lift_taken, dep_fault, dep_taken, steps-more, rows-more}
use Rattle.recipe.proofs.Openings.{inside_rct}
use Rattle.recipe.proofs.Tables.{at_hand-last, rct_plain, room_lift, room_dep}
use Rattle.recipe.proofs.grow.grown.Goals as goal

pub invariant_of-lift : goal.invariant_of-lift
invariant_of-lift c =
    let l = c.in-Lift.lift in
    record { inside = l.inside; shallow = l.shallow; full = simp length-set l.full; few = grind (arith, room_lift) }

pub invariant_of-dep : goal.invariant_of-dep
invariant_of-dep c =
    let d = c.in-Dep.dep in
    record { inside = grind (arith, room_dep); some = omega arith; few = grind (arith, room_dep); full = simp length-set d.full }

pub returns-in_err-step-in-Lift-clause-stage : goal.returns-in_err-step-in-Lift-clause-stage
returns-in_err-step-in-Lift-clause-stage c = λ ts n.
    passed _ _ c.from_residual.result _ c.from_residual.ensures
    (rw c.in-Lift.is (lift_fault c.in-Lift.lift ts n c.args.line.now.number (fields_in c.args.line.now)) ∙ c.in_err-step-in-Lift.ensures)

pub returns-in_err-row-in-Dep-clause-stage : goal.returns-in_err-row-in-Dep-clause-stage
returns-in_err-row-in-Dep-clause-stage c = λ ts n.
    passed _ _ c.from_residual-in_err-row-in-Dep.result _ c.from_residual-in_err-row-in-Dep.ensures
    (rw c.in-Dep.is (dep_fault c.in-Dep.dep ts n c.args.line.now.number (fields_in c.args.line.now)) ∙ c.in_err-row-in-Dep.ensures)

pub returns-in_ok-step-in-Lift-clause-stage : goal.returns-in_ok-step-in-Lift-clause-stage
unfolding plain
returns-in_ok-step-in-Lift-clause-stage c = λ ts n.
    let l = c.in-Lift.lift in
    let line = c.args.line.now in
    let given = c.in_ok-step-in-Lift.ensures in
    let more = steps-more l c.in_ok-step-in-Lift.step (grind (arith, room_lift)) in
    rw c.in-Lift.is (
      lift_fault l ts n line.number (fields_in line) ∙ given.0,
      lift_taken l ts n line.number (fields_in line) c.in_ok-step-in-Lift.step given.0 given.1 ∙ ap (λ ss. done ts n (lift (plain_lift l) ss)) (sym more),
    )

pub returns-in_ok-row-in-Dep-clause-stage : goal.returns-in_ok-row-in-Dep-clause-stage
unfolding plain
returns-in_ok-row-in-Dep-clause-stage c = λ ts n.
    let d = c.in-Dep.dep in
    let line = c.args.line.now in
    let given = c.in_ok-row-in-Dep.ensures in
    let more = rows-more d c.in_ok-row-in-Dep.row (grind (arith, room_dep)) in
    rw c.in-Dep.is (
      dep_fault d ts n line.number (fields_in line) ∙ given.0,
      dep_taken d ts n line.number (fields_in line) c.in_ok-row-in-Dep.row given.0 given.1 ∙ ap (λ rs. done ts n (dep d.first rs)) (sym more),
    )

pub returns-in-Rct-clause-stage : goal.returns-in-Rct-clause-stage
returns-in-Rct-clause-stage c = λ ts n.
    rw c.in-Rct.is (inside_rct _ (omega arith) c.args.line.now.number (fields_in c.args.line.now) _ (at_hand-last ts _ ∙ ap Some (rct_plain _))) ∙ ap Some (sym c.fault.ensures)
