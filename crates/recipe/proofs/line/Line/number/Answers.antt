use Rattle.std.proofs.Common.{[], Some, None, Ok, Err, refl, sym, ap, ◌∙◌, w32, SFits, rules}
use Rattle.std.proofs.lemmas.Int.{to_z-of_z}
use Rattle.recipe.specs.Fields.{fields_of}
use Rattle.recipe.specs.Rules.{between}
use Rattle.recipe.proofs.Faults.{first_wrong-here, shown_no_number, wrong-no-number, judged_within}
use Rattle.recipe.proofs.line.Line.number.Goals as goal

pub returns-in_default : goal.returns-in_default
returns-in_default c =
    let line = c.args.self.now in
    first_wrong-here line.number (fields_of line.bytes.now) c.args.k (between c.args.least c.args.greatest) [] _
    (wrong-no-number _ _ _ (shown_no_number c.field.result _ (rw c.from.ensures at c.field.ensures) c.in_default.not-Number))
    ∙ ap Some (sym c.fault.ensures)

pub returns-in-Some : goal.returns-in-Some
returns-in-Some c =
    let line = c.args.self.now in
    let low : SFits w32 c.args.least = c.ranges.least in
    let high : SFits w32 c.args.greatest = c.ranges.greatest in
    let it : SFits w32 c.in-Some.value = search rules in
    let e = simp to_z-of_z at c.in-Some.ensures in
    let p = judged_within line.number (fields_of line.bytes.now) c.args.k c.args.least c.args.greatest c.in-Number.digits.now (Some c.in-Some.value) (Ok c.in-Some.value) (rw c.from.ensures at c.in-Number.ensures) e refl in
    simp to_z-of_z p

pub returns-in-None : goal.returns-in-None
returns-in-None c =
    let line = c.args.self.now in
    let low : SFits w32 c.args.least = c.ranges.least in
    let high : SFits w32 c.args.greatest = c.ranges.greatest in
    let e = simp to_z-of_z at c.in-None.ensures in
    judged_within line.number (fields_of line.bytes.now) c.args.k c.args.least c.args.greatest c.in-Number.digits.now None (Err _) (rw c.from.ensures at c.in-Number.ensures) e (ap Err c.fault-in-None.ensures)
