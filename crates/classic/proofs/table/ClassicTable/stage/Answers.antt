use Rattle.std.proofs.Common.{sym, ap, ◌∙◌, arith, eq-eqb, min}
use Rattle.std.proofs.lemmas.Bool.{cond-true, cond-false, ne_eqb}
use Rattle.stages.specs.declared.stage.Axis.TheVariants.{Time}
use Rattle.stages.specs.Plain.{plain}
use Rattle.stages.specs.Worked.{five_three}
use Rattle.classic.proofs.table.ClassicTable.stage.Goals as goal

pub returns-then-number-eq0 : goal.returns-then-number-eq0
unfolding plain
returns-then-number-eq0 c = sym (cond-true _ _ _ (eq-eqb c.args.number 0 (omega arith)))

pub returns-else-number-eq0 : goal.returns-else-number-eq0
returns-else-number-eq0 c =
    let k = c.args.number in
    c.five_three.ensures ∙ ap (five_three Time (min c.args.channels 64)) (omega arith) ∙ sym (cond-false _ _ _ (ne_eqb k 0 c.if-number-eq0.false))
