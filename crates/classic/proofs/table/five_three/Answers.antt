use Rattle.std.proofs.Common.{[], ◌∷◌}
use Rattle.stages.specs.declared.stage.Extension.TheVariants.{Mirrored}
use Rattle.stages.specs.Plain.{plain, lift}
use Rattle.stages.specs.Worked.{along}
use Rattle.classic.proofs.table.five_three.Goals as goal

pub returns : goal.returns
unfolding plain
returns c = λ i. lift (along c.args.axis Mirrored (c.min.ensures i) (c.min-2.ensures i)) (c.two_taps-odd.ensures i ∷ c.two_taps-even.ensures i ∷ [])
