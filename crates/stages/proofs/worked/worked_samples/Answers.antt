use Rattle.std.proofs.Common.{refl}
use Rattle.stages.specs.Floors.{floor_over}
use Rattle.stages.specs.Lifting.{stepped, ended}
use Rattle.stages.specs.Lines.{nearest}
use Rattle.stages.specs.Quotients.{end_sum, reach_of}
use Rattle.stages.proofs.worked.worked_samples.Goals as goal

pub returns-clause-hold : goal.returns-clause-hold
unfolding floor_over stepped ended nearest end_sum reach_of
returns-clause-hold c = (refl, (refl, (refl, (refl, (refl, (refl, (refl, (refl, tt))))))))
