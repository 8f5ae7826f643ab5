use Rattle.std.proofs.Common.{rules}
use Rattle.stages.proofs.Gathers.{listed_as}
use Rattle.stages.proofs.gather.listed.Goals as goal

pub returns : goal.returns
returns g c = listed_as _ _ _ _ c.in-Some.ensures.outcome (λ i h s r. search rules)
