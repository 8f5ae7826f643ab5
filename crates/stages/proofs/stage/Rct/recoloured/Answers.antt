use Rattle.std.proofs.Common.{rules}
use Rattle.stages.proofs.Gathers.{listed_rows}
use Rattle.stages.proofs.stage.Rct.recoloured.Goals as goal

pub returns : goal.returns
returns c = listed_rows _ _ _ c.listed.ensures _ (λ i h s r. search rules) _ c.len.ensures
