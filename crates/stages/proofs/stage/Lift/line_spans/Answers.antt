use Rattle.std.proofs.Common.{rules}
use Rattle.stages.proofs.Gathers.{listed_rows}
use Rattle.stages.proofs.stage.Lift.line_spans.Goals as goal

pub returns : goal.returns
returns c = listed_rows _ _ _ c.listed.ensures _ (λ i h s r. search rules) _ c.line_length.ensures.value
