use Rattle.std.proofs.Common.{◌∙◌, rules, ap, map, length}
use Rattle.std.specs.List.{range_with_len}
use Rattle.sets.specs.Sets.{rows_of}
use Rattle.stages.specs.Lifting.{channel_at}
use Rattle.stages.specs.Plain.{plain_lift}
use Rattle.stages.proofs.Gathers.{listed_rows}
use Rattle.stages.proofs.stage.Lift.along_channels.Goals as goal

pub returns : goal.returns
returns c =
    let l = plain_lift c.args.self.now in
    let bs = rows_of c.args.spans.now in
    let ends = c.in_ok-ends.ensures in
    (ends.0, listed_rows _ _ _ c.listed.ensures (channel_at l (rows_of c.in_ok-ends.ends) bs) (λ i h s r. search rules) _ c.len.ensures ∙ ap (λ es. map (channel_at l es bs) (range_with_len 0 (length bs))) ends.1)
