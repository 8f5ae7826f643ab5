use Rattle.std.proofs.Common.{◌≡◌, ◌++◌, drop, vec_items}
use Rattle.sets.specs.Sets.{rows_of}
use Rattle.reporting.specs.Lines.{channel_lines}
use Rattle.reporting.proofs.report.add_channels.Given as goal

-- what is written and what is left make the whole
abbrev pub invariant-loop-channel : goal.invariant-loop-channel
invariant-loop-channel l = vec_items l.lines ++ channel_lines l.stage l.channel (drop l.channel (rows_of l.spans)) ≡ vec_items l.initial.lines ++ channel_lines l.stage 0 (rows_of l.spans)
