-- The stages of the classic table.
use Rattle.std.specs.Prelude.{ℕ, ◌-◌, min, cond, ◌==◌}
use Rattle.stages.specs.declared.stage.Axis.TheVariants.{Time}
use Rattle.stages.specs.Plain.{Plain, rct}
use Rattle.stages.specs.Worked.{five_three}

-- stage 0 is RCT on channels 0 to 2; stages 1 to 5 are 5-3 along the samples of all channels, mirrored, at levels 0 to 4 (a set has at most 64 channels)
abbrev pub classic_stage : ℕ → ℕ → Plain
classic_stage channels k = cond (k == 0) (rct 0) (five_three Time (min channels 64) (k - 1))
