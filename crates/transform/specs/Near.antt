-- Steps that read near the places that they change.
use Rattle.std.specs.Prelude.{pos, negsuc, ◌≤ℤ◌}
use Rattle.stages.specs.declared.stage.Step.{Step}

-- the offset is one of those that a recipe may write
pub record Near (s : Step) : Type 0 where
  pub low : negsuc 7 ≤ℤ s.offset
  pub high : s.offset ≤ℤ pos 8
