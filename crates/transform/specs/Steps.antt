-- The steps of a lifting as the code takes them, by their numbers.
use Rattle.std.specs.Prelude.{ℕ, ◌%◌, cond, List, ◌==◌}
use Rattle.stages.specs.declared.stage.Parity.{Parity}
use Rattle.stages.specs.declared.stage.Step.{Step}
use Rattle.stages.specs.Lifting.{other}
use Rattle.stages.specs.Plain.{plain_lift, plain_step, plain_steps}
use Rattle.rules.specs.Lifted.{lift_pass, lift_passes}
use Rattle.rules.specs.Passes.{Pass}
use Rattle.transform.specs.declared.lifting.Lifting.{Lifting}

-- the parity that step k changes, where the first changes m
abbrev pub parity_at : Parity → ℕ → Parity
parity_at m k = cond (k % 2 == 0) m (other m)

-- step k as a pass of the rule
abbrev pub step_pass : Lifting → ℕ → Step → Pass
step_pass s k d = lift_pass s.shape (plain_lift s.lift) (parity_at s.lift.parity k) (plain_step d)

-- the steps as passes of the rule
abbrev pub passes_of : Lifting → List Pass
passes_of s = lift_passes s.shape (plain_lift s.lift) s.lift.parity (plain_steps s.lift)
