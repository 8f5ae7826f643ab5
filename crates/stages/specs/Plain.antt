-- Stages by their words and numbers, as a recipe writes them, and the code's records seen so.
-- All rules are stated over these.
use Rattle.std.specs.Prelude.{ℕ, ◌-◌, List, map, take, ℤ}
use Rattle.stages.specs.declared.quotient.Quotient.{Quotient}
use Rattle.stages.specs.declared.stage.Axis.{Axis}
use Rattle.stages.specs.declared.stage.Dep.{Dep}
use Rattle.stages.specs.declared.stage.Extension.{Extension}
use Rattle.stages.specs.declared.stage.Lift.{Lift}
use Rattle.stages.specs.declared.stage.Parity.{Parity}
use Rattle.stages.specs.declared.stage.Stage.{Stage}
use Rattle.stages.specs.declared.stage.Stage.TheVariants.{Lift as in_lift, Dep as in_dep, Rct as in-rct}
use Rattle.stages.specs.declared.stage.Step.{Step}

pub record PlainStep : Type 0 where
  pub offset : ℤ
  pub exponent : ℕ
  pub residue : ℤ
  pub taps : List ℤ

pub record PlainRow : Type 0 where
  pub exponent : ℕ
  pub residue : ℤ
  pub taps : List ℤ

pub record PlainLift : Type 0 where
  pub axis : Axis
  pub first : ℕ
  pub count : ℕ
  pub level : ℕ
  pub extension : Extension
  pub parity : Parity

-- a stage; dependency rows take one channel more than there are rows
pub data Plain : Type 0 where
  lift : PlainLift → List PlainStep → Plain
  dep : ℕ → List PlainRow → Plain
  rct : ℕ → Plain

-- the taps that a quotient has, and the steps that a lifting has
abbrev pub taps_of : Quotient → List ℤ
taps_of q = take q.tap_count q.taps

abbrev pub steps_of : Lift → List Step
steps_of l = take l.step_count l.steps

abbrev pub plain_step : Step → PlainStep
plain_step s = record { offset = s.offset; exponent = s.quotient.exponent; residue = s.quotient.residue; taps = taps_of s.quotient }

abbrev pub plain_row : Quotient → PlainRow
plain_row q = record { exponent = q.exponent; residue = q.residue; taps = taps_of q }

abbrev pub plain_lift : Lift → PlainLift
plain_lift l = record { axis = l.axis; first = l.first; count = l.count; level = l.level; extension = l.extension; parity = l.parity }

abbrev pub plain_steps : Lift → List PlainStep
plain_steps l = map plain_step (steps_of l)

abbrev pub plain_rows : Dep → List PlainRow
plain_rows d = map plain_row (take (d.count - 1) d.rows)

unfoldable pub plain : Stage → Plain
plain (in_lift l) = lift (plain_lift l) (plain_steps l)
plain (in_dep d) = dep d.first (plain_rows d)
plain (in-rct r) = rct r.first
