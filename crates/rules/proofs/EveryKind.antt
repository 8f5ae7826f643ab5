-- Every kind of stage keeps the laws, and so does every bank of stages.
use Rattle.std.proofs.Common.{◌≡◌, ℕ, ◌≤◌, true}
use Rattle.sets.specs.declared.shape.Shape.{Shape}
use Rattle.sets.specs.Sets.{in_limits}
use Rattle.stages.specs.Plain.{Plain, lift, dep, rct}
use Rattle.stages.specs.Stages.{fits_in}
use Rattle.rack.specs.Laws.{Lawful}
use Rattle.rules.specs.Samples.{bank, StageLaws}
use Rattle.rules.proofs.Banks.{bank-lawful}
use Rattle.rules.proofs.Colours.{rct_laws}
use Rattle.rules.proofs.LiftLaws.{lift_laws}
use Rattle.rules.proofs.Rows.{dep_laws}

stage_laws : (f : Shape) (s : Plain) → in_limits f ≡ true → fits_in s f.channels ≡ true → StageLaws f s
stage_laws f (lift l ss) = lift_laws f l ss
stage_laws f (dep first rows) = dep_laws f first rows
stage_laws f (rct first) = rct_laws f first

pub every-bank-lawful : (n : ℕ) (p : ℕ → ℕ → Plain) → n ≤ 1000 → Lawful (bank n p)
every-bank-lawful n p few = bank-lawful n p few stage_laws
