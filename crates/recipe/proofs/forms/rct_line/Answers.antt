use Rattle.std.proofs.Common.{nat_abs, sym, refl, ap}
use Rattle.stages.specs.Plain.{plain, rct as an-rct}
use Rattle.recipe.proofs.forms.rct_line.Goals as goal

pub returns : goal.returns
unfolding plain
returns c = let first = c.in_ok-first.ensures in (first.0, record { stage = ap (λ z. an-rct (nat_abs z)) (sym first.1.is); left = refl })
