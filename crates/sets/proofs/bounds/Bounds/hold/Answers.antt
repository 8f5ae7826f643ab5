use Rattle.std.proofs.Common.{◌≡◌, Bool, true, false, ◌&&◌, sym, refl, ap, ◌∙◌, w32, SFits, rules}
use Rattle.std.proofs.lemmas.Int.{to_z-of_z}
use Rattle.sets.specs.Areas.{at, holds}
use Rattle.sets.proofs.Everywhere.{every-none, every_more}
use Rattle.sets.proofs.bounds.Bounds.hold.Goals as goal

and_swapped : (x y : Bool) → (x && y) ≡ (y && x)
and_swapped true true = refl
and_swapped true false = refl
and_swapped false true = refl
and_swapped false false = refl

pub loop-x-init : goal.loop-x-init
loop-x-init c = sym (every-none _)

pub loop-x-preserved : goal.loop-x-preserved
loop-x-preserved c =
    let b = c.args.self.now in
    let xs = c.args.samples.now in
    let i = c.loop-x.x-index in
    let low : SFits w32 b.least = search rules in
    let high : SFits w32 b.greatest = search rules in
    let here : SFits w32 (at xs i) = search rules in
    simp to_z-of_z (and_swapped c.loop-x.all (holds b (at xs i)) ∙ ap (λ r. holds b (at xs i) && r) c.loop-x.invariant ∙ sym (every_more (λ t. holds b (at xs t)) i))
