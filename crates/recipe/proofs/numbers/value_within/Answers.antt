use Rattle.std.proofs.Common.{◌≡◌, cond, ◌&&◌, Some, None, ℤ, sym, ap, ◌∙◌, w32, w64, SFits, rules}
use Rattle.std.specs.Int.Signed.{le_z}
use Rattle.std.proofs.lemmas.Int.{to_z-of_z}
use Rattle.recipe.specs.Fields.{value_of}
use Rattle.recipe.proofs.Values.{at_most, whole, converted, chosen}
use Rattle.recipe.proofs.numbers.value_within.Goals as goal

pub returns : goal.returns
returns c =
    let low : SFits w32 c.args.least = c.ranges.least in
    let high : SFits w32 c.args.greatest = c.ranges.greatest in
    let wide : SFits w64 c.value.result = search rules in
    let v = c.in_ok-value.value in
    let e = converted c.try_from.result _ v c.try_from.ensures (sym c.in_ok-value.was ∙ c.ok.ensures.value) in
    let fits : SFits w32 v = e.0 in
    let same : v ≡ value_of c.args.number.now = whole _ v (e.1 ∙ to_z-of_z w64 _ wide ∙ c.value.ensures) fits in
    let b = c.contains.ensures.value in
    let b' = simp (c.new.ensures.start, c.new.ensures.end, c.new.ensures.exhausted, at_most, to_z-of_z) at b in
    let t = simp to_z-of_z at c.then_some.ensures in
    t ∙ chosen c.contains.result v ∙ ap (λ t. cond t (Some v) None) b' ∙ ap (λ (z : ℤ). cond (le_z c.args.least z && le_z z c.args.greatest) (Some z) None) same
