use Rattle.std.proofs.Common.{◌≡◌, ◌^◌, ◌<◌, ℤ, true, cond, ◌&&◌, pos, neg_ℤ, ◌-ℤ◌, Some, None, ap, ◌∙◌, arith, w64, to_z, of_z}
use Rattle.std.specs.Prelude.{int_le}
use Rattle.std.proofs.lemmas.Int.{ints}
use Rattle.std.proofs.lemmas.Bool.{cond-true, and_from, le-leb}
use Rattle.std.proofs.lemmas.Option.{same_Some}
use Rattle.stages.specs.Lines.{is_line, is_index, extended}
use Rattle.rules.proofs.LiftIndices.{extended-below}
use Rattle.transform.specs.Lined.{spot}
use Rattle.transform.proofs.Limits.{position_small, line_small}
use Rattle.transform.proofs.turn.Turn.source.Goals as goal

position_is : (c : goal.In-Some) → c.in-Some.position ≡ extended c.args.self.now.on_lines.lifting.lift.extension c.args.self.now.on_lines.lines.count (c.args.index -ℤ pos c.args.self.now.on_lines.lines.first)
position_is c =
    let n = c.args.self.now.on_lines.lines.count in
    let z = c.args.index -ℤ pos c.args.self.now.on_lines.lines.first in
    let line : is_line n ≡ true = and_from _ _ (le-leb 2 n c.args.self.now.on_lines.many) (le-leb n 2097152 c.args.self.now.on_lines.lines.few) in
    let near : is_index z ≡ true = and_from (int_le (neg_ℤ (pos (2 ^ 40))) z) (int_le z (pos (2 ^ 40))) (grind (arith, ints)) (grind (arith, ints)) in
    let told = λ (y : ℤ). cond (is_line n && is_index y) (Some (extended c.args.self.now.on_lines.lifting.lift.extension n y)) None in
    let passed : told z ≡ Some (extended c.args.self.now.on_lines.lifting.lift.extension n z) = cond-true _ _ _ (and_from _ _ line near) in
    let same : to_z w64 (of_z w64 (to_z w64 (of_z w64 c.args.index) -ℤ to_z w64 c.args.self.now.on_lines.lines.first)) ≡ z = omega (arith, ints) in
    let found : Some c.in-Some.position ≡ told z = c.in-Some.ensures ∙ ap told same in
    same_Some _ _ (found ∙ passed)

position_below : (c : goal.In-Some) → c.in-Some.position < c.args.self.now.on_lines.lines.count
position_below c =
    let n = c.args.self.now.on_lines.lines.count in
    omega (arith, position_is c, extended-below c.args.self.now.on_lines.lifting.lift.extension n (c.args.index -ℤ pos c.args.self.now.on_lines.lines.first) c.args.self.now.on_lines.many)

pub overflow_mul-result : goal.overflow_mul-result
overflow_mul-result c = omega (arith, position_small c.args.self.now.on_lines.lines c.in-Some.position (position_below c))

pub overflow_add-result : goal.overflow_add-result
overflow_add-result c = omega (arith, position_small c.args.self.now.on_lines.lines c.in-Some.position (position_below c))

pub overflow_add-result-in-Some : goal.overflow_add-result-in-Some
overflow_add-result-in-Some c = omega (arith, position_small c.args.self.now.on_lines.lines c.in-Some.position (position_below c), line_small c.args.self.now.on_lines.lines c.args.line c.requires.line)

pub returns-in-Some : goal.returns-in-Some
returns-in-Some c = ap (spot c.args.self.now.on_lines.lines c.args.line) (position_is c)
