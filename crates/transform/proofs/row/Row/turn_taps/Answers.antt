use Rattle.std.proofs.Common.{◌≡◌, ◌+◌, ◌-◌, ◌*◌, not, eqb, subst, arith}
use Rattle.transform.specs.Rowed.{Rowed}
use Rattle.transform.proofs.Rows.{rowed-one-more}
use Rattle.transform.proofs.row.Row.turn_taps.Goals as goal

pub loop-i-preserved : goal.loop-i-preserved
loop-i-preserved g c =
    let undo = not (eqb g.row.UNDO 0) in
    let r = c.args.self.now in
    let i = c.loop-i.i in
    let one = rowed-one-more undo r _ (2 * i) c.loop-i.area (omega arith) c.loop-i.invariant _ c.requires.fitted c.turn_one.ensures.fits c.turn_one.ensures.set in
    let two = rowed-one-more undo r _ (2 * i + 1) c.turn_one.new.area (omega arith) one _ c.requires.fitted c.turn_one-in-loop-i.ensures.fits c.turn_one-in-loop-i.ensures.set in
    let next : 2 * i + 1 + 1 ≡ 2 * (i + 1) = omega arith in
    subst (λ n. Rowed undo r n c.args.area.now c.turn_one-in-loop-i.new.area) next two

pub returns-then-row-eq1 : goal.returns-then-row-eq1
returns-then-row-eq1 g c =
    let undo = not (eqb g.row.UNDO 0) in
    let r = c.args.self.now in
    let last : 2 * c.loop-i.i ≡ r.count - 1 = omega arith in
    let before = subst (λ k. Rowed undo r k c.args.area.now c.loop-i.area) last c.loop-i.invariant in
    let all = rowed-one-more undo r _ (r.count - 1) c.loop-i.area (omega arith) before _ c.requires.fitted c.turn_one-then-row-eq1.ensures.fits c.turn_one-then-row-eq1.ensures.set in
    let whole : r.count - 1 + 1 ≡ r.count = omega arith in
    subst (λ k. Rowed undo r k c.args.area.now c.turn_one-then-row-eq1.new.area) whole all
