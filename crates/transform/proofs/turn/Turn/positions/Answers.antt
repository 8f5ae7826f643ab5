use Rattle.std.proofs.Common.{◌+◌, not, eqb, arith}
use Rattle.transform.proofs.Windows.{positions_more, positions_end}
use Rattle.transform.proofs.turn.Turn.positions.Goals as goal

pub loop-j-preserved : goal.loop-j-preserved
loop-j-preserved g c =
    let inv = c.loop-j.invariant in
    (omega arith, omega arith, omega (arith, inv.2), positions_more _ c.args.self.now _ _ _ c.requires.sized c.args.from c.loop-j.j (omega arith) inv.2 inv.3 c.position.ensures)

pub returns : goal.returns
returns g c =
    let inv = c.loop-j.invariant in
    positions_end _ c.args.self.now _ _ c.args.from c.loop-j.j c.args.to inv.2 (omega arith) (omega arith) inv.3

-- the last position
pub returns-2 : goal.returns-2
returns-2 g c =
    let inv = c.loop-j.invariant in
    let all = positions_more (not (eqb g.row.UNDO 0)) c.args.self.now _ _ _ c.requires.sized c.args.from c.loop-j.j (omega arith) inv.2 inv.3 c.position.ensures in
    positions_end _ c.args.self.now _ _ c.args.from (c.loop-j.j + 2) c.args.to (omega (arith, inv.2)) (omega arith) (omega arith) all
