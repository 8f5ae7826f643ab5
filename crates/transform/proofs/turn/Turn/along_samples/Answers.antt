use Rattle.std.proofs.Common.{◌+◌, not, eqb, arith}
use Rattle.transform.proofs.Windows.{positions_joined}
use Rattle.transform.proofs.turn.Turn.along_samples.Goals as goal

pub returns : goal.returns
returns g c =
    let t = c.args.self.now in
    let start = c.args.from + 32 in
    let front = positions_joined (not (eqb g.row.UNDO 0)) t _ _ _ c.requires.sized c.args.from start _ (omega arith) (omega arith) c.positions-2.ensures c.on_all.ensures in
    positions_joined _ t _ _ _ c.requires.sized c.args.from _ t.on_lines.lines.count (omega arith) (omega arith) front c.positions-3.ensures
