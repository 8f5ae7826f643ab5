use Rattle.std.proofs.Common.{◌≤◌, arith}
use Rattle.sets.specs.Sets.{in_limits}
use Rattle.rack.specs.Of.{meaning}
use Rattle.rack.proofs.Clear.{limits}
use Rattle.rack.proofs.Listing.{listed_skip, listed_more}
use Rattle.rack.proofs.Refusing.{true_from_ok}
use Rattle.rack.proofs.rack.Rack.list.Goals as goal
use Rattle.rack.proofs.rack.Rack.list.Goals.{then-lists, else-lists}

pub loop-c-preserved : goal.loop-c-preserved
loop-c-preserved g c =
    let m = meaning g.Self.Stages c.args.self.now in
    let f = c.args.shape.now in
    let few : f.channels ≤ 64 = (limits f (true_from_ok (in_limits f) _ c.in_ok-check.ensures)).channels in
    let inv = c.loop-c.invariant in
    elim c.if-lists.branch [
      | then-lists w ↦ rw (w.list-is, w.n-is) (listed_more m f c.args.number c.loop-c.c _ _ _ (omega (arith, inv.few)) inv w.if-lists.ensures)
      | else-lists w ↦ rw (w.list-is, w.n-is) (listed_skip m f c.args.number c.loop-c.c _ _ _ inv w.if-lists.ensures)
    ]
