use Rattle.std.proofs.Common.{◌≡◌, true, List, length, ℤ, sym}
use Rattle.sets.specs.declared.bounds.Bounds.{Bounds}
use Rattle.sets.specs.declared.shape.Shape.{Shape}
use Rattle.sets.specs.Areas.{Within, within}
use Rattle.sets.specs.Sets.{rows_of}
use Rattle.sets.proofs.Everywhere.{within-from-true}
use Rattle.rack.specs.Of.{meaning}
use Rattle.rack.proofs.Clear.{area_clear}
use Rattle.rack.proofs.Refusing.{none_from_ok}
use Rattle.rack.proofs.rack.Rack.apply.Goals as goal

inside_from_answer : (f : Shape) (bs : List Bounds) (xs : List ℤ) → true ≡ within f bs xs → Within f bs xs
inside_from_answer f bs xs e = within-from-true f bs xs (sym e)

pub forward-requires : goal.forward-requires
forward-requires g c =
    let bs = rows_of c.args.spans.now in
    let clear = area_clear (meaning g.Self.Stages c.args.self.now) c.args.shape.now c.args.number bs (length c.args.area.now) (none_from_ok _ c.in_ok-ready.ensures) in
    record { admitted = (_, clear.ready); inside = inside_from_answer c.args.shape.now bs c.args.area.now c.if-not-hold.ensures }
