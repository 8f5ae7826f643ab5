use Rattle.std.proofs.Common.{refl}
use Rattle.transform.proofs.Serving.{position_served, served_apart, served_fits, served_turned}
use Rattle.transform.proofs.turn.Turn.position.Goals as goal

pub invariant_of-row-clause-apart : goal.invariant_of-row-clause-apart
invariant_of-row-clause-apart g c =
    let on = c.args.self.now.on_lines in
    let served = position_served _ _ _ _ c.args.self.now.step c.args.j c.sources-from.result on.lined c.requires.inside c.requires.hits c.sources-from.ensures in
    served_apart _ _ _ _ _ on.lined on.many _ _ _ _ _ served

pub turn-requires : goal.turn-requires
turn-requires g c =
    let on = c.args.self.now.on_lines in
    let served = position_served _ _ _ _ c.args.self.now.step c.args.j c.sources-from.result on.lined c.requires.inside c.requires.hits c.sources-from.ensures in
    served_fits _ _ _ _ _ on.lined on.many _ _ served refl _ c.requires.sized

pub returns : goal.returns
returns g c =
    let on = c.args.self.now.on_lines in
    let served = position_served _ _ _ _ c.args.self.now.step c.args.j c.sources-from.result on.lined c.requires.inside c.requires.hits c.sources-from.ensures in
    served_turned _ _ _ _ _ on.lined on.many _ _ served refl _ _ _ c.requires.sized c.turn.ensures
