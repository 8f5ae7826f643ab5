use Rattle.std.proofs.Common.{sym, subst, arith}
use Rattle.std.proofs.lemmas.Int.{to_z-of_z}
use Rattle.stages.specs.Lines.{MirroredTo}
use Rattle.stages.proofs.Mirrors.{turned, turned-inside, mirrored-turned, mirrored_is}
use Rattle.stages.proofs.line.Indices.mirrored.Goals as goal
use Rattle.stages.proofs.line.Indices.mirrored.Goals.{After-unsigned_abs-far}

-- the result is the place in a period
is-turned : (c : After-unsigned_abs-far) → MirroredTo c.args.self.now.count c.args.index (turned c.args.self.now.count c.unsigned_abs-far.result)
is-turned c =
    let f = c.ranges.index in
    let far = simp to_z-of_z at c.unsigned_abs-far.ensures.value in
    rw far (mirrored-turned _ _ c.args.self.now.many)

pub returns-then-far-self : goal.returns-then-far-self
returns-then-far-self c =
    let n = c.args.self.now.count in
    let m = subst (MirroredTo n c.args.index) (turned-inside n c.unsigned_abs-far.result (omega arith) (omega arith)) (is-turned (goal.at.returns-then-far-self c).After-unsigned_abs-far) in
    record { is = m; value = mirrored_is _ _ _ (omega arith) m }

pub returns : goal.returns
returns c =
    let n = c.args.self.now.count in
    let m = subst (MirroredTo n c.args.index) (sym c.min.ensures) (is-turned (goal.at.returns c).After-unsigned_abs-far) in
    record { is = m; value = mirrored_is _ _ _ (omega arith) m }
