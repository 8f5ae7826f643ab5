use Rattle.std.proofs.Common.{◌≡◌, ◌+◌, ◌*◌, ◌+ℤ◌, ◌∙◌, arith, w32, SFits, rules}
use Rattle.std.specs.Int.{int_wrap}
use Rattle.std.proofs.lemmas.Int.{to_z-of_z}
use Rattle.sets.specs.Areas.{at}
use Rattle.stages.specs.Plain.{plain_lift}
use Rattle.transform.specs.Lone.{Double}
use Rattle.transform.proofs.Lones.{lone_count, lone_below, lone_touched, spaced_more}
use Rattle.transform.proofs.lifting.Lifting.double_lone.Goals as goal

pub slice_copy_out-double : goal.slice_copy_out-double
slice_copy_out-double c =
    let s = c.args.self.now in
    omega (arith, lone_below s.shape (plain_lift s.lift) _ _ c.along_time-lines.ensures c.requires.lone c.loop-i-test.true, c.requires.long)

pub bounds-area-a : goal.bounds-area-a
bounds-area-a c =
    let s = c.args.self.now in
    omega (arith, lone_below s.shape (plain_lift s.lift) _ _ c.along_time-lines.ensures c.requires.lone c.loop-i-test.true, c.requires.long)

pub loop-i-preserved : goal.loop-i-preserved
loop-i-preserved c =
    let s = c.args.self.now in
    let n = c.along_time-lines.result in
    let lined = c.along_time-lines.ensures in
    let i = c.loop-i.i in
    let x = at c.loop-i.area (n.start + i * n.apart) in
    let f : SFits w32 x = search rules in
    let r : SFits w32 c.double.result = search rules in
    let e : c.double.result ≡ int_wrap w32 (x +ℤ x) = simp to_z-of_z at c.double.ensures in
    let below = lone_below s.shape (plain_lift s.lift) n i lined c.requires.lone c.loop-i-test.true in
    spaced_more Double _ _ _ i c.loop-i.area lined.apart c.loop-i.invariant _ (omega arith) (f, to_z-of_z w32 _ r ∙ e)

pub returns : goal.returns
returns c =
    let s = c.args.self.now in
    let all : c.loop-i.i ≡ c.along_time-lines.result.line_count = omega arith in
    lone_touched _ _ _ c.along_time-lines.ensures (lone_count s.shape (plain_lift s.lift) c.requires.lone) Double _ _ c.requires.long (rw all at c.loop-i.invariant)
