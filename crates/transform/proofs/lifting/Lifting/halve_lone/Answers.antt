use Rattle.std.proofs.Common.{◌≡◌, ◌+◌, ◌*◌, ℤ, ◌+ℤ◌, sym, ap, ◌∙◌, arith, w32, SFits, rules}
use Rattle.std.proofs.lemmas.Int.{to_z-of_z}
use Rattle.sets.specs.Areas.{at}
use Rattle.stages.specs.Plain.{plain_lift}
use Rattle.transform.specs.Lone.{Half}
use Rattle.transform.proofs.Lones.{lone_count, lone_below, lone_touched, lone-odd, spaced_old, spaced_more}
use Rattle.transform.proofs.lifting.Lifting.halve_lone.Goals as goal

pub slice_copy_out-half : goal.slice_copy_out-half
slice_copy_out-half c =
    let s = c.args.self.now in
    omega (arith, lone_below s.shape (plain_lift s.lift) _ _ c.along_time-lines.ensures c.requires.lone c.loop-i-test.true, c.requires.long)

pub bounds-area-a : goal.bounds-area-a
bounds-area-a c =
    let s = c.args.self.now in
    omega (arith, lone_below s.shape (plain_lift s.lift) _ _ c.along_time-lines.ensures c.requires.lone c.loop-i-test.true, c.requires.long)

pub returns-in_err-area-clause-odd : goal.returns-in_err-area-clause-odd
returns-in_err-area-clause-odd c _ =
    let s = c.args.self.now in
    let n = c.along_time-lines.result in
    let lined = c.along_time-lines.ensures in
    let i = c.loop-i.i in
    let x = at c.loop-i.area (n.start + i * n.apart) in
    let f : SFits w32 x = search rules in
    let odd : (y : ℤ) → y +ℤ y ≡ x → ⊥ = simp to_z-of_z at c.in_err-area.ensures in
    let old = spaced_old Half _ _ _ i c.loop-i.area lined.apart c.loop-i.invariant in
    lone-odd _ _ _ lined (lone_count s.shape (plain_lift s.lift) c.requires.lone) _ c.requires.long (record { line = i; below = c.loop-i-test.true; odd = λ y h. odd y (h ∙ sym old) })

pub loop-i-preserved : goal.loop-i-preserved
loop-i-preserved c =
    let s = c.args.self.now in
    let n = c.along_time-lines.result in
    let lined = c.along_time-lines.ensures in
    let i = c.loop-i.i in
    let x = at c.loop-i.area (n.start + i * n.apart) in
    let f : SFits w32 x = search rules in
    let r : SFits w32 c.in_ok-area.field-0 = search rules in
    let e : c.in_ok-area.field-0 +ℤ c.in_ok-area.field-0 ≡ x = simp to_z-of_z at c.in_ok-area.ensures in
    let below = lone_below s.shape (plain_lift s.lift) n i lined c.requires.lone c.loop-i-test.true in
    spaced_more Half _ _ _ i c.loop-i.area lined.apart c.loop-i.invariant _ (omega arith) (f, ap (λ y. y +ℤ y) (to_z-of_z w32 _ r) ∙ e)

pub returns-clause-even : goal.returns-clause-even
returns-clause-even c _ =
    let s = c.args.self.now in
    let all : c.loop-i.i ≡ c.along_time-lines.result.line_count = omega arith in
    lone_touched _ _ _ c.along_time-lines.ensures (lone_count s.shape (plain_lift s.lift) c.requires.lone) Half _ _ c.requires.long (rw all at c.loop-i.invariant)
