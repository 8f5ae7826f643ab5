use Rattle.std.proofs.Common.{◌≡◌, ◌+◌, not, eqb, ◌∙◌, w32, SFits, rules}
use Rattle.std.proofs.lemmas.Int.{to_z-of_z}
use Rattle.sets.specs.Areas.{at}
use Rattle.transform.specs.Colours.{coloured_at}
use Rattle.transform.proofs.Recolours.{colours, same-colours, recoloured-more}
use Rattle.transform.proofs.rct.recolour_all.Goals as goal

pub loop-t-preserved : goal.loop-t-preserved
loop-t-preserved g c =
    let undo = not (eqb g.row.UNDO 0) in
    let ys = c.loop-t.area in
    let t = c.loop-t.t in
    let a : SFits w32 (at ys (c.args.p + t)) = search rules in
    let b : SFits w32 (at ys (c.args.q + t)) = search rules in
    let d : SFits w32 (at ys (c.args.r + t)) = search rules in
    let new = c.recolour-new.result in
    let f : SFits w32 new.first = search rules in
    let h : SFits w32 new.second = search rules in
    let k : SFits w32 new.third = search rules in
    let e : new ≡ coloured_at undo c.args.p c.args.q c.args.r ys t = simp to_z-of_z at c.recolour-new.ensures in
    recoloured-more undo _ _ _ _ c.args.count t ys c.requires.apart.0 c.requires.apart.1 c.requires.inside c.loop-t-test.true c.loop-t.invariant (colours _ _ _) a b d
    (same-colours _ _ _ _ _ _ (to_z-of_z w32 new.first f) (to_z-of_z w32 new.second h) (to_z-of_z w32 new.third k) ∙ e)
