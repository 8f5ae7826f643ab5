use Rattle.std.proofs.Common.{◌≡◌, true, false, not, eqb, ◌+ℤ◌, sym, ap, ◌∙◌, w32, w64, SFits, rules}
use Rattle.std.specs.Int.{int_wrap}
use Rattle.std.proofs.lemmas.Int.{to_z-of_z, wrapping_add_is, wrapping_sub_is}
use Rattle.std.proofs.lemmas.Bool.{eq-eqb, ne_eqb, not_from_true, not_from_false}
use Rattle.transform.specs.Colours.{recoloured}
use Rattle.transform.proofs.Recolours.{same-colours}
use Rattle.transform.proofs.rct.recolour.Goals as goal

pub returns-then-this-ne0 : goal.returns-then-this-ne0
returns-then-this-ne0 g c =
    let a = c.args.a in
    let b = c.args.b in
    let d = c.args.c in
    let fa = c.ranges.a in
    let fb = c.ranges.b in
    let fd = c.ranges.c in
    let m : SFits w32 c.middle_of-middle.result = search rules in
    let e = simp to_z-of_z at c.middle_of-middle.ensures in
    let flag : not (eqb g.row.UNDO 0) ≡ true = not_from_false _ (ne_eqb _ _ c.if-this-ne0.true) in
    same-colours _ _ _ _ _ _
    (wrapping_add_is w32 d _ fd m ∙ ap (λ z. int_wrap w32 (d +ℤ z)) e)
    (to_z-of_z w32 _ m ∙ e)
    (wrapping_add_is w32 b _ fb m ∙ ap (λ z. int_wrap w32 (b +ℤ z)) e)
    ∙ ap (λ u. recoloured u a b d) (sym flag)

pub returns-else-this-ne0 : goal.returns-else-this-ne0
returns-else-this-ne0 g c =
    let a = c.args.a in
    let b = c.args.b in
    let d = c.args.c in
    let fa = c.ranges.a in
    let fb = c.ranges.b in
    let fd = c.ranges.c in
    let l : SFits w32 c.low_bits.result = search rules in
    let wide : SFits w64 c.luma.result = search rules in
    let flag : not (eqb g.row.UNDO 0) ≡ false = not_from_true _ (eq-eqb _ _ c.if-this-ne0.false) in
    same-colours _ _ _ _ _ _
    (to_z-of_z w32 _ l ∙ c.low_bits.ensures ∙ ap (int_wrap w32) (to_z-of_z w64 _ wide ∙ simp to_z-of_z at c.luma.ensures))
    (wrapping_sub_is w32 d b fd fb)
    (wrapping_sub_is w32 a b fa fb)
    ∙ ap (λ u. recoloured u a b d) (sym flag)
