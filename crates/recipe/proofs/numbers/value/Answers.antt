use Rattle.std.proofs.Common.{◌≡◌, get_or, pos, ◌-ℤ◌, neg_ℤ, sym, ap, ◌∙◌, arith, w64, to_z, of_z}
use Rattle.std.proofs.lemmas.List.{take_rest, get_or_past}
use Rattle.std.proofs.lemmas.Int.{ints}
use Rattle.recipe.proofs.Values.{capped-signed, capped-plain}
use Rattle.recipe.proofs.numbers.value.Goals as goal
use Rattle.recipe.proofs.numbers.value.Goals.{In_default, at-returns-in_default, in_default-via-then-number-lt1, in_default-via-else-number-lt1+in_default-1}

pub returns-in-45 : goal.returns-in-45
returns-in-45 c =
    let e = c.magnitude.ensures in
    let e' = rw (take_rest c.args.number.now 1) at e in
    let same = c.from.ensures in
    let m : to_z w64 (of_z w64 (pos 0 -ℤ to_z w64 (of_z w64 c.from.result))) ≡ neg_ℤ (pos c.magnitude.result) = omega (arith, ints) in
    m ∙ ap (λ n. neg_ℤ (pos n)) e' ∙ sym (capped-signed c.args.number.now (omega arith))

unsigned : (c : In_default) → get_or c.args.number.now 0 0 ≡ 45 → ⊥
unsigned c e =
    elim c.in_default.branch [ in_default-via-then-number-lt1 w ↦ let p = get_or_past c.args.number.now 0 0 (grind arith) in omega arith | in_default-via-else-number-lt1+in_default-1 w ↦ omega arith ]

pub returns-in_default : goal.returns-in_default
returns-in_default c =
    let same = c.from-in_default.ensures in
    let m : to_z w64 (of_z w64 c.from-in_default.result) ≡ pos c.magnitude-in_default.result = omega (arith, ints) in
    m ∙ ap pos c.magnitude-in_default.ensures ∙ sym (capped-plain c.args.number.now (unsigned (at-returns-in_default c).In_default))
