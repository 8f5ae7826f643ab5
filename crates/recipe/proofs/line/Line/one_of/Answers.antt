use Rattle.std.proofs.Common.{◌≡◌, true, false, [], ◌∷◌, Some, sym, refl, ap, ◌∙◌}
use Rattle.std.proofs.lemmas.Bool.{cond-true, cond-false, or_left, or_right, or_from}
use Rattle.recipe.specs.Fields.{fields_of}
use Rattle.recipe.specs.Rules.{same, field, listed}
use Rattle.recipe.proofs.Faults.{first_wrong-here, listed_right, shown_no_word, same_read, wrong-no-word, wrong-not-listed}
use Rattle.recipe.proofs.line.Line.one_of.Goals as goal

pub returns-in_default : goal.returns-in_default
returns-in_default g c =
    let line = c.args.self.now in
    first_wrong-here line.number (fields_of line.bytes.now) c.args.k (listed (c.args.first.0.now ∷ c.args.second.0.now ∷ [])) [] _
    (wrong-no-word _ _ (shown_no_word c.field.result _ (rw c.from.ensures at c.field.ensures) c.in_default.not-Word))
    ∙ ap Some (sym c.fault.ensures)

pub returns-then-eq : goal.returns-then-eq
returns-then-eq g c =
    let line = c.args.self.now in
    let f = field (fields_of line.bytes.now) c.args.k in
    let shown = rw c.from.ensures at c.in-Word.ensures in
    let one : same f c.args.first.0.now ≡ true = same_read f c.in-Word.word.now c.args.first.0.now c.eq.result _ shown.0 c.eq.ensures c.if-eq.true in
    (listed_right line.number (fields_of line.bytes.now) c.args.k _ shown.1 (or_left _ _ one), sym (cond-true _ _ _ one))

pub returns-then-eq-2 : goal.returns-then-eq-2
returns-then-eq-2 g c =
    let line = c.args.self.now in
    let f = field (fields_of line.bytes.now) c.args.k in
    let shown = rw c.from.ensures at c.in-Word.ensures in
    let one : same f c.args.first.0.now ≡ false = same_read f c.in-Word.word.now c.args.first.0.now c.eq.result _ shown.0 c.eq.ensures c.if-eq.false in
    let two : same f c.args.second.0.now ≡ true = same_read f c.in-Word.word.now c.args.second.0.now c.eq-2.result _ shown.0 c.eq-2.ensures c.if-eq-2.true in
    (listed_right line.number (fields_of line.bytes.now) c.args.k (c.args.first.0.now ∷ c.args.second.0.now ∷ []) shown.1 (or_right (same f c.args.first.0.now) _ (or_left _ _ two)), sym (cond-false _ _ _ one))

pub returns : goal.returns
returns g c =
    let line = c.args.self.now in
    let f = field (fields_of line.bytes.now) c.args.k in
    let shown = rw c.from.ensures at c.in-Word.ensures in
    let one : same f c.args.first.0.now ≡ false = same_read f c.in-Word.word.now c.args.first.0.now c.eq.result _ shown.0 c.eq.ensures c.if-eq.false in
    let two : same f c.args.second.0.now ≡ false = same_read f c.in-Word.word.now c.args.second.0.now c.eq-2.result _ shown.0 c.eq-2.ensures c.if-eq-2.false in
    first_wrong-here line.number (fields_of line.bytes.now) c.args.k (listed (c.args.first.0.now ∷ c.args.second.0.now ∷ [])) [] _ (wrong-not-listed _ _ (or_from _ _ one (or_from _ _ two refl)))
    ∙ ap Some (sym c.fault-2.ensures)
