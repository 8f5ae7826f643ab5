use Rattle.std.proofs.Common.{sym, ap, ◌∙◌}
use Rattle.std.proofs.lemmas.Bool.{eqb-true, eqb-false}
use Rattle.recipe.specs.Readings.{reading_from}
use Rattle.recipe.proofs.Texts.{next-kept, next-broken, end-done, end-short, reads_err}
use Rattle.recipe.proofs.reading.Reading.take_all.Goals as goal
use Rattle.recipe.proofs.reading.Reading.take_all.Goals.{else-is_empty-via-then-is_empty+else-self-eq0, else-is_empty-via-else-is_empty}

pub returns-in_err-take-clause-reads : goal.returns-in_err-take-clause-reads
returns-in_err-take-clause-reads c =
    reads_err _ _ c.from_residual.result _ c.from_residual.ensures (c.loop-line.invariant.1 ∙ next-broken _ _ _ _ c.in-Some.ensures.cases _ c.in_err-take.ensures.takes)

pub loop-line-preserved : goal.loop-line-preserved
loop-line-preserved c =
    let h = c.in_ok-take.ensures.takes in
    (c.take.ensures.same ∙ c.loop-line.invariant.0, c.loop-line.invariant.1 ∙ next-kept _ _ _ _ c.in-Some.ensures.cases h.0 ∙ ap (λ s. reading_from s c.next_line.new.self) h.1)

pub returns-then-self-eq0-clause-reads : goal.returns-then-self-eq0-clause-reads
returns-then-self-eq0-clause-reads c =
    c.loop-line.invariant.1 ∙ end-done _ _ _ c.in_default.ensures.cases (eqb-true _ _ (sym c.is_empty.ensures ∙ c.if-is_empty.true)) c.if-self-eq0.true

pub returns-clause-reads : goal.returns-clause-reads
returns-clause-reads c =
    rw c.ends_inside.ensures (c.loop-line.invariant.1 ∙ end-short _ _ _ c.in_default.ensures.cases
    (elim c.else-is_empty.branch [ else-is_empty-via-then-is_empty+else-self-eq0 w ↦ (λ e z. w.if-self-eq0.false z) | else-is_empty-via-else-is_empty w ↦ (λ e z. eqb-false _ _ (sym c.is_empty.ensures ∙ w.if-is_empty.false) e) ]))
