-- One line, channel or stage more of a report.
use Rattle.std.proofs.Common.{◌≡◌, ℕ, ◌+◌, ◌<◌, List, [], ◌∷◌, ◌++◌, length, get_or, drop, replicate, Some, None, Ok, Err, Option, Result, sym, refl, ap, ◌∙◌, subst, arith}
use Rattle.std.proofs.lemmas.List.{drop_more, length-map, get_or-map}
use Rattle.sets.specs.declared.bounds.Bounds.{Bounds}
use Rattle.sets.specs.declared.refusal.Refusal.{Refusal}
use Rattle.sets.specs.declared.shape.Shape.{Shape}
use Rattle.sets.specs.Ordered.{no_bounds}
use Rattle.sets.specs.Sets.{bounds_of}
use Rattle.stages.specs.Plain.{Plain, plain}
use Rattle.stages.specs.Stages.{spans_after, spans_refused, spans_left, answered}
use Rattle.recipe.specs.declared.fault.Fault.{Fault}
use Rattle.recipe.specs.declared.request.Request.{Request}
use Rattle.recipe.specs.Replies.{answered as replied}
use Rattle.recipe.specs.Requests.{requested}
use Rattle.recipe.specs.declared.table.Recipe.{Recipe}
use Rattle.recipe.specs.Tables.{stages_of, table_of}
use Rattle.stages.specs.declared.stage.Stage.{Stage}
use Rattle.reporting.specs.declared.line.Line.TheVariants.{Span, Fault as FaultLine, Refused}
use Rattle.reporting.specs.Lines.{channel_lines, stage_lines, request_lines, report_lines}

pub channel_lines-more : (k c : ℕ) (b : Bounds) (bs : List Bounds) → c < length bs → b ≡ get_or bs c no_bounds → channel_lines k c (drop c bs) ≡ Span k c b.least b.greatest ∷ channel_lines k (c + 1) (drop (c + 1) bs)
unfolding channel_lines
channel_lines-more k c b bs h e = ap (channel_lines k c) (drop_more bs c no_bounds h) ∙ ap (λ x. Span k c x.least x.greatest ∷ channel_lines k (c + 1) (drop (c + 1) bs)) (sym e)

module _ (f : Shape) (k : ℕ) (s : Plain) (ts : List Plain) (bs : List Bounds) (h : k < length ts) (e : get_or ts k s ≡ s) where
  pub stage_lines-more : spans_refused f s bs ≡ None → stage_lines f k (drop k ts) bs ≡ channel_lines k 0 (spans_after f s bs) ++ stage_lines f (k + 1) (drop (k + 1) ts) (spans_after f s bs)
  unfolding stage_lines
  stage_lines-more n = ap (λ l. stage_lines f k l bs) (drop_more ts k s h ∙ ap (λ x. x ∷ drop (k + 1) ts) e) ∙ ap (λ o. elim o [ None ↦ channel_lines k 0 (spans_after f s bs) ++ stage_lines f (k + 1) (drop (k + 1) ts) (spans_after f s bs) | Some r ↦ Refused k r ∷ [] ]) n

  pub stage_lines-refused : (r : Refusal) → spans_refused f s bs ≡ Some r → stage_lines f k (drop k ts) bs ≡ Refused k r ∷ []
  unfolding stage_lines
  stage_lines-refused r n = ap (λ l. stage_lines f k l bs) (drop_more ts k s h ∙ ap (λ x. x ∷ drop (k + 1) ts) e) ∙ ap (λ o. elim o [ None ↦ channel_lines k 0 (spans_after f s bs) ++ stage_lines f (k + 1) (drop (k + 1) ts) (spans_after f s bs) | Some q ↦ Refused k q ∷ [] ]) n

-- what an answer says of the refusal behind it
pub refused_none : (o : Option Refusal) (u : Unit) → answered o ≡ Ok u → o ≡ None
refused_none None u e = refl
refused_none (Some r) u e = let z : ◌≡◌ {A = ℕ} 0 1 = cc in absurd (omega arith)

pub refused_some : (o : Option Refusal) (r : Refusal) → answered o ≡ Err r → o ≡ Some r
refused_some None r e = let z : ◌≡◌ {A = ℕ} 0 1 = cc in absurd (omega arith)
refused_some (Some q) r e = cc

pub left_after : (f : Shape) (s : Plain) (bs cs : List Bounds) → spans_refused f s bs ≡ None → cs ≡ spans_left f s bs (spans_refused f s bs) → cs ≡ spans_after f s bs
left_after f s bs cs n e = e ∙ ap (spans_left f s bs) n

pub after_none : {A : Type 0} (xs ys zs : List A) → xs ≡ ys ++ zs → ys ≡ [] → xs ≡ zs
after_none xs ys zs e n = e ∙ ap (λ l. l ++ zs) n

-- the lines of a text that was read, and of a fault
pub accepted_lines : (text : List ℕ) (r : Result Request Fault) (p : Request) → replied r ≡ requested text → r ≡ Ok p → report_lines text ≡ stage_lines p.shape 0 (table_of p.recipe) (replicate p.shape.channels (bounds_of p.span))
unfolding report_lines
accepted_lines text r p a e = ap request_lines (sym a ∙ ap replied e)

pub refused_lines : (text : List ℕ) (r : Result Request Fault) (f : Fault) → replied r ≡ requested text → r ≡ Err f → report_lines text ≡ FaultLine f ∷ []
unfolding report_lines
refused_lines text r f a e = ap request_lines (sym a ∙ ap replied e)

-- what stands at a place of a recipe's stages stands in its table by its words and numbers
pub stage_at : (r : Recipe) (xs : List Stage) (k : ℕ) (s : Stage) → xs ≡ stages_of r → k < length xs → s ≡ get_or xs k s → (k < length (table_of r)) × (get_or (table_of r) k (plain s) ≡ plain s)
stage_at r xs k s is h e =
    let inside : k < length (stages_of r) = subst (λ l. k < length l) is h in
    let here : s ≡ get_or (stages_of r) k s = subst (λ l. s ≡ get_or l k s) is e in
    (omega (arith, inside, length-map (stages_of r) plain), get_or-map plain (stages_of r) k s (plain s) inside ∙ ap plain (sym here))
