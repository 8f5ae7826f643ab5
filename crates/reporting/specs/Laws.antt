-- What a report says, line by line and over the whole recipe.
use Rattle.std.specs.Prelude.{◌≡◌, ℕ, ◌+◌, ◌*◌, ◌<◌, List, [], ◌∷◌, length, take, replicate, Some, None, Ok, slice_index_or}
use Rattle.sets.specs.declared.bounds.Bounds.{Bounds}
use Rattle.sets.specs.declared.refusal.Refusal.{Refusal}
use Rattle.sets.specs.declared.shape.Shape.{Shape}
use Rattle.stages.specs.Plain.{Plain}
use Rattle.stages.specs.Ranges.{at}
use Rattle.stages.specs.Stages.{spans_after, spans_refused}
use Rattle.recipe.specs.Requests.{PlainRequest, requested}
use Rattle.reporting.specs.declared.line.Line.{Line}
use Rattle.reporting.specs.declared.line.Line.TheVariants.{Span, Refused}
use Rattle.reporting.specs.Lines.{report_lines}

-- the stages, in order and none refused, take the spans bs to the spans cs
pub data Leads (f : Shape) : List Plain → List Bounds → List Bounds → Type 0 where
  stay : {bs : List Bounds} → Leads f [] bs bs
  go : {s : Plain} {ss : List Plain} {bs cs : List Bounds} → spans_refused f s bs ≡ None → Leads f ss (spans_after f s bs) cs → Leads f (s ∷ ss) bs cs

-- every channel begins with the one span of the SET line
abbrev pub start : PlainRequest → List Bounds
start q = replicate q.shape.channels q.span

-- The lines of a text that was read:
-- line k × C + c is the span of channel c after stage k, where none of the stages up to k is refused;
-- where stage k is the first that is refused, line k × C says so and is the last;
-- where none is refused, there are no other lines.
pub record Tells (q : PlainRequest) (lines : List Line) : Type 0 where
  pub spans : (k c : ℕ) (cs : List Bounds) (d : Line) → k < length q.stages → c < q.shape.channels → Leads q.shape (take (k + 1) q.stages) (start q) cs → slice_index_or lines (k * q.shape.channels + c) d ≡ Span k c (at cs c).least (at cs c).greatest
  pub ends : (k : ℕ) (cs : List Bounds) (s : Plain) (e : Refusal) (d : Line) → k < length q.stages → s ≡ slice_index_or q.stages k s → Leads q.shape (take k q.stages) (start q) cs → spans_refused q.shape s cs ≡ Some e → (slice_index_or lines (k * q.shape.channels) d ≡ Refused k e) × (length lines ≡ k * q.shape.channels + 1)
  pub whole : (cs : List Bounds) → Leads q.shape q.stages (start q) cs → length lines ≡ length q.stages * q.shape.channels

-- what the report of any text says
abbrev pub ReportLaws : Type 0
ReportLaws = (text : List ℕ) (q : PlainRequest) → requested text ≡ Ok q → Tells q (report_lines text)
