-- The lines of a report, and their text.
use Rattle.std.specs.Prelude.{ℕ, ◌+◌, List, [], ◌∷◌, ◌++◌, replicate, Some, None, Ok, Err, codes, decimal, Result}
use Rattle.std.specs.Fmt.{signed_decimal}
use Rattle.sets.specs.declared.bounds.Bounds.{Bounds}
use Rattle.sets.specs.declared.shape.Shape.{Shape}
use Rattle.sets.specs.Refusals.{number_of}
use Rattle.stages.specs.Plain.{Plain}
use Rattle.stages.specs.Stages.{spans_after, spans_refused}
use Rattle.recipe.specs.declared.fault.Fault.{Fault}
use Rattle.recipe.specs.Causes.{number_of as cause_number}
use Rattle.recipe.specs.Requests.{PlainRequest, requested}
use Rattle.reporting.specs.declared.line.Line.{Line}
use Rattle.reporting.specs.declared.line.Line.TheVariants.{Span, Fault as FaultLine, Refused, Numbered}

-- numbers in decimal, parted by commas
abbrev pub text_of : Line → List ℕ
text_of (Span stage channel least greatest) = decimal stage ++ (codes "," ++ (decimal channel ++ (codes "," ++ (signed_decimal least ++ (codes "," ++ signed_decimal greatest)))))
text_of (FaultLine fault) = codes "refused," ++ (decimal (cause_number fault.cause) ++ (codes "," ++ (decimal fault.line ++ (codes "," ++ decimal fault.field))))
text_of (Refused stage refusal) = codes "refused," ++ (decimal (number_of refusal) ++ (codes "," ++ (decimal stage ++ codes ",0")))
text_of (Numbered number place field) = codes "refused," ++ (decimal number ++ (codes "," ++ (decimal place ++ (codes "," ++ decimal field))))

-- the spans of all channels after stage k, from channel c on
unfoldable pub channel_lines : ℕ → ℕ → List Bounds → List Line
channel_lines k c [] = []
channel_lines k c (b ∷ bs) = Span k c b.least b.greatest ∷ channel_lines k (c + 1) bs

-- the lines of the stages from stage k on: a stage that is refused says only that, and ends the report
unfoldable pub stage_lines : Shape → ℕ → List Plain → List Bounds → List Line
stage_lines f k [] bs = []
stage_lines f k (s ∷ ss) bs = elim (spans_refused f s bs) [ None ↦ channel_lines k 0 (spans_after f s bs) ++ stage_lines f (k + 1) ss (spans_after f s bs) | Some e ↦ Refused k e ∷ [] ]

-- every channel begins with the one span of the SET line
abbrev pub asked_lines : PlainRequest → List Line
asked_lines q = stage_lines q.shape 0 q.stages (replicate q.shape.channels q.span)

abbrev pub request_lines : Result PlainRequest Fault → List Line
request_lines (Ok q) = asked_lines q
request_lines (Err f) = FaultLine f ∷ []

-- the report of a text
unfoldable pub report_lines : List ℕ → List Line
report_lines text = request_lines (requested text)
