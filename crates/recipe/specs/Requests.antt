-- The text of a report: a SET line, and a recipe.
use Rattle.std.specs.Prelude.{ℕ, cond, List, [], ◌∷◌, length, Some, None, Ok, Err, codes, Option, Result, nat_le}
use Rattle.sets.specs.declared.bounds.Bounds.{Bounds}
use Rattle.sets.specs.declared.shape.Shape.{Shape}
use Rattle.sets.specs.Sets.{bounds_of}
use Rattle.recipe.specs.declared.fault.Cause.TheVariants.{WordDue, FieldCount, EndsInside, TooLong}
use Rattle.recipe.specs.declared.fault.Fault.{Fault}
use Rattle.recipe.specs.declared.request.Request.{Request}
use Rattle.recipe.specs.Fields.{fields_of, lines_of, tail_of}
use Rattle.recipe.specs.Grammar.{natural, fault_at, begun, read_from}
use Rattle.stages.specs.Plain.{Plain}
use Rattle.recipe.specs.Tables.{table_of}
use Rattle.recipe.specs.Rules.{set, same, field, number, first_wrong, has_fields, rules_of}

-- a request by its numbers
pub record PlainRequest : Type 0 where
  pub shape : Shape
  pub span : Bounds
  pub stages : List Plain

abbrev pub plain_request : Request → PlainRequest
plain_request r = record { shape = r.shape; span = bounds_of r.span; stages = table_of r.recipe }

-- the fault of the SET line, if any
unfoldable pub set_fault : List (List ℕ) → Option Fault
set_fault fs = cond (same (field fs 0) (codes "SET")) (cond (has_fields set (length fs)) (first_wrong 1 fs 1 (rules_of set fs)) (fault_at FieldCount 1)) (fault_at WordDue 1)

abbrev pub shape_from : List (List ℕ) → Shape
shape_from fs = record { channels = natural fs 1; samples = natural fs 2; origin = natural fs 3 }

abbrev pub span_from : List (List ℕ) → Bounds
span_from fs = record { least = number fs 4; greatest = number fs 5 }

-- the stages with the set before them
abbrev pub asked : List (List ℕ) → Result (List Plain) Fault → Result PlainRequest Fault
asked fs (Ok ts) = Ok (record { shape = shape_from fs; span = span_from fs; stages = ts })
asked fs (Err f) = Err f

abbrev pub request_from : List (List ℕ) → List ℕ → Result PlainRequest Fault
request_from [] tail = Err (record { cause = EndsInside; line = 1; field = 0 })
request_from (l ∷ ls) tail = elim (set_fault (fields_of l)) [ None ↦ asked (fields_of l) (read_from begun 2 ls tail) | Some f ↦ Err f ]

-- the answer to a report's text: at most 65,536 bytes are read
unfoldable pub requested : List ℕ → Result PlainRequest Fault
requested text = cond (nat_le (length text) 65536) (request_from (lines_of text) (tail_of text)) (Err (record { cause = TooLong; line = 0; field = 0 }))
