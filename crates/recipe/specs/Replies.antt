-- The shapes of the answers to a text.
use Rattle.std.specs.Prelude.{◌≡◌, List, [], Ok, Err, Result}
use Rattle.recipe.specs.declared.fault.Fault.{Fault}
use Rattle.recipe.specs.declared.request.Request.{Request}
use Rattle.stages.specs.Plain.{Plain}
use Rattle.recipe.specs.Requests.{PlainRequest, plain_request}

-- the answer to a text, with what the table holds then: its stages, or nothing beside the fault
abbrev pub Answers : Result (List Plain) Fault → Result Unit Fault → List Plain → Type 0
Answers (Ok ts) r held = (r ≡ Ok tt) × (held ≡ ts)
Answers (Err f) r held = (r ≡ Err f) × (held ≡ [])

-- the answer r is that of the text, whose stages the table holds if it has no fault
abbrev pub Reads : Result (List Plain) Fault → List Plain → Result Unit Fault → Type 0
Reads o held (Ok u) = o ≡ Ok held
Reads o held (Err f) = o ≡ Err f

-- an answer by its numbers
abbrev pub answered : Result Request Fault → Result PlainRequest Fault
answered (Ok q) = Ok (plain_request q)
answered (Err f) = Err f
