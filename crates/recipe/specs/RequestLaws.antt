-- The text of a report, written from what it asks in one way only, and what the reading answers to it.
use Rattle.std.specs.Prelude.{◌≡◌, ℕ, ◌<◌, ◌≤◌, true, ◌⊎◌, List, [], ◌∷◌, ◌++◌, length, pos, negsuc, ◌≤ℤ◌, Ok, Err, codes, decimal}
use Rattle.std.specs.Fmt.{signed_decimal}
use Rattle.sets.specs.declared.bounds.Bounds.{Bounds}
use Rattle.sets.specs.declared.shape.Shape.{Shape}
use Rattle.sets.specs.Sets.{in_limits}
use Rattle.recipe.specs.declared.fault.Cause.TheVariants.{TooLong}
use Rattle.recipe.specs.declared.fault.Fault.{Fault}
use Rattle.recipe.specs.Requests.{PlainRequest, requested}
use Rattle.recipe.specs.Written.{commas, ended, text_of, LawfulStages, PointsAtFirst}

-- the fields of the SET line
abbrev pub set_line : Shape → Bounds → List (List ℕ)
set_line f b = codes "SET" ∷ decimal f.channels ∷ decimal f.samples ∷ decimal f.origin ∷ signed_decimal b.least ∷ signed_decimal b.greatest ∷ []

-- two signed numbers of 32 bits, the least first
pub record LawfulBounds (b : Bounds) : Type 0 where
  pub low : negsuc 2147483647 ≤ℤ b.least
  pub ordered : b.least ≤ℤ b.greatest
  pub high : b.greatest ≤ℤ pos 2147483647

-- the limits of a request
pub record LawfulRequest (q : PlainRequest) : Type 0 where
  pub shape : in_limits q.shape ≡ true
  pub span : LawfulBounds q.span
  pub stages : LawfulStages q.stages

-- the text is this request, of whatever length: its SET line, and the recipe of its stages
pub record IsRequestText (text : List ℕ) (q : PlainRequest) : Type 0 where
  pub lawful : LawfulRequest q
  pub written : text ≡ ended (commas (set_line q.shape q.span)) ++ text_of q.stages

-- and it is not too long
pub record IsRequest (text : List ℕ) (q : PlainRequest) : Type 0 where
  pub request : IsRequestText text q
  pub short : length text ≤ 65536

-- the text is a request, of whatever length
abbrev pub SomeRequest : List ℕ → Type 0
SomeRequest text = (q : PlainRequest) × IsRequestText text q

-- the text is too long, and the fault says just that
pub record RefusedAsLong (text : List ℕ) (f : Fault) : Type 0 where
  pub long : 65536 < length text
  pub cause : f.cause ≡ TooLong
  pub line : f.line ≡ 0
  pub field : f.field ≡ 0

-- the text is not too long, and the fault points at its first wrong place
pub record RefusedAtPlace (text : List ℕ) (f : Fault) : Type 0 where
  pub short : length text ≤ 65536
  pub points : PointsAtFirst SomeRequest text f

-- what the reading answers: just the requests with their numbers, and else the length or where the first fault is
pub record RequestLaws : Type 0 where
  pub accepted : (text : List ℕ) (q : PlainRequest) → requested text ≡ Ok q → IsRequest text q
  pub complete : (text : List ℕ) (q : PlainRequest) → IsRequest text q → requested text ≡ Ok q
  pub unique : (text : List ℕ) (q r : PlainRequest) → IsRequest text q → IsRequest text r → q ≡ r
  pub refused : (text : List ℕ) (f : Fault) → requested text ≡ Err f → RefusedAsLong text f ⊎ RefusedAtPlace text f
