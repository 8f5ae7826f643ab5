-- The text of a recipe, written from its stages in one way only, and what the reading answers to it.
use Rattle.std.specs.Prelude.{◌≡◌, ℕ, ◌+◌, ◌-◌, ◌<◌, ◌≤◌, List, [], ◌∷◌, ◌++◌, map, length, take, ℤ, pos, negsuc, ◌≤ℤ◌, Ok, Err, codes, decimal, ◌≢◌, slice_index_or}
use Rattle.std.specs.List.{flat_map, join_with_byte, AllByRecursion}
use Rattle.std.specs.Fmt.{signed_decimal}
use Rattle.stages.specs.Channels.{half_of}
use Rattle.stages.specs.declared.stage.Axis.{Axis}
use Rattle.stages.specs.declared.stage.Axis.TheVariants.{Time, Channel}
use Rattle.stages.specs.declared.stage.Extension.{Extension}
use Rattle.stages.specs.declared.stage.Extension.TheVariants.{Mirrored, Nearest}
use Rattle.stages.specs.declared.stage.Parity.{Parity}
use Rattle.stages.specs.declared.stage.Parity.TheVariants.{Even, Odd}
use Rattle.recipe.specs.declared.fault.Fault.{Fault}
use Rattle.recipe.specs.declared.fault.Cause.TheVariants.{EndsInside, FieldCount}
use Rattle.recipe.specs.Fields.{lines_of, fields_of}
use Rattle.recipe.specs.Grammar.{reading}
use Rattle.stages.specs.Plain.{Plain, PlainStep, PlainRow, PlainLift, lift, dep, rct}

abbrev pub axis_word : Axis → List ℕ
axis_word Time = codes "T"
axis_word Channel = codes "C"

abbrev pub extension_word : Extension → List ℕ
extension_word Mirrored = codes "WS"
extension_word Nearest = codes "CON"

abbrev pub parity_number : Parity → ℕ
parity_number Even = 0
parity_number Odd = 1

-- the fields of each line; n is the number of steps of a lifting, or of channels of dependency rows
abbrev pub lift_line : PlainLift → ℕ → List (List ℕ)
lift_line l n = codes "LIFT" ∷ axis_word l.axis ∷ decimal l.first ∷ decimal l.count ∷ decimal l.level ∷ extension_word l.extension ∷ decimal (parity_number l.parity) ∷ decimal n ∷ []

abbrev pub step_line : PlainStep → List (List ℕ)
step_line s = codes "STEP" ∷ signed_decimal s.offset ∷ decimal s.exponent ∷ signed_decimal s.residue ∷ map signed_decimal s.taps

abbrev pub dep_line : ℕ → ℕ → List (List ℕ)
dep_line first n = codes "DEP" ∷ decimal first ∷ decimal n ∷ []

abbrev pub row_line : PlainRow → List (List ℕ)
row_line r = codes "ROW" ∷ decimal r.exponent ∷ map signed_decimal r.taps

abbrev pub rct_line : ℕ → List (List ℕ)
rct_line first = codes "RCT" ∷ decimal first ∷ []

abbrev pub stage_lines : Plain → List (List (List ℕ))
stage_lines (lift l ss) = lift_line l (length ss) ∷ map step_line ss
stage_lines (dep first rs) = dep_line first (1 + length rs) ∷ map row_line rs
stage_lines (rct first) = rct_line first ∷ []

-- a line is its fields parted by commas
abbrev pub commas : List (List ℕ) → List ℕ
commas fs = join_with_byte 44 fs

-- with its line feed
abbrev pub ended : List ℕ → List ℕ
ended line = line ++ 10 ∷ []

abbrev pub recipe_lines : List Plain → List (List ℕ)
recipe_lines ts = map commas (flat_map stage_lines ts)

abbrev pub text_of : List Plain → List ℕ
text_of ts = flat_map ended (recipe_lines ts)

abbrev pub LawfulTap : ℤ → Type 0
LawfulTap t = (negsuc 32767 ≤ℤ t) × (t ≤ℤ pos 32767)

-- the limits of a step
pub record LawfulStep (s : PlainStep) : Type 0 where
  pub left : negsuc 7 ≤ℤ s.offset
  pub right : s.offset ≤ℤ pos 8
  pub exponent : s.exponent ≤ 16
  pub low : negsuc 65535 ≤ℤ s.residue
  pub high : s.residue ≤ℤ pos 65536
  pub some : 1 ≤ length s.taps
  pub few : length s.taps ≤ 8
  pub taps : AllByRecursion LawfulTap s.taps

-- the limits of a lifting apart from its steps; that the first channel is at most 63 follows
pub record LawfulLift (l : PlainLift) : Type 0 where
  pub some : 1 ≤ l.count
  pub inside : l.first + l.count ≤ 64
  pub shallow : l.level ≤ 15

-- row i has a tap for each channel before its own
pub record LawfulRow (i : ℕ) (r : PlainRow) : Type 0 where
  pub exponent : r.exponent ≤ 16
  pub residue : r.residue ≡ pos (half_of r.exponent)
  pub count : length r.taps ≡ i
  pub taps : AllByRecursion LawfulTap r.taps

-- the limits of rows, of which the first is row i
abbrev pub LawfulRows : ℕ → List PlainRow → Type 0
LawfulRows i [] = Unit {0}
LawfulRows i (r ∷ rs) = LawfulRow i r × LawfulRows (i + 1) rs

-- the limits of a stage
abbrev pub Lawful : Plain → Type 0
Lawful (lift l ss) = LawfulLift l × (1 ≤ length ss) × (length ss ≤ 4) × AllByRecursion LawfulStep ss
Lawful (dep first rs) = (first + (1 + length rs) ≤ 64) × (1 ≤ length rs) × (length rs ≤ 7) × LawfulRows 1 rs
Lawful (rct first) = first ≤ 61

-- at most 16 stages, each within its limits
pub record LawfulStages (ts : List Plain) : Type 0 where
  pub each : AllByRecursion Lawful ts
  pub few : length ts ≤ 16

-- the text is the recipe of these stages
pub record IsRecipe (text : List ℕ) (ts : List Plain) : Type 0 where
  pub lawful : LawfulStages ts
  pub written : text ≡ text_of ts

-- the text is a recipe
abbrev pub SomeRecipe : List ℕ → Type 0
SomeRecipe text = (ts : List Plain) × IsRecipe text ts

-- a text of a kind, such as a recipe, that begins with these lines
pub record Begun (Kind : List ℕ → Type 0) (lines : List (List ℕ)) : Type 0 where
  pub more : List ℕ
  pub whole : Kind (flat_map ended lines ++ more)

abbrev pub line_at : List ℕ → ℕ → List ℕ
line_at text n = slice_index_or (lines_of text) (n - 1) []

-- another text goes like this one up to field k of line n, both from 1
pub record Agrees (text other : List ℕ) (n k : ℕ) : Type 0 where
  pub long : n ≤ length (lines_of other)
  pub lines : take (n - 1) (lines_of other) ≡ take (n - 1) (lines_of text)
  pub fields : take k (fields_of (line_at other n)) ≡ take k (fields_of (line_at text n))

-- the lines before the one that a fault names begin a text of the kind, and with that line they begin none;
-- unless the number of fields is the cause, none goes like the text up to the field that it names;
-- where the text has no such line, it ends inside one
pub record PointsAtFirst (Kind : List ℕ → Type 0) (text : List ℕ) (f : Fault) : Type 0 where
  pub from_one : 1 ≤ f.line
  pub before : Begun Kind (take (f.line - 1) (lines_of text))
  pub here : f.line ≤ length (lines_of text) → Begun Kind (take f.line (lines_of text)) → ⊥
  pub field : f.line ≤ length (lines_of text) → (f.cause ≢ FieldCount) → (other : List ℕ) → Agrees text other f.line f.field → Kind other → ⊥
  pub past : length (lines_of text) < f.line → (f.cause ≡ EndsInside) × (f.field ≡ 0) × (f.line ≡ length (lines_of text) + 1)

-- what the reading answers: the stages of just the recipes, and else where the first fault is
pub record ReadingLaws : Type 0 where
  pub accepted : (text : List ℕ) (ts : List Plain) → reading text ≡ Ok ts → IsRecipe text ts
  pub complete : (text : List ℕ) (ts : List Plain) → IsRecipe text ts → reading text ≡ Ok ts
  pub unique : (text : List ℕ) (ts us : List Plain) → IsRecipe text ts → IsRecipe text us → ts ≡ us
  pub refused : (text : List ℕ) (f : Fault) → reading text ≡ Err f → PointsAtFirst SomeRecipe text f
