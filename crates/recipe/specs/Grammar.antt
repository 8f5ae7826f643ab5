-- The reading of a recipe, line by line.
use Rattle.std.specs.Prelude.{ℕ, ◌+◌, ◌-◌, Bool, true, cond, ◌&&◌, List, [], ◌∷◌, ◌++◌, map, length, ℤ, pos, Some, None, Ok, Err, codes, Option, Result, ◌==◌, nat_lt, unsigned_abs}
use Rattle.std.specs.List.{range_with_len}
use Rattle.stages.specs.declared.stage.Axis.{Axis}
use Rattle.stages.specs.declared.stage.Axis.TheVariants.{Time, Channel}
use Rattle.stages.specs.declared.stage.Extension.{Extension}
use Rattle.stages.specs.declared.stage.Extension.TheVariants.{Mirrored, Nearest}
use Rattle.stages.specs.declared.stage.Parity.{Parity}
use Rattle.stages.specs.declared.stage.Parity.TheVariants.{Even, Odd}
use Rattle.stages.specs.Channels.{half_of}
use Rattle.recipe.specs.declared.fault.Cause.{Cause}
use Rattle.recipe.specs.declared.fault.Cause.TheVariants.{WordDue, FieldCount, StageCount, EndsInside}
use Rattle.recipe.specs.declared.fault.Fault.{Fault}
use Rattle.recipe.specs.Fields.{fields_of, lines_of, tail_of, empty}
use Rattle.stages.specs.Plain.{Plain, PlainStep, PlainRow, PlainLift, lift as a-lift, dep as a-dep, rct as an-rct}
use Rattle.recipe.specs.Rules.{Form, set, lift, step, dep, row, rct, same, field, number, first_wrong, has_fields, rules_of}

-- what the fields of a line say
abbrev pub natural : List (List ℕ) → ℕ → ℕ
natural fs k = unsigned_abs (number fs k)

abbrev pub axis_of : List ℕ → Axis
axis_of f = cond (same f (codes "T")) Time Channel

abbrev pub extension_of : List ℕ → Extension
extension_of f = cond (same f (codes "WS")) Mirrored Nearest

abbrev pub parity_from : ℕ → Parity
parity_from n = cond (n == 0) Even Odd

-- the numbers of the n fields from field k on
abbrev pub numbers : List (List ℕ) → ℕ → ℕ → List ℤ
numbers fs k n = map (number fs) (range_with_len k n)

abbrev pub lift_from : List (List ℕ) → PlainLift
lift_from fs = record { axis = axis_of (field fs 1); first = natural fs 2; count = natural fs 3; level = natural fs 4; extension = extension_of (field fs 5); parity = parity_from (natural fs 6) }

abbrev pub step_from : List (List ℕ) → PlainStep
step_from fs = record { offset = number fs 1; exponent = natural fs 2; residue = number fs 3; taps = numbers fs 4 (length fs - 4) }

-- a row's residue is 2^(e - 1), or 0 when e is 0
abbrev pub row_from : List (List ℕ) → PlainRow
row_from fs = record { exponent = natural fs 1; residue = pos (half_of (natural fs 1)); taps = numbers fs 2 (length fs - 2) }

-- a recipe as far as it is read: its stages, the last one with the steps or rows that have come,
-- and how many of its lines are still due
pub record Sofar : Type 0 where
  pub stages : List Plain
  pub left : ℕ

-- the stage at hand, which is the last
abbrev pub at_hand : List Plain → Option Plain
at_hand [] = None
at_hand (s ∷ []) = Some s
at_hand (s ∷ t ∷ ts) = at_hand (t ∷ ts)

-- the form of a line of the stage at hand
abbrev pub form_inside : Option Plain → List ℕ → Option Form
form_inside None w = None
form_inside (Some (a-lift l ss)) w = cond (same w (codes "STEP")) (Some step) None
form_inside (Some (a-dep n rs)) w = cond (same w (codes "ROW")) (Some (row (length rs + 1))) None
form_inside (Some (an-rct n)) w = None

-- the form of a line by which a stage begins
abbrev pub form_begun : List ℕ → Option Form
form_begun w = cond (same w (codes "LIFT")) (Some lift) (cond (same w (codes "DEP")) (Some dep) (cond (same w (codes "RCT")) (Some rct) None))

-- the form of a line that begins with the word w, if that word is due
abbrev pub form_due : Sofar → List ℕ → Option Form
form_due s w = cond (s.left == 0) (form_begun w) (form_inside (at_hand s.stages) w)

abbrev pub fault_at : Cause → ℕ → Option Fault
fault_at c line = Some (record { cause = c; line = line; field = 1 })

-- a 17th stage has no room
abbrev pub has_space : Sofar → Bool
has_space s = cond (s.left == 0) (nat_lt (length s.stages) 16) true

-- the fault of a line, if any: the word, the room, the number of fields, then field by field
abbrev pub form_fault : Sofar → ℕ → List (List ℕ) → Option Form → Option Fault
form_fault s line fs None = fault_at WordDue line
form_fault s line fs (Some g) = cond (has_space s) (cond (has_fields g (length fs)) (first_wrong line fs 1 (rules_of g fs)) (fault_at FieldCount line)) (fault_at StageCount line)

unfoldable pub line_fault : Sofar → ℕ → List (List ℕ) → Option Fault
line_fault s line fs = form_fault s line fs (form_due s (field fs 0))

-- a step or a row more for the stage at hand
abbrev pub with_step : PlainStep → List Plain → List Plain
with_step x [] = []
with_step x (a-lift l ss ∷ []) = a-lift l (ss ++ x ∷ []) ∷ []
with_step x (a-dep n rs ∷ []) = a-dep n rs ∷ []
with_step x (an-rct n ∷ []) = an-rct n ∷ []
with_step x (s ∷ t ∷ ts) = s ∷ with_step x (t ∷ ts)

abbrev pub with_row : PlainRow → List Plain → List Plain
with_row x [] = []
with_row x (a-lift l ss ∷ []) = a-lift l ss ∷ []
with_row x (a-dep n rs ∷ []) = a-dep n (rs ++ x ∷ []) ∷ []
with_row x (an-rct n ∷ []) = an-rct n ∷ []
with_row x (s ∷ t ∷ ts) = s ∷ with_row x (t ∷ ts)

-- what a line without fault adds
abbrev pub form_taken : Sofar → List (List ℕ) → Option Form → Sofar
form_taken s fs None = s
form_taken s fs (Some set) = s
form_taken s fs (Some lift) = record { stages = s.stages ++ a-lift (lift_from fs) [] ∷ []; left = natural fs 7 }
form_taken s fs (Some step) = record { stages = with_step (step_from fs) s.stages; left = s.left - 1 }
form_taken s fs (Some dep) = record { stages = s.stages ++ a-dep (natural fs 1) [] ∷ []; left = natural fs 2 - 1 }
form_taken s fs (Some (row i)) = record { stages = with_row (row_from fs) s.stages; left = s.left - 1 }
form_taken s fs (Some rct) = record { stages = s.stages ++ an-rct (natural fs 1) ∷ []; left = 0 }

unfoldable pub taken : Sofar → List (List ℕ) → Sofar
taken s fs = form_taken s fs (form_due s (field fs 0))

-- the first faulty line decides; a text that ends inside a line or a stage is at fault behind its last line feed
unfoldable pub read_from : Sofar → ℕ → List (List ℕ) → List ℕ → Result (List Plain) Fault
read_from s line [] tail = cond (empty tail && s.left == 0) (Ok s.stages) (Err (record { cause = EndsInside; line = line; field = 0 }))
read_from s line (l ∷ ls) tail = elim (line_fault s line (fields_of l)) [ None ↦ read_from (taken s (fields_of l)) (line + 1) ls tail | Some f ↦ Err f ]

-- nothing is read yet
abbrev pub begun : Sofar
begun = record { stages = []; left = 0 }

-- the answer to a recipe's text: its stages, or its first fault
abbrev pub reading : List ℕ → Result (List Plain) Fault
reading text = read_from begun 1 (lines_of text) (tail_of text)
