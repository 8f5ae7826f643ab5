-- The shapes of what the parts of the reader promise one another.
use Rattle.std.specs.Prelude.{◌≡◌, ℕ, ◌+◌, ◌<◌, ◌≤◌, min, ◌&&◌, nat_le, nat_lt, int_le, cond, List, [], ◌∷◌, ◌++◌, length, ℤ, pos, negsuc, ◌≤ℤ◌, Some, None, Ok, Err, Option, Result}
use Rattle.std.specs.Borrow.{Bor}
use Rattle.sets.specs.declared.shape.Shape.{Shape}
use Rattle.sets.specs.declared.span.Span.{Span}
use Rattle.sets.specs.Sets.{bounds_of}
use Rattle.recipe.specs.declared.begun.Begun.{Begun}
use Rattle.recipe.specs.declared.fault.Cause.TheVariants.{FieldCount, StageCount, WordDue}
use Rattle.recipe.specs.declared.fault.Fault.{Fault}
use Rattle.recipe.specs.declared.line.Line.{Line}
use Rattle.recipe.specs.Fields.{fields_of, lines_of, tail_of}
use Rattle.recipe.specs.Grammar.{Sofar, fault_at, line_fault, taken}
use Rattle.stages.specs.declared.stage.Stage.{Stage}
use Rattle.stages.specs.Plain.{Plain, plain}
use Rattle.recipe.specs.Requests.{shape_from, span_from}
use Rattle.recipe.specs.Rules.{Form, Rule, same, field, has_fields, first_wrong, rules_of}

-- no line of the text ends
pub record NoLine (text : List ℕ) : Type 0 where
  pub lines : lines_of text ≡ []
  pub tail : tail_of text ≡ text

-- the text begins with a line, and more follows its line feed
pub record FirstLine (text line more : List ℕ) : Type 0 where
  pub lines : lines_of text ≡ line ∷ lines_of more
  pub tail : tail_of text ≡ tail_of more
  pub shorter : length more < length text

-- a value whose magnitude is cut off at 2^32 - 1
abbrev pub capped : ℤ → ℤ
capped (pos n) = pos (min n 4294967295)
capped (negsuc n) = negsuc (min n 4294967294)

abbrev pub fields_in : Line → List (List ℕ)
fields_in l = fields_of l.bytes.now

-- an answer to what may be at fault: the fault, or a value of which P holds
abbrev pub Judged : {X : Type 0} → Option Fault → (X → Type 0) → Result X Fault → Type 0
Judged o P (Ok x) = (o ≡ None) × P x
Judged o P (Err f) = o ≡ Some f

-- an answer that is a fault or nothing
abbrev pub Passes : Option Fault → Result Unit Fault → Type 0
Passes o r = Judged o (λ _. Unit {0}) r

-- an answer that is a fault, or how many fields the line has behind its word
abbrev pub Counts : Option Fault → Line → Result ℕ Fault → Type 0
Counts o l r = Judged o (λ n. n + 1 ≡ length (fields_in l)) r

-- the number z, if it lies between the limits
abbrev pub within : ℤ → ℤ → ℤ → Option ℤ
within least greatest z = cond (int_le least z && int_le z greatest) (Some z) None

-- the number z as it is handed out, between its limits
pub record Held (least greatest z v : ℤ) : Type 0 where
  pub is : v ≡ z
  pub above : least ≤ℤ v
  pub below : v ≤ℤ greatest

-- the same for a number that is not below 0
pub record Counted (least greatest : ℕ) (z : ℤ) (n : ℕ) : Type 0 where
  pub is : z ≡ pos n
  pub above : least ≤ n
  pub below : n ≤ greatest

-- what the field f stands for, which is the first of two words or else the second
abbrev pub stands_for : {T : Type 0} → List ℕ → Bor (List ℕ) × T → Bor (List ℕ) × T → T
stands_for f a b = cond (same f a.0.now) a.1 b.1

-- the fault of a line that must have from least to greatest fields behind its word
abbrev pub wrong_count : ℕ → ℕ → Line → Option Fault
wrong_count least greatest l = cond (nat_le (least + 1) (length (fields_in l)) && nat_le (length (fields_in l)) (greatest + 1)) None (fault_at FieldCount l.number)

-- the fault of a line that must also begin with the word w
abbrev pub wrong_head : List ℕ → ℕ → ℕ → Line → Option Fault
wrong_head w least greatest l = cond (same (field (fields_in l) 0) w) (wrong_count least greatest l) (fault_at WordDue l.number)

-- the fault of a line by which a stage would begin behind the stages ts, with so many fields behind its word
abbrev pub wrong_start : List Plain → ℕ → Line → Option Fault
wrong_start ts behind l = cond (nat_lt (length ts) 16) (wrong_count behind behind l) (fault_at StageCount l.number)

-- the first field of a line, from field k on, that breaks its rule
abbrev pub wrong_from : Line → ℕ → List Rule → Option Fault
wrong_from l k rs = first_wrong l.number (fields_in l) k rs

-- the first field behind its word that breaks the rules of a form
abbrev pub wrong_as : Form → Line → Option Fault
wrong_as g l = wrong_from l 1 (rules_of g (fields_in l))

-- the fault of a line that must begin with the word w and have the form g
abbrev pub headed : List ℕ → Form → ℕ → List (List ℕ) → Option Fault
headed w g line fs = cond (same (field fs 0) w) (cond (has_fields g (length fs)) (first_wrong line fs 1 (rules_of g fs)) (fault_at FieldCount line)) (fault_at WordDue line)

-- the stage s is begun, and n of its lines are still due
pub record Begins (s : Plain) (n : ℕ) (b : Begun) : Type 0 where
  pub stage : plain b.stage ≡ s
  pub left : b.left ≡ n

-- the line l begins the stage b behind the stages ts
pub record Opened (ts : List Plain) (l : Line) (b : Begun) : Type 0 where
  pub room : length ts < 16
  pub is : taken (record { stages = ts; left = 0 }) (fields_in l) ≡ record { stages = ts ++ plain b.stage ∷ []; left = b.left }

-- the answer to a line where no line is due behind the stages ts
abbrev pub Opens : List Plain → Line → Result Begun Fault → Type 0
Opens ts l r = Judged (line_fault (record { stages = ts; left = 0 }) l.number (fields_in l)) (Opened ts l) r

-- the answer to a line of the stage p at hand: with its step or row the stage is t, whatever stages come before it, and n lines are due then
abbrev pub Grows : Plain → Line → Result Stage Fault → Type 0
Grows p l r = (ts : List Plain) (n : ℕ) → Judged (line_fault (record { stages = ts ++ p ∷ []; left = n + 1 }) l.number (fields_in l)) (λ t. taken (record { stages = ts ++ p ∷ []; left = n + 1 }) (fields_in l) ≡ record { stages = ts ++ plain t ∷ []; left = n }) r

-- the answer to a line where s is read, and t is read then
abbrev pub Takes : Sofar → Line → Sofar → Result Unit Fault → Type 0
Takes s l t r = Judged (line_fault s l.number (fields_in l)) (λ _. taken s (fields_in l) ≡ t) r

-- what a SET line asks for, as it is handed out
pub record Sets (fs : List (List ℕ)) (q : Shape × Span) : Type 0 where
  pub shape : q.0 ≡ shape_from fs
  pub span : bounds_of q.1 ≡ span_from fs
