-- The forms of a line: how many fields it has, and the rule of each field.
use Rattle.std.specs.Prelude.{ℕ, ◌+◌, ◌-◌, Bool, true, false, cond, ◌&&◌, ◌||◌, List, [], ◌∷◌, length, replicate, ℤ, pos, negsuc, ◌-ℤ◌, Some, None, codes, Option, ◌==◌, nat_le, slice_index_or}
use Rattle.std.specs.Int.Signed.{le_z}
use Rattle.std.specs.Int.{int_min}
use Rattle.recipe.specs.declared.fault.Cause.{Cause}
use Rattle.recipe.specs.declared.fault.Cause.TheVariants.{NotListed, OutsideLimit}
use Rattle.recipe.specs.declared.fault.Fault.{Fault}
use Rattle.recipe.specs.Fields.{is_word, is_number, value_of}

-- what a field must be: one of the listed words, or a number between two limits
pub data Rule : Type 0 where
  listed : List (List ℕ) → Rule
  between : ℤ → ℤ → Rule

abbrev pub same : List ℕ → List ℕ → Bool
same [] [] = true
same [] (b ∷ bs) = false
same (a ∷ bs) [] = false
same (a ∷ bs) (b ∷ cs) = a == b && same bs cs

abbrev pub member : List ℕ → List (List ℕ) → Bool
member w [] = false
member w (v ∷ vs) = same w v || member w vs

-- what is wrong with a field, if anything
unfoldable pub wrong : Rule → List ℕ → Option Cause
wrong (listed ws) f = cond (is_word f && member f ws) None (Some NotListed)
wrong (between least greatest) f = cond (is_number f) (cond (le_z least (value_of f) && le_z (value_of f) greatest) None (Some OutsideLimit)) (Some NotListed)

-- field k of a line, from 0, and an empty field past the last
abbrev pub field : List (List ℕ) → ℕ → List ℕ
field fs k = slice_index_or fs k []

abbrev pub number : List (List ℕ) → ℕ → ℤ
number fs k = value_of (field fs k)

-- the first field, from field k on, that breaks its rule: fields are named from 1
unfoldable pub first_wrong : ℕ → List (List ℕ) → ℕ → List Rule → Option Fault
first_wrong line fs k [] = None
first_wrong line fs k (r ∷ rs) = elim (wrong r (field fs k)) [ None ↦ first_wrong line fs (k + 1) rs | Some c ↦ Some (record { cause = c; line = line; field = k + 1 }) ]

-- the forms of a line, by the word it begins with; a row has its number, from 1
pub data Form : Type 0 where
  set : Form
  lift : Form
  step : Form
  dep : Form
  row : ℕ → Form
  rct : Form

-- whether a line of this form may have n fields
abbrev pub has_fields : Form → ℕ → Bool
has_fields set n = n == 6
has_fields lift n = n == 8
has_fields step n = nat_le 5 n && nat_le n 12
has_fields dep n = n == 3
has_fields (row i) n = n == 2 + i
has_fields rct n = n == 2

-- a tap of a step or of a row
abbrev pub tap_rule : Rule
tap_rule = between (negsuc 32767) (pos 32767)

-- the rules of the fields behind the word; first and count together are at most 64, and the count is judged by that
abbrev pub rules_of : Form → List (List ℕ) → List Rule
rules_of set fs = between (pos 1) (pos 64) ∷ between (pos 1) (pos 1048576) ∷ between (pos 0) (pos 1048575) ∷ between (negsuc 2147483647) (pos 2147483647) ∷ between (number fs 4) (pos 2147483647) ∷ []
rules_of lift fs = listed (codes "T" ∷ codes "C" ∷ []) ∷ between (pos 0) (pos 63) ∷ between (pos 1) (pos 64 -ℤ number fs 2) ∷ between (pos 0) (pos 15) ∷ listed (codes "WS" ∷ codes "CON" ∷ []) ∷ between (pos 0) (pos 1) ∷ between (pos 1) (pos 4) ∷ []
rules_of step fs = between (negsuc 7) (pos 8) ∷ between (pos 0) (pos 16) ∷ between (negsuc 65535) (pos 65536) ∷ replicate (length fs - 4) tap_rule
rules_of dep fs = between (pos 0) (pos 63) ∷ between (pos 2) (int_min (pos 8) (pos 64 -ℤ number fs 1)) ∷ []
rules_of (row i) fs = between (pos 0) (pos 16) ∷ replicate i tap_rule
rules_of rct fs = between (pos 0) (pos 61) ∷ []
