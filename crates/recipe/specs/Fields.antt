-- A text as lines, a line as fields, and the kinds of field.
use Rattle.std.specs.Prelude.{◌≡◌, ℕ, ◌+◌, ◌-◌, ◌*◌, Bool, true, false, cond, not, ◌&&◌, List, [], ◌∷◌, ℤ, pos, neg_ℤ, ◌==◌, nat_le}
use Rattle.std.specs.List.{list_all, slice_split}
use Rattle.recipe.specs.declared.field.Field.{Field}
use Rattle.recipe.specs.declared.field.Field.TheVariants.{Empty, Word, Number, Other}

-- the parts of a text between separators; there is always at least one
abbrev pub cut : ℕ → List ℕ → List (List ℕ)
cut s bs = slice_split (λ b. b == s) bs

-- all parts but the last
abbrev pub heads : List (List ℕ) → List (List ℕ)
heads [] = []
heads (p ∷ []) = []
heads (p ∷ q ∷ ps) = p ∷ heads (q ∷ ps)

-- the last part
abbrev pub final : List (List ℕ) → List ℕ
final [] = []
final (p ∷ []) = p
final (p ∷ q ∷ ps) = final (q ∷ ps)

-- the lines that end with a line feed, and what follows the last line feed
unfoldable pub lines_of : List ℕ → List (List ℕ)
lines_of text = heads (cut 10 text)

unfoldable pub tail_of : List ℕ → List ℕ
tail_of text = final (cut 10 text)

-- the fields of a line, parted by commas
unfoldable pub fields_of : List ℕ → List (List ℕ)
fields_of line = cut 44 line

abbrev pub empty : List ℕ → Bool
empty [] = true
empty (b ∷ bs) = false

abbrev pub is_letter : ℕ → Bool
is_letter b = nat_le 65 b && nat_le b 90

abbrev pub is_digit : ℕ → Bool
is_digit b = nat_le 48 b && nat_le b 57

-- one or more letters A to Z
unfoldable pub is_word : List ℕ → Bool
is_word bs = not (empty bs) && list_all is_letter bs

-- a zero in front of other digits
abbrev pub leading_zero : List ℕ → Bool
leading_zero [] = false
leading_zero (b ∷ []) = false
leading_zero (b ∷ c ∷ bs) = b == 48

-- digits, at least one, with no leading zero
abbrev pub is_natural : List ℕ → Bool
is_natural bs = not (empty bs) && (list_all is_digit bs && not (leading_zero bs))

-- just the digit 0
abbrev pub is_zero : List ℕ → Bool
is_zero [] = false
is_zero (b ∷ []) = b == 48
is_zero (b ∷ c ∷ bs) = false

-- decimal, of any length, with an optional minus, no leading zero and no -0
unfoldable pub is_number : List ℕ → Bool
is_number [] = false
is_number (b ∷ bs) = cond (b == 45) (is_natural bs && not (is_zero bs)) (is_natural (b ∷ bs))

-- the number that digits write, after those that wrote n
abbrev pub read_on : ℕ → List ℕ → ℕ
read_on n [] = n
read_on n (b ∷ bs) = read_on (n * 10 + (b - 48)) bs

-- the number that a field writes
unfoldable pub value_of : List ℕ → ℤ
value_of [] = pos 0
value_of (b ∷ bs) = cond (b == 45) (neg_ℤ (pos (read_on 0 bs))) (pos (read_on 0 (b ∷ bs)))

-- the field r is handed out for the bytes bs
abbrev pub Shows : Field → List ℕ → Type 0
Shows Empty bs = bs ≡ []
Shows (Word s) bs = (s.now ≡ bs) × (is_word bs ≡ true)
Shows (Number s) bs = (s.now ≡ bs) × (is_number bs ≡ true)
Shows (Other s) bs = (s.now ≡ bs) × (empty bs ≡ false) × (is_word bs ≡ false) × (is_number bs ≡ false)
