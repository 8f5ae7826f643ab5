-- Words and numbers by their bytes.
use Rattle.std.proofs.Common.{◌≡◌, ℕ, ◌+◌, ◌<◌, ◌≤◌, Bool, true, false, not, ◌&&◌, eqb, leb, List, [], ◌∷◌, length, get_or, drop, Decides, sym, refl, ap, ◌∙◌, arith, rules}
use Rattle.std.proofs.lemmas.List.{nil_from_length, at_drop_more}
use Rattle.std.proofs.lemmas.Bool.{and_left, and_right, and_parts, not_from_true, lt-leb, leb-true, eq-eqb, ne_eqb, cond-true, cond-false, both_ways}
use Rattle.std.proofs.Math.Bool.{and-true}
use Rattle.std.specs.List.{list_all}
use Rattle.std.proofs.lemmas.Slice.Eq.{compares_Decides}
use Rattle.recipe.specs.Fields.{is_letter, is_digit, is_word, is_natural, is_number, is_zero}
use Rattle.recipe.specs.Rules.{same}

-- one byte more that passes
pub every_more : (p : ℕ → Bool) (bs : List ℕ) (i : ℕ) → i < length bs → p (get_or bs i 0) ≡ true → list_all p (drop i bs) ≡ list_all p bs → list_all p (drop (i + 1) bs) ≡ list_all p bs
every_more p bs i h passes before = sym (at_drop_more (list_all p) bs i 0 h ∙ ap (λ t. t && list_all p (drop (i + 1) bs)) passes) ∙ before

pub outside_below : (low high b : ℕ) → b < low → (leb low b && leb b high) ≡ false
outside_below low high b h = and_left _ _ (lt-leb low b h)

pub outside_above : (low high b : ℕ) → high < b → (leb low b && leb b high) ≡ false
outside_above low high b h = and_right (leb low b) _ (lt-leb b high h)

pub no_word : (bs : List ℕ) → length bs ≡ 0 → is_word bs ≡ false
unfolding is_word
no_word bs e = rw (nil_from_length bs e)

pub word_letters : (bs : List ℕ) → 0 < length bs → is_word bs ≡ list_all is_letter bs
unfolding is_word
word_letters [] h = absurd (omega arith)
word_letters (b ∷ bs) h = refl

-- digits that do not begin with a zero, but for the zero alone
pub natural-digits : (bs : List ℕ) → 0 < length bs → (2 ≤ length bs → get_or bs 0 0 ≡ 48 → ⊥) → is_natural bs ≡ list_all is_digit bs
natural-digits [] h ne = absurd (omega arith)
natural-digits (b ∷ []) h ne = and-true (list_all is_digit (b ∷ []))
natural-digits (b ∷ d ∷ bs) h ne = ap (λ t. list_all is_digit (b ∷ d ∷ bs) && not t) (ne_eqb b 48 (ne (omega arith))) ∙ and-true _

pub no_number : (bs : List ℕ) → length bs ≡ 0 → is_number bs ≡ false
unfolding is_number
no_number bs e = rw (nil_from_length bs e)

pub number-plain : (bs : List ℕ) → (get_or bs 0 0 ≡ 45 → ⊥) → is_number bs ≡ is_natural bs
unfolding is_number
number-plain [] ne = refl
number-plain (b ∷ bs) ne = cond-false (eqb b 45) _ _ (ne_eqb b 45 ne)

pub number-signed : (b : ℕ) (bs : List ℕ) → b ≡ 45 → is_number (b ∷ bs) ≡ (is_natural bs && not (is_zero bs))
unfolding is_number
number-signed b bs e = cond-true (eqb b 45) _ _ (eq-eqb b 45 e)

pub number-zero : (bs : List ℕ) → get_or bs 0 0 ≡ 45 → length bs ≡ 2 → get_or bs 1 0 ≡ 48 → is_number bs ≡ false
number-zero [] e n z = absurd (omega arith)
number-zero (b ∷ []) e n z = absurd (omega arith)
number-zero (b ∷ c ∷ []) e n z = number-signed b (c ∷ []) e ∙ and_right (is_natural (c ∷ [])) _ (not_from_true _ (eq-eqb c 48 z))
number-zero (b ∷ c ∷ d ∷ bs) e n z = absurd (omega arith)

not_zero : (bs : List ℕ) → (length bs ≡ 1 → get_or bs 0 0 ≡ 48 → ⊥) → is_zero bs ≡ false
not_zero [] h = refl
not_zero (b ∷ []) h = ne_eqb b 48 (h refl)
not_zero (b ∷ c ∷ bs) h = refl

pub number-minus : (bs : List ℕ) → get_or bs 0 0 ≡ 45 → (length bs ≡ 2 → get_or bs 1 0 ≡ 48 → ⊥) → is_number bs ≡ is_natural (drop 1 bs)
number-minus [] e h = absurd (omega arith)
number-minus (b ∷ bs) e h =
    let z : is_zero bs ≡ false = not_zero bs (λ n. h (omega arith)) in
    number-signed b bs e ∙ ap (λ t. is_natural bs && not t) z ∙ and-true (is_natural bs)

pub letter_range : (b : ℕ) → is_letter b ≡ true → (65 ≤ b) × (b ≤ 90)
letter_range b h = let p = and_parts (leb 65 b) (leb b 90) h in (leb-true 65 b p.0, leb-true b 90 p.1)

pub digit_range : (b : ℕ) → is_digit b ≡ true → (48 ≤ b) × (b ≤ 57)
digit_range b h = let p = and_parts (leb 48 b) (leb b 57) h in (leb-true 48 b p.0, leb-true b 57 p.1)

-- a word is no number
pub word_no_number : (bs : List ℕ) → is_word bs ≡ true → is_number bs ≡ true → ⊥
unfolding is_word
word_no_number [] w n = both_ways false refl w
word_no_number (b ∷ bs) w n =
    let l = letter_range b (and_parts (is_letter b) (list_all is_letter bs) w).0 in
    let plain : is_natural (b ∷ bs) ≡ true = sym (number-plain (b ∷ bs) (λ e. omega arith)) ∙ n in
    let d = digit_range b (and_parts (is_digit b) (list_all is_digit bs) (and_parts _ _ plain).0).0 in
    omega arith

-- equality of bytes as a test
pub same-decides : (xs ys : List ℕ) → Decides (same xs ys) (xs ≡ ys)
same-decides = compares_Decides same (search rules)
