-- The number that digits write, and its value with a sign.
use Rattle.std.proofs.Common.{◌≡◌, ℕ, zero, suc, ◌+◌, ◌-◌, ◌*◌, ◌<◌, ◌≤◌, min, true, false, eqb, List, [], ◌∷◌, ◌++◌, length, get_or, take, drop, ℤ, pos, negsuc, neg_ℤ, Bool, false, cond, Some, None, Ok, Err, Result, w32, SFits, rules, sym, refl, ap, ◌∙◌, arith}
use Rattle.std.proofs.lemmas.List.{take_more}
use Rattle.std.proofs.lemmas.List.Sums.{AllPass-from_list_all}
use Rattle.std.proofs.lemmas.Bool.{and_parts, both_ways, cond-true, cond-false, eq-eqb, ne_eqb}
use Rattle.std.specs.List.{fold, list_all}
use Rattle.std.specs.Int.Signed.{le_z}
use Rattle.std.specs.Bool.{then_some}
use Rattle.std.specs.Result.{OkIff, result_ok}
use Rattle.std.specs.Ordering.{int_cmp, is_le}
use Rattle.std.proofs.lemmas.Int.{ints}
use Rattle.recipe.specs.Fields.{is_digit, is_natural, is_number, read_on, value_of}
use Rattle.recipe.specs.Promises.{capped}
use Rattle.recipe.proofs.Letters.{digit_range, number-plain, number-signed}

read_on_push : (n : ℕ) (bs : List ℕ) (b : ℕ) → read_on n (bs ++ b ∷ []) ≡ read_on n bs * 10 + (b - 48)
read_on_push n [] b = refl
read_on_push n (a ∷ bs) b = read_on_push (n * 10 + (a - 48)) bs b

-- one digit more
pub read_on_more : (bs : List ℕ) (i : ℕ) → i < length bs → read_on 0 (take (i + 1) bs) ≡ read_on 0 (take i bs) * 10 + (get_or bs i 0 - 48)
read_on_more bs i h = ap (read_on 0) (take_more bs i 0 h) ∙ read_on_push 0 (take i bs) (get_or bs i 0)

pub digit_at : (bs : List ℕ) (i : ℕ) → i < length bs → list_all is_digit bs ≡ true → (48 ≤ get_or bs i 0) × (get_or bs i 0 ≤ 57)
digit_at bs i h all = digit_range _ (AllPass-from_list_all is_digit bs all i 0 h)

pub number-some : (bs : List ℕ) → is_number bs ≡ true → 0 < length bs
unfolding is_number
number-some [] n = absurd (both_ways false refl n)
number-some (b ∷ bs) n = omega arith

natural-digits : (bs : List ℕ) → is_natural bs ≡ true → list_all is_digit bs ≡ true
natural-digits bs n = (and_parts (list_all is_digit bs) _ (and_parts _ _ n).1).0

pub digits_plain : (bs : List ℕ) → is_number bs ≡ true → (get_or bs 0 0 ≡ 45 → ⊥) → list_all is_digit bs ≡ true
digits_plain bs n ne = natural-digits bs (sym (number-plain bs ne) ∙ n)

pub digits_behind : (bs : List ℕ) → is_number bs ≡ true → get_or bs 0 0 ≡ 45 → list_all is_digit (drop 1 bs) ≡ true
digits_behind [] n e = refl
digits_behind (b ∷ bs) n e = natural-digits bs (and_parts (is_natural bs) _ (sym (number-signed b bs e) ∙ n)).0

-- a number that is cut off before each digit
pub cut_off : (m n : ℕ) (bs : List ℕ) → min m 4294967295 ≡ min n 4294967295 → min (fold (λ k b. min k 4294967295 * 10 + (b - 48)) m bs) 4294967295 ≡ min (read_on n bs) 4294967295
cut_off m n [] e = e
cut_off m n (b ∷ bs) e = cut_off (min m 4294967295 * 10 + (b - 48)) (n * 10 + (b - 48)) bs (omega (arith, e))

capped-minus : (n : ℕ) → capped (neg_ℤ (pos n)) ≡ neg_ℤ (pos (min n 4294967295))
capped-minus zero = refl
capped-minus (suc n) = let e : min (suc n) 4294967295 ≡ suc (min n 4294967294) = omega arith in sym (ap (λ m. neg_ℤ (pos m)) e)

pub capped-signed : (bs : List ℕ) → get_or bs 0 0 ≡ 45 → capped (value_of bs) ≡ neg_ℤ (pos (min (read_on 0 (drop 1 bs)) 4294967295))
unfolding value_of
capped-signed [] e = absurd (omega arith)
capped-signed (b ∷ bs) e = ap capped (cond-true (eqb b 45) _ _ (eq-eqb b 45 e)) ∙ capped-minus (read_on 0 bs)

pub capped-plain : (bs : List ℕ) → (get_or bs 0 0 ≡ 45 → ⊥) → capped (value_of bs) ≡ pos (min (read_on 0 bs) 4294967295)
unfolding value_of
capped-plain [] ne = refl
capped-plain (b ∷ bs) ne = ap capped (cond-false (eqb b 45) _ _ (ne_eqb b 45 ne))

-- the order of integers as a test
pub at_most : (x y : ℤ) → is_le (int_cmp x y) ≡ le_z x y
at_most x y = grind (arith, ints)

-- a value that fits was not cut off
pub whole : (z v : ℤ) → v ≡ capped z → SFits w32 v → v ≡ z
whole (pos n) v e fits = omega (arith, ints)
whole (negsuc n) v e fits = omega (arith, ints)

pub converted : {E : Type 0} (r : Result ℤ E) (z v : ℤ) → OkIff r (SFits w32 z) z → Some v ≡ result_ok r → SFits w32 v × (v ≡ z)
converted (Ok x) z v h e = search rules
converted (Err x) z v h e = absurd (search rules)

pub chosen : (t : Bool) (v : ℤ) → then_some t v ≡ cond t (Some v) None
chosen true v = refl
chosen false v = refl
