-- A number is written in one way only, and its text holds no separator.
use Rattle.std.proofs.Common.{◌≡◌, ℕ, zero, suc, ◌^◌, ◌<◌, ◌≤◌, Bool, true, false, cond, not, ◌&&◌, ◌||◌, eqb, ◌⊎◌, List, [], ◌∷◌, length, get_or, ℤ, pos, negsuc, neg_ℤ, nat_abs, ◌≤ℤ◌, Some, None, decimal, Option, sym, refl, ap, ◌∙◌, inl, inr, arith, rules}
use Rattle.std.specs.Int.Signed.{mag, le_z}
use Rattle.std.specs.Fmt.{signed_decimal}
use Rattle.std.proofs.lemmas.Fmt.{decimal-digits_value, digits_value-decimal, digits_decimal, decimal_nonempty, first_decimal, decimal_digit}
use Rattle.std.proofs.lemmas.Str.Parse.{IsNumeralModel, numerals_by_fold}
use Rattle.std.proofs.lemmas.Int.{ints}
use Rattle.std.proofs.lemmas.Bool.{eqb-true, eqb-false, ne_eqb, and_parts, and_from, not-true, not_from_false, cond-true, cond-false, both_ways}
use Rattle.recipe.specs.declared.fault.Cause.TheVariants.{NotListed, OutsideLimit}
use Rattle.std.specs.List.{list_all}
use Rattle.recipe.specs.Fields.{empty, is_digit, is_natural, is_number, is_word, is_zero, leading_zero, read_on, value_of}
use Rattle.recipe.specs.Rules.{listed, between, same, wrong}
use Rattle.recipe.proofs.Parting.{Free}
use Rattle.recipe.proofs.Letters.{digit_range, same-decides}

own : IsNumeralModel (λ ds. list_all is_digit ds ≡ true) (read_on 0)
own = numerals_by_fold _ (search rules) read_on (search rules)

first_zero : (ds : List ℕ) → empty ds ≡ false → leading_zero ds ≡ false → get_or ds 0 0 ≡ 48 → length ds ≡ 1
first_zero [] e z h = absurd (both_ways _ e refl)
first_zero (b ∷ []) e z h = refl
first_zero (b ∷ c ∷ bs) e z h = absurd (eqb-false b 48 z h)

some_digits : (ds : List ℕ) → empty ds ≡ false → 0 < length ds
some_digits [] e = absurd (both_ways _ e refl)
some_digits (b ∷ bs) e = omega arith

natural-text : (ds : List ℕ) → is_natural ds ≡ true → read_on 0 ds < 2 ^ 64 → decimal (read_on 0 ds) ≡ ds
natural-text ds h small =
    let parts = and_parts (not (empty ds)) (list_all is_digit ds && not (leading_zero ds)) h in
    let rest = and_parts (list_all is_digit ds) (not (leading_zero ds)) parts.1 in
    let some = not-true (empty ds) parts.0 in
    decimal-digits_value own ds rest.0 (some_digits ds some) (first_zero ds some (not-true (leading_zero ds) rest.1)) small

minus_text : (bs : List ℕ) (n : ℕ) → is_natural bs ≡ true → is_zero bs ≡ false → read_on 0 bs ≡ n → mag (neg_ℤ (pos n)) < 2 ^ 63 → signed_decimal (neg_ℤ (pos n)) ≡ 45 ∷ bs
minus_text bs zero h z e small =
    let zeros = sym (decimal_digit 0 (omega arith)) ∙ ap decimal (sym e) ∙ natural-text bs h (omega arith) in
    absurd (both_ways (is_zero bs) z (ap is_zero (sym zeros)))
minus_text bs (suc n) h z e small = ap (λ (r : List ℕ). 45 ∷ r) (ap decimal (sym e) ∙ natural-text bs h (omega arith))

-- a number's text is the one that its value is written by
number-text : (f : List ℕ) → is_number f ≡ true → mag (value_of f) < 2 ^ 63 → signed_decimal (value_of f) ≡ f
unfolding is_number value_of
number-text [] h small = absurd (both_ways _ refl h)
number-text (b ∷ bs) h small = by (eqb b 45) refl h small
  where
    by : (t : Bool) → eqb b 45 ≡ t → cond t (is_natural bs && not (is_zero bs)) (is_natural (b ∷ bs)) ≡ true → mag (cond t (neg_ℤ (pos (read_on 0 bs))) (pos (read_on 0 (b ∷ bs)))) < 2 ^ 63 → signed_decimal (cond t (neg_ℤ (pos (read_on 0 bs))) (pos (read_on 0 (b ∷ bs)))) ≡ b ∷ bs
    by true e k s =
        let parts = and_parts (is_natural bs) (not (is_zero bs)) k in
        minus_text bs (read_on 0 bs) parts.0 (not-true (is_zero bs) parts.1) refl s ∙ ap (λ (x : ℕ). x ∷ bs) (sym (eqb-true b 45 e))
    by false e k s = natural-text (b ∷ bs) k (omega arith)

no_leading : (ds : List ℕ) → 48 < get_or ds 0 0 → leading_zero ds ≡ false
no_leading [] h = refl
no_leading (b ∷ []) h = refl
no_leading (b ∷ c ∷ bs) h = ne_eqb b 48 (λ e. omega arith)

no_zero : (ds : List ℕ) → 48 < get_or ds 0 0 → is_zero ds ≡ false
no_zero [] h = refl
no_zero (b ∷ []) h = ne_eqb b 48 (λ e. omega arith)
no_zero (b ∷ c ∷ bs) h = refl

decimal_leading : (n : ℕ) → n < 2 ^ 64 → leading_zero (decimal n) ≡ false
decimal_leading zero h = ap leading_zero (decimal_digit 0 (omega arith))
decimal_leading (suc n) h = no_leading (decimal (suc n)) (first_decimal (suc n) (omega arith) h)

not_empty : (ds : List ℕ) → 0 < length ds → empty ds ≡ false
not_empty [] h = absurd (omega arith)
not_empty (b ∷ bs) h = refl

natural-decimal : (n : ℕ) → n < 2 ^ 64 → is_natural (decimal n) ≡ true
natural-decimal n h =
    and_from (not (empty (decimal n))) _ (not_from_false _ (not_empty (decimal n) (decimal_nonempty n h)))
    (and_from (list_all is_digit (decimal n)) _ (digits_decimal own n h) (not_from_false _ (decimal_leading n h)))

-- what begins with a digit has no sign
unsigned_value : (ds : List ℕ) → is_natural ds ≡ true → (is_number ds ≡ true) × (value_of ds ≡ pos (read_on 0 ds))
unfolding is_number value_of
unsigned_value [] h = absurd (both_ways _ refl h)
unsigned_value (b ∷ bs) h =
    let digits = (and_parts (list_all is_digit (b ∷ bs)) _ (and_parts (not (empty (b ∷ bs))) _ h).1).0 in
    let first = digit_range b (and_parts (is_digit b) (list_all is_digit bs) digits).0 in
    let plain : eqb b 45 ≡ false = ne_eqb b 45 (λ e. omega arith) in
    (cond-false (eqb b 45) _ _ plain ∙ h, cond-false (eqb b 45) _ _ plain)

-- a written number reads as itself
signed_value : (z : ℤ) → mag z < 2 ^ 63 → (is_number (signed_decimal z) ≡ true) × (value_of (signed_decimal z) ≡ z)
unfolding is_number value_of
signed_value (pos n) h =
    let got = unsigned_value (decimal n) (natural-decimal n (omega arith)) in
    (got.0, got.1 ∙ ap pos (digits_value-decimal own n (omega arith)))
signed_value (negsuc n) h = (
  and_from (is_natural (decimal (suc n))) _ (natural-decimal (suc n) (omega arith)) (not_from_false _ (no_zero (decimal (suc n)) (first_decimal (suc n) (omega arith) (omega arith)))),
  ap (λ k. neg_ℤ (pos k)) (digits_value-decimal own (suc n) (omega arith)),
)

free_digits : (s : ℕ) (ds : List ℕ) → s < 48 → list_all is_digit ds ≡ true → Free s ds
free_digits s [] l h = tt
free_digits s (b ∷ bs) l h =
    let parts = and_parts (is_digit b) (list_all is_digit bs) h in
    let low = (digit_range b parts.0).0 in
    (ne_eqb b s (λ e. omega arith), free_digits s bs l parts.1)

free_signed : (s : ℕ) (z : ℤ) → s < 45 → mag z < 2 ^ 63 → Free s (signed_decimal z)
free_signed s (pos n) l h = free_digits s (decimal n) (omega arith) (digits_decimal own n (omega arith))
free_signed s (negsuc n) l h = (ne_eqb 45 s (λ e. omega arith), free_digits s (decimal (suc n)) (omega arith) (digits_decimal own (suc n) (omega arith)))

-- between limits of 32 bits
pub record Small (lo hi : ℤ) : Type 0 where
  pub low : negsuc 2147483647 ≤ℤ lo
  pub high : hi ≤ℤ pos 2147483647

small_mag : (lo hi z : ℤ) → Small lo hi → lo ≤ℤ z → z ≤ℤ hi → mag z < 2 ^ 63
small_mag lo hi (pos n) s l h = let far : pos n ≤ℤ pos 2147483647 = omega (arith, ints) in omega (arith, ints)
small_mag lo hi (negsuc n) s l h = let far : negsuc 2147483647 ≤ℤ negsuc n = omega (arith, ints) in omega (arith, ints)

-- what a field within two limits is
pub record Within (lo hi : ℤ) (f : List ℕ) : Type 0 where
  pub text : f ≡ signed_decimal (value_of f)
  pub low : lo ≤ℤ value_of f
  pub high : value_of f ≤ℤ hi

pub none_cond : {A : Type 0} (b : Bool) (o : Option A) (c : A) → cond b o (Some c) ≡ None → (b ≡ true) × (o ≡ None)
none_cond true o c h = (refl, h)
none_cond false o c h = let z : ◌≡◌ {A = ℕ} 0 1 = cc in absurd (omega arith)

pub within-from-fits : (lo hi : ℤ) (f : List ℕ) → Small lo hi → wrong (between lo hi) f ≡ None → Within lo hi f
unfolding wrong
within-from-fits lo hi f s h =
    let number = none_cond (is_number f) _ NotListed h in
    let limits = none_cond (le_z lo (value_of f) && le_z (value_of f) hi) None OutsideLimit number.1 in
    let parts = and_parts (le_z lo (value_of f)) (le_z (value_of f) hi) limits.0 in
    let l : lo ≤ℤ value_of f = omega (arith, ints, parts.0) in
    let g : value_of f ≤ℤ hi = omega (arith, ints, parts.1) in
    record { text = sym (number-text f number.0 (small_mag lo hi (value_of f) s l g)); low = l; high = g }

pub fits-from-within : (lo hi z : ℤ) → Small lo hi → lo ≤ℤ z → z ≤ℤ hi → wrong (between lo hi) (signed_decimal z) ≡ None
unfolding wrong
fits-from-within lo hi z s l h =
    let got = signed_value z (small_mag lo hi z s l h) in
    let low : le_z lo z ≡ true = grind (arith, ints) in
    let high : le_z z hi ≡ true = grind (arith, ints) in
    cond-true (is_number (signed_decimal z)) _ _ got.0
    ∙ ap (λ y. cond (le_z lo y && le_z y hi) None (Some OutsideLimit)) got.1
    ∙ cond-true (le_z lo z && le_z z hi) _ _ (and_from (le_z lo z) (le_z z hi) low high)

pub within-value : (lo hi z : ℤ) → Small lo hi → lo ≤ℤ z → z ≤ℤ hi → value_of (signed_decimal z) ≡ z
within-value lo hi z s l h = (signed_value z (small_mag lo hi z s l h)).1

pub within-free : (s : ℕ) (lo hi z : ℤ) → s < 45 → Small lo hi → lo ≤ℤ z → z ≤ℤ hi → Free s (signed_decimal z)
within-free s lo hi z k m l h = free_signed s z k (small_mag lo hi z m l h)

pub tap_small : Small (negsuc 32767) (pos 32767)
tap_small = record { low = omega (arith, ints); high = omega (arith, ints) }

pub offset_small : Small (negsuc 7) (pos 8)
offset_small = record { low = omega (arith, ints); high = omega (arith, ints) }

pub residue_small : Small (negsuc 65535) (pos 65536)
residue_small = record { low = omega (arith, ints); high = omega (arith, ints) }

-- the same of a natural number
pub record Natural (a b : ℕ) (f : List ℕ) : Type 0 where
  pub text : f ≡ decimal (nat_abs (value_of f))
  pub value : value_of f ≡ pos (nat_abs (value_of f))
  pub low : a ≤ nat_abs (value_of f)
  pub high : nat_abs (value_of f) ≤ b

not_negative : (a b : ℕ) (z : ℤ) → pos a ≤ℤ z → z ≤ℤ pos b → (z ≡ pos (nat_abs z)) × (a ≤ nat_abs z) × (nat_abs z ≤ b)
not_negative a b (pos n) l h = (refl, omega (arith, ints), omega (arith, ints))
not_negative a b (negsuc n) l h = absurd (omega (arith, ints))

pub natural-from-fits : (a b : ℕ) (f : List ℕ) → b ≤ 2147483647 → wrong (between (pos a) (pos b)) f ≡ None → Natural a b f
natural-from-fits a b f s h =
    let small : Small (pos a) (pos b) = record { low = omega (arith, ints); high = omega (arith, ints) } in
    let w = within-from-fits (pos a) (pos b) f small h in
    let n = not_negative a b (value_of f) w.low w.high in
    record { text = w.text ∙ ap signed_decimal n.0; value = n.0; low = n.1; high = n.2 }

pub fits-from-natural : (a b n : ℕ) → b ≤ 2147483647 → a ≤ n → n ≤ b → wrong (between (pos a) (pos b)) (decimal n) ≡ None
fits-from-natural a b n s l h =
    let small : Small (pos a) (pos b) = record { low = omega (arith, ints); high = omega (arith, ints) } in
    fits-from-within (pos a) (pos b) (pos n) small (omega (arith, ints)) (omega (arith, ints))

pub decimal_natural : (n : ℕ) → n ≤ 2147483647 → value_of (decimal n) ≡ pos n
decimal_natural n h = (signed_value (pos n) (omega arith)).1

pub free_natural : (s n : ℕ) → s < 45 → n ≤ 2147483647 → Free s (decimal n)
free_natural s n l h = free_signed s (pos n) l (omega arith)

pub same_true : (a b : List ℕ) → same a b ≡ true → a ≡ b
same_true a b h = (same-decides a b).0 h

pub listed_from_fits : (v w f : List ℕ) → wrong (listed (v ∷ w ∷ [])) f ≡ None → (f ≡ v) ⊎ (f ≡ w)
unfolding wrong
listed_from_fits v w f h = by (same f v) (same f w) refl refl (and_parts (is_word f) _ (none_cond _ None NotListed h).0).1
  where
    by : (x y : Bool) → same f v ≡ x → same f w ≡ y → (x || (y || false)) ≡ true → (f ≡ v) ⊎ (f ≡ w)
    by true y e g k = inl (same_true f v e)
    by false true e g k = inr (same_true f w g)
    by false false e g k = absurd (both_ways _ refl k)
