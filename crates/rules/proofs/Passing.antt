-- Passes by address, and that a pass that is blind to what it changes is injective.
use Rattle.std.proofs.Common.{◌≡◌, ℕ, ◌<◌, true, false, List, [], ◌∷◌, length, ℤ, pos, ◌+ℤ◌, sym, refl, ap, ◌∙◌, ⊎_elim, arith}
use Rattle.std.proofs.lemmas.List.FromFn.{length-map-range_with_len, get_or-map-range_with_len}
use Rattle.std.proofs.lemmas.List.{ext_get_or}
use Rattle.std.proofs.lemmas.Int.{ints}
use Rattle.std.proofs.lemmas.Bool.{cases_Bool, cond-true, cond-false}
use Rattle.sets.specs.Areas.{at}
use Rattle.rules.specs.Passes.{Pass, passed_at, passed, ran, Blind, AllBlind, more}

module _ (p : Pass) (xs : List ℤ) where
  pub length-passed : length (passed p xs) ≡ length xs
  unfolding passed
  length-passed = length-map-range_with_len _ 0 (length xs)

  pub at-passed : (a : ℕ) → a < length xs → at (passed p xs) a ≡ passed_at p xs a
  unfolding passed
  at-passed a h = get_or-map-range_with_len (passed_at p xs) 0 (length xs) a a (pos 0) h (omega arith)

  pub at-passed-hit : (a : ℕ) → a < length xs → p.hits a ≡ true → at (passed p xs) a ≡ at xs a +ℤ p.amount xs a
  at-passed-hit a h t = at-passed a h ∙ cond-true (p.hits a) _ _ t

  pub at-passed-kept : (a : ℕ) → a < length xs → p.hits a ≡ false → at (passed p xs) a ≡ at xs a
  at-passed-kept a h t = at-passed a h ∙ cond-false (p.hits a) _ _ t

pub length-ran : (ps : List Pass) (xs : List ℤ) → length (ran ps xs) ≡ length xs
unfolding ran
length-ran [] xs = refl
length-ran (p ∷ ps) xs = length-ran ps (passed p xs) ∙ length-passed p xs

-- equal sums of equal amounts
cancel : (x y q r s t : ℤ) → s ≡ x +ℤ q → t ≡ y +ℤ r → s ≡ t → q ≡ r → x ≡ y
cancel x y q r s t h k e f = omega (arith, ints)

-- samples that are not hit stand as they were; they are all that the amounts depend on, so the others are found too
pub passed-injective : (n : ℕ) (p : Pass) → Blind n p → (xs ys : List ℤ) → length xs ≡ n → length ys ≡ n → passed p xs ≡ passed p ys → xs ≡ ys
passed-injective n p blind xs ys l m e =
    let kept : (a : ℕ) → a < n → p.hits a ≡ false → at xs a ≡ at ys a = λ a h t.
    sym (at-passed-kept p xs a (omega arith) t) ∙ ap (λ zs. at zs a) e ∙ at-passed-kept p ys a (omega arith) t in
    let hit : (a : ℕ) → a < n → p.hits a ≡ true → at xs a ≡ at ys a = λ a h t.
    cancel _ _ _ _ _ _ (at-passed-hit p xs a (omega arith) t) (at-passed-hit p ys a (omega arith) t) (ap (λ zs. at zs a) e) (blind xs ys l m kept a h t) in
    ext_get_or (pos 0) xs ys (l ∙ sym m) (λ a h. let b : a < n = omega arith in ⊎_elim (hit a b) (kept a b) (cases_Bool (p.hits a)))

pub ran-injective : (n : ℕ) (ps : List Pass) → AllBlind n ps → (xs ys : List ℤ) → length xs ≡ n → length ys ≡ n → ran ps xs ≡ ran ps ys → xs ≡ ys
unfolding ran
ran-injective n [] b xs ys l m e = e
ran-injective n (p ∷ ps) (more blind b) xs ys l m e =
    passed-injective n p blind xs ys l m
    (ran-injective n ps b (passed p xs) (passed p ys) (length-passed p xs ∙ l) (length-passed p ys ∙ m) e)
