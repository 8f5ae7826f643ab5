-- Passes that are turned in wrapping arithmetic are exact on areas that fit, forth and back.
use Rattle.std.proofs.Common.{◌≡◌, ℕ, ◌<◌, true, false, List, [], ◌∷◌, length, ℤ, pos, ◌+ℤ◌, ◌-ℤ◌, sym, refl, ap, ◌∙◌, subst, ⊎_elim, arith, w32, SFits}
use Rattle.std.proofs.lemmas.List.{ext_get_or}
use Rattle.std.proofs.lemmas.Int.{ints, int_wrap_fits, int_wrap-add_left}
use Rattle.std.proofs.lemmas.Bool.{cases_Bool}
use Rattle.std.specs.Int.{int_wrap}
use Rattle.sets.specs.Areas.{at}
use Rattle.rules.proofs.Passing.{length-passed, at-passed-hit, at-passed-kept}
use Rattle.rules.specs.Passes.{Pass, passed, ran, Blind, AllBlind, FitsAt, Fitting, more}
use Rattle.transform.specs.Turned.{Turned, Forth, Back, none as still, more as then}

-- what is taken away and added again, and what is added and taken away again
pub taken-added : (x y m : ℤ) → SFits w32 x → SFits w32 (y +ℤ m) → y ≡ int_wrap w32 (x -ℤ m) → y +ℤ m ≡ x
taken-added x y m f g e =
    let whole : (x -ℤ m) +ℤ m ≡ x = omega (arith, ints) in
    sym (int_wrap_fits w32 (y +ℤ m) g) ∙ ap (λ z. int_wrap w32 (z +ℤ m)) e ∙ int_wrap-add_left w32 (x -ℤ m) m ∙ ap (int_wrap w32) whole ∙ int_wrap_fits w32 x f

added_taken : (x m : ℤ) → SFits w32 x → int_wrap w32 ((x +ℤ m) -ℤ m) ≡ x
added_taken x m f = let whole : (x +ℤ m) -ℤ m ≡ x = omega (arith, ints) in ap (int_wrap w32) whole ∙ int_wrap_fits w32 x f

module _ (p : Pass) where
  pub turned_exact : (xs ys : List ℤ) → Turned false p xs ys → FitsAt p xs → ys ≡ passed p xs
  turned_exact xs ys t fit =
      let same : (a : ℕ) → a < length xs → at ys a ≡ at (passed p xs) a = λ a h. ⊎_elim
      (λ hit. (t.hit a h hit).1 ∙ int_wrap_fits w32 _ (fit.after a h hit) ∙ sym (at-passed-hit p xs a h hit))
      (λ miss. t.kept a miss ∙ sym (at-passed-kept p xs a h miss))
      (cases_Bool (p.hits a)) in
      ext_get_or (pos 0) ys (passed p xs) (t.long ∙ sym (length-passed p xs)) (λ a h. same a (omega (arith, t.long)))

  module _ (n : ℕ) (blind : Blind n p) where
    pub unturned_exact : (ys zs : List ℤ) → length ys ≡ n → Turned true p ys zs → FitsAt p zs → passed p zs ≡ ys
    unturned_exact ys zs l t fit =
        let m : length zs ≡ n = t.long ∙ l in
        let same : (a : ℕ) → a < n → at (passed p zs) a ≡ at ys a = λ a h. ⊎_elim
        (λ hit.
        let amount = blind ys zs l m (λ b k miss. sym (t.kept b miss)) a h hit in
        let back = t.hit a (omega arith) hit in
        at-passed-hit p zs a (omega arith) hit ∙ taken-added (at ys a) (at zs a) (p.amount zs a) back.0 (fit.after a (omega arith) hit) (back.1 ∙ ap (λ q. int_wrap w32 (at ys a -ℤ q)) amount))
        (λ miss. at-passed-kept p zs a (omega arith) miss ∙ t.kept a miss)
        (cases_Bool (p.hits a)) in
        ext_get_or (pos 0) (passed p zs) ys (length-passed p zs ∙ t.long) (λ a h. same a (omega (arith, length-passed p zs)))

    pub unturned_only : (xs zs : List ℤ) → length xs ≡ n → Turned true p (passed p xs) zs → FitsAt p xs → zs ≡ xs
    unturned_only xs zs l t fit =
        let m : length (passed p xs) ≡ n = length-passed p xs ∙ l in
        let same : (a : ℕ) → a < n → at zs a ≡ at xs a = λ a h. ⊎_elim
        (λ hit.
        let amount = blind (passed p xs) xs m l (λ b k miss. at-passed-kept p xs b (omega arith) miss) a h hit in
        let found = at-passed-hit p xs a (omega arith) hit in
        (t.hit a (omega arith) hit).1 ∙ (λ i. int_wrap w32 (found i -ℤ amount i)) ∙ added_taken (at xs a) (p.amount xs a) (fit.before a (omega arith) hit))
        (λ miss. t.kept a miss ∙ at-passed-kept p xs a (omega arith) miss)
        (cases_Bool (p.hits a)) in
        ext_get_or (pos 0) zs xs (t.long ∙ length-passed p xs) (λ a h. same a (omega (arith, t.long)))

pub length_back : (ps : List Pass) (ys zs : List ℤ) → Back ps ys zs → length zs ≡ length ys
length_back [] ys zs still = refl
length_back (p ∷ ps) xs zs (then {ys = ys} b t) = t.long ∙ length_back ps xs ys b

pub forth_exact : (ps : List Pass) (xs ys : List ℤ) → Forth ps xs ys → Fitting ps xs → ys ≡ ran ps xs
unfolding ran
forth_exact [] xs ys still fit = refl
forth_exact (p ∷ ps) xs zs (then {ys = ys} t forth) (more fit rest) =
    forth_exact ps (passed p xs) zs (subst (λ v. Forth ps v zs) (turned_exact p xs ys t fit) forth) rest

pub back_exact : (n : ℕ) (ps : List Pass) (ys zs : List ℤ) → length ys ≡ n → AllBlind n ps → Back ps ys zs → Fitting ps zs → ran ps zs ≡ ys
unfolding ran
back_exact n [] ys zs l b still fit = refl
back_exact n (p ∷ ps) xs zs l (more blind b) (then {ys = ys} back t) (more fit rest) =
    let e = unturned_exact p n blind ys zs (length_back ps xs ys back ∙ l) t fit in
    ap (ran ps) e ∙ back_exact n ps xs ys l b back (subst (Fitting ps) e rest)

pub back_only : (n : ℕ) (ps : List Pass) (xs ys zs : List ℤ) → length xs ≡ n → AllBlind n ps → Fitting ps xs → ran ps xs ≡ ys → Back ps ys zs → zs ≡ xs
unfolding ran
back_only n [] xs ys zs l b fit e still = sym e
back_only n (p ∷ ps) xs ys zs l (more blind b) (more fit rest) e (then {ys = vs} back t) =
    let found = back_only n ps (passed p xs) ys vs (length-passed p xs ∙ l) b rest e back in
    unturned_only p n blind xs zs l (subst (λ v. Turned true p v zs) found t) fit
