-- What is wrong with a field, and the first field that is.
use Rattle.std.proofs.Common.{◌≡◌, ℕ, zero, suc, ◌+◌, Bool, true, false, cond, ◌&&◌, List, [], ◌∷◌, drop, ℤ, Some, None, Ok, Err, Option, Result, nat_eq, sym, refl, ap, ◌∙◌, inl, inr, arith, rules}
use Rattle.std.specs.Int.Signed.{le_z}
use Rattle.std.specs.Option.{ok_or}
use Rattle.std.specs.Result.{IsErr, IsErrAnd}
use Rattle.std.specs.Cmp.Lexicographic.{pointwise}
use Rattle.std.proofs.lemmas.Slice.Eq.{slice_eq-Decides}
use Rattle.std.proofs.lemmas.Int.{ints}
use Rattle.std.proofs.lemmas.Option.{none-some}
use Rattle.std.proofs.lemmas.Bool.{cond-true, cond-false, cases_Bool, both_ways, and_from, and_parts, and_left, and_right}
use Rattle.std.proofs.lemmas.Bool.Decides.{same_from_decides, Decides-eqb}
use Rattle.recipe.specs.declared.fault.Cause.{Cause}
use Rattle.recipe.specs.declared.fault.Cause.TheVariants.{NotListed, OutsideLimit}
use Rattle.recipe.specs.declared.fault.Fault.{Fault}
use Rattle.recipe.specs.declared.field.Field.{Field}
use Rattle.recipe.specs.declared.field.Field.TheVariants.{Empty, Word, Number, Other}
use Rattle.recipe.specs.Fields.{is_word, is_number, value_of, Shows}
use Rattle.recipe.specs.Promises.{Held, Judged}
use Rattle.recipe.specs.Rules.{Rule, between, listed, same, member, wrong, field, first_wrong}
use Rattle.recipe.proofs.Letters.{word_no_number, same-decides}

-- the fault of field k
abbrev pub fault_of : ℕ → ℕ → Cause → Fault
fault_of line k c = record { cause = c; line = line; field = k + 1 }

pub first_wrong-here : (line : ℕ) (fs : List (List ℕ)) (k : ℕ) (r : Rule) (rs : List Rule) (c : Cause) → wrong r (field fs k) ≡ Some c → first_wrong line fs k (r ∷ rs) ≡ Some (fault_of line k c)
unfolding first_wrong
first_wrong-here line fs k r rs c e = rw (e, first_wrong)

pub first_wrong-later : (line : ℕ) (fs : List (List ℕ)) (k : ℕ) (r : Rule) (rs : List Rule) → wrong r (field fs k) ≡ None → first_wrong line fs k (r ∷ rs) ≡ first_wrong line fs (k + 1) rs
unfolding first_wrong
first_wrong-later line fs k r rs e = rw (e, first_wrong)

pub first_wrong-none : (line : ℕ) (fs : List (List ℕ)) (k : ℕ) → first_wrong line fs k [] ≡ None
unfolding first_wrong
first_wrong-none line fs k = refl

-- a rule that stands alone, and with others behind it
pub rule_right : (line : ℕ) (fs : List (List ℕ)) (k : ℕ) (r : Rule) (rs : List Rule) → first_wrong line fs k (r ∷ []) ≡ None → first_wrong line fs k (r ∷ rs) ≡ first_wrong line fs (k + 1) rs
rule_right line fs k r rs = by (wrong r (field fs k)) refl
  where
    by : (o : Option Cause) → wrong r (field fs k) ≡ o → first_wrong line fs k (r ∷ []) ≡ None → first_wrong line fs k (r ∷ rs) ≡ first_wrong line fs (k + 1) rs
    by None e h = first_wrong-later line fs k r rs e
    by (Some c) e h = absurd (none-some _ (sym h ∙ first_wrong-here line fs k r [] c e))

pub rule_wrong : (line : ℕ) (fs : List (List ℕ)) (k : ℕ) (r : Rule) (rs : List Rule) (f : Fault) → first_wrong line fs k (r ∷ []) ≡ Some f → first_wrong line fs k (r ∷ rs) ≡ Some f
rule_wrong line fs k r rs f = by (wrong r (field fs k)) refl
  where
    by : (o : Option Cause) → wrong r (field fs k) ≡ o → first_wrong line fs k (r ∷ []) ≡ Some f → first_wrong line fs k (r ∷ rs) ≡ Some f
    by None e h = absurd (none-some _ (sym (first_wrong-later line fs k r [] e ∙ first_wrong-none line fs (k + 1)) ∙ h))
    by (Some c) e h = first_wrong-here line fs k r rs c e ∙ sym (first_wrong-here line fs k r [] c e) ∙ h

-- the first n rules are kept, each by itself
abbrev pub FirstKept : ℕ → List (List ℕ) → ℕ → ℕ → List Rule → Type 0
FirstKept line fs k zero rs = Unit {0}
FirstKept line fs k (suc n) [] = Unit {0}
FirstKept line fs k (suc n) (r ∷ rs) = (first_wrong line fs k (r ∷ []) ≡ None) × FirstKept line fs (k + 1) n rs

pub past : (line : ℕ) (fs : List (List ℕ)) (k n : ℕ) (rs : List Rule) → FirstKept line fs k n rs → first_wrong line fs k rs ≡ first_wrong line fs (k + n) (drop n rs)
past line fs k zero rs h = ap (λ j. first_wrong line fs j rs) (let e : k ≡ k + 0 = omega arith in e)
past line fs k (suc n) [] h = first_wrong-none line fs k ∙ sym (first_wrong-none line fs (k + suc n))
past line fs k (suc n) (r ∷ rs) h =
    rule_right line fs k r rs h.0 ∙ past line fs (k + 1) n rs h.1 ∙ ap (λ j. first_wrong line fs j (drop n rs)) (let e : k + 1 + n ≡ k + suc n = omega arith in e)

-- what a field that is no word, or no number, shows
pub shown_no_word : (r : Field) (f : List ℕ) → Shows r f → ((s : _) → r ≡ Word s → ⊥) → is_word f ≡ false
unfolding is_word
shown_no_word Empty f e none = rw e
shown_no_word (Word s) f e none = absurd (none s refl)
shown_no_word (Number s) f e none = elim (cases_Bool (is_word f)) [ inl w ↦ absurd (word_no_number f w e.1) | inr w ↦ w ]
shown_no_word (Other s) f e none = e.2

pub shown_no_number : (r : Field) (f : List ℕ) → Shows r f → ((s : _) → r ≡ Number s → ⊥) → is_number f ≡ false
unfolding is_number
shown_no_number Empty f e none = rw e
shown_no_number (Word s) f e none = elim (cases_Bool (is_number f)) [ inl n ↦ absurd (word_no_number f e.1 n) | inr n ↦ n ]
shown_no_number (Number s) f e none = absurd (none s refl)
shown_no_number (Other s) f e none = e.3

pub same-from-equal : (xs ys : List ℕ) (r : Bool) → r ≡ pointwise nat_eq xs ys → r ≡ same xs ys
same-from-equal xs ys r h = same_from_decides r (same xs ys) (slice_eq-Decides Decides-eqb xs ys r h) (same-decides xs ys)

pub same_read : (f xs ys : List ℕ) (r t : Bool) → xs ≡ f → r ≡ pointwise nat_eq xs ys → r ≡ t → same f ys ≡ t
same_read f xs ys r t e h is = ap (λ w. same w ys) (sym e) ∙ sym (same-from-equal xs ys r h) ∙ is

-- what is no word is no listed word
pub same-no-word : (f w : List ℕ) → is_word f ≡ false → is_word w ≡ true → same f w ≡ false
same-no-word f w none is =
    elim (cases_Bool (same f w)) [ inl e ↦ absurd (both_ways (is_word f) none (ap is_word ((same-decides f w).0 e) ∙ is)) | inr e ↦ e ]

pub wrong-no-word : (ws : List (List ℕ)) (f : List ℕ) → is_word f ≡ false → wrong (listed ws) f ≡ Some NotListed
unfolding wrong
wrong-no-word ws f none = cond-false _ _ _ (and_left (is_word f) (member f ws) none)

pub wrong-listed : (ws : List (List ℕ)) (f : List ℕ) → is_word f ≡ true → member f ws ≡ true → wrong (listed ws) f ≡ None
unfolding wrong
wrong-listed ws f is m = cond-true _ _ _ (and_from (is_word f) (member f ws) is m)

pub wrong-not-listed : (ws : List (List ℕ)) (f : List ℕ) → member f ws ≡ false → wrong (listed ws) f ≡ Some NotListed
unfolding wrong
wrong-not-listed ws f m = cond-false _ _ _ (and_right (is_word f) (member f ws) m)

pub wrong-no-number : (a b : ℤ) (f : List ℕ) → is_number f ≡ false → wrong (between a b) f ≡ Some NotListed
unfolding wrong
wrong-no-number a b f none = cond-false (is_number f) _ _ none

pub wrong-within : (a b : ℤ) (f : List ℕ) → is_number f ≡ true → (le_z a (value_of f) && le_z (value_of f) b) ≡ true → wrong (between a b) f ≡ None
unfolding wrong
wrong-within a b f is h = cond-true (is_number f) _ _ is ∙ cond-true _ _ _ h

pub wrong-outside : (a b : ℤ) (f : List ℕ) → is_number f ≡ true → (le_z a (value_of f) && le_z (value_of f) b) ≡ false → wrong (between a b) f ≡ Some OutsideLimit
unfolding wrong
wrong-outside a b f is h = cond-true (is_number f) _ _ is ∙ cond-false _ _ _ h

-- what an answer says of the test that gave it
pub some_from_cond : {X : Type 0} (t : Bool) (x v : X) → Some x ≡ cond t (Some v) None → (t ≡ true) × (x ≡ v)
some_from_cond true x v e = (refl, cc)
some_from_cond false x v e = absurd (search rules)

pub none_from_cond : {X : Type 0} (t : Bool) (v : X) → None ≡ cond t (Some v) None → t ≡ false
none_from_cond true v e = absurd (search rules)
none_from_cond false v e = refl

held_by_test : (a b z v : ℤ) → (le_z a z && le_z z b) ≡ true → v ≡ z → Held a b z v
held_by_test a b z v h e =
    let p = and_parts (le_z a z) (le_z z b) h in
    let low : le_z a z ≡ true = p.0 in
    let high : le_z z b ≡ true = p.1 in
    record { is = e; above = grind (arith, ints); below = grind (arith, ints) }

-- the number in a field, if it is one between its limits, or else the fault
module _ (line : ℕ) (fs : List (List ℕ)) (k : ℕ) (a b : ℤ) (ds : List ℕ) where
  pub judged_within : (o : Option ℤ) (r : Result ℤ Fault) → (ds ≡ field fs k) × (is_number (field fs k) ≡ true) → o ≡ cond (le_z a (value_of ds) && le_z (value_of ds) b) (Some (value_of ds)) None → r ≡ ok_or o (fault_of line k OutsideLimit) → Judged (first_wrong line fs k (between a b ∷ [])) (Held a b (value_of (field fs k))) r
  judged_within (Some v) r n e h =
      let e' = rw n.0 at e in
      let p = some_from_cond _ v (value_of (field fs k)) e' in
      rw h (first_wrong-later line fs k (between a b) [] (wrong-within a b (field fs k) n.1 p.0) ∙ first_wrong-none line fs (k + 1), held_by_test a b (value_of (field fs k)) v p.0 p.1)
  judged_within None r n e h =
      let e' = rw n.0 at e in
      rw h (first_wrong-here line fs k (between a b) [] OutsideLimit (wrong-outside a b (field fs k) n.1 (none_from_cond _ (value_of (field fs k)) e')))

pub listed_right : (line : ℕ) (fs : List (List ℕ)) (k : ℕ) (ws : List (List ℕ)) → is_word (field fs k) ≡ true → member (field fs k) ws ≡ true → first_wrong line fs k (listed ws ∷ []) ≡ None
listed_right line fs k ws is m = first_wrong-later line fs k (listed ws) [] (wrong-listed ws (field fs k) is m) ∙ first_wrong-none line fs (k + 1)

-- a fault that is passed on
pub passed : {X : Type 0} (o : Option Fault) (P : X → Type 0) (r : Result X Fault) (f : Fault) → IsErr r × IsErrAnd r (λ x. x ≡ f) → o ≡ Some f → Judged o P r
passed o P (Ok x) f p e = absurd p.1
passed o P (Err x) f p e = e ∙ ap Some (sym p.1)
