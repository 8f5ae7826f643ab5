-- The field that a fault names decides: a line that goes alike up to that field is at fault too.
use Rattle.std.proofs.Common.{◌≡◌, ℕ, zero, suc, ◌+◌, ◌-◌, ◌<◌, ◌≤◌, Bool, true, false, cond, leb, ◌⊎◌, List, [], ◌∷◌, length, get_or, take, replicate, pos, ◌-ℤ◌, Some, None, Option, sym, refl, ap, ◌∙◌, subst, inl, inr, ⊎_elim, arith}
use Rattle.std.specs.Int.{int_min}
use Rattle.std.proofs.lemmas.List.{get_or-take, length-take, length-replicate}
use Rattle.std.proofs.lemmas.Bool.{and_parts, leb-true, cond-true}
use Rattle.std.proofs.lemmas.Option.{none-some}
use Rattle.recipe.specs.declared.fault.Cause.{Cause}
use Rattle.recipe.specs.declared.fault.Cause.TheVariants.{FieldCount}
use Rattle.recipe.specs.declared.fault.Fault.{Fault}
use Rattle.recipe.specs.Fields.{value_of}
use Rattle.recipe.specs.Grammar.{Sofar, form_due, has_space, form_fault, line_fault}
use Rattle.recipe.specs.Rules.{Form, set, lift, step, dep, row, rct, Rule, between, wrong, field, number, first_wrong, has_fields, rules_of, tap_rule}
use Rattle.recipe.proofs.Rulings.{onward}
use Rattle.recipe.proofs.LineForms.{Kept}
use Rattle.recipe.proofs.Places.{kept_from_none}
use Rattle.recipe.proofs.Pointing.{fault_named}

-- the rule that a line breaks first, number j from 0
record Breaks (fs : List (List ℕ)) (k : ℕ) (rs : List Rule) (f : Fault) : Type 0 where
  j : ℕ
  below : j < length rs
  field_is : f.field ≡ k + j + 1
  broken : wrong (get_or rs j tap_rule) (field fs (k + j)) ≡ Some f.cause

breaks_from_some : (line : ℕ) (fs : List (List ℕ)) (k : ℕ) (rs : List Rule) (f : Fault) → first_wrong line fs k rs ≡ Some f → Breaks fs k rs f
unfolding first_wrong
breaks_from_some line fs k [] f h = absurd (none-some f h)
breaks_from_some line fs k (r ∷ rs) f h = by (wrong r (field fs k)) refl (λ e. breaks_from_some line fs (k + 1) rs f e) h
  where
    by : (o : Option Cause) → wrong r (field fs k) ≡ o → (first_wrong line fs (k + 1) rs ≡ Some f → Breaks fs (k + 1) rs f) → onward line k (first_wrong line fs (k + 1) rs) o ≡ Some f → Breaks fs k (r ∷ rs) f
    by None w more e =
        let rest = more e in
        let n = rest.j in
        let is : k + 1 + n ≡ k + suc n = omega arith in
        record { j = suc n; below = omega (arith, rest.below); field_is = rest.field_is ∙ ap (λ m. m + 1) is; broken = ap (λ m. wrong (get_or rs n tap_rule) (field fs m)) (sym is) ∙ rest.broken }
    by (Some c) w more e =
        let is : ◌≡◌ {A = Fault} (record { cause = c; line = line; field = k + 1 }) f = cc in
        let here : k + 0 ≡ k = omega arith in
        record { j = 0; below = omega arith; field_is = sym (ap (λ (x : Fault). x.field) is) ∙ ap (λ m. m + 1) (sym here); broken = ap (λ m. wrong r (field fs m)) here ∙ w ∙ ap (λ (x : Fault). Some x.cause) is }

holds-from-none : (line : ℕ) (fs : List (List ℕ)) (k : ℕ) (rs : List Rule) (j : ℕ) → first_wrong line fs k rs ≡ None → j < length rs → wrong (get_or rs j tap_rule) (field fs (k + j)) ≡ None
unfolding first_wrong
holds-from-none line fs k [] j h l = absurd (omega arith)
holds-from-none line fs k (r ∷ rs) j h l = by (wrong r (field fs k)) refl (λ i e m. holds-from-none line fs (k + 1) rs i e m) h j l
  where
    by : (o : Option Cause) → wrong r (field fs k) ≡ o → ((i : ℕ) → first_wrong line fs (k + 1) rs ≡ None → i < length rs → wrong (get_or rs i tap_rule) (field fs (k + 1 + i)) ≡ None) → onward line k (first_wrong line fs (k + 1) rs) o ≡ None → (i : ℕ) → i < suc (length rs) → wrong (get_or (r ∷ rs) i tap_rule) (field fs (k + i)) ≡ None
    by None w more e zero m = ap (λ n. wrong r (field fs n)) (let e : k + 0 ≡ k = omega arith in e) ∙ w
    by None w more e (suc i) m = ap (λ n. wrong (get_or rs i tap_rule) (field fs n)) (let e : k + suc i ≡ k + 1 + i = omega arith in e) ∙ more i e (omega arith)
    by (Some c) w more e i m = absurd (none-some _ (sym e))

replicate-all : (n i : ℕ) → get_or (replicate n tap_rule) i tap_rule ≡ tap_rule
replicate-all zero i = refl
replicate-all (suc n) zero = refl
replicate-all (suc n) (suc i) = replicate-all n i

-- a rule depends only on the fields before its own
module _ (fs gs : List (List ℕ)) where
  step-rule : (j : ℕ) → get_or (rules_of step fs) j tap_rule ≡ get_or (rules_of step gs) j tap_rule
  step-rule zero = refl
  step-rule (suc zero) = refl
  step-rule (suc (suc zero)) = refl
  step-rule (suc (suc (suc j))) = replicate-all (length fs - 4) j ∙ sym (replicate-all (length gs - 4) j)

  lift_rule : (j : ℕ) → (2 ≤ j → number fs 2 ≡ number gs 2) → get_or (rules_of lift fs) j tap_rule ≡ get_or (rules_of lift gs) j tap_rule
  lift_rule zero e = refl
  lift_rule (suc zero) e = refl
  lift_rule (suc (suc zero)) e = ap (λ z. between (pos 1) (pos 64 -ℤ z)) (e (omega arith))
  lift_rule (suc (suc (suc j))) e = refl

  set_rule : (j : ℕ) → (4 ≤ j → number fs 4 ≡ number gs 4) → get_or (rules_of set fs) j tap_rule ≡ get_or (rules_of set gs) j tap_rule
  set_rule zero e = refl
  set_rule (suc zero) e = refl
  set_rule (suc (suc zero)) e = refl
  set_rule (suc (suc (suc zero))) e = refl
  set_rule (suc (suc (suc (suc zero)))) e = ap (λ z. between z (pos 2147483647)) (e (omega arith))
  set_rule (suc (suc (suc (suc (suc j))))) e = refl

  rule_same : (g : Form) (j : ℕ) → ((i : ℕ) → i ≤ j + 1 → field fs i ≡ field gs i) → get_or (rules_of g fs) j tap_rule ≡ get_or (rules_of g gs) j tap_rule
  rule_same set j alike = set_rule j (λ l. ap value_of (alike 4 (omega arith)))
  rule_same lift j alike = lift_rule j (λ l. ap value_of (alike 2 (omega arith)))
  rule_same step j alike = step-rule j
  rule_same dep j alike = ap (λ z. get_or (between (pos 0) (pos 63) ∷ between (pos 2) (int_min (pos 8) (pos 64 -ℤ z)) ∷ []) j tap_rule) (ap value_of (alike 1 (omega arith)))
  rule_same (row n) j alike = refl
  rule_same rct j alike = refl

  -- so many rules has the other line too
  rule_below : (g : Form) (j : ℕ) → has_fields g (length fs) ≡ true → has_fields g (length gs) ≡ true → take (j + 2) gs ≡ take (j + 2) fs → j < length (rules_of g fs) → j < length (rules_of g gs)
  rule_below set j h k same l = l
  rule_below lift j h k same l = l
  rule_below step j h k same l =
      let many = length-replicate (length fs - 4) tap_rule in
      let most = length-replicate (length gs - 4) tap_rule in
      let least = leb-true 5 (length fs) (and_parts (leb 5 (length fs)) _ h).0 in
      let some = leb-true 5 (length gs) (and_parts (leb 5 (length gs)) _ k).0 in
      let one = length-take (j + 2) gs in
      let two = length-take (j + 2) fs in
      let equal = ap length same in
      omega arith
  rule_below dep j h k same l = l
  rule_below (row n) j h k same l = l
  rule_below rct j h k same l = l

  pub fields_alike : (n i : ℕ) → take n gs ≡ take n fs → i < n → field fs i ≡ field gs i
  fields_alike n i same l = sym (get_or-take n fs i [] l) ∙ ap (λ xs. get_or xs i []) (sym same) ∙ get_or-take n gs i [] l

some_cond : {A : Type 0} (b : Bool) (o : Option A) (c f : A) → cond b o (Some c) ≡ Some f → ((b ≡ true) × (o ≡ Some f)) ⊎ ((b ≡ false) × (c ≡ f))
some_cond true o c f h = inl (refl, h)
some_cond false o c f h = inr (refl, (cc))

module _ (s : Sofar) (line : ℕ) (fs gs : List (List ℕ)) (f : Fault) where
  rules_decide : (g : Form) → take f.field gs ≡ take f.field fs → has_fields g (length fs) ≡ true → first_wrong line fs 1 (rules_of g fs) ≡ Some f → Kept g line gs → ⊥
  rules_decide g same many h kept =
      let b = breaks_from_some line fs 1 (rules_of g fs) f h in
      let n = b.j in
      let is : f.field ≡ n + 2 = omega (arith, b.field_is) in
      let again : take (n + 2) gs ≡ take (n + 2) fs = subst (λ m. take m gs ≡ take m fs) is same in
      let alike : (i : ℕ) → i ≤ n + 1 → field fs i ≡ field gs i = λ i l. fields_alike fs gs (n + 2) i again (omega arith) in
      let good = holds-from-none line gs 1 (rules_of g gs) n kept.rules (rule_below fs gs g n many kept.fields again b.below) in
      let bad = sym b.broken ∙ (λ i. wrong (rule_same fs gs g n alike i) (alike (1 + n) (omega arith) i)) in
      none-some f.cause (sym (bad ∙ good))

  pub form_decides : (o : Option Form) → (f.cause ≡ FieldCount → ⊥) → take f.field gs ≡ take f.field fs → form_fault s line fs o ≡ Some f → form_fault s line gs o ≡ None → ⊥
  form_decides None but same h k = none-some _ (sym k)
  form_decides (Some g) but same h k =
      let kept = kept_from_none s line gs g k in
      let many = some_cond (has_fields g (length fs)) _ (record { cause = FieldCount; line = line; field = 1 }) f (sym (cond-true (has_space s) _ _ kept.0) ∙ h) in
      ⊎_elim (λ x. rules_decide g same x.0 x.1 kept.1) (λ x. but (sym (ap (λ (y : Fault). y.cause) x.1))) many

  pub field-decides : (f.cause ≡ FieldCount → ⊥) → take f.field gs ≡ take f.field fs → line_fault s line fs ≡ Some f → line_fault s line gs ≡ None → ⊥
  unfolding line_fault
  field-decides but same h k =
      let named = (fault_named s line fs f h).1 in
      let word = fields_alike fs gs f.field 0 same (omega arith) in
      form_decides (form_due s (field fs 0)) but same h (ap (λ w. form_fault s line gs (form_due s w)) word ∙ k)
