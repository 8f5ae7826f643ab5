-- The form of a line that is due, by the word it begins with, and what a line of that form adds.
use Rattle.std.proofs.Common.{◌≡◌, ℕ, ◌+◌, ◌<◌, Bool, true, false, cond, ◌&&◌, eqb, leb, ltb, List, [], ◌∷◌, ◌++◌, length, Some, None, Ok, Err, codes, Option, Result, sym, refl, ap, ◌∙◌, arith}
use Rattle.std.proofs.lemmas.Bool.{cond-true, cond-false, ne_eqb, ltb-true}
use Rattle.std.proofs.lemmas.Option.{none-some}
use Rattle.recipe.specs.declared.begun.Begun.{Begun}
use Rattle.recipe.specs.declared.fault.Cause.TheVariants.{FieldCount, WordDue, StageCount}
use Rattle.recipe.specs.declared.fault.Fault.{Fault}
use Rattle.recipe.specs.declared.line.Line.{Line}
use Rattle.recipe.specs.Grammar.{Sofar, at_hand, form_begun, form_inside, form_due, form_fault, form_taken, has_space, line_fault, taken, fault_at}
use Rattle.stages.specs.Plain.{Plain, rct as an-rct}
use Rattle.recipe.specs.Promises.{Judged, Begins, Opens, wrong_as, wrong_start, headed, fields_in}
use Rattle.recipe.specs.Rules.{Form, lift, dep, rct, same, field, has_fields, first_wrong, rules_of}

-- one comma fewer than fields
pub commas-fields : (r n m : ℕ) → r + 1 ≡ n → eqb r m ≡ eqb n (m + 1)
commas-fields r n m e = grind arith

-- the word by which a line begins
abbrev pub word : Line → List ℕ
word l = field (fields_in l) 0

-- the word and the fields, tested one after the other
module _ (starts sized : Bool) (line : ℕ) (rest first second : Option Fault) (f₁ f₂ : Fault) (is₁ : first ≡ Some f₁) (is₂ : second ≡ Some f₂) where
  pub tested_fault : (f : Fault) → cond starts (cond sized None second) first ≡ Some f → cond starts (cond sized rest second) first ≡ Some f
  tested_fault f = by starts sized
    where
      by : (starts sized : Bool) → cond starts (cond sized None second) first ≡ Some f → cond starts (cond sized rest second) first ≡ Some f
      by true true e = absurd (none-some _ e)
      by true false e = e
      by false t e = e

  pub tested_none : cond starts (cond sized None second) first ≡ None → (starts ≡ true) × (cond starts (cond sized rest second) first ≡ rest)
  tested_none = by starts sized
    where
      by : (starts sized : Bool) → cond starts (cond sized None second) first ≡ None → (starts ≡ true) × (cond starts (cond sized rest second) first ≡ rest)
      by true true e = (refl, refl)
      by true false e = absurd (none-some _ (sym (sym is₂ ∙ e)))
      by false t e = absurd (none-some _ (sym (sym is₁ ∙ e)))

-- a line by which a stage begins, with so many fields behind its word
module _ (ts : List Plain) (l : Line) (g : Form) (is : form_begun (word l) ≡ Some g) (behind : ℕ) (fits : (m : ℕ) → has_fields g m ≡ eqb m (behind + 1)) where
  just : (leb (behind + 1) (length (fields_in l)) && leb (length (fields_in l)) (behind + 1)) ≡ has_fields g (length (fields_in l))
  just = both (length (fields_in l)) ∙ sym (fits (length (fields_in l)))
    where
      both : (m : ℕ) → (leb (behind + 1) m && leb m (behind + 1)) ≡ eqb m (behind + 1)
      both m = grind arith

  begins_with : line_fault (record { stages = ts; left = 0 }) l.number (fields_in l) ≡ cond (ltb (length ts) 16) (cond (leb (behind + 1) (length (fields_in l)) && leb (length (fields_in l)) (behind + 1)) (wrong_as g l) (fault_at FieldCount l.number)) (fault_at StageCount l.number)
  unfolding line_fault
  begins_with = ap (form_fault (record { stages = ts; left = 0 }) l.number (fields_in l)) is ∙ ap (λ t. cond (ltb (length ts) 16) (cond t (wrong_as g l) (fault_at FieldCount l.number)) (fault_at StageCount l.number)) (sym just)

  pub begins_fault : (f : Fault) → wrong_start ts behind l ≡ Some f → line_fault (record { stages = ts; left = 0 }) l.number (fields_in l) ≡ Some f
  begins_fault f e = begins_with ∙ tested_fault (ltb (length ts) 16) _ l.number _ _ _ _ _ refl refl f e

  pub begins_judged : (s : Plain) (m : ℕ) (r : Result Begun Fault) → form_taken (record { stages = ts; left = 0 }) (fields_in l) (Some g) ≡ record { stages = ts ++ s ∷ []; left = m } → wrong_start ts behind l ≡ None → Judged (wrong_as g l) (Begins s m) r → Opens ts l r
  unfolding taken
  begins_judged s m (Ok b) t e h =
      let p = tested_none (ltb (length ts) 16) _ l.number (wrong_as g l) _ _ _ _ refl refl e in (
        begins_with ∙ p.1 ∙ h.0,
        record {
          room = ltb-true _ _ p.0;
          is = ap (form_taken (record { stages = ts; left = 0 }) (fields_in l)) is ∙ t ∙ ends (sym h.1.stage) (sym h.1.left);
        },
      )
    where
      ends : {s s' : Plain} {n n' : ℕ} → s ≡ s' → n ≡ n' → ◌≡◌ {A = Sofar} (record { stages = ts ++ s ∷ []; left = n }) (record { stages = ts ++ s' ∷ []; left = n' })
      ends p q = cc
  begins_judged s m (Err f) t e h = begins_with ∙ (tested_none (ltb (length ts) 16) _ l.number (wrong_as g l) _ _ _ _ refl refl e).1 ∙ h

-- a line of the stage at hand
module _ (s : Sofar) (due : 0 < s.left) (line : ℕ) (fs : List (List ℕ)) where
  inside : form_due s (field fs 0) ≡ form_inside (at_hand s.stages) (field fs 0)
  inside = cond-false (eqb s.left 0) _ _ (ne_eqb s.left 0 (λ e. omega arith))

  has_room : has_space s ≡ true
  has_room = cond-false (eqb s.left 0) _ _ (ne_eqb s.left 0 (λ e. omega arith))

  form_fault-cond : (t : Bool) (g : Form) → form_fault s line fs (cond t (Some g) None) ≡ cond t (cond (has_fields g (length fs)) (first_wrong line fs 1 (rules_of g fs)) (fault_at FieldCount line)) (fault_at WordDue line)
  form_fault-cond true g = cond-true (has_space s) _ _ has_room
  form_fault-cond false g = refl

  pub inside_fault : (p : Plain) (w : List ℕ) (g : Form) → at_hand s.stages ≡ Some p → ((v : List ℕ) → form_inside (Some p) v ≡ cond (same v w) (Some g) None) → line_fault s line fs ≡ headed w g line fs
  unfolding line_fault
  inside_fault p w g at is =
      ap (form_fault s line fs) (inside ∙ ap (λ o. form_inside o (field fs 0)) at ∙ is (field fs 0)) ∙ form_fault-cond (same (field fs 0) w) g

  headed-word : (w : List ℕ) (g : Form) → headed w g line fs ≡ None → same (field fs 0) w ≡ true
  headed-word w g = by (same (field fs 0) w)
    where
      by : (t : Bool) → cond t (cond (has_fields g (length fs)) (first_wrong line fs 1 (rules_of g fs)) (fault_at FieldCount line)) (fault_at WordDue line) ≡ None → t ≡ true
      by true e = refl
      by false e = absurd (none-some _ (sym e))

  pub inside_taken : (p : Plain) (w : List ℕ) (g : Form) → at_hand s.stages ≡ Some p → ((v : List ℕ) → form_inside (Some p) v ≡ cond (same v w) (Some g) None) → headed w g line fs ≡ None → taken s fs ≡ form_taken s fs (Some g)
  unfolding taken
  inside_taken p w g at is clear =
      ap (form_taken s fs) (inside ∙ ap (λ o. form_inside o (field fs 0)) at ∙ is (field fs 0) ∙ cond-true (same (field fs 0) w) _ _ (headed-word w g clear))

  pub inside_rct : (f : ℕ) → at_hand s.stages ≡ Some (an-rct f) → line_fault s line fs ≡ fault_at WordDue line
  unfolding line_fault
  inside_rct f at = ap (form_fault s line fs) (inside ∙ ap (λ o. form_inside o (field fs 0)) at)

-- the words by which a stage begins, tried in turn
module _ (w : List ℕ) where
  pub begun-lift : same w (codes "LIFT") ≡ true → form_begun w ≡ Some lift
  begun-lift h = cond-true (same w (codes "LIFT")) _ _ h

  pub begun-dep : same w (codes "LIFT") ≡ false → same w (codes "DEP") ≡ true → form_begun w ≡ Some dep
  begun-dep h h' = cond-false (same w (codes "LIFT")) _ _ h ∙ cond-true (same w (codes "DEP")) _ _ h'

  pub begun-rct : same w (codes "LIFT") ≡ false → same w (codes "DEP") ≡ false → same w (codes "RCT") ≡ true → form_begun w ≡ Some rct
  begun-rct h h' h'' = cond-false (same w (codes "LIFT")) _ _ h ∙ cond-false (same w (codes "DEP")) _ _ h' ∙ cond-true (same w (codes "RCT")) _ _ h''

  pub begun-none : same w (codes "LIFT") ≡ false → same w (codes "DEP") ≡ false → same w (codes "RCT") ≡ false → form_begun w ≡ None
  begun-none h h' h'' = cond-false (same w (codes "LIFT")) _ _ h ∙ cond-false (same w (codes "DEP")) _ _ h' ∙ cond-false (same w (codes "RCT")) _ _ h''

pub begins_none : (ts : List Plain) (line : ℕ) (fs : List (List ℕ)) → form_begun (field fs 0) ≡ None → line_fault (record { stages = ts; left = 0 }) line fs ≡ fault_at WordDue line
unfolding line_fault
begins_none ts line fs e = ap (form_fault (record { stages = ts; left = 0 }) line fs) e
