-- A line without fault: each field behind the word keeps its rule.
use Rattle.std.proofs.Common.{◌≡◌, ℕ, zero, suc, ◌+◌, List, [], ◌∷◌, map, length, replicate, ℤ, pos, negsuc, Some, None, Option, sym, refl, ap, ◌∙◌, arith}
use Rattle.std.specs.Fmt.{signed_decimal}
use Rattle.std.specs.List.{AllByRecursion}
use Rattle.std.proofs.lemmas.Option.{none-some}
use Rattle.recipe.specs.declared.fault.Cause.{Cause}
use Rattle.recipe.specs.declared.fault.Fault.{Fault}
use Rattle.recipe.specs.Fields.{value_of}
use Rattle.recipe.specs.Grammar.{numbers}
use Rattle.recipe.specs.Rules.{Rule, wrong, field, first_wrong, tap_rule}
use Rattle.recipe.specs.Written.{LawfulTap}
use Rattle.recipe.proofs.Figures.{within-from-fits, fits-from-within, within-value, tap_small}

-- each field keeps its rule
abbrev pub Fits : List Rule → List (List ℕ) → Type 0
Fits [] [] = Unit {0}
Fits [] (f ∷ fs) = ⊥
Fits (r ∷ rs) [] = ⊥
Fits (r ∷ rs) (f ∷ fs) = (wrong r f ≡ None) × Fits rs fs

-- from field k on stand the fields gs
abbrev pub From : List (List ℕ) → ℕ → List (List ℕ) → Type 0
From fs k gs = (i : ℕ) → field fs (k + i) ≡ field gs i

pub from_one : (w : List ℕ) (gs : List (List ℕ)) → From (w ∷ gs) 1 gs
from_one w gs i = ap (λ k. field (w ∷ gs) k) (let e : 1 + i ≡ suc i = omega arith in e)

from_here : (fs : List (List ℕ)) (k : ℕ) (g : List ℕ) (gs : List (List ℕ)) → From fs k (g ∷ gs) → field fs k ≡ g
from_here fs k g gs h = ap (λ j. field fs j) (let e : k ≡ k + 0 = omega arith in e) ∙ h 0

pub from_next : (fs : List (List ℕ)) (k : ℕ) (g : List ℕ) (gs : List (List ℕ)) → From fs k (g ∷ gs) → From fs (k + 1) gs
from_next fs k g gs h i = ap (λ j. field fs j) (let e : k + 1 + i ≡ k + suc i = omega arith in e) ∙ h (suc i)

-- the fault of a field, or else the next one's
abbrev pub onward : ℕ → ℕ → Option Fault → Option Cause → Option Fault
onward line k next o = elim o [ None ↦ next | Some c ↦ Some (record { cause = c; line = line; field = k + 1 }) ]

pub fits-from-none : (line : ℕ) (fs : List (List ℕ)) (k : ℕ) (rs : List Rule) (gs : List (List ℕ)) → From fs k gs → length gs ≡ length rs → first_wrong line fs k rs ≡ None → Fits rs gs
unfolding first_wrong
fits-from-none line fs k [] [] at e h = tt
fits-from-none line fs k [] (g ∷ gs) at e h = absurd (omega arith)
fits-from-none line fs k (r ∷ rs) [] at e h = absurd (omega arith)
fits-from-none line fs k (r ∷ rs) (g ∷ gs) at e h =
    by (wrong r (field fs k)) refl (λ n. fits-from-none line fs (k + 1) rs gs (from_next fs k g gs at) (omega arith) n) h
  where
    by : (o : Option Cause) → wrong r (field fs k) ≡ o → (first_wrong line fs (k + 1) rs ≡ None → Fits rs gs) → onward line k (first_wrong line fs (k + 1) rs) o ≡ None → (wrong r g ≡ None) × Fits rs gs
    by None w rest n = (ap (wrong r) (sym (from_here fs k g gs at)) ∙ w, rest n)
    by (Some c) w rest n = absurd (none-some _ (sym n))

pub none_from_fits : (line : ℕ) (fs : List (List ℕ)) (k : ℕ) (rs : List Rule) (gs : List (List ℕ)) → From fs k gs → Fits rs gs → first_wrong line fs k rs ≡ None
unfolding first_wrong
none_from_fits line fs k [] gs at h = refl
none_from_fits line fs k (r ∷ rs) [] at h = absurd h
none_from_fits line fs k (r ∷ rs) (g ∷ gs) at h =
    by (wrong r (field fs k)) (sym (ap (wrong r) (from_here fs k g gs at) ∙ h.0)) (none_from_fits line fs (k + 1) rs gs (from_next fs k g gs at) h.1)
  where
    by : (o : Option Cause) → None ≡ o → first_wrong line fs (k + 1) rs ≡ None → onward line k (first_wrong line fs (k + 1) rs) o ≡ None
    by None w n = n
    by (Some c) w n = absurd (none-some c w)

pub numbers-from : (fs : List (List ℕ)) (k : ℕ) (gs : List (List ℕ)) → From fs k gs → numbers fs k (length gs) ≡ map value_of gs
numbers-from fs k [] at = refl
numbers-from fs k (g ∷ gs) at =
    λ i. ap value_of (from_here fs k g gs at) i ∷ numbers-from fs (k + 1) gs (from_next fs k g gs at) i

-- the taps of a step or a row
pub record Taps (n : ℕ) (gs : List (List ℕ)) : Type 0 where
  pub text : gs ≡ map signed_decimal (map value_of gs)
  pub limits : AllByRecursion LawfulTap (map value_of gs)
  pub count : length gs ≡ n

pub taps_from_fits : (n : ℕ) (gs : List (List ℕ)) → Fits (replicate n tap_rule) gs → Taps n gs
taps_from_fits zero [] h = record { text = refl; limits = tt; count = refl }
taps_from_fits zero (g ∷ gs) h = absurd h
taps_from_fits (suc n) [] h = absurd h
taps_from_fits (suc n) (g ∷ gs) h =
    let one = within-from-fits (negsuc 32767) (pos 32767) g tap_small h.0 in
    let rest = taps_from_fits n gs h.1 in
    record { text = λ i. one.text i ∷ rest.text i; limits = ((one.low, one.high), rest.limits); count = ap suc rest.count }

pub fits-from-taps : (zs : List ℤ) → AllByRecursion LawfulTap zs → Fits (replicate (length zs) tap_rule) (map signed_decimal zs)
fits-from-taps [] h = tt
fits-from-taps (z ∷ zs) h = (fits-from-within (negsuc 32767) (pos 32767) z tap_small h.0.0 h.0.1, fits-from-taps zs h.1)

pub taps_values : (zs : List ℤ) → AllByRecursion LawfulTap zs → map value_of (map signed_decimal zs) ≡ zs
taps_values [] h = refl
taps_values (z ∷ zs) h = λ i. within-value (negsuc 32767) (pos 32767) z tap_small h.0.0 h.0.1 i ∷ taps_values zs h.1 i
