-- The taps of a line, one after another.
use Rattle.std.proofs.Common.{◌≡◌, ℕ, suc, ◌+◌, ◌-◌, ◌<◌, List, [], ◌∷◌, length, take, set, replicate, ℤ, Some, None, refl, ap, ◌∙◌, arith}
use Rattle.std.proofs.lemmas.List.FromFn.{map-range_with_len_more}
use Rattle.std.proofs.lemmas.List.{take_more_set}
use Rattle.recipe.specs.declared.fault.Fault.{Fault}
use Rattle.recipe.specs.Grammar.{numbers}
use Rattle.recipe.specs.Rules.{Rule, number, first_wrong}
use Rattle.recipe.proofs.Faults.{rule_right, rule_wrong}

replicate_next : (r : Rule) (n i : ℕ) → i < n → replicate (n - i) r ≡ r ∷ replicate (n - (i + 1)) r
replicate_next r n i h = let e : n - i ≡ suc (n - (i + 1)) = omega arith in ap (λ m. replicate m r) e

module _ (line : ℕ) (fs : List (List ℕ)) (from n i : ℕ) (r : Rule) (h : i < n) where
  pub rules_next : first_wrong line fs (from + i) (r ∷ []) ≡ None → first_wrong line fs (from + i) (replicate (n - i) r) ≡ first_wrong line fs (from + (i + 1)) (replicate (n - (i + 1)) r)
  rules_next right =
      let e : from + i + 1 ≡ from + (i + 1) = omega arith in
      ap (first_wrong line fs (from + i)) (replicate_next r n i h)
      ∙ rule_right line fs (from + i) r (replicate (n - (i + 1)) r) right
      ∙ ap (λ k. first_wrong line fs k (replicate (n - (i + 1)) r)) e

  pub rules_wrong : (f : Fault) → first_wrong line fs (from + i) (r ∷ []) ≡ Some f → first_wrong line fs (from + i) (replicate (n - i) r) ≡ Some f
  rules_wrong f wrong = ap (first_wrong line fs (from + i)) (replicate_next r n i h) ∙ rule_wrong line fs (from + i) r (replicate (n - (i + 1)) r) f wrong

-- one number more
pub numbers_more : (fs : List (List ℕ)) (from i : ℕ) (found : List ℤ) (z : ℤ) → i < length found → z ≡ number fs (from + i) → take i found ≡ numbers fs from i → take (i + 1) (set found i z) ≡ numbers fs from (i + 1)
numbers_more fs from i found z h e before = take_more_set found i z h ∙ (cc (map-range_with_len_more (number fs) from i (from + i) refl))
