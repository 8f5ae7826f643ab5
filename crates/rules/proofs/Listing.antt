-- The channels that a stage lists.
use Rattle.std.proofs.Common.{◌≡◌, ℕ, ◌<◌, ◌≤◌, true, not, ◌⊎◌, arith}
use Rattle.std.proofs.lemmas.Bool.Decides.{nat_tests}
use Rattle.stages.specs.Plain.{Plain}
use Rattle.stages.specs.Stages.{first_of, end_of}
use Rattle.rules.specs.Samples.{lists}

module _ (s : Plain) (c : ℕ) where
  pub listed_between : first_of s ≤ c → c < end_of s → lists s c ≡ true
  listed_between h k = grind (arith, nat_tests)

  pub between-listed : lists s c ≡ true → (first_of s ≤ c) × (c < end_of s)
  between-listed h = (grind (arith, nat_tests), grind (arith, nat_tests))

  pub unlisted-outside : not (lists s c) ≡ true → (c < first_of s) ⊎ (end_of s ≤ c)
  unlisted-outside h = grind (arith, nat_tests)
