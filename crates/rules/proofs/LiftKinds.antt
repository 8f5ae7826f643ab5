-- The kinds of lines: what lifting does to samples on each.
use Rattle.std.proofs.Common.{◌≡◌, ◌≤◌, true, false, leb, List, ℤ, ◌∙◌, ⊎_elim}
use Rattle.std.proofs.lemmas.Bool.{cases_Bool, cond-true, cond-false, leb-true}
use Rattle.sets.specs.declared.shape.Shape.{Shape}
use Rattle.sets.specs.Areas.{area_of}
use Rattle.stages.specs.Plain.{PlainLift, PlainStep}
use Rattle.rules.specs.Lifted.{count_of, lift_passes, lone_odd, doubled_at, lift_samples}
use Rattle.rules.specs.Passes.{ran}

-- a line of two indices or more, of just one that is odd, or one that stays as it is
pub data LineKind (f : Shape) (l : PlainLift) : Type 0 where
  many : 2 ≤ count_of f l → leb 2 (count_of f l) ≡ true → LineKind f l
  lone : leb 2 (count_of f l) ≡ false → lone_odd f l ≡ true → LineKind f l
  still : leb 2 (count_of f l) ≡ false → lone_odd f l ≡ false → LineKind f l

pub line-kind : (f : Shape) (l : PlainLift) → LineKind f l
line-kind f l =
    ⊎_elim (λ t. many (leb-true 2 (count_of f l) t) t)
    (λ t. ⊎_elim (λ o. lone t o) (λ o. still t o) (cases_Bool (lone_odd f l)))
    (cases_Bool (leb 2 (count_of f l)))

module _ (f : Shape) (l : PlainLift) (ss : List PlainStep) (xs : List ℤ) (t : leb 2 (count_of f l) ≡ false) where
  pub lift_lone : lone_odd f l ≡ true → lift_samples f l ss xs ≡ area_of f (doubled_at f l xs)
  lift_lone o = cond-false _ _ _ t ∙ cond-true _ _ _ o

  pub lift_still : lone_odd f l ≡ false → lift_samples f l ss xs ≡ xs
  lift_still o = cond-false _ _ _ t ∙ cond-false _ _ _ o

pub lift_many : (f : Shape) (l : PlainLift) (ss : List PlainStep) (xs : List ℤ) → leb 2 (count_of f l) ≡ true → lift_samples f l ss xs ≡ ran (lift_passes f l l.parity ss) xs
lift_many f l ss xs t = cond-true _ _ _ t
