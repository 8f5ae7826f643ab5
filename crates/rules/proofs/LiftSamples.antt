-- The laws of lifting on samples: it is injective, keeps the channels that it does not list, and depends on no others than those it lists.
use Rattle.std.proofs.Common.{◌≡◌, ℕ, ◌+◌, ◌/◌, ◌%◌, ◌<◌, ◌≤◌, Bool, true, false, cond, not, List, [], ◌∷◌, length, ℤ, ◌+ℤ◌, sym, refl, ap, ◌∙◌, subst, ⊎_elim, arith}
use Rattle.std.proofs.lemmas.Int.{ints}
use Rattle.std.proofs.lemmas.Bool.{cases_Bool, cond-false, and_left, not-true}
use Rattle.sets.specs.declared.shape.Shape.{Shape}
use Rattle.sets.specs.Areas.{at, sample_at, area_of, size_of}
use Rattle.rack.specs.Laws.{SameSamples}
use Rattle.stages.specs.declared.stage.Parity.{Parity}
use Rattle.stages.specs.Lifting.{other, lists_channel}
use Rattle.stages.specs.Plain.{PlainLift, PlainStep, lift}
use Rattle.stages.specs.Quotients.{quotient_of}
use Rattle.rules.specs.Lifted.{count_of, touched, lift_pass, lift_passes, doubled_at, lift_samples}
use Rattle.rules.specs.Passes.{passed, ran}
use Rattle.rules.specs.Samples.{lists, samples_after}
use Rattle.rules.proofs.LiftKinds.{many, lone, still, line-kind, lift_many, lift_lone, lift_still}
use Rattle.rules.proofs.LiftReads.{reads_same, lifts_blind}
use Rattle.rules.proofs.Passing.{length-passed, at-passed-hit, at-passed-kept, length-ran, ran-injective}
use Rattle.rules.proofs.Places.{address_below, address_channel, channel_below, time_below, at-sample, length-area, sample_area, same-areas}

-- areas that agree at channels that p tells, by address
pub samples_at : (f : Shape) (p : ℕ → Bool) (xs ys : List ℤ) → SameSamples f p xs ys → (a : ℕ) → a < size_of f → p (a / f.samples) ≡ true → at xs a ≡ at ys a
samples_at f p xs ys same a h t = sym (at-sample f a xs) ∙ same (a / f.samples) (a % f.samples) (channel_below f a h) (time_below f a h) t ∙ at-sample f a ys

pub samples_from : (f : Shape) (p : ℕ → Bool) (xs ys : List ℤ) → ((a : ℕ) → a < size_of f → p (a / f.samples) ≡ true → at xs a ≡ at ys a) → SameSamples f p xs ys
samples_from f p xs ys same c t h k on = same _ (address_below f c t h k) (ap p (address_channel f c t h k) ∙ on)

pub lift_length : (f : Shape) (l : PlainLift) (ss : List PlainStep) (xs : List ℤ) → length xs ≡ size_of f → length (lift_samples f l ss xs) ≡ length xs
lift_length f l ss xs e = elim (line-kind f l) [
  | many h t ↦ ap length (lift_many f l ss xs t) ∙ length-ran (lift_passes f l l.parity ss) xs
  | lone t o ↦ ap length (lift_lone f l ss xs t o) ∙ length-area f (doubled_at f l xs) ∙ sym e
  | still t o ↦ ap length (lift_still f l ss xs t o)
]

-- a doubled number tells the number
doubled-injective : (b : Bool) (x y : ℤ) → cond b (x +ℤ x) x ≡ cond b (y +ℤ y) y → x ≡ y
doubled-injective true x y e = omega (arith, ints)
doubled-injective false x y e = e

pub lift_apart : (f : Shape) (l : PlainLift) (ss : List PlainStep) → l.first + l.count ≤ f.channels → (xs ys : List ℤ) →
    length xs ≡ size_of f → length ys ≡ size_of f → lift_samples f l ss xs ≡ lift_samples f l ss ys → xs ≡ ys
lift_apart f l ss fits xs ys g h e = elim (line-kind f l) [
  | many n t ↦ ran-injective (size_of f) (lift_passes f l l.parity ss) (lifts_blind f l fits n l.parity ss) xs ys g h (sym (lift_many f l ss xs t) ∙ e ∙ lift_many f l ss ys t)
  | lone t o ↦
      let same : area_of f (doubled_at f l xs) ≡ area_of f (doubled_at f l ys) = sym (lift_lone f l ss xs t o) ∙ e ∙ lift_lone f l ss ys t o in
      same-areas f xs ys g h (λ c k a b. doubled-injective (touched f l c k) _ _
      (sym (sample_area f (doubled_at f l xs) c k a b) ∙ ap (λ zs. sample_at f zs c k) same ∙ sample_area f (doubled_at f l ys) c k a b))
  | still t o ↦ sym (lift_still f l ss xs t o) ∙ e ∙ lift_still f l ss ys t o
]

-- the steps keep what stands in other channels
passes_keep : (f : Shape) (l : PlainLift) (m : Parity) (ss : List PlainStep) (xs : List ℤ) → length xs ≡ size_of f →
    (a : ℕ) → a < size_of f → lists_channel l (a / f.samples) ≡ false → at xs a ≡ at (ran (lift_passes f l m ss) xs) a
unfolding lift_passes ran
passes_keep f l m [] xs e a h off = refl
passes_keep f l m (s ∷ ss) xs e a h off =
    let p = lift_pass f l m s in
    let kept : p.hits a ≡ false = and_left _ _ (and_left _ _ off) in
    sym (at-passed-kept p xs a (omega arith) kept) ∙ passes_keep f l (other m) ss (passed p xs) (length-passed p xs ∙ e) a h off

pub lift_keeps_samples : (f : Shape) (l : PlainLift) (ss : List PlainStep) (xs : List ℤ) → length xs ≡ size_of f →
    SameSamples f (λ c. not (lists (lift l ss) c)) xs (samples_after f (lift l ss) xs)
lift_keeps_samples f l ss xs e = elim (line-kind f l) [
  | many n t ↦ subst (SameSamples f (λ c. not (lists (lift l ss) c)) xs) (sym (lift_many f l ss xs t))
      (samples_from f _ xs _ (λ a h off. passes_keep f l l.parity ss xs e a h (not-true _ off)))
  | lone t o ↦ subst (SameSamples f (λ c. not (lists (lift l ss) c)) xs) (sym (lift_lone f l ss xs t o))
      (λ c k h g off. sym (sample_area f (doubled_at f l xs) c k h g ∙ cond-false (touched f l c k) _ _ (and_left _ _ (not-true _ off))))
  | still t o ↦ subst (SameSamples f (λ c. not (lists (lift l ss) c)) xs) (sym (lift_still f l ss xs t o)) (λ c k h g off. refl)
]

-- two areas that agree at the channels of the lifting still do after the steps
module _ (f : Shape) (l : PlainLift) (fits : l.first + l.count ≤ f.channels) (many : 2 ≤ count_of f l) where
  abbrev Alike : List ℤ → List ℤ → Type 0
  Alike xs ys = (a : ℕ) → a < size_of f → lists_channel l (a / f.samples) ≡ true → at xs a ≡ at ys a

  pass-alike : (m : Parity) (s : PlainStep) (xs ys : List ℤ) → length xs ≡ size_of f → length ys ≡ size_of f → Alike xs ys →
      Alike (passed (lift_pass f l m s) xs) (passed (lift_pass f l m s) ys)
  pass-alike m s xs ys d e same a h on =
      let p = lift_pass f l m s in
      let reads : p.amount xs a ≡ p.amount ys a =
      ap (quotient_of s.taps s.residue s.exponent)
      (reads_same f l fits many m s xs ys (a / f.samples) (a % f.samples) (time_below f a h) on (λ i b r q. same b r.below r.listed)) in
      ⊎_elim
      (λ t. at-passed-hit p xs a (omega arith) t ∙ (λ i. same a h on i +ℤ reads i) ∙ sym (at-passed-hit p ys a (omega arith) t))
      (λ t. at-passed-kept p xs a (omega arith) t ∙ same a h on ∙ sym (at-passed-kept p ys a (omega arith) t))
      (cases_Bool (p.hits a))

  passes_alike : (m : Parity) (ss : List PlainStep) (xs ys : List ℤ) → length xs ≡ size_of f → length ys ≡ size_of f → Alike xs ys →
      Alike (ran (lift_passes f l m ss) xs) (ran (lift_passes f l m ss) ys)
  unfolding lift_passes ran
  passes_alike m [] xs ys d e same = same
  passes_alike m (s ∷ ss) xs ys d e same =
      let p = lift_pass f l m s in
      passes_alike (other m) ss (passed p xs) (passed p ys) (length-passed p xs ∙ d) (length-passed p ys ∙ e) (pass-alike m s xs ys d e same)

pub lift_local_samples : (f : Shape) (l : PlainLift) (ss : List PlainStep) → l.first + l.count ≤ f.channels → (xs ys : List ℤ) →
    length xs ≡ size_of f → length ys ≡ size_of f → SameSamples f (lists (lift l ss)) xs ys →
    SameSamples f (lists (lift l ss)) (samples_after f (lift l ss) xs) (samples_after f (lift l ss) ys)
lift_local_samples f l ss fits xs ys d e same = elim (line-kind f l) [
  | many n t ↦ joined (lift_many f l ss xs t) (lift_many f l ss ys t)
      (samples_from f (lists_channel l) _ _ (passes_alike f l fits n l.parity ss xs ys d e (samples_at f (lists_channel l) xs ys same)))
  | lone t o ↦ joined (lift_lone f l ss xs t o) (lift_lone f l ss ys t o)
      (λ c k h g on. sample_area f (doubled_at f l xs) c k h g
      ∙ ap (λ z. cond (touched f l c k) (z +ℤ z) z) (same c k h g on)
      ∙ sym (sample_area f (doubled_at f l ys) c k h g))
  | still t o ↦ joined (lift_still f l ss xs t o) (lift_still f l ss ys t o) same
]
  where
    joined : {us vs : List ℤ} → lift_samples f l ss xs ≡ us → lift_samples f l ss ys ≡ vs → SameSamples f (lists (lift l ss)) us vs →
        SameSamples f (lists (lift l ss)) (lift_samples f l ss xs) (lift_samples f l ss ys)
    joined p q w = λ c k h g on. ap (λ zs. sample_at f zs c k) p ∙ w c k h g on ∙ sym (ap (λ zs. sample_at f zs c k) q)
