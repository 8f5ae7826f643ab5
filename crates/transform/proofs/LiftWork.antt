-- A lifting on an area that it is admitted to, applied and undone, by how many indices its lines have.
use Rattle.std.proofs.Common.{◌≡◌, ℕ, ◌+◌, ◌/◌, ◌%◌, ◌<◌, ◌≤◌, true, false, leb, Option, Some, None, is_some, List, length, ℤ, pos, ◌+ℤ◌, sym, refl, ap, ◌∙◌, subst, ⊎_elim, arith, w32, SFits}
use Rattle.std.proofs.lemmas.List.{ext_get_or}
use Rattle.std.proofs.lemmas.Int.{ints, int_wrap_fits}
use Rattle.std.proofs.lemmas.Bool.{cases_Bool, cond-true, cond-false, leb-true}
use Rattle.sets.specs.declared.shape.Shape.{Shape}
use Rattle.sets.specs.declared.span_list.SpanList.{SpanList}
use Rattle.sets.specs.Areas.{at, size_of, Within}
use Rattle.sets.specs.Sets.{rows_of}
use Rattle.stages.specs.Plain.{PlainLift, PlainStep, lift}
use Rattle.rules.specs.Lifted.{count_of, touched, lone_odd, doubled_at, lift_passes, lift_samples}
use Rattle.rules.specs.Passes.{Fitting}
use Rattle.rules.proofs.LiftKinds.{lift_many, lift_lone}
use Rattle.rules.proofs.LiftReads.{lifts_blind}
use Rattle.rules.proofs.LiftSpansFitting.{lifts_fitting, lone_fitting}
use Rattle.rules.proofs.Places.{length-area, at-area, at-sample, channel_below, time_below}
use Rattle.transform.specs.Lone.{Doubled, Halved, NoHalf}
use Rattle.transform.specs.Turned.{Forth, Back}
use Rattle.transform.specs.Work.{Workable, OnlySource, NoSource, TakenBack}
use Rattle.transform.proofs.Finding.{source_by_passes}
use Rattle.transform.proofs.Narrow.{rows_fit}
use Rattle.transform.proofs.Turning.{forth_exact}

module _ (f : Shape) (l : PlainLift) (ss : List PlainStep) (s : SpanList) (w : Workable f (lift l ss) (rows_of s)) where
  pub lift_room : l.first + l.count ≤ f.channels
  lift_room = leb-true (l.first + l.count) f.channels w.fit

  -- two indices or more: the steps
  module _ (m : leb 2 (count_of f l) ≡ true) where
    pub many_indices : 2 ≤ count_of f l
    many_indices = leb-true 2 (count_of f l) m

    fitting : (xs : List ℤ) → Within f (rows_of s) xs → Fitting (lift_passes f l l.parity ss) xs
    fitting xs inside = lifts_fitting f l ss lift_room many_indices (rows_of s) xs w.many (rows_fit s) w.made inside

    pub steps_applied : (xs ys : List ℤ) → Within f (rows_of s) xs → Forth (lift_passes f l l.parity ss) xs ys → ys ≡ lift_samples f l ss xs
    steps_applied xs ys inside forth = forth_exact _ xs ys forth (fitting xs inside) ∙ sym (lift_many f l ss xs m)

    pub steps_source : (ys zs : List ℤ) → length ys ≡ size_of f → Back (lift_passes f l l.parity ss) ys zs → OnlySource f (lift l ss) (rows_of s) ys zs
    steps_source ys zs long back = source_by_passes f (lift l ss) (rows_of s) ys zs _ long (lifts_blind f l lift_room many_indices l.parity ss) fitting (λ xs _. lift_many f l ss xs m) back

  -- just one index, and that one odd: the doubling, by place
  module _ (m : leb 2 (count_of f l) ≡ false) (o : lone_odd f l ≡ true) where
    doubled-hit : (xs : List ℤ) (a : ℕ) → a < size_of f → touched f l (a / f.samples) (a % f.samples) ≡ true → at (lift_samples f l ss xs) a ≡ at xs a +ℤ at xs a
    doubled-hit xs a h t =
        ap (λ ys. at ys a) (lift_lone f l ss xs m o) ∙ at-area f (doubled_at f l xs) a h ∙ cond-true _ _ _ t ∙ (λ i. at-sample f a xs i +ℤ at-sample f a xs i)

    doubled-kept : (xs : List ℤ) (a : ℕ) → a < size_of f → touched f l (a / f.samples) (a % f.samples) ≡ false → at (lift_samples f l ss xs) a ≡ at xs a
    doubled-kept xs a h t = ap (λ ys. at ys a) (lift_lone f l ss xs m o) ∙ at-area f (doubled_at f l xs) a h ∙ cond-false _ _ _ t ∙ at-sample f a xs

    long_after : (xs : List ℤ) → length (lift_samples f l ss xs) ≡ size_of f
    long_after xs = ap length (lift_lone f l ss xs m o) ∙ length-area f (doubled_at f l xs)

    -- two areas of the set's length are the same where they agree at touched and at other samples
    same-by-touch : (xs ys : List ℤ) → length xs ≡ size_of f → length ys ≡ size_of f
        → ((a : ℕ) → a < size_of f → touched f l (a / f.samples) (a % f.samples) ≡ true → at xs a ≡ at ys a)
        → ((a : ℕ) → a < size_of f → touched f l (a / f.samples) (a % f.samples) ≡ false → at xs a ≡ at ys a) → xs ≡ ys
    same-by-touch xs ys p q hit kept =
        let here : (a : ℕ) → a < size_of f → at xs a ≡ at ys a = λ a h. ⊎_elim (hit a h) (kept a h) (cases_Bool (touched f l (a / f.samples) (a % f.samples))) in
        ext_get_or (pos 0) xs ys (p ∙ sym q) (λ a h. here a (omega arith))

    double_fits : (xs : List ℤ) → Within f (rows_of s) xs → (a : ℕ) → a < size_of f → touched f l (a / f.samples) (a % f.samples) ≡ true → SFits w32 (at xs a +ℤ at xs a)
    double_fits xs inside a h t =
        subst (λ x. SFits w32 (x +ℤ x)) (at-sample f a xs) (lone_fitting f l ss o (rows_of s) xs w.made inside (a / f.samples) (a % f.samples) (channel_below f a h) (time_below f a h) t)

    pub doubling_applied : (xs ys : List ℤ) → Within f (rows_of s) xs → Doubled f l xs ys → ys ≡ lift_samples f l ss xs
    doubling_applied xs ys inside d =
        same-by-touch ys (lift_samples f l ss xs) (d.long ∙ inside.long) (long_after xs)
        (λ a h t. let long = inside.long in (d.hit a (omega arith) t).1 ∙ int_wrap_fits w32 _ (double_fits xs inside a h t) ∙ sym (doubled-hit xs a h t))
        (λ a h t. d.kept a t ∙ sym (doubled-kept xs a h t))

    same_half : (x y : ℤ) → x +ℤ x ≡ y +ℤ y → x ≡ y
    same_half x y e = omega (arith, ints)

    pub halving_source : (ys zs : List ℤ) → length ys ≡ size_of f → Halved f l ys zs → OnlySource f (lift l ss) (rows_of s) ys zs
    halving_source ys zs long d = record {
      gives = λ _. same-by-touch (lift_samples f l ss zs) ys (long_after zs) long
          (λ a h t. doubled-hit zs a h t ∙ (d.hit a (omega arith) t).1)
          (λ a h t. doubled-kept zs a h t ∙ d.kept a t);
      only = λ xs inside gives. same-by-touch zs xs (d.long ∙ long) inside.long
          (λ a h t. same_half (at zs a) (at xs a) ((d.hit a (omega arith) t).1 ∙ sym (ap (λ v. at v a) gives) ∙ doubled-hit xs a h t))
          (λ a h t. d.kept a t ∙ sym (ap (λ v. at v a) gives) ∙ doubled-kept xs a h t);
    }

    pub odd_foreign : (ys : List ℤ) → length ys ≡ size_of f → NoHalf f l ys → NoSource f (lift l ss) (rows_of s) ys
    odd_foreign ys long n xs inside gives =
        let h : n.address < size_of f = omega (arith, n.below) in
        n.odd (at xs n.address) (sym (doubled-hit xs n.address h n.hit) ∙ ap (λ v. at v n.address) gives)

-- a doubling undone, or refused at an odd sample
pub halved_back : (f : Shape) (l : PlainLift) (ss : List PlainStep) → leb 2 (count_of f l) ≡ false → lone_odd f l ≡ true → (ys zs : List ℤ) → length ys ≡ size_of f →
    (r : Option Unit) → (r ≡ Some tt → Halved f l ys zs) → (r ≡ None → NoHalf f l ys) → TakenBack f (lift l ss) ys (is_some r) zs
halved_back f l ss m o ys zs long (Some tt) even odd = λ s w. halving_source f l ss s w m o ys zs long (even refl)
halved_back f l ss m o ys zs long None even odd = λ s w. odd_foreign f l ss s w m o ys long (odd refl)
