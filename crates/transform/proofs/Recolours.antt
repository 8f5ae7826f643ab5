-- Three channels recoloured one instant after the other.
use Rattle.std.proofs.Common.{◌≡◌, ℕ, ◌+◌, ◌<◌, ◌≤◌, Bool, ◌≢◌, List, length, set, ℤ, refl, ap, ◌∙◌, subst, arith, w32, SFits, below_more}
use Rattle.std.proofs.lemmas.Grind.{common_steps}
use Rattle.std.proofs.lemmas.List.{length-set}
use Rattle.sets.specs.Areas.{at}
use Rattle.transform.specs.declared.rct.Colours.{Colours}
use Rattle.transform.specs.Colours.{recoloured, coloured_at, Recoloured}

abbrev pub colours : ℤ → ℤ → ℤ → Colours
colours a b c = record { first = a; second = b; third = c }

pub same-colours : (a b c d e f : ℤ) → a ≡ d → b ≡ e → c ≡ f → colours a b c ≡ colours d e f
same-colours a b c d e f h k l = λ i. colours (h i) (k i) (l i)

-- three places of a list written to
module _ (ys : List ℤ) (i j k : ℕ) (new : Colours) where
  abbrev pub written : List ℤ
  written = set (set (set ys i new.first) j new.second) k new.third

  length-written : length written ≡ length ys
  length-written = simp length-set

  kept_written : (a : ℕ) → a ≢ i → a ≢ j → a ≢ k → at written a ≡ at ys a
  kept_written a h l m = grind (arith, common_steps)

  module _ (below-j : i < j) (below-k : j < k) (inside : k < length ys) where
    first_written : at written i ≡ new.first
    first_written = grind (arith, common_steps)

    second_written : at written j ≡ new.second
    second_written = grind (arith, common_steps)

    third_written : at written k ≡ new.third
    third_written = grind (arith, common_steps)

module _ (undo : Bool) (p q r : ℕ) (xs : List ℤ) where
  pub recoloured-none : Recoloured undo p q r 0 xs xs
  recoloured-none = record {
    long = refl;
    fits = λ t h. absurd (omega arith);
    first = λ t h. absurd (omega arith);
    second = λ t h. absurd (omega arith);
    third = λ t h. absurd (omega arith);
    kept = λ a h. refl;
  }

  module _ (n t : ℕ) (ys : List ℤ) (one : p + n ≤ q) (two : q + n ≤ r) (three : r + n ≤ length xs) (below : t < n) (so_far : Recoloured undo p q r t xs ys) where
    -- what is read at t stood there from the start
    old_first : at ys (p + t) ≡ at xs (p + t)
    old_first = so_far.kept (p + t) (λ s h. (λ e. omega arith, λ e. omega arith, λ e. omega arith))

    old_second : at ys (q + t) ≡ at xs (q + t)
    old_second = so_far.kept (q + t) (λ s h. (λ e. omega arith, λ e. omega arith, λ e. omega arith))

    old_third : at ys (r + t) ≡ at xs (r + t)
    old_third = so_far.kept (r + t) (λ s h. (λ e. omega arith, λ e. omega arith, λ e. omega arith))

    pub recoloured-more : (new : Colours) → SFits w32 (at ys (p + t)) → SFits w32 (at ys (q + t)) → SFits w32 (at ys (r + t)) → new ≡ coloured_at undo p q r ys t → Recoloured undo p q r (t + 1) xs (written ys (p + t) (q + t) (r + t) new)
    recoloured-more new f g h e =
        let inside : r + t < length ys = omega (arith, so_far.long) in
        let now : new ≡ coloured_at undo p q r xs t = e ∙ (λ i. recoloured undo (old_first i) (old_second i) (old_third i)) in
        let keep : (a : ℕ) → a ≢ p + t → a ≢ q + t → a ≢ r + t → at (written ys (p + t) (q + t) (r + t) new) a ≡ at ys a = kept_written ys (p + t) (q + t) (r + t) new in
        record {
          long = length-written ys (p + t) (q + t) (r + t) new ∙ so_far.long;
          fits = below_more _ _ so_far.fits (subst (SFits w32) old_first f, subst (SFits w32) old_second g, subst (SFits w32) old_third h);
          first = below_more _ _ (λ s l. keep (p + s) (λ d. omega arith) (λ d. omega arith) (λ d. omega arith) ∙ so_far.first s l) (first_written ys (p + t) (q + t) (r + t) new (omega arith) (omega arith) inside ∙ ap (λ k. k.first) now);
          second = below_more _ _ (λ s l. keep (q + s) (λ d. omega arith) (λ d. omega arith) (λ d. omega arith) ∙ so_far.second s l) (second_written ys (p + t) (q + t) (r + t) new (omega arith) (omega arith) inside ∙ ap (λ k. k.second) now);
          third = below_more _ _ (λ s l. keep (r + s) (λ d. omega arith) (λ d. omega arith) (λ d. omega arith) ∙ so_far.third s l) (third_written ys (p + t) (q + t) (r + t) new (omega arith) (omega arith) inside ∙ ap (λ k. k.third) now);
          kept = λ a miss. let last = miss t (omega arith) in keep a last.0 last.1 last.2 ∙ so_far.kept a (λ s l. miss s (omega arith));
        }
