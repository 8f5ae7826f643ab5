-- The colour transform in wrapping arithmetic is exact on sets within spans that are not too wide, forth and back.
use Rattle.std.proofs.Common.{◌≡◌, ℕ, ◌+◌, ◌*◌, ◌/◌, ◌<◌, ◌≤◌, Bool, true, false, List, length, ℤ, pos, ◌+ℤ◌, ◌*ℤ◌, sym, ap, ◌∙◌, subst, ⊎_elim, arith}
use Rattle.std.proofs.lemmas.Nat.{div-mul-add}
use Rattle.std.proofs.lemmas.Int.{ints}
use Rattle.std.proofs.lemmas.Bool.Decides.{nat_tests}
use Rattle.std.proofs.lemmas.Bool.{cases_eq, and_parts}
use Rattle.sets.specs.declared.bounds.Bounds.{Bounds}
use Rattle.sets.specs.declared.shape.Shape.{Shape}
use Rattle.sets.specs.Areas.{size_of, sample_at, In, Within}
use Rattle.stages.specs.Channels.{luma}
use Rattle.stages.specs.Floors.{floor_over}
use Rattle.stages.specs.Plain.{rct}
use Rattle.stages.specs.Ranges.{all_fit}
use Rattle.stages.specs.Stages.{bounds_made}
use Rattle.stages.proofs.Floors.{floor_mono}
use Rattle.rules.specs.Mixed.{rct_at, rct_samples}
use Rattle.rules.proofs.ByPlace.{lowered-in}
use Rattle.rules.proofs.Fits.{in_fits, all_fit_at}
use Rattle.rules.proofs.Places.{length-area, sample_area, same-areas}
use Rattle.transform.specs.declared.rct.Colours.{Colours}
use Rattle.transform.specs.Colours.{recoloured, RctTurned}
use Rattle.transform.proofs.ColourValues.{exact, AllFit, recoloured-exact, uncoloured_exact, uncoloured_only}
use Rattle.transform.proofs.Recolours.{colours, same-colours}

luma-in : (a b c : Bounds) (x y z : ℤ) → In a x → In b y → In c z → In (luma a b c) (floor_over (x +ℤ (pos 2 *ℤ y +ℤ z)) 2)
luma-in a b c x y z h k l = record { low = floor_mono _ _ 2 (omega (arith, ints)); high = floor_mono _ _ 2 (omega (arith, ints)) }

module _ (f : Shape) (first : ℕ) where
  -- the three samples at t, and what the rule makes of them
  abbrev three : List ℤ → ℕ → Colours
  three xs t = colours (sample_at f xs first t) (sample_at f xs (first + 1) t) (sample_at f xs (first + 2) t)

  abbrev exact_at : List ℤ → ℕ → Colours
  exact_at xs t = exact (sample_at f xs first t) (sample_at f xs (first + 1) t) (sample_at f xs (first + 2) t)

  abbrev Other : ℕ → Type 0
  Other c = (c ≡ first → ⊥) × (c ≡ first + 1 → ⊥) × (c ≡ first + 2 → ⊥)

  -- a channel is one of the three, or another
  by_channel : (P : ℕ → Type 0) → P first → P (first + 1) → P (first + 2) → (c : ℕ) → (Other c → P c) → P c
  by_channel P one two three c other =
      ⊎_elim (λ e. subst P (sym e) one)
      (λ no. ⊎_elim (λ e. subst P (sym e) two)
      (λ non. ⊎_elim (λ e. subst P (sym e) three) (λ none. other (no, non, none))
      (cases_eq c (first + 2))) (cases_eq c (first + 1))) (cases_eq c first)

  module _ (xs : List ℤ) (t : ℕ) where
    rct_three : colours (rct_at f first xs first t) (rct_at f first xs (first + 1) t) (rct_at f first xs (first + 2) t) ≡ exact_at xs t
    rct_three = same-colours _ _ _ _ _ _ (grind (arith, nat_tests)) (grind (arith, nat_tests)) (grind (arith, nat_tests))

    rct_other : (c : ℕ) → Other c → rct_at f first xs c t ≡ sample_at f xs c t
    rct_other c o = grind (arith, nat_tests)

  -- two samples at one address are of one channel
  same-channel : (c d t s : ℕ) → t < f.samples → s < f.samples → c * f.samples + t ≡ d * f.samples + s → c ≡ d
  same-channel c d t s h k e = sym (div-mul-add c f.samples t h) ∙ ap (λ a. a / f.samples) e ∙ div-mul-add d f.samples s k

  module _ (undo : Bool) (xs ys : List ℤ) (turn : RctTurned undo f first xs ys) (t : ℕ) (h : t < f.samples) where
    turned_three : three ys t ≡ recoloured undo (sample_at f xs first t) (sample_at f xs (first + 1) t) (sample_at f xs (first + 2) t)
    turned_three = same-colours _ _ _ _ _ _ (turn.first t h) (turn.second t h) (turn.third t h)

    turned_other : (c : ℕ) → Other c → sample_at f ys c t ≡ sample_at f xs c t
    turned_other c o = turn.kept (c * f.samples + t) (λ s k. (
      λ e. o.0 (same-channel c first t s h k e),
      λ e. o.1 (same-channel c (first + 1) t s h k e),
      λ e. o.2 (same-channel c (first + 2) t s h k e),
    ))

  module _ (fit : first + 3 ≤ f.channels) where
    -- an area is known by its three channels and the others
    same-coloured : (xs ys : List ℤ) → length xs ≡ size_of f → length ys ≡ size_of f → ((t : ℕ) → t < f.samples → three xs t ≡ three ys t) → ((c t : ℕ) → Other c → c < f.channels → t < f.samples → sample_at f xs c t ≡ sample_at f ys c t) → xs ≡ ys
    same-coloured xs ys l m e d =
        same-areas f xs ys l m (λ c t h k. by_channel (λ n. sample_at f xs n t ≡ sample_at f ys n t)
        (ap (λ v. v.first) (e t k)) (ap (λ v. v.second) (e t k)) (ap (λ v. v.third) (e t k)) c (λ o. d c t o h k))

    module _ (xs : List ℤ) (t : ℕ) (h : t < f.samples) where
      area_three : three (rct_samples f first xs) t ≡ exact_at xs t
      area_three =
          same-colours _ _ _ _ _ _
          (sample_area f (rct_at f first xs) first t (omega arith) h)
          (sample_area f (rct_at f first xs) (first + 1) t (omega arith) h)
          (sample_area f (rct_at f first xs) (first + 2) t (omega arith) h)
          ∙ rct_three xs t

      area_other : (c : ℕ) → Other c → c < f.channels → sample_at f (rct_samples f first xs) c t ≡ sample_at f xs c t
      area_other c o k = sample_area f (rct_at f first xs) c t k h ∙ rct_other xs t c o

    module _ (bs : List Bounds) (many : length bs ≡ f.channels) (narrow : all_fit bs ≡ true) (made : all_fit (bounds_made f (rct first) bs) ≡ true) where
      module _ (xs : List ℤ) (within : Within f bs xs) (t : ℕ) (h : t < f.samples) where
        three-fit : AllFit (three xs t)
        three-fit = record {
          first = in_fits _ _ (all_fit_at bs first (omega arith) narrow) (within.inside first t (omega arith) h);
          second = in_fits _ _ (all_fit_at bs (first + 1) (omega arith) narrow) (within.inside (first + 1) t (omega arith) h);
          third = in_fits _ _ (all_fit_at bs (first + 2) (omega arith) narrow) (within.inside (first + 2) t (omega arith) h);
        }

        exact-fit : AllFit (exact_at xs t)
        exact-fit =
            let a = within.inside first t (omega arith) h in
            let b = within.inside (first + 1) t (omega arith) h in
            let c = within.inside (first + 2) t (omega arith) h in
            let bounds = and_parts _ _ made in
            let rest = and_parts _ _ bounds.1 in
            record {
              first = in_fits _ _ bounds.0 (luma-in _ _ _ _ _ _ a b c);
              second = in_fits _ _ rest.0 (lowered-in _ _ _ _ c b);
              third = in_fits _ _ (and_parts _ _ rest.1).0 (lowered-in _ _ _ _ a b);
            }

      pub recolour_exact : (xs ys : List ℤ) → Within f bs xs → RctTurned false f first xs ys → ys ≡ rct_samples f first xs
      recolour_exact xs ys within turn =
          same-coloured ys (rct_samples f first xs) (turn.long ∙ within.long) (length-area f (rct_at f first xs))
          (λ t h. turned_three false xs ys turn t h ∙ recoloured-exact (sample_at f xs first t) (sample_at f xs (first + 1) t) (sample_at f xs (first + 2) t) (exact-fit xs within t h) ∙ sym (area_three xs t h))
          (λ c t o k h. turned_other false xs ys turn t h c o ∙ sym (area_other xs t h c o k))

      pub uncolour_exact : (ys zs : List ℤ) → length ys ≡ size_of f → RctTurned true f first ys zs → Within f bs zs → rct_samples f first zs ≡ ys
      uncolour_exact ys zs l turn within =
          same-coloured (rct_samples f first zs) ys (length-area f (rct_at f first zs)) l
          (λ t h.
          let old = turn.fits t h in
          area_three zs t h ∙ uncoloured_exact _ _ _ _ _ _ (record { first = old.0; second = old.1; third = old.2 }) (turned_three true ys zs turn t h) (exact-fit zs within t h))
          (λ c t o k h. area_other zs t h c o k ∙ turned_other true ys zs turn t h c o)

      pub uncolour_only : (xs ys zs : List ℤ) → Within f bs xs → rct_samples f first xs ≡ ys → RctTurned true f first ys zs → zs ≡ xs
      uncolour_only xs ys zs within e turn =
          let found = subst (λ v. RctTurned true f first v zs) (sym e) turn in
          same-coloured zs xs (found.long ∙ length-area f (rct_at f first xs)) within.long
          (λ t h.
          let old = area_three xs t h in
          turned_three true (rct_samples f first xs) zs found t h ∙ (λ i. recoloured true (old i).first (old i).second (old i).third) ∙ uncoloured_only _ _ _ (three-fit xs within t h))
          (λ c t o k h. turned_other true (rct_samples f first xs) zs found t h c o ∙ area_other xs t h c o k)
