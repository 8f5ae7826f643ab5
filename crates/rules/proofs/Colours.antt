-- The colour transform keeps the laws.
use Rattle.std.proofs.Common.{◌≡◌, ℕ, ◌+◌, ◌<◌, ◌≤◌, true, cond, not, eqb, List, [], ◌∷◌, length, ℤ, pos, ◌+ℤ◌, ◌-ℤ◌, ◌*ℤ◌, sym, refl, ap, ◌∙◌, subst, ⊎_elim, arith}
use Rattle.std.proofs.lemmas.List.FromFn.{length-map-range_with_len}
use Rattle.std.proofs.lemmas.Int.{ints}
use Rattle.std.proofs.lemmas.Bool.{cond-true, cond-false, eq-eqb, ne_eqb, leb-true, cases_eq}
use Rattle.sets.specs.declared.bounds.Bounds.{Bounds}
use Rattle.sets.specs.declared.shape.Shape.{Shape}
use Rattle.sets.specs.Areas.{size_of, sample_at, span_at, In, Within}
use Rattle.sets.specs.Sets.{in_limits}
use Rattle.stages.specs.Channels.{luma, rct_after, rct_made}
use Rattle.stages.specs.Floors.{floor_over}
use Rattle.stages.specs.Plain.{rct}
use Rattle.stages.specs.Ranges.{lowered, all_fit}
use Rattle.stages.specs.Stages.{fits_in}
use Rattle.stages.proofs.Floors.{floor_mono, is_floor}
use Rattle.rack.specs.Laws.{SameSpans, SameSamples}
use Rattle.rules.specs.Mixed.{rct_at, rct_samples}
use Rattle.rules.specs.Samples.{lists, StageLaws}
use Rattle.rules.proofs.Listing.{listed_between, unlisted-outside}
use Rattle.rules.proofs.ByPlace.{lowered-in, cond-in, within-made, spans_kept, samples_kept, spans_agree, samples_agree}
use Rattle.rules.proofs.Places.{sample_area, same-areas}

-- the floor lies in the bounds that are made for it
luma-in : (a b c : Bounds) (x y z : ℤ) → In a x → In b y → In c z → In (luma a b c) (floor_over (x +ℤ (pos 2 *ℤ y +ℤ z)) 2)
luma-in a b c x y z h k l = record { low = floor_mono _ _ 2 (omega (arith, ints)); high = floor_mono _ _ 2 (omega (arith, ints)) }

-- Three samples are found from what they become: given both differences, the sum is four times the middle sample
-- and a known rest, so that two middle samples with one floor differ by less than 1.
colours-apart : (x y z u v w : ℤ) → floor_over (x +ℤ (pos 2 *ℤ y +ℤ z)) 2 ≡ floor_over (u +ℤ (pos 2 *ℤ v +ℤ w)) 2 → z -ℤ y ≡ w -ℤ v → x -ℤ y ≡ u -ℤ v → (x ≡ u) × (y ≡ v) × (z ≡ w)
colours-apart x y z u v w e d c =
    let p = is_floor (x +ℤ (pos 2 *ℤ y +ℤ z)) 2 in
    let q = is_floor (u +ℤ (pos 2 *ℤ v +ℤ w)) 2 in
    let s : y ≡ v = omega (arith, ints, p.reached, p.greatest, q.reached, q.greatest) in
    (omega (arith, ints), s, omega (arith, ints))

-- what is chosen for three channels from the first on, and for the others
module _ {A : Type 0} (first : ℕ) (a b c d : A) where
  abbrev chosen : ℕ → A
  chosen n = cond (eqb n first) a (cond (eqb n (first + 1)) b (cond (eqb n (first + 2)) c d))

  chosen-first : (n : ℕ) → n ≡ first → chosen n ≡ a
  chosen-first n e = cond-true _ _ _ (eq-eqb n first e)

  chosen-second : (n : ℕ) → n ≡ first + 1 → chosen n ≡ b
  chosen-second n e = cond-false _ _ _ (ne_eqb n first (λ q. omega arith)) ∙ cond-true _ _ _ (eq-eqb n (first + 1) e)

  chosen-third : (n : ℕ) → n ≡ first + 2 → chosen n ≡ c
  chosen-third n e =
      cond-false _ _ _ (ne_eqb n first (λ q. omega arith)) ∙ cond-false _ _ _ (ne_eqb n (first + 1) (λ q. omega arith)) ∙
      cond-true _ _ _ (eq-eqb n (first + 2) e)

  chosen-other : (n : ℕ) → (n ≡ first → ⊥) → (n ≡ first + 1 → ⊥) → (n ≡ first + 2 → ⊥) → chosen n ≡ d
  chosen-other n h k l = cond-false _ _ _ (ne_eqb n first h) ∙ cond-false _ _ _ (ne_eqb n (first + 1) k) ∙ cond-false _ _ _ (ne_eqb n (first + 2) l)

-- what a channel becomes, from the spans or the samples of the three channels and its own
abbrev span_from : ℕ → Bounds → Bounds → Bounds → Bounds → ℕ → Bounds
span_from first a b c d n = chosen first (luma a b c) (lowered c b) (lowered a b) d n

abbrev sample_from : ℕ → ℤ → ℤ → ℤ → ℤ → ℕ → ℤ
sample_from first x y z w n = chosen first (floor_over (x +ℤ (pos 2 *ℤ y +ℤ z)) 2) (z -ℤ y) (x -ℤ y) w n

abbrev span_of : ℕ → List Bounds → ℕ → Bounds
span_of first bs n = span_from first (span_at bs first) (span_at bs (first + 1)) (span_at bs (first + 2)) (span_at bs n) n

module _ (f : Shape) (first : ℕ) (fit : first + 3 ≤ f.channels) where
  rct_inside : (bs : List Bounds) (xs : List ℤ) → length bs ≡ f.channels → Within f bs xs → Within f (rct_after first bs) (rct_samples f first xs)
  rct_inside bs xs l w =
      within-made f (span_of first bs) (rct_at f first xs) (length bs) l
      (λ c t h k.
      let i0 = w.inside first t (omega arith) k in
      let i1 = w.inside (first + 1) t (omega arith) k in
      let i2 = w.inside (first + 2) t (omega arith) k in
      cond-in (eqb c first) _ _ _ _ (λ _. luma-in _ _ _ _ _ _ i0 i1 i2)
      (λ _. cond-in (eqb c (first + 1)) _ _ _ _ (λ _. lowered-in _ _ _ _ i2 i1)
      (λ _. cond-in (eqb c (first + 2)) _ _ _ _ (λ _. lowered-in _ _ _ _ i0 i1) (λ _. w.inside c t h k))))

  -- the three channels of two areas are equal where their colours are
  colours-found : (xs ys : List ℤ) (t : ℕ) → ((c : ℕ) → c < f.channels → rct_at f first xs c t ≡ rct_at f first ys c t) → (sample_at f xs first t ≡ sample_at f ys first t) × (sample_at f xs (first + 1) t ≡ sample_at f ys (first + 1) t) × (sample_at f xs (first + 2) t ≡ sample_at f ys (first + 2) t)
  colours-found xs ys t same =
      colours-apart _ _ _ _ _ _
      (sym (chosen-first first _ _ _ _ first refl) ∙ same first (omega arith) ∙ chosen-first first _ _ _ _ first refl)
      (sym (chosen-second first _ _ _ _ (first + 1) refl) ∙ same (first + 1) (omega arith) ∙ chosen-second first _ _ _ _ (first + 1) refl)
      (sym (chosen-third first _ _ _ _ (first + 2) refl) ∙ same (first + 2) (omega arith) ∙ chosen-third first _ _ _ _ (first + 2) refl)

  sample_found : (xs ys : List ℤ) (c t : ℕ) → c < f.channels → ((c : ℕ) → c < f.channels → rct_at f first xs c t ≡ rct_at f first ys c t) → sample_at f xs c t ≡ sample_at f ys c t
  sample_found xs ys c t h same =
      let found = colours-found xs ys t same in
      let At : ℕ → Type 0 = λ n. sample_at f xs n t ≡ sample_at f ys n t in
      ⊎_elim (λ e. subst At (sym e) found.0)
      (λ no. ⊎_elim (λ e. subst At (sym e) found.1)
      (λ non. ⊎_elim (λ e. subst At (sym e) found.2)
      (λ none. sym (chosen-other first _ _ _ _ c no non none) ∙ same c h ∙ chosen-other first _ _ _ _ c no non none)
      (cases_eq c (first + 2))) (cases_eq c (first + 1))) (cases_eq c first)

  rct_apart : (xs ys : List ℤ) → length xs ≡ size_of f → length ys ≡ size_of f → rct_samples f first xs ≡ rct_samples f first ys → xs ≡ ys
  rct_apart xs ys l m e =
      same-areas f xs ys l m (λ c t h k. sample_found xs ys c t h (λ n j.
      sym (sample_area f (rct_at f first xs) n t j k) ∙ ap (λ zs. sample_at f zs n t) e ∙ sample_area f (rct_at f first ys) n t j k))

  -- a channel that is not listed keeps what it has
  rct_kept : {A : Type 0} (a b d e : A) (c : ℕ) → not (lists (rct first) c) ≡ true → e ≡ chosen first a b d e c
  rct_kept a b d e c u = let o = unlisted-outside (rct first) c u in sym (chosen-other first a b d e c (λ q. omega arith) (λ q. omega arith) (λ q. omega arith))

  -- where two lists of spans, or two areas, agree at the listed channels, what becomes of them does
  module _ (bs ds : List Bounds) (e : SameSpans f (lists (rct first)) bs ds) where
    same_span : (c : ℕ) → first ≤ c → c < first + 3 → span_at bs c ≡ span_at ds c
    same_span c h k = e c (omega arith) (listed_between (rct first) c h k)

    rct_local_span : (c : ℕ) → c < f.channels → lists (rct first) c ≡ true → span_of first bs c ≡ span_of first ds c
    rct_local_span c h u =
        let p = same_span first (omega arith) (omega arith) in
        let q = same_span (first + 1) (omega arith) (omega arith) in
        let r = same_span (first + 2) (omega arith) (omega arith) in
        λ i. span_from first (p i) (q i) (r i) (e c h u i) c

    rct_local_width : all_fit (rct_made first bs) ≡ all_fit (rct_made first ds)
    rct_local_width =
        let p = same_span first (omega arith) (omega arith) in
        let q = same_span (first + 1) (omega arith) (omega arith) in
        let r = same_span (first + 2) (omega arith) (omega arith) in
        λ i. all_fit (luma (p i) (q i) (r i) ∷ lowered (r i) (q i) ∷ lowered (p i) (q i) ∷ [])

  module _ (xs ys : List ℤ) (e : SameSamples f (lists (rct first)) xs ys) where
    same-sample : (c t : ℕ) → first ≤ c → c < first + 3 → t < f.samples → sample_at f xs c t ≡ sample_at f ys c t
    same-sample c t h k l = e c t (omega arith) l (listed_between (rct first) c h k)

    rct_local_sample : (c t : ℕ) → c < f.channels → t < f.samples → lists (rct first) c ≡ true → rct_at f first xs c t ≡ rct_at f first ys c t
    rct_local_sample c t h k u =
        let p = same-sample first t (omega arith) (omega arith) k in
        let q = same-sample (first + 1) t (omega arith) (omega arith) k in
        let r = same-sample (first + 2) t (omega arith) (omega arith) k in
        λ i. sample_from first (p i) (q i) (r i) (e c t h k u i) c

  rct_keeps : StageLaws f (rct first)
  rct_keeps = record {
    many = λ bs l. length-map-range_with_len (span_of first bs) 0 (length bs) ∙ l;
    inside = rct_inside;
    apart = rct_apart;
    keeps_spans = λ bs l. spans_kept f _ (span_of first bs) bs l (λ c h u. rct_kept _ _ _ _ c u);
    keeps_samples = λ xs l. samples_kept f _ (rct_at f first xs) xs (λ c t h k u. rct_kept _ _ _ _ c u);
    local_spans = λ bs ds l m e. spans_agree f _ (span_of first bs) (span_of first ds) (length bs) (length ds) l m (rct_local_span bs ds e);
    local_width = λ bs ds l m e. rct_local_width bs ds e;
    local_samples = λ xs ys l m e. samples_agree f _ (rct_at f first xs) (rct_at f first ys) (rct_local_sample xs ys e);
  }

pub rct_laws : (f : Shape) (first : ℕ) → in_limits f ≡ true → fits_in (rct first) f.channels ≡ true → StageLaws f (rct first)
rct_laws f first shape fit = rct_keeps f first (leb-true (first + 3) f.channels fit)
