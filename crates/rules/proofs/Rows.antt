-- Dependency rows keep the laws.
use Rattle.std.proofs.Common.{◌≡◌, ℕ, ◌+◌, ◌-◌, ◌<◌, ◌≤◌, true, cond, not, ◌&&◌, ltb, List, map, length, drop, ℤ, ◌-ℤ◌, sym, ap, ◌∙◌, subst, ⊎_elim, arith}
use Rattle.std.proofs.lemmas.List.FromFn.{length-map-range_with_len}
use Rattle.std.proofs.lemmas.List.{ext_get_or, length-take, length-drop}
use Rattle.std.proofs.lemmas.Bool.{and_parts, and_left, and_right, ltb-true, le-ltb, leb-true, cond-false}
use Rattle.std.specs.List.{range_with_len}
use Rattle.sets.specs.declared.bounds.Bounds.{Bounds}
use Rattle.sets.specs.declared.shape.Shape.{Shape}
use Rattle.sets.specs.Areas.{size_of, sample_at, In, Within}
use Rattle.sets.specs.Ordered.{no_bounds}
use Rattle.sets.specs.Sets.{in_limits}
use Rattle.stages.specs.Channels.{row_after, taken, dep_after, dep_made, dep_at as span_of}
use Rattle.stages.specs.Plain.{PlainRow, dep}
use Rattle.stages.specs.Ranges.{all_fit}
use Rattle.stages.specs.Stages.{fits_in}
use Rattle.stages.proofs.Parts.{part_at}
use Rattle.rack.specs.Laws.{SameSpans, SameSamples}
use Rattle.rules.specs.Mixed.{row_quotient, dep_at, dep_samples}
use Rattle.rules.specs.Samples.{lists, StageLaws}
use Rattle.rules.proofs.ByPlace.{cond-in, within-made, spans_kept, samples_kept, spans_agree, samples_agree}
use Rattle.rules.proofs.Listing.{listed_between, between-listed, unlisted-outside}
use Rattle.rules.proofs.Passing.{ran-injective}
use Rattle.rules.proofs.RowPasses.{rows_blind, rows_ran}
use Rattle.rules.proofs.RowReads.{quotient_same, row_in}

module _ (f : Shape) (first : ℕ) (rows : List PlainRow) (fit : first + (length rows + 1) ≤ f.channels) where
  abbrev n : ℕ
  n = length rows + 1

  dep_inside : (bs : List Bounds) (xs : List ℤ) → length bs ≡ f.channels → Within f bs xs → Within f (dep_after first rows bs) (dep_samples f first rows xs)
  dep_inside bs xs l w =
      within-made f (span_of first n rows bs) (dep_at f first rows xs) (length bs) l
      (λ c t h k. cond-in (ltb first c && ltb c (first + n)) _ _ _ _
      (λ u.
      let p = and_parts (ltb first c) (ltb c (first + n)) u in
      let low : first < c = ltb-true first c p.0 in
      let high : c < first + n = ltb-true c (first + n) p.1 in
      let here : first + (c - first) ≡ c = omega arith in
      subst (λ m. In (row_after rows (taken first n bs) (c - first)) (sample_at f xs m t -ℤ row_quotient f first rows xs (c - first) t)) here
      (row_in first rows f bs xs n (c - first) t (omega arith) fit k l w))
      (λ _. w.inside c t h k))

  dep_apart : (xs ys : List ℤ) → length xs ≡ size_of f → length ys ≡ size_of f → dep_samples f first rows xs ≡ dep_samples f first rows ys → xs ≡ ys
  dep_apart xs ys l m e =
      ran-injective (size_of f) _ (rows_blind f first rows (length rows) (omega arith)) xs ys l m
      (rows_ran f first rows xs l (omega arith) ∙ e ∙ sym (rows_ran f first rows ys m (omega arith)))

  -- a channel that is not listed keeps what it has
  dep_kept : {A : Type 0} (a b : A) (c : ℕ) → not (lists (dep first rows) c) ≡ true → b ≡ cond (ltb first c && ltb c (first + n)) a b
  dep_kept a b c u =
      sym (cond-false (ltb first c && ltb c (first + n)) a b
      (⊎_elim (λ low. and_left _ _ (le-ltb first c (omega arith))) (λ high. and_right _ _ (le-ltb c (first + n) high)) (unlisted-outside (dep first rows) c u)))

  -- where two lists of spans, or two areas, agree at the listed channels, what becomes of them does
  module _ (bs ds : List Bounds) (l : length bs ≡ f.channels) (m : length ds ≡ f.channels) (e : SameSpans f (lists (dep first rows)) bs ds) where
    same_taken : taken first n bs ≡ taken first n ds
    same_taken =
        ext_get_or no_bounds (taken first n bs) (taken first n ds) (simp (length-take, length-drop) (omega arith))
        (λ i h.
        let b : i < n = omega (arith, length-take n (drop first bs)) in
        part_at bs first n i b ∙ e (first + i) (omega arith) (listed_between (dep first rows) (first + i) (omega arith) (omega arith)) ∙ sym (part_at ds first n i b))

    dep_local_span : (c : ℕ) → c < f.channels → lists (dep first rows) c ≡ true → span_of first n rows bs c ≡ span_of first n rows ds c
    dep_local_span c h u = λ i. cond (ltb first c && ltb c (first + n)) (row_after rows (same_taken i) (c - first)) (e c h u i)

    dep_local_width : all_fit (dep_made first rows bs) ≡ all_fit (dep_made first rows ds)
    dep_local_width = ap (λ xs. all_fit (map (row_after rows xs) (range_with_len 1 (length rows)))) same_taken

  dep_local_sample : (xs ys : List ℤ) → SameSamples f (lists (dep first rows)) xs ys → (c t : ℕ) → c < f.channels → t < f.samples → lists (dep first rows) c ≡ true → dep_at f first rows xs c t ≡ dep_at f first rows ys c t
  dep_local_sample xs ys e c t h k u =
      let b = between-listed (dep first rows) c u in
      let q = quotient_same first rows f xs ys (c - first) t (λ j low high. e j t (omega arith) k (listed_between (dep first rows) j low (omega arith))) in
      λ i. cond (ltb first c && ltb c (first + n)) (e c t h k u i -ℤ q i) (e c t h k u i)

  dep_keeps : StageLaws f (dep first rows)
  dep_keeps = record {
    many = λ bs l. length-map-range_with_len (span_of first n rows bs) 0 (length bs) ∙ l;
    inside = dep_inside;
    apart = dep_apart;
    keeps_spans = λ bs l. spans_kept f _ (span_of first n rows bs) bs l (λ c h u. dep_kept _ _ c u);
    keeps_samples = λ xs l. samples_kept f _ (dep_at f first rows xs) xs (λ c t h k u. dep_kept _ _ c u);
    local_spans = λ bs ds l m e. spans_agree f _ (span_of first n rows bs) (span_of first n rows ds) (length bs) (length ds) l m (dep_local_span bs ds l m e);
    local_width = dep_local_width;
    local_samples = λ xs ys l m e. samples_agree f _ (dep_at f first rows xs) (dep_at f first rows ys) (dep_local_sample xs ys e);
  }

pub dep_laws : (f : Shape) (first : ℕ) (rows : List PlainRow) → in_limits f ≡ true → fits_in (dep first rows) f.channels ≡ true → StageLaws f (dep first rows)
dep_laws f first rows shape fit = dep_keeps f first rows (leb-true (first + (length rows + 1)) f.channels fit)
