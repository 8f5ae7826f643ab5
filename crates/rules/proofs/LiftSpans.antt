-- The spans after a lifting, channel by channel: unlisted channels keep theirs, and the others depend on listed channels alone.
use Rattle.std.proofs.Common.{◌≡◌, ℕ, zero, suc, ◌+◌, ◌-◌, ◌*◌, ◌^◌, ◌<◌, ◌≤◌, true, false, cond, not, leb, List, [], ◌++◌, length, sym, refl, ap, ◌∙◌, ⊎_elim, arith}
use Rattle.std.specs.List.{range_with_len, flat_map}
use Rattle.std.proofs.lemmas.Nat.{pow_pos, shr_le, div_below}
use Rattle.std.proofs.lemmas.List.FromFn.{length-map-range_with_len}
use Rattle.std.proofs.lemmas.Bool.{cond-false, and_from, and_left, not-true, le-leb, lt-leb, lt-ltb, cases_lt}
use Rattle.sets.specs.declared.bounds.Bounds.{Bounds}
use Rattle.sets.specs.declared.shape.Shape.{Shape}
use Rattle.sets.specs.Areas.{span_at}
use Rattle.stages.specs.declared.stage.Axis.{Axis}
use Rattle.stages.specs.declared.stage.Axis.TheVariants.{Time, Channel}
use Rattle.stages.specs.Lifting.{ended, walked, lists_channel, on_line, index_of, line_length, line_spans, line_ends, line_made, channel_after, channel_made, time_at, channel_at}
use Rattle.stages.specs.Lines.{first_index, index_count, extended}
use Rattle.stages.specs.Plain.{PlainLift, PlainStep, lift}
use Rattle.stages.specs.Ranges.{at, hull, all_fit}
use Rattle.stages.specs.Stages.{spans_after, bounds_made}
use Rattle.rack.specs.Laws.{SameSpans}
use Rattle.rules.specs.Samples.{lists}
use Rattle.rules.proofs.ByPlace.{map_same, span_made}
use Rattle.rules.proofs.LiftLines.{place_until}
use Rattle.rules.proofs.LiftPlaces.{along, listed_from, listed_below}

module _ (f : Shape) (l : PlainLift) (ss : List PlainStep) (bs : List Bounds) where
  pub time_after : (c : ℕ) → c < length bs → span_at (spans_after f (lift (along Time l) ss) bs) c ≡ time_at f l ss bs c
  time_after c h = span_made _ (length bs) c h

  pub channel-after : (c : ℕ) → c < length bs → span_at (spans_after f (lift (along Channel l) ss) bs) c ≡ channel_at l (line_ends l ss bs) bs c
  channel-after c h = span_made _ (length bs) c h

  many_along : (x : Axis) → length (spans_after f (lift (along x l) ss) bs) ≡ length bs
  many_along Time = length-map-range_with_len _ 0 (length bs)
  many_along Channel = length-map-range_with_len _ 0 (length bs)

  pub many_spans : length bs ≡ f.channels → length (spans_after f (lift l ss) bs) ≡ f.channels
  many_spans n = many_along l.axis ∙ n

  keeps_along : (x : Axis) (c : ℕ) → c < length bs → lists_channel l c ≡ false → span_at bs c ≡ span_at (spans_after f (lift (along x l) ss) bs) c
  keeps_along Time c h off = sym (time_after c h ∙ cond-false _ _ _ off)
  keeps_along Channel c h off = sym (channel-after c h ∙ cond-false _ _ _ (and_left _ _ off))

  pub keeps_spans : length bs ≡ f.channels → SameSpans f (λ c. not (lists (lift l ss) c)) bs (spans_after f (lift l ss) bs)
  keeps_spans n c h off = keeps_along l.axis c (omega arith) (not-true _ off)

-- Along the channels a line begins at place 0, so that its first index is 0, and index i is at place i * 2^v.
pub first_none : (v : ℕ) → first_index v 0 ≡ 0
first_none v = let z : first_index v 0 < 1 = div_below _ _ 1 (pow_pos v) (omega (arith, pow_pos v)) in omega arith

pub index_inside : (v n i : ℕ) → 1 ≤ n → i < index_count v 0 n → i * 2 ^ v < n
index_inside v n i h m = omega (arith, place_until v 0 n i h (omega (arith, first_none v)) (omega (arith, first_none v)))

pub listed_some : (l : PlainLift) (c : ℕ) → lists_channel l c ≡ true → 1 ≤ l.count
listed_some l c t = omega (arith, listed_from l c t, listed_below l c t)

-- lists that two functions join are the same where the functions are
joined_same : {X : Type 0} (g h : ℕ → List X) (a n : ℕ) → ((j : ℕ) → a ≤ j → j < a + n → g j ≡ h j) → flat_map g (range_with_len a n) ≡ flat_map h (range_with_len a n)
joined_same g h a zero e = refl
joined_same g h a (suc n) e = λ i. e a (omega arith) (omega arith) i ++ joined_same g h (a + 1) n (λ j l m. e j (omega arith) (omega arith)) i

-- what a line along the channels ends as, and what is made on the way, of the line's spans
abbrev ends_of : PlainLift → List PlainStep → List Bounds → List Bounds
ends_of l ss xs = cond (leb 2 (line_length l)) (ended (extended l.extension (line_length l)) l.parity ss xs) xs

abbrev made_of : PlainLift → List PlainStep → List Bounds → List Bounds
made_of l ss xs = cond (leb 2 (line_length l)) (walked (extended l.extension (line_length l)) l.parity ss xs) []

-- two lists of spans with the same rows at the listed channels, all of which there are
module _ (f : Shape) (l : PlainLift) (ss : List PlainStep) (fits : l.first + l.count ≤ f.channels) (bs ds : List Bounds)
    (n : length bs ≡ f.channels) (m : length ds ≡ f.channels) (same : SameSpans f (lists (lift l ss)) bs ds) where
  listed_same : (c : ℕ) → l.first ≤ c → c < l.first + l.count → at bs c ≡ at ds c
  listed_same c h k = same c (omega arith) (and_from _ _ (le-leb _ _ h) (lt-ltb _ _ k))

  line_same : 1 ≤ l.count → line_spans l bs ≡ line_spans l ds
  line_same h =
      map_same _ _ 0 (line_length l)
      (λ i z k. let p = index_inside l.level l.count i h (omega arith) in listed_same _ (omega arith) (omega arith))

  local_along : (x : Axis) (c : ℕ) → c < f.channels → lists_channel l c ≡ true → span_at (spans_after f (lift (along x l) ss) bs) c ≡ span_at (spans_after f (lift (along x l) ss) ds) c
  local_along Time c h t =
      time_after f l ss bs c (omega arith) ∙ ap (λ b. cond (lists_channel l c) (channel_after f l ss b) b) (same c h t) ∙ sym (time_after f l ss ds c (omega arith))
  local_along Channel c h t =
      let line = line_same (listed_some l c t) in
      channel-after f l ss bs c (omega arith)
      ∙ (λ i. cond (on_line l c) (hull (same c h t i) (at (ends_of l ss (line i)) (index_of l c))) (same c h t i))
      ∙ sym (channel-after f l ss ds c (omega arith))

  pub local_spans : SameSpans f (lists (lift l ss)) (spans_after f (lift l ss) bs) (spans_after f (lift l ss) ds)
  local_spans c h t = local_along l.axis c h t

  -- with no listed channel there is no line of two indices
  none_made : l.count < 1 → line_made l ss bs ≡ line_made l ss ds
  none_made h = let few = lt-leb 2 (line_length l) (omega (arith, shr_le (0 + l.count - 1) l.level)) in cond-false _ _ _ few ∙ sym (cond-false _ _ _ few)

  made_along : (x : Axis) → bounds_made f (lift (along x l) ss) bs ≡ bounds_made f (lift (along x l) ss) ds
  made_along Time = joined_same _ _ l.first l.count (λ c h k. ap (channel_made f l ss) (listed_same c h k))
  made_along Channel = ⊎_elim none_made (λ h. ap (made_of l ss) (line_same h)) (cases_lt l.count 1)

  pub local_width : all_fit (bounds_made f (lift l ss) bs) ≡ all_fit (bounds_made f (lift l ss) ds)
  local_width = ap all_fit (made_along l.axis)
