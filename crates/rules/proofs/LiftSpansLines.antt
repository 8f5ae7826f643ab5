-- The slots of samples: along the samples of a channel one for each parity, and along the channels one for each index.
use Rattle.std.proofs.Common.{◌≡◌, ℕ, zero, suc, ◌+◌, ◌-◌, ◌*◌, ◌/◌, ◌%◌, ◌^◌, ◌<◌, ◌≤◌, true, eqb, List, [], ◌∷◌, ℤ, pos, ◌-ℤ◌, sym, refl, ap, ◌∙◌, zero-add, arith}
use Rattle.std.proofs.lemmas.Nat.{div-add-mod'}
use Rattle.std.proofs.lemmas.List.FromFn.{length-map-range_with_len}
use Rattle.std.proofs.lemmas.Int.{ints}
use Rattle.std.proofs.lemmas.Bool.{and_parts, eqb-true}
use Rattle.sets.specs.declared.bounds.Bounds.{Bounds}
use Rattle.sets.specs.declared.shape.Shape.{Shape}
use Rattle.sets.specs.Areas.{Within, size_of}
use Rattle.stages.specs.declared.stage.Axis.TheVariants.{Time, Channel}
use Rattle.stages.specs.declared.stage.Parity.{Parity}
use Rattle.stages.specs.Lifting.{parity_of, source_index, by_parity, lists_channel, line_length, line_spans}
use Rattle.stages.specs.Lines.{extended}
use Rattle.stages.specs.Plain.{PlainLift}
use Rattle.stages.specs.Ranges.{at}
use Rattle.rules.specs.Lifted.{first_of, count_of, inside_of, lone_odd}
use Rattle.rules.proofs.ByPlace.{same_in, span_made}
use Rattle.rules.proofs.LiftIndices.{source_parity}
use Rattle.rules.proofs.LiftPlaces.{along, Source, touched-index, read_source, read_parity, listed_from}
use Rattle.rules.proofs.LiftSpans.{first_none}
use Rattle.rules.proofs.LiftSpansHolds.{within-at}
use Rattle.rules.proofs.LiftSpansSlots.{touches, index_at, read_index_at, Standing, Slotted}
use Rattle.rules.proofs.Places.{time_below}

-- what a step reads for a touched address stands on the same line
read_at : (f : Shape) (l : PlainLift) (fits : l.first + l.count ≤ f.channels) (many : 2 ≤ count_of f l) (m : Parity) (off : ℤ) (a k : ℕ) → a < size_of f → touches f l a ≡ true →
    Source f l (a / f.samples) (a % f.samples) (inside_of f l (source_index (parity_of m) (index_at f l a) off k)) (read_index_at f l m off a k)
read_at f l fits many m off a k h t = read_source f l _ _ _ fits many (time_below f a h) (touched-index f l _ _ (time_below f a h) t).listed

-- Along the samples: a group for each channel, with two slots
module _ (f : Shape) (l : PlainLift) (fits : l.first + l.count ≤ f.channels) (many : 2 ≤ count_of f (along Time l)) where
  pub time_standing : Standing f (along Time l) by_parity 2 (λ a. a / f.samples) (λ a. index_at f (along Time l) a % 2)
  time_standing = record {
    room = λ a h t. omega arith;
    parity = λ a h t. omega arith;
    reads = λ m off a k h t. let r = read_at f (along Time l) fits many m off a k h t in (r.below, r.hit);
    read_group = λ m off a k h t. (read_at f (along Time l) fits many m off a k h t).along-time refl;
    read_place = λ m off a k h t.
        ap (λ i. i % 2) (read_at f (along Time l) fits many m off a k h t).index ∙ read_parity f (along Time l) m _ off k many ∙ sym (source_parity m (index_at f (along Time l) a % 2) off k);
  }

two_same : (b : Bounds) (j : ℕ) → j < 2 → at (b ∷ b ∷ []) j ≡ b
two_same b zero h = refl
two_same b (suc zero) h = refl
two_same b (suc (suc j)) h = absurd (omega arith)

pub time_slotted : (f : Shape) (l : PlainLift) (bs : List Bounds) (xs : List ℤ) → Within f bs xs →
    Slotted f (along Time l) 2 (λ a. a / f.samples) (λ a. index_at f (along Time l) a % 2) (λ c. at bs c ∷ at bs c ∷ []) xs
time_slotted f l bs xs w = record {
  long = w.long;
  many = λ c. refl;
  inside = λ a h t. same_in _ _ _ _ (two_same (at bs (a / f.samples)) (index_at f (along Time l) a % 2) (omega arith)) refl (within-at f bs xs w a h);
}

-- Along the channels: one group, with a slot for each index. The first index is 0.
inside-line : (f : Shape) (l : PlainLift) (z : ℤ) → inside_of f (along Channel l) z ≡ extended l.extension (line_length l) z
inside-line f l z =
    let e = first_none l.level in
    let back : z -ℤ pos 0 ≡ z = omega (arith, ints) in
    (λ i. e i + extended l.extension (line_length l) (z -ℤ pos (e i))) ∙ zero-add _ ∙ ap (extended l.extension (line_length l)) back

module _ (f : Shape) (l : PlainLift) (fits : l.first + l.count ≤ f.channels) (many : 2 ≤ count_of f (along Channel l)) where
  pub line-standing : Standing f (along Channel l) (extended l.extension (line_length l)) (line_length l) (λ a. 0) (index_at f (along Channel l))
  line-standing = record {
    room = λ a h t. omega (arith, (touched-index f (along Channel l) _ _ (time_below f a h) t).until, first_none l.level);
    parity = λ a h t. refl;
    reads = λ m off a k h t. let r = read_at f (along Channel l) fits many m off a k h t in (r.below, r.hit);
    read_group = λ m off a k h t. refl;
    read_place = λ m off a k h t. (read_at f (along Channel l) fits many m off a k h t).index ∙ inside-line f l _;
  }

-- the slot of a touched address is the span of its channel
pub line-slot : (f : Shape) (l : PlainLift) (bs : List Bounds) (a : ℕ) → a < size_of f → touches f (along Channel l) a ≡ true →
    at (line_spans l bs) (index_at f (along Channel l) a) ≡ at bs (a / f.samples)
line-slot f l bs a h t =
    let i = touched-index f (along Channel l) _ _ (time_below f a h) t in
    let c = a / f.samples in
    let whole : (c - l.first) % 2 ^ l.level ≡ 0 = eqb-true _ _ (and_parts (lists_channel l c) _ t).1 in
    let back : l.first + index_at f (along Channel l) a * 2 ^ l.level ≡ c = omega (arith, div-add-mod' (c - l.first) (2 ^ l.level), listed_from l c i.listed) in
    span_made _ (line_length l) _ (omega (arith, i.until, first_none l.level)) ∙ ap (at bs) back

pub line-slotted : (f : Shape) (l : PlainLift) (bs : List Bounds) (xs : List ℤ) → Within f bs xs →
    Slotted f (along Channel l) (line_length l) (λ a. 0) (index_at f (along Channel l)) (λ g. line_spans l bs) xs
line-slotted f l bs xs w = record {
  long = w.long;
  many = λ g. length-map-range_with_len _ 0 (line_length l);
  inside = λ a h t. same_in _ _ _ _ (line-slot f l bs a h t) refl (within-at f bs xs w a h);
}

-- the first index being 0, no line along the channels has one index alone, and that one odd
pub none_lone : (f : Shape) (l : PlainLift) → lone_odd f (along Channel l) ≡ true → ⊥
none_lone f l odd =
    let one : first_of f (along Channel l) % 2 ≡ 1 = eqb-true _ _ (and_parts _ (eqb (first_of f (along Channel l) % 2) 1) odd).1 in
    omega (arith, first_none l.level)
