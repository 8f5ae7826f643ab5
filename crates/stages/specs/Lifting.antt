-- What lifting does to spans.
-- A line's spans stand in slots. Along the channels each index of the line has a slot of its own;
-- along the samples of a channel there are two, one for the even indices and one for the odd.
use Rattle.std.specs.Prelude.{ℕ, ◌+◌, ◌-◌, ◌*◌, ◌/◌, ◌%◌, ◌^◌, Bool, cond, ◌&&◌, List, [], ◌∷◌, ◌++◌, map, length, ℤ, pos, ◌+ℤ◌, ◌*ℤ◌, ◌==◌, nat_le, nat_lt, unsigned_abs}
use Rattle.std.specs.List.{range_with_len, flat_map}
use Rattle.sets.specs.declared.bounds.Bounds.{Bounds}
use Rattle.sets.specs.declared.shape.Shape.{Shape}
use Rattle.stages.specs.declared.stage.Axis.{Axis}
use Rattle.stages.specs.declared.stage.Axis.TheVariants.{Time, Channel}
use Rattle.stages.specs.declared.stage.Parity.{Parity}
use Rattle.stages.specs.declared.stage.Parity.TheVariants.{Even, Odd}
use Rattle.stages.specs.Lines.{index_count, lone_odd, extended}
use Rattle.stages.specs.Plain.{PlainLift, PlainStep}
use Rattle.stages.specs.Quotients.{reach_of}
use Rattle.stages.specs.Ranges.{raised, hull, doubled, at}

abbrev pub parity_of : Parity → ℕ
parity_of Even = 0
parity_of Odd = 1

abbrev pub other : Parity → Parity
other Even = Odd
other Odd = Even

-- a step that changes parity m reads for index i = 2n + m, by its tap k, the index 2(n + off + k) + 1 - m
abbrev pub source_index : ℕ → ℕ → ℤ → ℕ → ℤ
source_index m i off k = pos 2 *ℤ (pos (i / 2) +ℤ (off +ℤ pos k)) +ℤ pos (1 - m)

-- the spans that the taps of a step read for index i, where slot says in which slot an index stands
abbrev pub sources_of : (ℤ → ℕ) → Parity → PlainStep → List Bounds → ℕ → List Bounds
sources_of slot m s bs i = map (λ k. at bs (slot (source_index (parity_of m) i s.offset k))) (range_with_len 0 (length s.taps))

-- a slot after a step: one of its parity is moved by the least and the greatest quotient
abbrev pub slot_after : (ℤ → ℕ) → Parity → PlainStep → List Bounds → ℕ → Bounds
slot_after slot m s bs i = cond (i % 2 == parity_of m) (raised (at bs i) (reach_of s.taps s.residue s.exponent (sources_of slot m s bs i))) (at bs i)

unfoldable pub stepped : (ℤ → ℕ) → Parity → PlainStep → List Bounds → List Bounds
stepped slot m s bs = map (slot_after slot m s bs) (range_with_len 0 (length bs))

-- the slots after all steps, which change the parities in turn
unfoldable pub ended : (ℤ → ℕ) → Parity → List PlainStep → List Bounds → List Bounds
ended slot m [] bs = bs
ended slot m (s ∷ ss) bs = ended slot (other m) ss (stepped slot m s bs)

-- the slots after each step, all of them
unfoldable pub walked : (ℤ → ℕ) → Parity → List PlainStep → List Bounds → List Bounds
walked slot m [] bs = []
walked slot m (s ∷ ss) bs = stepped slot m s bs ++ walked slot (other m) ss (stepped slot m s bs)

-- along the samples an index stands in the slot of its parity
abbrev pub by_parity : ℤ → ℕ
by_parity z = unsigned_abs z % 2

-- One channel along its samples. A line of no index keeps its span, and so does one of a single even index.
-- A single odd index doubles its sample, so that the span must hold both bounds and their doubles.
abbrev pub channel_ends : Shape → PlainLift → List PlainStep → Bounds → List Bounds
channel_ends f l ss b =
    cond (nat_le 2 (index_count l.level f.origin f.samples)) (ended by_parity l.parity ss (b ∷ b ∷ []))
    (cond (lone_odd l.level f.origin f.samples) (doubled b ∷ b ∷ []) (b ∷ b ∷ []))

abbrev pub channel_after : Shape → PlainLift → List PlainStep → Bounds → Bounds
channel_after f l ss b = hull b (hull (at (channel_ends f l ss b) 0) (at (channel_ends f l ss b) 1))

abbrev pub channel_made : Shape → PlainLift → List PlainStep → Bounds → List Bounds
channel_made f l ss b =
    cond (nat_le 2 (index_count l.level f.origin f.samples)) (walked by_parity l.parity ss (b ∷ b ∷ [])) (channel_ends f l ss b)

-- a channel that the lifting lists
abbrev pub lists_channel : PlainLift → ℕ → Bool
lists_channel l c = nat_le l.first c && nat_lt c (l.first + l.count)

-- Along the channels: the line's places are 0 to count - 1, and index i is channel first + i * 2^v.
abbrev pub line_length : PlainLift → ℕ
line_length l = index_count l.level 0 l.count

abbrev pub on_line : PlainLift → ℕ → Bool
on_line l c = lists_channel l c && (c - l.first) % 2 ^ l.level == 0

abbrev pub index_of : PlainLift → ℕ → ℕ
index_of l c = (c - l.first) / 2 ^ l.level

abbrev pub line_spans : PlainLift → List Bounds → List Bounds
line_spans l bs = map (λ i. at bs (l.first + i * 2 ^ l.level)) (range_with_len 0 (line_length l))

-- a line of one index has index 0, which is even and stays
abbrev pub line_ends : PlainLift → List PlainStep → List Bounds → List Bounds
line_ends l ss bs = cond (nat_le 2 (line_length l)) (ended (extended l.extension (line_length l)) l.parity ss (line_spans l bs)) (line_spans l bs)

abbrev pub line_made : PlainLift → List PlainStep → List Bounds → List Bounds
line_made l ss bs = cond (nat_le 2 (line_length l)) (walked (extended l.extension (line_length l)) l.parity ss (line_spans l bs)) []

-- a channel after a lifting along the samples, and after one along the channels whose line has ended as es
abbrev pub time_at : Shape → PlainLift → List PlainStep → List Bounds → ℕ → Bounds
time_at f l ss bs c = cond (lists_channel l c) (channel_after f l ss (at bs c)) (at bs c)

abbrev pub channel_at : PlainLift → List Bounds → List Bounds → ℕ → Bounds
channel_at l es bs c = cond (on_line l c) (hull (at bs c) (at es (index_of l c))) (at bs c)

-- the spans of all channels after a lifting along the samples, and every bound made on the way
abbrev pub samples_after : Shape → PlainLift → List PlainStep → List Bounds → List Bounds
samples_after f l ss bs = map (time_at f l ss bs) (range_with_len 0 (length bs))

abbrev pub samples_made : Shape → PlainLift → List PlainStep → List Bounds → List Bounds
samples_made f l ss bs = flat_map (λ c. channel_made f l ss (at bs c)) (range_with_len l.first l.count)

-- the spans after one along the channels, which makes the bounds of line_made
abbrev pub channels_after : PlainLift → List PlainStep → List Bounds → List Bounds
channels_after l ss bs = map (channel_at l (line_ends l ss bs) bs) (range_with_len 0 (length bs))

-- the first along the samples, and the second along the channels
abbrev pub by_axis : Axis → List Bounds → List Bounds → List Bounds
by_axis Time xs ys = xs
by_axis Channel xs ys = ys

-- the spans of all channels after a lifting, and every bound made on the way
abbrev pub lift_after : Shape → PlainLift → List PlainStep → List Bounds → List Bounds
lift_after f l ss bs = by_axis l.axis (samples_after f l ss bs) (channels_after l ss bs)

abbrev pub lift_made : Shape → PlainLift → List PlainStep → List Bounds → List Bounds
lift_made f l ss bs = by_axis l.axis (samples_made f l ss bs) (line_made l ss bs)
