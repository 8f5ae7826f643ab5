-- What lifting does to samples. One text for both axes.
use Rattle.std.specs.Prelude.{ℕ, ◌+◌, ◌-◌, ◌*◌, ◌/◌, ◌%◌, ◌^◌, Bool, cond, ◌&&◌, List, [], ◌∷◌, map, length, ℤ, pos, ◌+ℤ◌, ◌-ℤ◌, ◌==◌, nat_le}
use Rattle.std.specs.List.{range_with_len}
use Rattle.sets.specs.declared.shape.Shape.{Shape}
use Rattle.sets.specs.Areas.{at, sample_at, area_of}
use Rattle.stages.specs.declared.stage.Axis.{Axis}
use Rattle.stages.specs.declared.stage.Axis.TheVariants.{Time, Channel}
use Rattle.stages.specs.declared.stage.Parity.{Parity}
use Rattle.stages.specs.Lifting.{parity_of, other, source_index, lists_channel}
use Rattle.stages.specs.Lines.{first_index, index_count, extended}
use Rattle.stages.specs.Plain.{PlainLift, PlainStep}
use Rattle.stages.specs.Quotients.{quotient_of}
use Rattle.rules.specs.Passes.{Pass, ran}

-- the first along the samples of a channel, and the second along the channels
abbrev pub on_axis : Axis → ℕ → ℕ → ℕ
on_axis Time a b = a
on_axis Channel a b = b

-- A line has the places u to u + T - 1 along the samples, and 0 to count - 1 along the channels. Its first place:
abbrev pub line_start : Shape → PlainLift → ℕ
line_start f l = on_axis l.axis f.origin 0

-- how many places it has, its first index, and how many indices
abbrev pub line_places : Shape → PlainLift → ℕ
line_places f l = on_axis l.axis f.samples l.count

abbrev pub first_of : Shape → PlainLift → ℕ
first_of f l = first_index l.level (line_start f l)

abbrev pub count_of : Shape → PlainLift → ℕ
count_of f l = index_count l.level (line_start f l) (line_places f l)

-- the place on its line of sample t of channel c, and its index there
abbrev pub place_of : Shape → PlainLift → ℕ → ℕ → ℕ
place_of f l c t = on_axis l.axis (f.origin + t) (c - l.first)

abbrev pub line_index : Shape → PlainLift → ℕ → ℕ → ℕ
line_index f l c t = place_of f l c t / 2 ^ l.level

-- only places that are multiples of 2^v are touched
abbrev pub touched : Shape → PlainLift → ℕ → ℕ → Bool
touched f l c t = lists_channel l c && place_of f l c t % 2 ^ l.level == 0

-- the address in the area of index i, on the line through sample t of channel c
abbrev pub address_of : Shape → PlainLift → ℕ → ℕ → ℕ → ℕ
address_of f l c t i = on_axis l.axis (c * f.samples + (i * 2 ^ l.level - f.origin)) ((l.first + i * 2 ^ l.level) * f.samples + t)

-- the index on the line that is read for any index z
abbrev pub inside_of : Shape → PlainLift → ℤ → ℕ
inside_of f l z = first_of f l + extended l.extension (count_of f l) (z -ℤ pos (first_of f l))

-- the samples that the taps of a step read for sample t of channel c, where the step changes the indices of parity m
abbrev pub reads_of : Shape → PlainLift → Parity → PlainStep → List ℤ → ℕ → ℕ → List ℤ
reads_of f l m s xs c t = map (λ k. at xs (address_of f l c t (inside_of f l (source_index (parity_of m) (line_index f l c t) s.offset k)))) (range_with_len 0 (length s.taps))

abbrev pub changes : Shape → PlainLift → Parity → ℕ → ℕ → Bool
changes f l m c t = touched f l c t && line_index f l c t % 2 == parity_of m

-- a step adds its quotient to each sample at an index of parity m
abbrev pub lift_pass : Shape → PlainLift → Parity → PlainStep → Pass
lift_pass f l m s = record {
  hits = λ a. changes f l m (a / f.samples) (a % f.samples);
  amount = λ xs a. quotient_of s.taps s.residue s.exponent (reads_of f l m s xs (a / f.samples) (a % f.samples));
}

-- the steps change the parities in turn
unfoldable pub lift_passes : Shape → PlainLift → Parity → List PlainStep → List Pass
lift_passes f l m [] = []
lift_passes f l m (s ∷ ss) = lift_pass f l m s ∷ lift_passes f l (other m) ss

-- a line of just one index, and that one odd: its sample is doubled
abbrev pub lone_odd : Shape → PlainLift → Bool
lone_odd f l = count_of f l == 1 && first_of f l % 2 == 1

abbrev pub doubled_at : Shape → PlainLift → List ℤ → ℕ → ℕ → ℤ
doubled_at f l xs c t = cond (touched f l c t) (sample_at f xs c t +ℤ sample_at f xs c t) (sample_at f xs c t)

-- a line of no index, or of one even index, is unchanged
abbrev pub lift_samples : Shape → PlainLift → List PlainStep → List ℤ → List ℤ
lift_samples f l ss xs = cond (nat_le 2 (count_of f l)) (ran (lift_passes f l l.parity ss) xs) (cond (lone_odd f l) (area_of f (doubled_at f l xs)) xs)
