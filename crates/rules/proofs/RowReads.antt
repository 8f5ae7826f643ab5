-- What a dependency row reads, and the reach that holds what it takes away.
use Rattle.std.proofs.Common.{◌≡◌, ℕ, ◌+◌, ◌-◌, ◌<◌, ◌≤◌, List, map, length, get_or, ℤ, ◌-ℤ◌, sym, refl, ap, arith}
use Rattle.std.specs.List.{range_with_len}
use Rattle.sets.specs.declared.bounds.Bounds.{Bounds}
use Rattle.sets.specs.declared.shape.Shape.{Shape}
use Rattle.sets.specs.Areas.{sample_at, span_at, In, Within}
use Rattle.stages.specs.Channels.{no_row, row_after, taken}
use Rattle.stages.specs.Plain.{PlainRow}
use Rattle.stages.specs.Quotients.{quotient_of, reach_of}
use Rattle.stages.specs.Ranges.{lowered}
use Rattle.stages.proofs.Parts.{part_at, part_front}
use Rattle.rules.specs.Mixed.{row_quotient}
use Rattle.rules.proofs.ByPlace.{map_same, same_in, lowered-in}
use Rattle.rules.proofs.Reaching.{reach_holds, inside_map}

-- the least and the greatest that row i takes away, from the spans of the i channels from the first on
abbrev pub row_reach : ℕ → List PlainRow → List Bounds → ℕ → Bounds
row_reach first rows bs i = let q = get_or rows (i - 1) no_row in reach_of q.taps q.residue q.exponent (map (λ j. span_at bs (first + j)) (range_with_len 0 i))

module _ (first : ℕ) (rows : List PlainRow) where
  pub row-after : (bs : List Bounds) (n i : ℕ) → i < n → first + n ≤ length bs → row_after rows (taken first n bs) i ≡ lowered (span_at bs (first + i)) (row_reach first rows bs i)
  row-after bs n i h l =
      let q = get_or rows (i - 1) no_row in
      let p = part_at bs first n i h in
      let r = sym (part_front bs first n i (omega arith) l) in
      λ k. lowered (p k) (reach_of q.taps q.residue q.exponent (r k))

  module _ (f : Shape) where
    -- row i reads the samples of the i channels from the first on alone
    pub quotient_same : (xs ys : List ℤ) (i t : ℕ) → ((c : ℕ) → first ≤ c → c < first + i → sample_at f xs c t ≡ sample_at f ys c t) → row_quotient f first rows xs i t ≡ row_quotient f first rows ys i t
    quotient_same xs ys i t e =
        let q = get_or rows (i - 1) no_row in
        ap (quotient_of q.taps q.residue q.exponent) (map_same _ _ 0 i (λ k l m. e (first + k) (omega arith) (omega arith)))

    pub quotient_in : (bs : List Bounds) (xs : List ℤ) (i t : ℕ) → first + i ≤ f.channels → t < f.samples → Within f bs xs → In (row_reach first rows bs i) (row_quotient f first rows xs i t)
    quotient_in bs xs i t h k w =
        let q = get_or rows (i - 1) no_row in
        let r = reach_holds q.taps q.residue q.exponent _ _ (inside_map i (λ j. sample_at f xs (first + j) t) (λ j. span_at bs (first + j)) (λ j l. w.inside (first + j) t (omega arith) k)) in
        record { low = r.0; high = r.1 }

    -- what row i leaves lies in the bounds that it makes
    pub row_in : (bs : List Bounds) (xs : List ℤ) (n i t : ℕ) → i < n → first + n ≤ f.channels → t < f.samples → length bs ≡ f.channels → Within f bs xs → In (row_after rows (taken first n bs) i) (sample_at f xs (first + i) t -ℤ row_quotient f first rows xs i t)
    row_in bs xs n i t h fit k l w =
        same_in _ _ _ _ (row-after bs n i h (omega arith)) refl
        (lowered-in _ _ _ _ (w.inside (first + i) t (omega arith) k) (quotient_in bs xs i t (omega arith) k w))
