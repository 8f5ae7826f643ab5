-- Positions far enough from the ends of a line: what a step reads for them is inside it, and moves on with them.
use Rattle.std.proofs.Common.{◌≡◌, ℕ, ◌+◌, ◌*◌, ◌%◌, ◌<◌, ◌≤◌, ℤ, pos, negsuc, ◌+ℤ◌, ◌-ℤ◌, ◌*ℤ◌, ◌≤ℤ◌, ◌<ℤ◌, sym, ap, ◌∙◌, arith}
use Rattle.std.proofs.lemmas.Int.{ints}
use Rattle.sets.specs.declared.shape.Shape.{Shape}
use Rattle.stages.specs.declared.stage.Extension.{Extension}
use Rattle.stages.specs.declared.stage.Extension.TheVariants.{Mirrored, Nearest}
use Rattle.stages.specs.declared.stage.Parity.{Parity}
use Rattle.stages.specs.declared.stage.Parity.TheVariants.{Even, Odd}
use Rattle.stages.specs.declared.stage.Step.{Step}
use Rattle.stages.specs.Lifting.{parity_of, source_index}
use Rattle.stages.specs.Lines.{inside, extended}
use Rattle.stages.specs.Plain.{PlainLift}
use Rattle.stages.proofs.Mirrors.{mirrored_is, nearest-inside}
use Rattle.transform.specs.declared.lines.Lines.{Lines}
use Rattle.transform.specs.Near.{Near}
use Rattle.transform.proofs.Serving.{read_index_at}

extended-inside : (e : Extension) (n k : ℕ) → 2 ≤ n → k < n → extended e n (pos k) ≡ k
extended-inside Mirrored n k h l = sym (mirrored_is n k (pos k) h (inside l))
extended-inside Nearest n k h l = nearest-inside n (pos k) (omega (arith, ints)) l

extended-stays : (e : Extension) (n : ℕ) (z : ℤ) → 2 ≤ n → pos 0 ≤ℤ z → z <ℤ pos n → pos (extended e n z) ≡ z
extended-stays e n (pos k) h l g = ap pos (extended-inside e n k h (omega (arith, ints)))
extended-stays e n (negsuc k) h l g = absurd (omega (arith, ints))

-- how far from a position a tap reads
abbrev far : ℕ → ℤ → ℕ → ℤ
far p off k = (pos 2 *ℤ (off +ℤ pos k) +ℤ pos 1) -ℤ pos (2 * p)

source_from : (first j p k : ℕ) (off : ℤ) → p ≤ 1 → (first + j) % 2 ≡ p → source_index p (first + j) off k -ℤ pos first ≡ pos j +ℤ far p off k
source_from first j p k off h e = omega (arith, ints)

parity_small : (m : Parity) → parity_of m ≤ 1
parity_small Even = omega arith
parity_small Odd = omega arith

module _ (f : Shape) (l : PlainLift) (n : Lines) (m : Parity) (s : Step) (near : Near s) (many : 2 ≤ n.count) where
  read_inside : (j k : ℕ) → (n.first + j) % 2 ≡ parity_of m → k < 8 → 17 ≤ j → j + 31 < n.count → pos (read_index_at f l n m s j k) ≡ pos j +ℤ far (parity_of m) s.offset k
  read_inside j k p h low high =
      let one = parity_small m in
      let e = source_from n.first j (parity_of m) k s.offset one p in
      extended-stays l.extension n.count _ many (omega (arith, ints, near.low, near.high)) (omega (arith, ints, near.low, near.high)) ∙ e

  -- two positions that are both inside read at the same distance
  pub read_moves : (j i k : ℕ) → (n.first + j) % 2 ≡ parity_of m → k < 8 → 17 ≤ j → j + 2 * i + 31 < n.count → read_index_at f l n m s (j + 2 * i) k ≡ read_index_at f l n m s j k + 2 * i
  read_moves j i k p h low high =
      let a = read_inside j k p h low (omega arith) in
      let b = read_inside (j + 2 * i) k (omega arith) h (omega arith) high in
      omega (arith, ints)
