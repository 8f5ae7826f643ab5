-- How small the numbers of a shape's lines are.
use Rattle.std.proofs.Common.{◌≡◌, ℕ, ◌+◌, ◌-◌, ◌*◌, ◌^◌, ◌<◌, ◌≤◌, sym, subst, arith, lit≤, pow_mono}
use Rattle.std.proofs.lemmas.Nat.{shr_le, shr_split, mul-le}
use Rattle.sets.specs.declared.shape.Shape.{Shape}
use Rattle.rack.proofs.Clear.{Limits}
use Rattle.stages.specs.Lines.{first_index, index_count}
use Rattle.transform.specs.declared.lines.Lines.{Lines}

module _ (v p n : ℕ) (shallow : v ≤ 15) (near : p ≤ 1048575) (short : n ≤ 1048576) where
  pub distance_small : 2 ^ v ≤ 32768
  distance_small = pow_mono shallow

  pub first_small : first_index v p ≤ 2 ^ 21
  first_small = omega (arith, shr_le (p + (2 ^ v - 1)) v, distance_small)

  pub first_near : first_index v p * 2 ^ v ≤ p + 2 ^ v
  first_near = omega (arith, shr_split (p + (2 ^ v - 1)) v)

  pub count_small : index_count v p n ≤ 2 ^ 21
  count_small = omega (arith, shr_le (p + n - 1) v)

-- where the first position of a line along the samples stands
pub time_start_small : (f : Shape) (base v first by : ℕ) → Limits f → base ≤ 64 → v ≤ 15 → first ≡ first_index v f.origin → by ≡ 2 ^ v → base * f.samples + (first * by - f.origin) ≤ 2 ^ 27
time_start_small f base v first by m b s p q =
    let near : first * by ≤ f.origin + 2 ^ v = subst (λ x. x ≤ f.origin + 2 ^ v) (λ i. sym p i * sym q i) (first_near v f.origin 0 s m.origin (lit≤ tt)) in
    omega (arith, mul-le base f.samples 64 1048576 b m.samples, distance_small v 0 0 s (lit≤ tt) (lit≤ tt))

-- the addresses of the positions of a line are small
pub position_small : (n : Lines) (j : ℕ) → j < n.count → n.start + j * n.by ≤ 2 ^ 57
position_small n j h = omega (arith, mul-le j n.by 2097152 34359738368 (omega (arith, n.few)) n.close, n.near)

pub line_small : (n : Lines) (r : ℕ) → r ≤ n.line_count → r * n.apart ≤ 2 ^ 40
line_small n r h = omega (arith, mul-le r n.apart 1048576 1048576 (omega (arith, n.many)) n.wide)
