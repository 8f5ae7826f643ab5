-- The reach of a quotient holds the quotient of any samples in the spans.
use Rattle.std.proofs.Common.{ℕ, zero, suc, ◌+◌, ◌<◌, ◌≤◌, List, map, ℤ, ◌≤ℤ◌, arith}
use Rattle.std.proofs.lemmas.Int.{ints}
use Rattle.std.specs.List.{range_with_len}
use Rattle.sets.specs.declared.bounds.Bounds.{Bounds}
use Rattle.sets.specs.Areas.{In}
use Rattle.stages.specs.Quotients.{quotient_of, reach_of, Inside, none, one}
use Rattle.stages.proofs.Extremes.{sum_between}
use Rattle.stages.proofs.Floors.{floor_mono}

pub reach_holds : (ts : List ℤ) (r : ℤ) (e : ℕ) (xs : List ℤ) (bs : List Bounds) → Inside xs bs → ((reach_of ts r e bs).least ≤ℤ quotient_of ts r e xs) × (quotient_of ts r e xs ≤ℤ (reach_of ts r e bs).greatest)
unfolding reach_of quotient_of
reach_holds ts r e xs bs i =
    let s = sum_between ts xs bs i in
    (floor_mono _ _ e (omega (arith, ints)), floor_mono _ _ e (omega (arith, ints)))

-- samples and spans by place, from a on: each sample in its span
pub inside_from : (a n : ℕ) (x : ℕ → ℤ) (b : ℕ → Bounds) → ((k : ℕ) → a ≤ k → k < a + n → In (b k) (x k)) → Inside (map x (range_with_len a n)) (map b (range_with_len a n))
inside_from a zero x b h = none
inside_from a (suc n) x b h =
    let i = h a (omega arith) (omega arith) in
    one i.low i.high (inside_from (a + 1) n x b (λ k l m. h k (omega arith) (omega arith)))

pub inside_map : (n : ℕ) (x : ℕ → ℤ) (b : ℕ → Bounds) → ((k : ℕ) → k < n → In (b k) (x k)) → Inside (map x (range_with_len 0 n)) (map b (range_with_len 0 n))
inside_map n x b h = inside_from 0 n x b (λ k l m. h k (omega arith))
