-- One more row at the end of a list of spans, and rows that are all alike.
use Rattle.std.proofs.Common.{ℕ, ◌+◌, ◌<◌, ◌≢◌, List, length, get_or, set, arith, get_or-set_other, get_or-set_same, below_more, replicate, ◌≤◌}
use Rattle.std.proofs.lemmas.List.{get_or-replicate}
use Rattle.sets.specs.declared.bounds.Bounds.{Bounds}
use Rattle.sets.specs.Ordered.{no_bounds}

-- what holds of each of n rows and of one more holds of n + 1
pub each_row_more : (P : Bounds → Type 0) (rows : List Bounds) (n : ℕ) (row : Bounds) → n < length rows → ((c : ℕ) → c < n → P (get_or rows c no_bounds)) → P row → (c : ℕ) → c < n + 1 → P (get_or (set rows n row) c no_bounds)
each_row_more P rows n row room before here =
    below_more _ _ (λ k h. let ne : k ≢ n = omega arith in rw get_or-set_other (before k h)) (rw get_or-set_same here)

-- what holds of a row holds of each of n rows alike
pub each_row_alike : (P : Bounds → Type 0) (row : Bounds) (n : ℕ) → n ≤ 64 → P row → (c : ℕ) → c < n → P (get_or (replicate 64 row) c no_bounds)
each_row_alike P row n few here c h = rw (get_or-replicate 64 c row no_bounds (omega arith)) here
