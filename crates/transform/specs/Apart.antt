-- A run of evenly spaced samples, and the samples that their quotients read.
use Rattle.std.specs.Prelude.{ℕ, ◌+◌, ◌*◌, ◌<◌, List, ◌≢◌, slice_index}
use Rattle.stages.specs.declared.quotient.Quotient.{Quotient}

-- no sample that is read is one that is changed: the changed ones are at to + i * by, for i below n
abbrev pub Apart : Quotient → List ℕ → ℕ → ℕ → ℕ → Type 0
Apart q from to by n = (k i j : ℕ) → k < q.tap_count → i < n → j < n → slice_index from k + i * by ≢ to + j * by
