-- Dependency rows as the inner loop has them.
use Rattle.std.specs.Prelude.{◌≡◌, ℕ, ◌-◌, ◌≤◌, List, take}
use Rattle.stages.specs.declared.quotient.Quotient.{Quotient}
use Rattle.stages.specs.Plain.{PlainRow, plain_rows, taps_of}
use Rattle.rules.specs.Mixed.{row_pass, row_passes}
use Rattle.rules.specs.Passes.{Pass}
use Rattle.transform.specs.declared.dep_rows.DepRows.{DepRows}

-- row i, and all rows from the last down, as passes of the rule
abbrev pub row_pass_of : DepRows → ℕ → Pass
row_pass_of s i = row_pass s.shape s.dep.first (plain_rows s.dep) i

abbrev pub row_passes_of : DepRows → List Pass
row_passes_of s = row_passes s.shape s.dep.first (plain_rows s.dep) (s.dep.count - 1)

-- a row of which i samples are read: no more taps than these
pub record CutTo (i : ℕ) (row : PlainRow) (q : Quotient) : Type 0 where
  pub few : q.tap_count ≤ i
  pub taps : taps_of q ≡ take i row.taps
  pub residue : q.residue ≡ row.residue
  pub exponent : q.exponent ≡ row.exponent
