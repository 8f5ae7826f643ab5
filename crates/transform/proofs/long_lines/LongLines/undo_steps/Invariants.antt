use Rattle.std.proofs.Common.{◌≡◌}
use Rattle.std.specs.Iterator.Adapters.{enumerate_source, enumerate_count, rev_source}
use Rattle.std.specs.Slice.Iter.{iter_rest}
use Rattle.transform.proofs.Stepping.{Undone}
use Rattle.transform.proofs.long_lines.LongLines.undo_steps.Given as goal

abbrev pub invariant-loop-k : goal.invariant-loop-k
invariant-loop-k l =
    let iterator = rev_source l.k-iterator in
    (enumerate_count iterator ≡ 0) × Undone l.self (iter_rest (enumerate_source iterator)) l.initial.area l.area
