use Rattle.std.proofs.Common.{◌≡◌, ℕ, ◌<◌, true}
use Rattle.sets.specs.Sets.{rows_of}
use Rattle.sets.proofs.Everywhere.{channel_holds}
use Rattle.sets.proofs.span_list.SpanList.hold.Given as goal

abbrev pub invariant-loop-c : goal.invariant-loop-c
invariant-loop-c l = (c : ℕ) → c < l.c → channel_holds l.shape (rows_of l.self) l.area c ≡ true
