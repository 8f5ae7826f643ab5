use Rattle.std.proofs.Common.{◌≡◌, ℕ, ◌<◌, get_or}
use Rattle.transform.specs.Lined.{spot}
use Rattle.transform.specs.Turns.{read_index_at}
use Rattle.transform.proofs.turn.Turn.sources.Given as goal

abbrev pub invariant-loop-k : goal.invariant-loop-k
invariant-loop-k l = (k : ℕ) → k < l.k → get_or l.address-items k 0 ≡ spot l.self.on_lines.lines l.line (read_index_at l.self l.j k)
