-- A run: the positions that it changes.
use Rattle.std.specs.Prelude.{ℕ, ◌+◌, ◌*◌, Bool}
use Rattle.transform.specs.declared.run.Run.{Run}
use Rattle.transform.specs.Turns.{from_to}

-- the addresses of the positions of a run, on every line
abbrev pub at_run : Run → ℕ → Bool
at_run r = from_to r.turn r.start (r.start + 2 * r.count)
