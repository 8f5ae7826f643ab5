-- What a reading holds, and the lines that it reads.
use Rattle.std.specs.Prelude.{◌≡◌, ◌+◌, List, Result}
use Rattle.stages.specs.Plain.{Plain}
use Rattle.recipe.specs.declared.fault.Fault.{Fault}
use Rattle.recipe.specs.declared.line.Line.{Line}
use Rattle.recipe.specs.declared.lines.Lines.{Lines}
use Rattle.recipe.specs.declared.reading.Reading.{Reading}
use Rattle.recipe.specs.Fields.{lines_of, tail_of}
use Rattle.recipe.specs.Grammar.{Sofar, read_from}
use Rattle.recipe.specs.Promises.{FirstLine, NoLine}
use Rattle.recipe.specs.Tables.{table_of}

-- the stages that have come, and the lines that are due
abbrev pub so_far : Reading → Sofar
so_far r = record { stages = table_of r.recipe.now; left = r.left }

-- the answer to lines where s is read
abbrev pub reading_from : Sofar → Lines → Result (List Plain) Fault
reading_from s l = read_from s l.number (lines_of l.rest.now) (tail_of l.rest.now)

-- the next line of the lines s is l, and t is what follows
pub record NextLine (s : Lines) (l : Line) (t : Lines) : Type 0 where
  pub first : FirstLine s.rest.now l.bytes.now t.rest.now
  pub here : l.number ≡ s.number
  pub next : t.number ≡ s.number + 1

-- no line of s ends, and t is the same
pub record LinesEnd (s t : Lines) : Type 0 where
  pub none : NoLine s.rest.now
  pub same : t ≡ s
