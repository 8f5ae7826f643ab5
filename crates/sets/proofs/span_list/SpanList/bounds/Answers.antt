use Rattle.std.proofs.Common.{◌∙◌, arith}
use Rattle.sets.specs.Ordered.{no_bounds}
use Rattle.sets.proofs.span_list.SpanList.bounds.Goals as goal

pub returns : goal.returns
returns c = rw c.copied.ensures at c.unwrap_or.ensures ∙ c.get.ensures.lookup.4 (omega arith) no_bounds
