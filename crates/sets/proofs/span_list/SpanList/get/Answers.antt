use Rattle.std.proofs.Common.{w32, SFits, rules}
use Rattle.std.proofs.lemmas.Int.{to_z-of_z}
use Rattle.sets.specs.Ordered.{no_bounds}
use Rattle.sets.proofs.span_list.SpanList.get.Goals as goal

pub returns : goal.returns
returns c =
    let found = c.in_ok-found.found.now in
    let low : SFits w32 found.least = search rules in
    let high : SFits w32 found.greatest = search rules in
    let read = c.in_ok-found.ensures.lookup.3 in
    (read.0, simp to_z-of_z (read.1 no_bounds))
