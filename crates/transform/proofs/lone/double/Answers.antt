use Rattle.std.proofs.Common.{w32}
use Rattle.std.proofs.lemmas.Int.{wrapping_add_is}
use Rattle.transform.proofs.lone.double.Goals as goal

pub returns : goal.returns
returns c = wrapping_add_is w32 c.args.x c.args.x c.ranges.x c.ranges.x
