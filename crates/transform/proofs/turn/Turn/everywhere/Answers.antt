use Rattle.transform.proofs.Windows.{positions_all}
use Rattle.transform.proofs.turn.Turn.everywhere.Goals as goal

pub returns-in-Time : goal.returns-in-Time
returns-in-Time g c = positions_all _ c.args.self.now _ _ _ c.requires c.number.ensures.value c.number.ensures.small c.along_samples.ensures

pub returns-in-Channel : goal.returns-in-Channel
returns-in-Channel g c = positions_all _ c.args.self.now _ _ _ c.requires c.number.ensures.value c.number.ensures.small c.positions.ensures
