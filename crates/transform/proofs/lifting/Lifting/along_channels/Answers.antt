use Rattle.std.proofs.Common.{◌*◌, refl, ap}
use Rattle.stages.specs.Plain.{plain_lift}
use Rattle.transform.proofs.Spots.{channel_lined}
use Rattle.transform.proofs.lifting.Lifting.along_channels.Goals as goal

pub returns : goal.returns
returns c =
    let f = c.args.self.now.shape in
    channel_lined f (plain_lift c.args.self.now.lift) _ c.requires.axis c.args.self.now.room c.requires.some c.first_index.ensures c.index_count.ensures
    refl refl (ap (λ x. x * f.samples) c.distance.ensures.value) refl
