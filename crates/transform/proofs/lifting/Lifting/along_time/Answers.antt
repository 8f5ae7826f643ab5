use Rattle.std.proofs.Common.{◌+◌, ◌-◌, ◌*◌, refl, ap, arith}
use Rattle.stages.specs.Plain.{plain_lift}
use Rattle.rack.proofs.Clear.{limits}
use Rattle.transform.proofs.Limits.{time_start_small, first_small, count_small}
use Rattle.transform.proofs.Spots.{time_lined}
use Rattle.transform.proofs.lifting.Lifting.along_time.Goals as goal

pub invariant_of-result : goal.invariant_of-result
invariant_of-result c =
    let l = c.args.self.now.lift in
    let f = c.args.self.now.shape in
    let m = limits f c.args.self.now.limits in record {
      near = time_start_small f l.first l.level _ _ m (omega (arith, l.inside)) l.shallow c.first_index-first.ensures c.distance-by.ensures.value;
      spread = c.distance-by.ensures.some;
      close = omega (arith, c.distance-by.ensures.small);
      low = omega (arith, first_small l.level f.origin f.samples l.shallow m.origin m.samples, c.first_index-first.ensures);
      few = omega (arith, count_small l.level f.origin f.samples l.shallow m.origin m.samples, c.index_count.ensures);
      many = omega (arith, l.inside);
      wide = m.samples;
    }

pub returns : goal.returns
returns c =
    let l = c.args.self.now.lift in
    let f = c.args.self.now.shape in
    let m = limits f c.args.self.now.limits in
    time_lined f (plain_lift l) _ c.requires c.args.self.now.room m.long c.first_index-first.ensures c.index_count.ensures
    refl (ap (λ x. l.first * f.samples + (c.first_index-first.result * x - f.origin)) c.distance-by.ensures.value) c.distance-by.ensures.value refl
