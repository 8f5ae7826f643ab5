use Rattle.std.proofs.Common.{ℕ, List, length, ℤ, Ok, Option, sym, ◌∙◌, subst}
use Rattle.sets.specs.declared.bounds.Bounds.{Bounds}
use Rattle.sets.specs.declared.shape.Shape.{Shape}
use Rattle.sets.specs.Sets.{rows_of}
use Rattle.sets.specs.declared.refusal.Refusal.{Refusal}
use Rattle.rack.specs.Calls.{UndoAnswer}
use Rattle.rack.specs.Laws.{Apart}
use Rattle.rack.specs.Meanings.{Meaning, Ready, Undone, Restored}
use Rattle.rack.specs.Of.{meaning}
use Rattle.rack.proofs.Clear.{area_clear}
use Rattle.rack.proofs.Refusing.{none_from_ok}
use Rattle.rack.proofs.rack.Rack.undo.Goals as goal

-- the second law makes a set that is found the only one
only_found : (m : Meaning) (f : Shape) (k : ℕ) (bs cs : List Bounds) (ys xs : List ℤ) → Apart m → Ready m f k bs cs → Undone m f k bs ys xs → Restored m f k bs ys xs
only_found m f k bs cs ys xs apart ready found =
    record { undone = found; only = λ zs other. apart f k bs cs zs xs ready other.inside found.inside (other.gives ∙ sym found.gives) }

pub backward-requires : goal.backward-requires
backward-requires g c =
    let clear = area_clear (meaning g.Self.Stages c.args.self.now) c.args.shape.now c.args.number (rows_of c.args.spans.now) (length c.args.area.now) (none_from_ok _ c.in_ok-ready.ensures) in
    record { admitted = (_, clear.ready); long = clear.long }

pub returns : goal.returns
returns g c =
    let m = meaning g.Self.Stages c.args.self.now in
    let f = c.args.shape.now in
    let k = c.args.number in
    let bs = rows_of c.args.spans.now in
    let ys = c.args.area.now in
    let none = none_from_ok _ c.in_ok-ready.ensures in
    let clear = area_clear m f k bs (length ys) none in
    let restored = only_found m f k bs _ ys c.backward.new.area (g.met.Self.Stages.apart c.args.self.now) clear.ready c.if-not-backward.ensures in
    subst (λ (o : Option Refusal). UndoAnswer m f k bs ys o (Ok tt) c.backward.new.area) (sym none) restored
