-- What a rack means, from the members of the trait.
use Rattle.rack.specs.Meanings.{Meaning, meant}
use Rattle.rack.specs.declared.stages.Stages.{Ghosts}

abbrev pub meaning : {S : Type 0} → Ghosts S → S → Meaning
meaning G s = meant (G.stages s) (G.fits s) (G.listed s) (G.widened s) (G.transformed s)
