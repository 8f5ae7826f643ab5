-- The lines that a stage still has room for.
use Rattle.std.specs.Prelude.{ℕ, ◌+◌, ◌-◌, min, length, Some, None, Option}
use Rattle.stages.specs.Plain.{Plain, lift, dep, rct}

-- how many lines more the stage at hand has room for
abbrev pub room_in : Option Plain → ℕ
room_in None = 0
room_in (Some (lift l ss)) = 4 - length ss
room_in (Some (dep f rs)) = min (7 - length rs) (63 - (f + length rs))
room_in (Some (rct f)) = 0
