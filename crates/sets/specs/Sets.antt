-- Shapes with their limits, and what a span and a list of spans hold.
use Rattle.std.specs.Prelude.{Bool, ◌&&◌, List, take, nat_le}
use Rattle.sets.specs.declared.bounds.Bounds.{Bounds}
use Rattle.sets.specs.declared.shape.Shape.{Shape}
use Rattle.sets.specs.declared.span.Span.{Span}
use Rattle.sets.specs.declared.span_list.SpanList.{SpanList}

-- 1 to 64 channels, 1 to 1,048,576 samples a channel, an origin of 0 to 1,048,575
abbrev pub in_limits : Shape → Bool
in_limits f = nat_le 1 f.channels && (nat_le f.channels 64 && (nat_le 1 f.samples && (nat_le f.samples 1048576 && nat_le f.origin 1048575)))

-- the two numbers of a span
abbrev pub bounds_of : Span → Bounds
bounds_of s = record { least = s.least; greatest = s.greatest }

-- the rows that a list of spans has
abbrev pub rows_of : SpanList → List Bounds
rows_of l = take l.len l.rows
