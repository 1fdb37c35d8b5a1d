-- The order of timestamps.
use Rattle.std.specs.Ordering.{nat_cmp, ordering_then}
use Rattle.std.specs.declared.cmp.Ordering.{Ordering}
use Rattle.bson_lite.specs.declared.bson.Timestamp.{Timestamp}

-- by time, and where that is the same by increment
abbrev pub by_time_then_increment : Timestamp → Timestamp → Ordering
by_time_then_increment a b = ordering_then (nat_cmp a.time b.time) (nat_cmp a.increment b.increment)
