-- Fields and numbers of a reply.
use Rattle.std.specs.Prelude.{ℕ, ◌&&◌, ◌^◌, ℤ, pos, negsuc, List, int_lt, if◌then◌else◌}
use Rattle.bson_lite.specs.declared.bson.Bson.{Bson}
use Rattle.bson_lite.specs.declared.bson.Bson as bson
use Rattle.bson_lite.specs.declared.document.Pair.{Pair}

-- one field
abbrev pub field : List ℕ → Bson → Pair Bson
field key value = record { key = key; value = value }

-- a number as a reply has it: an Int32 where it fits, else an Int64
unfoldable pub reply_number : ℤ → Bson
reply_number n = if int_lt (negsuc (2 ^ 31)) n && int_lt n (pos (2 ^ 31)) then bson.Int32 n else bson.Int64 n

-- a count as a reply has it
abbrev pub reply_count : ℕ → Bson
reply_count n = reply_number (pos n)
