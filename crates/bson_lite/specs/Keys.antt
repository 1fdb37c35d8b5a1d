-- The bytes of a key, wherever they stand.
use Rattle.std.specs.Prelude.{ℕ, List, string_bytes}
use Rattle.bson_lite.specs.declared.key.Kept.{Kept}
use Rattle.bson_lite.specs.declared.key.Kept.TheVariants.{Short, Long}

-- the bytes of a key
abbrev pub kept_bytes : Kept → List ℕ
kept_bytes (Short short) = short.bytes
kept_bytes (Long long) = string_bytes long
