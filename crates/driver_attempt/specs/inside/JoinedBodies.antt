-- The bytes of a document with more elements behind its own, and those of a command's body with the executor's fields.
use Rattle.std.specs.Prelude.{◌≡◌, ℕ, ◌+◌, ◌-◌, ◌≤◌, ℤ, true, List, [], ◌∷◌, ◌++◌, length, take, drop, Option, None, Some}
use Rattle.bson_lite.specs.declared.bson.Bson.{Bson}
use Rattle.bson_lite.specs.declared.bson.Bson as bson
use Rattle.bson_lite.specs.declared.document.Pair.{Pair}
use Rattle.bson_lite.specs.Ranges.{fits}
use Rattle.bson_lite.specs.Spelling.{Spells, four}
use Rattle.wire_keys.specs.declared.keys.TheConstants.{DATABASE}
use Rattle.driver_link.specs.Numbers.{field}
use Rattle.driver_ops.specs.declared.command.Command.{Command}
use Rattle.driver_ops.specs.Fields.{SendContext, executor_fields}

-- what stands between the length of a document in bytes and its last byte
abbrev pub elements_in : List ℕ → List ℕ
elements_in bytes = take (length bytes - 1 - 4) (drop 4 bytes)

-- bytes with the elements of a document and more behind them, in a frame of their own, which is not too long
pub record JoinsElements (own more bytes : List ℕ) : Type 0 where
  pub is : bytes ≡ four (length own + length more) ++ ((elements_in own ++ more) ++ 0 ∷ [])
  pub short : length own + length more ≤ 2147483647

-- the same, where there are such bytes
abbrev pub MayJoin : List ℕ → List ℕ → Option (List ℕ) → Type 0
MayJoin own more None = Unit {0}
MayJoin own more (Some bytes) = JoinsElements own more bytes

-- bytes that spell the body of a command with the executor's fields, where there are some
abbrev pub SpellsBody : SendContext → Command → Option (List ℕ) → Type 0
SpellsBody context command None = Unit {0}
SpellsBody context command (Some bytes) = Spells (command.body ++ executor_fields context command.database) bytes

-- a transaction number, where there is one, has 64 bits
abbrev pub InRange : Option ℤ → Type 0
InRange None = Unit {0}
InRange (Some number) = fits 0x8000_0000_0000_0000 number ≡ true

-- the field that names the database
abbrev pub database_field : List ℕ → List (Pair Bson)
database_field database = field DATABASE.now (bson.String database) ∷ []
