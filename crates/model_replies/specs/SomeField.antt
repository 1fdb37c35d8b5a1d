-- A list under a key, where it is not empty.
use Rattle.std.specs.Prelude.{ℕ, List, [], ◌∷◌}
use Rattle.bson_lite.specs.declared.bson.Bson.{Bson}
use Rattle.bson_lite.specs.declared.bson.Bson as bson
use Rattle.bson_lite.specs.declared.fields.TheConstants.{ID_KEY}
use Rattle.driver_link.specs.Cursors.{Reply}
use Rattle.driver_link.specs.Numbers.{field, reply_count}
use Rattle.wire_keys.specs.declared.keys.TheConstants.{INDEX}

-- the field of a list of values, where there are some
abbrev pub some_field : List ℕ → List Bson → Reply
some_field key [] = []
some_field key (value ∷ values) = field key (bson.Array (value ∷ values)) ∷ []

-- a document that an update inserted, with the position of its statement
abbrev pub upsert_value : ℕ → Bson → Bson
upsert_value at id = bson.Document (field INDEX.now (reply_count at) ∷ field ID_KEY.now id ∷ [])
