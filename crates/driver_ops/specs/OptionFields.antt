-- Fields of commands and statements that stand only where their option is set.
use Rattle.std.specs.Prelude.{ℕ, Bool, true, false, List, [], ◌∷◌, map, Option, None, Some}
use Rattle.bson_lite.specs.declared.bson.Bson.{Bson}
use Rattle.bson_lite.specs.declared.bson.Bson as bson
use Rattle.bson_lite.specs.declared.document.Pair.{Pair}
use Rattle.driver_options.specs.declared.updates.Hint.{Hint}
use Rattle.driver_options.specs.declared.updates.Hint.TheVariants.{Keys, Name}

-- the field of an option that is set to a value
abbrev pub option_field : List ℕ → Option Bson → List (Pair Bson)
option_field key None = []
option_field key (Some value) = record { key = key; value = value } ∷ []

-- a flag as a value
abbrev pub flag_of : Option Bool → Option Bson
flag_of None = None
flag_of (Some flag) = Some (bson.Boolean flag)

-- a document as a value
abbrev pub document_in : Option (List (Pair Bson)) → Option Bson
document_in None = None
document_in (Some document) = Some (bson.Document document)

-- documents as the values of an array
abbrev pub documents_value : List (List (Pair Bson)) → Bson
documents_value documents = bson.Array (map (λ document. bson.Document document) documents)

-- the same of an option
abbrev pub documents_of : Option (List (List (Pair Bson))) → Option Bson
documents_of None = None
documents_of (Some documents) = Some (documents_value documents)

-- an index by its keys or its name
abbrev pub hint_value : Hint → Bson
hint_value (Keys keys) = bson.Document keys
hint_value (Name name) = bson.String name

-- the same of an option
abbrev pub hint_of : Option Hint → Option Bson
hint_of None = None
hint_of (Some hint) = Some (hint_value hint)

-- a flag that stands only where it is true
abbrev pub where_true : Bool → Option Bson
where_true false = None
where_true true = Some (bson.Boolean true)
