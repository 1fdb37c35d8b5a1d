-- Why the documents of an insert are refused by themselves once each has an id.
use Rattle.std.specs.Prelude.{List, [], ◌∷◌, Option, None}
use Rattle.bson_lite.specs.declared.bson.Bson.{Bson}
use Rattle.bson_lite.specs.declared.bson.ObjectId.{ObjectId}
use Rattle.bson_lite.specs.declared.document.Pair.{Pair}
use Rattle.bson_lite.specs.declared.fault.EncodeFault.{EncodeFault}
use Rattle.bson_lite.specs.Fields.{with_id}
use Rattle.bson_lite.specs.Spelling.{refusal_within}
use Rattle.driver_inputs.specs.Faults.{first_of}

-- an id of zeros
unfoldable pub zero_id : ObjectId
zero_id = record { bytes = 0 ∷ 0 ∷ 0 ∷ 0 ∷ 0 ∷ 0 ∷ 0 ∷ 0 ∷ 0 ∷ 0 ∷ 0 ∷ 0 ∷ [] }

-- the fault of a caller's document by itself once it has an id: with that one, as with each other
unfoldable pub own_fault : List (Pair Bson) → Option EncodeFault
own_fault document = refusal_within 96 (with_id zero_id document)

-- the first of such faults
abbrev pub own_faults : List (List (Pair Bson)) → Option EncodeFault
own_faults [] = None
own_faults (document ∷ documents) = first_of (own_fault document) (own_faults documents)
