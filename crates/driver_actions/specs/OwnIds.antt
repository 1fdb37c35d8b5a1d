-- The id of a caller's document: its own, else the next object id to come, which is drawn for it.
use Rattle.std.specs.Prelude.{◌≡◌, List, length, Option, None, Some, IsSome, ◌⊎◌}
use Rattle.bson_lite.specs.declared.bson.Bson.{Bson}
use Rattle.bson_lite.specs.declared.bson.ObjectId.{ObjectId}
use Rattle.bson_lite.specs.declared.document.Pair.{Pair}
use Rattle.bson_lite.specs.Fields.{id_key, value_of, with_id}
use Rattle.bson_lite.specs.Spelling.{Spells}
use Rattle.driver_error.specs.declared.error.Error.{Error}
use Rattle.driver_error.specs.declared.kind.ErrorKind.TheVariants.{Memory}
use Rattle.server_answers.specs.declared.results.InsertOneResult.{InsertOneResult}
use Rattle.driver_error.specs.Error.{kind_of}
use Rattle.driver_session.specs.StoreTells.{DrawsObjectId, MayDrawObjectId, StoreTells}
use Rattle.write_ops.specs.declared.own_document.OwnDocument.{OwnDocument}
use Rattle.driver_attempt.specs.Moment.{Moment}

-- for a document without an id this one is drawn, the next to come; for one that has an id nothing is
abbrev pub DrawsOwnId : Option Bson → StoreTells → StoreTells → ObjectId → Type 0
DrawsOwnId None store now id = DrawsObjectId store now id.bytes
DrawsOwnId (Some found) store now id = now ≡ store

-- a document has an id, at its front where it had none; there it is the one that was drawn
pub record HasOwnId (store store_now : StoreTells) (given now : List (Pair Bson)) (value : Bson) : Type 0 where
  pub id : ObjectId
  pub twelve : length id.bytes ≡ 12
  pub draws : DrawsOwnId (value_of id_key given) store store_now id
  pub document : now ≡ with_id id given
  pub found : value_of id_key now ≡ Some value

-- the id of a document was drawn where it has none, and nothing else changed
pub record DrawsOwn (before now : Moment) (document : List (Pair Bson)) (id : ObjectId) : Type 0 where
  pub draws : DrawsOwnId (value_of id_key document) before.store now.store id
  pub rest : now ≡ record before { store = now.store }

-- an object id was drawn or not, but none for a document that has one, and nothing else changed
pub record MayDrawId (before now : Moment) (document : List (Pair Bson)) : Type 0 where
  pub draws : MayDrawObjectId before.store now.store
  pub unused : IsSome (value_of id_key document) → now.store ≡ before.store
  pub rest : now ≡ record before { store = now.store }

-- in a call that ended with this error nothing was drawn, or memory ran out
abbrev pub MayDrawBy : Moment → Moment → List (Pair Bson) → Error → Type 0
MayDrawBy before now document error = (now ≡ before) ⊎ ((kind_of error ≡ Memory) × MayDrawId before now document)

-- a caller's document as it is sent, with its id, which was drawn where it had none, and the answer that tells it
pub record Owns (store store_now : StoreTells) (given : List (Pair Bson)) (own : OwnDocument) (answer : InsertOneResult) : Type 0 where
  pub sent : List (Pair Bson)
  pub document : HasOwnId store store_now given sent own.id
  pub spelled : Spells sent own.bytes
  pub answer_is : answer ≡ record { inserted_id = own.id }
