-- The ids of the caller's documents of one insert, drawn in order for those that have none, once for the whole call.
use Rattle.std.specs.Prelude.{◌≡◌, ℕ, List, [], ◌∷◌, take, ◌⊎◌}
use Rattle.bson_lite.specs.declared.bson.Bson.{Bson}
use Rattle.bson_lite.specs.declared.bson.ObjectId.{ObjectId}
use Rattle.bson_lite.specs.declared.document.Pair.{Pair}
use Rattle.bson_lite.specs.Fields.{id_key, value_of}
use Rattle.driver_error.specs.declared.error.Error.{Error}
use Rattle.driver_error.specs.declared.kind.ErrorKind.TheVariants.{Memory}
use Rattle.driver_error.specs.Error.{kind_of}
use Rattle.driver_session.specs.StoreTells.{StoreTells}
use Rattle.write_ops.specs.declared.own_document.OwnDocument.{OwnDocument}
use Rattle.write_ops.specs.InsertSpec.{AreOwn}
use Rattle.driver_attempt.specs.Moment.{Moment}
use Rattle.driver_actions.specs.OwnIds.{DrawsOwnId}
use Rattle.driver_inputs.specs.ManyInputs.{AreTwelve, with_ids}

-- for each document without an id one is drawn, in order, each the next to come; for one that has an id nothing is
abbrev pub DrawsOwnIds : StoreTells → StoreTells → List (List (Pair Bson)) → List ObjectId → Type 0
DrawsOwnIds store now [] [] = now ≡ store
DrawsOwnIds store now [] (id ∷ ids) = ⊥
DrawsOwnIds store now (document ∷ documents) [] = ⊥
DrawsOwnIds store now (document ∷ documents) (id ∷ ids) =
    (mid : StoreTells) × (DrawsOwnId (value_of id_key document) store mid id × DrawsOwnIds mid now documents ids)

-- the caller's documents as they are sent, each with its id, which was drawn where it had none
pub record OwnsAll (store store_now : StoreTells) (given : List (List (Pair Bson))) (own : List OwnDocument) : Type 0 where
  pub ids : List ObjectId
  pub twelve : AreTwelve ids
  pub draws : DrawsOwnIds store store_now given ids
  pub are_own : AreOwn (with_ids ids given) own

-- ids were drawn for so many documents at the front, in order, and nothing else changed
pub record DrawsForFront (before now : Moment) (given : List (List (Pair Bson))) : Type 0 where
  pub count : ℕ
  pub ids : List ObjectId
  pub twelve : AreTwelve ids
  pub draws : DrawsOwnIds before.store now.store (take count given) ids
  pub rest : now ≡ record before { store = now.store }

-- in a call that ended with this error nothing was drawn, or memory ran out
abbrev pub MayDrawAllBy : Moment → Moment → List (List (Pair Bson)) → Error → Type 0
MayDrawAllBy before now given error = (now ≡ before) ⊎ ((kind_of error ≡ Memory) × DrawsForFront before now given)
