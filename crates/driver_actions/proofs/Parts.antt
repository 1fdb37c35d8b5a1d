-- One call of a single write, from its parts.
use Rattle.std.proofs.Common.{◌≡◌, List, [], ◌∷◌, refl, ap, subst, inl, inr}
use Rattle.std.specs.Prelude.{IsErrAnd, IsSome, Some, Result, Ok, Err}
use Rattle.bson_lite.specs.declared.bson.Bson.{Bson}
use Rattle.bson_lite.specs.declared.document.Pair.{Pair}
use Rattle.bson_lite.specs.declared.namespace.Namespace.{Namespace}
use Rattle.bson_lite.specs.Fields.{value_of, id_key}
use Rattle.bson_lite.specs.Spelling.{Spells}
use Rattle.driver_error.specs.declared.error.Error.{Error}
use Rattle.driver_error.specs.declared.kind.ErrorKind.TheVariants as kind
use Rattle.server_answers.specs.declared.results.InsertManyResult.{InsertManyResult}
use Rattle.server_answers.specs.declared.results.InsertOneResult.{InsertOneResult}
use Rattle.driver_error.specs.Error.{IsAlone}
use Rattle.driver_error.specs.LabelTexts.{no_labels}
use Rattle.driver_options.specs.declared.options.ClientOptions.{ClientOptions}
use Rattle.driver_options.specs.declared.write_options.InsertManyOptions.{InsertManyOptions}
use Rattle.driver_link.specs.declared.machine.Place.{Place}
use Rattle.driver_link.specs.declared.machine.SendBody.{SendBody}
use Rattle.driver_session.specs.StoreTells.{MayDrawObjectId, StoreTells}
use Rattle.driver_ops.specs.Targets.{in_collection}
use Rattle.write_ops.specs.declared.own_document.OwnDocument.{OwnDocument}
use Rattle.write_ops.specs.InsertSpec.{insert_spec}
use Rattle.driver_attempt.specs.Moment.{Moment}
use Rattle.driver_actions.specs.OwnIds.{DrawsOwn, MayDrawId, Owns}
use Rattle.driver_actions.specs.SingleCalls.{Made, Makes, MayDrawFor, Runs, Tells}
use Rattle.driver_inputs.specs.declared.call.SingleAnswer.{SingleAnswer}
use Rattle.driver_inputs.specs.declared.call.SingleAnswer.TheVariants.{Inserted}
use Rattle.driver_inputs.specs.Forms.{WriteForm, asked_in, deletes, finds, inserts, updates, written_in}
use Rattle.driver_inputs.specs.Inputs.{IsAccepted, TellsInput}

-- the store of a client alone changes where its options stay
same_client : (before : Moment) (store : StoreTells) (options : ClientOptions) → options ≡ before.client.options
    → record before { store = store; client = record { options = options } } ≡ record before { store = store }
same_client before store options is = ap (λ o. record before { store = store; client = record { options = o } }) is

-- the store of a client drew an object id or not, and the options of the client stay
pub may_draw : (before : Moment) (document : List (Pair Bson)) (store : StoreTells) (options : ClientOptions) → options ≡ before.client.options → MayDrawObjectId before.store store
    → (IsSome (value_of id_key document) → store ≡ before.store) → MayDrawId before (record before { store = store; client = record { options = options } }) document
may_draw before document store options is draws unused = record { draws = draws; unused = unused; rest = same_client before store options is }

-- a caller's document with its id, which was drawn from the store where it had none
module _ (before : Moment) (store : StoreTells) (options : ClientOptions) (same : options ≡ before.client.options) (namespace : Namespace) (document : List (Pair Bson))
    (given : InsertManyOptions) (place : Place) (own : OwnDocument) (answer : InsertOneResult) (owns : Owns before.store store document own answer) where
  -- the moment after that
  abbrev mid : Moment
  mid = record before { store = store; client = record { options = options } }

  -- its id was drawn
  own_draws : DrawsOwn before mid document owns.document.id
  own_draws = record { draws = owns.document.draws; rest = same_client before store options same }

  -- what its insert asks for
  abbrev pub own_asked : SendBody
  own_asked = asked_in (inserts namespace document given) place (written_in (inserts namespace owns.sent given))

  -- it was made where the insert was run
  pub insert_made : IsAccepted (inserts namespace document given) → (now : Moment) (ended : Result InsertManyResult Error) (result : Result SingleAnswer Error)
      → Runs (insert_spec (in_collection namespace) 0 (own ∷ []) given) own_asked place mid now ended → Tells (λ output. Inserted answer) ended result
      → Made before now (inserts namespace document given) place result
  insert_made accepted now ended result runs tells = record {
    accepted = accepted;
    sent = written_in (inserts namespace owns.sent given);
    mid = mid;
    runs = record {
      id = owns.document.id;
      twelve = owns.document.twelve;
      draws = own_draws;
      sent_is = ap (λ d. written_in (inserts namespace d given)) owns.document.document;
      own = own;
      spelled = subst (λ d. Spells d own.bytes) owns.document.document owns.spelled;
      found = subst (λ d. value_of id_key d ≡ Some own.id) owns.document.document owns.document.found;
      ended = ended;
      runs = runs;
      tells = subst (λ a. Tells {A = InsertManyResult} (λ output. Inserted a) ended result) owns.answer_is tells;
    };
  }

-- before anything is asked a write has drawn nothing
drew_nothing : (form : WriteForm) (before : Moment) (error : Error) → MayDrawFor form before before error
drew_nothing (inserts namespace document options) before error = inl refl
drew_nothing (updates namespace filter change multi options) before error = refl
drew_nothing (deletes namespace filter multi options) before error = refl
drew_nothing (finds namespace filter modification options) before error = refl

-- a write whose input was refused, or for which there was no memory before an id was drawn
pub unmade_input : (before : Moment) (form : WriteForm) (place : Place) (error : Error) → TellsInput form error → Makes before before form place (Err error)
unmade_input before form place error why = inl (record { draws = drew_nothing form before error; why = why })

pub unmade_early : (before : Moment) (form : WriteForm) (place : Place) (error : Error) → IsAlone kind.Memory no_labels error → Makes before before form place (Err error)
unmade_early before form place error memory = unmade_input before form place error (inl memory)

-- the same of what the exit of a `?` returns
pub unmade_exit : (before : Moment) (form : WriteForm) (place : Place) (result : Result SingleAnswer Error) → IsErrAnd result (λ error. IsAlone kind.Memory no_labels error)
    → Makes before before form place result
unmade_exit before form place (Ok given) exits = absurd exits
unmade_exit before form place (Err error) exits = unmade_early before form place error exits

-- an insert for which there was no memory
pub unmade_memory : (before now : Moment) (namespace : Namespace) (document : List (Pair Bson)) (options : InsertManyOptions) (place : Place) (error : Error) → MayDrawId before now document
    → IsAlone kind.Memory no_labels error → Makes before now (inserts namespace document options) place (Err error)
unmade_memory before now namespace document options place error draws memory = inl (record { draws = inr (memory.kind_is, draws); why = inl memory })
