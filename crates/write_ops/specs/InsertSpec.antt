-- What an insert tells as an operation.
use Rattle.std.specs.Prelude.{◌≡◌, ℕ, ◌+◌, ◌<◌, ◌≤◌, true, false, List, [], ◌∷◌, length, map, take, Option, None, Some}
use Rattle.std.specs.FinMap as finite
use Rattle.std.specs.Ordering.{nat_cmp}
use Rattle.bson_lite.specs.declared.bson.Bson.{Bson}
use Rattle.bson_lite.specs.declared.document.Pair.{Pair}
use Rattle.bson_lite.specs.declared.namespace.Namespace.{Namespace}
use Rattle.bson_lite.specs.Fields.{id_key, value_of}
use Rattle.bson_lite.specs.Spelling.{Spells}
use Rattle.server_answers.specs.declared.results.InsertManyResult.{InsertManyResult}
use Rattle.driver_options.specs.declared.options.ClientOptions.{ClientOptions}
use Rattle.driver_options.specs.declared.write_options.InsertManyOptions.{InsertManyOptions}
use Rattle.driver_link.specs.declared.command.CommandName.TheVariants as name
use Rattle.driver_link.specs.declared.machine.Entry.{Entry}
use Rattle.driver_link.specs.declared.machine.Place.{Place}
use Rattle.driver_link.specs.declared.machine.SendBody.{SendBody}
use Rattle.driver_link.specs.declared.machine.SendBody.TheVariants.{Write}
use Rattle.driver_link.specs.declared.machine.SendCommand.TheVariants as command
use Rattle.driver_session.specs.declared.retryability.Retryability.{Retryability}
use Rattle.driver_ops.specs.declared.command.Command.{Command}
use Rattle.driver_ops.specs.declared.feature.Feature.TheVariants.{Inherit, NotSupported}
use Rattle.driver_ops.specs.declared.target.OperationTarget.{OperationTarget}
use Rattle.driver_ops.specs.Defaults.{is_repeatable, repeated_where}
use Rattle.driver_ops.specs.Features.{feature_of}
use Rattle.driver_ops.specs.Inserts.{IsOneSequence, insert_command, insert_is_ordered, insert_writes}
use Rattle.driver_ops.specs.Operations.{OperationSpec, ReadsAlone}
use Rattle.driver_ops.specs.Targets.{namespace_of}
use Rattle.write_ops.specs.declared.own_document.OwnDocument.{OwnDocument}
use Rattle.write_ops.specs.InsertAnswers.{ReadsInsert}
use Rattle.write_ops.specs.InsertFronts.{RefusesFront, TakesFront, insert_limits}

-- the command of an insert of so many of these documents: into the namespace's collection, with its options and one sequence of
-- the front of the documents, as their bytes
pub record IsInsertCommand (namespace : Namespace) (own : List OwnDocument) (options : InsertManyOptions) (statements : ℕ) (made : Command) : Type 0 where
  pub some : 0 < statements
  pub within : statements ≤ length own
  pub database : made.database ≡ namespace.db
  pub body : made.body ≡ insert_command namespace options
  pub sequences : IsOneSequence made.sequences (map (λ document. document.bytes) (take statements own))

-- each document has the spelling and the id of the one at its place
abbrev pub AreOwn : List (List (Pair Bson)) → List OwnDocument → Type 0
AreOwn [] [] = Unit {0}
AreOwn [] (own ∷ rest) = ⊥
AreOwn (document ∷ documents) [] = ⊥
AreOwn (document ∷ documents) (own ∷ rest) = Spells document own.bytes × (value_of id_key document ≡ Some own.id) × AreOwn documents rest

-- the insert of the front of these documents, under the places at the front, where there is a place for each document
pub record AsksInsert (namespace : Namespace) (own : List OwnDocument) (options : InsertManyOptions) (statements : ℕ) (places : List Place) (body : SendBody) : Type 0 where
  pub documents : List (List (Pair Bson))
  pub are_own : AreOwn documents own
  pub each_placed : length places ≡ length own
  pub is : body ≡ Write command.Insert (insert_is_ordered options) (insert_writes namespace (take statements documents) (take statements places))

-- what an insert may repeat under these options
abbrev pub own_of_insert : ClientOptions → Retryability
own_of_insert options = repeated_where options.retry_writes

-- how many statements the command has by earlier builds; the insert of one document has one, whether it was built or not
abbrev pub statements_fixed : List OwnDocument → Option ℕ → Option ℕ
statements_fixed documents (Some fixed) = Some fixed
statements_fixed (document ∷ []) None = Some 1
statements_fixed documents None = None

-- an id at an index beside others, where a document has one
abbrev pub id_beside : ℕ → Option Bson → finite.FinMap nat_cmp Bson → finite.FinMap nat_cmp Bson
id_beside at None ids = ids
id_beside at (Some id) ids = finite.insert ids at id

-- the ids of the documents of entries by their indexes, the first at an index
abbrev pub ids_from : ℕ → List Entry → finite.FinMap nat_cmp Bson
ids_from at [] = finite.empty
ids_from at (entry ∷ entries) = id_beside at (value_of id_key entry.written.document) (ids_from (at + 1) entries)

-- the output of an insert is the ids of its documents
abbrev pub TellsIds : List Entry → InsertManyResult → Type 0
TellsIds entries output = output ≡ record { inserted_ids = ids_from 0 entries }

-- a build takes the longest front of the documents that the connection takes, each send has the same command, and the reply is
-- the whole answer. The documents are those of the caller's list from an index on
abbrev pub insert_spec : OperationTarget → ℕ → List OwnDocument → InsertManyOptions → OperationSpec InsertManyResult
insert_spec target first own options = record {
  name = name.Insert;
  target = target;
  commands = λ which. IsInsertCommand (namespace_of target) own options;
  bodies = AsksInsert (namespace_of target) own options;
  takes = λ fixed description. TakesFront (insert_limits (namespace_of target) options description) own fixed;
  refused = λ fixed description. RefusesFront (insert_limits (namespace_of target) options description) first own fixed;
  write_concern = λ which. feature_of options.write_concern;
  read_concern = NotSupported;
  selection_criteria = λ which. Inherit;
  sessions = true;
  retryability = own_of_insert;
  backpressure = λ options. is_repeatable (own_of_insert options);
  after_cluster_time = true;
  paged = false;
  reads = λ statements. ReadsAlone (ReadsInsert (insert_is_ordered options) (take statements own));
  output = TellsIds;
}
