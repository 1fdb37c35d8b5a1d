-- The commands of a cursor: the question for its next page, and its end.
use Rattle.std.specs.Prelude.{◌≡◌, ℕ, ℤ, Bool, true, false, List, [], ◌∷◌, Option, Result, Ok, Err}
use Rattle.bson_lite.specs.declared.bson.Bson.{Bson}
use Rattle.bson_lite.specs.declared.bson.Bson as bson
use Rattle.bson_lite.specs.declared.document.Pair.{Pair}
use Rattle.bson_lite.specs.declared.namespace.Namespace.{Namespace}
use Rattle.driver_error.specs.declared.error.Error.{Error}
use Rattle.driver_error.specs.declared.kind.ErrorKind.TheVariants as kind
use Rattle.driver_error.specs.Error.{kind_of}
use Rattle.driver_options.specs.declared.options.ClientOptions.{ClientOptions}
use Rattle.driver_options.specs.declared.options.Description.{Description}
use Rattle.driver_link.specs.declared.command.CommandName.TheVariants as name
use Rattle.wire_keys.specs.declared.keys.TheConstants.{COLLECTION, CURSORS, GET_MORE, KILL_CURSORS}
use Rattle.driver_link.specs.declared.machine.Entry.{Entry}
use Rattle.driver_link.specs.declared.machine.Place.{Place}
use Rattle.driver_link.specs.declared.machine.SendBody.{SendBody}
use Rattle.driver_link.specs.declared.machine.SendBody.TheVariants.{Kill, More}
use Rattle.driver_link.specs.Numbers.{field}
use Rattle.driver_session.specs.declared.retryability.Retryability.{Retryability}
use Rattle.driver_session.specs.declared.retryability.Retryability.TheVariants as may
use Rattle.driver_ops.specs.declared.command.Command.{Command}
use Rattle.driver_ops.specs.declared.feature.Feature.TheVariants.{NotSupported}
use Rattle.driver_ops.specs.declared.target.OperationTarget.{OperationTarget}
use Rattle.driver_ops.specs.declared.target.OperationTarget.TheVariants as target
use Rattle.driver_ops.specs.Operations.{ReadsAlone, OperationSpec, never}
use Rattle.driver_ops.specs.Targets.{namespace_of}

-- the body of the question: the cursor, and the collection that it is asked for under
unfoldable pub more_command : Namespace → ℤ → List (Pair Bson)
more_command namespace cursor = field GET_MORE.now (bson.Int64 cursor) ∷ field COLLECTION.now (bson.String namespace.coll) ∷ []

-- the body of the end: the collection, and the one cursor
unfoldable pub kill_command : Namespace → ℤ → List (Pair Bson)
kill_command namespace cursor = field KILL_CURSORS.now (bson.String namespace.coll) ∷ field CURSORS.now (bson.Array (bson.Int64 cursor ∷ [])) ∷ []

-- a command without statements, with this body, to a namespace's database, and nothing beside its body
pub record IsCursorCommand (namespace : Namespace) (own : List (Pair Bson)) (statements : ℕ) (made : Command) : Type 0 where
  pub none : statements ≡ 0
  pub database : made.database ≡ namespace.db
  pub body : made.body ≡ own
  pub sequences : made.sequences ≡ []

-- it asks for this, and has no places
pub record AsksCursor (asked : SendBody) (statements : ℕ) (places : List Place) (body : SendBody) : Type 0 where
  pub none : statements ≡ 0
  pub alone : places ≡ []
  pub is : body ≡ asked

-- a build takes no statement, as there is none
abbrev pub takes_none : Option ℕ → Description → ℕ → Type 0
takes_none fixed description statements = statements ≡ 0

-- nothing of it may be repeated
abbrev pub repeats_none : ClientOptions → Retryability
repeats_none options = may.None

-- nor after an overloaded server refused it
abbrev pub never_again : ClientOptions → Bool
never_again options = false

-- the answer to the question is the reply as a whole, unless memory runs out
abbrev pub ReadsMore : List (Pair Bson) → Result (List (Pair Bson)) Error → Type 0
ReadsMore reply (Ok output) = output ≡ reply
ReadsMore reply (Err error) = kind_of error ≡ kind.Memory

-- the end has no answer but that it was done
abbrev pub ReadsKill : List (Pair Bson) → Result (Unit {0}) Error → Type 0
ReadsKill reply (Ok output) = output ≡ tt
ReadsKill reply (Err error) = ⊥

-- neither writes, so no entry tells its output
abbrev pub TellsNoEntry : {A : Type 0} → List Entry → A → Type 0
TellsNoEntry entries output = Unit {0}

-- the question for the next page of a cursor tells this
abbrev pub more_spec : OperationTarget → ℤ → OperationSpec (List (Pair Bson))
more_spec goal cursor = record {
  name = name.GetMore;
  target = goal;
  commands = λ which. IsCursorCommand (namespace_of goal) (more_command (namespace_of goal) cursor);
  bodies = AsksCursor (More cursor);
  takes = takes_none;
  refused = never;
  write_concern = λ which. NotSupported;
  read_concern = NotSupported;
  selection_criteria = λ which. NotSupported;
  sessions = true;
  retryability = repeats_none;
  backpressure = never_again;
  after_cluster_time = false;
  paged = false;
  reads = λ statements. ReadsAlone ReadsMore;
  output = TellsNoEntry;
}

-- and the end of a cursor this: it is under no session
abbrev pub kill_spec : OperationTarget → ℤ → OperationSpec (Unit {0})
kill_spec goal cursor = record {
  name = name.KillCursors;
  target = goal;
  commands = λ which. IsCursorCommand (namespace_of goal) (kill_command (namespace_of goal) cursor);
  bodies = AsksCursor (Kill cursor);
  takes = takes_none;
  refused = never;
  write_concern = λ which. NotSupported;
  read_concern = NotSupported;
  selection_criteria = λ which. NotSupported;
  sessions = false;
  retryability = repeats_none;
  backpressure = never_again;
  after_cluster_time = false;
  paged = false;
  reads = λ statements. ReadsAlone ReadsKill;
  output = TellsNoEntry;
}

-- a cursor is asked for under its namespace
abbrev pub at_namespace : Namespace → OperationTarget
at_namespace namespace = target.Namespace namespace
