-- What an operation tells of its command, what building it comes to, and what a reply to it comes to.
use Rattle.std.specs.Prelude.{◌≡◌, ◌↔◌, ℕ, ◌≤◌, ℤ, Bool, false, List, [], ◌∷◌, length, take, ◌++◌, Option, None, Some, ◌⊎◌, Result, Ok, Err}
use denote.Ref.{Bor}
use Rattle.bson_lite.specs.declared.bson.Bson.{Bson}
use Rattle.bson_lite.specs.declared.document.Pair.{Pair}
use Rattle.bson_lite.specs.declared.fault.EncodeFault.{EncodeFault}
use Rattle.bson_lite.specs.declared.namespace.Namespace.{Namespace}
use Rattle.bson_lite.specs.Spelling.{refusal}
use Rattle.driver_error.specs.declared.error.Error.{Error}
use Rattle.driver_error.specs.declared.kind.ErrorKind.TheVariants as kind
use Rattle.driver_error.specs.Error.{ErrorKind, HasResponse, IsAlone, kind_of}
use Rattle.driver_error.specs.LabelTexts.{no_labels}
use Rattle.driver_options.specs.declared.concerns.ReadConcern.{ReadConcern}
use Rattle.driver_options.specs.declared.concerns.WriteConcern.{WriteConcern}
use Rattle.driver_options.specs.declared.options.ClientOptions.{ClientOptions}
use Rattle.driver_options.specs.declared.options.Description.{Description}
use Rattle.driver_options.specs.declared.options.SelectionCriteria.{SelectionCriteria}
use Rattle.driver_link.specs.declared.command.CommandName.{CommandName}
use Rattle.driver_link.specs.declared.frame.Documents.{Documents}
use Rattle.driver_link.specs.declared.machine.Entry.{Entry}
use Rattle.driver_link.specs.declared.machine.Place.{Place}
use Rattle.driver_link.specs.declared.machine.Send.{Send}
use Rattle.driver_link.specs.declared.machine.SendBody.{SendBody}
use Rattle.driver_link.specs.Asking.{asks}
use Rattle.driver_link.specs.Framed.{Framed}
use Rattle.driver_link.specs.Reads.{Reads, SpellSequences}
use Rattle.driver_session.specs.declared.retryability.Retryability.{Retryability}
use Rattle.driver_ops.specs.declared.command.Command.{Command}
use Rattle.driver_ops.specs.declared.feature.Feature.{Feature}
use Rattle.driver_ops.specs.declared.operation.Reading.{Reading}
use Rattle.driver_ops.specs.declared.operation.Reading.TheVariants.{Done, Page as Further}
use Rattle.driver_ops.specs.declared.response.CommandResponse.{CommandResponse}
use Rattle.driver_ops.specs.declared.target.OperationTarget.{OperationTarget}
use Rattle.driver_ops.specs.Fields.{AreCommon, IsFrameOf, IsPlain, IsSixteen, SendContext, with_fields}
use Rattle.driver_ops.specs.Responses.{ReadsResponse}
use Rattle.driver_ops.specs.SendKinds.{SendKind}

-- one page of the answer to a command: the document that came, or why none came
abbrev pub Page : Type 0
Page = Result (List (Pair Bson)) Error

-- the page behind a reference
abbrev pub page_told : Result (Bor (List (Pair Bson))) Error → Page
page_told (Ok reply) = Ok reply.now
page_told (Err failure) = Err failure

-- where what was read leaves its cursor open
abbrev pub OnPage : {A : Type 0} → Result (Reading A) Error → Type 0 → Type 0
OnPage (Ok (Further cursor namespace)) claim = claim
OnPage result claim = Unit {0}

-- an answer is the one reply
abbrev pub ReadsAlone : {A : Type 0} → (List (Pair Bson) → Result A Error → Type 0) → List Page → Result (Reading A) Error → Type 0
ReadsAlone reads (Ok reply ∷ []) (Ok (Done output)) = reads reply (Ok output)
ReadsAlone reads (Ok reply ∷ []) (Err error) = reads reply (Err error)
ReadsAlone reads pages result = ⊥

-- what an operation tells: the name of its command and what it goes to; which commands it builds, by the kind of the send and
-- the number of statements; what a command of so many statements asks for, with the places of all its remaining writes; how many
-- statements a build takes for a connection that is described so, and what it is refused with, beside want of memory, both by the
-- number that earlier builds fixed; its options, of which some are by the kind of the send; what of it may be repeated; whether its
-- answer may have more pages than one; what the pages of an answer to a command of so many statements come to, the newest first; and what its output is by the entries of its
-- writes, in order
pub record OperationSpec (A : Type 0) : Type 1 where
  pub name : CommandName
  pub target : OperationTarget
  pub commands : SendKind → ℕ → Command → Type 0
  pub bodies : ℕ → List Place → SendBody → Type 0
  pub takes : Option ℕ → Description → ℕ → Type 0
  pub refused : Option ℕ → Description → Error → Type 0
  pub write_concern : SendKind → Feature WriteConcern
  pub read_concern : Feature ReadConcern
  pub selection_criteria : SendKind → Feature SelectionCriteria
  pub sessions : Bool
  pub retryability : ClientOptions → Retryability
  pub backpressure : ClientOptions → Bool
  pub after_cluster_time : Bool
  pub paged : Bool
  pub reads : ℕ → List Page → Result (Reading A) Error → Type 0
  pub output : List Entry → A → Type 0

-- an operation tells before and now the same
pub record SameSpec {A : Type 0} (old now : OperationSpec A) : Type 0 where
  pub name : now.name ≡ old.name
  pub target : now.target ≡ old.target
  pub commands : (which : SendKind) (statements : ℕ) (command : Command) → old.commands which statements command ↔ now.commands which statements command
  pub bodies : (statements : ℕ) (places : List Place) (body : SendBody) → old.bodies statements places body ↔ now.bodies statements places body
  pub takes : (fixed : Option ℕ) (description : Description) (statements : ℕ) → old.takes fixed description statements ↔ now.takes fixed description statements
  pub refused : (fixed : Option ℕ) (description : Description) (error : Error) → old.refused fixed description error ↔ now.refused fixed description error
  pub write_concern : (which : SendKind) → now.write_concern which ≡ old.write_concern which
  pub read_concern : now.read_concern ≡ old.read_concern
  pub selection_criteria : (which : SendKind) → now.selection_criteria which ≡ old.selection_criteria which
  pub sessions : now.sessions ≡ old.sessions
  pub retryability : (options : ClientOptions) → now.retryability options ≡ old.retryability options
  pub backpressure : (options : ClientOptions) → now.backpressure options ≡ old.backpressure options
  pub after_cluster_time : now.after_cluster_time ≡ old.after_cluster_time
  pub paged : now.paged ≡ old.paged
  pub reads : (statements : ℕ) (pages : List Page) (result : Result (Reading A) Error) → old.reads statements pages result ↔ now.reads statements pages result
  pub output : (entries : List Entry) (output : A) → old.output entries output ↔ now.output entries output

-- the same may be sent under both kinds
pub record SameAt {A : Type 0} (spec : OperationSpec A) (old now : SendKind) : Type 0 where
  pub commands : (statements : ℕ) (command : Command) → spec.commands old statements command ↔ spec.commands now statements command
  pub write_concern : spec.write_concern now ≡ spec.write_concern old
  pub selection_criteria : spec.selection_criteria now ≡ spec.selection_criteria old

-- so many statements may be in a command, by what earlier builds put there
abbrev pub IsFixed : Option ℕ → ℕ → Type 0
IsFixed None statements = Unit {0}
IsFixed (Some fixed) statements = fixed ≡ statements

-- a number that is fixed stays: what may be in a command now may have been before
abbrev pub StaysFixed : Option ℕ → Option ℕ → Type 0
StaysFixed old now = (statements : ℕ) → IsFixed now statements → IsFixed old statements

-- the places of an operation's remaining writes, and how many statements its command has
pub record Batch : Type 0 where
  pub places : List Place
  pub statements : ℕ

-- these places, with so many statements in the command
abbrev pub batch_of : List Place → ℕ → Batch
batch_of places statements = record { places = places; statements = statements }

-- the places of the command's own writes: the front
abbrev pub front : Batch → List Place
front batch = take batch.statements batch.places

-- what a command of the batch asks for
abbrev pub AsksFor : {A : Type 0} → OperationSpec A → Batch → SendBody → Type 0
AsksFor spec batch body = spec.bodies batch.statements batch.places body

-- for each command that it may build the operation asks for something, with these places
abbrev pub HasBodies : {A : Type 0} → OperationSpec A → List Place → Type 0
HasBodies spec places = (which : SendKind) (statements : ℕ) (command : Command) → spec.commands which statements command → ((body : SendBody) × spec.bodies statements places body)

-- with the places of its writes a command asks for this, whichever of the executor's fields are appended
pub record CommandAsks (command : Command) (places : List Place) (body : SendBody) : Type 0 where
  pub sequences : List Documents
  pub spelled : SpellSequences sequences command.sequences
  pub asks : (fields : List (Pair Bson)) → AreCommon fields → asks command.database (command.body ++ fields) sequences places ≡ Some body

-- a command of an operation, without the executor's fields, that has so many statements: it asks for the front of the places
pub record IsBuilt {A : Type 0} (spec : OperationSpec A) (which : SendKind) (statements : ℕ) (command : Command) : Type 0 where
  pub name : command.name ≡ spec.name
  pub is : spec.commands which statements command
  pub plain : IsPlain command.body
  pub asks : (places : List Place) (body : SendBody) → spec.bodies statements places body → CommandAsks command (take statements places) body
  pub within : (places : List Place) (body : SendBody) → spec.bodies statements places body → statements ≤ length places

-- a built command, which has as many statements as a build for the connection takes, and as those that were built before
pub record BuildsCommand {A : Type 0} (spec : OperationSpec A) (which : SendKind) (description : Description) (before now : Option ℕ) (command : Command) : Type 0 where
  pub statements : ℕ
  pub built : IsBuilt spec which statements command
  pub takes : spec.takes before description statements
  pub fixed : IsFixed before statements
  pub now_is : now ≡ Some statements

-- the kinds of error that a build may be refused with
abbrev pub MayRefuse : ErrorKind → Type 0
MayRefuse (kind.InvalidArgument message) = Unit {0}
MayRefuse (kind.BsonSerialization fault) = Unit {0}
MayRefuse (kind.IncompatibleServer message) = Unit {0}
MayRefuse (kind.Internal message) = Unit {0}
MayRefuse _ = ⊥

-- a build for a connection that is described so, by the number of statements that is fixed, is refused with this error, which
-- has its kind and nothing else
pub record Refuses {A : Type 0} (spec : OperationSpec A) (fixed : Option ℕ) (description : Description) (error : Error) : Type 0 where
  pub refused : spec.refused fixed description error
  pub may : MayRefuse (kind_of error)
  pub alone : IsAlone (kind_of error) no_labels error

-- a built command for a connection that is described so, or why there is none: then the number of statements is as before
abbrev pub Builds : {A : Type 0} → OperationSpec A → SendKind → Description → Option ℕ → Option ℕ → Result Command Error → Type 0
Builds spec which description before now (Ok command) = BuildsCommand spec which description before now command
Builds spec which description before now (Err error) = (now ≡ before) × (Refuses spec before description error ⊎ (kind_of error ≡ kind.Memory))

-- the send of what is asked for, outside transactions
abbrev pub send_of : SendContext → SendBody → Send
send_of context body = record { session = context.session; number = context.number; start = false; in_transaction = false; body = body }

-- a frame is a built command with the executor's fields
pub record IsFramed {A : Type 0} (spec : OperationSpec A) (which : SendKind) (statements : ℕ) (context : SendContext) (frame : Framed) : Type 0 where
  pub command : Command
  pub built : IsBuilt spec which statements command
  pub is : IsFrameOf (with_fields context command) frame

-- with the front of the places the frame reads as what is asked for
abbrev pub ReadsAsAsked : {A : Type 0} → OperationSpec A → Batch → SendContext → Framed → Type 0
ReadsAsAsked spec batch context frame = (body : SendBody) → AsksFor spec batch body → Reads frame (front batch) (send_of context body)

-- a built command with the executor's fields has no spelling
pub record HasNoSpelling {A : Type 0} (spec : OperationSpec A) (context : SendContext) (fault : EncodeFault) : Type 0 where
  pub which : SendKind
  pub statements : ℕ
  pub command : Command
  pub is : spec.commands which statements command
  pub sixteen : IsSixteen context.session
  pub refused : refusal (with_fields context command).body ≡ Some fault

-- a built command has no frame, since it has no spelling, and the error tells why and nothing else
pub record IsUnframed {A : Type 0} (spec : OperationSpec A) (context : SendContext) (error : Error) : Type 0 where
  pub fault : EncodeFault
  pub none : HasNoSpelling spec context fault
  pub is : IsAlone (kind.BsonSerialization fault) no_labels error

-- a build takes the one statement that there is
abbrev pub takes_one : Option ℕ → Description → ℕ → Type 0
takes_one fixed description statements = statements ≡ 1

-- nothing is refused
abbrev pub never : Option ℕ → Description → Error → Type 0
never fixed description error = ⊥

-- the error that an operation reads in a reply to a command of so many statements that was done and in the pages behind it, the
-- newest first, with the reply in it
pub record ReadsPagesError {A : Type 0} (spec : OperationSpec A) (statements : ℕ) (bytes : List ℕ) (pages : List Page) (error : Error) : Type 0 where
  pub response : CommandResponse
  pub done : ReadsResponse bytes (Ok response)
  pub bare : Error
  pub reads : spec.reads statements (pages ++ Ok response.body ∷ []) (Err bare)
  pub kept : HasResponse (Some bytes) bare error

-- the output that it reads in them
pub record ReadsPagesOutput {A : Type 0} (spec : OperationSpec A) (statements : ℕ) (bytes : List ℕ) (pages : List Page) (output : A) : Type 0 where
  pub response : CommandResponse
  pub done : ReadsResponse bytes (Ok response)
  pub reads : spec.reads statements (pages ++ Ok response.body ∷ []) (Ok (Done output))

-- what is read in the reply and these pages leaves this cursor open, which is asked for under a namespace
pub record LeavesCursor {A : Type 0} (spec : OperationSpec A) (statements : ℕ) (bytes : List ℕ) (pages : List Page) (cursor : ℤ) (namespace : Namespace) : Type 0 where
  pub response : CommandResponse
  pub done : ReadsResponse bytes (Ok response)
  pub reads : spec.reads statements (pages ++ Ok response.body ∷ []) (Ok (Further cursor namespace))

-- the same of the reply alone
abbrev pub ReadsError : {A : Type 0} → OperationSpec A → ℕ → List ℕ → Error → Type 0
ReadsError spec statements bytes error = ReadsPagesError spec statements bytes [] error

abbrev pub ReadsOutput : {A : Type 0} → OperationSpec A → ℕ → List ℕ → A → Type 0
ReadsOutput spec statements bytes output = ReadsPagesOutput spec statements bytes [] output

-- what a reply to a command of so many statements and the pages behind it come to: the output that the operation reads in them,
-- the error that the reply or the operation spells, or want of memory
abbrev pub ReadsPages : {A : Type 0} → OperationSpec A → ℕ → List ℕ → List Page → Result A Error → Type 0
ReadsPages spec statements bytes pages (Ok output) = ReadsPagesOutput spec statements bytes pages output
ReadsPages spec statements bytes pages (Err error) = ReadsResponse bytes (Err error) ⊎ (ReadsPagesError spec statements bytes pages error ⊎ (kind_of error ≡ kind.Memory))

-- the same of a reply alone, which is the whole answer
abbrev pub ReadsAnswer : {A : Type 0} → OperationSpec A → ℕ → List ℕ → Result A Error → Type 0
ReadsAnswer spec statements bytes result = ReadsPages spec statements bytes [] result
