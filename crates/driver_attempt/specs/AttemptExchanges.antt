-- The exchanges of an attempt on its connection behind that of its command: questions for further pages of the answer, and an end
-- to a cursor whose page failed.
use Rattle.std.specs.Prelude.{◌≡◌, ℕ, ℤ, Bool, true, false, not, ◌||◌, List, [], ◌∷◌, ◌++◌, map, Option, None, Some, is_some, ◌⊎◌, Result, Ok, Err}
use Rattle.bson_lite.specs.declared.namespace.Namespace.{Namespace}
use Rattle.driver_error.specs.declared.error.Error.{Error}
use Rattle.driver_error.specs.declared.kind.ErrorKind.TheVariants as kind
use Rattle.driver_error.specs.Error.{kind_of, source_of}
use Rattle.driver_error.specs.Predicates.{is_network_error}
use Rattle.driver_options.specs.declared.options.Conn.{Conn}
use Rattle.link_faults.specs.declared.fault.LinkError.{LinkError}
use Rattle.link_faults.specs.declared.fault.LinkError.TheVariants.{Fault, Memory}
use Rattle.driver_link.specs.Framed.{Framed}
use Rattle.driver_link.specs.LinkCalls.{ExchangesFrame}
use Rattle.driver_link.specs.LinkState.{LinkState}
use Rattle.driver_session.specs.declared.retryability.Retryability.TheVariants as may
use Rattle.driver_ops.specs.declared.response.CommandResponse.{CommandResponse}
use Rattle.driver_ops.specs.Fields.{SendContext, under}
use Rattle.driver_ops.specs.GetMores.{at_namespace, kill_spec, more_spec}
use Rattle.driver_ops.specs.Operations.{Batch, IsFramed, IsUnframed, LeavesCursor, OperationSpec, Page, ReadsAsAsked, ReadsPages, ReadsPagesError, ReadsPagesOutput, batch_of, front}
use Rattle.driver_ops.specs.Responses.{ReadsResponse}
use Rattle.driver_ops.specs.SendKinds.{SendKind, first}
use Rattle.driver_attempt.specs.Failures.{IsFaultOf, is_memory}
use Rattle.driver_attempt.specs.Holding.{ExecutionSession, held_after_failure}

-- a command went out over a connection with the front of the places, and this came of the exchange: the frame was the built
-- command with the executor's fields, and it reads as the send of what was asked
pub record Exchanges {A : Type 0} (spec : OperationSpec A) (which : SendKind) (batch : Batch) (link now : LinkState) (conn : Conn) (context : SendContext) (result : Result (List ℕ) LinkError) : Type 0 where
  pub frame : Framed
  pub framed : IsFramed spec which batch.statements context frame
  pub reads : ReadsAsAsked spec batch context frame
  pub exchanges : ExchangesFrame link now conn frame (front batch) result

-- what is held after an exchange
abbrev pub held_after : Result (List ℕ) LinkError → ExecutionSession → ExecutionSession
held_after (Ok reply) held = held
held_after (Err failure) held = held_after_failure failure held

-- a command of a cursor has no places
abbrev pub no_statements : Batch
no_statements = batch_of [] 0

-- one question for a further page: the cursor and the namespace that it was for, what its exchange was answered, where there was
-- one, and the page
pub record PageAsked : Type 0 where
  pub cursor : ℤ
  pub namespace : Namespace
  pub answered : Option (Result (List ℕ) LinkError)
  pub page : Page

-- the pages
abbrev pub pages_of : List PageAsked → List Page
pages_of asked = map (λ (one : PageAsked). one.page) asked

-- the page that comes of an exchange: the reply, where it says that the command was done; the error that it spells; or the fault,
-- with its own labels alone
abbrev pub PageCame : Result (List ℕ) LinkError → Page → Type 0
PageCame (Ok bytes) (Ok page) = (response : CommandResponse) × (ReadsResponse bytes (Ok response) × (page ≡ response.body))
PageCame (Ok bytes) (Err failure) = ReadsResponse bytes (Err failure)
PageCame (Err cause) (Ok page) = ⊥
PageCame (Err (Fault fault labels)) (Err failure) = IsFaultOf fault labels may.None failure ⊎ (kind_of failure ≡ kind.Memory)
PageCame (Err Memory) (Err failure) = kind_of failure ≡ kind.Memory

-- the question went out over the connection under the session of the command, without a number and a concern
pub record ExchangesPage (conn : Conn) (session : Option (List ℕ)) (link now : LinkState) (asked : PageAsked) : Type 0 where
  pub result : Result (List ℕ) LinkError
  pub answered_is : asked.answered ≡ Some result
  pub exchanges : Exchanges (more_spec (at_namespace asked.namespace) asked.cursor) first no_statements link now conn (under session None) result
  pub came : PageCame result asked.page

-- it did not, since it has no spelling or there was no memory for it
pub record LacksFrame (session : Option (List ℕ)) (link now : LinkState) (asked : PageAsked) : Type 0 where
  pub answered_is : asked.answered ≡ None
  pub same : now ≡ link
  pub failure : Error
  pub page_is : asked.page ≡ Err failure
  pub why : IsUnframed (more_spec (at_namespace asked.namespace) asked.cursor) (under session None) failure ⊎ (kind_of failure ≡ kind.Memory)

-- one question for a further page
abbrev pub AsksPage : Conn → Option (List ℕ) → LinkState → LinkState → PageAsked → Type 0
AsksPage conn session link now asked = ExchangesPage conn session link now asked ⊎ LacksFrame session link now asked

-- questions for further pages, the newest first, each for the cursor that the reply in these bytes and the pages before it left
-- open, under its namespace
abbrev pub AsksPages : {A : Type 0} → OperationSpec A → ℕ → List ℕ → Conn → Option (List ℕ) → LinkState → List PageAsked → LinkState → Type 0
AsksPages spec statements bytes conn session link [] now = now ≡ link
AsksPages spec statements bytes conn session link (asked ∷ earlier) now =
    (mid : LinkState) × (AsksPages spec statements bytes conn session link earlier mid
    × LeavesCursor spec statements bytes (pages_of earlier) asked.cursor asked.namespace
    × AsksPage conn session mid now asked)

-- a page was lost: the network failed as it was asked for, or there was no memory to tell what came
abbrev pub is_lost_page : Page → Bool
is_lost_page (Ok page) = false
is_lost_page (Err failure) = is_network_error failure || is_memory (kind_of failure)

-- the cursor of a page that failed is ended, unless the page was lost: it did not come, or the operation tells of it as the source of
-- its error
abbrev pub ends_cursor : Page → Error → Bool
ends_cursor (Ok page) error = is_some (source_of error)
ends_cursor (Err failure) error = not (is_lost_page (Err failure))

-- an end to a cursor went out over the connection, under no session, and whatever it was answered
pub record ExchangesEnd (conn : Conn) (link now : LinkState) (asked : PageAsked) : Type 0 where
  pub result : Result (List ℕ) LinkError
  pub exchanges : Exchanges (kill_spec (at_namespace asked.namespace) asked.cursor) first no_statements link now conn (under None None) result

-- it has no spelling
pub record LacksEnd (link now : LinkState) (asked : PageAsked) : Type 0 where
  pub same : now ≡ link
  pub failure : Error
  pub why : IsUnframed (kill_spec (at_namespace asked.namespace) asked.cursor) (under None None) failure

-- the cursor that was asked for last is ended
abbrev pub EndsCursor : Conn → LinkState → LinkState → PageAsked → Type 0
EndsCursor conn link now asked = ExchangesEnd conn link now asked ⊎ LacksEnd link now asked

-- it is ended, or is not
abbrev pub EndsCursorWhere : Bool → Conn → LinkState → LinkState → PageAsked → Type 0
EndsCursorWhere true conn link now asked = EndsCursor conn link now asked
EndsCursorWhere false conn link now asked = now ≡ link

-- the error that the operation reads in the reply and the pages, and an end to the cursor where the newest failed
pub record FailsInPages {A : Type 0} (spec : OperationSpec A) (statements : ℕ) (bytes : List ℕ) (conn : Conn) (link now : LinkState) (last : PageAsked) (earlier : List PageAsked) (error : Error) : Type 0 where
  pub reads : ReadsPagesError spec statements bytes (pages_of (last ∷ earlier)) error
  pub ends : EndsCursorWhere (ends_cursor last.page error) conn link now last

-- there was no memory for that error, or to end the cursor: then the cursor was ended where it is to be, or was not
pub record LacksMemory {A : Type 0} (spec : OperationSpec A) (statements : ℕ) (bytes : List ℕ) (conn : Conn) (link now : LinkState) (last : PageAsked) (earlier : List PageAsked) (error : Error) : Type 0 where
  pub why : kind_of error ≡ kind.Memory
  pub response : CommandResponse
  pub done : ReadsResponse bytes (Ok response)
  pub bare : Error
  pub reads : spec.reads statements (pages_of (last ∷ earlier) ++ Ok response.body ∷ []) (Err bare)
  pub may : (now ≡ link) ⊎ EndsCursorWhere (ends_cursor last.page bare) conn link now last

-- what is read at the end, behind these questions, the newest first: behind none it is what the reply alone comes to
abbrev pub EndsPages : {A : Type 0} → OperationSpec A → ℕ → List ℕ → Conn → LinkState → LinkState → List PageAsked → Result A Error → Type 0
EndsPages spec statements bytes conn link now [] answer = ReadsPages spec statements bytes [] answer × (now ≡ link)
EndsPages spec statements bytes conn link now (last ∷ earlier) (Ok output) =
    ReadsPagesOutput spec statements bytes (pages_of (last ∷ earlier)) output × (now ≡ link)
EndsPages spec statements bytes conn link now (last ∷ earlier) (Err error) =
    FailsInPages spec statements bytes conn link now last earlier error ⊎ LacksMemory spec statements bytes conn link now last earlier error

-- what is held after a question: a fault of the network makes the session dirty
abbrev pub held_after_answer : Option (Result (List ℕ) LinkError) → ExecutionSession → ExecutionSession
held_after_answer None held = held
held_after_answer (Some result) held = held_after result held

-- the same after questions, of which the newest alone may have failed; an end to a cursor leaves what is held
abbrev pub held_after_pages : List PageAsked → ExecutionSession → ExecutionSession
held_after_pages [] held = held
held_after_pages (last ∷ earlier) held = held_after_answer last.answered held

-- the exchanges of an attempt behind that of its command, which had so many statements and was under this session: by the reply in
-- these bytes each further page was asked for on the same connection, and this was read
pub record AttemptExchanges {A : Type 0} (spec : OperationSpec A) (statements : ℕ) (bytes : List ℕ) (conn : Conn) (session : Option (List ℕ)) (link now : LinkState) (held held_now : ExecutionSession) (answer : Result A Error) : Type 0 where
  pub asked : List PageAsked
  pub mid : LinkState
  pub asks : AsksPages spec statements bytes conn session link asked mid
  pub ends : EndsPages spec statements bytes conn mid now asked answer
  pub held_is : held_now ≡ held_after_pages asked held
