-- The parts of reading further pages, as the functions that read them say them.
use Rattle.std.specs.Prelude.{◌≡◌, ℕ, ℤ, Bool, true, false, List, [], ◌∷◌, ◌++◌, Option, None, Some, ◌⊎◌, Result, Ok, Err}
use Rattle.bson_lite.specs.declared.namespace.Namespace.{Namespace}
use Rattle.driver_error.specs.declared.error.Error.{Error}
use Rattle.driver_error.specs.declared.kind.ErrorKind.TheVariants as kind
use Rattle.driver_error.specs.Error.{HasResponse, kind_of}
use Rattle.driver_options.specs.declared.options.Conn.{Conn}
use Rattle.link_faults.specs.declared.fault.LinkError.{LinkError}
use Rattle.driver_link.specs.LinkState.{LinkState}
use Rattle.driver_ops.specs.declared.get_more.GetMore.{GetMore}
use Rattle.driver_ops.specs.declared.operation.Reading.{Reading}
use Rattle.driver_ops.specs.declared.operation.Reading.TheVariants.{Done, Page as Further}
use Rattle.driver_ops.specs.declared.response.CommandResponse.{CommandResponse}
use Rattle.driver_ops.specs.Fields.{under}
use Rattle.driver_ops.specs.GetMores.{at_namespace}
use Rattle.driver_ops.specs.Operations.{IsUnframed, OperationSpec, Page}
use Rattle.driver_ops.specs.SendKinds.{SendKind}
use Rattle.driver_attempt.specs.AttemptExchanges.{AsksPage, EndsCursor, EndsCursorWhere, Exchanges, PageAsked, ends_cursor, held_after_answer, no_statements, pages_of}
use Rattle.driver_attempt.specs.Holding.{ExecutionSession}

-- the question for the next page of a cursor under a namespace
abbrev pub AsksFor : Namespace → ℤ → GetMore → Type 0
AsksFor namespace cursor more = (more.target ≡ at_namespace namespace) × (more.cursor ≡ cursor)

-- the question for the page behind what was read, or the answer
abbrev pub GoesOnOrEnds : {A : Type 0} → Result (Reading A) Error → Result GetMore (Result A Error) → Type 0
GoesOnOrEnds (Ok (Further cursor namespace)) (Ok more) = AsksFor namespace cursor more
GoesOnOrEnds (Ok (Further cursor namespace)) (Err answer) = ⊥
GoesOnOrEnds (Ok (Done output)) (Ok more) = ⊥
GoesOnOrEnds (Ok (Done output)) (Err answer) = answer ≡ Ok output
GoesOnOrEnds (Err error) (Ok more) = ⊥
GoesOnOrEnds (Err error) (Err answer) = answer ≡ Err error

-- an answer whose error keeps the reply in these bytes, unless there was no memory
abbrev pub KeepsFirst : {A : Type 0} → List ℕ → Result A Error → Result A Error → Type 0
KeepsFirst bytes (Ok output) now = now ≡ Ok output
KeepsFirst bytes (Err error) (Ok output) = ⊥
KeepsFirst bytes (Err error) (Err now) = (kind_of now ≡ kind.Memory) ⊎ HasResponse (Some bytes) error now

-- the page that a response is
abbrev pub page_in : Result CommandResponse Error → Page
page_in (Ok response) = Ok response.body
page_in (Err failure) = Err failure

-- a command without writes went out over a connection under a session or none, and what it was answered; or it did not, since it has
-- no spelling, or there was no memory
abbrev pub ExchangesAside : {A : Type 0} → OperationSpec A → SendKind → Conn → Option (List ℕ) → LinkState → LinkState → Result (Result (List ℕ) LinkError) Error → Type 0
ExchangesAside spec which conn session link now (Ok result) = Exchanges spec which no_statements link now conn (under session None) result
ExchangesAside spec which conn session link now (Err error) = (now ≡ link) × (IsUnframed spec (under session None) error ⊎ (kind_of error ≡ kind.Memory))

-- a page was asked for, under what is held, and what is held then
pub record AsksOn (conn : Conn) (session : Option (List ℕ)) (link now : LinkState) (namespace : Namespace) (cursor : ℤ) (held held_now : ExecutionSession) (page : Page) : Type 0 where
  pub answered : Option (Result (List ℕ) LinkError)
  pub asks : AsksPage conn session link now (record { cursor = cursor; namespace = namespace; answered = answered; page = page })
  pub held_is : held_now ≡ held_after_answer answered held

-- the end of a cursor went out, or has no spelling, and the error stays; or there was no memory for it, which is told
abbrev pub EndsAskedCursor : Conn → LinkState → LinkState → Namespace → ℤ → Error → Error → Type 0
EndsAskedCursor conn link now namespace cursor error ended =
    ((ended ≡ error) × ((page : Page) (answered : Option (Result (List ℕ) LinkError))
    → EndsCursor conn link now (record { cursor = cursor; namespace = namespace; answered = answered; page = page })))
    ⊎ ((kind_of ended ≡ kind.Memory) × (now ≡ link))

-- a cursor is ended so; or it is not, and the error stays
abbrev pub EndsWhere : Bool → Conn → LinkState → LinkState → Namespace → ℤ → Error → Error → Type 0
EndsWhere true conn link now namespace cursor error ended = EndsAskedCursor conn link now namespace cursor error ended
EndsWhere false conn link now namespace cursor error ended = (now ≡ link) × (ended ≡ error)

-- an error stays once its page's cursor was ended, or there was no memory to end it
abbrev pub EndsWithError : Conn → LinkState → LinkState → PageAsked → Error → Error → Type 0
EndsWithError conn link now asked error ended =
    ((ended ≡ error) × EndsCursorWhere (ends_cursor asked.page error) conn link now asked)
    ⊎ ((kind_of ended ≡ kind.Memory) × (now ≡ link))

-- what comes behind a page by what was read in it
abbrev pub GoesOnBehind : {A : Type 0} → Conn → LinkState → LinkState → PageAsked → Result (Reading A) Error → Result GetMore (Result A Error) → Type 0
GoesOnBehind conn link now asked (Ok (Further cursor namespace)) (Ok more) = AsksFor namespace cursor more × (now ≡ link)
GoesOnBehind conn link now asked (Ok (Further cursor namespace)) (Err answer) = ⊥
GoesOnBehind conn link now asked (Ok (Done output)) (Ok more) = ⊥
GoesOnBehind conn link now asked (Ok (Done output)) (Err answer) = (answer ≡ Ok output) × (now ≡ link)
GoesOnBehind conn link now asked (Err error) (Ok more) = ⊥
GoesOnBehind conn link now asked (Err error) (Err (Ok output)) = ⊥
GoesOnBehind conn link now asked (Err error) (Err (Err ended)) = EndsWithError conn link now asked error ended

-- one further page behind these, the newest first: it was asked for and read, and this comes behind it
pub record ReadsNextPage {A : Type 0} (spec : OperationSpec A) (statements : ℕ) (conn : Conn) (session : Option (List ℕ)) (link now : LinkState) (namespace : Namespace) (cursor : ℤ) (pages : List Page) (page : Page)
    (held held_now : ExecutionSession) (next : Result GetMore (Result A Error)) : Type 0 where
  pub mid : LinkState
  pub asks : AsksOn conn session link mid namespace cursor held held_now page
  pub reading : Result (Reading A) Error
  pub reads : spec.reads statements (page ∷ pages) reading
  pub goes : GoesOnBehind conn mid now (record { cursor = cursor; namespace = namespace; answered = asks.answered; page = page }) reading next

-- questions for further pages behind a first one, the newest first, each for the cursor that the pages before it left open
abbrev pub AsksFrom : {A : Type 0} → OperationSpec A → ℕ → Page → Conn → Option (List ℕ) → LinkState → List PageAsked → LinkState → Type 0
AsksFrom spec statements first conn session link [] now = now ≡ link
AsksFrom spec statements first conn session link (asked ∷ earlier) now =
    (mid : LinkState) × (AsksFrom spec statements first conn session link earlier mid
    × spec.reads statements (pages_of earlier ++ first ∷ []) (Ok (Further asked.cursor asked.namespace))
    × AsksPage conn session mid now asked)

-- further pages behind a first one, one at least: what was read in the last of them ends the answer
pub record ReadsFrom {A : Type 0} (spec : OperationSpec A) (statements : ℕ) (first : Page) (conn : Conn) (session : Option (List ℕ)) (link now : LinkState) (held held_now : ExecutionSession) (answer : Result A Error) : Type 0 where
  pub last : PageAsked
  pub earlier : List PageAsked
  pub mid : LinkState
  pub asks : AsksFrom spec statements first conn session link (last ∷ earlier) mid
  pub reading : Result (Reading A) Error
  pub reads : spec.reads statements (pages_of (last ∷ earlier) ++ first ∷ []) reading
  pub ends : GoesOnBehind conn mid now last reading (Err answer)
  pub held_is : held_now ≡ held_after_answer last.answered held
