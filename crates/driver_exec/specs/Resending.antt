-- What an operation outside transactions leaves on a store and a server that are told: it borrows a session, if any, and
-- its sends are one and the same, at most two, with commands of cursors beside them. What only a reply spells was read in one.
use Rattle.std.specs.Prelude.{◌≡◌, ℕ, zero, suc, ◌+◌, ◌≤◌, ℤ, Bool, true, false, List, [], ◌∷◌, Option, None, Some, Result, Ok, Err}
use Rattle.bson_lite.specs.declared.namespace.Namespace.{Namespace}
use Rattle.driver_error.specs.declared.error.Error.{Error}
use Rattle.driver_error.specs.declared.kind.ErrorKind.TheVariants as kind
use Rattle.driver_error.specs.Error.{ErrorKind, kind_of, source_of}
use Rattle.driver_link.specs.declared.machine.Send.{Send}
use Rattle.driver_link.specs.declared.machine.SendBody.{SendBody}
use Rattle.driver_link.specs.declared.machine.SendBody.TheVariants.{More}
use Rattle.driver_link.specs.Counting.{KeepsServer}
use Rattle.driver_link.specs.LinkState.{server_run}
use Rattle.driver_link.specs.ServerRun.{IsReply, ServerRun, run_after, run_answer}
use Rattle.driver_link.specs.Settled.{IsAside}
use Rattle.driver_session.specs.declared.retryability.Retryability.TheVariants as may
use Rattle.driver_session.specs.Session.{MayRaise, Raises, Session}
use Rattle.driver_session.specs.StoreTells.{LendsSession, StoreTells, TakesSession}
use Rattle.driver_ops.specs.Fields.{under}
use Rattle.driver_ops.specs.Operations.{AsksFor, Batch, LeavesCursor, OperationSpec, Page, ReadsPages, ReadsPagesOutput, send_of}
use Rattle.driver_attempt.specs.AttemptExchanges.{PageCame}
use Rattle.driver_attempt.specs.Moment.{Moment}

-- a failure that only the reply to a command that was done spells
abbrev pub IsReadFailure : ErrorKind → Type 0
IsReadFailure (kind.InsertMany failures) = Unit {0}
IsReadFailure (kind.Write failure) = Unit {0}
IsReadFailure (kind.BulkWrite failures) = Unit {0}
IsReadFailure _ = ⊥

-- calls that were only counted, and between them these sends of commands of cursors, the oldest first
abbrev pub PassesAside : ServerRun → ServerRun → List Send → Type 0
PassesAside told now [] = KeepsServer told now
PassesAside told now (send ∷ sends) =
    (mid : ServerRun) × (KeepsServer told mid × IsAside send × PassesAside (run_after mid send) now sends)

-- all that went out were commands of cursors
pub record LeavesAside (told now : ServerRun) : Type 0 where
  pub sends : List Send
  pub passes : PassesAside told now sends

-- what may go out beside the sends of an operation: commands of cursors, where its answer may have further pages, else nothing
abbrev pub PassesBy : Bool → ServerRun → ServerRun → Type 0
PassesBy true told now = LeavesAside told now
PassesBy false told now = KeepsServer told now

-- one send went out so many times; all else were calls that were only counted, and commands of cursors where there may be such
abbrev pub SendsWhereTold : Bool → ServerRun → ServerRun → Send → ℕ → Type 0
SendsWhereTold paged told now send zero = PassesBy paged told now
SendsWhereTold paged told now send (suc count) = (mid : ServerRun) × (SendsWhereTold paged told mid send count × PassesBy paged (run_after mid send) now)

-- the same for a link that may tell its server
abbrev pub SentTimes : Bool → Option ServerRun → Option ServerRun → Send → ℕ → Type 0
SentTimes paged None now send count = now ≡ None
SentTimes paged (Some told) None send count = ⊥
SentTimes paged (Some told) (Some now) send count = SendsWhereTold paged told now send count

-- one send went out at most so many times, and at most once where it has no number
pub record SentWithin (paged : Bool) (most : ℕ) (link now : Option ServerRun) (send : Send) : Type 0 where
  pub count : ℕ
  pub within : count ≤ most
  pub once : send.number ≡ None → count ≤ 1
  pub sends : SentTimes paged link now send count

-- the question for a cursor under a session
abbrev pub more_send : Option (List ℕ) → ℤ → Send
more_send session cursor = send_of (under session None) (More cursor)

-- a page that came is what the server's own reply to the question spells
pub record AnswersQuestion (session : Option (List ℕ)) (cursor : ℤ) (told now : ServerRun) (page : Page) : Type 0 where
  pub bytes : List ℕ
  pub mid : ServerRun
  pub before : KeepsServer told mid
  pub reply : IsReply (run_answer mid (more_send session cursor)) bytes
  pub came : PageCame (Ok bytes) page
  pub rest : KeepsServer (run_after mid (more_send session cursor)) now

-- of a page that failed nothing is said here but that the question may have gone out
abbrev pub AnswersPage : Option (List ℕ) → ℤ → ServerRun → ServerRun → Page → Type 0
AnswersPage session cursor told now (Ok reply) = AnswersQuestion session cursor told now (Ok reply)
AnswersPage session cursor told now (Err failure) = LeavesAside told now

-- a further page: its cursor was left open by the reply in these bytes and the pages before it
pub record GivesPage {A : Type 0} (spec : OperationSpec A) (statements : ℕ) (session : Option (List ℕ)) (bytes : List ℕ) (pages : List Page) (told now : ServerRun) (page : Page) : Type 0 where
  pub cursor : ℤ
  pub namespace : Namespace
  pub left : LeavesCursor spec statements bytes pages cursor namespace
  pub answers : AnswersPage session cursor told now page

-- further pages behind a reply in these bytes, the newest first
abbrev pub GivesPages : {A : Type 0} → OperationSpec A → ℕ → Option (List ℕ) → List ℕ → ServerRun → ServerRun → List Page → Type 0
GivesPages spec statements session bytes told now [] = KeepsServer told now
GivesPages spec statements session bytes told now (page ∷ pages) =
    (mid : ServerRun) × (GivesPages spec statements session bytes told mid pages × GivesPage spec statements session bytes pages mid now page)

-- the last of the sends was answered by a reply in these bytes, after so many others, with these pages behind it
pub record LastAnswer {A : Type 0} (spec : OperationSpec A) (statements : ℕ) (told now : ServerRun) (send : Send) (earlier : ℕ) (bytes : List ℕ) (pages : List Page) : Type 0 where
  pub mid : ServerRun
  pub sent : SendsWhereTold spec.paged told mid send earlier
  pub reply : IsReply (run_answer mid send) bytes
  pub gives : GivesPages spec statements send.session bytes (run_after mid send) now pages

-- the same for a link that may tell its server
abbrev pub AnsweredLast : {A : Type 0} → OperationSpec A → ℕ → Option ServerRun → Option ServerRun → Send → ℕ → List ℕ → List Page → Type 0
AnsweredLast spec statements None now send earlier bytes pages = now ≡ None
AnsweredLast spec statements (Some told) None send earlier bytes pages = ⊥
AnsweredLast spec statements (Some told) (Some now) send earlier bytes pages = LastAnswer spec statements told now send earlier bytes pages

-- one of the sends was answered by a reply in these bytes, after so many others, with these pages behind it, and so many went out
-- after them
pub record AmongAnswers {A : Type 0} (spec : OperationSpec A) (statements : ℕ) (told now : ServerRun) (send : Send) (earlier later : ℕ) (bytes : List ℕ) (pages : List Page) : Type 0 where
  pub mid : ServerRun
  pub sent : SendsWhereTold spec.paged told mid send earlier
  pub reply : IsReply (run_answer mid send) bytes
  pub behind : ServerRun
  pub gives : GivesPages spec statements send.session bytes (run_after mid send) behind pages
  pub rest : SendsWhereTold spec.paged behind now send later

-- the same for a link that may tell its server
abbrev pub AnsweredAmong : {A : Type 0} → OperationSpec A → ℕ → Option ServerRun → Option ServerRun → Send → ℕ → ℕ → List ℕ → List Page → Type 0
AnsweredAmong spec statements None now send earlier later bytes pages = now ≡ None
AnsweredAmong spec statements (Some told) None send earlier later bytes pages = ⊥
AnsweredAmong spec statements (Some told) (Some now) send earlier later bytes pages = AmongAnswers spec statements told now send earlier later bytes pages

-- the number of a session that comes back: the one that the sends had, which is its next, else its number as it was lent or
-- the next one
abbrev pub IsNumbered : Option ℤ → Session → Session → Type 0
IsNumbered None lent back = MayRaise lent back
IsNumbered (Some number) lent back = (back.number ≡ number) × Raises lent back

-- a session was lent and came back
pub record Borrowed (store now : StoreTells) (id : List ℕ) (number : Option ℤ) : Type 0 where
  pub lent : StoreTells
  pub out_at : ℕ
  pub back_at : ℕ
  pub session : Session
  pub back : Session
  pub lends : LendsSession store lent out_at session
  pub takes : TakesSession lent now back back_at
  pub id_is : session.id ≡ id
  pub same : back.id ≡ session.id
  pub numbered : IsNumbered number session back

-- a session was borrowed, or none: then the sends have no number
abbrev pub Borrows : StoreTells → StoreTells → Option (List ℕ) → Option ℤ → Type 0
Borrows store now None number = (now ≡ store) × (number ≡ None)
Borrows store now (Some id) number = Borrowed store now id number

-- an Ok is what the operation reads in the last reply, as one to a command of so many statements, and in the pages behind it: the
-- reply to the last send of what was asked for, of which at most one went out before it, and none where it has no number
pub record ReadsLast {A : Type 0} (spec : OperationSpec A) (batch : Batch) (link now : Option ServerRun) (session : Option (List ℕ)) (number : Option ℤ) (output : A) : Type 0 where
  pub bytes : List ℕ
  pub pages : List Page
  pub alone : spec.paged ≡ false → pages ≡ []
  pub reads : ReadsPagesOutput spec batch.statements bytes pages output
  pub earlier : ℕ
  pub within : earlier ≤ 1
  pub once : number ≡ None → earlier ≡ 0
  pub answered : (body : SendBody) → AsksFor spec batch body
      → AnsweredLast spec batch.statements link now (send_of (under session number) body) earlier bytes pages

-- an error has the kind and the source that the operation reads in the reply, as one to a command of so many statements, to one of at
-- most two sends of what was asked for, and to the only one where it has no number, and in the pages behind it
pub record ReadsOne {A : Type 0} (spec : OperationSpec A) (batch : Batch) (link now : Option ServerRun) (session : Option (List ℕ)) (number : Option ℤ) (error : Error) : Type 0 where
  pub bytes : List ℕ
  pub pages : List Page
  pub alone : spec.paged ≡ false → pages ≡ []
  pub bare : Error
  pub reads : ReadsPages spec batch.statements bytes pages (Err bare)
  pub same_kind : kind_of error ≡ kind_of bare
  pub same_source : source_of error ≡ source_of bare
  pub earlier : ℕ
  pub later : ℕ
  pub within : earlier + later ≤ 1
  pub once : number ≡ None → earlier + later ≡ 0
  pub answered : (body : SendBody) → AsksFor spec batch body
      → AnsweredAmong spec batch.statements link now (send_of (under session number) body) earlier later bytes pages

-- an Ok is what the operation reads in the last reply, and a failure that only a reply spells is what it reads in one of them
abbrev pub EndsWithReading : {A : Type 0} → OperationSpec A → Batch → Option ServerRun → Option ServerRun → Option (List ℕ) → Option ℤ → Result A Error → Type 0
EndsWithReading spec batch link now session number (Ok output) = ReadsLast spec batch link now session number output
EndsWithReading spec batch link now session number (Err error) = IsReadFailure (kind_of error) → ReadsOne spec batch link now session number error

-- an operation: one send of what was asked for went out at most twice, and at most once where it has no number, as it has none
-- where nothing of the operation may be repeated; the session that it was under, if any, was borrowed from the store; an Ok is
-- the reading of the last reply, and a failure that only a reply spells is the reading of one of them
pub record SendsOneCommand {A : Type 0} (spec : OperationSpec A) (batch : Batch) (before now : Moment) (result : Result A Error) : Type 0 where
  pub session : Option (List ℕ)
  pub number : Option ℤ
  pub unnumbered : spec.retryability before.client.options ≡ may.None → number ≡ None
  pub borrows : Borrows before.store now.store session number
  pub sends : (body : SendBody) → AsksFor spec batch body → SentWithin spec.paged 2 (server_run before.link) (server_run now.link) (send_of (under session number) body)
  pub ends : EndsWithReading spec batch (server_run before.link) (server_run now.link) session number result
