-- Why an operation outside transactions ended as it did, by what the link answered in it, over any link and any store.
use Rattle.std.specs.Prelude.{◌≡◌, ℕ, ◌≤◌, ℤ, Bool, true, false, List, [], ◌∷◌, Option, None, Some, IfSome, ◌⊎◌, Ok, Err, if◌then◌else◌}
use Rattle.bson_lite.specs.declared.fault.EncodeFault.{EncodeFault}
use Rattle.bson_lite.specs.declared.namespace.Namespace.{Namespace}
use Rattle.bson_lite.specs.Spelling.{Spells}
use Rattle.driver_error.specs.declared.error.Error.{Error}
use Rattle.driver_error.specs.declared.kind.ErrorKind.TheVariants as kind
use Rattle.driver_error.specs.declared.labels.TheConstants.{RETRYABLE_WRITE_ERROR}
use Rattle.driver_error.specs.Error.{ErrorKind, kind_of, source_of}
use Rattle.driver_error.specs.LabelTexts.{LabelSet, label_set, no_labels, with_label}
use Rattle.driver_options.specs.declared.concerns.WriteConcern.{WriteConcern}
use Rattle.driver_options.specs.declared.options.Description.{Description}
use Rattle.link_faults.specs.declared.fault.Answered.{Answered}
use Rattle.link_faults.specs.declared.fault.Answered.TheVariants as answer
use Rattle.link_faults.specs.declared.fault.LinkCall.{LinkCall}
use Rattle.link_faults.specs.declared.fault.LinkCall.TheVariants.{CheckOut, Exchange}
use Rattle.link_faults.specs.declared.fault.LinkFault.{LinkFault}
use Rattle.link_faults.specs.declared.fault.LinkFault.TheVariants as fault
use Rattle.driver_link.specs.declared.machine.Setup.{Setup}
use Rattle.driver_link.specs.Faults.{Rose}
use Rattle.driver_link.specs.LinkState.{GainsAll, LinkState, setup_of}
use Rattle.link_faults.specs.Failures.{is_network}
use Rattle.driver_session.specs.declared.retryability.Retryability.{Retryability}
use Rattle.driver_session.specs.declared.retryability.Retryability.TheVariants as may
use Rattle.driver_session.specs.Session.{number_at_its_end}
use Rattle.driver_ops.specs.Fields.{SendContext}
use Rattle.driver_ops.specs.GetMores.{at_namespace, more_spec}
use Rattle.driver_ops.specs.Operations.{HasNoSpelling, IsUnframed, LeavesCursor, OperationSpec, Page, ReadsPages, Refuses}
use Rattle.driver_ops.specs.Responses.{ReadsResponse}
use Rattle.driver_ops.specs.SendKinds.{SendKind}
use Rattle.driver_attempt.specs.Attempting.{on_connection}
use Rattle.driver_attempt.specs.Causes.{AllEarly, ErrorOutline, HasExchangeFault, HasReply, IsLast, KindAtLast, MayBeLast, next_number, outline_of}
use Rattle.driver_attempt.specs.Concerns.{concern_of, concern_refusal}
use Rattle.driver_attempt.specs.Failures.{IsFaultOf, is_memory}
use Rattle.retry_rules.specs.LabelTable.{labels_outside_transactions}
use Rattle.retry_rules.specs.OldDeployment.{reworded_kind}
use Rattle.driver_attempt.specs.Moment.{Moment}

-- the labels of the error of a fault: a failure of the network has the label that lets a write be tried again beside the
-- link's own labels, where the write may be repeated
abbrev pub labels_after : Retryability → LinkFault → List (List ℕ) → LabelSet
labels_after may.Write found labels = if is_network found then with_label (label_set labels) RETRYABLE_WRITE_ERROR.now else label_set labels
labels_after other found labels = label_set labels

-- the same by the call that met the fault: without a connection what the operation may repeat by its own rules counts, and
-- after it what it may repeat on the connection, which is known where the link tells its setup
abbrev pub FaultLabels : LinkCall → Retryability → Option Setup → LinkFault → List (List ℕ) → LabelSet → Type 0
FaultLabels CheckOut retryability setup found labels now = now ≡ labels_after retryability found labels
FaultLabels Exchange retryability None found labels now = (now ≡ labels_after retryability found labels) ⊎ (now ≡ label_set labels)
FaultLabels Exchange retryability (Some setup) found labels now = now ≡ labels_after (on_connection retryability setup.description) found labels
FaultLabels call retryability setup found labels now = now ≡ label_set labels

-- the question for the page behind these has no spelling, which a text of more bytes than a document has brings about: it is for the
-- cursor and the namespace that they left open behind the reply in these bytes
pub record LacksQuestion {A : Type 0} (spec : OperationSpec A) (statements : ℕ) (bytes : List ℕ) (pages : List Page) (failure : Error) : Type 0 where
  pub namespace : Namespace
  pub cursor : ℤ
  pub left : LeavesCursor spec statements bytes pages cursor namespace
  pub context : SendContext
  pub is : IsUnframed (more_spec (at_namespace namespace) cursor) context failure

-- this is one of the faults that were answered, and its error has these labels
abbrev pub HasFault : Retryability → Option Setup → LinkFault → LabelSet → List Answered → Type 0
HasFault retryability setup fault labels [] = ⊥
HasFault retryability setup fault labels (answer.Reply bytes ∷ items) = HasFault retryability setup fault labels items
HasFault retryability setup fault labels (answer.Fault call found given ∷ items) =
    ((found ≡ fault) × FaultLabels call retryability setup found given labels) ⊎ HasFault retryability setup fault labels items

-- a first build of the operation takes so many statements for a connection, which has the setup's description where the link
-- tells its setup
pub record TakesFirst {A : Type 0} (spec : OperationSpec A) (fixed : Option ℕ) (setup : Option Setup) (statements : ℕ) : Type 0 where
  pub description : Description
  pub told : IfSome setup (λ told. description ≡ told.description)
  pub takes : spec.takes fixed description statements

-- a built command with this concern has no spelling, under some session and number: it has as many statements as a first build takes
pub record Unspelled {A : Type 0} (spec : OperationSpec A) (fixed : Option ℕ) (setup : Option Setup) (concern : Option WriteConcern) (fault : EncodeFault) : Type 0 where
  pub context : SendContext
  pub goes_with : context.concern ≡ concern
  pub statements : ℕ
  pub first : TakesFirst spec fixed setup statements
  pub is : HasNoSpelling spec context fault
  pub same : is.statements ≡ statements

-- a build of the operation, by the number of statements that is fixed, is refused so for a connection, which has the setup's
-- description where the link tells its setup
pub record RefusesBuild {A : Type 0} (spec : OperationSpec A) (fixed : Option ℕ) (setup : Option Setup) (why : ErrorOutline) : Type 0 where
  pub description : Description
  pub told : IfSome setup (λ told. description ≡ told.description)
  pub error : Error
  pub refuses : Refuses spec fixed description error
  pub is : why ≡ outline_of error

-- what an end is judged by: what the operation tells, the number of its command's statements, where that was fixed when it
-- began, what it may repeat by its own rules, the concern that it goes out with, what the link tells of its setup, and the number
-- of the session that is lent next
pub record Grounds (A : Type 0) : Type 1 where
  pub spec : OperationSpec A
  pub fixed : Option ℕ
  pub retryability : Retryability
  pub concern : Option WriteConcern
  pub setup : Option Setup
  pub number : Option ℤ

-- what the end of an operation that begins at a moment is judged by
abbrev pub grounds : {A : Type 0} → OperationSpec A → SendKind → Option ℕ → Moment → Grounds A
grounds spec which fixed before = record {
  spec = spec;
  fixed = fixed;
  retryability = spec.retryability before.client.options;
  concern = concern_of spec which before.client.options;
  setup = setup_of before.link;
  number = next_number before.store;
}

-- a page that came is a reply that the link answered; one that did not was spelled by a reply, or is a fault of an exchange, which
-- raised the count, with the link's own labels; or the question for it, behind the pages before it, has no spelling
abbrev pub PageNeeds : {A : Type 0} → OperationSpec A → ℕ → List ℕ → List Page → ℕ → ℕ → List Answered → Page → Type 0
PageNeeds spec statements reply pages before now items (Ok page) = HasReply (λ bytes. Spells page bytes) items
PageNeeds spec statements reply pages before now items (Err failure) =
    HasReply (λ bytes. ReadsResponse bytes (Err failure)) items
    ⊎ ((Rose before now × HasExchangeFault (λ fault labels. IsFaultOf fault labels may.None failure) items)
    ⊎ LacksQuestion spec statements reply pages failure)

-- so does each page, the newest first
abbrev pub PagesNeed : {A : Type 0} → OperationSpec A → ℕ → List ℕ → ℕ → ℕ → List Answered → List Page → Type 0
PagesNeed spec statements reply before now items [] = Unit {0}
PagesNeed spec statements reply before now items (page ∷ pages) =
    PageNeeds spec statements reply pages before now items page × PagesNeed spec statements reply before now items pages

-- a reply spells this error for an operation, which reads it by the number of statements that a first build takes, with pages behind
-- it; what it reads is no want of memory. Its kind is the one that is read, in words for the caller, its labels are those of what is
-- read, with that of the table where the network failed, and its source is the one that is read
pub record SpellsEnd {A : Type 0} (on : Grounds A) (before now : ℕ) (items : List Answered) (why : ErrorOutline) (bytes : List ℕ) : Type 0 where
  pub statements : ℕ
  pub first : TakesFirst on.spec on.fixed on.setup statements
  pub pages : List Page
  pub alone : on.spec.paged ≡ false → pages ≡ []
  pub told : PagesNeed on.spec statements bytes before now items pages
  pub bare : Error
  pub reads : ReadsPages on.spec statements bytes pages (Err bare)
  pub other : is_memory (kind_of bare) ≡ false
  pub connection_retryability : Retryability
  pub kind_is : why.kind ≡ reworded_kind (kind_of bare)
  pub labels_are : why.labels ≡ labels_outside_transactions connection_retryability bare
  pub source_is : why.source ≡ source_of bare

-- an operation reads a reply with pages behind it, by the number of statements that a first build takes
pub record IsRead {A : Type 0} (on : Grounds A) (before now : ℕ) (items : List Answered) (bytes : List ℕ) : Type 0 where
  pub statements : ℕ
  pub first : TakesFirst on.spec on.fixed on.setup statements
  pub pages : List Page
  pub alone : on.spec.paged ≡ false → pages ≡ []
  pub told : PagesNeed on.spec statements bytes before now items pages
  pub output : A
  pub reads : ReadsPages on.spec statements bytes pages (Ok output)

-- what an error of each kind needs; want of memory has no cause to show. Neither it nor a refusal before a send has labels
abbrev pub KindNeeds : {A : Type 0} → Grounds A → ℕ → ℕ → List Answered → LabelSet → ErrorKind → Type 0
KindNeeds on before now items labels (kind.Io io) = Rose before now × HasFault on.retryability on.setup (fault.Io io) labels items
KindNeeds on before now items labels (kind.ConnectionPoolCleared message) = Rose before now × HasFault on.retryability on.setup (fault.PoolCleared message) labels items
KindNeeds on before now items labels (kind.ServerSelection message) = Rose before now × HasFault on.retryability on.setup (fault.Selection message) labels items
KindNeeds on before now items labels (kind.Authentication message) = Rose before now × HasFault on.retryability on.setup (fault.Authentication message) labels items
KindNeeds on before now items labels (kind.InvalidArgument message) = (concern_refusal on.concern ≡ Some message) × (labels ≡ no_labels)
KindNeeds on before now items labels (kind.BsonSerialization fault) = Unspelled on.spec on.fixed on.setup on.concern fault × (labels ≡ no_labels)
KindNeeds on before now items labels (kind.Internal message) = MayBeLast on.number × (message ≡ number_at_its_end) × (labels ≡ no_labels)
KindNeeds on before now items labels kind.SessionsNotSupported = (on.setup ≡ None) × (labels ≡ no_labels)
KindNeeds on before now items labels kind.Memory = labels ≡ no_labels
KindNeeds on before now items labels _ = ⊥

-- what an error needs that no reply spells: it has its kind's cause, and no source
pub record NeedsByKind {A : Type 0} (on : Grounds A) (before now : ℕ) (items : List Answered) (why : ErrorOutline) : Type 0 where
  pub needs : KindNeeds on before now items why.labels why.kind
  pub no_source : why.source ≡ None

-- what an end needs: an Ok comes only after a reply that the operation reads, and an error by its kind, after a reply that
-- spells it, or where a build is refused so
abbrev pub EndNeeds : {A : Type 0} → Grounds A → ℕ → ℕ → List Answered → Option ErrorOutline → Type 0
EndNeeds on before now items None = HasReply (IsRead on before now items) items
EndNeeds on before now items (Some why) =
    NeedsByKind on before now items why ⊎ (HasReply (SpellsEnd on before now items why) items ⊎ RefusesBuild on.spec on.fixed on.setup why)

-- each send has a number: the operation takes a session and may repeat its write, and the link tells that its connections
-- take sessions and retryable writes
abbrev pub DrawsNumbers : Bool → Retryability → Option Setup → Type 0
DrawsNumbers sessions may.Write (Some setup) =
    (sessions ≡ true) × (setup.description.supports_sessions ≡ true) × (setup.description.supports_retryable_writes ≡ true)
DrawsNumbers sessions retryability setup = ⊥

-- where the next session's number is at its end nothing is exchanged, and an error tells so, but for what was found before
abbrev pub EndAtLast : {A : Type 0} → Grounds A → List Answered → Option ErrorOutline → Type 0
EndAtLast on items None = ⊥
EndAtLast on items (Some why) = AllEarly items × KindAtLast why.kind

-- an end with its cause: what the link answered in between, and a count of faults that never falls
pub record EndsCaused {A : Type 0} (on : Grounds A) (link now : LinkState) (ended : Option ErrorOutline) : Type 0 where
  pub items : List Answered
  pub noted : GainsAll link.answers now.answers items
  pub never_falls : link.faults ≤ now.faults
  pub needs : EndNeeds on link.faults now.faults items ended
  pub at_last : concern_refusal on.concern ≡ None → DrawsNumbers on.spec.sessions on.retryability on.setup → IsLast on.number → EndAtLast on items ended

-- an operation that began at a moment ended so
abbrev pub Caused : {A : Type 0} → OperationSpec A → SendKind → Option ℕ → Moment → Moment → Option ErrorOutline → Type 0
Caused spec which fixed before now ended = EndsCaused (grounds spec which fixed before) before.link now.link ended
