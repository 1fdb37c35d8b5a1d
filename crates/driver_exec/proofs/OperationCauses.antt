-- Why an operation ended as it did, from its attempts and from what was decided after each.
use Rattle.std.proofs.Common.{◌≡◌, ℕ, ◌≤◌, List, [], ◌∷◌, ◌++◌, refl, sym, ap, subst, ◌∙◌, inl, inr, arith}
use Rattle.std.specs.Prelude.{ℤ, Bool, true, false, ◌&&◌, Option, None, Some, is_some, ◌⊎◌, Result, Ok, Err, if◌then◌else◌}
use Rattle.bson_lite.specs.declared.bson.Bson.{Bson}
use Rattle.bson_lite.specs.declared.document.Pair.{Pair}
use Rattle.bson_lite.specs.Spelling.{Spells}
use Rattle.driver_error.specs.declared.error.Error.{Error, out-Error, out-roll-Error}
use Rattle.driver_error.specs.declared.kind.ErrorKind.TheVariants as kind
use Rattle.driver_error.specs.declared.labels.TheConstants.{RETRYABLE_WRITE_ERROR}
use Rattle.driver_error.specs.Error.{IsAlone, kind_of, labels_of, source_of, with_kind}
use Rattle.driver_error.specs.LabelTexts.{LabelSet, label_set, no_labels, with_label}
use Rattle.driver_error.specs.Predicates.{of_network}
use Rattle.driver_options.specs.declared.concerns.WriteConcern.{WriteConcern}
use Rattle.driver_options.specs.declared.options.Address.{Address}
use Rattle.driver_options.specs.declared.options.Conn.{Conn}
use Rattle.driver_options.specs.declared.options.Description.{Description}
use Rattle.driver_link.specs.Clock.{ClockTells}
use Rattle.link_faults.specs.declared.fault.Answered.{Answered}
use Rattle.link_faults.specs.declared.fault.Answered.TheVariants as answer
use Rattle.link_faults.specs.declared.fault.LinkCall.{LinkCall}
use Rattle.link_faults.specs.declared.fault.LinkCall.TheVariants.{CheckOut, Exchange, Select}
use Rattle.link_faults.specs.declared.fault.LinkError.{LinkError}
use Rattle.link_faults.specs.declared.fault.LinkError.TheVariants.{Fault, Memory}
use Rattle.link_faults.specs.declared.fault.LinkFault.{LinkFault}
use Rattle.link_faults.specs.declared.fault.LinkFault.TheVariants as fault
use Rattle.driver_link.specs.declared.machine.Place.{Place}
use Rattle.driver_link.specs.declared.machine.Setup.{Setup}
use Rattle.driver_link.specs.Counting.{Listed}
use Rattle.link_faults.specs.Failures.{fault_kind, is_network}
use Rattle.driver_link.specs.Faults.{HasLinkCause, Rose}
use Rattle.driver_link.specs.Framed.{Framed}
use Rattle.driver_link.specs.LinkCalls.{CallsLink, ExchangesFrame}
use Rattle.driver_link.specs.LinkState.{GainsAll, LinkState, noted, nothing_noted, reply_noted, setup_of}
use Rattle.driver_link.specs.ServerRun.{ServerRun}
use Rattle.driver_session.specs.declared.retryability.Retryability.{Retryability}
use Rattle.driver_session.specs.declared.retryability.Retryability.TheVariants as may
use Rattle.driver_session.specs.StoreTells.{StoreTells}
use Rattle.driver_ops.specs.Fields.{SendContext, in_context, under}
use Rattle.driver_ops.specs.OperationLaw.{NeverOpen}
use Rattle.driver_ops.specs.Operations.{Batch, LeavesCursor, OperationSpec, Page, Refuses, front}
use Rattle.driver_ops.specs.SendKinds.{SendKind}
use Rattle.driver_attempt.specs.declared.attempt_end.AttemptEnd.{AttemptEnd}
use Rattle.driver_attempt.specs.declared.attempt_end.AttemptEnd.TheVariants.{Done, Ended, Failed, Stopped, Unfit, Unselected}
use Rattle.retry_rules.specs.declared.failure.AttemptFailure.{AttemptFailure}
use Rattle.retry_rules.specs.declared.failure.FailurePhase.{FailurePhase}
use Rattle.retry_rules.specs.declared.failure.FailurePhase.TheVariants.{ConnectionEstablishment, Execution}
use Rattle.driver_attempt.specs.AttemptExchanges.{AsksPage, AsksPages, AttemptExchanges, EndsCursor, EndsCursorWhere, EndsPages, PageAsked, PageCame, ends_cursor, no_statements, pages_of}
use Rattle.driver_attempt.specs.Attempting.{Connects, EndsAtOnce, EndsRefused, EndsSent, EndsUnready, FailsIn, IsAnswered, LacksFrame, LosesExchange, MayFix, MayReadOn, NoFrame, NoNumber, NoSessions, NotConnected, NotSelected, Readies, ReadsOn, AttemptState, Sends, SpellsFailure, AttemptedOperation, MakesAttempt, besides_out, builds_again, on_connection, attempted_operation}
use Rattle.driver_attempt.specs.Causes as causes
use Rattle.driver_attempt.specs.Causes.{AllEarly, IsLast, KindAtLast, end_of, outline_of, next_number}
use Rattle.driver_attempt.specs.Executing.{Ends, EndsWith, Proceeds, first_state}
use Rattle.driver_attempt.specs.Concerns.{concern_of}
use Rattle.driver_attempt.specs.Failures.{IsFaultOf}
use Rattle.driver_attempt.specs.Holding.{DrawsNumber, ExecutionSession, held_id}
use Rattle.retry_rules.specs.LabelTable.{labels_outside_transactions}
use Rattle.driver_attempt.specs.Moment.{Moment}
use Rattle.retry_rules.specs.OldDeployment.{reworded, reworded_kind}
use Rattle.retry_rules.specs.Retry.{RetryState, after, after_further, avoiding, decide, in_phase, may_be_retried, reworded_failure, stays}
use Rattle.driver_attempt.specs.inside.Executing.{Reaches}
use Rattle.driver_attempt.proofs.RetryFold.{came_of}
use Rattle.driver_attempt.proofs.Causes.{notes_nothing}
use Rattle.driver_attempt.proofs.OneAttempt.{early_counted, later_of}
use Rattle.driver_exec.specs.OperationCauses.{Caused, DrawsNumbers, EndAtLast, EndNeeds, EndsCaused, FaultLabels, Grounds, IsRead, KindNeeds, PageNeeds, PagesNeed, SpellsEnd, TakesFirst, grounds, labels_after}
use Rattle.driver_exec.proofs.HeldSessions.{AtEnd, HeldSoFar, IsOf, draw_holds, draws_on, exchange_holds, held_at_first, is_of, is_told, last_draws_none, none_draws, pages_hold, ready_held, ready_holds, sent_held, sessionless, unnumbered_at_end}
use Rattle.driver_exec.proofs.EndNeeds.{early_twice, end_after, end_before, last_after, notes_twice, page_after, pages_before, pages_since}
use Rattle.driver_exec.proofs.FixedNumbers.{MayBeFixed, first_fixed, lacks_first, read_sent, ready_sent, sends_first}
use Rattle.driver_exec.proofs.PassesBy.{no_pages, reads_error, reads_output}

-- a link noted these; its count of faults did not fall, and its setup stays
pub record Adds (link now : LinkState) (items : List Answered) : Type 0 where
  pub noted : GainsAll link.answers now.answers items
  pub later : link.faults ≤ now.faults
  pub setup : setup_of now ≡ setup_of link

-- a link that was not called noted nothing
adds_nothing : (link : LinkState) → Adds link link []
adds_nothing link = record { noted = notes_nothing link.answers; later = omega arith; setup = refl }

-- what was noted by calls one after another
adds_twice : (link mid now : LinkState) (items more : List Answered) → Adds link mid items → Adds mid now more → Adds link now (items ++ more)
adds_twice link mid now items more first second = record {
  noted = notes_twice link.answers mid.answers now.answers items more first.noted second.noted;
  later = omega (arith, first.later, second.later);
  setup = second.setup ∙ first.setup;
}

-- what a call noted that is no exchange
calls_add : {B : Type 0} (which : LinkCall) (next : ServerRun → ServerRun) (found : ServerRun → Option Listed) (link now : LinkState) (result : Result B LinkError)
    → CallsLink which next found link now result → Adds link now (noted which nothing_noted result)
calls_add which next found link now result calls = record { noted = calls.answers; later = later_of link.faults now.faults result calls.cause; setup = calls.setup }

-- a connection that was had noted nothing
connects_add : {avoid : List Address} (link now : LinkState) (address : Address) (conn : Conn) → Connects avoid link now address conn → Adds link now []
connects_add link now address conn connects = adds_twice link connects.mid now [] []
    (calls_add Select _ _ link connects.mid (Ok address) connects.selects.calls) (calls_add CheckOut _ _ connects.mid now (Ok conn) connects.checks_out.calls)

-- what an exchange noted
exchange_adds : (link now : LinkState) (conn : Conn) (frame : Framed) (places : List Place) (result : Result (List ℕ) LinkError) → ExchangesFrame link now conn frame places result
    → Adds link now (noted Exchange reply_noted result)
exchange_adds link now conn frame places result exchanges =
    record { noted = exchanges.answers; later = later_of link.faults now.faults result exchanges.cause; setup = exchanges.setup }

-- the labels of a fault's error
table_labels : (retryability : Retryability) (found : LinkFault) (labels : List (List ℕ)) (bare : Error) → kind_of bare ≡ fault_kind found → labels_of bare ≡ label_set labels
    → labels_outside_transactions retryability bare ≡ labels_after retryability found labels
table_labels may.Write found labels bare kind_is labels_are =
    ap (λ why. if of_network why then with_label (labels_of bare) RETRYABLE_WRITE_ERROR.now else labels_of bare) kind_is
    ∙ ap (λ given. if of_network (fault_kind found) then with_label given RETRYABLE_WRITE_ERROR.now else given) labels_are
    ∙ ap (λ network. if network then with_label (label_set labels) RETRYABLE_WRITE_ERROR.now else label_set labels) (network_same found)
  where
    network_same : (found : LinkFault) → of_network (fault_kind found) ≡ is_network found
    network_same (fault.Io io) = refl
    network_same (fault.PoolCleared message) = refl
    network_same (fault.Selection message) = refl
    network_same (fault.Authentication message) = refl
table_labels may.Read found labels bare kind_is labels_are = labels_are
table_labels may.None found labels bare kind_is labels_are = labels_are

-- the kind and the labels of a fault's error
pub fault_error : (found : LinkFault) (labels : List (List ℕ)) (retryability : Retryability) (error : Error) → IsFaultOf found labels retryability error
    → (kind_of error ≡ fault_kind found) × (labels_of error ≡ labels_after retryability found labels)
fault_error found labels retryability error is = (
  is.labelled.rest.kind ∙ is.is.kind_is,
  is.labelled.labels ∙ table_labels retryability found labels is.bare is.is.kind_is is.is.labels_are,
)

-- it has no source
pub fault_source : (found : LinkFault) (labels : List (List ℕ)) (retryability : Retryability) (error : Error) → IsFaultOf found labels retryability error → source_of error ≡ None
fault_source found labels retryability error is = is.labelled.rest.source ∙ is.is.no_source

-- those of an exchange's fault are by the connection
exchange_labels : (retryability : Retryability) (setup : Option Setup) (description : Description) (found : LinkFault) (given : List (List ℕ)) (labels : LabelSet) → IsOf setup description
    → labels ≡ labels_after (on_connection retryability description) found given → FaultLabels Exchange retryability setup found given labels
exchange_labels retryability (Some setup) description found given labels is same = subst (λ d. labels ≡ labels_after (on_connection retryability d) found given) is same
exchange_labels retryability None description found given labels is same = by_retryability retryability same
  where
    by_test : (takes : Bool) → labels ≡ labels_after (if takes then may.Write else may.None) found given
        → (labels ≡ labels_after may.Write found given) ⊎ (labels ≡ label_set given)
    by_test true same = inl same
    by_test false same = inr same

    by_retryability : (retryability : Retryability) → labels ≡ labels_after (on_connection retryability description) found given → (labels ≡ labels_after retryability found given) ⊎ (labels ≡ label_set given)
    by_retryability may.Write same = by_test description.supports_retryable_writes same
    by_retryability may.Read same = inl same
    by_retryability may.None same = inl same

-- what a fault's error needs
module _ {A : Type 0} (on : Grounds A) (before now : ℕ) (which : LinkCall) (given : List (List ℕ)) (rose : Rose before now) where
  -- what its kind needs
  fault_needs : (found : LinkFault) (labels : LabelSet) → FaultLabels which on.retryability on.setup found given labels
      → KindNeeds on before now (answer.Fault which found given ∷ []) labels (fault_kind found)
  fault_needs (fault.Io io) labels is = (rose, inl (refl, is))
  fault_needs (fault.PoolCleared message) labels is = (rose, inl (refl, is))
  fault_needs (fault.Selection message) labels is = (rose, inl (refl, is))
  fault_needs (fault.Authentication message) labels is = (rose, inl (refl, is))

  -- what an end by it needs
  fault_end : (found : LinkFault) (error : Error) → kind_of error ≡ fault_kind found → FaultLabels which on.retryability on.setup found given (labels_of error) → source_of error ≡ None
      → EndNeeds on before now (answer.Fault which found given ∷ []) (Some (outline_of error))
  fault_end found error is labels none = inl (record {
    needs = subst (KindNeeds on before now (answer.Fault which found given ∷ []) (labels_of error)) (sym is) (fault_needs found (labels_of error) labels);
    no_source = none;
  })

-- a fault may be found where the numbers are at their end
fault_at_last : (found : LinkFault) → KindAtLast (fault_kind found)
fault_at_last (fault.Io io) = tt
fault_at_last (fault.PoolCleared message) = tt
fault_at_last (fault.Selection message) = tt
fault_at_last (fault.Authentication message) = tt

-- an error in words for the caller
pub reworded_is : (error : Error) → (kind_of (reworded error) ≡ reworded_kind (kind_of error)) × (labels_of (reworded error) ≡ labels_of error)
unfolding reworded with_kind
reworded_is error = (
  ap (λ layer. layer.kind) (out-roll-Error (record (out-Error error) { kind = reworded_kind (kind_of error) })),
  ap (λ layer. layer.labels) (out-roll-Error (record (out-Error error) { kind = reworded_kind (kind_of error) })),
)

pub reworded_source : (error : Error) → source_of (reworded error) ≡ source_of error
unfolding reworded with_kind
reworded_source error = ap (λ layer. layer.source) (out-roll-Error (record (out-Error error) { kind = reworded_kind (kind_of error) }))

-- the kind of a fault stays as it is
reworded_fault : (found : LinkFault) → reworded_kind (fault_kind found) ≡ fault_kind found
unfolding reworded_kind
reworded_fault (fault.Io io) = refl
reworded_fault (fault.PoolCleared message) = refl
reworded_fault (fault.Selection message) = refl
reworded_fault (fault.Authentication message) = refl

-- so does that of its error
reworded_same : (found : LinkFault) (error : Error) → kind_of error ≡ fault_kind found → kind_of (reworded error) ≡ fault_kind found
reworded_same found error is = (reworded_is error).0 ∙ ap reworded_kind is ∙ reworded_fault found

-- the error of the failure that is kept has a property
abbrev pub KeptHas : (Error → Type 0) → Option RetryState → Type 0
KeptHas P None = Unit {0}
KeptHas P (Some kept) = P kept.failure.error

-- the error of the failure that a decision keeps, or that it answers, has a property
abbrev pub ResultHas : (Error → Type 0) → Result RetryState Error → Type 0
ResultHas P (Ok kept) = P kept.failure.error
ResultHas P (Err error) = P error

-- a property that follows from another
pub kept_has : (P Q : Error → Type 0) (kept : Option RetryState) → ((error : Error) → P error → Q error) → KeptHas P kept → KeptHas Q kept
kept_has P Q None then_has has = tt
kept_has P Q (Some kept) then_has has = then_has kept.failure.error has

module _ (P : Error → Type 0) where
  -- a property of the kept error and of the new one is one of what is kept of both
  after_has : (kept : Option RetryState) (failure : AttemptFailure) → KeptHas P kept → P failure.error → P (after kept failure).failure.error
  unfolding after after_further
  after_has None failure has new = new
  after_has (Some kept) failure has new = by_test (stays kept.failure (in_phase failure))
    where
      by_test : (stay : Bool) → P (if stay then kept.failure else in_phase failure).error
      by_test true = has
      by_test false = new

  -- a server that is avoided changes no failure
  avoiding_has : (sharded : Bool) (address : Address) (kept : RetryState) → P kept.failure.error → P (avoiding sharded address kept).failure.error
  unfolding avoiding
  avoiding_has true address kept has = has
  avoiding_has false address kept has = has

  -- so it is after the decision
  decide_has : (kept : Option RetryState) (failure : AttemptFailure) (retryability : Retryability) (sharded : Bool) → KeptHas P kept
      → P (reworded failure.error) → ResultHas P (decide kept failure retryability sharded)
  unfolding decide
  decide_has kept failure retryability sharded has new = by_test (may_be_retried (reworded_failure failure) retryability)
    where
      holds : P (after kept (reworded_failure failure)).failure.error
      holds = after_has kept (reworded_failure failure) has new

      by_test : (may : Bool) → ResultHas P (if may then Ok (avoiding sharded failure.address (after kept (reworded_failure failure))) else Err (after kept (reworded_failure failure)).failure.error)
      by_test true = avoiding_has sharded failure.address (after kept (reworded_failure failure)) holds
      by_test false = holds

  -- and after what is decided in an operation
  pub decided_has : {A : Type 0} (op : AttemptedOperation A) (sharded : Bool) (kept : Option RetryState) (failure : AttemptFailure) (result : Result RetryState Error) → KeptHas P kept
      → P (reworded failure.error) → decide kept failure op.retryability sharded ≡ result → ResultHas P result
  decided_has op sharded kept failure result has new is = subst (ResultHas P) is (decide_has kept failure op.retryability sharded has new)

-- what the exchanges behind a command noted, with the reply before it: each page has its needs
pub record BehindNoted {A : Type 0} (spec : OperationSpec A) (statements : ℕ) (reply : List ℕ) (link now : LinkState) (pages : List Page) : Type 0 where
  pub more : List Answered
  pub adds : Adds link now more
  pub told : PagesNeed spec statements reply link.faults now.faults (answer.Reply reply ∷ more) pages

-- what one question for a page noted
record PageNoted {A : Type 0} (spec : OperationSpec A) (statements : ℕ) (reply : List ℕ) (pages : List Page) (link now : LinkState) (page : Page) : Type 0 where
  more : List Answered
  adds : Adds link now more
  needs : (before : ℕ) (items : List Answered) → before ≤ link.faults → PageNeeds spec statements reply pages before now.faults (answer.Reply reply ∷ items ++ more) page

-- want of memory is spelled by any reply
memory_page : {A : Type 0} (spec : OperationSpec A) (statements : ℕ) (pages : List Page) (before now : ℕ) (reply : List ℕ) (items : List Answered) (failure : Error) → kind_of failure ≡ kind.Memory
    → PageNeeds spec statements reply pages before now (answer.Reply reply ∷ items) (Err failure)
memory_page spec statements pages before now reply items failure memory = inl (inl (inl memory))

page_noted : {A : Type 0} (spec : OperationSpec A) (statements : ℕ) (conn : Conn) (session : Option (List ℕ)) (reply : List ℕ) (pages : List Page) (link now : LinkState) (asked : PageAsked)
    → LeavesCursor spec statements reply pages asked.cursor asked.namespace → AsksPage conn session link now asked → PageNoted spec statements reply pages link now asked.page
page_noted spec statements conn session reply pages link now asked left asks = elim asks [
  | inl out ↦
      let adds = exchange_adds link now conn out.exchanges.frame (front no_statements) out.result out.exchanges.exchanges in record {
        more = noted Exchange reply_noted out.result;
        adds = adds;
        needs = λ before items later. of_came out.result asked.page out.came before items later (out.exchanges.exchanges.cause);
      }
  | inr lacks ↦ record {
    more = [];
    adds = subst (λ l. Adds link l []) (sym lacks.same) (adds_nothing link);
    needs = λ before items later. subst (PageNeeds spec statements reply pages before now.faults (answer.Reply reply ∷ items ++ [])) (sym lacks.page_is) (elim lacks.why [
      | inl none ↦ inr (inr (record { namespace = asked.namespace; cursor = asked.cursor; left = left; context = under session None; is = none }))
      | inr memory ↦ memory_page spec statements pages before now.faults reply (items ++ []) lacks.failure memory
    ]);
  }
]
  where
    of_came : (result : Result (List ℕ) LinkError) (page : Page) → PageCame result page → (before : ℕ) (items : List Answered) → before ≤ link.faults → HasLinkCause link.faults now.faults result
        → PageNeeds spec statements reply pages before now.faults (answer.Reply reply ∷ items ++ noted Exchange reply_noted result) page
    of_came (Ok bytes) (Ok page) came before items later cause =
        page_after spec statements reply before link.faults now.faults (answer.Reply reply ∷ items) (answer.Reply bytes ∷ []) later pages (Ok page) (inl (subst (λ (d : List (Pair Bson)). Spells d bytes) (sym came.1.1) came.1.0.spelled))
    of_came (Ok bytes) (Err failure) came before items later cause =
        page_after spec statements reply before link.faults now.faults (answer.Reply reply ∷ items) (answer.Reply bytes ∷ []) later pages (Err failure) (inl (inl came))
    of_came (Err failed) (Ok page) came before items later cause = absurd came
    of_came (Err (Fault found labels)) (Err failure) came before items later cause = elim came [
      | inl is ↦ page_after spec statements reply before link.faults now.faults (answer.Reply reply ∷ items) (answer.Fault Exchange found labels ∷ []) later pages (Err failure) (inr (inl (cause.0, inl is)))
      | inr memory ↦ memory_page spec statements pages before now.faults reply (items ++ answer.Fault Exchange found labels ∷ []) failure memory
    ]
    of_came (Err Memory) (Err failure) came before items later cause = memory_page spec statements pages before now.faults reply (items ++ []) failure came

-- the end of a cursor notes its answer
ended_adds : (conn : Conn) (link now : LinkState) (asked : PageAsked) → EndsCursor conn link now asked → (items : List Answered) × Adds link now items
ended_adds conn link now asked ends = elim ends [
  | inl out ↦ (noted Exchange reply_noted out.result, exchange_adds link now conn out.exchanges.frame (front no_statements) out.result out.exchanges.exchanges)
  | inr lacks ↦ ([], subst (λ l. Adds link l []) (sym lacks.same) (adds_nothing link))
]

where_adds : (is : Bool) (conn : Conn) (link now : LinkState) (asked : PageAsked) → EndsCursorWhere is conn link now asked → (items : List Answered) × Adds link now items
where_adds true conn link now asked ends = ended_adds conn link now asked ends
where_adds false conn link now asked same = ([], subst (λ l. Adds link l []) (sym same) (adds_nothing link))

module _ {A : Type 0} (spec : OperationSpec A) (statements : ℕ) (reply : List ℕ) (conn : Conn) where
  asks_noted : (session : Option (List ℕ)) (link : LinkState) (asked : List PageAsked) (mid : LinkState) → AsksPages spec statements reply conn session link asked mid → BehindNoted spec statements reply link mid (pages_of asked)
  asks_noted session link [] mid same = record { more = []; adds = subst (λ l. Adds link l []) (sym same) (adds_nothing link); told = tt }
  asks_noted session link (last ∷ earlier) mid asks =
      let before = asks_noted session link earlier asks.0 asks.1.0 in
      let page = page_noted spec statements conn session reply (pages_of earlier) asks.0 mid last asks.1.1 asks.1.2 in record {
        more = before.more ++ page.more;
        adds = adds_twice link asks.0 mid before.more page.more before.adds page.adds;
        told = (
          page.needs link.faults before.more before.adds.later,
          pages_before spec statements reply link.faults asks.0.faults mid.faults (answer.Reply reply ∷ before.more) page.more page.adds.later (pages_of earlier) before.told,
        );
      }

  end_adds : (link now : LinkState) (asked : List PageAsked) (given : Result A Error) → EndsPages spec statements reply conn link now asked given → (items : List Answered) × Adds link now items
  end_adds link now [] given ends = ([], subst (λ l. Adds link l []) (sym ends.1) (adds_nothing link))
  end_adds link now (last ∷ earlier) (Ok output) ends = ([], subst (λ l. Adds link l []) (sym ends.1) (adds_nothing link))
  end_adds link now (last ∷ earlier) (Err error) ends = elim ends [
    | inl fails ↦ where_adds (ends_cursor last.page error) conn link now last fails.ends
    | inr lacks ↦ elim lacks.may [ inl same ↦ ([], subst (λ l. Adds link l []) (sym same) (adds_nothing link)) | inr ended ↦ where_adds (ends_cursor last.page lacks.bare) conn link now last ended ]
  ]

  behind_noted : (session : Option (List ℕ)) (link now : LinkState) (held held_now : ExecutionSession) (given : Result A Error)
      (exchanges : AttemptExchanges spec statements reply conn session link now held held_now given) → BehindNoted spec statements reply link now (pages_of exchanges.asked)
  behind_noted session link now held held_now given exchanges =
      let asked = asks_noted session link exchanges.asked exchanges.mid exchanges.asks in
      let ended = end_adds exchanges.mid now exchanges.asked given exchanges.ends in record {
        more = asked.more ++ ended.0;
        adds = adds_twice link exchanges.mid now asked.more ended.0 asked.adds ended.1;
        told = pages_before spec statements reply link.faults exchanges.mid.faults now.faults (answer.Reply reply ∷ asked.more) ended.0 ended.1.later (pages_of exchanges.asked) asked.told;
      }

-- what each end of an attempt needs
module _ {A : Type 0} (on : Grounds A) (before now : ℕ) (items : List Answered) (error : Error) where
  -- want of memory
  memory_needs : IsAlone kind.Memory no_labels error → EndNeeds on before now items (Some (outline_of error))
  memory_needs is = inl (record {
    needs = subst (KindNeeds on before now items (labels_of error)) (sym is.kind_is) is.labels_are;
    no_source = is.no_source;
  })

  -- want of memory, where the numbers are at their end
  memory_at_last : IsAlone kind.Memory no_labels error → KindAtLast (kind_of error)
  memory_at_last is = subst (KindAtLast) (sym is.kind_is) tt

  -- a session that a connection does not take
  sessions_needs : on.setup ≡ None → IsAlone kind.SessionsNotSupported no_labels error → EndNeeds on before now items (Some (outline_of error))
  sessions_needs none is =
      inl (record { needs = subst (KindNeeds on before now items (labels_of error)) (sym is.kind_is) (none, is.labels_are); no_source = is.no_source })

  -- a built command without a frame
  unspelled_needs : (context : SendContext) (description : Description) (fixed fixed_now : Option ℕ) → context.concern ≡ on.concern
      → ((lacks : LacksFrame on.spec context description fixed fixed_now error) → TakesFirst on.spec on.fixed on.setup lacks.statements)
      → (LacksFrame on.spec context description fixed fixed_now error ⊎ (IsAlone kind.Memory no_labels error × MayFix on.spec description fixed fixed_now)) → EndNeeds on before now items (Some (outline_of error))
  unspelled_needs context description fixed fixed_now goes first why = elim why [
    | inl lacks ↦ inl (record {
      needs = subst (KindNeeds on before now items (labels_of error)) (sym lacks.unframed.is.kind_is)
          (record { context = context; goes_with = goes; statements = lacks.statements; first = first lacks; is = lacks.unframed.none; same = lacks.same }, lacks.unframed.is.labels_are);
      no_source = lacks.unframed.is.no_source;
    })
    | inr memory ↦ memory_needs memory.0
  ]

  -- a build that was refused
  refused_needs : (description : Description) → IsOf on.setup description → Refuses on.spec on.fixed description error → EndNeeds on before now items (Some (outline_of error))
  refused_needs description is refuses = inr (inr (record { description = description; told = is_told on.setup description is; error = error; refuses = refuses; is = refl }))

  -- no number was left
  end_needs : AtEnd on.number error → EndNeeds on before now items (Some (outline_of error))
  end_needs tells = elim tells [
    | inl memory ↦ memory_needs memory
    | inr ends ↦ inl (record {
      needs = subst (KindNeeds on before now items (labels_of error)) (sym ends.is.kind_is) (ends.may, refl, ends.is.labels_are);
      no_source = ends.is.no_source;
    })
  ]

  -- no number was left, where the numbers are at their end
  end_at_last : AtEnd on.number error → KindAtLast (kind_of error)
  end_at_last tells = elim tells [
    | inl memory ↦ memory_at_last memory
    | inr ends ↦ subst (KindAtLast) (sym ends.is.kind_is) tt
  ]

module _ {A : Type 0} (spec : OperationSpec A) (batch : Batch) (which : SendKind) (retryability : Retryability) (concern : Option WriteConcern) (store : StoreTells) (link : LinkState) (fixed : Option ℕ)
    (alone : spec.paged ≡ false → NeverOpen spec) where
  -- the operation as its attempts see it
  abbrev op : AttemptedOperation A
  op = attempted_operation spec batch which retryability concern

  -- what its end is judged by
  abbrev on : Grounds A
  on = record { spec = spec; fixed = fixed; retryability = retryability; concern = concern; setup = setup_of link; number = next_number store }

  -- what it holds at a moment
  abbrev pub HeldAt : AttemptState → Type 0
  HeldAt now = HeldSoFar store (setup_of link) now.store now.held.session now.held.sent

  -- the number of its command's statements at a moment
  abbrev pub FixedAt : AttemptState → Type 0
  FixedAt now = MayBeFixed spec fixed (setup_of link) batch.statements now.fixed

  -- the next session's number is at its end, and each send would have one
  pub record AtLast : Type 0 where
    pub draws : DrawsNumbers spec.sessions retryability (setup_of link)
    pub last : IsLast (next_number store)

  -- what an end by an error needs
  abbrev pub Needs : ℕ → ℕ → List Answered → Error → Type 0
  Needs before now items error = EndNeeds on before now items (Some (outline_of error))

  -- an error that may end the operation where the numbers are at their end
  abbrev pub Lasts : Error → Type 0
  Lasts error = KindAtLast (kind_of error)

  -- a command that is not built again is built by the number that was fixed when the operation began
  abbrev BuildsFirst : Option RetryState → AttemptState → Type 0
  BuildsFirst past mid = builds_again (is_some past) mid.held ≡ false → mid.fixed ≡ fixed

  -- one attempt
  module _ (past : Option RetryState) (mid : AttemptState) (setup_is : (setup_of mid.link) ≡ (setup_of link)) (held_so_far : HeldAt mid) (fixed_so_far : FixedAt mid) where
    -- each connection has the description of the setup
    conn_is : {avoid : List Address} (now : LinkState) (address : Address) (conn : Conn) → Connects avoid mid.link now address conn → IsOf (setup_of link) conn.description
    conn_is now address conn connects = is_of (setup_of link) (setup_of connects.mid) address conn (connects.selects.calls.setup ∙ setup_is) connects.checks_out.to

    module _ (ready : AttemptState) (address : Address) (conn : Conn) (readies : Readies op past mid ready address conn) where
      -- what may be repeated on the connection
      abbrev connection_retryability : Retryability
      connection_retryability = on_connection retryability conn.description

      -- its description is that of the setup
      is_conn : IsOf (setup_of link) conn.description
      is_conn = conn_is ready.link address conn readies.connects

      -- the link noted nothing until then
      ready_adds : Adds mid.link ready.link []
      ready_adds = connects_add mid.link ready.link address conn readies.connects

      -- what is held then
      held_ready : HeldAt ready
      held_ready = ready_held store (setup_of link) spec.sessions conn.description is_conn mid.store ready.store mid.held ready.held readies.holds held_so_far

      -- no number is drawn after the last one
      draws_none : AtLast → mid.held.sent ≡ None → (numbered : ExecutionSession) (number : Option ℤ) → DrawsNumber ready.held.sent connection_retryability ready.held numbered (Ok number) → ⊥
      draws_none at unsent numbered number draws =
          let takes = draws_on spec.sessions retryability (setup_of link) conn.description at.draws is_conn in
          let holds = ready_holds store (setup_of link) spec.sessions conn.description is_conn mid.store ready.store mid.held ready.held takes.0 unsent readies.holds in
          last_draws_none (next_number store) connection_retryability ready.held numbered number at.last takes.1 holds.0 holds.1 held_ready.first draws

    module _ (now : AttemptState) (address : Address) (conn : Conn) (result : Result (List ℕ) LinkError) (sends : Sends op past mid now address conn result) where
      -- what a command that went out noted
      sends_add : Adds mid.link now.link (noted Exchange reply_noted result)
      sends_add = adds_twice mid.link sends.ready.link now.link [] (noted Exchange reply_noted result) (ready_adds sends.ready address conn sends.readies)
          (exchange_adds sends.ready.link now.link conn sends.exchanges.frame (front batch) result sends.exchanges.exchanges)

      -- it had as many statements as a first build takes
      pub first_sent : TakesFirst spec fixed (setup_of link) batch.statements
      first_sent = sends_first op fixed (setup_of link) past mid now address conn result sends (is_conn sends.ready address conn sends.readies) fixed_so_far

      -- which are fixed then
      fixed_sent : FixedAt now
      fixed_sent = inr (first_sent, sends.fixed_is)

      -- no command goes out where the numbers are at their end
      sends_not_at_last : AtLast → mid.held.sent ≡ None → ⊥
      sends_not_at_last at unsent = draws_none sends.ready address conn sends.readies at unsent sends.numbered sends.number sends.draws

      -- what is held after it
      held_sent : HeldAt now
      held_sent =
          let ready = sends.ready in
          let held = record sends.numbered { sent = Some sends.number } in
          let kept = exchange_holds store (setup_of link) result held in
          let drawn = draw_holds store (setup_of link) (on_connection retryability conn.description) ready.held sends.numbered (Ok sends.number) sends.draws in
          let same : is_some now.held.session ≡ is_some ready.held.session = ap (λ h. is_some h.session) sends.held_is ∙ kept.0 ∙ drawn in
          let sent : now.held.sent ≡ Some sends.number = ap (λ h. h.sent) sends.held_is ∙ kept.1 in
          let held_then = sent_held store (setup_of link) ready.store ready.held.session now.held.session ready.held.sent sends.number same (held_ready ready address conn sends.readies) in
          subst (λ s. HeldSoFar store (setup_of link) now.store now.held.session s) (sym sent)
          (subst (λ s. HeldSoFar store (setup_of link) s now.held.session (Some sends.number)) (sym sends.store_is) held_then)

    -- the attempt failed, and an error has its needs
    record Fails (now : AttemptState) (error : Error) : Type 0 where
      more : List Answered
      adds : Adds mid.link now.link more
      held_now : HeldAt now
      fixed_now : FixedAt now
      needs : Needs mid.link.faults now.link.faults more error
      early : AtLast → mid.held.sent ≡ None → AllEarly more × (now.held.sent ≡ None) × Lasts error

    -- there was no connection
    not_connected : (now : AttemptState) (address : Address) (error : Error) → NotConnected op past mid now address error → Fails now (reworded error)
    not_connected now address error fails =
        let is = fault_error fails.fault fails.labels retryability error fails.is in
        let kind_is = reworded_same fails.fault error is.0 in
        let labels = (reworded_is error).1 ∙ is.1 in
        let first = calls_add Select _ _ mid.link fails.mid (Ok address) fails.selects.calls in
        let second = calls_add CheckOut _ _ fails.mid now.link (Err (Fault fails.fault fails.labels)) fails.checks_out.calls in record {
          more = answer.Fault CheckOut fails.fault fails.labels ∷ [];
          adds = adds_twice mid.link fails.mid now.link [] (answer.Fault CheckOut fails.fault fails.labels ∷ []) first second;
          held_now = subst (λ s. HeldSoFar store (setup_of link) s now.held.session now.held.sent) (sym fails.rest.store)
              (subst (λ h. HeldSoFar store (setup_of link) mid.store h.session h.sent) (sym fails.rest.held) held_so_far);
          fixed_now = subst (MayBeFixed spec fixed (setup_of link) batch.statements) (sym fails.rest.fixed) fixed_so_far;
          needs = fault_end on mid.link.faults now.link.faults CheckOut fails.labels (let cause = fails.checks_out.calls.cause in let later = first.later in omega (arith, cause.0, later)) fails.fault
              (reworded error) kind_is labels (reworded_source error ∙ fault_source fails.fault fails.labels retryability error fails.is);
          early = λ at unsent. (
            tt,
            ap (λ h. h.sent) fails.rest.held ∙ unsent,
            subst (KindAtLast) (sym kind_is) (fault_at_last fails.fault),
          );
        }

    -- the exchange failed
    loses_exchange : (now : AttemptState) (address : Address) (error : Error) → LosesExchange op past mid now address error → Fails now (reworded error)
    loses_exchange now address error fails =
        let conn = fails.conn in
        let sends = fails.sends in
        let result = Err (Fault fails.fault fails.labels) in
        let connection_retryability = on_connection retryability conn.description in
        let is = fault_error fails.fault fails.labels connection_retryability fails.is.bare fails.is.is in
        let kind_is = reworded_same fails.fault error (fails.is.versioned.kind ∙ is.0) in
        let labels = (reworded_is error).1 ∙ fails.is.versioned.labels ∙ is.1 in
        let description = is_conn sends.ready address conn sends.readies in
        let first = ready_adds sends.ready address conn sends.readies in record {
          more = answer.Fault Exchange fails.fault fails.labels ∷ [];
          adds = sends_add now address conn result sends;
          held_now = held_sent now address conn result sends;
          fixed_now = fixed_sent now address conn result sends;
          needs = fault_end on mid.link.faults now.link.faults Exchange fails.labels (let cause = sends.exchanges.exchanges.cause in let later = first.later in omega (arith, cause.0, later)) fails.fault
              (reworded error) kind_is (exchange_labels retryability (setup_of link) conn.description fails.fault fails.labels (labels_of (reworded error)) description labels)
              (reworded_source error ∙ fails.is.versioned.source ∙ fault_source fails.fault fails.labels connection_retryability fails.is.bare fails.is.is);
          early = λ at unsent. absurd (sends_not_at_last now address conn result sends at unsent);
        }

    -- what is read behind a command that went out
    module _ (behind now : AttemptState) (address : Address) (conn : Conn) (reply : List ℕ) (given : Result A Error) (sends : Sends op past mid behind address conn (Ok reply)) (reads : ReadsOn op conn reply behind now given) where
      read_noted : BehindNoted spec batch.statements reply behind.link now.link (pages_of reads.exchanges.asked)
      read_noted = behind_noted spec batch.statements reply conn (held_id behind.held) behind.link now.link behind.held now.held given reads.exchanges

      read_adds : Adds mid.link now.link (answer.Reply reply ∷ read_noted.more)
      read_adds = adds_twice mid.link behind.link now.link (answer.Reply reply ∷ []) read_noted.more (sends_add behind address conn (Ok reply) sends) read_noted.adds

      -- each page has its needs since the attempt began
      read_told : PagesNeed spec batch.statements reply mid.link.faults now.link.faults (answer.Reply reply ∷ read_noted.more) (pages_of reads.exchanges.asked)
      read_told = pages_since spec batch.statements reply mid.link.faults behind.link.faults now.link.faults (answer.Reply reply ∷ read_noted.more) (sends_add behind address conn (Ok reply) sends).later (pages_of reads.exchanges.asked) read_noted.told

      -- an operation with one page has none behind its reply
      read_alone : spec.paged ≡ false → pages_of reads.exchanges.asked ≡ []
      read_alone = no_pages spec batch.statements reply conn alone (held_id behind.held) behind.link now.link behind.held now.held given reads.exchanges

      read_held : HeldAt now
      read_held =
          let sent_so = held_sent behind address conn (Ok reply) sends in
          let same : is_some now.held.session ≡ is_some behind.held.session = ap (λ h. is_some h.session) reads.exchanges.held_is ∙ pages_hold store (setup_of link) reads.exchanges.asked behind.held in
          let sent : behind.held.sent ≡ Some sends.number = ap (λ h. h.sent) sends.held_is in
          subst (λ s. HeldSoFar store (setup_of link) now.store now.held.session s) (sym (read_sent behind now reads ∙ sent))
          (subst (λ s. HeldSoFar store (setup_of link) s now.held.session (Some sends.number)) (sym reads.store)
          (sent_held store (setup_of link) behind.store behind.held.session now.held.session behind.held.sent sends.number same sent_so))

      read_fixed : FixedAt now
      read_fixed = subst (MayBeFixed spec fixed (setup_of link) batch.statements) (sym reads.fixed) (fixed_sent behind address conn (Ok reply) sends)

    -- the answer to the command spelled an error
    spells_failure : (now : AttemptState) (address : Address) (error : Error) → SpellsFailure op past mid now address error → Fails now (reworded error)
    spells_failure now address error fails =
        let conn = fails.conn in
        let behind = fails.behind in
        let sends = fails.sends in
        let exchanges = fails.reads.exchanges in
        let labelled = fails.is.is.labelled in
        let noted = read_noted behind now address conn fails.reply (Err fails.bare) sends fails.reads in
        let spells : SpellsEnd on mid.link.faults now.link.faults (answer.Reply fails.reply ∷ noted.more) (outline_of (reworded error)) fails.reply = record {
          statements = batch.statements;
          first = first_sent behind address conn (Ok fails.reply) sends;
          pages = pages_of exchanges.asked;
          alone = read_alone behind now address conn fails.reply (Err fails.bare) sends fails.reads;
          told = read_told behind now address conn fails.reply (Err fails.bare) sends fails.reads;
          bare = fails.bare;
          reads = reads_error spec batch.statements fails.reply conn exchanges.mid now.link exchanges.asked fails.bare exchanges.ends;
          other = fails.is.is.told;
          connection_retryability = on_connection retryability conn.description;
          kind_is = (reworded_is error).0 ∙ ap reworded_kind (fails.is.versioned.kind ∙ labelled.rest.kind);
          labels_are = (reworded_is error).1 ∙ fails.is.versioned.labels ∙ labelled.labels;
          source_is = reworded_source error ∙ fails.is.versioned.source ∙ labelled.rest.source;
        } in record {
          more = answer.Reply fails.reply ∷ noted.more;
          adds = read_adds behind now address conn fails.reply (Err fails.bare) sends fails.reads;
          held_now = read_held behind now address conn fails.reply (Err fails.bare) sends fails.reads;
          fixed_now = read_fixed behind now address conn fails.reply (Err fails.bare) sends fails.reads;
          needs = inr (inl (inl spells));
          early = λ at unsent. absurd (sends_not_at_last behind address conn (Ok fails.reply) sends at unsent);
        }

    -- an attempt that failed in a phase
    fails_in : (now : AttemptState) (address : Address) (phase : FailurePhase) (error : Error) → FailsIn op past mid now address phase error → Fails now (reworded error)
    fails_in now address ConnectionEstablishment error fails = not_connected now address error fails
    fails_in now address Execution error fails = elim fails [
      | inl lost ↦ loses_exchange now address error lost
      | inr spelled ↦ spells_failure now address error spelled
    ]

    -- the attempt ended the operation
    record Finishes (now : AttemptState) (ended : Option causes.ErrorOutline) : Type 0 where
      more : List Answered
      adds : Adds mid.link now.link more
      needs : EndNeeds on mid.link.faults now.link.faults more ended
      early : AtLast → mid.held.sent ≡ None → EndAtLast on more ended

    finishes_error : (now : AttemptState) (error : Error) → Fails now error → Finishes now (Some (outline_of error))
    finishes_error now error fails = record {
      more = fails.more;
      adds = fails.adds;
      needs = fails.needs;
      early = λ at unsent. let early = fails.early at unsent in (early.0, early.2);
    }

    -- the answer was read
    finishes_done : (now : AttemptState) (output : A) → IsAnswered op past mid now output → Finishes now None
    finishes_done now output answered =
        let behind = answered.behind in
        let exchanges = answered.reads.exchanges in
        let noted = read_noted behind now answered.address answered.conn answered.reply (Ok output) answered.sends answered.reads in
        let read : IsRead on mid.link.faults now.link.faults (answer.Reply answered.reply ∷ noted.more) answered.reply = record {
          statements = batch.statements;
          first = first_sent behind answered.address answered.conn (Ok answered.reply) answered.sends;
          pages = pages_of exchanges.asked;
          alone = read_alone behind now answered.address answered.conn answered.reply (Ok output) answered.sends answered.reads;
          told = read_told behind now answered.address answered.conn answered.reply (Ok output) answered.sends answered.reads;
          output = output;
          reads = (reads_output spec batch.statements answered.reply answered.conn exchanges.mid now.link exchanges.asked output exchanges.ends).0;
        } in record {
          more = answer.Reply answered.reply ∷ noted.more;
          adds = read_adds behind now answered.address answered.conn answered.reply (Ok output) answered.sends answered.reads;
          needs = inl read;
          early = λ at unsent. absurd (sends_not_at_last behind answered.address answered.conn (Ok answered.reply) answered.sends at unsent);
        }

    -- what a selection that failed noted
    selection_adds : (now : AttemptState) (error : Error) (selected : NotSelected past mid now error) → Adds mid.link now.link (answer.Fault Select selected.fault selected.labels ∷ [])
    selection_adds now error selected = calls_add Select _ _ mid.link now.link (Err (Fault selected.fault selected.labels)) selected.selects.calls

    -- no server was selected
    finishes_unselected : (now : AttemptState) (error : Error) → NotSelected past mid now error → Finishes now (Some (outline_of error))
    finishes_unselected now error selected =
        let is = fault_error selected.fault selected.labels may.None error selected.is in record {
          more = answer.Fault Select selected.fault selected.labels ∷ [];
          adds = selection_adds now error selected;
          needs = fault_end on mid.link.faults now.link.faults Select selected.labels selected.selects.calls.cause.0 selected.fault error is.0 is.1 (fault_source selected.fault selected.labels may.None error selected.is);
          early = λ at unsent. (tt, subst (KindAtLast) (sym is.0) (fault_at_last selected.fault));
        }

    -- there was no memory before a session was lent
    finishes_unready : (now : AttemptState) (error : Error) → EndsUnready past mid now error → Finishes now (Some (outline_of error))
    finishes_unready now error ends =
        let counted = early_counted mid.link now.link ends.asks in record {
          more = counted.items;
          adds = record { noted = counted.notes; later = counted.later; setup = counted.setup };
          needs = memory_needs on mid.link.faults now.link.faults counted.items error ends.why;
          early = λ at unsent. (counted.early, memory_at_last on mid.link.faults now.link.faults counted.items error ends.why);
        }

    -- there was no memory after the command went out
    finishes_sent : (now : AttemptState) (error : Error) → EndsSent op past mid now error → Finishes now (Some (outline_of error))
    finishes_sent now error ends = by_result ends.result ends.sends ends.reads
      where
        by_result : (result : Result (List ℕ) LinkError) → Sends op past mid ends.behind ends.address ends.conn result → MayReadOn op ends.conn result ends.behind now → Finishes now (Some (outline_of error))
        by_result (Ok reply) sends reads =
            let more = answer.Reply reply ∷ (read_noted ends.behind now ends.address ends.conn reply reads.answer sends reads.reads).more in record {
              more = more;
              adds = read_adds ends.behind now ends.address ends.conn reply reads.answer sends reads.reads;
              needs = memory_needs on mid.link.faults now.link.faults more error ends.why;
              early = λ at unsent. absurd (sends_not_at_last ends.behind ends.address ends.conn (Ok reply) sends at unsent);
            }
        by_result (Err failure) sends same =
            let more = noted Exchange reply_noted (Err failure) in record {
              more = more;
              adds = subst (λ s. Adds mid.link s.link more) (sym same) (sends_add ends.behind ends.address ends.conn (Err failure) sends);
              needs = memory_needs on mid.link.faults now.link.faults more error ends.why;
              early = λ at unsent. absurd (sends_not_at_last ends.behind ends.address ends.conn (Err failure) sends at unsent);
            }

    module _ (now ready : AttemptState) (address : Address) (conn : Conn) (readies : Readies op past mid ready address conn) (same : now.link ≡ ready.link) (error : Error) where
      -- the link noted nothing until a command was refused
      refused_adds : Adds mid.link now.link []
      refused_adds = subst (λ l. Adds mid.link l []) (sym same) (ready_adds ready address conn readies)

      -- a session is held, and the connection takes none
      finishes_sessionless : NoSessions conn.description ready.held now.held ready.fixed now.fixed error → Finishes now (Some (outline_of error))
      finishes_sessionless refused =
          let none = sessionless (setup_of link) conn.description ready.held.session (is_conn ready address conn readies) (held_ready ready address conn readies).takes refused.none in record {
            more = [];
            adds = refused_adds;
            needs = sessions_needs on mid.link.faults now.link.faults [] error none refused.is;
            early = λ at unsent. absurd (none_draws spec.sessions retryability (subst (DrawsNumbers spec.sessions retryability) none at.draws));
          }

      -- there was no number
      finishes_unnumbered : NoNumber past conn.description (on_connection retryability conn.description) ready.held now.held ready.fixed now.fixed error → Finishes now (Some (outline_of error))
      finishes_unnumbered refused =
          let tells = unnumbered_at_end (next_number store) (on_connection retryability conn.description) ready.held now.held error (held_ready ready address conn readies).first refused.draws in record {
            more = [];
            adds = refused_adds;
            needs = end_needs on mid.link.faults now.link.faults [] error tells;
            early = λ at unsent. (tt, end_at_last on mid.link.faults now.link.faults [] error tells);
          }

      -- the number by which a command that is not built again is built
      ready_fixed : BuildsFirst past mid → builds_again (is_some past) ready.held ≡ false → ready.fixed ≡ fixed
      ready_fixed begun first = readies.fixed ∙ begun (sym (ap (λ sent. is_some past && is_some sent) (ready_sent op mid ready address conn readies)) ∙ first)

      -- there was no frame
      finishes_unframed : BuildsFirst past mid → NoFrame spec concern past conn.description (on_connection retryability conn.description) ready.held now.held ready.fixed now.fixed error
          → Finishes now (Some (outline_of error))
      finishes_unframed begun refused = record {
        more = [];
        adds = refused_adds;
        needs = elim refused.why [
          | inl early ↦ refused_needs on mid.link.faults now.link.faults [] error conn.description (is_conn ready address conn readies)
              (subst (λ number. Refuses spec number conn.description error) (ready_fixed begun early.0) early.1)
          | inr none ↦ unspelled_needs on mid.link.faults now.link.faults [] error (in_context (held_id now.held) refused.number concern) conn.description ready.fixed now.fixed refl
              (λ lacks. lacks_first op fixed (setup_of link) (in_context (held_id now.held) refused.number concern) conn.description ready.fixed now.fixed error lacks (is_conn ready address conn readies)
              (subst (MayBeFixed spec fixed (setup_of link) batch.statements) (sym readies.fixed) fixed_so_far)) none
        ];
        early = λ at unsent. absurd (draws_none ready address conn readies at unsent now.held refused.number refused.draws);
      }

    -- the command was refused before it went out
    finishes_refused : BuildsFirst past mid → (now : AttemptState) (error : Error) → EndsRefused op past mid now error → Finishes now (Some (outline_of error))
    finishes_refused begun now error ends = elim ends.refused [
      | inl none ↦ finishes_sessionless now ends.ready ends.address ends.conn ends.readies ends.link error none
      | inr other ↦ elim other [
        | inl none ↦ finishes_unnumbered now ends.ready ends.address ends.conn ends.readies ends.link error none
        | inr none ↦ finishes_unframed now ends.ready ends.address ends.conn ends.readies ends.link error begun none
      ]
    ]

    -- the attempt ended the operation at once
    finishes_ended : BuildsFirst past mid → (now : AttemptState) (error : Error) → EndsAtOnce op past mid now error → Finishes now (Some (outline_of error))
    finishes_ended begun now error ends = elim ends [
      | inl unready ↦ finishes_unready now error unready
      | inr other ↦ elim other [
        | inl refused ↦ finishes_refused begun now error refused
        | inr sent ↦ finishes_sent now error sent
      ]
    ]

  -- an operation has come so far
  pub record SoFar (kept : Option RetryState) (now : AttemptState) : Type 0 where
    pub items : List Answered
    pub adds : Adds link now.link items
    pub held_so_far : HeldAt now
    pub fixed_so_far : FixedAt now
    pub needs : KeptHas (Needs link.faults now.link.faults items) kept
    pub early : AtLast → AllEarly items × (now.held.sent ≡ None) × KeptHas Lasts kept

  -- an operation that has not begun
  begins : (clock : ClockTells) (count : ℕ) → SoFar None (first_state store link clock count fixed)
  begins clock count = record { items = []; adds = adds_nothing link; held_so_far = held_at_first store (setup_of link); fixed_so_far = inl refl; needs = tt; early = λ at. (tt, refl, tt) }

  -- one more failure, and what is decided after it
  module _ (sharded : Bool) (kept : Option RetryState) (mid now : AttemptState) (far : SoFar kept mid) (failure : AttemptFailure) (past : Option RetryState) (makes : MakesAttempt op past mid now (Failed failure)) where
    -- what the failure needs
    failed : Fails past mid far.adds.setup far.held_so_far far.fixed_so_far now (reworded failure.error)
    failed = fails_in past mid far.adds.setup far.held_so_far far.fixed_so_far now failure.address failure.phase failure.error makes.0

    -- what the link noted so far
    abbrev items : List Answered
    items = far.items ++ failed.more

    -- what an error needs by then
    abbrev NeedsNow : Error → Type 0
    NeedsNow error = Needs link.faults now.link.faults items error

    -- an error that was kept before has its needs still
    older : (error : Error) → Needs link.faults mid.link.faults far.items error → NeedsNow error
    older error needs = end_before on far.items failed.more link.faults mid.link.faults now.link.faults (Some (outline_of error)) failed.adds.later needs

    -- the new error has its needs too
    newer : NeedsNow (reworded failure.error)
    newer = end_after on far.items failed.more link.faults mid.link.faults now.link.faults (Some (outline_of (reworded failure.error))) far.adds.later failed.needs

    -- so has what is decided
    decided_needs : (result : Result RetryState Error) → decide kept failure op.retryability sharded ≡ result → ResultHas NeedsNow result
    decided_needs result is =
        decided_has NeedsNow op sharded kept failure result (kept_has (Needs link.faults mid.link.faults far.items) NeedsNow kept older far.needs) newer is

    -- where the numbers are at their end, nothing was exchanged, and what is decided may be the end
    record Early (result : Result RetryState Error) : Type 0 where
      items_are : AllEarly items
      unsent : now.held.sent ≡ None
      lasts : ResultHas Lasts result

    -- it is so after the decision
    decided_early : (result : Result RetryState Error) → decide kept failure op.retryability sharded ≡ result → AtLast → Early result
    decided_early result is at =
        let was = far.early at in
        let here = failed.early at was.1 in record {
          items_are = early_twice far.items failed.more was.0 here.0;
          unsent = here.1;
          lasts = decided_has Lasts op sharded kept failure result was.2 here.2 is;
        }

    -- a decision that allows a further attempt
    goes_further : (retry : RetryState) → decide kept failure op.retryability sharded ≡ Ok retry → SoFar (Some retry) now
    goes_further retry is = record {
      items = items;
      adds = adds_twice link mid.link now.link far.items failed.more far.adds failed.adds;
      held_so_far = failed.held_now;
      fixed_so_far = failed.fixed_now;
      needs = decided_needs (Ok retry) is;
      early = λ at. let early = decided_early (Ok retry) is at in (early.items_are, early.unsent, early.lasts);
    }

  -- each moment that an operation reaches
  pub reaches_far : (clock : ClockTells) (count : ℕ) (sharded : Bool) (failures : List AttemptFailure) (kept : Option RetryState) (now : AttemptState) → Reaches op sharded (first_state store link clock count fixed) failures kept now → SoFar kept now
  reaches_far clock count sharded [] kept now reaches = subst (λ k. SoFar k now) (sym reaches.0) (subst (SoFar None) (sym reaches.1) (begins clock count))
  reaches_far clock count sharded (failure ∷ failures) kept now reaches =
      let mid = reaches.1.1.0 in
      let rest = reaches.1.1.1 in
      let earlier = rest.0 in
      let fails = rest.1.1 in
      let far = reaches_far clock count sharded failures earlier mid rest.1.0 in
      subst (λ k. SoFar k now) (sym reaches.1.0) (goes_further sharded earlier mid now far failure earlier fails.makes reaches.0 fails.decides)

  -- an end at a moment has its cause
  abbrev CausedAt : AttemptState → Option causes.ErrorOutline → Type 0
  CausedAt now ended = EndsCaused on link now.link ended

  -- the numbers are at their end
  at_last : (draws : DrawsNumbers spec.sessions retryability (setup_of link)) → IsLast (next_number store) → AtLast
  at_last draws last = record { draws = draws; last = last }

  module _ (sharded : Bool) (kept : Option RetryState) (mid now : AttemptState) (far : SoFar kept mid) (begun : BuildsFirst kept mid) where
    -- the last attempt ended the operation so
    abbrev FinishesAt : Option causes.ErrorOutline → Type 0
    FinishesAt ended = Finishes kept mid far.adds.setup far.held_so_far far.fixed_so_far now ended

    -- the end is of the last attempt
    caused_new : (ended : Option causes.ErrorOutline) → FinishesAt ended → CausedAt now ended
    caused_new ended finishes =
        let adds = adds_twice link mid.link now.link far.items finishes.more far.adds finishes.adds in record {
          items = far.items ++ finishes.more;
          noted = adds.noted;
          never_falls = adds.later;
          needs = end_after on far.items finishes.more link.faults mid.link.faults now.link.faults ended far.adds.later finishes.needs;
          at_last = λ accepted draws last.
              let at = at_last draws last in
              let was = far.early at in
              last_after on far.items finishes.more ended was.0 (finishes.early at was.1);
        }

    -- the end is the failure that is kept
    caused_kept : (more : List Answered) → Adds mid.link now.link more → AllEarly more → (retry : RetryState) → kept ≡ Some retry
        → CausedAt now (Some (outline_of retry.failure.error))
    caused_kept more added early retry is =
        let adds = adds_twice link mid.link now.link far.items more far.adds added in
        let needs = subst (KeptHas (Needs link.faults mid.link.faults far.items)) is far.needs in record {
          items = far.items ++ more;
          noted = adds.noted;
          never_falls = adds.later;
          needs = end_before on far.items more link.faults mid.link.faults now.link.faults (Some (outline_of retry.failure.error)) added.later needs;
          at_last = λ accepted draws last. let was = far.early (at_last draws last) in (early_twice far.items more was.0 early, subst (KeptHas Lasts) is was.2);
        }

    -- a result has its cause
    abbrev CausedBy : Result A Error → Type 0
    CausedBy result = CausedAt now (end_of result)

    -- the failure that is kept, else the error of an end
    kept_or_new : (error : Error) (more : List Answered) (result : Result A Error) → Adds mid.link now.link more → AllEarly more → FinishesAt (Some (outline_of error))
        → EndsWith {A = A} kept (Unselected error) result → CausedBy result
    kept_or_new error more result added early finishes ends = by_kept kept refl ends
      where
        by_kept : (found : Option RetryState) → kept ≡ found → EndsWith {A = A} found (Unselected error) result → CausedBy result
        by_kept None is ends = subst CausedBy (sym ends) (caused_new (Some (outline_of error)) finishes)
        by_kept (Some retry) is ends = subst CausedBy (sym ends) (caused_kept more added early retry is)

    -- nothing may be repeated, and the failure that is kept is the end
    kept_stopped : (result : Result A Error) → Adds mid.link now.link [] → EndsWith {A = A} kept Stopped result → CausedBy result
    kept_stopped result added ends = by_kept kept refl ends
      where
        by_kept : (found : Option RetryState) → kept ≡ found → EndsWith {A = A} found Stopped result → CausedBy result
        by_kept None is ends = absurd ends
        by_kept (Some retry) is ends = subst CausedBy (sym ends) (caused_kept [] added tt retry is)

    -- the command could not be built again, and the failure that is kept is the end
    kept_unfit : (result : Result A Error) → Adds mid.link now.link [] → EndsWith {A = A} kept Unfit result → CausedBy result
    kept_unfit result added ends = by_kept kept refl ends
      where
        by_kept : (found : Option RetryState) → kept ≡ found → EndsWith {A = A} found Unfit result → CausedBy result
        by_kept None is ends = absurd ends
        by_kept (Some retry) is ends = subst CausedBy (sym ends) (caused_kept [] added tt retry is)

    -- the last attempt did not fail, or failed to select a server
    caused_last : (attempt : AttemptEnd A) (result : Result A Error) → MakesAttempt op kept mid now attempt → EndsWith kept attempt result → CausedBy result
    caused_last (Done output) result makes ends = subst CausedBy (sym ends) (caused_new None (finishes_done kept mid far.adds.setup far.held_so_far far.fixed_so_far now output makes))
    caused_last (Failed failure) result makes ends = absurd ends
    caused_last (Unselected error) result makes ends =
        kept_or_new error (answer.Fault Select makes.fault makes.labels ∷ []) result (selection_adds kept mid far.adds.setup far.held_so_far far.fixed_so_far now error makes) tt
        (finishes_unselected kept mid far.adds.setup far.held_so_far far.fixed_so_far now error makes) ends
    caused_last Stopped result makes ends =
        kept_stopped result (ready_adds kept mid far.adds.setup far.held_so_far far.fixed_so_far now makes.1.address makes.1.conn makes.1.readies) ends
    caused_last Unfit result makes ends =
        kept_unfit result (subst (λ l. Adds mid.link l []) (sym makes.1.link)
        (ready_adds kept mid far.adds.setup far.held_so_far far.fixed_so_far makes.1.ready makes.1.address makes.1.conn makes.1.readies)) ends
    caused_last (Ended error) result makes ends =
        subst CausedBy (sym ends) (caused_new (Some (outline_of error)) (finishes_ended kept mid far.adds.setup far.held_so_far far.fixed_so_far begun now error makes))

    -- the last failure may not be followed by another attempt
    caused_refused : (failure : AttemptFailure) (past : Option RetryState) (error : Error) → MakesAttempt op past mid now (Failed failure)
        → (decide kept failure op.retryability sharded ≡ Err error) ⊎ IsAlone kind.Memory no_labels error → CausedAt now (Some (outline_of error))
    caused_refused failure past error makes refused =
        let fails = failed sharded kept mid now far failure past makes in
        let adds = adds_twice link mid.link now.link far.items fails.more far.adds fails.adds in
        let all = far.items ++ fails.more in elim refused [
          | inl is ↦ record {
            items = all;
            noted = adds.noted;
            never_falls = adds.later;
            needs = decided_needs sharded kept mid now far failure past makes (Err error) is;
            at_last = λ accepted draws last. let early = decided_early sharded kept mid now far failure past makes (Err error) is (at_last draws last) in (early.items_are, early.lasts);
          }
          | inr memory ↦ record {
            items = all;
            noted = adds.noted;
            never_falls = adds.later;
            needs = memory_needs on link.faults now.link.faults all error memory;
            at_last = λ accepted draws last.
                let at = at_last draws last in
                let was = far.early at in
                (early_twice far.items fails.more was.0 (fails.early at was.1).0, memory_at_last on link.faults now.link.faults all error memory);
          }
        ]

    -- an operation's end
    caused_ends : (result : Result A Error) → Ends op sharded kept mid now result → CausedBy result
    caused_ends result ends = elim ends [
      | inl last ↦ caused_last last.attempt result last.makes last.ends
      | inr other ↦ elim other [
        | inl limit ↦ subst CausedBy (sym limit.result_is)
            (caused_kept [] (subst (λ s. Adds mid.link s.link []) (sym limit.same) (adds_nothing mid.link)) tt limit.retry limit.is)
        | inr refused ↦ subst CausedBy (sym refused.result_is) (caused_refused refused.failure kept refused.error refused.makes refused.refused)
      ]
    ]

-- an operation that is not refused for its concern has its cause
pub proceeds_caused : {A : Type 0} (spec : OperationSpec A) (batch : Batch) (which : SendKind) (before now : Moment) (count count_now : ℕ) (fixed fixed_now : Option ℕ) (result : Result A Error)
    → (spec.paged ≡ false → NeverOpen spec) → Proceeds spec batch which before now count count_now fixed fixed_now result → Caused spec which fixed before now (end_of result)
proceeds_caused spec batch which before now count count_now fixed fixed_now result alone executes =
    let retryability = spec.retryability before.client.options in
    let concern = concern_of spec which before.client.options in
    let link = besides_out before.link in
    let attempts = executes.attempts in
    let attempted = attempted_operation spec batch which retryability concern in
    let first = first_state before.store link before.clock count fixed in
    let came = came_of attempted executes.sharded first executes.last result attempts in
    let far = reaches_far spec batch which retryability concern before.store link fixed alone before.clock count executes.sharded came.0 attempts.kept attempts.mid came.1 in
    let begun = first_fixed attempted executes.sharded first attempts.mid attempts.failures came.0 attempts.kept attempts.fails came.1 in
    let caused = caused_ends spec batch which retryability concern before.store link fixed alone executes.sharded attempts.kept attempts.mid executes.last far begun result attempts.ends in
    let ends = subst (λ l. EndsCaused (grounds spec which fixed before) link l (end_of result)) (sym executes.link_is) caused in
    record { items = ends.items; noted = ends.noted; never_falls = ends.never_falls; needs = ends.needs; at_last = ends.at_last }
