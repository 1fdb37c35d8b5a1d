-- What it is that an operation ends well, and what its attempts need of labels, numbers and sessions.
use Rattle.std.proofs.Common.{◌≡◌, ℕ, Bool, true, false, List, [], refl, sym, ap, subst, ◌∙◌}
use Rattle.std.specs.Prelude.{ℤ, ◌&&◌, ◌||◌, Option, None, Some, is_some, Result, Ok, Err, if◌then◌else◌}
use Rattle.std.specs.Option.{option_map}
use Rattle.bson_lite.specs.Spelling.{Spells}
use Rattle.bson_lite.proofs.Numbers.{bytes_eq-same}
use Rattle.driver_error.specs.declared.error.Error.{Error}
use Rattle.driver_error.specs.declared.kind.ErrorKind.TheVariants as kind
use Rattle.driver_error.specs.declared.kind.IoKind.TheVariants.{ConnectionReset}
use Rattle.driver_error.specs.declared.labels.TheConstants.{RETRYABLE_WRITE_ERROR}
use Rattle.driver_error.specs.Error.{kind_of, labels_of}
use Rattle.driver_error.specs.LabelTexts.{LabelSet, has_label, with_label}
use Rattle.driver_error.proofs.LabelSets.{has_label-with}
use Rattle.driver_options.specs.declared.options.Conn.{Conn}
use Rattle.link_faults.specs.declared.fault.LinkError.TheVariants.{Fault}
use Rattle.link_faults.specs.declared.fault.LinkFault.{LinkFault}
use Rattle.link_faults.specs.declared.fault.LinkFault.TheVariants.{Io}
use Rattle.driver_link.specs.declared.machine.Item.{Item}
use Rattle.driver_link.specs.declared.machine.Item.TheVariants as met
use Rattle.driver_link.specs.declared.machine.Scheduled.{Scheduled}
use Rattle.driver_link.specs.declared.machine.Send.{Send}
use Rattle.driver_link.specs.declared.machine.Server.{Server}
use Rattle.driver_link.specs.declared.machine.Setup.{Setup}
use Rattle.driver_link.specs.Cursors.{Reply}
use Rattle.driver_link.specs.Exchange.{after_picks, answered, reply, traced}
use Rattle.link_faults.specs.Failures.{is_network}
use Rattle.driver_link.specs.LinkState.{LinkState, server_run}
use Rattle.driver_link.specs.ServerRun.{IsReply, ServerRun}
use Rattle.driver_session.specs.declared.retryability.Retryability.{Retryability}
use Rattle.driver_session.specs.declared.retryability.Retryability.TheVariants as may
use Rattle.driver_session.specs.Session.{Session}
use Rattle.driver_session.specs.StoreTells.{StoreTells}
use Rattle.driver_ops.specs.OperationLaw.{NeverOpen}
use Rattle.driver_ops.specs.Operations.{OperationSpec, ReadsAnswer}
use Rattle.retry_rules.specs.declared.failure.AttemptFailure.{AttemptFailure}
use Rattle.retry_rules.specs.declared.failure.FailurePhase.{FailurePhase}
use Rattle.retry_rules.specs.declared.failure.FailurePhase.TheVariants.{ConnectionEstablishment, Execution}
use Rattle.driver_attempt.specs.AttemptExchanges.{AsksPages, EndsPages, PageAsked, held_after}
use Rattle.driver_attempt.specs.Holding.{DrawsSession, ExecutionSession, HoldsSession, dirty_session, dirty_session_held, needs_session}
use Rattle.retry_rules.specs.OldDeployment.{reworded}
use Rattle.retry_rules.specs.Retry.{RetryState, after, after_first, avoiding, decide, may_be_retried, may_be_sent, reworded_failure}
use Rattle.driver_exec.specs.Gentle.{IsLossy}
use Rattle.driver_exec.specs.OperationCauses.{DrawsNumbers}
use Rattle.driver_exec.proofs.PassesBy.{none_asked}

-- an operation reads no error in a reply to a command of so many statements, unless memory runs out
abbrev pub ReadsPlainly : {A : Type 0} → OperationSpec A → ℕ → Reply → Type 0
ReadsPlainly spec statements reply = (bytes : List ℕ) → Spells reply bytes → (error : Error) → ReadsAnswer spec statements bytes (Err error) → kind_of error ≡ kind.Memory

-- a send of so many statements is answered by such a reply
pub record AnswersPlainly {A : Type 0} (spec : OperationSpec A) (statements : ℕ) (server : Server) (send : Send) (step : Scheduled) : Type 0 where
  pub reply : Reply
  pub is : answered server send step ≡ Some reply
  pub plain : ReadsPlainly spec statements reply

-- behind the reply in these bytes to a command of so many statements, from one moment to another, the questions for further pages
-- went out under a session, and this error was read
pub record FailsBehind {A : Type 0} (spec : OperationSpec A) (statements : ℕ) (bytes : List ℕ) (session : Option (List ℕ)) (told now : ServerRun) (error : Error) : Type 0 where
  pub conn : Conn
  pub before : LinkState
  pub mid : LinkState
  pub after : LinkState
  pub asked : List PageAsked
  pub before_is : server_run before ≡ Some told
  pub after_is : server_run after ≡ Some now
  pub asks : AsksPages spec statements bytes conn session before asked mid
  pub ends : EndsPages spec statements bytes conn mid after asked (Err error)

-- where no page has another behind it and the reply is read so, that is want of memory
pub alone_memory : {A : Type 0} (spec : OperationSpec A) → NeverOpen spec → (statements : ℕ) (server : Server) (send : Send) (step : Scheduled) → AnswersPlainly spec statements server send step
    → (bytes : List ℕ) → IsReply (answered server send step) bytes → (session : Option (List ℕ)) (told now : ServerRun) (error : Error) → FailsBehind spec statements bytes session told now error
    → kind_of error ≡ kind.Memory
alone_memory spec never statements server send step answers bytes replied session told now error fails =
    let none : fails.asked ≡ [] = none_asked spec statements bytes fails.conn never session fails.before fails.asked fails.mid fails.asks in
    let ends = subst (λ asked. EndsPages spec statements bytes fails.conn fails.mid fails.after asked (Err error)) none fails.ends in
    answers.plain bytes (subst (λ o. IsReply o bytes) answers.is replied) error ends.0

-- an item without a reply
lossy_reply : (server : Server) (send : Send) (item : Item) → IsLossy item → reply server send item ≡ None
unfolding reply
lossy_reply server send met.Lost lossy = refl
lossy_reply server send met.Late lossy = refl
lossy_reply server send met.ReplyLost lossy = refl
lossy_reply server send _ lossy = absurd lossy

-- a step with such an item answers nothing
pub lossy_none : (server : Server) (send : Send) (step : Scheduled) → IsLossy step.item → answered server send step ≡ None
unfolding answered
lossy_none server send step lossy = lossy_reply (traced (after_picks server step.deliver) send) send step.item lossy

-- an error is no number
pub err_ok : (error : Error) (number : Option ℤ) → ◌≡◌ {A = Result (Option ℤ) Error} (Err error) (Ok number) → ⊥
err_ok error number is = cc

-- what is kept is no error
pub ok_err : (retry : RetryState) (error : Error) → ◌≡◌ {A = Result RetryState Error} (Ok retry) (Err error) → ⊥
ok_err retry error is = cc

-- the label that lets a write be tried again
pub has_own_label : (labels : LabelSet) → has_label (with_label labels RETRYABLE_WRITE_ERROR.now) RETRYABLE_WRITE_ERROR.now ≡ true
has_own_label labels =
    has_label-with labels RETRYABLE_WRITE_ERROR.now RETRYABLE_WRITE_ERROR.now
    ∙ ap (λ b. b || has_label labels RETRYABLE_WRITE_ERROR.now) (bytes_eq-same RETRYABLE_WRITE_ERROR.now)

-- a failure with it, of a write that has a number, is followed by another attempt
retries : (failure : AttemptFailure) → has_label (labels_of failure.error) RETRYABLE_WRITE_ERROR.now ≡ true → is_some failure.number ≡ true
    → may_be_retried failure may.Write ≡ true
unfolding may_be_retried
retries failure labelled some = ap (λ b. b && may_be_sent failure.phase failure.number) labelled ∙ by_phase failure.phase
  where
    by_phase : (phase : FailurePhase) → may_be_sent phase failure.number ≡ true
    by_phase ConnectionEstablishment = refl
    by_phase Execution = some

-- so the decision after a first failure allows one
pub allows : (failure : AttemptFailure) (retryability : Retryability) (sharded : Bool) → retryability ≡ may.Write
    → has_label (labels_of (reworded failure.error)) RETRYABLE_WRITE_ERROR.now ≡ true → is_some failure.number ≡ true
    → decide None failure retryability sharded ≡ Ok (avoiding sharded failure.address (after_first (reworded_failure failure)))
unfolding decide after
allows failure retryability sharded is_write labelled some =
    let now = reworded_failure failure in
    ap (λ test. if test then Ok (avoiding sharded failure.address (after_first now)) else Err (after_first now).failure.error)
    (subst (λ o. may_be_retried now o ≡ true) (sym is_write) (retries now labelled some))

-- where each send has a number the operation may repeat its write
pub draws_write : (sessions : Bool) (retryability : Retryability) (setup : Option Setup) → DrawsNumbers sessions retryability setup → retryability ≡ may.Write
draws_write sessions may.Write setup draws = refl
draws_write sessions may.Read setup draws = absurd draws
draws_write sessions may.None setup draws = absurd draws

-- a session that is held, and a number that was drawn from it
pub record HasNumber (held : ExecutionSession) (number : Option ℤ) : Type 0 where
  pub session : Session
  pub value : ℤ
  pub session_is : held.session ≡ Some session
  pub number_is : number ≡ Some value

-- only a write may be repeated as one
pub no_read : may.Read ≡ may.Write → ⊥
no_read is = cc

-- nor what may not be repeated
pub no_none : may.None ≡ may.Write → ⊥
no_none is = cc

-- what is held after an exchange was lost under a session and a number
pub lost_held : (held : ExecutionSession) (number : Option ℤ) (has : HasNumber held number) (fault : LinkFault) (labels : List (List ℕ)) → fault ≡ Io ConnectionReset
    → held_after (Err (Fault fault labels)) (record held { sent = Some number }) ≡ record { session = Some (dirty_session has.session); sent = Some (Some has.value) }
lost_held held number has fault labels is =
    ap (λ f. if is_network f then dirty_session_held (record held { sent = Some number }) else record held { sent = Some number }) is
    ∙ ap (λ s. record { session = option_map dirty_session s; sent = Some number }) has.session_is
    ∙ ap (λ n. record { session = Some (dirty_session has.session); sent = Some n }) has.number_is

-- without a session no number is drawn
pub undrawn : (connection_retryability : Retryability) (now : Option Session) (result : Result (Option ℤ) Error) → DrawsSession connection_retryability None now result → (now ≡ None) × (result ≡ Ok None)
undrawn may.Write now result draws = draws
undrawn may.Read now result draws = draws
undrawn may.None now result draws = draws

-- what is held before a further attempt
abbrev pub held_again : Session → ℤ → ExecutionSession
held_again session number = record { session = Some session; sent = Some (Some number) }

-- it is lent no session
pub same_again : (session : Session) (number : ℤ) (before now : StoreTells) (ready : ExecutionSession) (asks : Bool)
    → HoldsSession (needs_session asks (held_again session number)) before now (held_again session number) ready (Ok tt) → ready ≡ held_again session number
same_again session number before now ready true holds = holds.1
same_again session number before now ready false holds = holds.1
