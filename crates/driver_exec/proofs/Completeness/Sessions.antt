-- An operation over what is told: the session and the number that its attempts have once they have a connection.
use Rattle.std.proofs.Common.{◌≡◌, ℕ, Bool, true, false, List, refl, sym, ap, subst, ◌∙◌, inl, inr}
use Rattle.std.specs.Prelude.{ℤ, pos, ◌+ℤ◌, Option, None, Some, ◌⊎◌, Result, Ok, Err}
use Rattle.bson_lite.specs.declared.fault.EncodeFault.{EncodeFault}
use Rattle.driver_error.specs.declared.error.Error.{Error}
use Rattle.driver_error.specs.declared.kind.ErrorKind.TheVariants as kind
use Rattle.driver_error.specs.Error.{IsAlone, kind_of}
use Rattle.driver_error.specs.LabelTexts.{no_labels}
use Rattle.driver_options.specs.declared.concerns.WriteConcern.{WriteConcern}
use Rattle.driver_options.specs.declared.options.Address.{Address}
use Rattle.driver_options.specs.declared.options.Conn.{Conn}
use Rattle.driver_options.specs.declared.options.Description.{Description}
use Rattle.driver_link.specs.Clock.{ClockTells}
use Rattle.driver_link.specs.declared.machine.Item.{Item}
use Rattle.driver_link.specs.declared.machine.Scheduled.{Scheduled}
use Rattle.driver_link.specs.declared.machine.Send.{Send}
use Rattle.driver_link.specs.declared.machine.SendBody.{SendBody}
use Rattle.driver_link.specs.declared.machine.Server.{Server}
use Rattle.driver_link.specs.Exchange.{exchanged, next_step}
use Rattle.driver_link.specs.LinkState.{LinkState, server_run, setup_of}
use Rattle.driver_link.specs.ServerRun.{IsReply, ServerRun, run_after, run_answer}
use Rattle.driver_session.specs.declared.retryability.Retryability.{Retryability}
use Rattle.driver_session.specs.declared.retryability.Retryability.TheVariants as may
use Rattle.driver_session.specs.Session.{IsAtItsEnd, Numbers, Session, last_number}
use Rattle.driver_session.specs.StoreTells.{DrawnApart, LendsSession, StoreTells}
use Rattle.driver_ops.specs.declared.command.Command.{Command}
use Rattle.driver_ops.specs.Fields.{SendContext, under}
use Rattle.driver_ops.specs.Operations.{AsksFor, Batch, HasNoSpelling, OperationSpec, Refuses, send_of}
use Rattle.driver_ops.specs.SendKinds.{SendKind}
use Rattle.driver_attempt.specs.Attempting.{AttemptState, AttemptedOperation, EndsRefused, Readies, asks_session, attempted_operation, may_use, on_connection}
use Rattle.driver_attempt.specs.Concerns.{concern_refusal}
use Rattle.driver_attempt.specs.Executing.{first_state}
use Rattle.driver_attempt.specs.Holding.{DrawsNumber, DrawsSession, GivesNumber, ExecutionSession, HoldsSession, held_id, holds_nothing, needs_session}
use Rattle.retry_rules.specs.Retry.{RetryState}
use Rattle.driver_exec.specs.Gentle.{IsGentlePart, IsLossy}
use Rattle.driver_exec.specs.OperationCauses.{DrawsNumbers}
use Rattle.driver_exec.proofs.FixedNumbers.{MayBeFixed}
use Rattle.driver_exec.proofs.HeldSessions.{IsOf, draws_on, is_of, not_both}
use Rattle.driver_exec.proofs.Moments.{IsBefore, LeadsCalling, before_refl, connects_lead}
use Rattle.driver_exec.proofs.Completeness.Ends.{AnswersPlainly, FailsBehind, err_ok, HasNumber, no_read, no_none, undrawn, held_again}

-- an operation over what is told, with what is known of its sends
pub record KnownCommand (A : Type 0) : Type 1 where
  -- what it tells, its places with the number of its command's statements, what of that was fixed when it began, the kind of its
  -- sends, and what it asks for
  pub spec : OperationSpec A
  pub batch : Batch
  pub fixed : Option ℕ
  pub which : SendKind
  pub body : SendBody
  -- an item serves a send of it as usual
  pub Serves : Send → Item → Type 0
  pub asked : AsksFor spec batch body
  -- what of it may be repeated by its own rules
  pub retryability : Retryability
  -- the concern that it goes out with, which is not refused
  pub concern : Option WriteConcern
  pub accepted : concern_refusal concern ≡ None
  -- what store and link tell before it
  pub store : StoreTells
  pub told : ServerRun
  pub link : LinkState
  pub link_is : server_run link ≡ Some told
  -- a send may go out again; then those of its command have numbers
  pub repeats : Send → Type 0
  pub repeats_numbered : (session : Option (List ℕ)) (number : Option ℤ) → repeats (send_of (under session number) body) → DrawsNumbers true retryability (setup_of link)
  -- a send may go out to a server
  pub Ready : Send → Server → Type 0
  -- then a gentle step answers it plainly, once its command was built
  pub ready_answers : (session : Option (List ℕ)) (number : Option ℤ) (server : Server) (step : Scheduled) → Ready (send_of (under session number) body) server
      → (command : Command) → spec.commands which batch.statements command → Serves (send_of (under session number) body) step.item
      → AnswersPlainly spec batch.statements server (send_of (under session number) body) step
  -- and behind the reply an error that is read in a gentle part is want of memory
  pub pages_well : (told_now : ServerRun) → IsGentlePart Serves repeats told told_now → (session : Option (List ℕ)) (number : Option ℤ) (before now : ServerRun) → IsBefore told before → IsBefore now told_now
      → Ready (send_of (under session number) body) before.server → (command : Command) → spec.commands which batch.statements command
      → Serves (send_of (under session number) body) (next_step before.schedule before.server).item → (bytes : List ℕ) → IsReply (run_answer before (send_of (under session number) body)) bytes
      → (error : Error) → FailsBehind spec batch.statements bytes session (run_after before (send_of (under session number) body)) now error → kind_of error ≡ kind.Memory
  -- and after a lossy one it may go out again
  pub ready_again : (id : List ℕ) (number : ℤ) (server : Server) (step : Scheduled) → Ready (send_of (under (Some id) (Some number)) body) server → IsLossy step.item
      → Ready (send_of (under (Some id) (Some number)) body) (exchanged server (send_of (under (Some id) (Some number)) body) step)
  -- the first send may go out, under a number or under none
  pub first_ready : (at : ℕ) (lent : StoreTells) (session : Session) (number : ℤ) → LendsSession store lent at session → DrawnApart lent
      → number ≡ session.number +ℤ pos 1 → Ready (send_of (under (Some session.id) (Some number)) body) told.server
  pub bare_ready : (session : Option (List ℕ)) → Ready (send_of (under session None) body) told.server
  -- it takes a session, no build of it that can occur is refused, its command has a spelling, and the number of its session is not
  -- the last
  pub takes_sessions : spec.sessions ≡ true
  pub unrefused : (description : Description) → IsOf (setup_of link) description → (number : Option ℕ) → MayBeFixed spec fixed (setup_of link) batch.statements number
      → (error : Error) → Refuses spec number description error → ⊥
  pub spelled : (context : SendContext) (fault : EncodeFault) → context.concern ≡ concern → HasNoSpelling spec context fault → ⊥
  pub not_last : (at : ℕ) (lent : StoreTells) (session : Session) → LendsSession store lent at session → session.number ≡ last_number → ⊥

module _ {A : Type 0} (known : KnownCommand A) where
  open known use {spec, batch, fixed, which, body, retryability, concern, store, told, link, link_is, Ready, first_ready, bare_ready, takes_sessions, unrefused, spelled, not_last}

  -- the operation as its attempts see it
  abbrev pub attempted : AttemptedOperation A
  attempted = attempted_operation spec batch which retryability concern

  -- what may go out under what was drawn
  pub record MayGo (server : Server) (description : Description) (connection_retryability : Retryability) (held : ExecutionSession) (number : Option ℤ) : Type 0 where
    pub ready : Ready (send_of (under (held_id held) number) body) server
    pub numbers : description.supports_sessions ≡ true → connection_retryability ≡ may.Write → HasNumber held number

  -- what is so once a connection was had
  pub record IsReadied (server : Server) (description : Description) (held : ExecutionSession) : Type 0 where
    pub allowed : may_use held description ≡ false → ⊥
    pub unnumbered : (connection_retryability : Retryability) (now : ExecutionSession) (error : Error) → DrawsNumber held.sent connection_retryability held now (Err error) → kind_of error ≡ kind.Memory
    pub numbered : (connection_retryability : Retryability) (now : ExecutionSession) (number : Option ℤ) → DrawsNumber held.sent connection_retryability held now (Ok number) → MayGo server description connection_retryability now number

  -- a send under an id and a number that are equal to these may go out
  ready_of : (server : Server) (held : ExecutionSession) (number : Option ℤ) (id : Option (List ℕ)) (value : Option ℤ) → held_id held ≡ id → number ≡ value
      → Ready (send_of (under id value) body) server → Ready (send_of (under (held_id held) number) body) server
  ready_of server held number id value id_is number_is ready =
      subst (λ i. Ready (send_of (under i number) body) server) (sym id_is) (subst (λ n. Ready (send_of (under id n) body) server) (sym number_is) ready)

  -- no session is held
  bare_readied : (description : Description) → description.supports_sessions ≡ false → IsReadied told.server description holds_nothing
  bare_readied description none = record {
    allowed = λ refused. not_both refused;
    unnumbered = λ connection_retryability now error draws. absurd (err_ok error None (undrawn connection_retryability draws.session (Err error) draws.draws).1);
    numbered = λ connection_retryability now number draws.
        let drawn = undrawn connection_retryability draws.session (Ok number) draws.draws in
        let number_is : number ≡ None = cc drawn.1 in record {
          ready = ready_of told.server now number None None (ap held_id draws.is ∙ ap (λ s. held_id (record { session = s; sent = None })) drawn.0) number_is (bare_ready None);
          numbers = λ supports is_write. absurd (not_both (sym supports ∙ none));
        };
  }

  -- a session was lent
  module _ (at : ℕ) (lent : StoreTells) (session : Session) (lends : LendsSession store lent at session) (apart : DrawnApart lent) (description : Description)
      (supports : description.supports_sessions ≡ true) where
    -- what is held before a first number
    abbrev held_first : Option Session → ExecutionSession
    held_first back = record { session = back; sent = None }

    -- the session is not at its last number
    not_at_end : (error : Error) → (IsAlone kind.Memory no_labels error ⊎ IsAtItsEnd session error) → kind_of error ≡ kind.Memory
    not_at_end error ends = elim ends [ inl memory ↦ memory.kind_is | inr at_end ↦ absurd (not_last at lent session lends at_end.last) ]

    -- so there is a number, unless memory runs out
    lent_unnumbered : (connection_retryability : Retryability) (back : Option Session) (error : Error) → DrawsSession connection_retryability (Some session) back (Err error) → kind_of error ≡ kind.Memory
    lent_unnumbered may.Write back error draws = by_next draws.numbered draws.next draws.numbers draws.gives
      where
        by_next : (numbered : Session) (next : Result ℤ Error) → Numbers session numbered next → GivesNumber next (Err error) → kind_of error ≡ kind.Memory
        by_next numbered (Ok number) numbers gives = absurd (err_ok error (Some number) gives)
        by_next numbered (Err other) numbers gives =
            let same : other ≡ error = cc (sym gives) in subst (λ e. kind_of e ≡ kind.Memory) same (not_at_end other numbers.2)
    lent_unnumbered may.Read back error draws = absurd (err_ok error None draws.1)
    lent_unnumbered may.None back error draws = absurd (err_ok error None draws.1)

    -- no number is drawn of it
    lent_plain : (connection_retryability : Retryability) (back : Option Session) (now : ExecutionSession) (number : Option ℤ) → (connection_retryability ≡ may.Write → ⊥) → now ≡ held_first back → back ≡ Some session
        → ◌≡◌ {A = Result (Option ℤ) Error} (Ok number) (Ok None) → MayGo told.server description connection_retryability now number
    lent_plain connection_retryability back now number no_write is same none =
        let number_is : number ≡ None = cc none in record {
          ready = ready_of told.server now number (Some session.id) None (ap held_id is ∙ ap (λ s. held_id (held_first s)) same) number_is (bare_ready (Some session.id));
          numbers = λ takes is_write. absurd (no_write is_write);
        }

    -- the number that is drawn, or none
    lent_numbered : (connection_retryability : Retryability) (back : Option Session) (now : ExecutionSession) (number : Option ℤ) → now ≡ held_first back → DrawsSession connection_retryability (Some session) back (Ok number)
        → MayGo told.server description connection_retryability now number
    lent_numbered may.Write back now number is draws = by_next draws.numbered draws.next draws.numbers draws.gives (is ∙ ap held_first draws.is)
      where
        by_next : (numbered : Session) (next : Result ℤ Error) → Numbers session numbered next → GivesNumber next (Ok number) → now ≡ held_first (Some numbered)
            → MayGo told.server description may.Write now number
        by_next numbered (Ok value) numbers gives is =
            let number_is : number ≡ Some value = cc gives in record {
              ready = ready_of told.server now number (Some session.id) (Some value) (ap held_id is ∙ ap (λ s. Some s.id) numbers.2) number_is
                  (first_ready at lent session value lends apart numbers.1);
              numbers = λ takes is_write. record { session = numbered; value = value; session_is = ap (λ h. h.session) is; number_is = number_is };
            }
        by_next numbered (Err error) numbers gives is = absurd (err_ok error number (sym gives))
    lent_numbered may.Read back now number is draws = lent_plain may.Read back now number no_read is draws.0 draws.1
    lent_numbered may.None back now number is draws = lent_plain may.None back now number no_none is draws.0 draws.1

    -- so the connection may be used
    lent_readied : IsReadied told.server description (held_first (Some session))
    lent_readied = record {
      allowed = λ refused. not_both (sym supports ∙ refused);
      unnumbered = λ connection_retryability now error draws. lent_unnumbered connection_retryability draws.session error draws.draws;
      numbered = λ connection_retryability now number draws. lent_numbered connection_retryability draws.session now number draws.is draws.draws;
    }

  -- a first attempt had its connection
  first_readied : (lent : StoreTells) (ready : ExecutionSession) (description : Description)
      → HoldsSession (needs_session (asks_session true description) holds_nothing) store lent holds_nothing ready (Ok tt) → DrawnApart lent → IsReadied told.server description ready
  first_readied lent ready description holds apart = by_asked description.supports_sessions refl holds
    where
      by_asked : (asks : Bool) → description.supports_sessions ≡ asks → HoldsSession (needs_session asks holds_nothing) store lent holds_nothing ready (Ok tt)
          → IsReadied told.server description ready
      by_asked false none holds = subst (IsReadied told.server description) (sym holds.1) (bare_readied description none)
      by_asked true supports holds = subst (IsReadied told.server description) (sym holds.is)
          (lent_readied holds.at lent holds.session holds.lends apart description supports)

  -- a further attempt had its connection
  pub again_readied : (session : Session) (number : ℤ) (server : Server) (description : Description) → Ready (send_of (under (Some session.id) (Some number)) body) server
      → DrawsNumbers true retryability (setup_of link) → IsOf (setup_of link) description → IsReadied server description (held_again session number)
  again_readied session number server description ready draws is = record {
    allowed = λ refused. not_both (sym (draws_on true retryability (setup_of link) description draws is).0 ∙ refused);
    unnumbered = λ connection_retryability now error drawn. absurd (err_ok error (Some number) drawn.1);
    numbered = λ connection_retryability now value drawn.
        let number_is : value ≡ Some number = cc drawn.1 in record {
          ready = ready_of server now value (Some session.id) (Some number) (ap held_id drawn.0) number_is ready;
          numbers = λ takes is_write. record { session = session; value = number; session_is = ap (λ h. h.session) drawn.0; number_is = number_is };
        };
  }

  -- what is so before an attempt, at a moment
  pub record IsPrepared (moment : ServerRun) (mid : AttemptState) : Type 0 where
    pub is : server_run mid.link ≡ Some moment
    pub after : IsBefore told moment
    pub setup : setup_of mid.link ≡ setup_of link
    pub may_be_fixed : MayBeFixed spec fixed (setup_of link) batch.statements mid.fixed
    pub readied : (ready : ExecutionSession) (store_now : StoreTells) (description : Description) → IsOf (setup_of link) description
        → HoldsSession (needs_session (asks_session true description) mid.held) mid.store store_now mid.held ready (Ok tt) → DrawnApart store_now → IsReadied moment.server description ready

  -- it is so before the first attempt
  pub first_prepared : (clock : ClockTells) (count : ℕ) → IsPrepared told (first_state store link clock count fixed)
  first_prepared clock count = record {
    is = link_is;
    after = before_refl told;
    setup = refl;
    may_be_fixed = inl refl;
    readied = λ ready store_now description is holds apart. first_readied store_now ready description holds apart;
  }

  -- an attempt
  module _ (moment : ServerRun) (mid : AttemptState) (prepared : IsPrepared moment mid) where
    -- a connection was had
    module _ {past : Option RetryState} (ready : AttemptState) (address : Address) (conn : Conn) (readies : Readies attempted past mid ready address conn) where
      -- its description is that of the setup
      pub is_conn : IsOf (setup_of link) conn.description
      is_conn = is_of (setup_of link) (setup_of readies.connects.mid) address conn (readies.connects.selects.calls.setup ∙ prepared.setup) readies.connects.checks_out.to

      -- no build for it is refused
      pub none_refused : (error : Error) → Refuses spec ready.fixed conn.description error → ⊥
      none_refused error refuses =
          unrefused conn.description is_conn ready.fixed (subst (MayBeFixed spec fixed (setup_of link) batch.statements) (sym readies.fixed) prepared.may_be_fixed) error refuses

      -- the link leads there
      pub reached_at : LeadsCalling moment mid.link ready.link
      reached_at = connects_lead moment mid.link ready.link address conn prepared.is readies.connects

      -- what is held there may be used
      pub readied_at : DrawnApart ready.store → IsReadied moment.server conn.description ready.held
      readied_at apart = prepared.readied ready.held ready.store conn.description is_conn
          (subst (λ b. HoldsSession (needs_session (asks_session b conn.description) mid.held) mid.store ready.store mid.held ready.held (Ok tt)) takes_sessions readies.holds) apart

    -- the operation ends at once only for want of memory
    pub refused_memory : (past : Option RetryState) (now : AttemptState) (error : Error) → DrawnApart now.store → EndsRefused attempted past mid now error → kind_of error ≡ kind.Memory
    refused_memory past now error apart refused =
        let here = readied_at refused.ready refused.address refused.conn refused.readies (subst DrawnApart refused.store apart) in elim refused.refused [
          | inl none ↦ absurd (here.allowed none.none)
          | inr other ↦ elim other [
            | inl none ↦ here.unnumbered (on_connection retryability refused.conn.description) now.held error none.draws
            | inr none ↦ elim none.why [ inl early ↦ absurd (none_refused refused.ready refused.address refused.conn refused.readies error early.1) | inr late ↦ elim late [ inl lacks ↦ absurd (spelled _ lacks.unframed.fault refl lacks.unframed.none) | inr memory ↦ memory.0.kind_is ] ]
          ]
        ]
