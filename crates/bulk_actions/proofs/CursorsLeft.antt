-- A bulk write asks only for cursors that the server opened: where no send that waits is of one that is yet to be opened before its operations,
-- none is behind them, whatever the schedule does.
use Rattle.std.proofs.Common.{◌≡◌, ℕ, ◌+◌, Bool, false, List, [], ◌∷◌, ◌++◌, drop, length, take, refl, sym, subst, inl, inr}
use Rattle.std.specs.Prelude.{Option, None, Some, Result, Ok, Err}
use Rattle.driver_error.specs.declared.error.Error.{Error}
use Rattle.bulk_outcomes.specs.BulkResults.{ResultSpec}
use Rattle.driver_options.specs.declared.concerns.WriteConcern.{WriteConcern}
use Rattle.driver_options.specs.declared.models.WriteModel.{WriteModel}
use Rattle.driver_options.specs.declared.options.Address.{Address}
use Rattle.driver_options.specs.declared.options.Conn.{Conn}
use Rattle.driver_options.specs.declared.write_options.BulkWriteOptions.{BulkWriteOptions}
use Rattle.link_faults.specs.declared.fault.LinkError.{LinkError}
use Rattle.link_faults.specs.declared.fault.LinkError.TheVariants.{Fault}
use Rattle.driver_link.specs.declared.machine.PlacedWrite.{PlacedWrite}
use Rattle.driver_link.specs.declared.machine.Send.{Send}
use Rattle.driver_link.specs.declared.machine.SendBody.{SendBody}
use Rattle.driver_link.specs.declared.machine.SendBody.TheVariants.{Write}
use Rattle.driver_link.specs.declared.machine.SendCommand.TheVariants as command
use Rattle.driver_link.specs.Cursors.{Reply}
use Rattle.driver_link.specs.Exchange.{next_step}
use Rattle.driver_link.specs.LinkState.{LinkState, server_run}
use Rattle.driver_link.specs.ServerRun.{IsReply, ServerRun, TakesStep, run_after, run_answer}
use Rattle.driver_session.specs.declared.retryability.Retryability.{Retryability}
use Rattle.driver_ops.specs.Fields.{under}
use Rattle.driver_ops.specs.Operations.{AsksFor, Batch, OperationSpec, send_of}
use Rattle.driver_ops.specs.SendKinds.{SendKind, first}
use Rattle.bulk_fronts.specs.declared.own_op.OwnOp.{OwnOp}
use Rattle.bulk_fronts.specs.BulkOps.{model_writes}
use Rattle.bulk_ops.specs.BulkSpec.{admin_target, bulk_spec}
use Rattle.bulk_fronts.specs.BulkWrites.{bulk_is_ordered}
use Rattle.driver_attempt.specs.declared.attempt_end.AttemptEnd.{AttemptEnd}
use Rattle.driver_attempt.specs.declared.attempt_end.AttemptEnd.TheVariants.{Done, Ended, Failed, Stopped, Unfit, Unselected}
use Rattle.retry_rules.specs.declared.failure.AttemptFailure.{AttemptFailure}
use Rattle.retry_rules.specs.declared.failure.FailurePhase.{FailurePhase}
use Rattle.retry_rules.specs.declared.failure.FailurePhase.TheVariants.{ConnectionEstablishment, Execution}
use Rattle.driver_attempt.specs.AttemptExchanges.{AttemptExchanges}
use Rattle.driver_attempt.specs.Attempting.{AsksEarly, AttemptState, AttemptedOperation, Connects, FailsIn, MakesAttempt, MayReadOn, NotConnected, ReadsOn, Sends, attempted_operation, avoided, besides_out}
use Rattle.driver_attempt.specs.Concerns.{concern_of}
use Rattle.driver_attempt.specs.Executing.{AttemptsFail, Ends, Executes, Proceeds, first_state}
use Rattle.driver_attempt.specs.Holding.{ExecutionSession, held_id}
use Rattle.driver_attempt.specs.Moment.{Moment}
use Rattle.retry_rules.specs.Retry.{RetryState}
use Rattle.driver_exec.proofs.Moments.{LeadsCalling, calling_twice, checks_lead, connects_lead, one_moment, selects_lead}
use Rattle.many_actions.specs.BatchPlans.{MakesAllPlanned, PlannedEnd, places_from, rest_of}
use Rattle.many_actions.proofs.PlannedBatches.{fixed_or_one, is_fixed_or_one}
use Rattle.bulk_actions.specs.BulkBatches.{bulk_plan}
use Rattle.bulk_actions.specs.BulkCompleteness.{NoneAhead}
use Rattle.bulk_actions.proofs.BulkPlanned.{GoodModels, bulk_asks, bulk_planned}
use Rattle.bulk_actions.proofs.CursorsAsked.{TellsBehind, pages_such, step_such}
use Rattle.bulk_actions.proofs.CursorsKept.{exchanged_behind}

-- calls that are only counted leave the server as it was
calling_behind : (a : ServerRun) (before now : LinkState) → NoneAhead a.server → LeadsCalling a before now → TellsBehind now
calling_behind a before now none leads = (leads.leads.moment, (leads.leads.is, subst NoneAhead (sym leads.server) none))

-- a connection that was had
connects_behind : {avoid : List Address} (before now : LinkState) (address : Address) (conn : Conn) → TellsBehind before → Connects avoid before now address conn → TellsBehind now
connects_behind before now address conn here connects = calling_behind here.0 before now here.1.1 (connects_lead here.0 before now address conn here.1.0 connects)

-- the calls of an attempt that came to no session
early_behind : (kept : Option RetryState) (link now : LinkState) → TellsBehind link → AsksEarly (avoided kept) link now → TellsBehind now
early_behind kept link now here asks = elim asks [
  | inl fails ↦ calling_behind here.0 link now here.1.1 (selects_lead here.0 link now (Err fails.failure) here.1.0 fails.selects.calls)
  | inr more ↦
      let begun = selects_lead here.0 link more.mid (Ok more.address) here.1.0 more.selects.calls in
      calling_behind here.0 link now here.1.1 (calling_twice here.0 link more.mid now begun (checks_lead begun.leads.moment more.mid now more.result begun.leads.is more.checks_out.calls))
]

-- a send went out and was answered by a reply in these bytes, and nothing that waits is ahead then
record WentOut (send : Send) (behind : LinkState) (bytes : List ℕ) : Type 0 where
  at : ServerRun
  is : server_run behind ≡ Some (run_after at send)
  replied : IsReply (run_answer at send) bytes
  none : NoneAhead (run_after at send).server

-- ---- an operation of a bulk write
module _ {R : Type 0} (tells : ResultSpec R) (options : BulkWriteOptions) (index : ℕ) (own : List OwnOp) (batch : Batch) (ordered : Bool) (writes : List PlacedWrite)
    (asked : AsksFor (bulk_spec tells admin_target index own options) batch (Write command.BulkWrite ordered writes)) where
  abbrev spec : OperationSpec R
  spec = bulk_spec tells admin_target index own options

  abbrev body : SendBody
  body = Write command.BulkWrite ordered writes

  -- what is behind a send of it that was answered
  exchanges_behind : (send : Send) → send.body ≡ body → send.in_transaction ≡ false → (behind now : LinkState) (bytes : List ℕ) (went : WentOut send behind bytes) (conn : Conn) (session : Option (List ℕ))
      (held held_now : ExecutionSession) (answer : Result R Error) → AttemptExchanges spec batch.statements bytes conn session behind now held held_now answer → TellsBehind now
  exchanges_behind send asks out behind now bytes went conn session held held_now answer exchanges = by_answer (run_answer went.at send) refl went.replied
    where
      by_answer : (given : Option Reply) → run_answer went.at send ≡ given → IsReply given bytes → TellsBehind now
      by_answer None is replied = absurd replied
      by_answer (Some given) is replied =
          pages_such tells options index own batch.statements went.at send bytes given replied session conn behind went.is ordered writes asks out is went.none
          now exchanges.asked exchanges.mid answer exchanges.asks exchanges.ends

  module _ (which : SendKind) (retryability : Retryability) (concern : Option WriteConcern) where
    abbrev op : AttemptedOperation R
    op = attempted_operation spec batch which retryability concern

    -- one attempt, from a link that tells a server on which nothing that waits is ahead
    module _ (kept : Option RetryState) (mid : AttemptState) (here : TellsBehind mid.link) where
      -- its command went out
      module _ (behind : AttemptState) (address : Address) (conn : Conn) (result : Result (List ℕ) LinkError) (sends : Sends op kept mid behind address conn result) where
        abbrev own_send : Send
        own_send = send_of (under (held_id sends.numbered) sends.number) body

        ready : TellsBehind sends.ready.link
        ready = connects_behind mid.link sends.ready.link address conn here sends.readies.connects

        steps : TakesStep (Some ready.0) (server_run behind.link) own_send result
        steps = subst (λ s. TakesStep s (server_run behind.link) own_send result) ready.1.0 (sends.exchanges.exchanges.steps own_send (sends.exchanges.reads body asked))

        none_behind : NoneAhead (run_after ready.0 own_send).server
        none_behind = (exchanged_behind ready.0.server own_send (next_step ready.0.schedule ready.0.server) tt).none ready.1.1

        sends_behind : TellsBehind behind.link
        sends_behind = step_such (λ run. NoneAhead run.server) ready.0 own_send behind.link result ready.1.1 none_behind steps

      -- and its answer was read
      read_behind : (behind now : AttemptState) (address : Address) (conn : Conn) (reply : List ℕ) (answer : Result R Error) → Sends op kept mid behind address conn (Ok reply)
          → ReadsOn op conn reply behind now answer → TellsBehind now.link
      read_behind behind now address conn reply answer sends reads =
          let went_out = steps behind address conn (Ok reply) sends in
          exchanges_behind (own_send behind address conn (Ok reply) sends) refl refl behind.link now.link reply
          (record { at = (ready behind address conn (Ok reply) sends).0; is = went_out.0; replied = went_out.1; none = none_behind behind address conn (Ok reply) sends })
          conn (held_id behind.held) behind.held now.held answer reads.exchanges

      may_read_behind : (behind now : AttemptState) (address : Address) (conn : Conn) (result : Result (List ℕ) LinkError) → Sends op kept mid behind address conn result
          → MayReadOn op conn result behind now → TellsBehind now.link
      may_read_behind behind now address conn (Ok reply) sends reads = read_behind behind now address conn reply reads.answer sends reads.reads
      may_read_behind behind now address conn (Err failure) sends same = subst (λ s. TellsBehind s.link) (sym same) (sends_behind behind address conn (Err failure) sends)

      -- it had no connection
      unconnected_behind : (now : AttemptState) (address : Address) (error : Error) → NotConnected op kept mid now address error → TellsBehind now.link
      unconnected_behind now address error fails =
          let begun = selects_lead here.0 mid.link fails.mid (Ok address) here.1.0 fails.selects.calls in
          calling_behind here.0 mid.link now.link here.1.1
          (calling_twice here.0 mid.link fails.mid now.link begun (checks_lead begun.leads.moment fails.mid now.link (Err (Fault fails.fault fails.labels)) begun.leads.is fails.checks_out.calls))

      -- it failed either way
      fails_behind : (now : AttemptState) (address : Address) (phase : FailurePhase) (error : Error) → FailsIn op kept mid now address phase error → TellsBehind now.link
      fails_behind now address ConnectionEstablishment error fails = unconnected_behind now address error fails
      fails_behind now address Execution error fails = elim fails [
        | inl lost ↦ sends_behind now address lost.conn (Err (Fault lost.fault lost.labels)) lost.sends
        | inr spelled ↦ read_behind spelled.behind now address spelled.conn spelled.reply (Err spelled.bare) spelled.sends spelled.reads
      ]

      -- however it ended
      attempt_behind : (now : AttemptState) (attempt : AttemptEnd R) → MakesAttempt op kept mid now attempt → TellsBehind now.link
      attempt_behind now (Done output) makes = read_behind makes.behind now makes.address makes.conn makes.reply (Ok output) makes.sends makes.reads
      attempt_behind now (Failed failure) makes = fails_behind now failure.address failure.phase failure.error makes.0
      attempt_behind now (Unselected error) makes =
          calling_behind here.0 mid.link now.link here.1.1 (selects_lead here.0 mid.link now.link (Err (Fault makes.fault makes.labels)) here.1.0 makes.selects.calls)
      attempt_behind now Stopped makes = connects_behind mid.link now.link makes.1.address makes.1.conn here makes.1.readies.connects
      attempt_behind now Unfit makes =
          subst (λ l. TellsBehind l) (sym makes.1.link) (connects_behind mid.link makes.1.ready.link makes.1.address makes.1.conn here makes.1.readies.connects)
      attempt_behind now (Ended error) makes = elim makes [
        | inl unready ↦ early_behind kept mid.link now.link here unready.asks
        | inr other ↦ elim other [
          | inl refused ↦ subst (λ l. TellsBehind l) (sym refused.link) (connects_behind mid.link refused.ready.link refused.address refused.conn here refused.readies.connects)
          | inr sent ↦ may_read_behind sent.behind now sent.address sent.conn sent.result sent.sends sent.reads
        ]
      ]

    -- attempts that failed one after another
    all_behind : (sharded : Bool) (earlier : List AttemptFailure) (before : AttemptState) (failures : List AttemptFailure) (now : AttemptState) → TellsBehind before.link
        → AttemptsFail op sharded earlier before failures now → TellsBehind now.link
    all_behind sharded earlier before [] now here fails = subst (λ s. TellsBehind s.link) (sym fails) here
    all_behind sharded earlier before (failure ∷ failures) now here fails =
        let mid = fails.0 in
        let one = fails.1.0 in
        all_behind sharded (earlier ++ failure ∷ []) mid failures now (fails_behind one.kept before here mid failure.address failure.phase failure.error one.makes.0) fails.1.1

    -- and how they end
    ends_behind : (sharded : Bool) (kept : Option RetryState) (mid now : AttemptState) (result : Result R Error) → TellsBehind mid.link → Ends op sharded kept mid now result → TellsBehind now.link
    ends_behind sharded kept mid now result here ends = elim ends [
      | inl last ↦ attempt_behind kept mid here now last.attempt last.makes
      | inr other ↦ elim other [
        | inl limit ↦ subst (λ s. TellsBehind s.link) (sym limit.same) here
        | inr refused ↦ fails_behind kept mid here now refused.failure.address refused.failure.phase refused.failure.error refused.makes.0
      ]
    ]

  module _ (which : SendKind) (before now : Moment) (count count_now : ℕ) (fixed fixed_now : Option ℕ) (result : Result R Error) (here : TellsBehind before.link) where
    -- one that went its way
    proceeds_behind : Proceeds spec batch which before now count count_now fixed fixed_now result → TellsBehind now.link
    proceeds_behind proceeds =
        let retryability = spec.retryability before.client.options in
        let concern = concern_of spec which before.client.options in
        let begun = first_state before.store (besides_out before.link) before.clock count fixed in
        let attempts = proceeds.attempts in
        let failed = all_behind which retryability concern proceeds.sharded [] begun attempts.failures attempts.mid here attempts.fails in
        let over = ends_behind which retryability concern proceeds.sharded attempts.kept attempts.mid proceeds.last result failed attempts.ends in
        subst (λ l. TellsBehind l) (sym proceeds.link_is) over

    -- so it is of each
    executes_behind : Executes spec batch which before now count count_now fixed fixed_now result → TellsBehind now.link
    executes_behind executes = elim executes [
      | inl refuses ↦ subst (λ m. TellsBehind m.link) (sym refuses.same) here
      | inr proceeds ↦ proceeds_behind proceeds
    ]

-- ---- the batches of a bulk write, one after another
module _ {R : Type 0} (tells : ResultSpec R) (options : BulkWriteOptions) (call : ℕ) (G : ℕ → WriteModel → Type 0) where
  pub batches_behind : (short : Type 0) (ends : List (PlannedEnd R)) (index : ℕ) (own : List OwnOp) → GoodModels G index own → (before now : Moment) → TellsBehind before.link
      → MakesAllPlanned short (bulk_plan tells options) call index own ends before now → TellsBehind now.link
  batches_behind short [] index own good before now here made = subst (λ m. TellsBehind m.link) (sym made.0) here
  batches_behind short (end ∷ ends) index own good before now here made =
      let mid = made.0 in
      let batch = made.1.0 in
      let count = fixed_or_one end.statements in
      let writes : List PlacedWrite = model_writes (take count good.models) (take count (places_from call index (length own))) in
      let over = executes_behind tells options index own (rest_of call index own count) (bulk_is_ordered options) writes (bulk_asks tells options call G index own good count)
      first before mid 0 batch.count None end.statements end.result here (batch.executes count (is_fixed_or_one end.statements)) in
      elim made.1.1 [
        | inl on ↦
            batches_behind short ends (index + on.statements) (drop on.statements own) ((bulk_planned tells options call G).good_rest index on.statements own good) mid now over on.rest
        | inr stops ↦ subst (λ m. TellsBehind m.link) (sym stops.same) over
      ]

-- what a link tells is so, where it tells such a server
pub behind_told : (link : LinkState) (run : ServerRun) → server_run link ≡ Some run → TellsBehind link → NoneAhead run.server
behind_told link run is here = subst (λ r. NoneAhead r.server) (one_moment link here.0 run here.1.0 is) here.1.1
