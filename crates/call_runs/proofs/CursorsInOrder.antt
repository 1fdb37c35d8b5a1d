-- Each call of a list leaves no send waiting that is of a cursor which is yet to be opened, where none did before it.
use Rattle.std.proofs.Common.{◌≡◌, ℕ, List, sym, ap, subst, ◌∙◌}
use Rattle.std.specs.Prelude.{Bool, true, false, Some, Result, Ok, Err}
use Rattle.driver_error.specs.declared.error.Error.{Error}
use Rattle.bulk_outcomes.specs.BulkResults.{summary_spec, verbose_spec}
use Rattle.driver_options.specs.declared.models.WriteModel.{WriteModel}
use Rattle.driver_options.specs.declared.write_options.BulkWriteOptions.{BulkWriteOptions}
use Rattle.driver_link.specs.declared.machine.SendBody.{SendBody}
use Rattle.driver_link.specs.declared.machine.SendBody.TheVariants.{Abort, Commit, Kill, More, Write}
use Rattle.driver_link.specs.Cases.{body_writes}
use Rattle.driver_link.specs.Exchange.{empty_server, replayed}
use Rattle.driver_link.specs.LinkState.{server_run}
use Rattle.driver_link.specs.ServerRun.{ServerRun}
use Rattle.driver_link.specs.Settled.{IsWrite}
use Rattle.driver_attempt.specs.Moment.{Moment}
use Rattle.driver_actions.specs.CallParts.{HasWriteOf, IsReplayedWhereTold, KeepsMakingWhereTold}
use Rattle.many_actions.specs.Numbers.{server_setup}
use Rattle.driver_actions.proofs.MovesBeside.{CallMoves, GainsOwn, GainsSends}
use Rattle.bulk_actions.specs.BulkCompleteness.{NoneAhead}
use Rattle.bulk_actions.proofs.BulkKept.{bulk_behind}
use Rattle.bulk_actions.proofs.BulkSends.{replayed_join}
use Rattle.bulk_actions.proofs.CursorsAsked.{TellsBehind}
use Rattle.bulk_actions.proofs.CursorsKept.{writes_behind}
use Rattle.bulk_actions.proofs.CursorsLeft.{behind_told}
use Rattle.call_runs.specs.CallMaking.{MakesBulkCall, MakesCall}
use Rattle.call_runs.specs.MainTheorem.{numbers_of}
use Rattle.call_runs.proofs.EachCall.{call_moves}
use Rattle.driver_inputs.specs.declared.call.Answer.{Answer}
use Rattle.driver_inputs.specs.declared.call.Answer.TheVariants as answer
use Rattle.driver_inputs.specs.declared.call.Call.{Call}
use Rattle.driver_inputs.specs.declared.call.Call.TheVariants.{BulkWrite, InsertMany, Single}

-- what carries a write is a command of writes
some_write : (number : ℕ) (body : SendBody) → HasWriteOf number (body_writes body) → IsWrite body
some_write number (Write does ordered writes) some = tt
some_write number Commit some = absurd some
some_write number Abort some = absurd some
some_write number (More cursor) some = absurd some
some_write number (Kill cursor) some = absurd some

module _ (before now : Moment) (run run_now : ServerRun) (run_is : server_run before.link ≡ Some run) (run_now_is : server_run now.link ≡ Some run_now) where
  -- what stays of a call whose server was the fold of its sends
  pub replayed_now : (paged : Bool) (numbers number : ℕ) → CallMoves paged numbers number before now → IsReplayedWhereTold (Some run) → IsReplayedWhereTold (Some run_now)
  replayed_now paged numbers number moves folds = subst IsReplayedWhereTold run_now_is (moves.replayed (subst IsReplayedWhereTold (sym run_is) folds))

  -- one that sends writes alone
  writes_alone : (numbers number : ℕ) → CallMoves false numbers number before now → IsReplayedWhereTold (Some run) → NoneAhead run.server → NoneAhead run_now.server
  writes_alone numbers number moves folds none =
      let folds_now : run_now.server ≡ replayed run_now.schedule empty_server run_now.server.trace = replayed_now false numbers number moves folds in
      let gains : GainsSends false number run run_now
      = subst (λ r. GainsOwn false number r (Some run_now)) run_is (subst (λ r. GainsOwn false number (server_run before.link) r) run_now_is moves.gains) in
      let making : KeepsMakingWhereTold (Some run) (Some run_now)
      = subst (λ r. KeepsMakingWhereTold r (Some run_now)) run_is (subst (λ r. KeepsMakingWhereTold (server_run before.link) r) run_now_is moves.making) in
      let server_is : run_now.server ≡ replayed run.schedule run.server gains.sends
      = folds_now
      ∙ ap (λ schedule. replayed schedule empty_server run_now.server.trace) making.1
      ∙ ap (λ trace. replayed run.schedule empty_server trace) gains.trace
      ∙ replayed_join run.schedule empty_server run.server.trace gains.sends
      ∙ ap (λ server. replayed run.schedule server gains.sends) (sym folds) in
      subst NoneAhead (sym server_is) (writes_behind run.schedule run.server gains.sends (λ send has. some_write number send.body (gains.own send has).some) none)

  -- a bulk write
  bulk_such : (models : List WriteModel) (options : BulkWriteOptions) (verbose : Bool) (number : ℕ) (result : Result Answer Error) → MakesBulkCall before now models options verbose number result
      → TellsBehind before.link → TellsBehind now.link
  bulk_such models options true number (Ok (answer.Verbose output)) makes here = bulk_behind verbose_spec before now models options number (Ok output) makes here
  bulk_such models options true number (Ok other) makes here = absurd makes
  bulk_such models options true number (Err error) makes here = bulk_behind verbose_spec before now models options number (Err error) makes here
  bulk_such models options false number (Ok (answer.Summary output)) makes here = bulk_behind summary_spec before now models options number (Ok output) makes here
  bulk_such models options false number (Ok other) makes here = absurd makes
  bulk_such models options false number (Err error) makes here = bulk_behind summary_spec before now models options number (Err error) makes here

  -- so it is of each call
  pub call_behind : (call : Call) (number : ℕ) (result : Result Answer Error) → MakesCall before now call number result → IsReplayedWhereTold (Some run) → NoneAhead run.server → NoneAhead run_now.server
  call_behind (Single write) number result makes folds none =
      writes_alone (numbers_of (server_setup (server_run before.link)) (Single write)) number (call_moves before now (Single write) number result makes) folds none
  call_behind (InsertMany namespace documents options) number result makes folds none =
      writes_alone (numbers_of (server_setup (server_run before.link)) (InsertMany namespace documents options)) number
      (call_moves before now (InsertMany namespace documents options) number result makes) folds none
  call_behind (BulkWrite models options verbose) number result makes folds none =
      behind_told now.link run_now run_now_is (bulk_such models options verbose number result makes (run, (run_is, none)))
