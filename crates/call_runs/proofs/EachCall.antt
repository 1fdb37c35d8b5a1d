-- What each call of a list left of store, link and clock, whatever it does.
use Rattle.std.proofs.Common.{ℕ, List}
use Rattle.std.specs.Prelude.{Bool, true, false, Result, Ok, Err}
use Rattle.driver_error.specs.declared.error.Error.{Error}
use Rattle.bulk_outcomes.specs.BulkResults.{summary_spec, verbose_spec}
use Rattle.driver_options.specs.declared.models.WriteModel.{WriteModel}
use Rattle.driver_options.specs.declared.write_options.BulkWriteOptions.{BulkWriteOptions}
use Rattle.driver_link.specs.LinkState.{server_run}
use Rattle.driver_session.specs.StoreTells.{Draws, LendsAsBefore}
use Rattle.driver_ops.specs.Targets.{in_collection}
use Rattle.driver_attempt.specs.Moment.{Moment}
use Rattle.driver_actions.specs.CallParts.{IsReplayed, KeepsMaking, SendsOwn}
use Rattle.many_actions.specs.Numbers.{server_setup}
use Rattle.driver_actions.proofs.CallMoves.{gains_sends_own}
use Rattle.driver_actions.proofs.CallSends.{makes_moves}
use Rattle.many_actions.proofs.ManyNumbers.{many_leaves}
use Rattle.driver_actions.proofs.MovesBeside.{CallMoves}
use Rattle.bulk_actions.specs.BulkNumbers.{bulk_numbers}
use Rattle.bulk_actions.proofs.BulkNumbers.{bulk_moves}
use Rattle.call_runs.specs.CallByCall.{CallCaused, with_clock}
use Rattle.call_runs.specs.CallMaking.{MakesBulkCall, MakesCall}
use Rattle.call_runs.specs.MainTheorem.{is_paged, numbers_of}
use Rattle.driver_inputs.specs.declared.call.Answer.{Answer}
use Rattle.driver_inputs.specs.declared.call.Answer.TheVariants as answer
use Rattle.driver_inputs.specs.declared.call.Call.{Call}
use Rattle.driver_inputs.specs.declared.call.Call.TheVariants.{BulkWrite, InsertMany, Single}
use Rattle.driver_inputs.specs.declared.call.Outcome.{Outcome}
use Rattle.driver_inputs.specs.Forms.{form_of}

-- what a bulk write leaves
pub bulk_call_moves : (before now : Moment) (models : List WriteModel) (options : BulkWriteOptions) (verbose : Bool) (number : ℕ) (result : Result Answer Error) → MakesBulkCall before now models options verbose number result
    → CallMoves true (bulk_numbers (server_setup (server_run before.link)) models options verbose) number before now
bulk_call_moves before now models options true number (Ok (answer.Verbose output)) makes = bulk_moves verbose_spec before now models options number (Ok output) makes
bulk_call_moves before now models options true number (Ok other) makes = absurd makes
bulk_call_moves before now models options true number (Err error) makes = bulk_moves verbose_spec before now models options number (Err error) makes
bulk_call_moves before now models options false number (Ok (answer.Summary output)) makes = bulk_moves summary_spec before now models options number (Ok output) makes
bulk_call_moves before now models options false number (Ok other) makes = absurd makes
bulk_call_moves before now models options false number (Err error) makes = bulk_moves summary_spec before now models options number (Err error) makes

-- what a call leaves
pub call_moves : (before now : Moment) (call : Call) (number : ℕ) (result : Result Answer Error) → MakesCall before now call number result
    → CallMoves (is_paged call) (numbers_of (server_setup (server_run before.link)) call) number before now
call_moves before now (Single write) number (Ok (answer.Single given)) makes = makes_moves before now (form_of write) number (Ok given) makes
call_moves before now (Single write) number (Ok other) makes = absurd makes
call_moves before now (Single write) number (Err error) makes = makes_moves before now (form_of write) number (Err error) makes
call_moves before now (InsertMany namespace documents options) number (Ok (answer.Many output)) makes = many_leaves before now (in_collection namespace) documents options number (Ok output) makes
call_moves before now (InsertMany namespace documents options) number (Ok other) makes = absurd makes
call_moves before now (InsertMany namespace documents options) number (Err error) makes = many_leaves before now (in_collection namespace) documents options number (Err error) makes
call_moves before now (BulkWrite models options verbose) number result makes = bulk_call_moves before now models options verbose number result makes

-- a call that ended with its cause left the same, since its readings of the clock change neither store nor link
module _ (number : ℕ) (before now : Moment) (call : Call) (outcome : Outcome) (caused : CallCaused number before now call outcome) where
  -- between these readings
  caused_moves : CallMoves (is_paged call) (numbers_of (server_setup (server_run before.link)) call) number (with_clock before caused.first) (with_clock now caused.clock)
  caused_moves = call_moves (with_clock before caused.first) (with_clock now caused.clock) call number outcome.result caused.makes

  -- what it drew
  pub caused_draws : Draws before.store now.store
  caused_draws = caused_moves.draws

  -- what is lent after it
  pub caused_lends : LendsAsBefore before.store now.store
  caused_lends = caused_moves.lends

  -- the making of the link
  pub caused_making : KeepsMaking before now
  caused_making = caused_moves.making

  -- the fold of the trace
  pub caused_replayed : IsReplayed before → IsReplayed now
  caused_replayed folds = caused_moves.replayed folds

  -- all that it sent is what it may send
  pub caused_own : SendsOwn (is_paged call) number (server_run before.link) (server_run now.link)
  caused_own = gains_sends_own (is_paged call) number (server_run before.link) (server_run now.link) caused_moves.gains
