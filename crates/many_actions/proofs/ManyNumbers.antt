-- An insert of many documents raises the numbers of idle sessions by one at most for each of its batches.
use Rattle.std.proofs.Common.{◌≡◌, ℕ, List, length, sym, ap, subst, ◌∙◌, inl, inr, arith}
use Rattle.std.specs.Prelude.{Option, Result, Ok, Err}
use Rattle.bson_lite.specs.declared.bson.Bson.{Bson}
use Rattle.bson_lite.specs.declared.document.Pair.{Pair}
use Rattle.driver_error.specs.declared.error.Error.{Error}
use Rattle.server_answers.specs.declared.results.InsertManyResult.{InsertManyResult}
use Rattle.driver_options.specs.declared.write_options.InsertManyOptions.{InsertManyOptions}
use Rattle.driver_link.specs.declared.machine.Setup.{Setup}
use Rattle.driver_link.specs.LinkState.{server_run}
use Rattle.driver_ops.specs.declared.target.OperationTarget.{OperationTarget}
use Rattle.driver_ops.specs.Targets.{namespace_of}
use Rattle.write_ops.specs.InsertFronts.{sizes_of}
use Rattle.driver_attempt.specs.Moment.{Moment}
use Rattle.many_actions.specs.ManyCalls.{MadeMany, MakesMany, RanShort}
use Rattle.driver_actions.specs.Raises.{RaisesBy, RaisesByWhereTold}
use Rattle.many_actions.specs.ManyCompleteness.{RaisesByBatches}
use Rattle.many_actions.specs.Numbers.{many_numbers, numbers_for, server_setup, sizes_with_ids}
use Rattle.many_actions.proofs.BatchNumbers.{batches_raise}
use Rattle.many_actions.proofs.BatchSizes.{ids_each, sizes_are, with_ids_sizes}
use Rattle.driver_actions.proofs.CallMoves.{CallMoves, moves_drew, moves_raising, raises_more}
use Rattle.many_actions.proofs.ManyMade.{IsGiven, made_drew, many_moves, sent, sent_each, unmade_drew}

module _ (before now : Moment) (target : OperationTarget) (documents : List (List (Pair Bson))) (options : InsertManyOptions) (call : ℕ) where
  -- the setup of its server
  abbrev setup : Option Setup
  setup = server_setup (server_run before.link)

  -- the numbers that it takes at most
  abbrev most_numbers : ℕ
  most_numbers = many_numbers setup (namespace_of target) documents options

  module _ (result : Result InsertManyResult Error) (made : MadeMany before now target documents options call result) where
    -- the sizes of its documents are those of the caller's with their ids
    pub made_sizes : sizes_of made.own ≡ sizes_with_ids documents
    made_sizes =
        sym (sizes_are (sent before now target documents options call result made) made.own made.owns.are_own)
        ∙ with_ids_sizes made.owns.ids documents (ids_each before.store made.mid.store documents made.owns.ids made.owns.draws) made.owns.twelve

    -- so its batches raise them so far
    made_raises : RaisesByBatches before now (namespace_of target) documents options
    made_raises =
        let drew = made_drew before now target documents options call result made in
        let setup_is : server_setup (server_run made.mid.link) ≡ setup = ap (λ moment. server_setup (server_run moment.link)) made.rest in
        let batches : RaisesBy (numbers_for setup (namespace_of target) options (sizes_of made.own)) made.mid now
        = batches_raise target options call (IsGiven documents) setup (RanShort result) made.ends 0 (sent before now target documents options call result made) made.own made.owns.are_own
        (sent_each before now target documents options call result made) made.mid now setup_is made.batches in
        let all : RaisesBy most_numbers made.mid now = subst (λ sizes. RaisesBy (numbers_for setup (namespace_of target) options sizes) made.mid now) made_sizes batches in
        subst (λ pool. RaisesByWhereTold most_numbers pool now.store.pool) drew.pool all

  -- so does each call
  pub many_raises : (result : Result InsertManyResult Error) → MakesMany before now target documents options call result → RaisesByBatches before now (namespace_of target) documents options
  many_raises (Ok output) made = made_raises (Ok output) made
  many_raises (Err error) makes = elim makes [
    | inl unmade ↦
        raises_more 0 most_numbers (omega arith) before.store.pool now.store.pool
        (moves_drew call before now (unmade_drew before now documents error unmade.draws)).raises
    | inr made ↦ made_raises (Err error) made
  ]

  -- what it leaves beside
  pub many_leaves : (result : Result InsertManyResult Error) → MakesMany before now target documents options call result → CallMoves most_numbers call before now
  many_leaves result makes = moves_raising (length documents) most_numbers call before now (many_moves before now target documents options call result makes) (many_raises result makes)
