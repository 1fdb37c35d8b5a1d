-- The batches of a call take no more numbers of sessions than its documents are cut into runs.
use Rattle.std.proofs.Common.{◌≡◌, ℕ, ◌+◌, ◌<◌, ◌≤◌, true, false, List, drop, length, sym, subst}
use Rattle.std.specs.Prelude.{Option, Some}
use Rattle.bson_lite.specs.declared.bson.Bson.{Bson}
use Rattle.bson_lite.specs.declared.document.Pair.{Pair}
use Rattle.driver_options.specs.declared.write_options.InsertManyOptions.{InsertManyOptions}
use Rattle.driver_link.specs.declared.machine.Setup.{Setup}
use Rattle.driver_link.specs.LinkState.{server_run}
use Rattle.driver_ops.specs.declared.target.OperationTarget.{OperationTarget}
use Rattle.driver_ops.specs.Inserts.{insert_is_ordered}
use Rattle.driver_ops.specs.Targets.{namespace_of}
use Rattle.write_ops.specs.declared.own_document.OwnDocument.{OwnDocument}
use Rattle.write_ops.specs.InsertFronts.{sizes_of}
use Rattle.write_ops.specs.InsertSpec.{AreOwn}
use Rattle.driver_attempt.specs.Moment.{Moment}
use Rattle.many_actions.specs.Batches.{BatchEnd, MakesBatch, MakesBatches, goes_on, insert_plan}
use Rattle.driver_actions.specs.Raises.{RaisesBy}
use Rattle.many_actions.specs.Numbers.{numbers_for, server_setup}
use Rattle.many_actions.proofs.BatchSizes.{rest_sizes, sizes_length, takes_told}
use Rattle.many_actions.proofs.BatchWrites.{EachIs, IsOfCall}
use Rattle.many_actions.proofs.BatchesMade.{GoodDocuments, insert_planned}
use Rattle.many_actions.proofs.PlannedBatches as planned
use Rattle.many_actions.proofs.PlannedBatches.{PlanNumbers}
use Rattle.many_actions.proofs.RunCounts.{fewer_numbers, some_number}

module _ (target : OperationTarget) (options : InsertManyOptions) (call : ℕ) (G : ℕ → List (Pair Bson) → Type 0) (setup : Option Setup) where
  -- how many numbers these documents take at most
  abbrev pub numbers_left : List OwnDocument → ℕ
  numbers_left own = numbers_for setup (namespace_of target) options (sizes_of own)

  -- some are left
  pub number_left : (own : List OwnDocument) → 0 < length own → 1 ≤ numbers_left own
  number_left own some = some_number setup (namespace_of target) options (sizes_of own) (subst (λ n. 0 < n) (sym (sizes_length own)) some)

  -- a batch takes one of them at least, and leaves one fewer
  insert_numbers : PlanNumbers (insert_plan target options) setup numbers_left
  insert_numbers = record {
    one = number_left;
    fewer = λ index own description statements described takes some within.
        subst (λ sizes. 1 + numbers_for setup (namespace_of target) options sizes ≤ numbers_left own) (sym (rest_sizes statements own))
        (fewer_numbers setup (namespace_of target) options (sizes_of own) statements some (subst (λ n. statements ≤ n) (sym (sizes_length own)) within)
        (takes_told (namespace_of target) options own description statements setup described takes));
  }

  -- one batch
  module _ (index : ℕ) (documents : List (List (Pair Bson))) (own : List OwnDocument) (are : AreOwn documents own) (each : EachIs G index documents) (before now : Moment) (end : BatchEnd)
      (made : MakesBatch target options call index own before now end) (setup_is : server_setup (server_run before.link) ≡ setup) where
    -- its server has the same setup
    pub batch_setup : server_setup (server_run now.link) ≡ setup
    batch_setup =
        planned.batch_setup false (insert_plan target options) call (GoodDocuments G) (IsOfCall G (namespace_of target) call) (insert_planned target options call G) setup numbers_left insert_numbers
        index own (record { documents = documents; are = are; each = each }) before now end made setup_is

    -- behind it, where a further one was begun, one number fewer is left to take
    pub batch_fewer : goes_on (insert_is_ordered options) end.result ≡ true → (statements : ℕ) → end.statements ≡ Some statements → 1 + numbers_left (drop statements own) ≤ numbers_left own
    batch_fewer on statements told =
        planned.batch_fewer false (insert_plan target options) call (GoodDocuments G) (IsOfCall G (namespace_of target) call) (insert_planned target options call G) setup numbers_left insert_numbers
        index own (record { documents = documents; are = are; each = each }) before now end made setup_is on statements told

  -- batches one after another raise the numbers of idle sessions by no more than that
  pub batches_raise : (short : Type 0) (ends : List BatchEnd) (index : ℕ) (documents : List (List (Pair Bson))) (own : List OwnDocument) → AreOwn documents own → EachIs G index documents → (before now : Moment)
      → server_setup (server_run before.link) ≡ setup → MakesBatches short target options call index own ends before now → RaisesBy (numbers_left own) before now
  batches_raise short ends index documents own are each before now setup_is made =
      planned.batches_raise false (insert_plan target options) call (GoodDocuments G) (IsOfCall G (namespace_of target) call) (insert_planned target options call G) setup numbers_left insert_numbers
      short ends index own (record { documents = documents; are = are; each = each }) before now setup_is made
