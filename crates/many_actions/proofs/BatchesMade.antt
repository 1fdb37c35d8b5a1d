-- What each batch of an insert leaves, and what its batches leave together.
use Rattle.std.proofs.Common.{◌≡◌, ℕ, ◌+◌, ◌<◌, ◌≤◌, Bool, true, false, List, drop, length, refl}
use Rattle.std.specs.Prelude.{Option, None, Some, Err}
use Rattle.bson_lite.specs.declared.bson.Bson.{Bson}
use Rattle.bson_lite.specs.declared.document.Pair.{Pair}
use Rattle.driver_error.specs.declared.error.Error.{Error}
use Rattle.driver_error.specs.declared.kind.ErrorKind.TheVariants as kind
use Rattle.driver_error.specs.Error.{ErrorKind, kind_of}
use Rattle.driver_options.specs.declared.write_options.InsertManyOptions.{InsertManyOptions}
use Rattle.driver_link.specs.declared.machine.PlacedWrite.{PlacedWrite}
use Rattle.driver_link.specs.declared.machine.Send.{Send}
use Rattle.driver_link.specs.declared.machine.SendBody.{SendBody}
use Rattle.driver_link.specs.Apart.{AllApart}
use Rattle.driver_link.specs.LinkState.{server_run}
use Rattle.driver_link.specs.ServerRun.{ServerRun}
use Rattle.driver_session.specs.Pool.{Pool}
use Rattle.driver_session.specs.StoreTells.{DrawnApart}
use Rattle.driver_ops.specs.declared.target.OperationTarget.{OperationTarget}
use Rattle.driver_ops.specs.Inserts.{insert_is_ordered}
use Rattle.driver_ops.specs.SendKinds.{first}
use Rattle.driver_ops.specs.Targets.{namespace_of}
use Rattle.write_ops.specs.declared.own_document.OwnDocument.{OwnDocument}
use Rattle.write_ops.specs.InsertLawful.{insert_lawful}
use Rattle.write_ops.specs.InsertSpec.{AreOwn, insert_spec, statements_fixed}
use Rattle.driver_attempt.specs.Executing.{Executes}
use Rattle.driver_attempt.specs.Moment.{Moment}
use Rattle.driver_exec.specs.BetweenCalls.{Between, Sound}
use Rattle.driver_exec.specs.Keeping.{StandsBefore}
use Rattle.driver_exec.specs.Reporting.{HasBuilt, HasRun}
use Rattle.driver_exec.specs.Resending.{IsReadFailure, SendsOneCommand}
use Rattle.many_actions.specs.Batches.{BatchEnd, MakesBatch, MakesBatches, goes_on, insert_plan, rest_of, tells_documents}
use Rattle.many_actions.proofs.BatchWrites.{EachIs, IsNewFrom, IsOf, IsOfCall, batch_asks, batch_body, batch_of_call, batch_stands, of_limited, own_rest, rest_is}
use Rattle.driver_actions.proofs.CallMoves.{CallMoves, GainsOwn}
use Rattle.driver_actions.proofs.CallWrites.WritesMade.{LeftBy}
use Rattle.many_actions.proofs.PlannedBatches as planned
use Rattle.many_actions.proofs.PlannedBatches.{IsBelow, PlanWrites}
pub use Rattle.many_actions.proofs.PlannedBatches.{Advances, AllWrites, MidTold, advances_as, advances_refl, advances_twice, fixed_or_one, is_fixed_or_one, pool_told, run_told, told_as}

-- an error that tells of documents is one that only a reply spells
pub of_kind : (found : ErrorKind) → tells_documents found ≡ true → IsReadFailure found
of_kind (kind.InsertMany failures) told = tt
of_kind _ told = absurd (let e : false ≡ true = told in cc)

-- so is one behind which a batch is begun
pub on_reads : (ordered : Bool) (error : Error) → goes_on ordered (Err error) ≡ true → IsReadFailure (kind_of error)
on_reads true error on = absurd (let e : false ≡ true = on in cc)
on_reads false error on = of_kind (kind_of error) on

-- own documents of which each is such, the first at an index of the caller's list
pub record GoodDocuments (G : ℕ → List (Pair Bson) → Type 0) (index : ℕ) (own : List OwnDocument) : Type 0 where
  pub documents : List (List (Pair Bson))
  pub are : AreOwn documents own
  pub each : EachIs G index documents

-- what the inserts of a call ask for
abbrev pub insert_planned : (target : OperationTarget) (options : InsertManyOptions) (call : ℕ) (G : ℕ → List (Pair Bson) → Type 0)
    → PlanWrites false (insert_plan target options) call (GoodDocuments G) (IsOfCall G (namespace_of target) call)
insert_planned target options call G = record {
  good_rest = λ index count own good.
      record { documents = drop count good.documents; are = own_rest count good.documents own good.are; each = rest_is G index count good.documents good.each };
  body = λ index own good count. batch_body target options call index good.documents own good.are count;
  asks = λ index own good count. batch_asks target options call index good.documents own good.are count;
  writes = λ index own good count. tt;
  stands = λ index own good count at write stands. batch_stands target options call index good.documents own good.are count G good.each at write stands;
  has_one = λ index own good count some left. batch_of_call target options call index good.documents own good.are count some left;
  some = λ index own statements command commanded. commanded.some;
  within = λ index own statements command commanded. commanded.within;
  lawful = λ index own. insert_lawful target index own options;
  pages = λ index own. refl;
  read = λ error on. on_reads (insert_is_ordered options) error on;
}

-- what is told between two parts of a call
pub mid_told : (a b call : ℕ) (before mid now : Moment) → CallMoves a call before mid → CallMoves b call mid now → (pool : Pool) (run : ServerRun) → before.store.pool ≡ Some pool
    → server_run before.link ≡ Some run → DrawnApart now.store → MidTold mid
mid_told a b call before mid now earlier later pool run pool_is run_is apart = planned.mid_told false a b call before mid now earlier later pool run pool_is run_is apart

-- the batches of a call
module _ (target : OperationTarget) (options : InsertManyOptions) (call : ℕ) (G : ℕ → List (Pair Bson) → Type 0) where
  -- a write of the call
  abbrev pub IsHere : PlacedWrite → Type 0
  IsHere = IsOfCall G (namespace_of target) call

  -- one of them, over the documents that remain from an index on
  module _ (index : ℕ) (documents : List (List (Pair Bson))) (own : List OwnDocument) (are : AreOwn documents own) (each : EachIs G index documents) (before now : Moment) (end : BatchEnd)
      (made : MakesBatch target options call index own before now end) where
    -- how many documents are in its command
    abbrev pub count_here : ℕ
    count_here = fixed_or_one end.statements

    -- what it asks for
    abbrev pub asked_here : SendBody
    asked_here = batch_body target options call index documents own are count_here

    -- its documents are such
    abbrev good_here : GoodDocuments G index own
    good_here = record { documents = documents; are = are; each = each }

    -- it was executed so
    pub executes_here : Executes (insert_spec target index own options) (rest_of call index own count_here) first before now 0 made.count (statements_fixed own None) end.statements end.result
    executes_here = made.executes count_here (is_fixed_or_one end.statements)

    -- its sends are one command
    pub command_here : SendsOneCommand (insert_spec target index own options) (rest_of call index own count_here) before now end.result
    command_here = made.one_command count_here (is_fixed_or_one end.statements)

    -- what it left
    pub left_here : LeftBy before now asked_here
    left_here = planned.left_here false (insert_plan target options) call (GoodDocuments G) IsHere (insert_planned target options call G) index own good_here before now end made

    -- all that it sent is the call's own
    pub gains_here : GainsOwn call (server_run before.link) (server_run now.link)
    gains_here = planned.gains_here false (insert_plan target options) call (GoodDocuments G) IsHere (insert_planned target options call G) index own good_here before now end made

    -- so it is a part of the call
    pub batch_moves : CallMoves 1 call before now
    batch_moves = planned.batch_moves false (insert_plan target options) call (GoodDocuments G) IsHere (insert_planned target options call G) index own good_here before now end made

    -- where it was done, or its failure was read, it was built
    pub run_here : HasRun (insert_spec target index own options) first before (statements_fixed own None) end.statements end.result
    run_here = planned.run_here false (insert_plan target options) call (GoodDocuments G) IsHere (insert_planned target options call G) index own good_here before now end made

    -- so it was where the next one was begun
    pub built_here : goes_on (insert_is_ordered options) end.result ≡ true → HasBuilt (insert_spec target index own options) first before (statements_fixed own None) end.statements
    built_here on = planned.built_here false (insert_plan target options) call (GoodDocuments G) IsHere (insert_planned target options call G) index own good_here before now end made on

    -- over a told pool and a told server, before which all stands
    module _ (pool pool_now : Pool) (run run_now : ServerRun) (pool_is : before.store.pool ≡ Some pool) (pool_now_is : now.store.pool ≡ Some pool_now) (run_is : server_run before.link ≡ Some run)
        (run_now_is : server_run now.link ≡ Some run_now) (between : Between pool run.server.trace) (sound : Sound run.server) (new : IsNewFrom run.server.trace call index) (apart : AllApart pool_now.drawn) where
      -- it may be sent
      pub stands_here : StandsBefore pool pool_now run asked_here
      stands_here = planned.stands_here false (insert_plan target options) call (GoodDocuments G) IsHere (insert_planned target options call G) index own good_here before now end made
          pool pool_now run run_now pool_is pool_now_is run_is run_now_is between sound new apart

      -- so all went on
      pub batch_advances : Advances (IsOf G (namespace_of target) call (index + count_here)) pool_now run run_now
      batch_advances =
          let limit = index + count_here in
          advances_as (IsBelow IsHere call limit) (IsOf G (namespace_of target) call limit) pool_now run run_now (of_limited G (namespace_of target) call limit)
          (planned.batch_advances false (insert_plan target options) call (GoodDocuments G) IsHere (insert_planned target options call G) index own good_here before now end made
          pool pool_now run run_now pool_is pool_now_is run_is run_now_is between sound new apart)

      -- no place behind it was sent
      pub new_behind : IsNewFrom run_now.server.trace call (index + count_here)
      new_behind = planned.new_behind false (insert_plan target options) call (GoodDocuments G) IsHere (insert_planned target options call G) index own good_here before now end made
          pool pool_now run run_now pool_is pool_now_is run_is run_now_is between sound new apart

  -- where a further batch was begun the one before had a document
  pub some_gone : (index : ℕ) (documents : List (List (Pair Bson))) (own : List OwnDocument) (are : AreOwn documents own) (each : EachIs G index documents) (before now : Moment) (end : BatchEnd)
      → MakesBatch target options call index own before now end → goes_on (insert_is_ordered options) end.result ≡ true → (statements : ℕ) → end.statements ≡ Some statements
      → (0 < statements) × (statements ≤ length own)
  some_gone index documents own are each before now end made on statements told =
      planned.some_gone false (insert_plan target options) call (GoodDocuments G) IsHere (insert_planned target options call G) index own (record { documents = documents; are = are; each = each })
      before now end made on statements told

  -- the batches that follow one another from an index on, each of which takes a number at most
  pub batches_move : (short : Type 0) (ends : List BatchEnd) (index : ℕ) (documents : List (List (Pair Bson))) (own : List OwnDocument) → AreOwn documents own → EachIs G index documents → (before now : Moment)
      → MakesBatches short target options call index own ends before now → CallMoves (length own) call before now
  batches_move short ends index documents own are each before now made =
      planned.batches_move false (insert_plan target options) call (GoodDocuments G) IsHere (insert_planned target options call G) short ends index own
      (record { documents = documents; are = are; each = each }) before now made

  -- the place of the next document is new behind a batch
  pub next_new : (index : ℕ) (trace : List Send) (fixed : Option ℕ) (statements : ℕ) → fixed ≡ Some statements → IsNewFrom trace call (index + fixed_or_one fixed) → IsNewFrom trace call (index + statements)
  next_new index trace fixed statements told new = planned.next_new call index trace fixed statements told new

  -- they keep what stands between operations
  pub batches_advance : (short : Type 0) (ends : List BatchEnd) (index : ℕ) (documents : List (List (Pair Bson))) (own : List OwnDocument) → AreOwn documents own → EachIs G index documents → (before now : Moment)
      → (pool pool_now : Pool) (run run_now : ServerRun) → before.store.pool ≡ Some pool → now.store.pool ≡ Some pool_now → server_run before.link ≡ Some run → server_run now.link ≡ Some run_now
      → Between pool run.server.trace → Sound run.server → IsNewFrom run.server.trace call index → DrawnApart now.store
      → MakesBatches short target options call index own ends before now → Advances IsHere pool_now run run_now
  batches_advance short ends index documents own are each before now pool pool_now run run_now pool_is pool_now_is run_is run_now_is between sound new apart made =
      planned.batches_advance false (insert_plan target options) call (GoodDocuments G) IsHere (insert_planned target options call G) short ends index own
      (record { documents = documents; are = are; each = each }) before now pool pool_now run run_now pool_is pool_now_is run_is run_now_is between sound new apart made
