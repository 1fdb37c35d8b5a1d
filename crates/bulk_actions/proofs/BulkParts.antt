-- One batch of a bulk write: what its operation was made of, what it came to, and what stands behind it.
use Rattle.std.proofs.Common.{◌≡◌, ℕ, ◌<◌, Bool, true, false, List, [], ◌∷◌, drop, length, refl, sym, ap, subst, ◌∙◌, inl, inr, arith}
use Rattle.std.proofs.lemmas.List.{length-drop}
use Rattle.std.specs.Prelude.{◌⊎◌, min, Option, None, Some, IfSome, Result, Ok, Err, if◌then◌else◌}
use Rattle.driver_error.specs.declared.error.Error.{Error}
use Rattle.driver_error.specs.declared.kind.ErrorKind.TheVariants as kind
use Rattle.bulk_outcomes.specs.declared.status.ExecutionStatus.{ExecutionStatus}
use Rattle.bulk_outcomes.specs.BulkResults.{ResultSpec}
use Rattle.driver_error.specs.Error.{kind_of}
use Rattle.driver_error.specs.BulkErrors.{failures_in}
use Rattle.bulk_outcomes.specs.Status.{FailsWith, HasKind, IsBulkOfKind, Stands, Succeeds, goes_on, is_memory}
use Rattle.driver_options.specs.declared.write_options.BulkWriteOptions.{BulkWriteOptions}
use Rattle.driver_link.specs.declared.machine.Place.{Place}
use Rattle.driver_ops.specs.declared.target.OperationTarget.{OperationTarget}
use Rattle.driver_ops.specs.Operations.{IsFixed, batch_of}
use Rattle.driver_ops.specs.SendKinds.{first}
use Rattle.bulk_fronts.specs.declared.own_op.OwnOp.{OwnOp}
use Rattle.bulk_ops.specs.BulkSpec.{admin_target, bulk_spec}
use Rattle.bulk_ops.proofs.BulkErrorKinds.{IsOne}
use Rattle.bulk_fronts.specs.BulkWrites.{bulk_is_ordered}
use Rattle.driver_attempt.specs.Causes.{end_of}
use Rattle.driver_attempt.specs.Executing.{Executes}
use Rattle.driver_attempt.specs.Moment.{Moment}
use Rattle.driver_exec.specs.OperationCauses.{Caused}
use Rattle.driver_exec.specs.Reporting.{HasRun}
use Rattle.driver_exec.specs.Resending.{SendsOneCommand}
use Rattle.many_actions.specs.BatchPlans.{IsCount, MakesAllPlanned, places_from}
use Rattle.many_actions.proofs.PlannedParts.{planned_made}
use Rattle.bulk_actions.specs.BulkBatches.{ComesTo, Takes, bulk_plan, end_goes_on}
use Rattle.bulk_actions.specs.inside.BulkBatches.{BulkBatchMade, ComesBehind, EndHasKind, NextWithin, StopsBulk, TakesBatch}
use Rattle.bulk_actions.proofs.BulkEnds.{counts_ops, end_has}
use Rattle.bulk_actions.proofs.Following.{end_decides}

-- an index of a list is the lower one
pub first_within : {A : Type 0} (at : ℕ) (list : List A) → at < length list → min at (length list) ≡ at
first_within at list within = omega (arith, within)

-- what is told of an operation that was made of these parts
pub record BulkRan {R : Type 0} (tells : ResultSpec R) (target : OperationTarget) (index : ℕ) (own : List OwnOp) (options : BulkWriteOptions) (places : List Place) (before now : Moment) (from sends : ℕ) (built fixed_now : Option ℕ) (came : Result R Error) : Type 0 where
  pub executes : (statements : ℕ) → IsFixed fixed_now statements → Executes (bulk_spec tells target index own options) (batch_of places statements) first before now from sends built fixed_now came
  pub one_command : (statements : ℕ) → IsFixed fixed_now statements → SendsOneCommand (bulk_spec tells target index own options) (batch_of places statements) before now came
  pub caused : Caused (bulk_spec tells target index own options) first built before now (end_of came)
  pub ran : HasRun (bulk_spec tells target index own options) first before built fixed_now came

-- where it was made of the parts of a batch, that was made
module _ {R : Type 0} (tells : ResultSpec R) (one : IsOne tells) (call : ℕ) where
  of_parts : (options : BulkWriteOptions) (index : ℕ) (own : List OwnOp) (before now : Moment) (sends : ℕ) (fixed_now : Option ℕ) (came : Result R Error) (count : ℕ) → 0 < length own
      → BulkRan tells admin_target index own options (places_from call index (length own)) before now 0 sends None fixed_now came → IfSome fixed_now (λ statements. count ≡ statements)
      → BulkBatchMade tells options call index own before now count came
  of_parts options index own before now sends fixed_now came count left ran told = record {
    end = record { first = index; statements = fixed_now; result = came };
    makes = planned_made (bulk_plan tells options) call index own before now sends fixed_now came ran.executes left ran.one_command ran.caused;
    result_is = refl;
    counted = counts_ops tells admin_target index own options before fixed_now count (bulk_is_ordered options) came ran.ran told;
    of_kind = end_has tells one admin_target index own options before now came ran.caused;
  }

  pub bulk_made : (target : OperationTarget) (at index : ℕ) (held own : List OwnOp) (given options : BulkWriteOptions) (places : List Place) (before now : Moment) (from sends : ℕ) (built fixed_now : Option ℕ) (came : Result R Error) (count : ℕ)
      → target ≡ admin_target → at ≡ index → held ≡ own → given ≡ options → places ≡ places_from call index (length own) → from ≡ 0 → built ≡ None → 0 < length own
      → BulkRan tells target at held given places before now from sends built fixed_now came → IfSome fixed_now (λ statements. count ≡ statements)
      → BulkBatchMade tells options call index own before now count came
  bulk_made target at index held own given options places before now from sends built fixed_now came count is_target is_index is_own is_options is_places none unbuilt left ran told =
      of_parts options index own before now sends fixed_now came count left
      (subst (λ t. BulkRan tells t index own options (places_from call index (length own)) before now 0 sends None fixed_now came) is_target
      (subst (λ i. BulkRan tells target i own options (places_from call index (length own)) before now 0 sends None fixed_now came) is_index
      (subst (λ o. BulkRan tells target at o options (places_from call index (length own)) before now 0 sends None fixed_now came) is_own
      (subst (λ o. BulkRan tells target at held o (places_from call index (length own)) before now 0 sends None fixed_now came) is_options
      (subst (λ p. BulkRan tells target at held given p before now 0 sends None fixed_now came) is_places
      (subst (λ n. BulkRan tells target at held given places before now n sends None fixed_now came) none
      (subst (λ b. BulkRan tells target at held given places before now from sends b fixed_now came) unbuilt ran))))))) told

-- what is followed by a batch may take what comes of it
abbrev pub FollowedStands : {R : Type 0} → ResultSpec R → Type 0
FollowedStands {R} tells = (ordered : Bool) (before : ExecutionStatus R) → goes_on ordered before ≡ true → HasKind tells before → Stands tells before

-- the result in what stands keeps its variant, whether a batch more succeeded or failed
pub record KeepsKind {R : Type 0} (tells : ResultSpec R) : Type 0 where
  pub success : (before : ExecutionStatus R) (found : R) (now : ExecutionStatus R) → Stands tells before → Succeeds tells before found (Ok now) → HasKind tells now
  pub failure : (before : ExecutionStatus R) (memory : Bool) (error : Error) (now : ExecutionStatus R) → Stands tells before → IsBulkOfKind tells (failures_in (kind_of error))
      → FailsWith tells before memory error (Ok now) → HasKind tells now

-- so it does behind any batch
kind_behind : {R : Type 0} (tells : ResultSpec R) (keeps : KeepsKind tells) (standing : ExecutionStatus R) (came : Result R Error) (later : ExecutionStatus R) → Stands tells standing → EndHasKind tells came
    → Takes tells standing came (Ok later) → HasKind tells later
kind_behind tells keeps standing (Ok found) later stands kind takes = keeps.success standing found later stands takes
kind_behind tells keeps standing (Err error) later stands kind takes = keeps.failure standing (is_memory (kind_of error)) error later stands kind takes

-- a batch whose result what stood took over
module _ {R : Type 0} (tells : ResultSpec R) (options : BulkWriteOptions) (call index : ℕ) (own : List OwnOp) (before now : Moment) (standing : ExecutionStatus R) (count : ℕ) (came : Result R Error)
    (made : BulkBatchMade tells options call index (drop index own) before now count came) where
  abbrev takes_batch : (later : ExecutionStatus R) (on : Bool) → Takes tells standing came (Ok later) → end_goes_on (bulk_is_ordered options) came ≡ on
      → TakesBatch tells options call index own before now standing later on
  takes_batch later on takes goes = record {
    end = made.end;
    makes = made.makes;
    takes = subst (λ r. Takes tells standing r (Ok later)) (sym made.result_is) takes;
    goes = ap (end_goes_on (bulk_is_ordered options)) made.result_is ∙ goes;
  }

  -- what comes behind it
  comes_by : (later : ExecutionStatus R) (on : Bool) → Takes tells standing came (Ok later) → end_goes_on (bulk_is_ordered options) came ≡ on
      → ComesBehind tells options call index own before now standing later (if on then Some count else None)
  comes_by later true takes goes = record { takes = takes_batch later true takes goes; counted = made.counted goes }
  comes_by later false takes goes = takes_batch later false takes goes

  pub comes_behind : (later : ExecutionStatus R) (on : Bool) (next : Option ℕ) → goes_on (bulk_is_ordered options) standing ≡ true → Takes tells standing came (Ok later)
      → on ≡ goes_on (bulk_is_ordered options) later → next ≡ if on then Some count else None → ComesBehind tells options call index own before now standing later next
  comes_behind later on next goes takes is next_is =
      subst (ComesBehind tells options call index own before now standing later) (sym next_is)
      (comes_by later on takes (sym (end_decides tells (bulk_is_ordered options) standing came later goes takes) ∙ sym is))

  -- it begins within the ops
  within_by : (on : Bool) → index < length own → (on ≡ true → IsCount (drop index own) made.end.statements count) → NextWithin index (length own) (if on then Some count else None)
  within_by true within counted =
      let some = (counted refl).some in
      let few = (counted refl).within in
      (omega (arith, some), omega (arith, few, within, length-drop index own))
  within_by false within counted = tt

  pub next_within : (later : ExecutionStatus R) (on : Bool) (next : Option ℕ) → index < length own → goes_on (bulk_is_ordered options) standing ≡ true → Takes tells standing came (Ok later)
      → on ≡ goes_on (bulk_is_ordered options) later → next ≡ if on then Some count else None → NextWithin index (length own) next
  next_within later on next within goes takes is next_is =
      subst (NextWithin index (length own)) (sym next_is)
      (within_by on within (λ goes_so. made.counted (sym (end_decides tells (bulk_is_ordered options) standing came later goes takes) ∙ sym is ∙ goes_so)))

  -- where the next one is made, what stands may take what comes of that
  stands_by : (later : ExecutionStatus R) (on : Bool) → (on ≡ true → Stands tells later) → IfSome (if on then Some count else None) (λ so_many. Stands tells later)
  stands_by later true stands = stands refl
  stands_by later false stands = tt

  pub stands_behind : (followed : FollowedStands tells) (keeps : KeepsKind tells) (later : ExecutionStatus R) (on : Bool) (next : Option ℕ) → Stands tells standing → Takes tells standing came (Ok later)
      → on ≡ goes_on (bulk_is_ordered options) later → next ≡ if on then Some count else None → IfSome next (λ so_many. Stands tells later)
  stands_behind followed keeps later on next stands takes is next_is =
      subst (λ n. IfSome n (λ so_many. Stands tells later)) (sym next_is)
      (stands_by later on (λ on_is. followed (bulk_is_ordered options) later (sym is ∙ on_is) (kind_behind tells keeps standing came later stands made.of_kind takes)))

  -- and so it goes on
  goes_by : (later : ExecutionStatus R) (on : Bool) → on ≡ goes_on (bulk_is_ordered options) later → IfSome (if on then Some count else None) (λ so_many. goes_on (bulk_is_ordered options) later ≡ true)
  goes_by later true is = sym is
  goes_by later false is = tt

  pub goes_behind : (later : ExecutionStatus R) (on : Bool) (next : Option ℕ) → on ≡ goes_on (bulk_is_ordered options) later → next ≡ if on then Some count else None
      → IfSome next (λ so_many. goes_on (bulk_is_ordered options) later ≡ true)
  goes_behind later on next is next_is = subst (λ n. IfSome n (λ so_many. goes_on (bulk_is_ordered options) later ≡ true)) (sym next_is) (goes_by later on is)

  -- one whose result could not be taken over
  pub stops_refused : (error : Error) (on : Bool) → Takes tells standing came (Err error) → end_goes_on (bulk_is_ordered options) came ≡ on
      → StopsBulk tells options call index (drop index own) before now standing error
  stops_refused error on takes goes =
      let comes : ComesTo tells standing (made.end ∷ []) (Err error) = (Err error, (subst (λ r. Takes tells standing r (Err error)) (sym made.result_is) takes, (refl, refl))) in
      record { ends = made.end ∷ []; makes = last on goes comes; why = inr comes }
    where
      last : (on : Bool) → end_goes_on (bulk_is_ordered options) came ≡ on → ComesTo tells standing (made.end ∷ []) (Err error)
          → MakesAllPlanned ((kind_of error ≡ kind.Memory) ⊎ ComesTo tells standing (made.end ∷ []) (Err error)) (bulk_plan tells options) call index (drop index own) (made.end ∷ []) before now
      last true goes comes = (
        now,
        (
          made.makes,
          inl (record {
            on = ap (end_goes_on (bulk_is_ordered options)) made.result_is ∙ goes;
            statements = count;
            told = (made.counted goes).told;
            rest = (refl, inr (inr comes));
          }),
        ),
      )
      last false goes comes = (now, (made.makes, inr (record { over = ap (end_goes_on (bulk_is_ordered options)) made.result_is ∙ goes; none = refl; same = refl })))

-- memory ran out before a batch was made
pub stops_unmade : {R : Type 0} (tells : ResultSpec R) (options : BulkWriteOptions) (call index : ℕ) (own : List OwnOp) (before now : Moment) (standing : ExecutionStatus R) (error : Error) → now ≡ before
    → kind_of error ≡ kind.Memory → StopsBulk tells options call index own before now standing error
stops_unmade tells options call index own before now standing error same memory = record { ends = []; makes = (same, inr (inl memory)); why = inl memory }
