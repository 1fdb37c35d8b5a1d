-- What stands behind a batch lets the next one be made exactly where the end of that batch does.
use Rattle.std.proofs.Common.{◌≡◌, Bool, true, false, refl, sym, ap, subst, ◌∙◌}
use Rattle.std.proofs.lemmas.Bool.{eqb-true}
use Rattle.std.specs.Prelude.{⊤, ◌==◌, not, ◌||◌, Option, None, Some, Result, Ok, Err}
use Rattle.std.specs.Ordering.{nat_cmp}
use Rattle.std.specs.FinMap as finite
use Rattle.bson_lite.specs.Unions.{union}
use Rattle.bson_lite.proofs.Uniting.{empty_union, union_empty}
use Rattle.driver_error.specs.declared.error.Error.{Error}
use Rattle.driver_error.specs.declared.kind.ErrorKind.TheVariants as kind
use Rattle.bulk_outcomes.specs.declared.status.ExecutionStatus.{ExecutionStatus}
use Rattle.bulk_outcomes.specs.declared.status.ExecutionStatus.TheVariants as status
use Rattle.driver_error.specs.declared.write.BulkWriteError.{BulkWriteError}
use Rattle.driver_error.specs.declared.write.WriteError.{WriteError}
use Rattle.driver_error.specs.BulkErrors.{JoinsLater, failures_in, merged_errors}
use Rattle.bulk_outcomes.specs.BulkResults.{ResultSpec}
use Rattle.driver_error.specs.Error.{ErrorKind, kind_of, source_of}
use Rattle.bulk_outcomes.specs.Status.{FailsAgain, FailsBehind, FailsWith, Succeeds, goes_on, is_followed, is_memory, succeeded_alone}
use Rattle.bulk_actions.specs.BulkBatches.{Takes, end_goes_on}
use Rattle.bulk_actions.specs.inside.BulkBatches.{IsBegun}

-- write errors by their index
abbrev Errors : Type 0
Errors = finite.FinMap nat_cmp WriteError

-- only the write errors matter
same_errors : (ordered : Bool) (one other : BulkWriteError) (source : Option Error) → one.write_errors ≡ other.write_errors
    → is_followed ordered (Some one) source ≡ is_followed ordered (Some other) source
same_errors ordered one other None same = ap (λ (errors : Errors). not ordered || (finite.len errors == 0)) same
same_errors ordered one other (Some source) same = refl

-- behind an error with a source none is made
never_behind : (ordered : Bool) (found : Option BulkWriteError) (source : Option Error) (error : Error) → source ≡ Some error → is_followed ordered found source ≡ false
never_behind ordered (Some failures) source error is = ap (is_followed ordered (Some failures)) is
never_behind ordered None source error is = refl

-- an error is judged by what its kind and its source are
judged : (ordered : Bool) (now : Error) (failures : BulkWriteError) (source : Option Error) → kind_of now ≡ kind.BulkWrite failures → source_of now ≡ source
    → is_followed ordered (failures_in (kind_of now)) (source_of now) ≡ is_followed ordered (Some failures) source
judged ordered now failures source kind_is source_is =
    ap (λ (k : ErrorKind). is_followed ordered (failures_in k) (source_of now)) kind_is ∙ ap (is_followed ordered (Some failures)) source_is

-- where there are none, or none matters
none_or_other : (ordered : Bool) (errors : Errors) → not ordered || (finite.len errors == 0) ≡ true → (more : Errors)
    → not ordered || (finite.len (union errors more) == 0) ≡ not ordered || (finite.len more == 0)
none_or_other false errors on more = refl
none_or_other true errors on more =
    let empty : errors ≡ finite.empty = finite.empty_of_len errors (eqb-true (finite.len errors) 0 on) in
    ap (λ (all : Errors). finite.len all == 0) (ap (λ (e : Errors). union e more) empty ∙ empty_union more)

-- failures without a source that stand and those of a batch behind them
both_followed : (ordered : Bool) (before failures : BulkWriteError) (source : Option Error) → not ordered || (finite.len before.write_errors == 0) ≡ true
    → is_followed ordered (Some (merged_errors before failures)) source ≡ is_followed ordered (Some failures) source
both_followed ordered before failures None on = none_or_other ordered before.write_errors on failures.write_errors
both_followed ordered before failures (Some source) on = refl

-- what lets the next one be made lets its write errors be
lets_errors : (ordered : Bool) (failures : BulkWriteError) (source : Option Error) → is_followed ordered (Some failures) source ≡ true → not ordered || (finite.len failures.write_errors == 0) ≡ true
lets_errors ordered failures None on = on
lets_errors ordered failures (Some source) on = absurd (let e : ◌≡◌ {A = Bool} false true = on in cc)

-- an error that stands took over what succeeded
success_followed : {R : Type 0} (tells : ResultSpec R) (ordered : Bool) (found : R) (mine : Option BulkWriteError) (standing now : Error) → mine ≡ failures_in (kind_of standing)
    → is_followed ordered mine (source_of standing) ≡ true → JoinsLater mine (succeeded_alone (tells.partial found)) standing (Ok now)
    → is_followed ordered (failures_in (kind_of now)) (source_of now) ≡ true
success_followed tells ordered found (Some failures) standing now is on joins =
    judged ordered now (merged_errors failures (succeeded_alone (tells.partial found))) (source_of standing) joins.0.kind_is joins.0.source
    ∙ same_errors ordered (merged_errors failures (succeeded_alone (tells.partial found))) failures (source_of standing) (union_empty failures.write_errors)
    ∙ on
success_followed tells ordered found None standing now is on joins = absurd (let e : ◌≡◌ {A = Bool} false true = on in cc)

-- a batch failed behind what succeeded
behind_followed : {R : Type 0} (tells : ResultSpec R) (ordered : Bool) (before : R) (theirs : Option BulkWriteError) (error now : Error)
    → FailsBehind (succeeded_alone (tells.partial before)) theirs error (Ok now)
    → is_followed ordered (failures_in (kind_of now)) (source_of now) ≡ is_followed ordered theirs (source_of error)
behind_followed tells ordered before (Some failures) error now joins =
    judged ordered now (merged_errors (succeeded_alone (tells.partial before)) failures) (source_of error) joins.0.kind_is joins.0.source
    ∙ same_errors ordered (merged_errors (succeeded_alone (tells.partial before)) failures) failures (source_of error) (empty_union failures.write_errors)
behind_followed tells ordered before None error now made = never_behind ordered (failures_in (kind_of now)) (source_of now) error made.source_is

-- a batch failed behind an error that stands
again_followed : (ordered : Bool) (mine theirs : Option BulkWriteError) (standing error now : Error) → is_followed ordered mine (source_of standing) ≡ true
    → FailsAgain mine standing theirs error (Ok now)
    → is_followed ordered (failures_in (kind_of now)) (source_of now) ≡ is_followed ordered theirs (source_of error)
again_followed ordered (Some before) (Some failures) standing error now on takes =
    judged ordered now (merged_errors before failures) (source_of error) takes.kind_is takes.source_is
    ∙ both_followed ordered before failures (source_of error) (lets_errors ordered before (source_of standing) on)
again_followed ordered (Some before) None standing error now on has = never_behind ordered (failures_in (kind_of now)) (source_of now) error has.source_is
again_followed ordered None theirs standing error now on never = absurd never

-- what an answer that is Ok lets follow is this
abbrev OkFollows : {R : Type 0} → Bool → Bool → Result (ExecutionStatus R) Error → Type 0
OkFollows ordered on (Ok now) = goes_on ordered now ≡ on
OkFollows ordered on (Err refused) = ⊤

-- a batch was answered Ok
after_success : {R : Type 0} (tells : ResultSpec R) (ordered : Bool) (before : ExecutionStatus R) (found : R) (now : ExecutionStatus R)
    → goes_on ordered before ≡ true → Succeeds tells before found (Ok now) → goes_on ordered now ≡ true
after_success tells ordered status.None found now on is = ap (goes_on ordered) is
after_success tells ordered (status.Success before) found now on is = ap (goes_on ordered) is.0
after_success tells ordered (status.Error standing) found (status.Error now) on joins =
    success_followed tells ordered found (failures_in (kind_of standing)) standing now refl on joins
after_success tells ordered (status.Error standing) found (status.Success now) on never = absurd never
after_success tells ordered (status.Error standing) found status.None on never = absurd never

-- a batch failed
after_failure : {R : Type 0} (tells : ResultSpec R) (ordered : Bool) (before : ExecutionStatus R) (memory : Bool) (error : Error) (now : ExecutionStatus R)
    → goes_on ordered before ≡ true → FailsWith tells before memory error (Ok now) → goes_on ordered now ≡ is_followed ordered (failures_in (kind_of error)) (source_of error)
after_failure {R} tells ordered before true error now on is =
    subst (λ (r : Result (ExecutionStatus R) Error). OkFollows ordered (is_followed ordered (failures_in (kind_of error)) (source_of error)) r) (sym is) refl
after_failure {R} tells ordered status.None false error now on is =
    subst (λ (r : Result (ExecutionStatus R) Error). OkFollows ordered (is_followed ordered (failures_in (kind_of error)) (source_of error)) r) (sym is) refl
after_failure tells ordered (status.Success before) false error (status.Error now) on fails =
    behind_followed tells ordered before (failures_in (kind_of error)) error now fails
after_failure tells ordered (status.Success before) false error (status.Success now) on never = absurd never
after_failure tells ordered (status.Success before) false error status.None on never = absurd never
after_failure tells ordered (status.Error standing) false error (status.Error now) on fails =
    again_followed ordered (failures_in (kind_of standing)) (failures_in (kind_of error)) standing error now on fails
after_failure tells ordered (status.Error standing) false error (status.Success now) on never = absurd never
after_failure tells ordered (status.Error standing) false error status.None on never = absurd never

-- what stands behind a batch lets the next one be made exactly where its end does
pub end_decides : {R : Type 0} (tells : ResultSpec R) (ordered : Bool) (before : ExecutionStatus R) (came : Result R Error) (now : ExecutionStatus R)
    → goes_on ordered before ≡ true → Takes tells before came (Ok now) → goes_on ordered now ≡ end_goes_on ordered came
end_decides tells ordered before (Ok found) now on takes = after_success tells ordered before found now on takes
end_decides tells ordered before (Err error) now on takes = after_failure tells ordered before (is_memory (kind_of error)) error now on takes

-- an answer that is Ok is of some batch
abbrev OkIsBegun : {R : Type 0} → Result (ExecutionStatus R) Error → Type 0
OkIsBegun (Ok now) = IsBegun now
OkIsBegun (Err refused) = ⊤

begun_success : {R : Type 0} (tells : ResultSpec R) (before : ExecutionStatus R) (found : R) (now : ExecutionStatus R) → Succeeds tells before found (Ok now) → IsBegun now
begun_success {R} tells status.None found now is = subst (λ (s : ExecutionStatus R). IsBegun s) (sym is) tt
begun_success {R} tells (status.Success before) found now is = subst (λ (s : ExecutionStatus R). IsBegun s) (sym is.0) tt
begun_success tells (status.Error standing) found (status.Error now) joins = tt
begun_success tells (status.Error standing) found (status.Success now) never = tt
begun_success tells (status.Error standing) found status.None never = absurd never

begun_failure : {R : Type 0} (tells : ResultSpec R) (before : ExecutionStatus R) (memory : Bool) (error : Error) (now : ExecutionStatus R)
    → FailsWith tells before memory error (Ok now) → IsBegun now
begun_failure {R} tells before true error now is = subst (λ (r : Result (ExecutionStatus R) Error). OkIsBegun r) (sym is) tt
begun_failure {R} tells status.None false error now is = subst (λ (r : Result (ExecutionStatus R) Error). OkIsBegun r) (sym is) tt
begun_failure tells (status.Success before) false error (status.Error now) fails = tt
begun_failure tells (status.Success before) false error (status.Success now) never = tt
begun_failure tells (status.Success before) false error status.None never = absurd never
begun_failure tells (status.Error standing) false error (status.Error now) fails = tt
begun_failure tells (status.Error standing) false error (status.Success now) never = tt
begun_failure tells (status.Error standing) false error status.None never = absurd never

-- behind a batch something stands
pub begun_behind : {R : Type 0} (tells : ResultSpec R) (before : ExecutionStatus R) (came : Result R Error) (now : ExecutionStatus R) → Takes tells before came (Ok now) → IsBegun now
begun_behind tells before (Ok found) now takes = begun_success tells before found now takes
begun_behind tells before (Err error) now takes = begun_failure tells before (is_memory (kind_of error)) error now takes
