-- The attempts of an operation one after another: what is kept of their failures, and how they end.
use Rattle.std.proofs.Common.{◌≡◌, ℕ, ◌+◌, ◌-◌, ◌<◌, ◌≤◌, List, [], ◌∷◌, refl, sym, ap, subst, ◌∙◌, inl, inr, arith}
use Rattle.std.specs.Prelude.{Bool, true, false, if◌then◌else◌, Option, None, Some, Result, Ok, Err}
use Rattle.std.proofs.lemmas.Bool.{and_parts}
use borrow.Author.Tests.{ltb-false}
use Rattle.driver_error.specs.declared.error.Error.{Error}
use Rattle.driver_error.specs.declared.labels.TheConstants.{RETRYABLE_WRITE_ERROR}
use Rattle.driver_error.specs.Error.{labels_of}
use Rattle.driver_error.specs.LabelTexts.{has_label}
use Rattle.driver_options.specs.declared.concerns.WriteConcern.{WriteConcern}
use Rattle.driver_options.specs.declared.options.Address.{Address}
use Rattle.driver_options.specs.declared.options.ClientOptions.{ClientOptions}
use Rattle.driver_session.specs.declared.retryability.Retryability.{Retryability}
use Rattle.driver_session.specs.declared.retryability.Retryability.TheVariants as may
use Rattle.driver_ops.specs.Operations.{Batch, OperationSpec, SameSpec}
use Rattle.driver_ops.specs.SendKinds.{SendKind}
use Rattle.driver_attempt.specs.declared.attempt_end.AttemptEnd.{AttemptEnd}
use Rattle.driver_attempt.specs.declared.attempt_end.AttemptEnd.TheVariants.{Done, Ended, Failed, Stopped, Unfit, Unselected}
use Rattle.retry_rules.specs.declared.failure.AttemptFailure.{AttemptFailure}
use Rattle.driver_attempt.specs.Attempting.{AttemptState, AttemptedOperation, MakesAttempt, attempted_operation}
use Rattle.driver_attempt.specs.Concerns.{concern_of}
use Rattle.driver_attempt.proofs.CommandParts.{concern_same}
use Rattle.driver_attempt.proofs.Sameness.{attempt_same}
use Rattle.driver_attempt.specs.Executing.{EndsWith, Attempts, limit_reached}
use Rattle.retry_rules.specs.Retry.{Decides, RetryState, after, after_first, after_further, avoiding, decide, decide_reworded, may_be_retried, may_be_sent, one_more, reworded_failure}
use Rattle.driver_attempt.specs.inside.Executing.{FailureOf, IsLastError, MayAnswer, Reaches}
use Rattle.driver_attempt.proofs.RetryFold.{attempts_of}

-- an attempt that did not fail is its end
end_is : {A : Type 0} (attempt end : AttemptEnd A) → FailureOf attempt (Err end) → end ≡ attempt
end_is {A} (Failed failure) end is = absurd (let e : ◌≡◌ {A = Result AttemptFailure (AttemptEnd A)} (Err end) (Ok failure) = is in cc)
end_is (Done output) end is = cc is
end_is (Unselected error) end is = cc is
end_is Stopped end is = cc is
end_is Unfit end is = cc is
end_is (Ended error) end is = cc is

-- and one that failed has that failure
pub failed_is : {A : Type 0} (attempt : AttemptEnd A) (failure : AttemptFailure) → FailureOf attempt (Ok failure) → attempt ≡ Failed failure
failed_is {A} (Failed found) failure is = let same : failure ≡ found = cc is in ap (λ f. Failed f) (sym same)
failed_is {A} (Done output) failure is = absurd (let e : ◌≡◌ {A = Result AttemptFailure (AttemptEnd A)} (Ok failure) (Err (Done output)) = is in cc)
failed_is {A} (Unselected error) failure is = absurd (let e : ◌≡◌ {A = Result AttemptFailure (AttemptEnd A)} (Ok failure) (Err (Unselected error)) = is in cc)
failed_is {A} Stopped failure is = absurd (let e : ◌≡◌ {A = Result AttemptFailure (AttemptEnd A)} (Ok failure) (Err Stopped) = is in cc)
failed_is {A} Unfit failure is = absurd (let e : ◌≡◌ {A = Result AttemptFailure (AttemptEnd A)} (Ok failure) (Err Unfit) = is in cc)
failed_is {A} (Ended error) failure is = absurd (let e : ◌≡◌ {A = Result AttemptFailure (AttemptEnd A)} (Ok failure) (Err (Ended error)) = is in cc)

-- it may be answered
pub may_answer : {A : Type 0} (op : AttemptedOperation A) (kept : Option RetryState) (mid now : AttemptState) (attempt end : AttemptEnd A) → MakesAttempt op kept mid now attempt → FailureOf attempt (Err end)
    → MayAnswer kept end
may_answer {A} op kept mid now attempt end makes is = subst (MayAnswer kept) (sym (end_is attempt end is)) (by_end attempt makes is)
  where
    by_end : (attempt : AttemptEnd A) → MakesAttempt op kept mid now attempt → FailureOf attempt (Err end) → MayAnswer kept attempt
    by_end (Failed failure) makes is = absurd (let e : ◌≡◌ {A = Result AttemptFailure (AttemptEnd A)} (Err end) (Ok failure) = is in cc)
    by_end (Done output) makes is = tt
    by_end (Unselected error) makes is = tt
    by_end Stopped makes is = makes.0
    by_end Unfit makes is = makes.0
    by_end (Ended error) makes is = tt

module _ {A : Type 0} (op : AttemptedOperation A) (sharded : Bool) (before : AttemptState) where
  -- an operation has come so far, and keeps this
  pub record SoFar (kept : Option RetryState) (now : AttemptState) : Type 0 where
    pub failures : List AttemptFailure
    pub reaches : Reaches op sharded before failures kept now

  pub begins : SoFar None before
  begins = record { failures = []; reaches = (refl, refl) }

  module _ (kept : Option RetryState) (mid : AttemptState) (far : SoFar kept mid) where
    -- the limit is reached
    pub ends_at_limit : (error : Error) → limit_reached kept ≡ true → IsLastError kept error → Attempts op sharded before mid (Err error)
    ends_at_limit error reached last = by_kept kept far reached last
      where
        by_kept : (kept : Option RetryState) → SoFar kept mid → limit_reached kept ≡ true → IsLastError kept error → Attempts op sharded before mid (Err error)
        by_kept None far reached last = absurd last
        by_kept (Some retry) far reached last =
            attempts_of op sharded before far.failures (Some retry) mid mid (Err error) far.reaches
            (inr (inl (record { retry = retry; is = refl; reached = reached; same = refl; result_is = ap (λ e. Err e) last })))

    module _ (now : AttemptState) (goes_on : limit_reached kept ≡ false) where
      -- the last attempt did not fail
      pub ends_last : (attempt end : AttemptEnd A) (result : Result A Error) → MakesAttempt op kept mid now attempt → FailureOf attempt (Err end) → EndsWith kept end result
          → Attempts op sharded before now result
      ends_last attempt end result makes is ends =
          attempts_of op sharded before far.failures kept mid now result far.reaches
          (inl (record { goes_on = goes_on; attempt = attempt; makes = makes; ends = subst (λ e. EndsWith kept e result) (end_is attempt end is) ends }))

      -- the decision allows no further attempt
      pub ends_refused : (failure : AttemptFailure) (error : Error) → MakesAttempt op kept mid now (Failed failure) → Decides (decide kept failure op.retryability sharded) (Err error)
          → Attempts op sharded before now (Err error)
      ends_refused failure error makes decides =
          attempts_of op sharded before far.failures kept mid now (Err error) far.reaches
          (inr (inr (record { goes_on = goes_on; failure = failure; makes = makes; error = error; result_is = refl; refused = decides })))

      -- it allows one
      pub goes_further : (failure : AttemptFailure) (retry : RetryState) → MakesAttempt op kept mid now (Failed failure) → Decides (decide kept failure op.retryability sharded) (Ok retry)
          → SoFar (Some retry) now
      goes_further failure retry makes decides = record {
        failures = failure ∷ far.failures;
        reaches = (retry, (refl, (mid, (kept, (far.reaches, record { goes_on = goes_on; makes = makes; decides = decides })))));
      }

-- one attempt, of the operation as it was
attempt_as_it_was : {A : Type 0} (old now : OperationSpec A) (same : SameSpec old now) (batch : Batch) (which seen_kind : SendKind) (found retryability : Retryability) (found_concern concern : Option WriteConcern) (seen past : Option RetryState)
    (before after : AttemptState) (given attempt : AttemptEnd A) → seen_kind ≡ which → found ≡ retryability → found_concern ≡ concern → seen ≡ past → given ≡ attempt
    → MakesAttempt (attempted_operation now batch seen_kind found found_concern) seen before after given → MakesAttempt (attempted_operation old batch which retryability concern) past before after attempt
attempt_as_it_was old now same batch which seen_kind found retryability found_concern concern seen past before after given attempt is_kind is_retryability is_concern is_again is_attempt makes =
    attempt_same old now same batch which retryability concern past before after attempt
    (subst (λ a. MakesAttempt (attempted_operation now batch which retryability concern) past before after a) is_attempt
    (subst (λ b. MakesAttempt (attempted_operation now batch which retryability concern) b before after given) is_again
    (subst (λ c. MakesAttempt (attempted_operation now batch which retryability c) seen before after given) is_concern
    (subst (λ o. MakesAttempt (attempted_operation now batch which o found_concern) seen before after given) is_retryability
    (subst (λ k. MakesAttempt (attempted_operation now batch k found found_concern) seen before after given) is_kind makes)))))

-- an operation, with what its client's options let it repeat, and with the write concern that it goes out with under them
abbrev pub attempted_under : {A : Type 0} → OperationSpec A → Batch → SendKind → ClientOptions → AttemptedOperation A
attempted_under spec batch which options = attempted_operation spec batch which (spec.retryability options) (concern_of spec which options)

-- one attempt, of the operation as it was, under the options as they were
pub attempt_under_options : {A : Type 0} (old now : OperationSpec A) (same : SameSpec old now) (batch : Batch) (which seen_kind : SendKind) (options seen_options : ClientOptions) (seen past : Option RetryState)
    (before after : AttemptState) (given attempt : AttemptEnd A) → seen_kind ≡ which → seen_options ≡ options → seen ≡ past → given ≡ attempt
    → MakesAttempt (attempted_under now batch seen_kind seen_options) seen before after given → MakesAttempt (attempted_under old batch which options) past before after attempt
attempt_under_options old now same batch which seen_kind options seen_options seen past before after given attempt is_kind is_options is_again is_attempt makes =
    let is_retryability : now.retryability seen_options ≡ old.retryability options = same.retryability seen_options ∙ ap (λ o. old.retryability o) is_options in
    let is_concern : concern_of now seen_kind seen_options ≡ concern_of old which options = ap (λ o. concern_of now seen_kind o) is_options ∙ concern_same old now same which seen_kind options is_kind in
    attempt_as_it_was old now same batch which seen_kind (now.retryability seen_options) (old.retryability options) (concern_of now seen_kind seen_options) (concern_of old which options) seen past before after given attempt
    is_kind is_retryability is_concern is_again is_attempt makes

-- an operation tells what it tells
pub same_spec : {A : Type 0} (spec : OperationSpec A) → SameSpec spec spec
same_spec spec = record {
  name = refl;
  target = refl;
  commands = λ which statements command. (λ x. x, λ x. x);
  bodies = λ statements places body. (λ x. x, λ x. x);
  takes = λ fixed description statements. (λ x. x, λ x. x);
  refused = λ fixed description error. (λ x. x, λ x. x);
  write_concern = λ which. refl;
  read_concern = refl;
  selection_criteria = λ which. refl;
  sessions = refl;
  retryability = λ options. refl;
  backpressure = λ options. refl;
  after_cluster_time = refl;
  paged = refl;
  reads = λ statements pages result. (λ x. x, λ x. x);
  output = λ entries output. (λ x. x, λ x. x);
}

-- an operation that tells the same twice
pub same_twice : {A : Type 0} (a b c : OperationSpec A) → SameSpec a b → SameSpec b c → SameSpec a c
same_twice a b c first second = record {
  name = second.name ∙ first.name;
  target = second.target ∙ first.target;
  commands = λ which statements command. (
    λ x. (second.commands which statements command).0 ((first.commands which statements command).0 x),
    λ x. (first.commands which statements command).1 ((second.commands which statements command).1 x),
  );
  bodies = λ statements places body. (
    λ x. (second.bodies statements places body).0 ((first.bodies statements places body).0 x),
    λ x. (first.bodies statements places body).1 ((second.bodies statements places body).1 x),
  );
  takes = λ fixed description statements. (
    λ x. (second.takes fixed description statements).0 ((first.takes fixed description statements).0 x),
    λ x. (first.takes fixed description statements).1 ((second.takes fixed description statements).1 x),
  );
  refused = λ fixed description error. (
    λ x. (second.refused fixed description error).0 ((first.refused fixed description error).0 x),
    λ x. (first.refused fixed description error).1 ((second.refused fixed description error).1 x),
  );
  write_concern = λ which. second.write_concern which ∙ first.write_concern which;
  read_concern = second.read_concern ∙ first.read_concern;
  selection_criteria = λ which. second.selection_criteria which ∙ first.selection_criteria which;
  sessions = second.sessions ∙ first.sessions;
  retryability = λ options. second.retryability options ∙ first.retryability options;
  backpressure = λ options. second.backpressure options ∙ first.backpressure options;
  after_cluster_time = second.after_cluster_time ∙ first.after_cluster_time;
  paged = second.paged ∙ first.paged;
  reads = λ statements pages result. (
    λ x. (second.reads statements pages result).0 ((first.reads statements pages result).0 x),
    λ x. (first.reads statements pages result).1 ((second.reads statements pages result).1 x),
  );
  output = λ entries output. (
    λ x. (second.output entries output).0 ((first.output entries output).0 x),
    λ x. (first.output entries output).1 ((second.output entries output).1 x),
  );
}

-- there is one retry
abbrev pub AtMostOne : Option RetryState → Type 0
AtMostOne None = Unit {0}
AtMostOne (Some kept) = (kept.limit ≡ 1) × (0 < kept.attempt)

-- how many attempts are left
abbrev pub attempts_left : Option RetryState → ℕ
attempts_left None = 2
attempts_left (Some kept) = kept.limit + 1 - kept.attempt

-- a decision that allows a further attempt leaves one fewer
pub record LeavesFewer (kept : Option RetryState) (retry : RetryState) : Type 0 where
  pub once : AtMostOne (Some retry)
  pub fewer : attempts_left (Some retry) < attempts_left kept

pub avoids : (sharded : Bool) (address : Address) (kept : RetryState) → ((avoiding sharded address kept).attempt ≡ kept.attempt) × ((avoiding sharded address kept).limit ≡ kept.limit)
unfolding avoiding
avoids true address kept = (refl, refl)
avoids false address kept = (refl, refl)

module _ (failure : AttemptFailure) (retryability : Retryability) (sharded : Bool) where
  leaves : (kept : Option RetryState) (retry : RetryState) → AtMostOne kept → limit_reached kept ≡ false → avoiding sharded failure.address (after kept failure) ≡ retry → LeavesFewer kept retry
  unfolding after after_further
  leaves None retry once goes_on is =
      let kept = after_first failure in
      let attempt : retry.attempt ≡ 1 = sym (ap (λ k. k.attempt) is) ∙ (avoids sharded failure.address kept).0 in
      let limit : retry.limit ≡ 1 = sym (ap (λ k. k.limit) is) ∙ (avoids sharded failure.address kept).1 in
      record { once = (limit, omega arith); fewer = omega arith }
  leaves (Some kept) retry once goes_on is =
      let more = after_further kept failure in
      let attempt : retry.attempt ≡ one_more kept.attempt = sym (ap (λ k. k.attempt) is) ∙ (avoids sharded failure.address more).0 in
      let limit : retry.limit ≡ kept.limit = sym (ap (λ k. k.limit) is) ∙ (avoids sharded failure.address more).1 in
      let within : kept.attempt ≤ kept.limit = omega (arith, ltb-false) in
      record { once = (limit ∙ once.0, omega arith); fewer = omega arith }

  reworded_fewer : (kept : Option RetryState) (retry : RetryState) → AtMostOne kept → limit_reached kept ≡ false → decide_reworded kept failure retryability sharded ≡ Ok retry
      → LeavesFewer kept retry
  reworded_fewer kept retry once goes_on is = by_test (may_be_retried failure retryability) is
    where
      by_test : (may : Bool) → (if may then Ok (avoiding sharded failure.address (after kept failure)) else Err (after kept failure).failure.error) ≡ Ok retry
          → LeavesFewer kept retry
      by_test true is = leaves kept retry once goes_on (let e : avoiding sharded failure.address (after kept failure) ≡ retry = cc in e)
      by_test false is = absurd (let e : ◌≡◌ {A = Result RetryState Error} (Err (after kept failure).failure.error) (Ok retry) = is in cc)

pub decided_fewer : (failure : AttemptFailure) (retryability : Retryability) (sharded : Bool) (kept : Option RetryState) (retry : RetryState)
    → AtMostOne kept → limit_reached kept ≡ false → decide kept failure retryability sharded ≡ Ok retry → LeavesFewer kept retry
unfolding decide
decided_fewer failure retryability sharded kept retry once goes_on is = reworded_fewer (reworded_failure failure) retryability sharded kept retry once goes_on is

-- a failure that may be followed by another attempt may be sent
retried_sent : (failure : AttemptFailure) (retryability : Retryability) → may_be_retried failure retryability ≡ true → may_be_sent failure.phase failure.number ≡ true
unfolding may_be_retried
retried_sent failure may.Write is = (and_parts (has_label (labels_of failure.error) RETRYABLE_WRITE_ERROR.now) (may_be_sent failure.phase failure.number) is).1
retried_sent failure may.Read is = absurd (let e : false ≡ true = is in cc)
retried_sent failure may.None is = absurd (let e : false ≡ true = is in cc)

-- so where the decision allows one
pub decided_sent : (kept : Option RetryState) (failure : AttemptFailure) (retryability : Retryability) (sharded : Bool) (retry : RetryState)
    → decide kept failure retryability sharded ≡ Ok retry → may_be_sent failure.phase failure.number ≡ true
unfolding decide
decided_sent kept failure retryability sharded retry is = by_test (may_be_retried (reworded_failure failure) retryability) refl is
  where
    by_test : (may : Bool) → may_be_retried (reworded_failure failure) retryability ≡ may
        → (if may then Ok (avoiding sharded failure.address (after kept (reworded_failure failure))) else Err (after kept (reworded_failure failure)).failure.error) ≡ Ok retry
        → may_be_sent failure.phase failure.number ≡ true
    by_test true test is = retried_sent (reworded_failure failure) retryability test
    by_test false test is = absurd (let e : ◌≡◌ {A = Result RetryState Error} (Err (after kept (reworded_failure failure)).failure.error) (Ok retry) = is in cc)

-- one is left where the limit is not reached
pub one_left : (kept : Option RetryState) → AtMostOne kept → limit_reached kept ≡ false → 0 < attempts_left kept
one_left None once goes_on = omega arith
one_left (Some kept) once goes_on = let within : kept.attempt ≤ kept.limit = omega (arith, ltb-false) in omega (arith, once.0)
