-- What is taken of the results of a bulk write, result by result, and what the write errors among them say.
use Rattle.std.proofs.Common.{◌≡◌, ℕ, zero, suc, ◌+◌, ◌<◌, ◌==◌, Bool, true, false, not, cond, ◌&&◌, ◌||◌, nat_lt, List, [], ◌∷◌, ◌++◌, length, get_or, arith, refl, sym, ap, subst, ◌∙◌, eqb-true, eq-eqb, ne_eqb, ltb-true}
use Rattle.std.specs.Prelude.{Option, None, Some, is_none, is_some, slice_get, OnOk, Result, Ok, Err, if◌then◌else◌}
use Rattle.std.specs.Cmp.{nat_cmp_total, unsigned_ties}
use Rattle.std.specs.FinMap as finite
use Rattle.std.specs.List.{list_all, list_any}
use Rattle.std.specs.Ordering.{eq_by_cmp, nat_cmp}
use Rattle.std.proofs.lemmas.Bool.{and_parts}
use Rattle.std.proofs.lemmas.Option.{slice_get-get_or}
use Rattle.bson_lite.specs.declared.bson.Bson.{Bson}
use Rattle.driver_error.specs.declared.error.Error.{Error}
use Rattle.driver_error.specs.declared.write.WriteError.{WriteError}
use Rattle.driver_ops.specs.declared.operation.Reading.TheVariants.{Done}
use Rattle.bulk_ops.specs.declared.bulk_reply.OpOutcome.{OpOutcome}
use Rattle.bulk_ops.specs.declared.bulk_reply.OpOutcome.TheVariants as came
use Rattle.bulk_ops.specs.declared.bulk_reply.OpResult.{OpResult}
use Rattle.bulk_ops.specs.declared.bulk_results.BulkProgress.{BulkProgress}
use Rattle.bulk_fronts.specs.declared.own_op.OwnOp.{OwnOp}
use Rattle.bulk_ops.specs.BulkAnswers.{BulkBatch, BulkRead, EndsBulk, IsReadError, are_none, is_clean, is_first, stands_partial, with_error, with_errors, with_op, with_outcome, with_results, with_work}
use Rattle.bulk_ops.specs.BulkRules.{are_within, failed_indexes, has_failed_outcome, is_failure, with_failed}
use Rattle.bulk_ops.specs.inside.BulkResults.{IsTaken, TakesResults}

-- write errors by their indexes
abbrev Errors : Type 0
Errors = finite.FinMap nat_cmp WriteError

-- what comes of one result
module _ {R : Type 0} (batch : BulkBatch R) (old now : BulkProgress R) (index : ℕ) where
  -- of an op that failed
  pub takes_failed : (error : WriteError) → now ≡ record old { write_errors = finite.insert old.write_errors (batch.first + index) error }
      → TakesResults batch old now (record { index = index; outcome = came.Failed error } ∷ [])
  unfolding with_results with_errors
  takes_failed error is = record {
    result = ap (λ (p : BulkProgress R). p.result) is;
    write_errors = ap (λ (p : BulkProgress R). p.write_errors) is;
    rest = is ∙ ap (λ (errors : Errors). record old { write_errors = errors }) (sym (ap (λ (p : BulkProgress R). p.write_errors) is))
        ∙ ap (λ (result : R). record old { result = result; write_errors = now.write_errors }) (sym (ap (λ (p : BulkProgress R). p.result) is));
  }

  -- of one that did not, where counts alone are kept
  pub takes_passed : (found changed : ℕ) (upserted : Option Bson) → batch.tells.only_errors ≡ true → now ≡ old
      → TakesResults batch old now (record { index = index; outcome = came.Counted found changed upserted } ∷ [])
  unfolding with_results with_errors
  takes_passed found changed upserted only is = record {
    result =
        ap (λ (p : BulkProgress R). p.result) is
        ∙ sym (ap (λ (b : Bool). if b then old.result else with_op batch.tells (slice_get batch.ops index) (batch.first + index) found changed upserted old.result) only);
    write_errors = ap (λ (p : BulkProgress R). p.write_errors) is;
    rest = is ∙ ap (λ (errors : Errors). record old { write_errors = errors }) (sym (ap (λ (p : BulkProgress R). p.write_errors) is))
        ∙ ap (λ (result : R). record old { result = result; write_errors = now.write_errors }) (sym (ap (λ (p : BulkProgress R). p.result) is));
  }

  -- and where results are kept
  pub takes_counted : (own : OwnOp) (found changed : ℕ) (upserted : Option Bson) → batch.tells.only_errors ≡ false → slice_get batch.ops index ≡ Some own
      → now ≡ record old { result = with_work batch.tells own.work (batch.first + index) found changed upserted old.result }
      → TakesResults batch old now (record { index = index; outcome = came.Counted found changed upserted } ∷ [])
  unfolding with_results with_errors
  takes_counted own found changed upserted keeps there is =
      let outcome : with_outcome batch index (came.Counted found changed upserted) old.result ≡ with_work batch.tells own.work (batch.first + index) found changed upserted old.result
      = ap (λ (b : Bool). if b then old.result else with_op batch.tells (slice_get batch.ops index) (batch.first + index) found changed upserted old.result) keeps
      ∙ ap (λ (one : Option OwnOp). with_op batch.tells one (batch.first + index) found changed upserted old.result) there in
      record {
        result = ap (λ (p : BulkProgress R). p.result) is ∙ sym outcome;
        write_errors = ap (λ (p : BulkProgress R). p.write_errors) is;
        rest = is ∙ ap (λ (errors : Errors). record old { result = with_work batch.tells own.work (batch.first + index) found changed upserted old.result; write_errors = errors }) (sym (ap (λ (p : BulkProgress R). p.write_errors) is))
            ∙ ap (λ (result : R). record old { result = result; write_errors = now.write_errors }) (sym (ap (λ (p : BulkProgress R). p.result) is));
      }

-- the results that are left, in the drop form
pub record TakesLeft {R : Type 0} (batch : BulkBatch R) (old now : BulkProgress R) (left all : List OpResult) : Type 0 where
  pub result : with_results batch left now.result ≡ with_results batch all old.result
  pub write_errors : with_errors batch.first left now.write_errors ≡ with_errors batch.first all old.write_errors
  pub rest : now ≡ record old { result = now.result; write_errors = now.write_errors }
  pub within : are_within (length batch.ops) left ≡ true

pub left_whole : {R : Type 0} (batch : BulkBatch R) (old : BulkProgress R) (all : List OpResult) → are_within (length batch.ops) all ≡ true → TakesLeft batch old old all all
left_whole batch old all within = record { result = refl; write_errors = refl; rest = refl; within = within }

pub left_next : {R : Type 0} (batch : BulkBatch R) (old mid now : BulkProgress R) (told : OpResult) (left before all : List OpResult) → before ≡ told ∷ left → TakesLeft batch old mid before all
    → TakesResults batch mid now (told ∷ []) → TakesLeft batch old now left all
unfolding with_results with_errors
left_next {R = R} batch old mid now told left before all is so_far takes =
    let whole = subst (λ (list : List OpResult). TakesLeft batch old mid list all) is so_far in
    record {
      result = ap (with_results batch left) takes.result ∙ whole.result;
      write_errors = ap (with_errors batch.first left) takes.write_errors ∙ whole.write_errors;
      rest = takes.rest ∙ ap (λ (p : BulkProgress R). record p { result = now.result; write_errors = now.write_errors }) whole.rest;
      within = (and_parts (nat_lt told.index (length batch.ops)) (are_within (length batch.ops) left) whole.within).1;
    }

pub left_below : {R : Type 0} (batch : BulkBatch R) (old mid : BulkProgress R) (told : OpResult) (left before all : List OpResult) → before ≡ told ∷ left → TakesLeft batch old mid before all
    → told.index < length batch.ops
left_below batch old mid told left before all is so_far =
    let whole = subst (λ (list : List OpResult). TakesLeft batch old mid list all) is so_far in
    ltb-true told.index (length batch.ops) (and_parts (nat_lt told.index (length batch.ops)) (are_within (length batch.ops) left) whole.within).0

pub left_nothing : {R : Type 0} (batch : BulkBatch R) (old now : BulkProgress R) (left all : List OpResult) → length left ≡ 0 → TakesLeft batch old now left all → TakesResults batch old now all
unfolding with_results with_errors
left_nothing batch old now [] all none so_far = record { result = so_far.result; write_errors = so_far.write_errors; rest = so_far.rest }
left_nothing batch old now (told ∷ left) all none so_far = absurd (omega (arith, none))

-- a write error stands under a key where one did, or an op failed whose index that is
module _ (first key : ℕ) where
  abbrev is_at_key : ℕ → Bool
  is_at_key index = first + index == key

  inserted_at : (errors : Errors) (index : ℕ) (error : WriteError) → is_some (finite.get (finite.insert errors (first + index) error) key) ≡ (is_at_key index || is_some (finite.get errors key))
  inserted_at errors index error =
      ap (λ (found : Option WriteError). is_some found) (finite.get-insert nat_cmp_total errors (first + index) error key)
      ∙ by_same (first + index == key) refl
    where
      eq_back : (b : Bool) → (first + index == key) ≡ b → (key == first + index) ≡ b
      eq_back true is = eq-eqb key (first + index) (sym (eqb-true (first + index) key is))
      eq_back false is = ne_eqb key (first + index) (λ same. let e : ◌≡◌ {A = Bool} true false = sym (eq-eqb (first + index) key (sym same)) ∙ is in cc)

      by_same : (b : Bool) → (first + index == key) ≡ b
          → is_some (cond (eq_by_cmp nat_cmp key (first + index)) (Some error) (finite.get errors key)) ≡ (b || is_some (finite.get errors key))
      by_same true is = ap (λ (t : Bool). is_some (cond t (Some error) (finite.get errors key))) (sym (unsigned_ties key (first + index)) ∙ eq_back true is)
      by_same false is = ap (λ (t : Bool). is_some (cond t (Some error) (finite.get errors key))) (sym (unsigned_ties key (first + index)) ∙ eq_back false is)

  or_swap : (a b c : Bool) → ((a || b) || c) ≡ (b || (a || c))
  or_swap true true c = refl
  or_swap true false c = refl
  or_swap false true c = refl
  or_swap false false c = refl

  found_at : (results : List OpResult) (errors : Errors) → is_some (finite.get (with_errors first results errors) key) ≡ (is_some (finite.get errors key) || list_any is_at_key (failed_indexes results))
  unfolding with_errors failed_indexes
  found_at [] errors = sym (or_nothing (is_some (finite.get errors key)))
    where
      or_nothing : (a : Bool) → (a || false) ≡ a
      or_nothing true = refl
      or_nothing false = refl
  found_at (told ∷ results) errors = found_at results (with_error (first + told.index) told.outcome errors) ∙ by_outcome told.outcome refl
    where
      by_outcome : (outcome : OpOutcome) → told.outcome ≡ outcome
          → (is_some (finite.get (with_error (first + told.index) outcome errors) key) || list_any is_at_key (failed_indexes results))
          ≡ (is_some (finite.get errors key) || list_any is_at_key (cond (has_failed_outcome outcome) (told.index ∷ failed_indexes results) (failed_indexes results)))
      by_outcome (came.Failed error) at =
          ap (λ (b : Bool). b || list_any is_at_key (failed_indexes results)) (inserted_at errors told.index error)
          ∙ or_swap (is_at_key told.index) (is_some (finite.get errors key)) (list_any is_at_key (failed_indexes results))
      by_outcome (came.Counted found changed upserted) at = refl

-- no write error is there where no op failed
none_failed : (first : ℕ) (results : List OpResult) (errors : Errors) → are_none (failed_indexes results) ≡ true → with_errors first results errors ≡ errors
unfolding with_errors failed_indexes
none_failed first [] errors none = refl
none_failed first (told ∷ results) errors none = by_outcome told.outcome refl (none_failed first results errors) none
  where
    by_outcome : (outcome : OpOutcome) → told.outcome ≡ outcome → (are_none (failed_indexes results) ≡ true → with_errors first results errors ≡ errors)
        → are_none (cond (has_failed_outcome outcome) (told.index ∷ failed_indexes results) (failed_indexes results)) ≡ true
        → with_errors first results (with_error (first + told.index) outcome errors) ≡ errors
    by_outcome (came.Failed error) at rest none = absurd (let e : ◌≡◌ {A = Bool} false true = none in cc)
    by_outcome (came.Counted found changed upserted) at rest none = rest none

-- some op failed: then there is one
some_there : (first : ℕ) (results : List OpResult) (index : ℕ) (failed : List ℕ) → failed_indexes results ≡ index ∷ failed → finite.len (with_errors first results finite.empty) ≡ 0 → ⊥
some_there first results index failed is none =
    let empty : with_errors first results finite.empty ≡ finite.empty = finite.empty_of_len (with_errors first results finite.empty) none in
    let key = first + index in
    let there : is_some (finite.get (with_errors first results finite.empty) key) ≡ true
    = found_at first key results finite.empty
    ∙ ap (λ (found : Option WriteError). is_some found || list_any (is_at_key first key) (failed_indexes results)) (finite.get-empty nat_cmp key)
    ∙ ap (list_any (is_at_key first key)) is ∙ ap (λ (b : Bool). b || list_any (is_at_key first key) failed) (eq-eqb (first + index) key refl) in
    let nothing : is_some (finite.get (with_errors first results finite.empty) key) ≡ false
    = ap (λ (map : Errors). is_some (finite.get map key)) empty ∙ ap (λ (found : Option WriteError). is_some found) (finite.get-empty nat_cmp key) in
    let e : ◌≡◌ {A = Bool} true false = sym there ∙ nothing in cc

-- as many write errors as none exactly where no op failed
pub no_errors : (first : ℕ) (results : List OpResult) → (finite.len (with_errors first results finite.empty) == 0) ≡ are_none (failed_indexes results)
no_errors first results = by_failed (failed_indexes results) refl
  where
    by_failed : (failed : List ℕ) → failed_indexes results ≡ failed → (finite.len (with_errors first results finite.empty) == 0) ≡ are_none failed
    by_failed [] is =
        eq-eqb (finite.len (with_errors first results finite.empty)) 0
        (ap (λ (map : Errors). finite.len map) (none_failed first results finite.empty (ap are_none is)) ∙ finite.len-empty nat_cmp WriteError)
    by_failed (index ∷ failed) is = ne_eqb (finite.len (with_errors first results finite.empty)) 0 (some_there first results index failed is)

-- none stands under the first index exactly where the first op did not fail
first_is : (first : ℕ) (indexes : List ℕ) → list_any (is_at_key first first) indexes ≡ list_any is_first indexes
first_is first [] = refl
first_is first (index ∷ indexes) = ap (λ (b : Bool). b || list_any (is_at_key first first) indexes) (by_zero (index == 0) refl) ∙ ap (λ (b : Bool). is_first index || b) (first_is first indexes)
  where
    by_zero : (b : Bool) → (index == 0) ≡ b → (first + index == first) ≡ b
    by_zero true is = (let none = eqb-true index 0 is in eq-eqb (first + index) first (omega (arith, none)))
    by_zero false is = ne_eqb (first + index) first (λ same. (let none : index ≡ 0 = omega (arith, same) in let e : ◌≡◌ {A = Bool} true false = sym (eq-eqb index 0 none) ∙ is in cc))

pub first_failed : (first : ℕ) (results : List OpResult) → is_none (finite.get (with_errors first results finite.empty) first) ≡ not (list_any is_first (failed_indexes results))
first_failed first results =
    none_not (finite.get (with_errors first results finite.empty) first)
    ∙ ap not (found_at first first results finite.empty
    ∙ ap (λ (found : Option WriteError). is_some found || list_any (is_at_key first first) (failed_indexes results)) (finite.get-empty nat_cmp first)
    ∙ first_is first (failed_indexes results))
  where
    none_not : (found : Option WriteError) → is_none found ≡ not (is_some found)
    none_not None = refl
    none_not (Some error) = refl

-- an op at an index of the batch
pub takes_counted_at : {R : Type 0} (batch : BulkBatch R) (old now : BulkProgress R) (index : ℕ) (own : OwnOp) (found changed : ℕ) (upserted : Option Bson) → batch.tells.only_errors ≡ false
    → index < length batch.ops → own ≡ get_or batch.ops index own → now ≡ record old { result = with_work batch.tells own.work (batch.first + index) found changed upserted old.result }
    → TakesResults batch old now (record { index = index; outcome = came.Counted found changed upserted } ∷ [])
takes_counted_at batch old now index own found changed upserted keeps below read is =
    takes_counted batch old now index own found changed upserted keeps (slice_get-get_or batch.ops index own below ∙ ap (λ (one : OwnOp). Some one) (sym read)) is

-- the same of a result by what became of its op
module _ {R : Type 0} (batch : BulkBatch R) (old now : BulkProgress R) (told : OpResult) where
  pub told_failed : (error : WriteError) → told.outcome ≡ came.Failed error → now ≡ record old { write_errors = finite.insert old.write_errors (batch.first + told.index) error }
      → TakesResults batch old now (told ∷ [])
  told_failed error outcome is =
      subst (λ (o : OpOutcome). TakesResults batch old now (record { index = told.index; outcome = o } ∷ [])) (sym outcome) (takes_failed batch old now told.index error is)

  pub told_passed : (found changed : ℕ) (upserted : Option Bson) → told.outcome ≡ came.Counted found changed upserted → batch.tells.only_errors ≡ true → now ≡ old
      → TakesResults batch old now (told ∷ [])
  told_passed found changed upserted outcome only is =
      subst (λ (o : OpOutcome). TakesResults batch old now (record { index = told.index; outcome = o } ∷ [])) (sym outcome) (takes_passed batch old now told.index found changed upserted only is)

  pub told_counted : {T : Type 0} (given : OwnOp) (found changed : ℕ) (upserted : Option Bson) (result : Result T Error) → told.outcome ≡ came.Counted found changed upserted
      → batch.tells.only_errors ≡ false → told.index < length batch.ops
      → OnOk result (now ≡ record old { result = with_work batch.tells (get_or batch.ops told.index given).work (batch.first + told.index) found changed upserted old.result })
      → OnOk result (TakesResults batch old now (told ∷ []))
  told_counted given found changed upserted (Ok done) outcome keeps below is =
      subst (λ (o : OpOutcome). TakesResults batch old now (record { index = told.index; outcome = o } ∷ [])) (sym outcome)
      (takes_counted batch old now told.index (get_or batch.ops told.index given) found changed upserted keeps (slice_get-get_or batch.ops told.index given below) is)
  told_counted given found changed upserted (Err error) outcome keeps below is = tt

module _ {R : Type 0} (batch : BulkBatch R) (read : BulkRead) (progress : BulkProgress R) (taken : IsTaken batch read progress) where
  -- nothing failed, by what is kept
  clean_is : ((finite.len progress.write_errors == 0) && is_none progress.concern) ≡ is_clean read
  clean_is =
      ap (λ (errors : Errors). (finite.len errors == 0) && is_none progress.concern) taken.write_errors
      ∙ ap (λ (b : Bool). b && is_none progress.concern) (no_errors batch.first read.results)
      ∙ ap (λ concern. are_none (failed_indexes read.results) && is_none concern) taken.concern

  pub ends_done : ((finite.len progress.write_errors == 0) && is_none progress.concern) ≡ true → EndsBulk batch read (Ok (Done progress.result))
  ends_done clean = (sym clean_is ∙ clean, taken.result)

  pub ends_failed : (error : Error) → ((finite.len progress.write_errors == 0) && is_none progress.concern) ≡ false → IsReadError batch read error → EndsBulk batch read (Err error)
  ends_failed error clean is = (sym clean_is ∙ clean, is)

  -- some write succeeded, by what is kept
  pub stands_ordered : batch.ordered ≡ true → is_none (finite.get progress.write_errors batch.first) ≡ stands_partial batch read
  stands_ordered ordered =
      ap (λ (errors : Errors). is_none (finite.get errors batch.first)) taken.write_errors ∙ first_failed batch.first read.results
      ∙ sym (ap (λ (b : Bool). if b then not (list_any is_first (failed_indexes read.results)) else nat_lt read.reply.errors (length batch.ops)) ordered)

  pub stands_unordered : batch.ordered ≡ false → nat_lt progress.errors (length batch.ops) ≡ stands_partial batch read
  stands_unordered ordered =
      ap (λ (k : ℕ). nat_lt k (length batch.ops)) taken.errors
      ∙ sym (ap (λ (b : Bool). if b then not (list_any is_first (failed_indexes read.results)) else nat_lt read.reply.errors (length batch.ops)) ordered)
