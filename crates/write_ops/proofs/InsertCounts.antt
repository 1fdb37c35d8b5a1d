-- The counts of an insert's statements, and what a client makes of them.
use Rattle.std.proofs.Common.{◌≡◌, ℕ, zero, suc, ◌+◌, ◌<◌, ◌≤◌, Bool, true, false, not, ◌&&◌, eqb, ltb, List, [], ◌∷◌, length, refl, sym, ap, subst, ◌∙◌, inl, inr, arith}
use Rattle.std.specs.Prelude.{ℤ, pos, ◌+ℤ◌, ◌⊎◌}
use Rattle.std.specs.List.{list_all}
use Rattle.std.specs.Ordering.{int_eq}
use Rattle.std.proofs.lemmas.Bool.{and_from, and_parts, lt-ltb, ne_eqb, not_from_false}
use Rattle.std.proofs.lemmas.Bool.Decides.{Decides-int_eq}
use Rattle.std.proofs.lemmas.Int.{ints}
use Rattle.driver_error.specs.declared.write.IndexedWriteError.{IndexedWriteError}
use Rattle.driver_link.specs.declared.machine.Statement.{Statement}
use Rattle.driver_link.specs.declared.machine.Statement.TheVariants.{Kept, Ran, Failed}
use Rattle.driver_link.specs.Replies.{results_in}
use Rattle.driver_ops.specs.lawful.InsertRead.{differ}
use Rattle.write_ops.specs.InsertAnswers.{are_apart, counts_all, counts_ordered, counts_unordered, is_at, is_below}
use Rattle.write_ops.specs.InsertLaw.{AddsUp, errors_told}
use Rattle.statement_ops.specs.lawful.CountReplies.{plus_nothing}
use Rattle.write_ops.specs.lawful.InsertFields.{error_with, sum_in}
use Rattle.write_ops.specs.lawful.InsertReplies.{EndAs}

-- one result more
one_result_more : (results errors all : ℕ) → results + errors ≡ all → suc results + errors ≡ suc all
one_result_more results errors all is = omega (arith, is)

-- one write error more
one_error_more : (results errors all : ℕ) → results + errors ≡ all → results + suc errors ≡ suc all
one_error_more results errors all is = omega (arith, is)

-- each statement has a result or a write error
pub results_and_errors : (at : ℕ) (done : List Statement) → length (results_in done) + length (errors_told at done) ≡ length done
unfolding errors_told
results_and_errors at [] = refl
results_and_errors at (Kept result ∷ done) = one_result_more (length (results_in done)) (length (errors_told (at + 1) done)) (length done) (results_and_errors (at + 1) done)
results_and_errors at (Ran result ∷ done) = one_result_more (length (results_in done)) (length (errors_told (at + 1) done)) (length done) (results_and_errors (at + 1) done)
results_and_errors at (Failed code ∷ done) = one_error_more (length (results_in done)) (length (errors_told (at + 1) done)) (length done) (results_and_errors (at + 1) done)

-- an unordered send has as many statements as writes
pub length_unordered : (count : ℕ) (done : List Statement) → EndAs false count done → length done ≡ count
length_unordered zero [] ends = refl
length_unordered zero (statement ∷ done) ends = absurd ends
length_unordered (suc count) [] ends = absurd ends
length_unordered (suc count) (statement ∷ done) ends = ap suc (length_unordered count done ends)

-- the write errors of later statements are not of an earlier one
pub later_apart : (low at : ℕ) (done : List Statement) → low < at → list_all (λ (other : IndexedWriteError). not (is_at low other)) (errors_told at done) ≡ true
unfolding errors_told
later_apart low at [] less = refl
later_apart low at (Kept result ∷ done) less = later_apart low (at + 1) done (omega (arith, less))
later_apart low at (Ran result ∷ done) less = later_apart low (at + 1) done (omega (arith, less))
later_apart low at (Failed code ∷ done) less =
    and_from (not (eqb at low)) (list_all (λ (other : IndexedWriteError). not (is_at low other)) (errors_told (at + 1) done))
    (not_from_false (eqb at low) (ne_eqb at low (λ same. omega (arith, less, same)))) (later_apart low (at + 1) done (omega (arith, less)))

-- no two are of one statement
all_apart : (at : ℕ) (done : List Statement) → are_apart (errors_told at done) ≡ true
unfolding errors_told are_apart
all_apart at [] = refl
all_apart at (Kept result ∷ done) = all_apart (at + 1) done
all_apart at (Ran result ∷ done) = all_apart (at + 1) done
all_apart at (Failed code ∷ done) =
    and_from (list_all (λ (other : IndexedWriteError). not (is_at at other)) (errors_told (at + 1) done)) (are_apart (errors_told (at + 1) done))
    (later_apart at (at + 1) done (omega arith)) (all_apart (at + 1) done)

-- each is of one of the statements
all_below : (limit at : ℕ) (done : List Statement) → at + length done ≤ limit → list_all (is_below limit) (errors_told at done) ≡ true
unfolding errors_told
all_below limit at [] within = refl
all_below limit at (Kept result ∷ done) within = all_below limit (at + 1) done (omega (arith, within))
all_below limit at (Ran result ∷ done) within = all_below limit (at + 1) done (omega (arith, within))
all_below limit at (Failed code ∷ done) within =
    and_from (ltb at limit) (list_all (is_below limit) (errors_told (at + 1) done)) (lt-ltb at limit (omega (arith, within))) (all_below limit (at + 1) done (omega (arith, within)))

-- three tests that pass
three_from : (a b c : Bool) → a ≡ true → b ≡ true → c ≡ true → (a && b && c) ≡ true
three_from true true c first second third = third
three_from true false c first second third = absurd (differ second)
three_from false b c first second third = absurd (differ first)

-- and the third of them
third_of : (a b c : Bool) → (a && b && c) ≡ true → c ≡ true
third_of true true c all = all
third_of true false c all = absurd (differ all)
third_of false b c all = absurd (differ all)

-- what is left of a sum
left_of : (n : ℤ) (errors results count : ℕ) → n +ℤ pos errors ≡ pos count → results + errors ≡ count → n ≡ pos results
left_of n errors results count sum parts = omega (arith, ints, sum, parts)

-- where the results count one each, an unordered insert is told so
unordered_from : (count : ℕ) (done : List Statement) → EndAs false count done → AddsUp done → counts_unordered count (sum_in done) (errors_told 0 done) ≡ true
unordered_from count done ends up =
    let errors : List IndexedWriteError = errors_told 0 done in
    let len : length done ≡ count = length_unordered count done ends in
    let sum : sum_in done +ℤ pos (length errors) ≡ pos count
    = ap (λ (n : ℤ). n +ℤ pos (length errors)) up ∙ ap (λ (k : ℕ). pos k) (results_and_errors 0 done ∙ len) in
    three_from (are_apart errors) (list_all (is_below count) errors) (int_eq (sum_in done +ℤ pos (length errors)) (pos count))
    (all_apart 0 done) (all_below count 0 done (omega (arith, len))) ((Decides-int_eq (sum_in done +ℤ pos (length errors)) (pos count)).1 sum)

-- and only there
unordered_only : (count : ℕ) (done : List Statement) → EndAs false count done → counts_unordered count (sum_in done) (errors_told 0 done) ≡ true → AddsUp done
unordered_only count done ends told =
    let errors : List IndexedWriteError = errors_told 0 done in
    let test = third_of (are_apart errors) (list_all (is_below count) errors) (int_eq (sum_in done +ℤ pos (length errors)) (pos count)) told in
    left_of (sum_in done) (length errors) (length (results_in done)) count ((Decides-int_eq (sum_in done +ℤ pos (length errors)) (pos count)).0 test)
    (results_and_errors 0 done ∙ length_unordered count done ends)

-- no statement of an ordered send failed
record FailsNone (at count : ℕ) (done : List Statement) : Type 0 where
  none : errors_told at done ≡ []
  all : length (results_in done) ≡ count

-- one failed, the last that there is
record FailsLast (at count : ℕ) (done : List Statement) : Type 0 where
  code : ℤ
  last : errors_told at done ≡ error_with (at + length (results_in done)) code ∷ []
  less : length (results_in done) < count

-- with one more in front that did not fail
with_first : (at count : ℕ) (first : Statement) (done : List Statement) → errors_told at (first ∷ done) ≡ errors_told (at + 1) done
    → length (results_in (first ∷ done)) ≡ suc (length (results_in done)) → FailsNone (at + 1) count done ⊎ FailsLast (at + 1) count done
    → FailsNone at (suc count) (first ∷ done) ⊎ FailsLast at (suc count) (first ∷ done)
with_first at count first done errors results (inl fails) = inl (record { none = errors ∙ fails.none; all = results ∙ ap suc fails.all })
with_first at count first done errors results (inr fails) =
    let place : at + 1 + length (results_in done) ≡ at + length (results_in (first ∷ done)) = omega (arith, results) in
    let less : length (results_in (first ∷ done)) < suc count = omega (arith, results, fails.less) in
    inr (record { code = fails.code; last = errors ∙ fails.last ∙ ap (λ (index : ℕ). error_with index fails.code ∷ []) place; less = less })

-- the one that failed
failed_here : (at count : ℕ) (code : ℤ) → FailsNone at (suc count) (Failed code ∷ []) ⊎ FailsLast at (suc count) (Failed code ∷ [])
unfolding errors_told
failed_here at count code =
    let place : at ≡ at + 0 = omega arith in
    let less : 0 < suc count = omega arith in
    inr (record { code = code; last = ap (λ (index : ℕ). error_with index code ∷ []) place; less = less })

-- an ordered send stops at the first that fails
fails_either : (at count : ℕ) (done : List Statement) → EndAs true count done → FailsNone at count done ⊎ FailsLast at count done
unfolding errors_told
fails_either at zero [] ends = inl (record { none = refl; all = refl })
fails_either at zero (statement ∷ done) ends = absurd ends
fails_either at (suc count) [] ends = absurd ends
fails_either at (suc count) (Kept result ∷ done) ends = with_first at count (Kept result) done refl refl (fails_either (at + 1) count done ends)
fails_either at (suc count) (Ran result ∷ done) ends = with_first at count (Ran result) done refl refl (fails_either (at + 1) count done ends)
fails_either at (suc count) (Failed code ∷ done) ends =
    subst (λ (rest : List Statement). FailsNone at (suc count) (Failed code ∷ rest) ⊎ FailsLast at (suc count) (Failed code ∷ rest)) (sym ends) (failed_here at count code)

-- where the results count one each, an ordered insert is told so
module _ (count : ℕ) (done : List Statement) where
  abbrev results : ℕ
  results = length (results_in done)

  from_none : FailsNone 0 count done → AddsUp done → counts_ordered count (sum_in done) (errors_told 0 done) ≡ true
  from_none fails up = ap (counts_ordered count (sum_in done)) fails.none ∙ (Decides-int_eq (sum_in done) (pos count)).1 (up ∙ ap (λ (k : ℕ). pos k) fails.all)

  from_last : FailsLast 0 count done → AddsUp done → counts_ordered count (sum_in done) (errors_told 0 done) ≡ true
  from_last fails up =
      let less : 0 + results < count = omega (arith, fails.less) in
      let place : results ≡ 0 + results = omega arith in
      ap (counts_ordered count (sum_in done)) fails.last
      ∙ and_from (ltb (0 + results) count) (int_eq (sum_in done) (pos (0 + results))) (lt-ltb (0 + results) count less)
      ((Decides-int_eq (sum_in done) (pos (0 + results))).1 (up ∙ ap (λ (k : ℕ). pos k) place))

  -- and only there
  only_none : FailsNone 0 count done → counts_ordered count (sum_in done) (errors_told 0 done) ≡ true → AddsUp done
  only_none fails told =
      let test : int_eq (sum_in done) (pos count) ≡ true = sym (ap (counts_ordered count (sum_in done)) fails.none) ∙ told in
      (Decides-int_eq (sum_in done) (pos count)).0 test ∙ ap (λ (k : ℕ). pos k) (sym fails.all)

  only_last : FailsLast 0 count done → counts_ordered count (sum_in done) (errors_told 0 done) ≡ true → AddsUp done
  only_last fails told =
      let tests : (ltb (0 + results) count && int_eq (sum_in done) (pos (0 + results))) ≡ true = sym (ap (counts_ordered count (sum_in done)) fails.last) ∙ told in
      let place : 0 + results ≡ results = omega arith in
      (Decides-int_eq (sum_in done) (pos (0 + results))).0 (and_parts (ltb (0 + results) count) (int_eq (sum_in done) (pos (0 + results))) tests).1 ∙ ap (λ (k : ℕ). pos k) place

  ordered_from : EndAs true count done → AddsUp done → counts_ordered count (sum_in done) (errors_told 0 done) ≡ true
  ordered_from ends up = elim (fails_either 0 count done ends) [ inl fails ↦ from_none fails up | inr fails ↦ from_last fails up ]

  ordered_only : EndAs true count done → counts_ordered count (sum_in done) (errors_told 0 done) ≡ true → AddsUp done
  ordered_only ends told = elim (fails_either 0 count done ends) [ inl fails ↦ only_none fails told | inr fails ↦ only_last fails told ]

-- where the results count one each, the counts are those of an insert
pub counts_from : (ordered : Bool) (count : ℕ) (done : List Statement) → EndAs ordered count done → AddsUp done → counts_all ordered count (sum_in done) (errors_told 0 done) ≡ true
counts_from true count done ends up = ordered_from count done ends up
counts_from false count done ends up = unordered_from count done ends up

-- and only there
pub counts_only : (ordered : Bool) (count : ℕ) (done : List Statement) → EndAs ordered count done → counts_all ordered count (sum_in done) (errors_told 0 done) ≡ true → AddsUp done
counts_only true count done ends told = ordered_only count done ends told
counts_only false count done ends told = unordered_only count done ends told

-- so are those of an insert of which nothing failed
pub counts_whole : (ordered : Bool) (count : ℕ) → counts_all ordered count (pos count) [] ≡ true
unfolding are_apart
counts_whole true count = (Decides-int_eq (pos count) (pos count)).1 refl
counts_whole false count = (Decides-int_eq (pos count +ℤ pos 0) (pos count)).1 (plus_nothing (pos count))
