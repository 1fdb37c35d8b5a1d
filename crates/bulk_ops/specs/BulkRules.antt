-- The rules of the results of a bulk write, over all results that came so far, in order; and what a page comes to by them.
use Rattle.std.specs.Prelude.{ℕ, zero, suc, ◌+◌, ◌==◌, ◌&&◌, ℤ, pos, Bool, true, false, not, nat_lt, nat_le, List, [], ◌∷◌, ◌++◌, codes, length, Option, None, Some, if◌then◌else◌}
use Rattle.std.specs.List.{list_all, list_any}
use Rattle.std.specs.Ordering.{int_eq}
use Rattle.bulk_ops.specs.declared.bulk_reply.OpOutcome.{OpOutcome}
use Rattle.bulk_ops.specs.declared.bulk_reply.OpOutcome.TheVariants.{Counted, Failed}
use Rattle.bulk_ops.specs.declared.bulk_reply.OpResult.{OpResult}
use Rattle.bulk_ops.specs.declared.bulk_reply.ResultsPage.{ResultsPage}
use Rattle.bulk_ops.specs.declared.bulk_results.PageFault.{PageFault}
use Rattle.bulk_ops.specs.declared.bulk_results.PageFault.TheVariants as fault
use Rattle.bulk_ops.specs.declared.bulk_results.PageVerdict.{PageVerdict}
use Rattle.bulk_ops.specs.declared.bulk_results.PageVerdict.TheVariants.{Breaks, Last, LeavesOpen}

-- which results a batch may have: how many ops it has, whether it stops at the first that fails, and whether the results of
-- those that did not fail may be missing
pub record ResultRules : Type 0 where
  pub ops : ℕ
  pub ordered : Bool
  pub only_errors : Bool

-- a result is of the op at an index
abbrev pub is_of : ℕ → OpResult → Bool
is_of index result = result.index == index

-- one of the results is
abbrev pub is_seen : List OpResult → ℕ → Bool
is_seen results index = list_any (is_of index) results

-- the op failed
abbrev pub has_failed_outcome : OpOutcome → Bool
has_failed_outcome (Failed error) = true
has_failed_outcome (Counted n modified upserted) = false

abbrev pub is_failure : OpResult → Bool
is_failure result = has_failed_outcome result.outcome

-- the indexes of the ops that failed, in the order of their results
abbrev pub with_failed : OpResult → List ℕ → List ℕ
with_failed result rest = if is_failure result then result.index ∷ rest else rest

unfoldable pub failed_indexes : List OpResult → List ℕ
failed_indexes [] = []
failed_indexes (result ∷ results) = with_failed result (failed_indexes results)

-- no two results are of one op
unfoldable pub are_apart : List OpResult → Bool
are_apart [] = true
are_apart (result ∷ results) = not (is_seen results result.index) && are_apart results

-- each result is of an op of the batch
abbrev pub are_within : ℕ → List OpResult → Bool
are_within ops results = list_all (λ result. nat_lt result.index ops) results

-- and none is of the same op as another
abbrev pub are_placed : ℕ → List OpResult → Bool
are_placed ops results = are_within ops results && are_apart results

-- at most one op failed, and no result is of an op behind it
abbrev pub none_behind : List ℕ → List OpResult → Bool
none_behind [] results = true
none_behind (failed ∷ []) results = list_all (λ result. nat_le result.index failed) results
none_behind more results = false

-- an ordered batch stopped at the op that failed
abbrev pub keep_order : Bool → List OpResult → Bool
keep_order false results = true
keep_order true results = none_behind (failed_indexes results) results

-- each of the first ops has its result
unfoldable pub are_all_seen : ℕ → (ℕ → Bool) → Bool
are_all_seen zero seen = true
are_all_seen (suc ops) seen = seen ops && are_all_seen ops seen

-- how many of the first ops have none
unfoldable pub unseen : ℕ → (ℕ → Bool) → ℕ
unseen zero seen = 0
unseen (suc ops) seen = (if seen ops then 0 else 1) + unseen ops seen

-- the ops that have a result at the end: those up to the one that failed, where the batch stopped there, else all
abbrev pub ops_told : Bool → ℕ → List ℕ → ℕ
ops_told true ops (failed ∷ []) = suc failed
ops_told ordered ops failed = ops

-- no result is missing at the end: only those of ops that did not fail may be, where they may be missing at all
abbrev pub are_complete : ResultRules → List OpResult → Bool
are_complete rules results =
    if rules.only_errors then true
    else are_all_seen (ops_told rules.ordered rules.ops (failed_indexes results)) (is_seen results)

-- what the end of the pages comes to, by how many errors the reply counts
abbrev pub closing_verdict : ResultRules → ℕ → List OpResult → PageVerdict
closing_verdict rules errors results =
    if length (failed_indexes results) == errors
    then (if are_complete rules results then Last else Breaks fault.Missing)
    else Breaks fault.Miscounted

-- a page without results
abbrev pub is_empty : List OpResult → Bool
is_empty [] = true
is_empty (result ∷ results) = false

-- what a page comes to that leaves its cursor open: one behind the first has a result
abbrev pub open_verdict : Bool → List OpResult → PageVerdict
open_verdict first added = if first then LeavesOpen else (if is_empty added then Breaks fault.Empty else LeavesOpen)

-- what a page with these results and this cursor comes to, behind earlier results: it breaks a rule, which that is, in this
-- order; or it leaves its cursor open, or is the last
unfoldable pub verdict : ResultRules → ℕ → Bool → List OpResult → ResultsPage → PageVerdict
verdict rules errors first earlier page =
    let results = earlier ++ page.results in
    if are_placed rules.ops results then (
    if keep_order rules.ordered results then (
    if int_eq page.cursor (pos 0) then closing_verdict rules errors results else open_verdict first page.results)
    else Breaks fault.Disordered)
    else Breaks fault.Misplaced

-- the message about a page that breaks a rule
unfoldable pub misplaced_text : List ℕ
misplaced_text = codes "a result is of no operation of the bulk write, or of one that has its result"

unfoldable pub disordered_text : List ℕ
disordered_text = codes "an ordered bulk write has results behind its error"

unfoldable pub empty_text : List ℕ
empty_text = codes "a page without results leaves its cursor open"

unfoldable pub miscounted_text : List ℕ
miscounted_text = codes "the bulk write has not as many errors as its reply counts"

unfoldable pub missing_text : List ℕ
missing_text = codes "a result of the bulk write is missing"

abbrev pub fault_text : PageFault → List ℕ
fault_text fault.Misplaced = misplaced_text
fault_text fault.Disordered = disordered_text
fault_text fault.Empty = empty_text
fault_text fault.Miscounted = miscounted_text
fault_text fault.Missing = missing_text
