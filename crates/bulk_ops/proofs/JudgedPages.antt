-- What a page comes to by what is noted of its results is what it comes to by the rules.
use Rattle.std.proofs.Common.{◌≡◌, ℕ, zero, suc, ◌+◌, ◌-◌, ◌<◌, ◌≤◌, ◌==◌, Bool, true, false, cond, ◌&&◌, ◌||◌, nat_eq, nat_le, nat_lt, List, [], ◌∷◌, ◌++◌, length, arith, refl, sym, ap, subst, ◌∙◌, ltb-true, ltb-false, eqb-true, eq-eqb, ne_eqb, append_assoc, Vec}
use Rattle.std.specs.Prelude.{pos, Option, None, Some, if◌then◌else◌}
use Rattle.std.specs.declared.alloc.Global.{Global}
use Rattle.std.specs.List.{list_all}
use Rattle.std.specs.Ordering.{int_eq}
use Rattle.std.proofs.lemmas.List.{append-nil}
use Rattle.bulk_ops.specs.declared.bulk_reply.OpResult.{OpResult}
use Rattle.bulk_ops.specs.declared.bulk_reply.ResultsPage.{ResultsPage}
use Rattle.bulk_ops.specs.declared.bulk_results.FailedOps.{FailedOps}
use Rattle.bulk_ops.specs.declared.bulk_results.FailedOps.TheVariants as failed
use Rattle.bulk_ops.specs.declared.bulk_results.PageFault.TheVariants as fault
use Rattle.bulk_ops.specs.declared.bulk_results.PageVerdict.{PageVerdict}
use Rattle.bulk_ops.specs.declared.bulk_results.PageVerdict.TheVariants.{Breaks, Last, LeavesOpen}
use Rattle.bulk_ops.specs.declared.bulk_results.SeenResults.{SeenResults}
use Rattle.bulk_ops.specs.declared.op_batch.OpBatch.{OpBatch}
use Rattle.bulk_ops.specs.BulkRules.{are_all_seen, are_complete, are_placed, closing_verdict, failed_indexes, is_seen, keep_order, none_behind, open_verdict, ops_told, verdict}
use Rattle.bulk_ops.specs.inside.BulkResults.{IsSeen, JudgesPage, NotesPlaced, NotesResults, closing_seen, complete_seen, failed_told, has_seen, keeps_order_seen, left_of, none_left, ops_by, order_of, rules_told, seen_verdict, within}
use Rattle.bulk_ops.specs.inside.SeenFlags.{flag_at}

-- nothing is noted yet
left_at_first_by : (errors : ℕ) (less : Bool) → nat_lt errors 0 ≡ less → ◌≡◌ {A = Option ℕ} (Some errors) (if less then None else Some (errors - 0))
left_at_first_by errors true less = absurd (let below = ltb-true errors 0 less in omega (arith, below))
left_at_first_by errors false less = (let all : errors ≡ errors - 0 = omega arith in ap (λ (k : ℕ). Some k) all)

left_at_first : (errors : ℕ) → ◌≡◌ {A = Option ℕ} (Some errors) (left_of errors 0)
left_at_first errors = left_at_first_by errors (nat_lt errors 0) refl

pub seen_none : (errors : ℕ) (flags : Vec Bool Global) → flags.items ≡ [] → IsSeen errors [] (record { flags = flags; highest = None; failed = failed.None; errors_left = Some errors })
unfolding failed_indexes
seen_none errors flags empty = record { indexes = λ index. ap (λ (all : List Bool). flag_at all index) empty; highest = λ index. refl; failed = refl; left = left_at_first errors }

-- each of the first ops has its result
all_seen_same : (ops : ℕ) (seen other : ℕ → Bool) → ((index : ℕ) → seen index ≡ other index) → are_all_seen ops seen ≡ are_all_seen ops other
unfolding are_all_seen
all_seen_same zero seen other same = refl
all_seen_same (suc ops) seen other same = rw (same ops, all_seen_same ops seen other same) refl

-- one fewer, where the last of them has its result
pub all_seen_less : (at : ℕ) (seen : ℕ → Bool) → 0 < at → seen (at - 1) ≡ true → are_all_seen at seen ≡ are_all_seen (at - 1) seen
unfolding are_all_seen
all_seen_less zero seen some is = absurd (omega (arith, some))
all_seen_less (suc at) seen some is =
    let same : suc at - 1 ≡ at = omega arith in
    let last : seen at ≡ true = ap seen (sym same) ∙ is in
    rw (last) (ap (λ (k : ℕ). are_all_seen k seen) (sym same))

pub all_seen_not : (at : ℕ) (seen : ℕ → Bool) → 0 < at → seen (at - 1) ≡ false → are_all_seen at seen ≡ false
unfolding are_all_seen
all_seen_not zero seen some is = absurd (omega (arith, some))
all_seen_not (suc at) seen some is =
    let same : suc at - 1 ≡ at = omega arith in
    let last : seen at ≡ false = ap seen (sym same) ∙ is in
    rw (last) refl

pub all_seen_none : (seen : ℕ → Bool) (at : ℕ) → at ≤ 0 → are_all_seen at seen ≡ true
unfolding are_all_seen
all_seen_none seen zero none = refl
all_seen_none seen (suc at) none = absurd (omega (arith, none))

-- an ordered batch stopped at the op that failed
order_is : (indexes : List ℕ) (results : List OpResult) (highest : Option ℕ) → ((index : ℕ) → list_all (λ (result : OpResult). nat_le result.index index) results ≡ within highest index)
    → order_of (failed_told indexes) highest ≡ none_behind indexes results
order_is [] results highest bounds = refl
order_is (index ∷ []) results highest bounds = sym (bounds index)
order_is (index ∷ other ∷ indexes) results highest bounds = refl

order_seen : (ordered : Bool) (errors : ℕ) (results : List OpResult) (seen : SeenResults) → IsSeen errors results seen → keeps_order_seen ordered seen ≡ keep_order ordered results
order_seen false errors results seen known = refl
order_seen true errors results seen known =
    ap (λ (f : FailedOps). order_of f seen.highest) known.failed ∙ order_is (failed_indexes results) results seen.highest known.highest

-- as many errors came as were counted
true_and_false : {b : Bool} → b ≡ true → b ≡ false → ⊥
true_and_false holds fails = let e : ◌≡◌ {A = Bool} true false = sym holds ∙ fails in cc

left_within : (errors came : ℕ) (same : Bool) → (came == errors) ≡ same → came ≤ errors → (errors - came == 0) ≡ same
left_within errors came true same some = (let is = eqb-true came errors same in eq-eqb (errors - came) 0 (omega (arith, is)))
left_within errors came false same some =
    ne_eqb (errors - came) 0 (λ none. (let is : came ≡ errors = omega (arith, none, some) in true_and_false (eq-eqb came errors is) same))

left_none_by : (errors came : ℕ) (less : Bool) → nat_lt errors came ≡ less → none_left (if less then None else Some (errors - came)) ≡ (came == errors)
left_none_by errors came true less = (let below = ltb-true errors came less in sym (ne_eqb came errors (λ same. omega (arith, below, same))))
left_none_by errors came false less = left_within errors came (came == errors) refl (ltb-false errors came less)

left_none : (errors came : ℕ) → none_left (left_of errors came) ≡ (came == errors)
left_none errors came = left_none_by errors came (nat_lt errors came) refl

-- the ops that have a result at the end
ops_are : (ordered : Bool) (ops : ℕ) (indexes : List ℕ) → ops_by ordered ops (failed_told indexes) ≡ ops_told ordered ops indexes
ops_are true ops [] = refl
ops_are true ops (index ∷ []) = refl
ops_are true ops (index ∷ other ∷ indexes) = refl
ops_are false ops indexes = refl

complete_is : (batch : OpBatch) (only_errors : Bool) (errors : ℕ) (results : List OpResult) (seen : SeenResults) → IsSeen errors results seen
    → complete_seen batch only_errors seen ≡ are_complete (rules_told batch only_errors) results
complete_is batch true errors results seen known = refl
complete_is batch false errors results seen known =
    ap (λ (f : FailedOps). are_all_seen (ops_by batch.ordered (length batch.ops.now) f) (has_seen seen)) known.failed
    ∙ ap (λ (k : ℕ). are_all_seen k (has_seen seen)) (ops_are batch.ordered (length batch.ops.now) (failed_indexes results))
    ∙ all_seen_same (ops_told batch.ordered (length batch.ops.now) (failed_indexes results)) (has_seen seen) (is_seen results) known.indexes

closing_is : (batch : OpBatch) (only_errors : Bool) (errors : ℕ) (results : List OpResult) (seen : SeenResults) → IsSeen errors results seen
    → closing_seen batch only_errors seen ≡ closing_verdict (rules_told batch only_errors) errors results
closing_is batch only_errors errors results seen known =
    ap (λ (b : Bool). if b then (if complete_seen batch only_errors seen then Last else Breaks fault.Missing) else Breaks fault.Miscounted)
    (ap none_left known.left ∙ left_none errors (length (failed_indexes results)))
    ∙ ap (λ (b : Bool). if length (failed_indexes results) == errors then (if b then Last else Breaks fault.Missing) else Breaks fault.Miscounted) (complete_is batch only_errors errors results seen known)

-- what is noted of results that are placed gives the verdict
noted_is : (batch : OpBatch) (only_errors first : Bool) (errors : ℕ) (earlier : List OpResult) (page : ResultsPage) (seen : SeenResults)
    → IsSeen errors (earlier ++ page.results) seen → are_placed (length batch.ops.now) (earlier ++ page.results) ≡ true
    → seen_verdict batch only_errors first page seen ≡ verdict (rules_told batch only_errors) errors first earlier page
unfolding verdict
noted_is batch only_errors first errors earlier page seen known placed =
    ap (λ (b : Bool). if b then (if int_eq page.cursor (pos 0) then closing_seen batch only_errors seen else open_verdict first page.results) else Breaks fault.Disordered)
    (order_seen batch.ordered errors (earlier ++ page.results) seen known)
    ∙ ap (λ (v : PageVerdict). if keep_order batch.ordered (earlier ++ page.results) then (if int_eq page.cursor (pos 0) then v else open_verdict first page.results) else Breaks fault.Disordered)
    (closing_is batch only_errors errors (earlier ++ page.results) seen known)
    ∙ ap (λ (b : Bool). if b then (if keep_order batch.ordered (earlier ++ page.results)
    then (if int_eq page.cursor (pos 0) then closing_verdict (rules_told batch only_errors) errors (earlier ++ page.results) else open_verdict first page.results)
    else Breaks fault.Disordered) else Breaks fault.Misplaced) (sym placed)

pub judged : (batch : OpBatch) (only_errors first : Bool) (old new : SeenResults) (page : ResultsPage) (found : PageVerdict) → NotesPlaced (length batch.ops.now) old new page.results
    → found ≡ seen_verdict batch only_errors first page new → JudgesPage batch only_errors first old new page found
judged batch only_errors first old new page found notes is = record {
  is = λ errors earlier known placed.
      is ∙ noted_is batch only_errors first errors earlier page new (notes.seen errors earlier known placed) (notes.placed errors earlier known placed);
  notes = λ other. notes;
}

-- a page with a misplaced result
pub misplaced : (batch : OpBatch) (only_errors first : Bool) (old new : SeenResults) (page : ResultsPage) → NotesResults (length batch.ops.now) old new page.results false
    → JudgesPage batch only_errors first old new page (Breaks fault.Misplaced)
unfolding verdict
misplaced batch only_errors first old new page notes = record {
  is = λ errors earlier known placed.
      ap (λ (b : Bool). if b then (if keep_order batch.ordered (earlier ++ page.results)
      then (if int_eq page.cursor (pos 0) then closing_verdict (rules_told batch only_errors) errors (earlier ++ page.results) else open_verdict first page.results)
      else Breaks fault.Disordered) else Breaks fault.Misplaced) (sym (notes errors earlier known placed));
  notes = λ other. absurd (other refl);
}

-- by whether all results of the page were noted
pub judged_placed : (batch : OpBatch) (only_errors first : Bool) (old new : SeenResults) (page : ResultsPage) (found : PageVerdict) (placed : Bool) → NotesResults (length batch.ops.now) old new page.results placed
    → placed ≡ true → found ≡ seen_verdict batch only_errors first page new → JudgesPage batch only_errors first old new page found
judged_placed batch only_errors first old new page found true notes placed is = judged batch only_errors first old new page found notes is
judged_placed batch only_errors first old new page found false notes placed is = absurd (true_and_false placed refl)

pub judged_misplaced : (batch : OpBatch) (only_errors first : Bool) (old new : SeenResults) (page : ResultsPage) (placed : Bool) → NotesResults (length batch.ops.now) old new page.results placed
    → placed ≡ false → JudgesPage batch only_errors first old new page (Breaks fault.Misplaced)
judged_misplaced batch only_errors first old new page true notes placed = absurd (true_and_false refl placed)
judged_misplaced batch only_errors first old new page false notes placed = misplaced batch only_errors first old new page notes
