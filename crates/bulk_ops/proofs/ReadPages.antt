-- What is kept of a bulk write's answer once a page more was read.
use Rattle.std.proofs.Common.{◌≡◌, ℕ, ◌+◌, ◌<◌, Bool, true, false, List, [], ◌∷◌, ◌++◌, length, refl, sym, ap, subst, ◌∙◌}
use Rattle.std.specs.Prelude.{ℤ, Option, None, Some}
use Rattle.std.specs.Ordering.{nat_cmp}
use Rattle.std.specs.FinMap as finite
use Rattle.std.proofs.lemmas.Bool.{and_parts}
use Rattle.bson_lite.specs.declared.bson.Bson.{Bson}
use Rattle.bson_lite.specs.declared.document.Pair.{Pair}
use Rattle.bson_lite.specs.declared.namespace.Namespace.{Namespace}
use Rattle.driver_error.specs.declared.write.WriteError.{WriteError}
use Rattle.bulk_outcomes.specs.BulkResults.{ResultSpec}
use Rattle.driver_error.specs.Counts.{Counts}
use Rattle.driver_ops.specs.Operations.{Page}
use Rattle.bulk_ops.specs.declared.bulk_reply.BulkReply.{BulkReply}
use Rattle.bulk_ops.specs.declared.bulk_reply.OpResult.{OpResult}
use Rattle.bulk_ops.specs.declared.bulk_reply.ResultsPage.{ResultsPage}
use Rattle.bulk_ops.specs.declared.bulk_results.BulkProgress.{BulkProgress}
use Rattle.bulk_ops.specs.declared.bulk_results.PageFault.TheVariants as fault
use Rattle.bulk_ops.specs.declared.bulk_results.PageVerdict.{PageVerdict}
use Rattle.bulk_ops.specs.declared.bulk_results.PageVerdict.TheVariants.{Breaks, Last, LeavesOpen}
use Rattle.bulk_ops.specs.declared.bulk_results.Paged.{Paged}
use Rattle.bulk_ops.specs.declared.bulk_results.Paged.TheVariants as way
use Rattle.bulk_ops.specs.declared.bulk_results.SeenResults.{SeenResults}
use Rattle.bulk_ops.specs.declared.op_batch.OpBatch.{OpBatch}
use Rattle.bulk_ops.specs.BulkAnswers.{BulkBatch, BulkRead, further_read, result_read, rules_of, with_error, with_errors, with_outcome, with_results}
use Rattle.bulk_ops.specs.BulkPages.{next_page}
use Rattle.bulk_ops.specs.BulkRules.{are_apart, are_within, is_seen, unseen, verdict}
use Rattle.bulk_ops.specs.inside.BulkResults.{HasReadPages, IsProgress, IsSeen, IsTaken, JudgesPage, NotesPlaced, ReadsBehind, ReadsPage, TakesResults, batch_told, begun, has_seen, rules_told}
use Rattle.bulk_ops.proofs.FreeResults.{apart_behind}
use Rattle.bulk_ops.proofs.PageCounts.{fewer_unseen, open_verdict_is, unseen_same}

abbrev Errors : Type 0
Errors = finite.FinMap nat_cmp WriteError

-- results behind others
results_behind : {R : Type 0} (batch : BulkBatch R) (earlier more : List OpResult) (now : R) → with_results batch (earlier ++ more) now ≡ with_results batch more (with_results batch earlier now)
unfolding with_results
results_behind batch [] more now = refl
results_behind batch (told ∷ earlier) more now = results_behind batch earlier more (with_outcome batch told.index told.outcome now)

errors_behind : (first : ℕ) (earlier more : List OpResult) (errors : Errors) → with_errors first (earlier ++ more) errors ≡ with_errors first more (with_errors first earlier errors)
unfolding with_errors
errors_behind first [] more errors = refl
errors_behind first (told ∷ earlier) more errors = errors_behind first earlier more (with_error (first + told.index) told.outcome errors)

-- what is kept of a reply of which no result was read yet
pub begins : {R : Type 0} (tells : ResultSpec R) (reply : BulkReply) (nothing result : R) (seen : SeenResults) (counts : Counts) (errors : Errors) → nothing ≡ tells.nothing → counts ≡ reply.counts
    → result ≡ tells.counted nothing counts → IsSeen reply.errors [] seen → errors ≡ finite.empty → (batch : BulkBatch R) → batch.tells ≡ tells
    → IsProgress batch (begun reply) (record { errors = reply.errors; concern = reply.concern; labels = reply.labels; seen = seen; result = result; write_errors = errors })
unfolding with_results with_errors are_apart
begins {R = R} tells reply nothing result seen counts errors nothing_is counts_are result_is known none batch tells_is = record {
  taken = record {
    errors = refl;
    concern = refl;
    labels = refl;
    result = result_is ∙ (λ i. tells.counted (nothing_is i) (counts_are i)) ∙ ap (λ (t : ResultSpec R). t.counted t.nothing reply.counts) (sym tells_is);
    write_errors = none;
  };
  seen = known;
  placed = refl;
}

-- a page that was judged, whose results were taken
module _ {R : Type 0} (tells : ResultSpec R) (batch : OpBatch) (only_errors first : Bool) (old mid : BulkProgress R) (page : ResultsPage) (found : PageVerdict) (only_is : only_errors ≡ tells.only_errors)
    (judges : JudgesPage batch only_errors first old.seen mid.seen page found) (mid_is : mid ≡ record old { seen = mid.seen }) where
  -- its results are of ops of the batch, where it breaks no rule
  pub taken_within : (verdict : PageVerdict) → found ≡ verdict → (verdict ≡ Breaks fault.Misplaced → ⊥) → are_within (length batch.ops.now) page.results ≡ true
  taken_within verdict is other = (judges.notes (λ misplaced. other (sym is ∙ misplaced))).within

  verdict_is : (told : PageVerdict) → found ≡ told → (read : BulkRead) → IsProgress (batch_told tells batch) read old → verdict (rules_of (batch_told tells batch)) read.reply.errors first read.results page ≡ told
  verdict_is told is read known =
      ap (λ (only : Bool). verdict (rules_told batch only) read.reply.errors first read.results page) (sym only_is)
      ∙ sym (judges.is read.reply.errors read.results known.seen known.placed) ∙ is

  -- the results of a page that is not misplaced are of different ops
  page_apart : (told : PageVerdict) → found ≡ told → (told ≡ Breaks fault.Misplaced → ⊥) → (read : BulkRead) → IsProgress (batch_told tells batch) read old → are_apart page.results ≡ true
  page_apart told is other read known =
      let notes = judges.notes (λ misplaced. other (sym is ∙ misplaced)) in
      let placed = notes.placed read.reply.errors read.results known.seen known.placed in
      apart_behind read.results page.results (and_parts (are_within (length batch.ops.now) (read.results ++ page.results)) (are_apart (read.results ++ page.results)) placed).1

  module _ (now : BulkProgress R) (takes : TakesResults (batch_told tells batch) mid now page.results) where
    now_is : now ≡ record old { seen = mid.seen; result = now.result; write_errors = now.write_errors }
    now_is = takes.rest ∙ ap (λ (p : BulkProgress R). record p { result = now.result; write_errors = now.write_errors }) mid_is

    is_taken : (read : BulkRead) → IsProgress (batch_told tells batch) read old → IsTaken (batch_told tells batch) (further_read read page) now
    is_taken read known = record {
      errors = ap (λ (p : BulkProgress R). p.errors) now_is ∙ known.taken.errors;
      concern = ap (λ (p : BulkProgress R). p.concern) now_is ∙ known.taken.concern;
      labels = ap (λ (p : BulkProgress R). p.labels) now_is ∙ known.taken.labels;
      result = takes.result ∙ ap (with_results (batch_told tells batch) page.results) (ap (λ (p : BulkProgress R). p.result) mid_is ∙ known.taken.result)
          ∙ sym (results_behind (batch_told tells batch) read.results page.results (tells.counted tells.nothing read.reply.counts));
      write_errors = takes.write_errors ∙ ap (with_errors batch.first page.results) (ap (λ (p : BulkProgress R). p.write_errors) mid_is ∙ known.taken.write_errors)
          ∙ sym (errors_behind batch.first read.results page.results finite.empty);
    }

  module _ (now : BulkProgress R) (gives : are_apart page.results ≡ true → TakesResults (batch_told tells batch) mid now page.results) where
    -- the last page
    pub reads_last : found ≡ Last → (read : BulkRead) → IsProgress (batch_told tells batch) read old → ReadsPage (batch_told tells batch) read first page way.Last now
    reads_last is read known =
        let takes = gives (page_apart Last is (λ misplaced. let e : ◌≡◌ {A = PageVerdict} Last (Breaks fault.Misplaced) = misplaced in cc) read known) in
        (verdict_is Last is read known, is_taken now takes read known)

    -- one behind which there is another one
    pub reads_open : (cursor : ℤ) (namespace : Namespace) → found ≡ LeavesOpen → cursor ≡ page.cursor → namespace ≡ page.namespace
        → (read : BulkRead) → IsProgress (batch_told tells batch) read old → ReadsPage (batch_told tells batch) read first page (way.Open cursor namespace) now
    reads_open cursor namespace is cursor_is namespace_is read known =
        let notes : NotesPlaced (length batch.ops.now) old.seen mid.seen page.results =
        judges.notes (λ misplaced. let e : ◌≡◌ {A = PageVerdict} LeavesOpen (Breaks fault.Misplaced) = sym is ∙ misplaced in cc) in
        let takes = gives (page_apart LeavesOpen is (λ misplaced. let e : ◌≡◌ {A = PageVerdict} LeavesOpen (Breaks fault.Misplaced) = misplaced in cc) read known) in
        let seen_is : now.seen ≡ mid.seen = ap (λ (p : BulkProgress R). p.seen) (now_is now takes) in (
          verdict_is LeavesOpen is read known,
          cursor_is,
          namespace_is,
          record {
            taken = is_taken now takes read known;
            seen = subst (λ (s : SeenResults). IsSeen read.reply.errors (read.results ++ page.results) s) (sym seen_is) (notes.seen read.reply.errors read.results known.seen known.placed);
            placed = notes.placed read.reply.errors read.results known.seen known.placed;
          },
        )

-- fewer ops have no result once a page behind the reply left its cursor open
pub further_fewer : {R : Type 0} (batch : BulkBatch R) (now : BulkProgress R) (paged : Paged) (reply : List (Pair Bson)) (cursor : ℤ) (namespace : Namespace) → paged ≡ way.Open cursor namespace
    → (old : BulkProgress R) (page : ResultsPage) → next_page reply ≡ Some page → ReadsBehind batch old now page paged → (pages : List Page) → HasReadPages batch old pages
    → unseen (length batch.ops) (has_seen now.seen) < unseen (length batch.ops) (has_seen old.seen)
further_fewer batch now paged reply cursor namespace paged_is old page told came pages has =
    let reads : ReadsPage batch has.read false page (way.Open cursor namespace) now =
    subst (λ (given : Paged). ReadsPage batch has.read false page given now) paged_is (came has.read has.kept) in
    let ops = length batch.ops in
    let open_by = open_verdict_is (rules_of batch) has.read.reply.errors false has.read.results page reads.0 in
    let fewer = fewer_unseen ops has.read.results page.results has.kept.placed open_by.placed (open_by.some refl) in
    rw (unseen_same ops (has_seen now.seen) (is_seen (has.read.results ++ page.results)) reads.3.seen.indexes, unseen_same ops (has_seen old.seen) (is_seen has.read.results) has.kept.seen.indexes) fewer
