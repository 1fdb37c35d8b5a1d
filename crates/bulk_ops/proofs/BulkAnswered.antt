-- What is answered behind the pages of a bulk write's answer, and what is kept of them, by what the newest came to.
use Rattle.std.proofs.Common.{◌≡◌, ℕ, ◌<◌, List, [], ◌∷◌, ◌++◌, length, refl, sym, ap, subst, ◌∙◌, inl, inr, ◌⊎◌}
use Rattle.std.specs.Prelude.{ℤ, false, true, Option, None, Some, Result, Ok, Err}
use Rattle.bson_lite.specs.declared.bson.Bson.{Bson}
use Rattle.bson_lite.specs.declared.document.Pair.{Pair}
use Rattle.bson_lite.specs.declared.namespace.Namespace.{Namespace}
use Rattle.driver_error.specs.declared.error.Error.{Error}
use Rattle.driver_error.specs.declared.kind.ErrorKind.TheVariants as kind
use Rattle.driver_error.specs.Error.{IsAlone, kind_of}
use Rattle.driver_error.specs.LabelTexts.{no_labels}
use Rattle.driver_ops.specs.declared.operation.Reading.{Reading}
use Rattle.driver_ops.specs.declared.operation.Reading.TheVariants.{Done, Page as Further}
use Rattle.driver_ops.specs.Operations.{OnPage, Page}
use Rattle.bulk_ops.specs.declared.bulk_reply.BulkReply.{BulkReply}
use Rattle.bulk_ops.specs.declared.bulk_reply.ResultsPage.{ResultsPage}
use Rattle.bulk_ops.specs.declared.bulk_results.BulkProgress.{BulkProgress}
use Rattle.bulk_ops.specs.declared.bulk_results.PageFault.{PageFault}
use Rattle.bulk_ops.specs.declared.bulk_results.PageVerdict.{PageVerdict}
use Rattle.bulk_ops.specs.declared.bulk_results.PageVerdict.TheVariants.{Breaks, Last, LeavesOpen}
use Rattle.bulk_ops.specs.declared.bulk_results.Paged.{Paged}
use Rattle.bulk_ops.specs.declared.bulk_results.Paged.TheVariants as way
use Rattle.bulk_ops.specs.BulkAnswers.{AnswersBulk, BulkBatch, BulkRead, ComesBehind, EndsBulk, FailsAtPage, GoesOnBulk, GoesOnBy, IsOddPage, IsPageError, LacksMemory, OpensBulk, OpensBy, ReadsBulk, StopsAtPage, first_read, first_verdict, further_read, further_verdict, read_open, where_open}
use Rattle.bulk_ops.specs.BulkPages.{bulk_reply, next_page, odd_bulk_text, odd_page_text}
use Rattle.bulk_ops.specs.BulkRules.{fault_text}
use Rattle.bulk_ops.specs.inside.BulkResults.{AnswersPages, EndsOrLacks, HasReadPages, IsProgress, IsTaken, ReadsBehind, ReadsPage, begun}

abbrev Reply : Type 0
Reply = List (Pair Bson)

-- where all pages were read
answered_end : {R : Type 0} (batch : BulkBatch R) (pages : List Page) (read : BulkRead) (ended : Result (Reading R) Error) → (LacksMemory pages → ⊥)
    → ((result : Result (Reading R) Error) → EndsBulk batch read result → AnswersBulk batch pages result) → EndsOrLacks batch read ended → AnswersPages batch pages None ended
answered_end batch pages read (Ok (Done output)) there answers ends = record { reads = answers (Ok (Done output)) ends; keeps = tt }
answered_end batch pages read (Ok (Further cursor namespace)) there answers ends = absurd ends
answered_end batch pages read (Err error) there answers (inl memory) = record { reads = inl memory; keeps = tt }
answered_end batch pages read (Err error) there answers (inr ends) = record { reads = inr (there, answers (Err error) ends); keeps = tt }

-- behind which there is none
no_page : {R : Type 0} (batch : BulkBatch R) (read : BulkRead) (ended : Result (Reading R) Error) → EndsOrLacks batch read ended → OnPage ended ⊥
no_page batch read (Ok (Done output)) ends = tt
no_page batch read (Ok (Further cursor namespace)) ends = ends
no_page batch read (Err error) ends = tt

-- where there was no memory
pub answered_memory : {R : Type 0} (batch : BulkBatch R) (pages : List Page) (error : Error) → kind_of error ≡ kind.Memory → AnswersPages batch pages None (Err error)
answered_memory batch pages error memory = record { reads = inl memory; keeps = tt }

-- a reply that has not its form
pub opened_wrong : {R : Type 0} (batch : BulkBatch R) (reply : Reply) (error : Error) → bulk_reply reply ≡ None
    → IsAlone (kind.InvalidResponse odd_bulk_text) no_labels error ⊎ IsAlone kind.Memory no_labels error → AnswersPages batch (Ok reply ∷ []) None (Err error)
opened_wrong batch reply error told (inl alone) = record {
  reads = inr (λ lacks. lacks, subst (λ (given : Option BulkReply). OpensBulk batch given (Err error)) (sym told) alone);
  keeps = tt;
}
opened_wrong batch reply error told (inr memory) = answered_memory batch (Ok reply ∷ []) error memory.kind_is

-- what the reply comes to
module _ {R : Type 0} (batch : BulkBatch R) (progress : BulkProgress R) (paged : Paged) where
  opens : (reply : Reply) (found : BulkReply) (verdict : PageVerdict) (result : Result (Reading R) Error) → bulk_reply reply ≡ Some found → first_verdict batch found ≡ verdict
      → OpensBy verdict batch found result → AnswersBulk batch (Ok reply ∷ []) result
  opens reply found verdict result told is by =
      subst (λ (given : Option BulkReply). OpensBulk batch given result) (sym told) (subst (λ (given : PageVerdict). OpensBy given batch found result) (sym is) by)

  -- another page is behind it
  pub first_open : (cursor cursor_now : ℤ) (namespace : Namespace) → cursor_now ≡ cursor → paged ≡ way.Open cursor namespace → (reply : Reply) (found : BulkReply) → bulk_reply reply ≡ Some found
      → ReadsPage batch (begun found) true found.page paged progress → AnswersPages batch (Ok reply ∷ []) (Some progress) (Ok (Further cursor_now namespace))
  unfolding read_open
  first_open cursor cursor_now namespace now_is paged_is reply found told came =
      let reads : ReadsPage batch (begun found) true found.page (way.Open cursor namespace) progress =
      subst (λ (given : Paged). ReadsPage batch (begun found) true found.page given progress) paged_is came in
      record {
        reads = opens reply found LeavesOpen (Ok (Further cursor_now namespace)) told reads.0 (λ i. Ok (Further ((now_is ∙ reads.1) i) (reads.2 i)));
        keeps = record { read = first_read found; is = rw (told, reads.0) refl; kept = reads.3 };
      }

  -- it is the last
  pub first_last : (ended : Result (Reading R) Error) → paged ≡ way.Last → ((read : BulkRead) → IsTaken batch read progress → EndsOrLacks batch read ended)
      → (reply : Reply) (found : BulkReply) → bulk_reply reply ≡ Some found → ReadsPage batch (begun found) true found.page paged progress → AnswersPages batch (Ok reply ∷ []) None ended
  first_last ended paged_is ends reply found told came =
      let reads : ReadsPage batch (begun found) true found.page way.Last progress =
      subst (λ (given : Paged). ReadsPage batch (begun found) true found.page given progress) paged_is came in
      answered_end batch (Ok reply ∷ []) (first_read found) ended (λ lacks. lacks) (λ result. opens reply found Last result told reads.0) (ends (first_read found) reads.1)

  -- it breaks a rule
  pub first_breaks : (fault : PageFault) (error : Error) → paged ≡ way.Breaks fault
      → IsAlone (kind.InvalidResponse (fault_text fault)) no_labels error ⊎ IsAlone kind.Memory no_labels error
      → (reply : Reply) (found : BulkReply) → bulk_reply reply ≡ Some found → ReadsPage batch (begun found) true found.page paged progress → AnswersPages batch (Ok reply ∷ []) None (Err error)
  first_breaks fault error paged_is (inl alone) reply found told came =
      let reads : ReadsPage batch (begun found) true found.page (way.Breaks fault) progress =
      subst (λ (given : Paged). ReadsPage batch (begun found) true found.page given progress) paged_is came in
      record { reads = inr (λ lacks. lacks, opens reply found (Breaks fault) (Err error) told reads.0 alone); keeps = tt }
  first_breaks fault error paged_is (inr memory) reply found told came = answered_memory batch (Ok reply ∷ []) error memory.kind_is

-- what a page comes to behind others
comes : {R : Type 0} (batch : BulkBatch R) (read : BulkRead) (reply : Reply) (pages : List Page) (result : Result (Reading R) Error) → read_open batch pages ≡ Some read
    → GoesOnBulk batch read reply (next_page reply) result → AnswersBulk batch (Ok reply ∷ pages) result
unfolding read_open
comes batch read reply [] result is goes = absurd (let e : ◌≡◌ {A = Option BulkRead} None (Some read) = is in cc)
comes batch read reply (earlier ∷ pages) result is goes = subst (λ (given : Option BulkRead). ComesBehind batch given reply result) (sym is) goes

-- it is read on where it leaves its cursor open
reads_on : {R : Type 0} (batch : BulkBatch R) (read : BulkRead) (reply : Reply) (page : ResultsPage) (pages : List Page) → read_open batch pages ≡ Some read → next_page reply ≡ Some page
    → further_verdict batch read page ≡ LeavesOpen → read_open batch (Ok reply ∷ pages) ≡ Some (further_read read page)
unfolding read_open
reads_on batch read reply page [] is told leaves = absurd (let e : ◌≡◌ {A = Option BulkRead} None (Some read) = is in cc)
reads_on batch read reply page (earlier ∷ pages) is told leaves = rw (is, told, leaves) refl

-- a page that does not do
fails_at : {R : Type 0} (batch : BulkBatch R) (read : BulkRead) (reply : Reply) (text : List ℕ) (source error : Error) → (kind_of source ≡ kind.Memory) ⊎ IsOddPage reply text source
    → (kind_of error ≡ kind.Memory) ⊎ ((kind_of source ≡ kind.Memory → ⊥) × IsPageError batch read source error)
    → (kind_of error ≡ kind.Memory) ⊎ FailsAtPage batch read reply text error
fails_at batch read reply text source error odd (inl memory) = inl memory
fails_at batch read reply text source error (inl lacks) (inr is) = absurd (is.0 lacks)
fails_at batch read reply text source error (inr odd) (inr is) = inr (record { source = source; odd = odd; is = is.1 })

answered_failed : {R : Type 0} (batch : BulkBatch R) (reply : Reply) (pages : List Page) (error : Error) (claim : Type 0) → (claim → AnswersBulk batch (Ok reply ∷ pages) (Err error))
    → (kind_of error ≡ kind.Memory) ⊎ claim → AnswersPages batch (Ok reply ∷ pages) None (Err error)
answered_failed batch reply pages error claim answers (inl memory) = answered_memory batch (Ok reply ∷ pages) error memory
answered_failed batch reply pages error claim answers (inr holds) = record { reads = inr (λ lacks. lacks, answers holds); keeps = tt }

-- it has not its form
pub further_wrong : {R : Type 0} (batch : BulkBatch R) (progress : BulkProgress R) (reply : Reply) (source error : Error) → next_page reply ≡ None
    → (kind_of source ≡ kind.Memory) ⊎ IsOddPage reply odd_page_text source
    → ((read : BulkRead) → IsTaken batch read progress → (kind_of error ≡ kind.Memory) ⊎ ((kind_of source ≡ kind.Memory → ⊥) × IsPageError batch read source error))
    → (pages : List Page) → HasReadPages batch progress pages → AnswersPages batch (Ok reply ∷ pages) None (Err error)
further_wrong batch progress reply source error told odd fails pages has =
    answered_failed batch reply pages error (FailsAtPage batch has.read reply odd_page_text error)
    (λ failed. comes batch has.read reply pages (Err error) has.is (subst (λ (given : Option ResultsPage). GoesOnBulk batch has.read reply given (Err error)) (sym told) failed))
    (fails_at batch has.read reply odd_page_text source error odd (fails has.read has.kept.taken))

-- what it comes to by its fields
module _ {R : Type 0} (batch : BulkBatch R) (now : BulkProgress R) (paged : Paged) (reply : Reply) where
  goes_on : (page : ResultsPage) (read : BulkRead) (pages : List Page) (verdict : PageVerdict) (result : Result (Reading R) Error) → next_page reply ≡ Some page
      → read_open batch pages ≡ Some read → further_verdict batch read page ≡ verdict → GoesOnBy verdict batch read reply page result → AnswersBulk batch (Ok reply ∷ pages) result
  goes_on page read pages verdict result told is by goes =
      comes batch read reply pages result is
      (subst (λ (given : Option ResultsPage). GoesOnBulk batch read reply given result) (sym told) (subst (λ (given : PageVerdict). GoesOnBy given batch read reply page result) (sym by) goes))

  pub further_open : (cursor cursor_now : ℤ) (namespace : Namespace) → cursor_now ≡ cursor → paged ≡ way.Open cursor namespace → (old : BulkProgress R) (page : ResultsPage) → next_page reply ≡ Some page
      → ReadsBehind batch old now page paged → (pages : List Page) → HasReadPages batch old pages → AnswersPages batch (Ok reply ∷ pages) (Some now) (Ok (Further cursor_now namespace))
  further_open cursor cursor_now namespace now_is paged_is old page told came pages has =
      let reads : ReadsPage batch has.read false page (way.Open cursor namespace) now =
      subst (λ (given : Paged). ReadsPage batch has.read false page given now) paged_is (came has.read has.kept) in
      record {
        reads = goes_on page has.read pages LeavesOpen (Ok (Further cursor_now namespace)) told has.is reads.0 (λ i. Ok (Further ((now_is ∙ reads.1) i) (reads.2 i)));
        keeps = record { read = further_read has.read page; is = reads_on batch has.read reply page pages has.is told reads.0; kept = reads.3 };
      }

  pub further_last : (ended : Result (Reading R) Error) → paged ≡ way.Last → ((read : BulkRead) → IsTaken batch read now → EndsOrLacks batch read ended)
      → (old : BulkProgress R) (page : ResultsPage) → next_page reply ≡ Some page → ReadsBehind batch old now page paged → (pages : List Page) → HasReadPages batch old pages → AnswersPages batch (Ok reply ∷ pages) None ended
  further_last ended paged_is ends old page told came pages has =
      let reads : ReadsPage batch has.read false page way.Last now =
      subst (λ (given : Paged). ReadsPage batch has.read false page given now) paged_is (came has.read has.kept) in
      answered_end batch (Ok reply ∷ pages) (further_read has.read page) ended (λ lacks. lacks) (λ result. goes_on page has.read pages Last result told has.is reads.0)
      (ends (further_read has.read page) reads.1)

  -- then no page is behind it
  pub further_last_none : (ended : Result (Reading R) Error) → paged ≡ way.Last → ((read : BulkRead) → IsTaken batch read now → EndsOrLacks batch read ended)
      → (old : BulkProgress R) (page : ResultsPage) → next_page reply ≡ Some page → ReadsBehind batch old now page paged → (pages : List Page) → HasReadPages batch old pages → OnPage ended ⊥
  further_last_none ended paged_is ends old page told came pages has =
      let reads : ReadsPage batch has.read false page way.Last now =
      subst (λ (given : Paged). ReadsPage batch has.read false page given now) paged_is (came has.read has.kept) in
      no_page batch (further_read has.read page) ended (ends (further_read has.read page) reads.1)

  pub further_breaks : (fault : PageFault) (text : List ℕ) (source error : Error) → paged ≡ way.Breaks fault → text ≡ fault_text fault → (kind_of source ≡ kind.Memory) ⊎ IsOddPage reply text source
      → ((read : BulkRead) → IsTaken batch read now → (kind_of error ≡ kind.Memory) ⊎ ((kind_of source ≡ kind.Memory → ⊥) × IsPageError batch read source error))
      → (old : BulkProgress R) (page : ResultsPage) → next_page reply ≡ Some page → ReadsBehind batch old now page paged → (pages : List Page) → HasReadPages batch old pages → AnswersPages batch (Ok reply ∷ pages) None (Err error)
  further_breaks fault text source error paged_is text_is odd fails old page told came pages has =
      let reads : ReadsPage batch has.read false page (way.Breaks fault) now =
      subst (λ (given : Paged). ReadsPage batch has.read false page given now) paged_is (came has.read has.kept) in
      answered_failed batch reply pages error (FailsAtPage batch has.read reply (fault_text fault) error)
      (λ failed. goes_on page has.read pages (Breaks fault) (Err error) told has.is reads.0 failed)
      (fails_at batch has.read reply (fault_text fault) source error (subst (λ (said : List ℕ). (kind_of source ≡ kind.Memory) ⊎ IsOddPage reply said source) text_is odd) (fails has.read reads.1))

-- a page that did not come
pub stopped : {R : Type 0} (batch : BulkBatch R) (progress : BulkProgress R) (failure error : Error)
    → ((read : BulkRead) → IsTaken batch read progress → (kind_of error ≡ kind.Memory) ⊎ ((kind_of failure ≡ kind.Memory → ⊥) × IsPageError batch read failure error))
    → (pages : List Page) → HasReadPages batch progress pages → ReadsBulk batch (Err failure ∷ pages) (Err error)
stopped batch progress failure error fails pages has =
    elim (fails has.read has.kept.taken) [
      | inl memory ↦ inl memory
      | inr is ↦ inr (is.0, subst (λ (given : Option BulkRead). StopsAtPage batch given failure (Err error)) (sym has.is) is.1)
    ]
