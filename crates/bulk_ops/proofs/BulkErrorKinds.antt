-- An error that was read in the pages of the answer to a bulk write has a result of the kind that was asked for.
use Rattle.std.proofs.Common.{◌≡◌, ℕ, Bool, true, false, List, [], ◌∷◌, sym, subst, inl, inr}
use Rattle.std.specs.Prelude.{◌⊎◌, Option, None, Some, Result, Ok, Err, if◌then◌else◌}
use Rattle.bson_lite.specs.declared.bson.Bson.{Bson}
use Rattle.bson_lite.specs.declared.document.Pair.{Pair}
use Rattle.driver_error.specs.declared.error.Error.{Error}
use Rattle.driver_error.specs.declared.kind.ErrorKind.TheVariants as kind
use Rattle.driver_error.specs.BulkErrors.{AreOfOneKind, failures_in}
use Rattle.bulk_outcomes.specs.BulkResults.{ResultSpec}
use Rattle.driver_error.specs.Error.{ErrorKind, IsAlone, kind_of}
use Rattle.driver_error.specs.LabelTexts.{LabelSet}
use Rattle.bulk_outcomes.specs.Status.{IsBulkOfKind, IsOfKind}
use Rattle.driver_ops.specs.declared.operation.Reading.{Reading}
use Rattle.driver_ops.specs.declared.operation.Reading.TheVariants.{Page as Further}
use Rattle.driver_ops.specs.Operations.{Page}
use Rattle.bulk_ops.specs.declared.bulk_reply.BulkReply.{BulkReply}
use Rattle.bulk_ops.specs.declared.bulk_reply.ResultsPage.{ResultsPage}
use Rattle.bulk_ops.specs.declared.bulk_results.PageVerdict.{PageVerdict}
use Rattle.bulk_ops.specs.declared.bulk_results.PageVerdict.TheVariants.{Breaks, Last, LeavesOpen}
use Rattle.bulk_ops.specs.BulkAnswers.{AnswersBulk, BulkBatch, BulkRead, ComesBehind, GoesOnBulk, GoesOnBy, IsPageError, IsReadError, OpensBulk, OpensBy, ReadsBulk, StopsAtPage, first_read, first_verdict, further_read, further_verdict, read_open, result_read, stands_partial}
use Rattle.bulk_ops.specs.BulkPages.{bulk_reply, next_page}

-- the results of a type are all of one variant
abbrev pub IsOne : {R : Type 0} → ResultSpec R → Type 0
IsOne {R = R} tells = (a b : R) → AreOfOneKind (tells.partial a) (tells.partial b)

-- an error of this kind has no failures of a bulk write with a result of another variant
abbrev pub KindHas : {R : Type 0} → ResultSpec R → ErrorKind → Type 0
KindHas tells why = IsBulkOfKind tells (failures_in why)

-- what an error is told by
pub told_by : {R : Type 0} (tells : ResultSpec R) (why known : ErrorKind) → why ≡ known → KindHas tells known → KindHas tells why
told_by tells why known is has = subst (λ k. KindHas tells k) (sym is) has

-- what was read of pages
module _ {R : Type 0} (batch : BulkBatch R) (one : IsOne batch.tells) where
  part_has : (read : BulkRead) (stands : Bool) → IsOfKind batch.tells (if stands then Some (batch.tells.partial (result_read batch read)) else None)
  part_has read true = λ found. one (result_read batch read) found
  part_has read false = tt

  -- an error of what was read
  read_has : (read : BulkRead) (error : Error) → IsReadError batch read error → KindHas batch.tells (kind_of error)
  read_has read error is = told_by batch.tells (kind_of error) _ is.kind_is (part_has read (stands_partial batch read))

  page_has : (read : BulkRead) (source error : Error) → IsPageError batch read source error → KindHas batch.tells (kind_of error)
  page_has read source error is = told_by batch.tells (kind_of error) (kind_of is.bare) is.caused.kind (read_has read is.bare is.is)

  -- an error of another kind
  odd_has : (text : List ℕ) (labels : LabelSet) (error : Error) → IsAlone (kind.InvalidResponse text) labels error → KindHas batch.tells (kind_of error)
  odd_has text labels error is = told_by batch.tells (kind_of error) (kind.InvalidResponse text) is.kind_is tt

  stops_has : (read : Option BulkRead) (failure error : Error) → StopsAtPage batch read failure (Err error) → KindHas batch.tells (kind_of error)
  stops_has None failure error stops = absurd stops
  stops_has (Some read) failure error stops = page_has read failure error stops

  by_verdict : (verdict : PageVerdict) (reply : BulkReply) (error : Error) → OpensBy verdict batch reply (Err error) → KindHas batch.tells (kind_of error)
  by_verdict LeavesOpen reply error opens = absurd (let e : ◌≡◌ {A = Result (Reading R) Error} (Err error) (Ok (Further reply.page.cursor reply.page.namespace)) = opens in cc)
  by_verdict Last reply error opens = read_has (first_read reply) error opens.1
  by_verdict (Breaks fault) reply error opens = odd_has _ _ error opens

  opens_has : (reply : Option BulkReply) (error : Error) → OpensBulk batch reply (Err error) → KindHas batch.tells (kind_of error)
  opens_has None error opens = odd_has _ _ error opens
  opens_has (Some reply) error opens = by_verdict (first_verdict batch reply) reply error opens

  behind_by : (verdict : PageVerdict) (read : BulkRead) (reply : List (Pair Bson)) (page : ResultsPage) (error : Error) → GoesOnBy verdict batch read reply page (Err error) → KindHas batch.tells (kind_of error)
  behind_by LeavesOpen read reply page error goes = absurd (let e : ◌≡◌ {A = Result (Reading R) Error} (Err error) (Ok (Further page.cursor page.namespace)) = goes in cc)
  behind_by Last read reply page error goes = read_has (further_read read page) error goes.1
  behind_by (Breaks fault) read reply page error goes = page_has read goes.source error goes.is

  behind_has : (read : BulkRead) (reply : List (Pair Bson)) (page : Option ResultsPage) (error : Error) → GoesOnBulk batch read reply page (Err error) → KindHas batch.tells (kind_of error)
  behind_has read reply None error goes = page_has read goes.source error goes.is
  behind_has read reply (Some page) error goes = behind_by (further_verdict batch read page) read reply page error goes

  comes_has : (read : Option BulkRead) (reply : List (Pair Bson)) (error : Error) → ComesBehind batch read reply (Err error) → KindHas batch.tells (kind_of error)
  comes_has None reply error comes = absurd comes
  comes_has (Some read) reply error comes = behind_has read reply (next_page reply) error comes

  answers_has : (pages : List Page) (error : Error) → AnswersBulk batch pages (Err error) → KindHas batch.tells (kind_of error)
  answers_has [] error answers = absurd answers
  answers_has (Err failure ∷ pages) error answers = stops_has (read_open batch pages) failure error answers
  answers_has (Ok reply ∷ []) error answers = opens_has (bulk_reply reply) error answers
  answers_has (Ok reply ∷ earlier ∷ pages) error answers = comes_has (read_open batch (earlier ∷ pages)) reply error answers

  -- an error that was read
  pub reads_has : (pages : List Page) (error : Error) → ReadsBulk batch pages (Err error) → KindHas batch.tells (kind_of error)
  reads_has pages error reads = elim reads [
    | inl memory ↦ told_by batch.tells (kind_of error) kind.Memory memory tt
    | inr parts ↦ answers_has pages error parts.1
  ]
