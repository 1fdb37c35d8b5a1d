-- The exchanges behind a command, from the reply and the pages that were read one after another.
use Rattle.std.proofs.Common.{◌≡◌, ℕ, List, [], ◌∷◌, ◌++◌, refl, sym, ap, subst, ◌∙◌, inl, inr}
use Rattle.std.specs.Prelude.{ℤ, Bool, true, false, ◌&&◌, ◌||◌, not, Option, None, Some, is_some, is_ok, Result, Ok, Err, IfErr, IfOk}
use Rattle.bson_lite.specs.declared.bson.Bson.{Bson}
use Rattle.bson_lite.specs.declared.document.Pair.{Pair}
use Rattle.bson_lite.specs.declared.namespace.Namespace.{Namespace}
use Rattle.driver_error.specs.declared.error.Error.{Error}
use Rattle.driver_error.specs.Error.{HasResponse, kind_of, source_of}
use Rattle.driver_options.specs.declared.options.Conn.{Conn}
use Rattle.driver_options.specs.declared.options.Description.{Description}
use Rattle.link_faults.specs.declared.fault.LinkError.{LinkError}
use Rattle.link_faults.specs.declared.fault.LinkError.TheVariants.{Fault, Memory}
use Rattle.driver_link.specs.declared.machine.Send.{Send}
use Rattle.driver_link.specs.declared.machine.SendBody.{SendBody}
use Rattle.driver_link.specs.declared.machine.SendBody.TheVariants.{More}
use Rattle.driver_link.specs.Framed.{Framed}
use Rattle.driver_link.specs.LinkCalls.{ExchangesFrame}
use Rattle.driver_link.specs.LinkState.{LinkState}
use Rattle.driver_link.specs.Reads.{Reads}
use Rattle.driver_session.specs.declared.retryability.Retryability.TheVariants as may
use Rattle.driver_ops.specs.declared.get_more.GetMore.{GetMore}
use Rattle.driver_ops.specs.declared.operation.Reading.{Reading}
use Rattle.driver_ops.specs.declared.operation.Reading.TheVariants.{Done, Page as Further}
use Rattle.driver_ops.specs.declared.response.CommandResponse.{CommandResponse}
use Rattle.driver_ops.specs.declared.command.Command.{Command}
use Rattle.driver_ops.specs.declared.target.OperationTarget.{OperationTarget}
use Rattle.driver_ops.specs.Fields.{FramesUnder, under}
use Rattle.driver_ops.specs.GetMores.{at_namespace, more_spec}
use Rattle.driver_ops.specs.OperationLaw.{IsLawful}
use Rattle.driver_ops.specs.Operations.{BuildsCommand, HasBodies, IsBuilt, IsFixed, OperationSpec, Page, ReadsPages, ReadsPagesError, SameSpec, send_of}
use Rattle.driver_ops.specs.Responses.{ReadsResponse}
use Rattle.driver_ops.specs.SendKinds.{SendKind, first}
use Rattle.driver_ops.proofs.Frames.{reads_as_asked}
use Rattle.driver_attempt.specs.AttemptExchanges.{AsksPage, AsksPages, AttemptExchanges, EndsCursorWhere, EndsPages, Exchanges, PageAsked, PageCame, ends_cursor, held_after, held_after_answer, no_statements, pages_of, is_lost_page}
use Rattle.driver_attempt.specs.Failures.{IsFaultOf}
use Rattle.driver_attempt.specs.Holding.{ExecutionSession, held_id}
use Rattle.driver_attempt.specs.inside.AttemptExchanges.{AsksFor, AsksFrom, AsksOn, EndsAskedCursor, EndsWhere, EndsWithError, GoesOnBehind, GoesOnOrEnds, KeepsFirst, ReadsFrom, ReadsNextPage, page_in}
use Rattle.driver_attempt.specs.inside.Failures.{FaultError}

-- an error that keeps a reply ends its cursor as before
ends_same : (page : Page) (error now : Error) (bytes : List ℕ) → HasResponse (Some bytes) error now → ends_cursor page now ≡ ends_cursor page error
ends_same (Ok reply) error now bytes kept = ap is_some kept.source
ends_same (Err failure) error now bytes kept = refl

module _ {A : Type 0} (spec : OperationSpec A) (statements : ℕ) (bytes : List ℕ) (conn : Conn) where
  -- the reply itself spells an error
  pub spelled_alone : (session : Option (List ℕ)) (link : LinkState) (held : ExecutionSession) (error : Error) → ReadsResponse bytes (Err error)
      → AttemptExchanges spec statements bytes conn session link link held held (Err error)
  spelled_alone session link held error spelled = record { asked = []; mid = link; asks = refl; ends = (inl spelled, refl); held_is = refl }

  module _ (response : CommandResponse) (done : ReadsResponse bytes (Ok response)) where
    -- what is read in the reply ends the answer
    alone_reads : (reading : Result (Reading A) Error) (answer result : Result A Error) → spec.reads statements (Ok response.body ∷ []) reading → GoesOnOrEnds reading (Err answer) → KeepsFirst bytes answer result
        → ReadsPages spec statements bytes [] result
    alone_reads (Ok (Further cursor namespace)) answer result reads ends keeps = absurd ends
    alone_reads (Ok (Done output)) answer result reads ends keeps =
        let is = subst (λ a. KeepsFirst bytes a result) ends keeps in
        subst (ReadsPages spec statements bytes []) (sym is) (record { response = response; done = done; reads = reads })
    alone_reads (Err error) answer result reads ends keeps = of_error result (subst (λ a. KeepsFirst bytes a result) ends keeps)
      where
        of_error : (result : Result A Error) → KeepsFirst bytes (Err error) result → ReadsPages spec statements bytes [] result
        of_error (Ok output) kept = absurd kept
        of_error (Err now) kept = elim kept [
          | inl memory ↦ inr (inr memory)
          | inr has ↦ inr (inl (record { response = response; done = done; bare = error; reads = reads; kept = has }))
        ]

    pub reads_alone : (session : Option (List ℕ)) (link : LinkState) (held : ExecutionSession) (reading : Result (Reading A) Error) (answer result : Result A Error) → spec.reads statements (Ok response.body ∷ []) reading
        → GoesOnOrEnds reading (Err answer) → KeepsFirst bytes answer result → AttemptExchanges spec statements bytes conn session link link held held result
    reads_alone session link held reading answer result reads ends keeps =
        record { asked = []; mid = link; asks = refl; ends = (alone_reads reading answer result reads ends keeps, refl); held_is = refl }

    -- questions behind the reply
    asks_behind : (session : Option (List ℕ)) (link : LinkState) (asked : List PageAsked) (mid : LinkState) → AsksFrom spec statements (Ok response.body) conn session link asked mid
        → AsksPages spec statements bytes conn session link asked mid
    asks_behind session link [] mid same = same
    asks_behind session link (last ∷ earlier) mid asks =
        (asks.0, (asks_behind session link earlier asks.0 asks.1.0, record { response = response; done = done; reads = asks.1.1 }, asks.1.2))

    -- what ends them
    module _ (link now : LinkState) (last : PageAsked) (earlier : List PageAsked) where
      abbrev Ends : Result A Error → Type 0
      Ends result = EndsPages spec statements bytes conn link now (last ∷ earlier) result

      fails_so : (error ended final : Error) → spec.reads statements (pages_of (last ∷ earlier) ++ Ok response.body ∷ []) (Err error) → EndsWithError conn link now last error ended
          → KeepsFirst {A = A} bytes (Err ended) (Err final) → Ends (Err final)
      fails_so error ended final reads ends keeps = elim ends [
        | inl found ↦ elim keeps [
          | inl memory ↦ inr (record { why = memory; response = response; done = done; bare = error; reads = reads; may = inr found.1 })
          | inr has ↦
              let kept : HasResponse (Some bytes) error final = subst (λ e. HasResponse (Some bytes) e final) found.0 has in
              let told : ReadsPagesError spec statements bytes (pages_of (last ∷ earlier)) final = record { response = response; done = done; bare = error; reads = reads; kept = kept } in
              inl (record {
                reads = told;
                ends = subst (λ b. EndsCursorWhere b conn link now last) (sym (ends_same last.page error final bytes kept)) found.1;
              })
        ]
        | inr memory ↦ elim keeps [
          | inl lacks ↦ inr (record { why = lacks; response = response; done = done; bare = error; reads = reads; may = inl memory.1 })
          | inr has ↦ inr (record { why = has.kind ∙ memory.0; response = response; done = done; bare = error; reads = reads; may = inl memory.1 })
        ]
      ]

      ends_so : (reading : Result (Reading A) Error) (answer result : Result A Error) → spec.reads statements (pages_of (last ∷ earlier) ++ Ok response.body ∷ []) reading → GoesOnBehind conn link now last reading (Err answer)
          → KeepsFirst bytes answer result → Ends result
      ends_so (Ok (Further cursor namespace)) answer result reads goes keeps = absurd goes
      ends_so (Ok (Done output)) answer result reads goes keeps =
          let is = subst (λ a. KeepsFirst bytes a result) goes.0 keeps in
          subst Ends (sym is) (record { response = response; done = done; reads = reads }, goes.1)
      ends_so (Err error) (Ok output) result reads goes keeps = absurd goes
      ends_so (Err error) (Err ended) (Ok output) reads goes keeps = absurd keeps
      ends_so (Err error) (Err ended) (Err final) reads goes keeps = fails_so error ended final reads goes keeps

    -- the pages behind the reply
    pub reads_further : (session : Option (List ℕ)) (link link_now : LinkState) (held held_now : ExecutionSession) (answer result : Result A Error)
        → ReadsFrom spec statements (Ok response.body) conn session link link_now held held_now answer → KeepsFirst bytes answer result
        → AttemptExchanges spec statements bytes conn session link link_now held held_now result
    reads_further session link link_now held held_now answer result reads keeps = record {
      asked = reads.last ∷ reads.earlier;
      mid = reads.mid;
      asks = asks_behind session link (reads.last ∷ reads.earlier) reads.mid reads.asks;
      ends = ends_so reads.mid link_now reads.last reads.earlier reads.reading answer result reads.reads reads.ends keeps;
      held_is = reads.held_is;
    }

-- a page that came left what is held as it was
came_held : (conn : Conn) (session : Option (List ℕ)) (link now : LinkState) (asked : PageAsked) (page : List (Pair Bson)) (held : ExecutionSession) → asked.page ≡ Ok page → AsksPage conn session link now asked
    → held_after_answer asked.answered held ≡ held
came_held conn session link now asked page held is asks = elim asks [
  | inl out ↦ ap (λ answered. held_after_answer answered held) out.answered_is ∙ of_result out.result (subst (PageCame out.result) is out.came)
  | inr lacks ↦ absurd (ok_err lacks.failure (sym is ∙ lacks.page_is))
]
  where
    ok_err : (failure : Error) → ◌≡◌ {A = Page} (Ok page) (Err failure) → ⊥
    ok_err failure same = cc

    of_result : (result : Result (List ℕ) LinkError) → PageCame result (Ok page) → held_after result held ≡ held
    of_result (Ok bytes) came = refl
    of_result (Err cause) came = absurd came

-- the questions so far behind a first page, each of which came and left a cursor open
pub record AskedSoFar {A : Type 0} (spec : OperationSpec A) (statements : ℕ) (begun : Page) (conn : Conn) (session : Option (List ℕ)) (link link_now : LinkState) (held held_now : ExecutionSession) (asked : List PageAsked) (more : GetMore) : Type 0 where
  pub asks : AsksFrom spec statements begun conn session link asked link_now
  pub same : held_now ≡ held
  pub namespace : Namespace
  pub cursor : ℤ
  pub next : AsksFor namespace cursor more
  pub left : spec.reads statements (pages_of asked ++ begun ∷ []) (Ok (Further cursor namespace))

module _ {A : Type 0} (spec : OperationSpec A) (lawful : IsLawful spec) (statements : ℕ) (begun : Page) (conn : Conn) (session : Option (List ℕ)) (link : LinkState) (held : ExecutionSession) where
  pub asked_none : (more : GetMore) (namespace : Namespace) (cursor : ℤ) → AsksFor namespace cursor more → spec.reads statements (begun ∷ []) (Ok (Further cursor namespace))
      → AskedSoFar spec statements begun conn session link link held held [] more
  asked_none more namespace cursor next left = record { asks = refl; same = refl; namespace = namespace; cursor = cursor; next = next; left = left }

  module _ (mid now : LinkState) (held_mid held_now : ExecutionSession) (asked : List PageAsked) (more : GetMore) (so_far : AskedSoFar spec statements begun conn session link mid held held_mid asked more)
      (page : Page) (next : Result GetMore (Result A Error)) (reads : ReadsNextPage spec statements conn session mid now so_far.namespace so_far.cursor (pages_of asked ++ begun ∷ []) page held_mid held_now next) where
    -- the question that was asked
    abbrev pub newest : PageAsked
    newest = record { cursor = so_far.cursor; namespace = so_far.namespace; answered = reads.asks.answered; page = page }

    asks_newest : AsksFrom spec statements begun conn session link (newest ∷ asked) reads.mid
    asks_newest = (mid, (so_far.asks, so_far.left, reads.asks.asks))

    -- there is one more
    pub asked_more : (found : GetMore) → next ≡ Ok found → AskedSoFar spec statements begun conn session link now held held_now (newest ∷ asked) found
    asked_more found is = by_reading reads.reading refl (subst (GoesOnBehind conn reads.mid now newest reads.reading) is reads.goes)
      where
        by_page : (found : Page) (reading : Reading A) → page ≡ found → spec.reads statements (page ∷ pages_of asked ++ begun ∷ []) (Ok reading) → held_now ≡ held_mid
        by_page (Ok came) reading is_page is_read = reads.asks.held_is ∙ came_held conn session mid reads.mid newest came held_mid is_page reads.asks.asks
        by_page (Err failure) reading is_page is_read =
            absurd (lawful.failed statements failure (pages_of asked ++ begun ∷ []) reading (subst (λ p. spec.reads statements (p ∷ pages_of asked ++ begun ∷ []) (Ok reading)) is_page is_read))

        by_reading : (reading : Result (Reading A) Error) → reads.reading ≡ reading → GoesOnBehind conn reads.mid now newest reading (Ok found)
            → AskedSoFar spec statements begun conn session link now held held_now (newest ∷ asked) found
        by_reading (Ok (Further cursor namespace)) is_reading goes =
            let is_read = subst (λ r. spec.reads statements (page ∷ pages_of asked ++ begun ∷ []) r) is_reading reads.reads in record {
              asks = subst (λ l. AsksFrom spec statements begun conn session link (newest ∷ asked) l) (sym goes.1) asks_newest;
              same = by_page page (Further cursor namespace) refl is_read ∙ so_far.same;
              namespace = namespace;
              cursor = cursor;
              next = goes.0;
              left = is_read;
            }
        by_reading (Ok (Done output)) is_reading goes = absurd goes
        by_reading (Err error) is_reading goes = absurd goes

    -- the answer ends
    pub asked_last : (answer : Result A Error) → next ≡ Err answer → ReadsFrom spec statements begun conn session link now held held_now answer
    asked_last answer is = record {
      last = newest;
      earlier = asked;
      mid = reads.mid;
      asks = asks_newest;
      reading = reads.reading;
      reads = reads.reads;
      ends = subst (GoesOnBehind conn reads.mid now newest reads.reading) is reads.goes;
      held_is = subst (λ h. held_now ≡ held_after_answer reads.asks.answered h) so_far.same reads.asks.held_is;
    }

-- there is a question exactly where a cursor is open
pub record GoesOn {A : Type 0} (reading : Result (Reading A) Error) (more : GetMore) : Type 0 where
  pub namespace : Namespace
  pub cursor : ℤ
  pub is : reading ≡ Ok (Further cursor namespace)
  pub asks : AsksFor namespace cursor more

pub goes_on : {A : Type 0} (reading : Result (Reading A) Error) (more : GetMore) → GoesOnOrEnds reading (Ok more) → GoesOn reading more
goes_on (Ok (Further cursor namespace)) more goes = record { namespace = namespace; cursor = cursor; is = refl; asks = goes }
goes_on (Ok (Done output)) more goes = absurd goes
goes_on (Err error) more goes = absurd goes

-- an operation tells before and now the same
module _ {A : Type 0} (old now : OperationSpec A) (same : SameSpec old now) (statements : ℕ) (conn : Conn) (session : Option (List ℕ)) where
  pub next_page_same : (link link_now : LinkState) (namespace : Namespace) (cursor : ℤ) (pages : List Page) (page : Page) (held held_now : ExecutionSession) (next : Result GetMore (Result A Error))
      → ReadsNextPage now statements conn session link link_now namespace cursor pages page held held_now next → ReadsNextPage old statements conn session link link_now namespace cursor pages page held held_now next
  next_page_same link link_now namespace cursor pages page held held_now next reads = record {
    mid = reads.mid;
    asks = reads.asks;
    reading = reads.reading;
    reads = (same.reads statements (page ∷ pages) reads.reading).1 reads.reads;
    goes = reads.goes;
  }

  asks_from_same : (begun : Page) (link : LinkState) (asked : List PageAsked) (mid : LinkState) → AsksFrom now statements begun conn session link asked mid → AsksFrom old statements begun conn session link asked mid
  asks_from_same begun link [] mid asks = asks
  asks_from_same begun link (last ∷ earlier) mid asks = (
    asks.0,
    (
      asks_from_same begun link earlier asks.0 asks.1.0,
      (same.reads statements (pages_of earlier ++ begun ∷ []) (Ok (Further last.cursor last.namespace))).1 asks.1.1,
      asks.1.2,
    ),
  )

  pub reads_from_same : (begun : Page) (link link_now : LinkState) (held held_now : ExecutionSession) (answer : Result A Error) → ReadsFrom now statements begun conn session link link_now held held_now answer
      → ReadsFrom old statements begun conn session link link_now held held_now answer
  reads_from_same begun link link_now held held_now answer reads = record {
    last = reads.last;
    earlier = reads.earlier;
    mid = reads.mid;
    asks = asks_from_same begun link (reads.last ∷ reads.earlier) reads.mid reads.asks;
    reading = reads.reading;
    reads = (same.reads statements (pages_of (reads.last ∷ reads.earlier) ++ begun ∷ []) reads.reading).1 reads.reads;
    ends = reads.ends;
    held_is = reads.held_is;
  }

-- the page in a reply
pub page_of_reply : (bytes : List ℕ) (result : Result CommandResponse Error) → ReadsResponse bytes result → PageCame (Ok bytes) (page_in result)
page_of_reply bytes (Ok response) done = (response, (done, refl))
page_of_reply bytes (Err failure) spelled = spelled

-- and of an exchange that failed
pub page_of_failure : (failure : LinkError) (told : Result Error Error) (error : Error) → FaultError failure may.None told → IfOk told (λ found. error ≡ found) → IfErr told (λ found. error ≡ found)
    → PageCame (Err failure) (Err error)
page_of_failure (Fault fault labels) (Ok found) error is ok err = inl (subst (IsFaultOf fault labels may.None) (sym ok) is)
page_of_failure (Fault fault labels) (Err found) error memory ok err = inr (ap kind_of err ∙ memory.kind_is)
page_of_failure Memory (Ok found) error is ok err = absurd is
page_of_failure Memory (Err found) error memory ok err = ap kind_of err ∙ memory.kind_is

-- a question that was answered
module _ (conn : Conn) (session : Option (List ℕ)) (link now : LinkState) (namespace : Namespace) (cursor : ℤ) (held held_now : ExecutionSession) (page : Page) where
  abbrev MoreSpec : OperationSpec (List (Pair Bson))
  MoreSpec = more_spec (at_namespace namespace) cursor

  pub asks_on : (result : Result (List ℕ) LinkError) → Exchanges MoreSpec first no_statements link now conn (under session None) result → PageCame result page → held_now ≡ held_after result held
      → AsksOn conn session link now namespace cursor held held_now page
  asks_on result exchanges came held_is =
      record { answered = Some result; asks = inl (record { result = result; answered_is = refl; exchanges = exchanges; came = came }); held_is = held_is }

-- the question for a page tells which page it is for
more_number : (a b : ℤ) → ◌≡◌ {A = SendBody} (More a) (More b) → a ≡ b
more_number a b same = cc

abbrev more_at : OperationTarget → ℤ → GetMore
more_at goal cursor = record { target = goal; cursor = cursor }

pub more_same : (old now : GetMore) → SameSpec (more_spec old.target old.cursor) (more_spec now.target now.cursor) → now ≡ old
more_same old now same =
    let asked = (same.bodies 0 [] (More now.cursor)).1 (record { none = refl; alone = refl; is = refl }) in
    ap (λ goal. more_at goal now.cursor) same.target ∙ ap (λ cursor. more_at old.target cursor) (more_number now.cursor old.cursor asked.is)

-- a question by the command that asks it
module _ (conn : Conn) (session : Option (List ℕ)) (link now : LinkState) (namespace : Namespace) (cursor : ℤ) (held held_now : ExecutionSession) (page : Page) (more : GetMore) (asks : AsksFor namespace cursor more) where
  pub more_on : (result : Result (List ℕ) LinkError) → Exchanges (more_spec more.target more.cursor) first no_statements link now conn (under session None) result → PageCame result page → held_now ≡ held_after result held
      → AsksOn conn session link now namespace cursor held held_now page
  more_on result exchanges came held_is =
      asks_on conn session link now namespace cursor held held_now page result
      (subst (λ goal. Exchanges (more_spec goal cursor) first no_statements link now conn (under session None) result) asks.0
      (subst (λ number. Exchanges (more_spec more.target number) first no_statements link now conn (under session None) result) asks.1 exchanges)) came held_is

-- a page failed exactly where its cursor is ended, beside one that was lost
pub where_failed : (page : Page) (error : Error) → ends_cursor page error ≡ (not (is_lost_page page) && (not (is_ok page) || is_some (source_of error)))
where_failed (Ok reply) error = refl
where_failed (Err failure) error = by_test (is_lost_page (Err failure))
  where
    by_test : (lost : Bool) → not lost ≡ (not lost && true)
    by_test true = refl
    by_test false = refl

-- the same by what was told of the response
pub where_told : (told : Result CommandResponse Error) (lost came : Bool) (error : Error) → lost ≡ is_lost_page (page_in told) → came ≡ is_ok told
    → (not lost && (not came || is_some (source_of error))) ≡ ends_cursor (page_in told) error
where_told (Ok response) lost came error lost_is came_is =
    ap (λ l. not l && (not came || is_some (source_of error))) lost_is ∙ ap (λ k. not k || is_some (source_of error)) came_is
where_told (Err failure) lost came error lost_is came_is =
    ap (λ l. not l && (not came || is_some (source_of error))) lost_is ∙ ap (λ k. not (is_lost_page (Err failure)) && (not k || is_some (source_of error))) came_is
    ∙ sym (where_failed (Err failure) error)

-- what comes behind a page by what was read in it
module _ {A : Type 0} (conn : Conn) (link : LinkState) (asked : PageAsked) where
  pub behind_next : (reading : Result (Reading A) Error) (more : GetMore) → GoesOnOrEnds reading (Ok more) → GoesOnBehind conn link link asked reading (Ok more)
  behind_next (Ok (Further cursor namespace)) more goes = (goes, refl)
  behind_next (Ok (Done output)) more goes = absurd goes
  behind_next (Err error) more goes = absurd goes

  pub behind_output : (reading : Result (Reading A) Error) (output : A) → GoesOnOrEnds reading (Err (Ok output)) → GoesOnBehind conn link link asked reading (Err (Ok output))
  behind_output (Ok (Further cursor namespace)) output goes = absurd goes
  behind_output (Ok (Done told)) output goes = (goes, refl)
  behind_output (Err error) output goes = absurd (ok_err goes)
    where
      ok_err : ◌≡◌ {A = Result A Error} (Ok output) (Err error) → ⊥
      ok_err same = cc

  -- an error stays, and its cursor is not ended
  pub behind_kept : (reading : Result (Reading A) Error) (error : Error) → GoesOnOrEnds reading (Err (Err error)) → ends_cursor asked.page error ≡ false → GoesOnBehind conn link link asked reading (Err (Err error))
  behind_kept (Ok (Further cursor namespace)) error goes none = absurd goes
  behind_kept (Ok (Done told)) error goes none = absurd (let e : ◌≡◌ {A = Result A Error} (Err error) (Ok told) = goes in cc)
  behind_kept (Err read) error goes none =
      let same : error ≡ read = let e : ◌≡◌ {A = Result A Error} (Err error) (Err read) = goes in cc in
      inl (same, subst (λ e. EndsCursorWhere (ends_cursor asked.page e) conn link link asked) same (subst (λ b. EndsCursorWhere b conn link link asked) (sym none) refl))

  -- its cursor is ended
  pub behind_ended : (now : LinkState) (reading : Result (Reading A) Error) (error ended : Error) → GoesOnOrEnds reading (Err (Err error)) → ends_cursor asked.page error ≡ true
      → EndsAskedCursor conn link now asked.namespace asked.cursor error ended → GoesOnBehind conn link now asked reading (Err (Err ended))
  behind_ended now (Ok (Further cursor namespace)) error ended goes some ends = absurd goes
  behind_ended now (Ok (Done told)) error ended goes some ends = absurd (let e : ◌≡◌ {A = Result A Error} (Err error) (Ok told) = goes in cc)
  behind_ended now (Err read) error ended goes some ends =
      let same : error ≡ read = let e : ◌≡◌ {A = Result A Error} (Err error) (Err read) = goes in cc in elim ends [
        | inl found ↦ inl (
          found.0 ∙ same,
          subst (λ e. EndsCursorWhere (ends_cursor asked.page e) conn link now asked) same
              (subst (λ b. EndsCursorWhere b conn link now asked) (sym some) (found.1 asked.page asked.answered)),
        )
        | inr memory ↦ inr memory
      ]

  -- it is ended or is not
  pub behind_where : (now : LinkState) (reading : Result (Reading A) Error) (error ended : Error) (is : Bool) → GoesOnOrEnds reading (Err (Err error)) → is ≡ ends_cursor asked.page error
      → EndsWhere is conn link now asked.namespace asked.cursor error ended → GoesOnBehind conn link now asked reading (Err (Err ended))
  behind_where now reading error ended true goes is ends = behind_ended now reading error ended goes (sym is) ends
  behind_where now reading error ended false goes is ends =
      subst (λ l. GoesOnBehind conn link l asked reading (Err (Err ended))) (sym ends.0)
      (subst (λ e. GoesOnBehind conn link link asked reading (Err (Err e))) (sym ends.1) (behind_kept reading error goes (sym is)))

-- the questions so far with these pages
pub record PagesSoFar {A : Type 0} (spec : OperationSpec A) (statements : ℕ) (begun : Page) (conn : Conn) (link link_now : LinkState) (held held_now : ExecutionSession) (pages : List Page) (more : GetMore) : Type 0 where
  pub asked : List PageAsked
  pub are : pages_of asked ≡ pages
  pub so_far : AskedSoFar spec statements begun conn (held_id held) link link_now held held_now asked more

module _ {A : Type 0} (old now : OperationSpec A) (same : SameSpec old now) (lawful : IsLawful old) (statements : ℕ) (begun : Page) (conn : Conn) (link mid link_now : LinkState) (held held_mid held_now : ExecutionSession) (pages : List Page) (more : GetMore)
    (so_far : PagesSoFar old statements begun conn link mid held held_mid pages more) (page : Page) (next : Result GetMore (Result A Error))
    (reads : ReadsNextPage now statements conn (held_id held_mid) mid link_now so_far.so_far.namespace so_far.so_far.cursor (pages ++ begun ∷ []) page held_mid held_now next) where
  -- the page is one behind those, of the operation as it was
  abbrev Next : Option (List ℕ) → List Page → Type 0
  Next session behind = ReadsNextPage old statements conn session mid link_now so_far.so_far.namespace so_far.so_far.cursor (behind ++ begun ∷ []) page held_mid held_now next

  reads_old : Next (held_id held) (pages_of so_far.asked)
  reads_old =
      subst (Next (held_id held)) (sym so_far.are)
      (subst (λ session. Next session pages) (ap held_id so_far.so_far.same)
      (next_page_same old now same statements conn (held_id held_mid) mid link_now so_far.so_far.namespace so_far.so_far.cursor (pages ++ begun ∷ []) page held_mid held_now next reads))

  -- one page more
  pub pages_more : (found : GetMore) → next ≡ Ok found → PagesSoFar old statements begun conn link link_now held held_now (page ∷ pages) found
  pages_more found is = record {
    asked = newest old lawful statements begun conn (held_id held) link held mid link_now held_mid held_now so_far.asked more so_far.so_far page next reads_old ∷ so_far.asked;
    are = ap (λ rest. page ∷ rest) so_far.are;
    so_far = asked_more old lawful statements begun conn (held_id held) link held mid link_now held_mid held_now so_far.asked more so_far.so_far page next reads_old found is;
  }

  -- the answer ends
  pub pages_last : (answer : Result A Error) → next ≡ Err answer → ReadsFrom old statements begun conn (held_id held) link link_now held held_now answer
  pages_last answer is = asked_last old lawful statements begun conn (held_id held) link held mid link_now held_mid held_now so_far.asked more so_far.so_far page next reads_old answer is

-- a command without writes, built and framed under a session or none
module _ {B : Type 0} (spec : OperationSpec B) (which : SendKind) (description : Description) (before now : Option ℕ) (session : Option (List ℕ)) (none : (statements : ℕ) → IsFixed before statements → statements ≡ 0) where
  module _ (command : Command) (built : BuildsCommand spec which description before now command) where
    built_none : IsBuilt spec which 0 command
    built_none = subst (λ n. IsBuilt spec which n command) (none built.statements built.fixed) built.built

    -- it went out
    pub aside_out : (link link_now : LinkState) (conn : Conn) (frame : Framed) (result : Result (List ℕ) LinkError) → FramesUnder (under session None) command (Ok frame) → ExchangesFrame link link_now conn frame [] result
        → Exchanges spec which no_statements link link_now conn (under session None) result
    aside_out link link_now conn frame result framed exchanges = record {
      frame = frame;
      framed = record { command = command; built = built_none; is = framed.1 };
      reads = reads_as_asked spec which no_statements (under session None) command frame framed.0 built_none framed.1;
      exchanges = exchanges;
    }

    -- it reads as a send
    pub aside_reads : HasBodies spec [] → (frame : Framed) → FramesUnder (under session None) command (Ok frame) → (sent : Send) × Reads frame [] sent
    aside_reads bodies frame framed =
        let body = bodies which 0 command built_none.is in
        (send_of (under session None) body.0, reads_as_asked spec which no_statements (under session None) command frame framed.0 built_none framed.1 body.0 body.1)
