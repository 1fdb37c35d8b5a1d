-- Over the machine's own reply an insert is read exactly as its statements ended.
use Rattle.std.proofs.Common.{◌≡◌, ℕ, zero, suc, ◌+◌, Bool, true, false, ◌&&◌, List, [], ◌∷◌, ◌++◌, length, take, refl, sym, ap, subst, ◌∙◌, inl, inr, arith}
use Rattle.std.specs.Prelude.{Option, None, Some, ◌⊎◌, Err, is_none}
use Rattle.std.specs.Option.{option_map}
use Rattle.bson_lite.specs.declared.bson.Bson.{Bson}
use Rattle.bson_lite.specs.declared.document.Pair.{Pair}
use Rattle.bson_lite.specs.declared.namespace.Namespace.{Namespace}
use Rattle.bson_lite.specs.Spelling.{Spells}
use Rattle.driver_error.specs.declared.error.Error.{Error}
use Rattle.driver_error.specs.declared.kind.ErrorKind.TheVariants as kind
use Rattle.server_answers.specs.declared.results.InsertManyResult.{InsertManyResult}
use Rattle.driver_error.specs.declared.write.IndexedWriteError.{IndexedWriteError}
use Rattle.driver_error.specs.declared.write.InsertManyError.{InsertManyError}
use Rattle.driver_error.specs.Error.{kind_of}
use Rattle.driver_error.specs.Kinds.{labels_of_concern}
use Rattle.driver_error.specs.LabelTexts.{label_set, no_labels}
use Rattle.driver_options.specs.declared.write_options.InsertManyOptions.{InsertManyOptions}
use Rattle.driver_link.specs.declared.machine.Place.{Place}
use Rattle.driver_link.specs.declared.machine.PlacedWrite.{PlacedWrite}
use Rattle.driver_link.specs.declared.machine.PlannedConcern.{PlannedConcern}
use Rattle.driver_link.specs.declared.machine.Scheduled.{Scheduled}
use Rattle.driver_link.specs.declared.machine.Send.{Send}
use Rattle.driver_link.specs.declared.machine.Server.{Server}
use Rattle.driver_link.specs.declared.machine.Statement.{Statement}
use Rattle.driver_link.specs.declared.machine.Statement.TheVariants.{Kept, Ran, Failed}
use Rattle.driver_link.specs.Cursors.{Reply}
use Rattle.driver_link.specs.Exchange.{after_picks, answered, traced}
use Rattle.driver_link.specs.Numbers.{reply_number}
use Rattle.driver_link.specs.Replies.{write_errors}
use Rattle.driver_link.specs.Settled.{IsWrite}
use Rattle.driver_link.specs.Statements.{has_failed}
use Rattle.driver_ops.specs.declared.target.OperationTarget.{OperationTarget}
use Rattle.driver_ops.specs.Inserts.{insert_is_ordered, insert_writes}
use Rattle.driver_ops.specs.OperationLaw.{TellsOutput}
use Rattle.driver_ops.specs.Operations.{OperationSpec, ReadsAnswer, ReadsOutput}
use Rattle.driver_ops.specs.Served.{statements_in}
use Rattle.driver_ops.specs.Targets.{namespace_of}
use Rattle.driver_ops.specs.lawful.InsertRead.{differ}
use Rattle.write_ops.specs.declared.own_document.OwnDocument.{OwnDocument}
use Rattle.write_ops.specs.InsertAnswers.{errors_there, failures_of, is_unfailed, tells_of_all}
use Rattle.write_ops.specs.InsertLaw.{AddsUp, CountsDocuments, ExchangesInsert, IsReadExactly, TellsFailures, concern_told, errors_told, failures_told}
use Rattle.statement_ops.specs.StatementLaw.{planned_concern}
use Rattle.write_ops.specs.InsertLawful.{Ids, insert_lawful}
use Rattle.write_ops.specs.InsertSpec.{AreOwn, insert_spec}
use Rattle.write_ops.specs.lawful.InsertFields.{fields_told, reply_read, reply_to, sum_in}
use Rattle.write_ops.specs.lawful.InsertReplies.{EndAs, IsInsertSend, IsInsertTold, insert_told, told_by_reading, unfailed_told}
use Rattle.write_ops.proofs.InsertCounts.{counts_from, counts_only}
use Rattle.write_ops.proofs.InsertIds.{ids_told_ended}
use Rattle.write_ops.proofs.InsertReading.{failures_read, many, odd_read, reply_said, taken, taken_only}

-- there are as many writes as documents in the front
writes_length : (namespace : Namespace) (count : ℕ) (documents : List (List (Pair Bson))) (own : List OwnDocument) (places : List Place) → AreOwn documents own → length places ≡ length own
    → length (insert_writes namespace (take count documents) (take count places)) ≡ length (take count own)
writes_length namespace zero documents own places are_own placed = refl
writes_length namespace (suc count) [] [] places are_own placed = refl
writes_length namespace (suc count) [] (own ∷ rest) places are_own placed = absurd are_own
writes_length namespace (suc count) (document ∷ documents) [] places are_own placed = absurd are_own
writes_length namespace (suc count) (document ∷ documents) (own ∷ rest) [] are_own placed = absurd (omega (arith, placed))
writes_length namespace (suc count) (document ∷ documents) (own ∷ rest) (place ∷ places) are_own placed =
    ap suc (writes_length namespace count documents rest places are_own.2 (omega (arith, placed)))

-- where no statement failed there is no write error
none_told : (at : ℕ) (done : List Statement) → has_failed done ≡ false → errors_told at done ≡ []
unfolding errors_told
none_told at [] unfailed = refl
none_told at (Kept result ∷ done) unfailed = none_told (at + 1) done unfailed
none_told at (Ran result ∷ done) unfailed = none_told (at + 1) done unfailed
none_told at (Failed code ∷ done) unfailed = absurd (differ (sym unfailed))

-- and where there is no write concern error either, the fields tell of no failure
fields_unfailed : (done : List Statement) (concern : Option PlannedConcern) → has_failed done ≡ false → concern ≡ None → is_unfailed (fields_told done concern) ≡ true
fields_unfailed done concern unfailed none =
    ap (λ (errors : List IndexedWriteError). is_none (errors_there errors) && is_none (option_map concern_told concern)) (none_told 0 done unfailed)
    ∙ ap (λ (c : Option PlannedConcern). is_none (option_map concern_told c)) none

-- the failures with these ids
abbrev failures_with : List Statement → Option PlannedConcern → Ids → InsertManyError
failures_with done concern ids = record { write_errors = errors_there (errors_told 0 done); write_concern_error = option_map concern_told concern; inserted_ids = ids }

-- the failures that the fields tell of are those of the statements
failures_are : (ordered : Bool) (own : List OwnDocument) (done : List Statement) (concern : Option PlannedConcern) → EndAs ordered (length own) done
    → failures_of ordered own (fields_told done concern) ≡ failures_told done concern own
failures_are ordered own done concern ends = ap (failures_with done concern) (ids_told_ended ordered own done ends)

-- a write concern error of the machine has no labels
no_labels_inside : (concern : Option PlannedConcern) → label_set (labels_of_concern (option_map concern_told concern) ++ []) ≡ no_labels
no_labels_inside None = refl
no_labels_inside (Some concern) = refl

module _ (target : OperationTarget) (first : ℕ) (own : List OwnDocument) (options : InsertManyOptions) (statements : ℕ) (server : Server) (send : Send) (step : Scheduled) (reply : List ℕ)
    (made : ExchangesInsert target own options statements server send step reply) where
  abbrev spec : OperationSpec InsertManyResult
  spec = insert_spec target first own options

  abbrev writes : List PlacedWrite
  writes = insert_writes (namespace_of target) (take statements made.asks.documents) (take statements made.places)

  -- the send is that of the documents' insert
  sent : IsInsertSend (insert_is_ordered options) writes send
  sent = record { out = ap (λ s. s.in_transaction) made.send_is; body = ap (λ s. s.body) made.send_is ∙ made.asks.is }

  -- where its statements are told the reply tells of them
  ended : (done : List Statement) → statements_in server send step ≡ Some done → IsInsertTold (insert_is_ordered options) writes step.item done made.found
  unfolding answered statements_in
  ended done told = insert_told (insert_is_ordered options) writes (traced (after_picks server step.deliver) send) send sent step.item done made.found told made.answer

  -- as many of them as there are documents
  ends : (done : List Statement) → statements_in server send step ≡ Some done → EndAs (insert_is_ordered options) (length (take statements own)) done
  ends done told =
      subst (λ (count : ℕ). EndAs (insert_is_ordered options) count done) (writes_length (namespace_of target) statements made.asks.documents own made.places made.asks.are_own made.asks.each_placed)
      (ended done told).ends

  -- and is spelled so
  spelled_so : (done : List Statement) → statements_in server send step ≡ Some done → Spells (reply_to done (planned_concern step.item)) reply
  spelled_so done told =
      let tells = ended done told in
      subst (λ (document : Reply). Spells document reply) (tells.is ∙ ap (reply_to done) (sym (ap planned_concern tells.item_is))) made.spelled

  -- an output that is read is told by the entries of the documents
  only_told : (output : InsertManyResult) → ReadsOutput spec statements reply output → TellsOutput spec server send step output
  only_told output reads =
      subst (λ s. TellsOutput spec server s step output) (sym made.send_is)
      ((insert_lawful target first own options).reads_own statements made.places made.body made.asks (subst IsWrite (sym made.asks.is) tt) made.context server step made.found
      (ap (λ s. answered server s step) (sym made.send_is) ∙ made.answer) reply made.spelled output reads)

  -- and each of them is counted
  only_counted : (output : InsertManyResult) → ReadsOutput spec statements reply output → CountsDocuments server send step
  only_counted output reads =
      let is = told_by_reading target first own options statements writes server send step made.found sent made.answer reply made.spelled output reads in
      let none = unfailed_told is.done is.ended.plan.concern is.answers.1 in
      record {
        done = is.done;
        told = is.told;
        unfailed = none.0;
        adds_up = counts_only (insert_is_ordered options) (length (take statements own)) is.done (ends is.done is.told) is.answers.0;
        concern = ap planned_concern is.ended.item_is ∙ none.1;
      }

  -- where the results count one each, the reply tells of all documents
  tells_all : (done : List Statement) → statements_in server send step ≡ Some done → AddsUp done → tells_of_all (insert_is_ordered options) (take statements own) (fields_told done (planned_concern step.item)) ≡ true
  tells_all done told up = counts_from (insert_is_ordered options) (length (take statements own)) done (ends done told) up

  -- and only there
  untold : (done : List Statement) → statements_in server send step ≡ Some done → (AddsUp done → ⊥)
      → tells_of_all (insert_is_ordered options) (take statements own) (fields_told done (planned_concern step.item)) ≡ true → ⊥
  untold done told short tells = short (counts_only (insert_is_ordered options) (length (take statements own)) done (ends done told) tells)

  -- an error tells of the failures as the statements ended
  tells_failures : (done : List Statement) → statements_in server send step ≡ Some done → AddsUp done → (error : Error) → ReadsAnswer spec statements reply (Err error)
      → (kind_of error ≡ kind.Memory) ⊎ TellsFailures done (planned_concern step.item) (take statements own) error
  tells_failures done told up error reads =
      let concern = planned_concern step.item in
      let says = reply_said (reply_number (sum_in done)) (write_errors 0 done) concern in
      let spelled = spelled_so done told in
      let same = failures_are (insert_is_ordered options) (take statements own) done concern (ends done told) in
      elim (failures_read target first own options statements reply (reply_to done concern) (fields_told done concern) says (reply_read done concern reply spelled) spelled
      (tells_all done told up) error reads) [
        | inl memory ↦ inl memory
        | inr found ↦ inr (record { kind_is = found.0 ∙ ap many same; labels_are = found.1 ∙ no_labels_inside concern })
      ]

  -- the reply is read exactly as its statements ended
  pub read_exactly : IsReadExactly target first own options statements server send step reply
  read_exactly = record {
    only = λ output reads. (only_counted output reads, only_told output reads);
    done = λ counts.
        let concern = planned_concern step.item in
        let says = reply_said (reply_number (sum_in counts.done)) (write_errors 0 counts.done) concern in
        let spelled = spelled_so counts.done counts.told in
        taken target first own options statements reply (reply_to counts.done concern) (fields_told counts.done concern) says (reply_read counts.done concern reply spelled) spelled
        (tells_all counts.done counts.told counts.adds_up) (fields_unfailed counts.done concern counts.unfailed counts.concern);
    there = λ counts error reads.
        let concern = planned_concern step.item in
        let says = reply_said (reply_number (sum_in counts.done)) (write_errors 0 counts.done) concern in
        let spelled = spelled_so counts.done counts.told in
        taken_only target first own options statements reply (reply_to counts.done concern) (fields_told counts.done concern) says (reply_read counts.done concern reply spelled) spelled
        (tells_all counts.done counts.told counts.adds_up) (fields_unfailed counts.done concern counts.unfailed counts.concern) error reads;
    failed = λ done fails error reads. tells_failures done fails.told fails.adds_up error reads;
    odd = λ done told short error reads.
        let concern = planned_concern step.item in
        let says = reply_said (reply_number (sum_in done)) (write_errors 0 done) concern in
        let spelled = spelled_so done told in
        odd_read target first own options statements reply (reply_to done concern) (fields_told done concern) says (reply_read done concern reply spelled) spelled (untold done told short) error reads;
  }
