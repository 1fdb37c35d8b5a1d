-- An insert keeps the law of operations.
use Rattle.std.proofs.Common.{◌≡◌, ℕ, zero, suc, ◌+◌, Bool, true, false, List, [], ◌∷◌, length, take, refl, sym, ap, subst, ◌∙◌}
use Rattle.std.specs.Prelude.{ℤ, Option, Some}
use Rattle.std.specs.FinMap as finite
use Rattle.std.specs.Ordering.{nat_cmp}
use Rattle.std.proofs.lemmas.Bool.{or_parts}
use Rattle.bson_lite.specs.declared.bson.Bson.{Bson}
use Rattle.bson_lite.specs.declared.document.Pair.{Pair}
use Rattle.bson_lite.specs.declared.namespace.Namespace.{Namespace}
use Rattle.bson_lite.specs.Fields.{id_key, value_of}
use Rattle.server_answers.specs.declared.results.InsertManyResult.{InsertManyResult}
use Rattle.driver_options.specs.declared.write_options.InsertManyOptions.{InsertManyOptions}
use Rattle.driver_link.specs.declared.machine.Entry.{Entry}
use Rattle.driver_link.specs.declared.machine.Place.{Place}
use Rattle.driver_link.specs.declared.machine.PlacedWrite.{PlacedWrite}
use Rattle.driver_link.specs.declared.machine.Statement.{Statement}
use Rattle.driver_link.specs.declared.machine.Statement.TheVariants.{Kept, Ran, Failed}
use Rattle.driver_link.specs.Cases.{body_writes}
use Rattle.driver_link.specs.Replies.{result_of}
use Rattle.driver_link.specs.Statements.{has_failed, is_failed}
use Rattle.driver_ops.specs.declared.target.OperationTarget.{OperationTarget}
use Rattle.driver_ops.specs.Inserts.{insert_is_ordered, insert_write, insert_writes}
use Rattle.driver_ops.specs.OperationLaw.{IsLawful}
use Rattle.driver_ops.specs.Operations.{send_of}
use Rattle.driver_ops.specs.Served.{entries_counted, entry_counted}
use Rattle.driver_ops.specs.Targets.{namespace_of}
use Rattle.driver_ops.specs.lawful.AlonePages.{never_open, none_failed, none_further}
use Rattle.driver_ops.specs.lawful.InsertRead.{differ}
use Rattle.write_ops.specs.declared.own_document.OwnDocument.{OwnDocument}
use Rattle.write_ops.specs.InsertAnswers.{ReadsInsert, ids_where}
use Rattle.write_ops.specs.InsertSpec.{AreOwn, id_beside, ids_from, insert_spec}
use Rattle.write_ops.specs.lawful.InsertReplies.{EndAs, IsInsertSend, goes_on, told_by_reading, unfailed_told}

-- ids by their indexes
abbrev pub Ids : Type 0
Ids = finite.FinMap nat_cmp Bson

-- a number is zero
abbrev IsZero : ℕ → Type 0
IsZero zero = Unit {0}
IsZero (suc n) = ⊥

-- one more than a number is not
not_zero : (n : ℕ) → zero ≡ suc n → ⊥
not_zero n is = subst IsZero is tt

-- the number before
abbrev before : ℕ → ℕ
before zero = zero
before (suc n) = n

-- what is the same with one more is the same
same_before : (a b : ℕ) → suc a ≡ suc b → a ≡ b
same_before a b is = ap before is

-- the entry of the first write tells its id
first_id : (session : Option (List ℕ)) (number : Option ℤ) (at : ℕ) (namespace : Namespace) (document : List (Pair Bson)) (place : Place) (statement : Statement) (rest : List Entry) (id : Bson)
    → is_failed statement ≡ false → value_of id_key document ≡ Some id
    → ids_from at (entry_counted session number (insert_write namespace document place) (result_of statement) rest) ≡ finite.insert (ids_from (at + 1) rest) at id
first_id session number at namespace document place (Kept result) rest id unfailed found = ap (λ (known : Option Bson). id_beside at known (ids_from (at + 1) rest)) found
first_id session number at namespace document place (Ran result) rest id unfailed found = ap (λ (known : Option Bson). id_beside at known (ids_from (at + 1) rest)) found
first_id session number at namespace document place (Failed code) rest id unfailed found = absurd (differ (sym unfailed))

-- where no statement failed the entries of the writes tell the ids of the documents
ids_told : (session : Option (List ℕ)) (number : Option ℤ) (namespace : Namespace) (ordered : Bool) (at count : ℕ) (documents : List (List (Pair Bson))) (own : List OwnDocument) (places : List Place) (done : List Statement)
    → AreOwn documents own → length places ≡ length own → EndAs ordered (length (insert_writes namespace (take count documents) (take count places))) done → has_failed done ≡ false
    → ids_from at (entries_counted session number (insert_writes namespace (take count documents) (take count places)) done) ≡ ids_where (λ at. true) at (take count own)
unfolding ids_where
ids_told session number namespace ordered at zero documents own places done are_own placed ends unfailed = refl
ids_told session number namespace ordered at (suc count) [] [] places done are_own placed ends unfailed = refl
ids_told session number namespace ordered at (suc count) [] (own ∷ rest) places done are_own placed ends unfailed = absurd are_own
ids_told session number namespace ordered at (suc count) (document ∷ documents) [] places done are_own placed ends unfailed = absurd are_own
ids_told session number namespace ordered at (suc count) (document ∷ documents) (own ∷ rest) [] done are_own placed ends unfailed = absurd (not_zero (length rest) placed)
ids_told session number namespace ordered at (suc count) (document ∷ documents) (own ∷ rest) (place ∷ places) [] are_own placed ends unfailed = absurd ends
ids_told session number namespace ordered at (suc count) (document ∷ documents) (own ∷ rest) (place ∷ places) (statement ∷ done) are_own placed ends unfailed =
    let writes : List PlacedWrite = insert_writes namespace (take count documents) (take count places) in
    let parts = or_parts (is_failed statement) (has_failed done) unfailed in
    let later = goes_on ordered (length writes) statement done parts.0 ends in
    first_id session number at namespace document place statement (entries_counted session number writes done) own.id parts.0 are_own.1
    ∙ ap (λ (ids : Ids). finite.insert ids at own.id) (ids_told session number namespace ordered (at + 1) count documents rest places done are_own.2 (same_before (length places) (length rest) placed) later parts.1)

-- the output that has these ids
abbrev output_of : Ids → InsertManyResult
output_of ids = record { inserted_ids = ids }

-- over the machine's own reply its output is told by the entries of its writes
pub insert_lawful : (target : OperationTarget) (first : ℕ) (own : List OwnDocument) (options : InsertManyOptions) → IsLawful (insert_spec target first own options)
insert_lawful target first own options = record {
  alone = λ one count. never_open (ReadsInsert (insert_is_ordered options) (take count own));
  failed = λ count. none_failed (ReadsInsert (insert_is_ordered options) (take count own));
  reads_own = λ statements places body asks is_write context server step reply answer came spelled output reads.
      let send = send_of context body in
      let namespace = namespace_of target in
      let writes : List PlacedWrite = insert_writes namespace (take statements asks.documents) (take statements places) in
      let sent : IsInsertSend (insert_is_ordered options) writes send = record { out = refl; body = asks.is } in
      let is = told_by_reading target first own options statements writes server send step reply sent answer came spelled output reads in
      let unfailed = (unfailed_told is.done is.ended.plan.concern is.answers.1).0 in
      let ids = ids_told context.session context.number namespace (insert_is_ordered options) 0 statements asks.documents own places is.done asks.are_own asks.each_placed is.ended.ends unfailed in
      record {
        entries = entries_counted context.session context.number writes is.done;
        stand = record {
          done = is.done;
          told = is.told;
          unfailed = unfailed;
          entries_are = ap (λ b. entries_counted context.session context.number (body_writes b) is.done) (sym asks.is);
        };
        told = is.answers.2 ∙ ap output_of (sym ids);
      };
  reads_further = λ statements places body asks is_write context server step reply answer came spelled page pages last further output reads.
      absurd (none_further (insert_spec target first own options) (λ count. never_open (ReadsInsert (insert_is_ordered options) (take count own)))
      statements reply _ last page pages further);
}
