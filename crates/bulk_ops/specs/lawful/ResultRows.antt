-- What the machine's results documents are read as: one for each statement, at its position, with what it counted or why it failed.
use Rattle.std.proofs.Common.{◌≡◌, ℕ, ◌+◌, ◌^◌, Bool, true, false, List, [], ◌∷◌, ◌++◌, map, refl, sym, ap, subst, ◌∙◌}
use Rattle.std.specs.Prelude.{ℤ, pos, negsuc, Option, None, Some, is_some, unwrap_or, if◌then◌else◌}
use Rattle.std.specs.Option.{option_and_then, option_map}
use Rattle.std.proofs.lemmas.Bool.{cond-false}
use denote.Hole.Carrier.{out}
use Rattle.bson_lite.specs.declared.bson.Bson.{Bson}
use Rattle.bson_lite.specs.declared.bson.Bson as bson
use Rattle.bson_lite.specs.declared.fields.TheConstants.{ID_KEY}
use Rattle.bson_lite.specs.Fields.{value_of}
use Rattle.bson_lite.specs.Ranges.{fits}
use Rattle.driver_error.specs.declared.write.WriteError.{WriteError}
use Rattle.wire_keys.specs.declared.keys.TheConstants.{CODE, N, N_MODIFIED, RESULT_INDEX, SCHEDULED, UPSERTED}
use Rattle.driver_link.specs.declared.machine.PlacedWrite.{PlacedWrite}
use Rattle.driver_link.specs.declared.machine.Statement.{Statement}
use Rattle.driver_link.specs.declared.machine.Statement.TheVariants.{Kept, Ran, Failed}
use Rattle.driver_link.specs.declared.machine.WriteKind.{WriteKind}
use Rattle.driver_link.specs.declared.machine.WriteKind.TheVariants as kind
use Rattle.driver_link.specs.Commands.{needed, optional_value}
use Rattle.driver_link.specs.Cursors.{Reply, failure_row, modified_field, row, rows, upsert_of_row}
use Rattle.driver_link.specs.Numbers.{field, reply_count, reply_number}
use Rattle.driver_link.proofs.Forms.{document_is}
use Rattle.driver_link.proofs.Lists.{none_is_some, some_is_some}
use Rattle.driver_ops.specs.Readings.{natural, natural_of, small_of, text_in}
use Rattle.driver_ops.specs.lawful.ReplyNumbers.{reply_number_is}
use Rattle.bulk_ops.specs.declared.bulk_reply.OpOutcome.{OpOutcome}
use Rattle.bulk_ops.specs.declared.bulk_reply.OpOutcome.TheVariants as came
use Rattle.bulk_ops.specs.declared.bulk_reply.OpResult.{OpResult}
use Rattle.bulk_ops.specs.BulkPages.{op_counts_in, op_error_in, op_outcome_in, op_result_in, op_result_of, op_results, upsert_of}

-- documents as the values of an array
abbrev pub as_values : List Reply → List Bson
as_values documents = map (λ result. bson.Document result) documents

-- a number of a reply is read as a count
pub number_read : (n : ℤ) → natural_of (reply_number n) ≡ natural n
unfolding natural_of
number_read n = ap (option_and_then natural) (reply_number_is n)

-- the document of a result by what it counted
abbrev pub counted_row : ℕ → WriteKind → ℤ → ℤ → Option Bson → Reply
counted_row at does n modified upserted =
    field RESULT_INDEX.now (reply_count at) ∷ field N.now (reply_number n) ∷ (modified_field does modified ++ upsert_of_row upserted)

-- it has no code
no_code : (at : ℕ) (does : WriteKind) (n modified : ℤ) (upserted : Option Bson) → value_of CODE.now (counted_row at does n modified upserted) ≡ None
no_code at kind.Insert n modified None = refl
no_code at kind.Insert n modified (Some id) = refl
no_code at kind.Update n modified None = refl
no_code at kind.Update n modified (Some id) = refl
no_code at kind.Delete n modified None = refl
no_code at kind.Delete n modified (Some id) = refl
no_code at kind.FindAndModify n modified None = refl
no_code at kind.FindAndModify n modified (Some id) = refl

-- how many documents were changed, where that stands
abbrev modified_value : WriteKind → ℤ → Option Bson
modified_value kind.Update modified = Some (reply_number modified)
modified_value other modified = None

modified_there : (at : ℕ) (does : WriteKind) (n modified : ℤ) (upserted : Option Bson)
    → value_of N_MODIFIED.now (counted_row at does n modified upserted) ≡ modified_value does modified
modified_there at kind.Insert n modified None = refl
modified_there at kind.Insert n modified (Some id) = refl
modified_there at kind.Update n modified None = refl
modified_there at kind.Update n modified (Some id) = refl
modified_there at kind.Delete n modified None = refl
modified_there at kind.Delete n modified (Some id) = refl
modified_there at kind.FindAndModify n modified None = refl
modified_there at kind.FindAndModify n modified (Some id) = refl

abbrev pub modified_found : WriteKind → ℤ → Option (Option ℕ)
modified_found kind.Update modified = option_map (λ (found : ℕ). Some found) (natural modified)
modified_found other modified = Some None

modified_read : (does : WriteKind) (modified : ℤ) → optional_value natural_of (modified_value does modified) ≡ modified_found does modified
unfolding optional_value
modified_read kind.Insert modified = refl
modified_read kind.Update modified = ap (option_map (λ (found : ℕ). Some found)) (number_read modified)
modified_read kind.Delete modified = refl
modified_read kind.FindAndModify modified = refl

-- the id of a document that was put in, where there is one
abbrev upsert_value : Option Bson → Option Bson
upsert_value None = None
upsert_value (Some id) = Some (bson.Document (field ID_KEY.now id ∷ []))

upserted_there : (at : ℕ) (does : WriteKind) (n modified : ℤ) (upserted : Option Bson)
    → value_of UPSERTED.now (counted_row at does n modified upserted) ≡ upsert_value upserted
upserted_there at kind.Insert n modified None = refl
upserted_there at kind.Insert n modified (Some id) = refl
upserted_there at kind.Update n modified None = refl
upserted_there at kind.Update n modified (Some id) = refl
upserted_there at kind.Delete n modified None = refl
upserted_there at kind.Delete n modified (Some id) = refl
upserted_there at kind.FindAndModify n modified None = refl
upserted_there at kind.FindAndModify n modified (Some id) = refl

upsert_read : (upserted : Option Bson) → optional_value upsert_of (upsert_value upserted) ≡ Some upserted
unfolding optional_value upsert_of
upsert_read None = refl
upsert_read (Some id) =
    ap (λ document. option_map (λ (found : Bson). Some found) (option_and_then (value_of ID_KEY.now) document)) (document_is (field ID_KEY.now id ∷ []))

-- what an op counted, by its parts
abbrev pub counted_with : Option (Option Bson) → Option (Option ℕ) → Option ℕ → Option OpOutcome
counted_with upserted modified n =
    option_and_then (λ n. option_and_then (λ modified. option_map (λ upserted. came.Counted n (unwrap_or modified 0) upserted) upserted) modified) n

counts_read : (at : ℕ) (does : WriteKind) (n modified : ℤ) (upserted : Option Bson)
    → op_counts_in (counted_row at does n modified upserted) ≡ counted_with (Some upserted) (modified_found does modified) (natural n)
unfolding op_counts_in needed
counts_read at does n modified upserted =
    let document = counted_row at does n modified upserted in
    let put_in = optional_value upsert_of (value_of UPSERTED.now document) in
    ap (λ found. counted_with put_in (optional_value natural_of (value_of N_MODIFIED.now document)) found) (number_read n)
    ∙ ap (λ value. counted_with put_in (optional_value natural_of value) (natural n)) (modified_there at does n modified upserted)
    ∙ ap (λ found. counted_with put_in found (natural n)) (modified_read does modified)
    ∙ ap (λ value. counted_with (optional_value upsert_of value) (modified_found does modified) (natural n)) (upserted_there at does n modified upserted)
    ∙ ap (λ found. counted_with found (modified_found does modified) (natural n)) (upsert_read upserted)

outcome_read : (at : ℕ) (does : WriteKind) (n modified : ℤ) (upserted : Option Bson)
    → op_outcome_in (counted_row at does n modified upserted) ≡ counted_with (Some upserted) (modified_found does modified) (natural n)
unfolding op_outcome_in
outcome_read at does n modified upserted = cond-false _ _ _ (ap is_some (no_code at does n modified upserted)) ∙ counts_read at does n modified upserted

-- a result at an index
abbrev pub at_index : ℕ → OpOutcome → OpResult
at_index index outcome = record { index = index; outcome = outcome }

pub row_read : (at : ℕ) (does : WriteKind) (n modified : ℤ) (upserted : Option Bson)
    → op_result_of (bson.Document (counted_row at does n modified upserted))
    ≡ option_map (at_index at) (counted_with (Some upserted) (modified_found does modified) (natural n))
unfolding op_result_of op_result_in needed
row_read at does n modified upserted =
    let document = counted_row at does n modified upserted in
    ap (option_and_then op_result_in) (document_is document)
    ∙ ap (option_and_then (λ index. option_map (at_index index) (op_outcome_in document))) (number_read (pos at))
    ∙ ap (option_map (at_index at)) (outcome_read at does n modified upserted)

-- a result that was read: its index and what it counted; how many documents changed is that of an update alone
pub record IsCountedRead (at : ℕ) (does : WriteKind) (n modified : ℤ) (upserted : Option Bson) (told : OpResult) : Type 0 where
  pub found : ℕ
  pub changed : ℕ
  pub found_is : n ≡ pos found
  pub changed_is : does ≡ kind.Update → modified ≡ pos changed
  pub is : told ≡ record { index = at; outcome = came.Counted found changed upserted }

counted_read : (at : ℕ) (does : WriteKind) (n modified : ℤ) (upserted : Option Bson) (told : OpResult)
    → option_map (at_index at) (counted_with (Some upserted) (modified_found does modified) (natural n)) ≡ Some told → IsCountedRead at does n modified upserted told
counted_read at does (negsuc n) modified upserted told is = absurd (none_is_some told is)
counted_read at kind.Insert (pos n) modified upserted told is = record {
  found = n;
  changed = 0;
  found_is = refl;
  changed_is = λ same. absurd (let e : ◌≡◌ {A = WriteKind} kind.Insert kind.Update = same in cc);
  is = sym (some_is_some (at_index at (came.Counted n 0 upserted)) told is);
}
counted_read at kind.Update (pos n) (negsuc modified) upserted told is = absurd (none_is_some told is)
counted_read at kind.Update (pos n) (pos modified) upserted told is = record {
  found = n;
  changed = modified;
  found_is = refl;
  changed_is = λ same. refl;
  is = sym (some_is_some (at_index at (came.Counted n modified upserted)) told is);
}
counted_read at kind.Delete (pos n) modified upserted told is = record {
  found = n;
  changed = 0;
  found_is = refl;
  changed_is = λ same. absurd (let e : ◌≡◌ {A = WriteKind} kind.Delete kind.Update = same in cc);
  is = sym (some_is_some (at_index at (came.Counted n 0 upserted)) told is);
}
counted_read at kind.FindAndModify (pos n) modified upserted told is = record {
  found = n;
  changed = 0;
  found_is = refl;
  changed_is = λ same. absurd (let e : ◌≡◌ {A = WriteKind} kind.FindAndModify kind.Update = same in cc);
  is = sym (some_is_some (at_index at (came.Counted n 0 upserted)) told is);
}

-- the error of a statement that failed, as a client reads it
abbrev pub error_spelled : ℤ → WriteError
error_spelled code = record { code = code; code_name = None; message = SCHEDULED.now; details = None }

-- a code where it has 32 bits, and the outcome that it is read as
abbrev small_where : Bool → ℤ → Option ℤ
small_where small code = if small then Some code else None

abbrev failed_where : Option ℤ → Option OpOutcome
failed_where code = option_map (λ (error : WriteError). came.Failed error) (option_and_then (λ (number : ℤ). Some (error_spelled number)) code)

failure_outcome : (at : ℕ) (code : ℤ) → op_outcome_in (failure_row at code) ≡ failed_where (small_where (fits (2 ^ 31) code) code)
unfolding op_outcome_in op_error_in needed text_in optional_value small_of bson.out-Bson out
failure_outcome at code = refl

failure_read : (at : ℕ) (code : ℤ) → op_result_of (bson.Document (failure_row at code)) ≡ option_map (at_index at) (failed_where (small_where (fits (2 ^ 31) code) code))
unfolding op_result_of op_result_in needed
failure_read at code =
    let document = failure_row at code in
    ap (option_and_then op_result_in) (document_is document)
    ∙ ap (option_and_then (λ index. option_map (at_index index) (op_outcome_in document))) (number_read (pos at))
    ∙ ap (option_map (at_index at)) (failure_outcome at code)

failed_by : (at : ℕ) (code : ℤ) (small : Bool) (told : OpResult) → option_map (at_index at) (failed_where (small_where small code)) ≡ Some told
    → told ≡ at_index at (came.Failed (error_spelled code))
failed_by at code true told is = sym (some_is_some (at_index at (came.Failed (error_spelled code))) told is)
failed_by at code false told is = absurd (none_is_some told is)

-- what the document of a statement is read as: what it counted, or the error that it failed with
abbrev pub IsRowRead : ℕ → WriteKind → Statement → OpResult → Type 0
IsRowRead at does (Kept result) told = IsCountedRead at does result.n result.modified result.upserted told
IsRowRead at does (Ran result) told = IsCountedRead at does result.n result.modified result.upserted told
IsRowRead at does (Failed code) told = told ≡ record { index = at; outcome = came.Failed (error_spelled code) }

pub statement_read : (at : ℕ) (does : WriteKind) (statement : Statement) (told : OpResult) → op_result_of (bson.Document (row at does statement)) ≡ Some told
    → IsRowRead at does statement told
statement_read at does (Kept result) told is =
    counted_read at does result.n result.modified result.upserted told (sym (row_read at does result.n result.modified result.upserted) ∙ is)
statement_read at does (Ran result) told is =
    counted_read at does result.n result.modified result.upserted told (sym (row_read at does result.n result.modified result.upserted) ∙ is)
statement_read at does (Failed code) told is = failed_by at code (fits (2 ^ 31) code) told (sym (failure_read at code) ∙ is)

-- the documents of statements of writes are read so, one by one
abbrev pub AreRowsRead : ℕ → List PlacedWrite → List Statement → List OpResult → Type 0
AreRowsRead at [] done results = results ≡ []
AreRowsRead at (write ∷ writes) [] results = results ≡ []
AreRowsRead at (write ∷ writes) (statement ∷ done) [] = ⊥
AreRowsRead at (write ∷ writes) (statement ∷ done) (told ∷ results) = IsRowRead at write.written.kind statement told × AreRowsRead (at + 1) writes done results

-- a first result and those behind it
pub record IsConsed (first : Option OpResult) (rest : Option (List OpResult)) (results : List OpResult) : Type 0 where
  pub told : OpResult
  pub more : List OpResult
  pub first_is : first ≡ Some told
  pub rest_is : rest ≡ Some more
  pub is : results ≡ told ∷ more

pub consed : (first : Option OpResult) (rest : Option (List OpResult)) (results : List OpResult)
    → option_and_then (λ result. option_map (λ rest. result ∷ rest) rest) first ≡ Some results → IsConsed first rest results
consed None rest results is = absurd (none_is_some results is)
consed (Some told) None results is = absurd (none_is_some results is)
consed (Some told) (Some more) results is = record { told = told; more = more; first_is = refl; rest_is = refl; is = sym (some_is_some (told ∷ more) results is) }

pub rows_read : (at : ℕ) (writes : List PlacedWrite) (done : List Statement) (results : List OpResult) → op_results (as_values (rows at writes done)) ≡ Some results
    → AreRowsRead at writes done results
unfolding op_results rows
rows_read at [] done results is = sym (some_is_some [] results is)
rows_read at (write ∷ writes) [] results is = sym (some_is_some [] results is)
rows_read at (write ∷ writes) (statement ∷ done) results is =
    let found = consed (op_result_of (bson.Document (row at write.written.kind statement))) (op_results (as_values (rows (at + 1) writes done))) results is in
    subst (AreRowsRead at (write ∷ writes) (statement ∷ done)) (sym found.is)
    (statement_read at write.written.kind statement found.told found.first_is, rows_read (at + 1) writes done found.more found.rest_is)

-- results of two pages are those of both
pub both_read : (values more : List Bson) (results others : List OpResult) → op_results values ≡ Some results → op_results more ≡ Some others
    → op_results (values ++ more) ≡ Some (results ++ others)
unfolding op_results
both_read [] more results others is also = also ∙ ap (λ found. Some (found ++ others)) (some_is_some [] results is)
both_read (value ∷ values) more results others is also =
    let found = consed (op_result_of value) (op_results values) results is in
    ap (option_and_then (λ result. option_map (λ rest. result ∷ rest) (op_results (values ++ more)))) found.first_is
    ∙ ap (option_map (λ rest. found.told ∷ rest)) (both_read values more found.more others found.rest_is also)
    ∙ ap (λ all. Some (all ++ others)) (sym found.is)

-- documents of two lists are those of both
pub both_values : (documents more : List Reply) → as_values (documents ++ more) ≡ as_values documents ++ as_values more
both_values [] more = refl
both_values (document ∷ documents) more = ap (λ values. bson.Document document ∷ values) (both_values documents more)
