-- What the reply to an insert says, where it says that the command was done.
use Rattle.std.specs.Prelude.{◌≡◌, ℕ, ◌+◌, ◌==◌, ◌&&◌, ℤ, pos, ◌+ℤ◌, Bool, true, false, not, nat_lt, List, [], ◌∷◌, codes, length, Option, None, Some, is_none, ◌⊎◌, Result, Ok, Err, if◌then◌else◌}
use Rattle.std.specs.List.{list_all}
use Rattle.std.specs.Option.{option_and_then, option_map}
use Rattle.std.specs.Ordering.{int_eq, nat_cmp}
use Rattle.std.specs.FinMap as finite
use Rattle.bson_lite.specs.declared.bson.Bson.{Bson}
use Rattle.bson_lite.specs.declared.document.Pair.{Pair}
use Rattle.bson_lite.specs.Fields.{int_of}
use Rattle.driver_error.specs.declared.error.Error.{Error}
use Rattle.driver_error.specs.declared.kind.ErrorKind.TheVariants as kind
use Rattle.server_answers.specs.declared.results.InsertManyResult.{InsertManyResult}
use Rattle.driver_error.specs.declared.write.IndexedWriteError.{IndexedWriteError}
use Rattle.driver_error.specs.declared.write.InsertManyError.{InsertManyError}
use Rattle.driver_error.specs.Conversions.{IsMade, IsNew}
use Rattle.driver_error.specs.Error.{kind_of}
use Rattle.driver_error.specs.LabelTexts.{no_labels}
use Rattle.wire_keys.specs.declared.keys.TheConstants.{N}
use Rattle.driver_link.specs.Commands.{needed}
use Rattle.driver_ops.specs.Readings.{labels_in}
use Rattle.driver_ops.specs.WriteReplies.{reply_concern_error, write_errors_in}
use Rattle.write_ops.specs.declared.insert.InsertReply.{InsertReply}
use Rattle.write_ops.specs.declared.own_document.OwnDocument.{OwnDocument}

-- the fields, each in its form
unfoldable pub insert_reply : List (Pair Bson) → Option InsertReply
insert_reply reply =
    option_and_then (λ n.
    option_and_then (λ errors.
    option_and_then (λ concern.
    option_map (λ labels. record { n = n; errors = errors; concern = concern; labels = labels })
    (labels_in reply))
    (reply_concern_error reply))
    (write_errors_in reply))
    (needed int_of N.now reply)

-- the index of a write error is below a number
abbrev pub is_below : ℕ → IndexedWriteError → Bool
is_below count error = nat_lt error.index count

-- a write error is of the statement at an index
abbrev pub is_at : ℕ → IndexedWriteError → Bool
is_at index error = error.index == index

-- no two write errors are of one statement
unfoldable pub are_apart : List IndexedWriteError → Bool
are_apart [] = true
are_apart (error ∷ errors) = list_all (λ other. not (is_at error.index other)) errors && are_apart errors

-- an ordered insert of so many documents: without a write error all were inserted, else those before the one that failed
abbrev pub counts_ordered : ℕ → ℤ → List IndexedWriteError → Bool
counts_ordered count n [] = int_eq n (pos count)
counts_ordered count n (error ∷ []) = is_below count error && int_eq n (pos error.index)
counts_ordered count n errors = false

-- an unordered one: all were inserted but those that failed, each of which has one write error
abbrev pub counts_unordered : ℕ → ℤ → List IndexedWriteError → Bool
counts_unordered count n errors = are_apart errors && list_all (is_below count) errors && int_eq (n +ℤ pos (length errors)) (pos count)

-- the counts are those of an insert of so many documents
abbrev pub counts_all : Bool → ℕ → ℤ → List IndexedWriteError → Bool
counts_all true count n errors = counts_ordered count n errors
counts_all false count n errors = counts_unordered count n errors

-- the write errors, where there are some
abbrev pub errors_there : List IndexedWriteError → Option (List IndexedWriteError)
errors_there [] = None
errors_there (error ∷ errors) = Some (error ∷ errors)

-- nothing failed
abbrev pub is_unfailed : InsertReply → Bool
is_unfailed reply = is_none (errors_there reply.errors) && is_none reply.concern

-- the document at an index was inserted: an ordered insert stopped behind it, if at all, and an unordered one did not fail there
abbrev pub is_inserted : Bool → List IndexedWriteError → ℕ → Bool
is_inserted true errors index = list_all (λ error. nat_lt index error.index) errors
is_inserted false errors index = list_all (λ error. not (is_at index error)) errors

-- the ids of documents by their indexes, the first at an index, where they were inserted
unfoldable pub ids_where : (ℕ → Bool) → ℕ → List OwnDocument → finite.FinMap nat_cmp Bson
ids_where inserted at [] = finite.empty
ids_where inserted at (own ∷ rest) =
    if inserted at then finite.insert (ids_where inserted (at + 1) rest) at own.id else ids_where inserted (at + 1) rest

-- the failures that a reply to the insert of documents tells of, with the ids of those that were inserted
abbrev pub failures_of : Bool → List OwnDocument → InsertReply → InsertManyError
failures_of ordered documents reply = record {
  write_errors = errors_there reply.errors;
  write_concern_error = reply.concern;
  inserted_ids = ids_where (is_inserted ordered reply.errors) 0 documents;
}

-- the message about a reply that does not tell of the documents of an insert
unfoldable pub odd_insert_text : List ℕ
odd_insert_text = codes "the reply does not tell of the inserted documents"

-- the ids of all documents, by their indexes
abbrev pub all_ids : List OwnDocument → InsertManyResult
all_ids documents = record { inserted_ids = ids_where (λ at. true) 0 documents }

-- the fields of a reply tell of documents as inserted or failed
abbrev pub tells_of_all : Bool → List OwnDocument → InsertReply → Bool
tells_of_all ordered documents reply = counts_all ordered (length documents) reply.n reply.errors

-- what the fields of a reply to the insert of documents are answered with: all ids, the failures with the labels of the reply, or
-- that it breaks its form
abbrev pub AnswersFound : Bool → List OwnDocument → InsertReply → Result InsertManyResult Error → Type 0
AnswersFound ordered documents reply (Ok output) =
    (tells_of_all ordered documents reply ≡ true) × (is_unfailed reply ≡ true) × (output ≡ all_ids documents)
AnswersFound ordered documents reply (Err error) =
    ((tells_of_all ordered documents reply ≡ false) × IsMade (kind.InvalidResponse odd_insert_text) no_labels error)
    ⊎ ((tells_of_all ordered documents reply ≡ true) × (is_unfailed reply ≡ false) × IsNew (kind.InsertMany (failures_of ordered documents reply)) reply.labels error)

-- what a reply comes to, by its fields where they have their form
abbrev pub AnswersReply : Bool → List OwnDocument → Option InsertReply → Result InsertManyResult Error → Type 0
AnswersReply ordered documents None (Ok output) = ⊥
AnswersReply ordered documents None (Err error) = IsMade (kind.InvalidResponse odd_insert_text) no_labels error
AnswersReply ordered documents (Some reply) result = AnswersFound ordered documents reply result

-- a reply to the insert of these documents, ordered or not, is read so, unless memory runs out
abbrev pub ReadsInsert : Bool → List OwnDocument → List (Pair Bson) → Result InsertManyResult Error → Type 0
ReadsInsert ordered documents reply (Ok output) = AnswersReply ordered documents (insert_reply reply) (Ok output)
ReadsInsert ordered documents reply (Err error) = (kind_of error ≡ kind.Memory) ⊎ AnswersReply ordered documents (insert_reply reply) (Err error)
