-- The insert's reading of a reply which says that its command was done, by the fields of the reply.
use Rattle.std.proofs.Common.{◌≡◌, ℕ, Bool, true, List, [], ◌∷◌, ◌++◌, length, take, refl, sym, subst, ◌∙◌, inl, inr}
use Rattle.std.specs.Prelude.{pos, Option, None, Some, ◌⊎◌, Ok, Err}
use denote.Hole.Carrier.{out}
use Rattle.bson_lite.specs.declared.bson.Bson.{Bson}
use Rattle.bson_lite.specs.declared.bson.Bson as bson
use Rattle.bson_lite.specs.Spelling.{Spells}
use Rattle.driver_error.specs.declared.error.Error.{Error}
use Rattle.driver_error.specs.declared.kind.ErrorKind.TheVariants as kind
use Rattle.server_answers.specs.declared.results.InsertManyResult.{InsertManyResult}
use Rattle.driver_error.specs.declared.write.InsertManyError.{InsertManyError}
use Rattle.driver_error.specs.Error.{ErrorKind, HasResponse, kind_of, labels_of}
use Rattle.driver_error.specs.Kinds.{inner_labels}
use Rattle.driver_error.specs.LabelTexts.{label_set}
use Rattle.driver_options.specs.declared.write_options.InsertManyOptions.{InsertManyOptions}
use Rattle.driver_link.specs.declared.machine.PlannedConcern.{PlannedConcern}
use Rattle.driver_link.specs.Commands.{needed, optional_value}
use Rattle.driver_link.specs.Cursors.{Reply}
use Rattle.driver_link.specs.Numbers.{reply_number}
use Rattle.driver_link.specs.Retried.{one_inserted}
use Rattle.driver_ops.specs.declared.target.OperationTarget.{OperationTarget}
use Rattle.driver_ops.specs.Inserts.{insert_is_ordered}
use Rattle.driver_ops.specs.Operations.{OperationSpec, ReadsAnswer}
use Rattle.driver_ops.specs.Readings.{labels_in}
use Rattle.driver_ops.specs.Responses.{done, said}
use Rattle.driver_ops.specs.WriteReplies.{write_errors_in}
use Rattle.driver_ops.specs.lawful.InsertRead.{differ}
use Rattle.driver_ops.proofs.PlainReading.{error_read, may_be_done, only_memory}
use Rattle.write_ops.specs.declared.insert.InsertReply.{InsertReply}
use Rattle.write_ops.specs.declared.own_document.OwnDocument.{OwnDocument}
use Rattle.write_ops.specs.InsertAnswers.{AnswersFound, AnswersReply, ReadsInsert, all_ids, failures_of, insert_reply, is_unfailed, odd_insert_text, tells_of_all}
use Rattle.write_ops.specs.InsertSpec.{insert_spec}
use Rattle.write_ops.specs.lawful.InsertFields.{reply_told}
use Rattle.write_ops.proofs.InsertCounts.{counts_whole}

-- the machine's reply to an insert says that its command was done
pub reply_said : (n : Bson) (errors : List Bson) (concern : Option PlannedConcern) → said (reply_told n errors concern) ≡ done
unfolding said bson.out-Bson out
reply_said n [] None = refl
reply_said n [] (Some concern) = refl
reply_said n (error ∷ errors) None = refl
reply_said n (error ∷ errors) (Some concern) = refl

-- the kind of an error that tells of these failures
abbrev pub many : InsertManyError → ErrorKind
many failures = kind.InsertMany failures

-- the insert of the front of documents
module _ (target : OperationTarget) (first : ℕ) (own : List OwnDocument) (options : InsertManyOptions) (statements : ℕ) where
  abbrev spec : OperationSpec InsertManyResult
  spec = insert_spec target first own options

  abbrev ordered : Bool
  ordered = insert_is_ordered options

  abbrev documents : List OwnDocument
  documents = take statements own

  -- a reply which says that its command was done, and its fields
  module _ (bytes : List ℕ) (reply : Reply) (fields : InsertReply) (says : said reply ≡ done) (found : insert_reply reply ≡ Some fields) (spelled : Spells reply bytes) where
    -- where it tells of all documents and of no failure it may be read as all ids
    pub taken : tells_of_all ordered documents fields ≡ true → is_unfailed fields ≡ true → ReadsAnswer spec statements bytes (Ok (all_ids documents))
    taken tells unfailed =
        may_be_done spec statements bytes reply says spelled (all_ids documents)
        (subst (λ (f : Option InsertReply). AnswersReply ordered documents f (Ok (all_ids documents))) (sym found) (tells, unfailed, refl))

    -- an error that is read in it answers its fields
    error_answers : (bare : Error) → ReadsInsert ordered documents reply (Err bare) → (kind_of bare ≡ kind.Memory) ⊎ AnswersFound ordered documents fields (Err bare)
    error_answers bare reads = elim reads [
      | inl memory ↦ inl memory
      | inr answers ↦ inr (subst (λ (f : Option InsertReply). AnswersReply ordered documents f (Err bare)) found answers)
    ]

    -- where it tells of all documents and of no failure that is want of memory
    no_failure : tells_of_all ordered documents fields ≡ true → is_unfailed fields ≡ true → (bare : Error) → ReadsInsert ordered documents reply (Err bare) → kind_of bare ≡ kind.Memory
    no_failure tells unfailed bare reads = elim (error_answers bare reads) [
      | inl memory ↦ memory
      | inr answers ↦ elim answers [
        | inl wrong ↦ absurd (differ (sym wrong.0 ∙ tells))
        | inr failed ↦ absurd (differ (sym failed.1 ∙ unfailed))
      ]
    ]

    -- and there it is read as nothing else, unless memory runs out
    pub taken_only : tells_of_all ordered documents fields ≡ true → is_unfailed fields ≡ true → (error : Error) → ReadsAnswer spec statements bytes (Err error) → kind_of error ≡ kind.Memory
    taken_only tells unfailed error reads = only_memory spec statements bytes reply says spelled (no_failure tells unfailed) error reads

    -- an error that keeps the reply tells of the failures
    failures_kept : tells_of_all ordered documents fields ≡ true → (bare error : Error) → HasResponse (Some bytes) bare error → AnswersFound ordered documents fields (Err bare)
        → (kind_of error ≡ kind.Memory)
        ⊎ ((kind_of error ≡ many (failures_of ordered documents fields)) × (labels_of error ≡ label_set (inner_labels (many (failures_of ordered documents fields)) ++ fields.labels)))
    failures_kept tells bare error kept answers = elim answers [
      | inl wrong ↦ absurd (differ (sym wrong.0 ∙ tells))
      | inr failed ↦ elim failed.2 [
        | inl alone ↦ inr (kept.kind ∙ alone.kind_is, kept.labels ∙ alone.labels_are)
        | inr memory ↦ inl (kept.kind ∙ memory.kind_is)
      ]
    ]

    -- where the reply tells of all documents an error tells of the failures
    pub failures_read : tells_of_all ordered documents fields ≡ true → (error : Error) → ReadsAnswer spec statements bytes (Err error)
        → (kind_of error ≡ kind.Memory)
        ⊎ ((kind_of error ≡ many (failures_of ordered documents fields)) × (labels_of error ≡ label_set (inner_labels (many (failures_of ordered documents fields)) ++ fields.labels)))
    failures_read tells error reads = elim (error_read spec statements bytes reply says spelled error reads) [
      | inl memory ↦ inl memory
      | inr other ↦ elim (error_answers other.bare other.reads) [
        | inl memory ↦ inl (other.kept.kind ∙ memory)
        | inr answers ↦ failures_kept tells other.bare error other.kept answers
      ]
    ]

    -- an error that keeps the reply says that it is odd
    odd_kept : (tells_of_all ordered documents fields ≡ true → ⊥) → (bare error : Error) → HasResponse (Some bytes) bare error → AnswersFound ordered documents fields (Err bare)
        → (kind_of error ≡ kind.Memory) ⊎ (kind_of error ≡ kind.InvalidResponse odd_insert_text)
    odd_kept untold bare error kept answers = elim answers [
      | inl wrong ↦ elim wrong.1 [
        | inl alone ↦ inr (kept.kind ∙ alone.kind_is)
        | inr memory ↦ inl (kept.kind ∙ memory.kind_is)
      ]
      | inr failed ↦ absurd (untold failed.0)
    ]

    -- where it does not tell of all documents an error says that it is odd
    pub odd_read : (tells_of_all ordered documents fields ≡ true → ⊥) → (error : Error) → ReadsAnswer spec statements bytes (Err error)
        → (kind_of error ≡ kind.Memory) ⊎ (kind_of error ≡ kind.InvalidResponse odd_insert_text)
    odd_read untold error reads = elim (error_read spec statements bytes reply says spelled error reads) [
      | inl memory ↦ inl memory
      | inr other ↦ elim (error_answers other.bare other.reads) [
        | inl memory ↦ inl (other.kept.kind ∙ memory)
        | inr answers ↦ odd_kept untold other.bare error other.kept answers
      ]
    ]

-- the fields of a reply that tells of so many documents, and of no failure
abbrev pub plain_fields : ℕ → InsertReply
plain_fields count = record { n = pos count; errors = []; concern = None; labels = [] }

-- a reply that tells of an insert of so many documents that was done, and of no failure
pub record IsPlainDone (count : ℕ) (reply : Reply) : Type 0 where
  pub says : said reply ≡ done
  pub found : insert_reply reply ≡ Some (plain_fields count)

-- the reply that says that one insert was done says that its command was
one_said : said one_inserted ≡ done
unfolding said reply_number bson.out-Bson out
one_said = refl

-- and its fields are read so
one_read : insert_reply one_inserted ≡ Some (plain_fields 1)
unfolding insert_reply needed write_errors_in labels_in optional_value reply_number bson.out-Bson out
one_read = refl

-- it is so of one document
pub inserted_plain : IsPlainDone 1 one_inserted
inserted_plain = record { says = one_said; found = one_read }

-- such a reply is taken, unless memory runs out
module _ (target : OperationTarget) (first : ℕ) (own : List OwnDocument) (options : InsertManyOptions) (statements : ℕ) (bytes : List ℕ) (reply : Reply)
    (plain : IsPlainDone (length (take statements own)) reply) (spelled : Spells reply bytes) where
  pub plain_read : (error : Error) → ReadsAnswer (insert_spec target first own options) statements bytes (Err error) → kind_of error ≡ kind.Memory
  plain_read error reads =
      taken_only target first own options statements bytes reply (plain_fields (length (take statements own))) plain.says plain.found spelled
      (counts_whole (insert_is_ordered options) (length (take statements own))) refl error reads

  -- it may be read as done
  pub plain_done : ReadsAnswer (insert_spec target first own options) statements bytes (Ok (all_ids (take statements own)))
  plain_done =
      taken target first own options statements bytes reply (plain_fields (length (take statements own))) plain.says plain.found spelled
      (counts_whole (insert_is_ordered options) (length (take statements own))) refl
