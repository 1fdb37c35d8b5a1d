-- What a bulk write reads and keeps of the batch that is fixed, or of all its ops where none is.
use Rattle.std.proofs.Common.{◌≡◌, ℕ, ◌<◌, List, ◌∷◌, length, take, refl, sym, ap, subst, ◌∙◌}
use Rattle.std.specs.Prelude.{Option, None, Some, Result, Ok, Err, IfSome}
use Rattle.bson_lite.specs.declared.namespace.Namespace.{Namespace}
use Rattle.driver_error.specs.declared.error.Error.{Error}
use Rattle.bulk_outcomes.specs.BulkResults.{ResultSpec}
use Rattle.driver_options.specs.declared.write_options.BulkWriteOptions.{BulkWriteOptions}
use Rattle.driver_ops.specs.declared.operation.Reading.{Reading}
use Rattle.driver_ops.specs.declared.operation.Reading.TheVariants.{Done, Page as Further}
use Rattle.driver_ops.specs.declared.reply_fields.Unread.{Unread}
use Rattle.driver_ops.specs.declared.reply_fields.Unread.TheVariants.{Wrong}
use Rattle.driver_ops.specs.Readings.{Gives}
use Rattle.driver_ops.specs.Operations.{OnPage, Page}
use Rattle.bulk_ops.specs.declared.bulk_results.BulkProgress.{BulkProgress}
use Rattle.bulk_fronts.specs.declared.own_op.OwnOp.{OwnOp}
use Rattle.bulk_ops.specs.BulkAnswers.{BulkBatch, ReadsBulk}
use Rattle.bulk_ops.specs.BulkRules.{unseen}
use Rattle.bulk_ops.specs.BulkSpec.{batch_read}
use Rattle.bulk_ops.specs.inside.BulkResults.{AnswersPages, FewerUnseen, HasReadBulk, HasReadPages, has_seen, left_unseen, ops_in}

-- what a reader did not find is not there
pub gives_none : {A : Type 0} (why : Unread) (given : Option A) → why ≡ Wrong → Gives {A = A} (Err why) given → given ≡ None
gives_none {A = A} why given is gives = subst (λ (w : Unread). Gives {A = A} (Err w) given) is gives

-- what is read of the batch is so for each number that is fixed
pub reads_fixed : {R : Type 0} (tells : ResultSpec R) (first : ℕ) (own : List OwnOp) (options : BulkWriteOptions) (fixed : Option ℕ) (batch : BulkBatch R)
    → batch ≡ batch_read tells first own options (ops_in fixed own) → (pages : List Page) (answer : Result (Reading R) Error) → ReadsBulk batch pages answer
    → IfSome fixed (λ statements. ReadsBulk (batch_read tells first own options statements) pages answer)
reads_fixed tells first own options None batch is pages answer reads = tt
reads_fixed {R = R} tells first own options (Some statements) batch is pages answer reads = subst (λ (b : BulkBatch R). ReadsBulk b pages answer) is reads

-- what is kept
pub keeps_fixed : {R : Type 0} (tells : ResultSpec R) (first : ℕ) (own : List OwnOp) (options : BulkWriteOptions) (fixed : Option ℕ) (batch : BulkBatch R)
    → batch ≡ batch_read tells first own options (ops_in fixed own) → (pages : List Page) (kept : Option (BulkProgress R)) (answer : Result (Reading R) Error) → AnswersPages batch pages kept answer
    → OnPage answer (HasReadBulk tells first own options fixed kept pages)
keeps_fixed tells first own options fixed batch is pages kept (Ok (Done output)) answers = tt
keeps_fixed tells first own options fixed batch is pages None (Ok (Further cursor namespace)) answers = absurd answers.keeps
keeps_fixed {R = R} tells first own options fixed batch is pages (Some progress) (Ok (Further cursor namespace)) answers = subst (λ (b : BulkBatch R). HasReadPages b progress pages) is answers.keeps
keeps_fixed tells first own options fixed batch is pages kept (Err error) answers = tt

-- what was kept before
pub has_fixed : {R : Type 0} (tells : ResultSpec R) (first : ℕ) (own : List OwnOp) (options : BulkWriteOptions) (fixed : Option ℕ) (batch : BulkBatch R)
    → batch ≡ batch_read tells first own options (ops_in fixed own) → (before : Option (BulkProgress R)) (progress : BulkProgress R) → before ≡ Some progress → (pages : List Page)
    → HasReadBulk tells first own options fixed before pages → HasReadPages batch progress pages
has_fixed {R = R} tells first own options fixed batch is before progress before_is pages has =
    subst (λ (b : BulkBatch R). HasReadPages b progress pages) (sym is) (subst (λ (kept : Option (BulkProgress R)). HasReadBulk tells first own options fixed kept pages) before_is has)

-- how many ops have no result then
pub fewer_fixed : {R : Type 0} (tells : ResultSpec R) (first : ℕ) (own : List OwnOp) (options : BulkWriteOptions) (fixed : Option ℕ) (batch : BulkBatch R)
    → batch ≡ batch_read tells first own options (ops_in fixed own) → (before : Option (BulkProgress R)) (old : BulkProgress R) → before ≡ Some old
    → (kept : Option (BulkProgress R)) (answer : Result (Reading R) Error) → OnPage answer (FewerUnseen (length batch.ops) old kept)
    → OnPage answer (left_unseen own fixed kept < left_unseen own fixed before)
fewer_fixed tells first own options fixed batch is before old before_is kept (Ok (Done output)) fewer = tt
fewer_fixed tells first own options fixed batch is before old before_is None (Ok (Further cursor namespace)) fewer = absurd fewer
fewer_fixed {R = R} tells first own options fixed batch is before old before_is (Some now) (Ok (Further cursor namespace)) fewer =
    subst (λ (kept : Option (BulkProgress R)). unseen (length (take (ops_in fixed own) own)) (has_seen now.seen) < left_unseen own fixed kept) (sym before_is)
    (subst (λ (n : ℕ). unseen n (has_seen now.seen) < unseen n (has_seen old.seen)) (ap (λ (b : BulkBatch R). length b.ops) is) fewer)
fewer_fixed tells first own options fixed batch is before old before_is kept (Err error) fewer = tt
