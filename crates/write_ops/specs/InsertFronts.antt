-- How many documents of an insert go out in one command, and why a build of it is refused.
use Rattle.std.specs.Prelude.{◌≡◌, ℕ, ◌+◌, ◌<◌, List, ◌++◌, codes, decimal, get_or, length, map, take, Option, None, Some, if◌then◌else◌, nat_lt}
use Rattle.bson_lite.specs.declared.namespace.Namespace.{Namespace}
use Rattle.bson_lite.specs.Spelling.{spelling}
use Rattle.driver_error.specs.declared.error.Error.{Error}
use Rattle.driver_error.specs.declared.kind.ErrorKind.TheVariants as kind
use Rattle.driver_error.specs.Error.{kind_of}
use Rattle.driver_options.specs.declared.options.Description.{Description}
use Rattle.driver_options.specs.declared.write_options.InsertManyOptions.{InsertManyOptions}
use Rattle.driver_batches.specs.declared.sizes.Limits.{Limits}
use Rattle.driver_batches.specs.Fronts.{IsLongestFront}
use Rattle.driver_batches.specs.Sizes.{Fits}
use Rattle.driver_ops.specs.Inserts.{insert_command}
use Rattle.driver_ops.specs.Limits.{limits_for}
use Rattle.write_ops.specs.declared.own_document.OwnDocument.{OwnDocument}

-- the limits of a connection for the documents of an insert into this namespace, whose body is the command before the executor's fields
abbrev pub insert_limits : Namespace → InsertManyOptions → Description → Limits
insert_limits namespace options description = limits_for description (length (spelling (insert_command namespace options)))

-- the sizes of documents in bytes, as they are sent
abbrev pub sizes_of : List OwnDocument → List ℕ
sizes_of documents = map (λ own. length own.bytes) documents

-- the front of these documents that may go out together is the longest
abbrev pub IsFrontOf : Limits → List OwnDocument → ℕ → Type 0
IsFrontOf limits documents statements = IsLongestFront (Fits limits) (sizes_of documents) statements

-- how many documents a build takes: a first one the longest front of those that remain, which is not empty; a later one as many
-- as the first, where so many fit
abbrev pub TakesFront : Limits → List OwnDocument → Option ℕ → ℕ → Type 0
TakesFront limits documents None statements = IsFrontOf limits documents statements × 0 < statements
TakesFront limits documents (Some fixed) statements = (statements ≡ fixed) × Fits limits (sizes_of (take fixed documents))

-- a document is longer than a connection takes
unfoldable pub document_text : ℕ → ℕ → List ℕ
document_text most size =
    codes "insert document must be within " ++ (decimal most ++ (codes " bytes, but document provided is " ++ (decimal size ++ codes " bytes")))

-- a document at an index of the caller's list fits into no command, though it is not too long by itself
unfoldable pub position_text : ℕ → List ℕ
position_text index = codes "document at index " ++ decimal index ++ codes " exceeds the maximum size"

-- why a document of this size, at an index of the caller's list, does not go out
abbrev pub size_text : Limits → ℕ → ℕ → List ℕ
size_text limits size index = if nat_lt limits.each size then document_text limits.each size else position_text index

-- the message about the document at a position, of those that remain from an index of the caller's list on
abbrev pub text_at : Limits → ℕ → List OwnDocument → ℕ → List ℕ
text_at limits first documents at = size_text limits (get_or (sizes_of documents) at 0) (first + at)

-- what a build is refused with: a first one where not even the first document goes out, a later one where the front that was
-- fixed does not fit; it tells of the first document that does not go out
abbrev pub RefusesFront : Limits → ℕ → List OwnDocument → Option ℕ → Error → Type 0
RefusesFront limits first documents None error =
    IsFrontOf limits documents 0 × (kind_of error ≡ kind.InvalidArgument (text_at limits first documents 0))
RefusesFront limits first documents (Some fixed) error =
    (at : ℕ) × (at < fixed) × IsFrontOf limits (take fixed documents) at × (kind_of error ≡ kind.InvalidArgument (text_at limits first documents at))
