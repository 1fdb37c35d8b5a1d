-- How many ops of a bulk write go out in one command, and why a build of it is refused.
use Rattle.std.specs.Prelude.{◌≡◌, ℕ, ◌+◌, ◌<◌, ◌≤◌, pos, Bool, true, false, not, int_lt, All, List, ◌++◌, codes, decimal, length, map, sum_by, take, Option, None, Some, unwrap_or, ◌⊎◌}
use Rattle.bson_lite.specs.Spelling.{spelling}
use Rattle.driver_error.specs.declared.error.Error.{Error}
use Rattle.driver_error.specs.declared.kind.ErrorKind.TheVariants as kind
use Rattle.driver_error.specs.Error.{kind_of}
use Rattle.driver_options.specs.declared.options.Description.{Description}
use Rattle.driver_options.specs.declared.write_options.BulkWriteOptions.{BulkWriteOptions}
use Rattle.driver_batches.specs.declared.sizes.Limits.{Limits}
use Rattle.driver_batches.specs.Fronts.{IsLongestFront}
use Rattle.driver_ops.specs.Limits.{limits_for}
use Rattle.bulk_fronts.specs.declared.own_op.OwnOp.{OwnOp}
use Rattle.bulk_fronts.specs.declared.own_op.SizedOp.{SizedOp}
use Rattle.bulk_fronts.specs.BulkOps.{namespace_document}
use Rattle.bulk_fronts.specs.BulkWrites.{bulk_command, op_namespaces}
use Rattle.bulk_fronts.specs.Distinct.{distinct}

-- the limits of a connection for the ops of a bulk write, whose body is the command before the executor's fields
abbrev pub bulk_limits : BulkWriteOptions → Bool → Description → Limits
bulk_limits options verbose description = limits_for description (length (spelling (bulk_command options verbose)))

-- an op by the text of its namespace and its size in bytes, which no number of the namespace changes
abbrev pub sized : OwnOp → SizedOp
sized own = record { namespace = own.namespace; size = length own.bytes }

-- the same of ops
abbrev pub sized_ops : List OwnOp → List SizedOp
sized_ops ops = map sized ops

-- the texts of the namespaces of ops, each once, in the order of the first op on each
abbrev pub sized_namespaces : List SizedOp → List (List ℕ)
sized_namespaces ops = distinct (map (λ op. op.namespace) ops)

-- the size in bytes of the document that describes a namespace
abbrev pub described_size : List ℕ → ℕ
described_size text = length (spelling (namespace_document text))

-- the bytes of ops, and of one document for each of their namespaces
abbrev pub bytes_of : List SizedOp → ℕ
bytes_of ops = sum_by (λ op. op.size) ops + sum_by described_size (sized_namespaces ops)

-- a run of ops within limits: at most so many, of at most so many bytes with the documents of their namespaces. No op is too long
-- by itself, but under a limit of 0 on one document none goes out
pub record FitsOps (limits : Limits) (ops : List SizedOp) : Type 0 where
  pub items : length ops ≤ limits.items
  pub each : All (λ op. 0 < limits.each) ops
  pub bytes : bytes_of ops ≤ limits.bytes

-- the front of these ops that may go out together is the longest
abbrev pub IsOpFront : Limits → List OwnOp → ℕ → Type 0
IsOpFront limits ops statements = IsLongestFront (FitsOps limits) (sized_ops ops) statements

-- how many ops a build takes: a first one the longest front of those that remain, which is not empty; a later one as many as the
-- first, where so many fit
abbrev pub TakesOps : Limits → List OwnOp → Option ℕ → ℕ → Type 0
TakesOps limits ops None statements = IsOpFront limits ops statements × 0 < statements
TakesOps limits ops (Some fixed) statements = (statements ≡ fixed) × FitsOps limits (sized_ops (take fixed ops))

-- the op at an index of the caller's list fits into no command
unfoldable pub op_text : ℕ → List ℕ
op_text index = codes "operation at index " ++ decimal index ++ codes " exceeds the maximum size"

-- a build is refused for its size: a first one where not even the first op goes out, a later one where the front that was fixed
-- does not fit; it tells of the first op that does not go out, by the caller's own index
abbrev pub RefusesOps : Limits → ℕ → List OwnOp → Option ℕ → Error → Type 0
RefusesOps limits first ops None error = IsOpFront limits ops 0 × (kind_of error ≡ kind.InvalidArgument (op_text first))
RefusesOps limits first ops (Some fixed) error =
    (at : ℕ) × (at < fixed) × IsOpFront limits (take fixed ops) at × (kind_of error ≡ kind.InvalidArgument (op_text (first + at)))

-- each namespace of these ops has a number of 31 bits
abbrev pub AreNumbered : List OwnOp → Type 0
AreNumbered ops = length (op_namespaces ops) ≤ 2147483648

-- a namespace's number is past its end
unfoldable pub number_text : List ℕ
number_text = codes "nsInfo index exceeds i32::MAX"

-- a build is refused since the namespaces of the front that goes out have too great numbers
pub record RefusesNumbers (limits : Limits) (ops : List OwnOp) (fixed : Option ℕ) (error : Error) : Type 0 where
  pub statements : ℕ
  pub takes : TakesOps limits ops fixed statements
  pub past : AreNumbered (take statements ops) → ⊥
  pub is : kind_of error ≡ kind.Internal number_text

-- the server takes bulk writes: its wire version, 0 where it tells none, is 25 at least
abbrev pub serves_bulk : Description → Bool
serves_bulk description = not (int_lt (unwrap_or description.max_wire_version (pos 0)) (pos 25))

-- the server is too old
unfoldable pub old_server_text : List ℕ
old_server_text = codes "the bulk write feature is only supported on MongoDB 8.0+"

-- how many ops a build takes: the server takes bulk writes, and each namespace has its number
pub record TakesBulk (options : BulkWriteOptions) (verbose : Bool) (ops : List OwnOp) (fixed : Option ℕ) (description : Description) (statements : ℕ) : Type 0 where
  pub serves : serves_bulk description ≡ true
  pub front : TakesOps (bulk_limits options verbose description) ops fixed statements
  pub numbered : AreNumbered (take statements ops)

-- what a build is refused with, by whether the server takes bulk writes: for that first, then for a size, then for a number
abbrev pub RefusesFor : Bool → Limits → ℕ → List OwnOp → Option ℕ → Error → Type 0
RefusesFor false limits first ops fixed error = kind_of error ≡ kind.IncompatibleServer old_server_text
RefusesFor true limits first ops fixed error = RefusesOps limits first ops fixed error ⊎ RefusesNumbers limits ops fixed error

-- the same by the server's description
abbrev pub RefusesBulk : BulkWriteOptions → Bool → ℕ → List OwnOp → Option ℕ → Description → Error → Type 0
RefusesBulk options verbose first ops fixed description error =
    RefusesFor (serves_bulk description) (bulk_limits options verbose description) first ops fixed error
