-- The front of a bulk write's ops that goes out, as the functions that find and spell it say it.
use Rattle.std.specs.Prelude.{◌≡◌, ℕ, ◌+◌, ◌<◌, ◌≤◌, List, [], ◌∷◌, ◌++◌, bytes_eq, length, take, Option, None, Some}
use Rattle.std.specs.Map.{update}
use Rattle.bson_lite.specs.Spelling.{HasSpelling, spelling}
use Rattle.driver_batches.specs.declared.sizes.Limits.{Limits}
use Rattle.driver_link.specs.declared.frame.Sequence.{Sequence}
use Rattle.wire_keys.specs.declared.keys.TheConstants.{NAMESPACES, OPS}
use Rattle.bulk_fronts.specs.declared.bulk_front.OpFront.{OpFront}
use Rattle.bulk_fronts.specs.declared.bulk_front.Taken.{Taken}
use Rattle.bulk_fronts.specs.declared.bulk_front.Taken.TheVariants.{Front, Stops}
use Rattle.bulk_fronts.specs.declared.own_op.OwnOp.{OwnOp}
use Rattle.bulk_fronts.specs.BulkFronts.{AreNumbered, IsOpFront, TakesOps, described_size}
use Rattle.bulk_fronts.specs.BulkOps.{namespace_document, numbered}
use Rattle.bulk_fronts.specs.BulkWrites.{AreDescribed, described, numbered_ops, op_namespaces}
use Rattle.bulk_fronts.specs.Distinct.{number_in}

-- what is found at each text is its number among these texts
abbrev pub FindsNumbers : (List ℕ → Option ℕ) → List (List ℕ) → Type 0
FindsNumbers found texts = (text : List ℕ) → found text ≡ number_in texts text

-- the bytes that an op adds: its own, and those of the document that describes its namespace where that has no number yet
abbrev pub added_bytes : Option ℕ → OwnOp → ℕ
added_bytes None own = length own.bytes + described_size own.namespace
added_bytes (Some number) own = length own.bytes

-- a namespace gets the next number, is found by it, and is described behind those before
pub record Describes (text : List ℕ) (old new : OpFront) (found found_now : List ℕ → Option ℕ) (number : ℕ) : Type 0 where
  pub next : number ≡ length old.namespaces
  pub spelled : HasSpelling (namespace_document text)
  pub namespaces : new.namespaces ≡ old.namespaces ++ spelling (namespace_document text) ∷ []
  pub ops : new.ops ≡ old.ops
  pub finds : (other : List ℕ) → found_now other ≡ update bytes_eq found text (Some number) other

-- the namespace of an op has a number, or gets one
abbrev pub NumbersOp : Option ℕ → OwnOp → OpFront → OpFront → (List ℕ → Option ℕ) → (List ℕ → Option ℕ) → ℕ → Type 0
NumbersOp None own old new found found_now number = Describes own.namespace old new found found_now number
NumbersOp (Some known) own old new found found_now number =
    (number ≡ known) × (new ≡ old) × ((text : List ℕ) → found_now text ≡ found text)

-- an op is appended, with this number where that has 31 bits
pub record PushesOp (own : OwnOp) (number : ℕ) (old new : OpFront) : Type 0 where
  pub namespaces : new.namespaces ≡ old.namespaces
  pub more : length new.ops ≡ length old.ops + 1
  pub ops : number < 2147483648 → new.ops ≡ old.ops ++ numbered number own.bytes ∷ []

-- all of these ops stand in a front in bytes, and one document for each of their namespaces
pub record IsSpelled (ops : List OwnOp) (front : OpFront) : Type 0 where
  pub count : length front.ops ≡ length ops
  pub namespaces : front.namespaces ≡ described (op_namespaces ops)
  pub described : AreDescribed (op_namespaces ops)
  pub numbered : AreNumbered ops → front.ops ≡ numbered_ops (op_namespaces ops) ops

-- the longest front of these ops that fits, in bytes
pub record IsFoundFront (limits : Limits) (ops : List OwnOp) (front : OpFront) : Type 0 where
  pub longest : IsOpFront limits ops (length front.ops)
  pub within : length front.ops ≤ length ops
  pub spelled : IsSpelled (take (length front.ops) ops) front

-- the sequences of a command have the namespaces of a front, then its ops
abbrev pub HasFront : List Sequence → OpFront → Type 0
HasFront sequences front =
    sequences ≡ record { name = NAMESPACES.now; documents = front.namespaces } ∷ record { name = OPS.now; documents = front.ops } ∷ []

-- so many ops go out, by the number that is fixed: there are so many, and one at least
pub record IsTakenFront (limits : Limits) (ops : List OwnOp) (fixed : Option ℕ) (front : OpFront) : Type 0 where
  pub takes : TakesOps limits ops fixed (length front.ops)
  pub some : 0 < length front.ops
  pub within : length front.ops ≤ length ops
  pub spelled : IsSpelled (take (length front.ops) ops) front

-- none go out, by the number that is fixed, since the op at a position does not
abbrev pub StopsAtOp : Limits → List OwnOp → Option ℕ → ℕ → Type 0
StopsAtOp limits ops None at = (at ≡ 0) × IsOpFront limits ops 0
StopsAtOp limits ops (Some fixed) at = (at < fixed) × IsOpFront limits (take fixed ops) at

-- the front that goes out, or which op does not
abbrev pub EndsFront : Limits → List OwnOp → Option ℕ → Taken → Type 0
EndsFront limits ops fixed (Front front) = IsTakenFront limits ops fixed front
EndsFront limits ops fixed (Stops at) = StopsAtOp limits ops fixed at
