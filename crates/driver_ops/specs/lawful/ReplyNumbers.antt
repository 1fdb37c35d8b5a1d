-- Numbers of a reply are read as they are, and an error is none that was done.
use Rattle.std.proofs.Common.{◌≡◌, ℕ, true, false, List, refl}
use Rattle.std.specs.Prelude.{ℤ, pos, negsuc, ◌^◌, ◌&&◌, int_lt, Some, if◌then◌else◌}
use denote.Hole.Carrier.{out}
use Rattle.bson_lite.specs.declared.bson.Bson.{Bson}
use Rattle.bson_lite.specs.declared.bson.Bson as bson
use Rattle.bson_lite.specs.Fields.{int_of}
use Rattle.wire_keys.specs.declared.keys.TheConstants.{OK}
use Rattle.driver_link.specs.Numbers.{reply_number}
use Rattle.driver_link.specs.Replies.{error_reply}
use Rattle.driver_ops.specs.Inserts.{int_at, is_one}

-- an error says that its command was not done
pub error_not_one : (code : ℤ) (labels : List (List ℕ)) → is_one (int_at OK.now (error_reply code labels)) ≡ false
unfolding error_reply bson.out-Bson out
error_not_one code labels = refl

-- a number of a reply is read as it is
pub reply_number_is : (n : ℤ) → int_of (reply_number n) ≡ Some n
unfolding reply_number bson.out-Bson out
reply_number_is n =
    elim (int_lt (negsuc (2 ^ 31)) n && int_lt n (pos (2 ^ 31))) as (λ b. int_of (if b then bson.Int32 n else bson.Int64 n) ≡ Some n) [ true ↦ refl | false ↦ refl ]
