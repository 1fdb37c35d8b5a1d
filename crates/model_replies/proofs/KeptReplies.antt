-- The reply that is kept as a number: why it is the machine's, and its bytes.
use Rattle.std.proofs.Common.{◌≡◌, ℕ, ◌+◌, ◌≤◌, Bool, true, false, ◌||◌, ◌&&◌, List, [], ◌∷◌, ◌++◌, length, refl, sym, ap, subst, ◌∙◌, append_assoc, arith}
use Rattle.std.specs.Prelude.{ℤ, pos, Option, None}
use Rattle.std.specs.Int.{w32, cast_unsigned}
use Rattle.std.specs.Str.{chars, is_utf8}
use lib.Utf8.{encode}
use denote.Hole.Carrier.{roll}
use Rattle.bson_lite.specs.declared.bson.Bson as bson
use Rattle.bson_lite.specs.declared.bson.Bson.TheOpen.{Bson-F}
use Rattle.bson_lite.specs.Ranges.{fits}
use Rattle.bson_lite.specs.Spelling.{Spells, body_of, element, four, framed, spelling, zero_in, valid_pairs}
use Rattle.bson_lite.proofs.Nested.{Folded, folded}
use Rattle.wire_keys.specs.declared.keys.TheConstants.{N, OK}
use Rattle.driver_link.specs.declared.machine.PlacedWrite.{PlacedWrite}
use Rattle.driver_link.specs.declared.machine.SendCommand.TheVariants as command
use Rattle.driver_link.specs.declared.machine.Statement.{Statement}
use Rattle.driver_link.specs.declared.machine.Statement.TheVariants.{Kept, Ran, Failed}
use Rattle.driver_link.specs.Cursors.{Reply}
use Rattle.driver_link.specs.Numbers.{field, reply_number}
use Rattle.driver_link.specs.Replies.{done_field, errors_field, results_in, sum_of, write_errors, write_reply}
use Rattle.driver_link.specs.Statements.{has_failed}
use Rattle.model_replies.specs.KeptReplies.{counted_reply}

-- where no statement failed there are no write errors
pub none_failed : (at : ℕ) (done : List Statement) → has_failed done ≡ false → write_errors at done ≡ []
unfolding write_errors
none_failed at [] well = refl
none_failed at (Kept result ∷ done) well = none_failed (at + 1) done well
none_failed at (Ran result ∷ done) well = none_failed (at + 1) done well
none_failed at (Failed code ∷ done) well = absurd (let e : true ≡ false = well in cc)

-- then the reply to inserts, or to deletes, has their number alone
pub inserts_counted : (n : ℤ) (page : Option ℕ) (cursors : List (Option (List Reply))) (writes : List PlacedWrite) (done : List Statement)
    → reply_number (sum_of (λ counts. counts.n) (results_in done)) ≡ bson.Int32 n → write_errors 0 done ≡ []
    → counted_reply n ≡ write_reply command.Insert page None cursors writes done
unfolding write_reply
inserts_counted n page cursors writes done number none =
    λ i. done_field ∷ ((field N.now (sym number i) ∷ errors_field (sym none i)) ++ [])

pub deletes_counted : (n : ℤ) (page : Option ℕ) (cursors : List (Option (List Reply))) (writes : List PlacedWrite) (done : List Statement)
    → reply_number (sum_of (λ counts. counts.n) (results_in done)) ≡ bson.Int32 n → write_errors 0 done ≡ []
    → counted_reply n ≡ write_reply command.Delete page None cursors writes done
unfolding write_reply
deletes_counted n page cursors writes done number none =
    λ i. done_field ∷ ((field N.now (sym number i) ∷ errors_field (sym none i)) ++ [])

-- a number as a value
int_is : (n : ℤ) → Folded (bson.Int32 n) (16, four (cast_unsigned w32 n)) 0 false (fits 0x8000_0000 n)
unfolding bson.roll-Bson roll
int_is n = folded (Bson-F.Int32 n)

-- the keys are texts
ok_key : is_utf8 OK.now ≡ true
unfolding is_utf8 chars encode
ok_key = refl

n_key : is_utf8 N.now ≡ true
unfolding is_utf8 chars encode
n_key = refl

-- the reply up to its number
abbrev pub counted_head : List ℕ
counted_head = 20 ∷ 0 ∷ 0 ∷ 0 ∷ 16 ∷ 111 ∷ 107 ∷ 0 ∷ 1 ∷ 0 ∷ 0 ∷ 0 ∷ 16 ∷ 110 ∷ 0 ∷ []

-- its two elements
abbrev counted_elements : List ℕ → List ℕ
counted_elements number = 16 ∷ 111 ∷ 107 ∷ 0 ∷ 1 ∷ 0 ∷ 0 ∷ 0 ∷ 16 ∷ 110 ∷ 0 ∷ number

elements_counted : (n : ℤ) → body_of (counted_reply n) ≡ counted_elements (four (cast_unsigned w32 n))
elements_counted n =
    λ i. element OK.now ((int_is (pos 1)).spells i) ++ (element N.now ((int_is n).spells i) ++ [])

spelling_counted : (n : ℤ) → spelling (counted_reply n) ≡ counted_head ++ (four (cast_unsigned w32 n) ++ 0 ∷ [])
spelling_counted n = ap (λ (elements : List ℕ). framed elements) (elements_counted n)

-- its bytes
pub counted_spelled : (n : ℤ) (bytes : List ℕ) → fits 0x8000_0000 n ≡ true → bytes ≡ counted_head ++ (four (cast_unsigned w32 n) ++ 0 ∷ []) → Spells (counted_reply n) bytes
counted_spelled n bytes in_range is = record {
  has = record {
    nests = omega (arith, (int_is (pos 1)).nests, (int_is n).nests);
    zero_free = λ i. (false || (int_is (pos 1)).zeros i) || ((false || (int_is n).zeros i) || false);
    well_formed = λ i. (ok_key i && (int_is (pos 1)).valids i) && ((n_key i && ((int_is n).valids ∙ in_range) i) && true);
    short = subst (λ (bytes : List ℕ). length bytes ≤ 2147483647) (sym (spelling_counted n)) (omega arith);
  };
  is = is ∙ sym (spelling_counted n);
}

-- parts that were appended one after another
pub three_parts : (a b c : List ℕ) → ((([] ++ a) ++ b) ++ c) ≡ a ++ (b ++ c)
three_parts a b c = append_assoc a b c
