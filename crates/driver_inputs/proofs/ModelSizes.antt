-- When the op of an insert is too long, by its document alone, and when a namespace is too long to be described, by its names.
use Rattle.std.proofs.Common.{◌≡◌, ℕ, ◌+◌, ◌-◌, ◌<◌, ◌≤◌, ◌^◌, min, Bool, true, false, List, ◌++◌, codes, length, length-append, nat_lt, refl, sym, ap, ◌∙◌, arith}
use Rattle.std.specs.Prelude.{None, Some, is_some, if◌then◌else◌}
use Rattle.std.proofs.lemmas.Bool.Decides.{nat_tests}
use Rattle.bson_lite.specs.declared.bson.Bson.{Bson}
use Rattle.bson_lite.specs.declared.document.Pair.{Pair}
use Rattle.bson_lite.specs.declared.fault.EncodeFault.TheVariants.{TooLong}
use Rattle.bson_lite.specs.declared.namespace.Namespace.{Namespace}
use Rattle.bson_lite.specs.Fields.{id_key, value_of, with_id}
use Rattle.bson_lite.specs.Namespace.{dotted}
use Rattle.bson_lite.specs.Spelling.{spelling}
use Rattle.bson_lite.proofs.Named.{by_tests}
use Rattle.bulk_fronts.specs.BulkFronts.{described_size}
use Rattle.bulk_fronts.proofs.BulkSizes.{described_length, insert_length}
use Rattle.driver_inputs.specs.ManyFaults.{zero_id}
use Rattle.driver_inputs.specs.inside.ModelFaults.{insert_length_fault, insert_op, longest_inserted, text_fault}
use Rattle.driver_inputs.proofs.Refusals.{length_drawn, length_own}

-- by the size that a document tells
own_shift : (count op size : ℕ) → op ≡ count + 27 → size ≡ min count (2 ^ 64 - 1) → nat_lt 2147483647 op ≡ nat_lt 2147483620 size
own_shift count op size is told = grind (arith, nat_tests)

drawn_shift : (count op size : ℕ) → op ≡ (count + 17) + 27 → size ≡ min count (2 ^ 64 - 1) → nat_lt 2147483647 op ≡ nat_lt 2147483603 size
drawn_shift count op size is told = grind (arith, nat_tests)

-- the op of an insert, whose document has its own id or gets one
insert_found : (document : List (Pair Bson)) (size : ℕ) (own : Bool) → is_some (value_of id_key document) ≡ own → size ≡ min (length (spelling document)) (2 ^ 64 - 1)
    → insert_length_fault document ≡ by_tests false false (nat_lt (if own then 2147483620 else 2147483603) size)
unfolding insert_length_fault zero_id
insert_found document size true there told =
    ap (by_tests false false)
    (own_shift (length (spelling document)) (length (spelling (insert_op (with_id zero_id document)))) size
    (insert_length (with_id zero_id document) ∙ ap (λ (count : ℕ). count + 27) (length_own zero_id document there)) told)
insert_found document size false none told =
    ap (by_tests false false)
    (drawn_shift (length (spelling document)) (length (spelling (insert_op (with_id zero_id document)))) size
    (insert_length (with_id zero_id document) ∙ ap (λ (count : ℕ). count + 27) (length_drawn zero_id document refl none)) told)

above : (limit size : ℕ) → limit < size → nat_lt limit size ≡ true
above limit size more = grind (arith, nat_tests)

within : (limit size : ℕ) → size ≤ limit → nat_lt limit size ≡ false
within limit size fits = grind (arith, nat_tests)

-- it is too long
pub insert_long : (document : List (Pair Bson)) (limit size : ℕ) → limit ≡ longest_inserted document → size ≡ min (length (spelling document)) (2 ^ 64 - 1) → limit < size
    → Some TooLong ≡ insert_length_fault document
insert_long document limit size is told more =
    sym (insert_found document size (is_some (value_of id_key document)) refl told ∙ ap (by_tests false false) (ap (λ (most : ℕ). nat_lt most size) (sym is) ∙ above limit size more))

-- or not
pub insert_short : (document : List (Pair Bson)) (limit size : ℕ) → limit ≡ longest_inserted document → size ≡ min (length (spelling document)) (2 ^ 64 - 1) → size ≤ limit
    → None ≡ insert_length_fault document
insert_short document limit size is told fits =
    sym (insert_found document size (is_some (value_of id_key document)) refl told ∙ ap (by_tests false false) (ap (λ (most : ℕ). nat_lt most size) (sym is) ∙ within limit size fits))

-- the text of a namespace by its names
dotted_length : (namespace : Namespace) → length (dotted namespace) ≡ length namespace.db + length namespace.coll + 1
dotted_length namespace =
    let dot : length (codes ".") ≡ 1 = refl in
    omega (arith, dot, length-append (namespace.db ++ codes ".") namespace.coll, length-append namespace.db (codes "."))

names_length : (namespace : Namespace) → described_size (dotted namespace) ≡ length namespace.db + length namespace.coll + 15
names_length namespace = omega (arith, described_length (dotted namespace), dotted_length namespace)

text_found : (namespace : Namespace) (long : Bool) → nat_lt 2147483647 (length namespace.db + length namespace.coll + 15) ≡ long → text_fault (dotted namespace) ≡ by_tests false false long
text_found namespace long is = ap (by_tests false false) (ap (nat_lt 2147483647) (names_length namespace) ∙ is)

-- it is too long to be described
pub names_long : (namespace : Namespace) → 2147483647 < length namespace.db + length namespace.coll + 15 → Some TooLong ≡ text_fault (dotted namespace)
names_long namespace more = sym (text_found namespace true (above 2147483647 (length namespace.db + length namespace.coll + 15) more))

-- or not
pub names_short : (namespace : Namespace) → length namespace.db + length namespace.coll + 15 ≤ 2147483647 → None ≡ text_fault (dotted namespace)
names_short namespace fits = sym (text_found namespace false (within 2147483647 (length namespace.db + length namespace.coll + 15) fits))
