-- The op of an insert in bytes: a document with the bytes of another in its place spells the op, where that nests one level less.
use Rattle.std.proofs.Common.{◌≡◌, ℕ, ◌+◌, ◌≤◌, Bool, true, false, ◌||◌, ◌&&◌, List, [], ◌++◌, append-nil, length, refl, sym, ap, ◌∙◌, arith}
use Rattle.std.specs.Prelude.{Option, None, Some, IfSome, nat_lt, pos}
use Rattle.std.proofs.lemmas.Bool.{ltb-false}
use Rattle.std.specs.Str.{chars, is_utf8}
use lib.Utf8.{encode}
use denote.Hole.Carrier.{roll}
use Rattle.bson_lite.specs.declared.bson.Bson as bson
use Rattle.bson_lite.specs.declared.bson.Bson.{Bson}
use Rattle.bson_lite.specs.declared.bson.Bson.TheOpen.{Bson-F}
use Rattle.bson_lite.specs.declared.bson.Bson.TheVariants.{rolls-Document}
use Rattle.bson_lite.specs.declared.document.Pair.{Pair}
use Rattle.bson_lite.specs.Spelling.{Spells, body_of, depth, element, four, framed, nesting, refusal_within, spelled, spelling, valid, valid_pairs, zero_in, zero_within}
use Rattle.bson_lite.proofs.Named.{tests_of_none}
use Rattle.bson_lite.proofs.Nested.{Folded, folded}
use Rattle.wire_keys.specs.declared.keys.TheConstants.{DOCUMENT, INSERT}
use Rattle.bulk_fronts.specs.inside.BulkOps.{insert_op}
use Rattle.bulk_fronts.specs.inside.InsertSpelling.{FramesInsert, insert_elements}
use Rattle.bulk_fronts.proofs.BulkSizes.{document_spelled, insert_length}

-- the number of the namespace and a document as values
number_is : Folded (bson.Int32 (pos 0)) (16, four 0) 0 false true
unfolding bson.roll-Bson roll
number_is = folded (Bson-F.Int32 (pos 0))

document_depth : (document : List (Pair Bson)) → depth (bson.Document document) ≡ nesting document
document_depth document = ap depth (sym (rolls-Document document)) ∙ (folded (Bson-F.Document document)).nests

document_zero : (document : List (Pair Bson)) → zero_within (bson.Document document) ≡ zero_in document
document_zero document = ap zero_within (sym (rolls-Document document)) ∙ (folded (Bson-F.Document document)).zeros

document_valid : (document : List (Pair Bson)) → valid (bson.Document document) ≡ valid_pairs document
document_valid document = ap valid (sym (rolls-Document document)) ∙ (folded (Bson-F.Document document)).valids

-- the keys are texts
number_key : is_utf8 INSERT.now ≡ true
unfolding is_utf8 chars encode
number_key = refl

document_key : is_utf8 DOCUMENT.now ≡ true
unfolding is_utf8 chars encode
document_key = refl

-- the op's elements are those around the document's bytes
body_is : (document : List (Pair Bson)) → body_of (insert_op document) ≡ insert_elements (spelling document)
body_is document =
    ap (λ (value : ℕ × List ℕ). element INSERT.now value ++ (element DOCUMENT.now (spelled (bson.Document document)) ++ [])) number_is.spells
    ∙ ap (λ (value : ℕ × List ℕ). element INSERT.now (16, four 0) ++ (element DOCUMENT.now value ++ [])) (document_spelled document)
    ∙ ap (λ (last : List ℕ). element INSERT.now (16, four 0) ++ last) (append-nil (element DOCUMENT.now (3, spelling document)))

op_depth : (document : List (Pair Bson)) → nesting document ≤ 99 → nesting (insert_op document) ≤ 100
op_depth document levels = omega (arith, number_is.nests, document_depth document, levels)

op_zeros : (document : List (Pair Bson)) → zero_in document ≡ false → zero_in (insert_op document) ≡ false
op_zeros document none =
    ap (λ (zero : Bool). (false || zero) || ((false || zero_within (bson.Document document)) || false)) number_is.zeros
    ∙ ap (λ (zero : Bool). (false || zero) || false) (document_zero document ∙ none)

op_valid : (document : List (Pair Bson)) → valid_pairs document ≡ true → valid_pairs (insert_op document) ≡ true
op_valid document each =
    ap (λ (key : Bool). (key && valid (bson.Int32 (pos 0))) && ((is_utf8 DOCUMENT.now && valid (bson.Document document)) && true)) number_key
    ∙ ap (λ (value : Bool). (true && value) && ((is_utf8 DOCUMENT.now && valid (bson.Document document)) && true)) number_is.valids
    ∙ ap (λ (key : Bool). (key && valid (bson.Document document)) && true) document_key
    ∙ ap (λ (value : Bool). (true && value) && true) (document_valid document ∙ each)

-- so the bytes around those of the document spell the op
op_spelled : (document : List (Pair Bson)) (own bytes : List ℕ) → nesting document ≤ 99 → Spells document own → FramesInsert own bytes → Spells (insert_op document) bytes
op_spelled document own bytes levels spells frames =
    let size : length own ≡ length (spelling document) = ap length spells.is in
    let short : length own + 27 ≤ 2147483647 = frames.short in
    record {
      has = record {
        nests = op_depth document levels;
        zero_free = op_zeros document spells.has.zero_free;
        well_formed = op_valid document spells.has.well_formed;
        short = omega (arith, insert_length document, size, short);
      };
      is = frames.is
          ∙ ap (λ (inside : List ℕ). framed (insert_elements inside)) spells.is
          ∙ ap framed (sym (body_is document));
    }

-- as far as there are bytes
pub spelled_where_framed : (document : List (Pair Bson)) (own : List ℕ) (found : Option (List ℕ)) → nesting document ≤ 99 → Spells document own → IfSome found (FramesInsert own)
    → IfSome found (Spells (insert_op document))
spelled_where_framed document own None levels spells frames = tt
spelled_where_framed document own (Some bytes) levels spells frames = op_spelled document own bytes levels spells frames

-- what is not refused within so many levels nests no deeper
pub levels_taken : (document : List (Pair Bson)) → refusal_within 99 document ≡ None → nesting document ≤ 99
levels_taken document taken =
    ltb-false 99 (nesting document) (tests_of_none (nat_lt 99 (nesting document)) (zero_in document) (nat_lt 2147483647 (length (spelling document))) taken).0
