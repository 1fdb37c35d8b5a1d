-- The first of the faults of values, and how a document around them is judged.
use Rattle.std.proofs.Common.{◌≡◌, ℕ, suc, Bool, true, false, List, [], ◌∷◌, ◌++◌, refl, sym, ap, ◌∙◌, inl, inr, arith, rules}
use Rattle.std.specs.Prelude.{Option, None, Some, nat_lt, max, ◌||◌, ◌⊎◌, if◌then◌else◌}
use Rattle.std.specs.List.{list_any}
use Rattle.std.proofs.lemmas.Bool.Decides.{nat_tests}
use Rattle.bson_lite.specs.declared.bson.Bson.{Bson}
use Rattle.bson_lite.specs.declared.bson.Bson as bson
use Rattle.bson_lite.specs.declared.document.Pair.{Pair}
use Rattle.bson_lite.specs.declared.fault.EncodeFault.{EncodeFault}
use Rattle.bson_lite.specs.declared.fault.EncodeFault.TheVariants.{Memory, TooDeep, TooLong, ZeroByte}
use Rattle.bson_lite.specs.Spelling.{depth, nesting, refusal_within, zero_in, zero_within}
use Rattle.bson_lite.proofs.Named.{by_tests}
use Rattle.driver_link.specs.Numbers.{field}
use Rattle.driver_inputs.specs.Inputs.{is_deep, is_long, values_refusal}
use Rattle.driver_inputs.specs.Faults.{before_length, before_zero, first_of, value_fault, values_fault}

-- a document nests as deep as it does as a value
pub depth_of : (document : List (Pair Bson)) → depth (bson.Document document) ≡ nesting document
depth_of document = search (rules, bson.the_lemmas)

pub zero_of : (document : List (Pair Bson)) → zero_within (bson.Document document) ≡ zero_in document
zero_of document = search (rules, bson.the_lemmas)

-- a text nests nothing, and may hold any byte
text_depth : (text : List ℕ) → depth (bson.String text) ≡ 0
text_depth text = search (rules, bson.the_lemmas)

text_zero : (text : List ℕ) → zero_within (bson.String text) ≡ false
text_zero text = search (rules, bson.the_lemmas)

-- a text is refused for nothing but its length
pub text_fault : (text : List ℕ) → values_fault (bson.String text ∷ []) ≡ None
text_fault text = ap (λ d. first_of (by_tests (nat_lt 96 d) (zero_within (bson.String text)) false) None) (text_depth text)
    ∙ ap (λ z. first_of (by_tests false z false) None) (text_zero text)

-- a fault but for the length
abbrev pub but_length : Option EncodeFault → Option EncodeFault
but_length (Some TooLong) = None
but_length other = other

tests_but : (deep zero long : Bool) → but_length (by_tests deep zero long) ≡ by_tests deep zero false
tests_but true zero long = refl
tests_but false true long = refl
tests_but false false true = refl
tests_but false false false = refl

-- what is refused within the levels of a caller's document is its fault as a value, but for its length
pub without_length : (document : List (Pair Bson)) → but_length (refusal_within 96 document) ≡ value_fault (bson.Document document)
without_length document =
    tests_but (nat_lt 96 (nesting document)) (zero_in document) (is_long document)
    ∙ ap (λ n. by_tests (nat_lt 96 n) (zero_in document) false) (sym (depth_of document))
    ∙ ap (λ z. by_tests (nat_lt 96 (depth (bson.Document document))) z false) (sym (zero_of document))

-- a document around one value nests one level deeper
around_deep : (d : ℕ) → nat_lt 97 (suc (max d 0)) ≡ nat_lt 96 d
around_deep d = grind (arith, nat_tests)

around_zero : (zero : Bool) → ((false || zero) || false) ≡ zero
around_zero true = refl
around_zero false = refl

pub within_around : (value : Bson) → but_length (refusal_within 97 (field [] value ∷ [])) ≡ value_fault value
within_around value =
    tests_but (nat_lt 97 (nesting (field [] value ∷ []))) (zero_in (field [] value ∷ [])) (is_long (field [] value ∷ []))
    ∙ ap (λ b. by_tests b (zero_in (field [] value ∷ [])) false) (around_deep (depth value))
    ∙ ap (λ z. by_tests (is_deep value) z false) (around_zero (zero_within value))

-- the first of three faults
pub first_twice : (a b c : Option EncodeFault) → first_of (first_of a b) c ≡ first_of a (first_of b c)
first_twice None b c = refl
first_twice (Some Memory) b c = refl
first_twice (Some TooDeep) b c = refl
first_twice (Some ZeroByte) None c = refl
first_twice (Some ZeroByte) (Some Memory) c = refl
first_twice (Some ZeroByte) (Some TooDeep) c = refl
first_twice (Some ZeroByte) (Some ZeroByte) c = zero_again c
  where
    zero_again : (c : Option EncodeFault) → before_zero c ≡ before_zero (before_zero c)
    zero_again None = refl
    zero_again (Some Memory) = refl
    zero_again (Some TooDeep) = refl
    zero_again (Some ZeroByte) = refl
    zero_again (Some TooLong) = refl
first_twice (Some ZeroByte) (Some TooLong) c = zero_length c
  where
    zero_length : (c : Option EncodeFault) → before_zero c ≡ before_zero (before_length c)
    zero_length None = refl
    zero_length (Some Memory) = refl
    zero_length (Some TooDeep) = refl
    zero_length (Some ZeroByte) = refl
    zero_length (Some TooLong) = refl
first_twice (Some TooLong) None c = length_none c
  where
    length_none : (c : Option EncodeFault) → before_length c ≡ before_length c
    length_none c = refl
first_twice (Some TooLong) (Some Memory) c = refl
first_twice (Some TooLong) (Some TooDeep) c = refl
first_twice (Some TooLong) (Some ZeroByte) c = length_zero c
  where
    length_zero : (c : Option EncodeFault) → before_zero c ≡ before_length (before_zero c)
    length_zero None = refl
    length_zero (Some Memory) = refl
    length_zero (Some TooDeep) = refl
    length_zero (Some ZeroByte) = refl
    length_zero (Some TooLong) = refl
first_twice (Some TooLong) (Some TooLong) c = length_again c
  where
    length_again : (c : Option EncodeFault) → before_length c ≡ before_length (before_length c)
    length_again None = refl
    length_again (Some Memory) = refl
    length_again (Some TooDeep) = refl
    length_again (Some ZeroByte) = refl
    length_again (Some TooLong) = refl

-- the first fault of values behind others
pub faults_joined : (xs ys : List Bson) → values_fault (xs ++ ys) ≡ first_of (values_fault xs) (values_fault ys)
faults_joined [] ys = refl
faults_joined (x ∷ xs) ys = ap (first_of (value_fault x)) (faults_joined xs ys) ∙ sym (first_twice (value_fault x) (values_fault xs) (values_fault ys))

-- the same of two faults that were found
pub joined : (one other : Option EncodeFault) (xs ys : List Bson) → one ≡ values_fault xs → other ≡ values_fault ys → first_of one other ≡ values_fault (xs ++ ys)
joined one other xs ys is is_other = ap (λ o. first_of o other) is ∙ ap (first_of (values_fault xs)) is_other ∙ sym (faults_joined xs ys)

-- the first of two faults by what was tested
pub tests_first : (deep zero long deep_more zero_more long_more : Bool)
    → first_of (by_tests deep zero long) (by_tests deep_more zero_more long_more) ≡ by_tests (deep || deep_more) (zero || zero_more) (long || long_more)
tests_first true zero long deep_more zero_more long_more = refl
tests_first false true long true zero_more long_more = refl
tests_first false true long false true long_more = refl
tests_first false true long false false true = refl
tests_first false true long false false false = refl
tests_first false false true true zero_more long_more = refl
tests_first false false true false true long_more = refl
tests_first false false true false false true = refl
tests_first false false true false false false = refl
tests_first false false false true zero_more long_more = refl
tests_first false false false false true long_more = refl
tests_first false false false false false true = refl
tests_first false false false false false false = refl

-- values are refused by their first fault, else for what is too long
pub refused_by : (values : List Bson) (long : Bool) → first_of (values_fault values) (if long then Some TooLong else None) ≡ values_refusal values long
refused_by [] long = refl
refused_by (value ∷ values) long =
    first_twice (value_fault value) (values_fault values) (if long then Some TooLong else None)
    ∙ ap (first_of (value_fault value)) (refused_by values long)
    ∙ tests_first (is_deep value) (zero_within value) false (list_any is_deep values) (list_any zero_within values) long

-- values that begin with a document, which has to be short enough by itself
pub document_first : (document : List (Pair Bson)) (values : List Bson) (long : Bool)
    → first_of (refusal_within 96 document) (first_of (values_fault values) (if long then Some TooLong else None)) ≡ values_refusal (bson.Document document ∷ values) (is_long document || long)
document_first document values long =
    ap (first_of (refusal_within 96 document)) (refused_by values long)
    ∙ tests_first (nat_lt 96 (nesting document)) (zero_in document) (is_long document) (list_any is_deep values) (list_any zero_within values) long
    ∙ ap (λ n. by_tests (nat_lt 96 n || list_any is_deep values) (zero_in document || list_any zero_within values) (is_long document || long)) (sym (depth_of document))
    ∙ ap (λ z. by_tests (is_deep (bson.Document document) || list_any is_deep values) (z || list_any zero_within values) (is_long document || long)) (sym (zero_of document))

-- where all of them are in order the document is
first_none : (one other : Option EncodeFault) → first_of one other ≡ None → (one ≡ None) ⊎ (one ≡ Some Memory)
first_none None other is = inl refl
first_none (Some Memory) other is = inr refl
first_none (Some TooDeep) other is = absurd (let e : ◌≡◌ {A = Option EncodeFault} (Some TooDeep) None = is in cc)
first_none (Some ZeroByte) other is = absurd (zero_some other is)
  where
    zero_some : (other : Option EncodeFault) → before_zero other ≡ None → ⊥
    zero_some (Some TooDeep) is = let e : ◌≡◌ {A = Option EncodeFault} (Some TooDeep) None = is in cc
    zero_some (Some ZeroByte) is = let e : ◌≡◌ {A = Option EncodeFault} (Some ZeroByte) None = is in cc
    zero_some (Some TooLong) is = let e : ◌≡◌ {A = Option EncodeFault} (Some ZeroByte) None = is in cc
    zero_some (Some Memory) is = let e : ◌≡◌ {A = Option EncodeFault} (Some ZeroByte) None = is in cc
    zero_some None is = let e : ◌≡◌ {A = Option EncodeFault} (Some ZeroByte) None = is in cc
first_none (Some TooLong) other is = absurd (long_some other is)
  where
    long_some : (other : Option EncodeFault) → before_length other ≡ None → ⊥
    long_some (Some TooDeep) is = let e : ◌≡◌ {A = Option EncodeFault} (Some TooDeep) None = is in cc
    long_some (Some ZeroByte) is = let e : ◌≡◌ {A = Option EncodeFault} (Some ZeroByte) None = is in cc
    long_some (Some TooLong) is = let e : ◌≡◌ {A = Option EncodeFault} (Some TooLong) None = is in cc
    long_some (Some Memory) is = let e : ◌≡◌ {A = Option EncodeFault} (Some TooLong) None = is in cc
    long_some None is = let e : ◌≡◌ {A = Option EncodeFault} (Some TooLong) None = is in cc

tests_no_memory : (deep zero long : Bool) → by_tests deep zero long ≡ Some Memory → ⊥
tests_no_memory true zero long is = let e : ◌≡◌ {A = Option EncodeFault} (Some TooDeep) (Some Memory) = is in cc
tests_no_memory false true long is = let e : ◌≡◌ {A = Option EncodeFault} (Some ZeroByte) (Some Memory) = is in cc
tests_no_memory false false true is = let e : ◌≡◌ {A = Option EncodeFault} (Some TooLong) (Some Memory) = is in cc
tests_no_memory false false false is = let e : ◌≡◌ {A = Option EncodeFault} None (Some Memory) = is in cc

pub document_taken : (document : List (Pair Bson)) (values : List Bson) (long : Bool) → values_refusal (bson.Document document ∷ values) (is_long document || long) ≡ None
    → refusal_within 96 document ≡ None
document_taken document values long is = elim (first_none (refusal_within 96 document) (first_of (values_fault values) (if long then Some TooLong else None)) (document_first document values long ∙ is)) [
  | inl none ↦ none
  | inr memory ↦ absurd (tests_no_memory (nat_lt 96 (nesting document)) (zero_in document) (is_long document) memory)
]
