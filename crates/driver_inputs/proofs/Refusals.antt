-- An id that is put first changes no refusal but by its length.
use Rattle.std.proofs.Common.{◌≡◌, ℕ, ◌+◌, ◌-◌, ◌<◌, ◌≤◌, ◌^◌, min, Bool, true, false, List, [], ◌∷◌, length, refl, sym, ap, subst, ◌∙◌, inl, inr, arith}
use Rattle.std.specs.Prelude.{Option, None, Some, is_some, nat_lt, not, Result, Ok, Err, IfOk, if◌then◌else◌}
use Rattle.std.proofs.lemmas.Bool.{cond-true}
use Rattle.std.proofs.lemmas.Bool.Decides.{nat_tests}
use Rattle.std.specs.declared.alloc.AllocError.{AllocError}
use Rattle.bson_lite.specs.declared.bson.Bson.{Bson}
use Rattle.bson_lite.specs.declared.bson.ObjectId.{ObjectId}
use Rattle.bson_lite.specs.declared.document.Pair.{Pair}
use Rattle.bson_lite.specs.declared.namespace.Namespace.{Namespace}
use Rattle.bson_lite.specs.declared.fault.EncodeFault.{EncodeFault}
use Rattle.bson_lite.specs.declared.fault.EncodeFault.TheVariants.{TooDeep, ZeroByte, TooLong}
use Rattle.bson_lite.specs.Fields.{begins_with_operator, value_of, id_key, with_id}
use Rattle.bson_lite.specs.Spelling.{refusal, refusal_within, nesting, zero_in, spelling}
use Rattle.bson_lite.proofs.Named.{by_tests, id_pair, length_named, refusal_named, refused_named, with_none}
use Rattle.driver_error.specs.declared.kind.ErrorKind.TheVariants as kind
use Rattle.driver_error.specs.declared.error.Error.{Error}
use Rattle.driver_error.specs.Conversions.{IsMade}
use Rattle.driver_error.specs.Error.{ErrorKind}
use Rattle.driver_error.specs.LabelTexts.{no_labels}
use Rattle.driver_options.specs.declared.updates.UpdateModifications.TheVariants.{Document}
use Rattle.driver_options.specs.declared.updates.UpdateOrReplace.TheVariants.{Replacement, UpdateModifications}
use Rattle.driver_options.specs.declared.write_options.InsertManyOptions.{InsertManyOptions}
use Rattle.driver_inputs.specs.Forms.{WriteForm, command_body, deletes, finds, inserts, namespace_in, updates}
use Rattle.driver_inputs.specs.Inputs.{InputRefused, IsAccepted, JudgesInput, RefusesValues, TellsInput, argument_refusal, change_refusal, dotted_text, else_text, has_dot, is_long, name_refusal, operator_refusal, replacement_text, update_text, value_list}
use Rattle.driver_inputs.specs.Faults.{ErrorOfFault, IsArgumentError, RefusesDocument, first_of, length_fault, values_fault}
use Rattle.driver_inputs.proofs.InputFaults.{document_first}

-- a document that has an id
pub refuses_own : (document : List (Pair Bson)) (found : Option Bson) → value_of id_key document ≡ found → is_some found ≡ true
    → RefusesDocument document (refusal_within 96 document)
refuses_own document found at there = λ id twelve.
    ap (refusal_within 96) (cond-true (is_some (value_of id_key document)) document (id_pair id ∷ document) (ap is_some at ∙ there))

lt_above : (long : ℕ) → 2147483647 < long + 17 → nat_lt 2147483647 (long + 17) ≡ true
lt_above long more = grind (arith, nat_tests)

lt_within : (long : ℕ) → long + 17 ≤ 2147483647 → nat_lt 2147483647 (long + 17) ≡ false
lt_within long fits = grind (arith, nat_tests)

-- the refusal by length
abbrev by_length : Bool → Option EncodeFault
by_length long = if long then Some TooLong else None

none_tests : (deep zero : Bool) (long : ℕ) (b : Bool) → by_tests deep zero (nat_lt 2147483647 long) ≡ None → nat_lt 2147483647 (long + 17) ≡ b
    → by_tests deep zero (nat_lt 2147483647 (long + 17)) ≡ by_length b
none_tests true zero long b is at = absurd (let e : ◌≡◌ {A = Option EncodeFault} (Some TooDeep) None = is in cc)
none_tests false true long b is at = absurd (let e : ◌≡◌ {A = Option EncodeFault} (Some ZeroByte) None = is in cc)
none_tests false false long b is at = ap by_length at

-- a document without an id that is refused without one
pub refuses_named : (document : List (Pair Bson)) (fault : EncodeFault) → is_some (value_of id_key document) ≡ false → refusal_within 96 document ≡ Some fault
    → RefusesDocument document (Some fault)
refuses_named document fault none is = λ id twelve.
    ap (refusal_within 96) (with_none id document none) ∙ refused_named 96 id document fault twelve is

named_none : (document : List (Pair Bson)) (b : Bool) → is_some (value_of id_key document) ≡ false → refusal_within 96 document ≡ None
    → nat_lt 2147483647 (length (spelling document) + 17) ≡ b → RefusesDocument document (by_length b)
named_none document b none is at = λ id twelve.
    ap (refusal_within 96) (with_none id document none) ∙ refusal_named 96 id document twelve
    ∙ none_tests (nat_lt 96 (nesting document)) (zero_in document) (length (spelling document)) b is at

-- one that is too long with an id
pub refuses_long : (document : List (Pair Bson)) → is_some (value_of id_key document) ≡ false → refusal_within 96 document ≡ None
    → 2147483630 < min (length (spelling document)) (2 ^ 64 - 1) → RefusesDocument document (Some TooLong)
refuses_long document none is more = named_none document true none is (lt_above (length (spelling document)) (omega arith))

-- and one that is not
pub refuses_none : (document : List (Pair Bson)) → is_some (value_of id_key document) ≡ false → refusal_within 96 document ≡ None
    → min (length (spelling document)) (2 ^ 64 - 1) ≤ 2147483630 → RefusesDocument document None
refuses_none document none is fits = named_none document false none is (lt_within (length (spelling document)) (omega arith))

-- a document is refused alike with each id
pub refused_alike : (document : List (Pair Bson)) (one other : ObjectId) → length one.bytes ≡ 12 → length other.bytes ≡ 12
    → refusal_within 96 (with_id one document) ≡ refusal_within 96 (with_id other document)
refused_alike document one other twelve twelve_other = by_own (is_some (value_of id_key document)) refl
  where
    by_own : (own : Bool) → is_some (value_of id_key document) ≡ own → refusal_within 96 (with_id one document) ≡ refusal_within 96 (with_id other document)
    by_own true there =
        refuses_own document (value_of id_key document) refl there one twelve ∙ sym (refuses_own document (value_of id_key document) refl there other twelve_other)
    by_own false none =
        ap (refusal_within 96) (with_none one document none) ∙ refusal_named 96 one document twelve
        ∙ sym (ap (refusal_within 96) (with_none other document none) ∙ refusal_named 96 other document twelve_other)

-- and it is as long with each
with_own : (id : ObjectId) (document : List (Pair Bson)) → is_some (value_of id_key document) ≡ true → with_id id document ≡ document
with_own id document there = cond-true (is_some (value_of id_key document)) document (id_pair id ∷ document) there

pub length_own : (id : ObjectId) (document : List (Pair Bson)) → is_some (value_of id_key document) ≡ true → length (spelling (with_id id document)) ≡ length (spelling document)
length_own id document there = ap (λ (d : List (Pair Bson)). length (spelling d)) (with_own id document there)

pub length_drawn : (id : ObjectId) (document : List (Pair Bson)) → length id.bytes ≡ 12 → is_some (value_of id_key document) ≡ false
    → length (spelling (with_id id document)) ≡ length (spelling document) + 17
length_drawn id document twelve none = ap (λ (d : List (Pair Bson)). length (spelling d)) (with_none id document none) ∙ length_named id document twelve

pub length_alike : (document : List (Pair Bson)) (one other : ObjectId) → length one.bytes ≡ 12 → length other.bytes ≡ 12
    → length (spelling (with_id one document)) ≡ length (spelling (with_id other document))
length_alike document one other twelve twelve_other = by_own (is_some (value_of id_key document)) refl
  where
    by_own : (own : Bool) → is_some (value_of id_key document) ≡ own → length (spelling (with_id one document)) ≡ length (spelling (with_id other document))
    by_own true there = length_own one document there ∙ sym (length_own other document there)
    by_own false none = length_drawn one document twelve none ∙ sym (length_drawn other document twelve_other none)

-- a document that may nest 96 levels deep has a spelling
none_of_less : (deep : ℕ) (zero long b : Bool) → nat_lt 96 deep ≡ b → (if b then Some TooDeep else (if zero then Some ZeroByte else by_length long)) ≡ None
    → (if nat_lt 100 deep then Some TooDeep else (if zero then Some ZeroByte else by_length long)) ≡ None
none_of_less deep zero long true at is = absurd (let e : ◌≡◌ {A = Option EncodeFault} (Some TooDeep) None = is in cc)
none_of_less deep zero long false at is =
    ap (λ b. if b then Some TooDeep else (if zero then Some ZeroByte else by_length long)) (not_deep deep at) ∙ is
  where
    not_deep : (deep : ℕ) → nat_lt 96 deep ≡ false → nat_lt 100 deep ≡ false
    not_deep deep at = grind (arith, nat_tests)

pub spelled_within : (document : List (Pair Bson)) → refusal_within 96 document ≡ None → refusal document ≡ None
spelled_within document is =
    none_of_less (nesting document) (zero_in document) (nat_lt 2147483647 (length (spelling document))) (nat_lt 96 (nesting document)) refl is

-- an insert is refused for its document, else for its comment, else for the length of its command
pub inserted_values : (namespace : Namespace) (document : List (Pair Bson)) (options : InsertManyOptions) (by_document by_comment by_length : Option EncodeFault)
    → RefusesDocument document by_document → by_comment ≡ values_fault (value_list options.comment) → by_length ≡ length_fault (command_body (inserts namespace document options))
    → RefusesValues (inserts namespace document options) (first_of by_document (first_of by_comment by_length))
inserted_values namespace document options by_document by_comment by_length refused is_comment is_length = λ id twelve.
    let now = with_id id document in
    let long = is_long (command_body (inserts namespace document options)) in
    sym (document_first now (value_list options.comment) long)
    ∙ ap (λ fault. first_of fault (first_of (values_fault (value_list options.comment)) (length_fault (command_body (inserts namespace document options))))) (refused id twelve)
    ∙ ap (λ fault. first_of by_document (first_of fault (length_fault (command_body (inserts namespace document options))))) (sym is_comment)
    ∙ ap (λ fault. first_of by_document (first_of by_comment fault)) (sym is_length)

-- a name is refused where it has a dot
pub name_dotted : (namespace : Namespace) (error : Error) → has_dot namespace.db ≡ true → IsMade (kind.InvalidArgument (dotted_text namespace.db)) no_labels error
    → IsArgumentError (name_refusal namespace) error
name_dotted namespace error dot is = record { text = dotted_text namespace.db; refused = ap (λ b. if b then Some (dotted_text namespace.db) else None) dot; is = is }

pub name_taken : (namespace : Namespace) → has_dot namespace.db ≡ false → name_refusal namespace ≡ None
name_taken namespace none = ap (λ b. if b then Some (dotted_text namespace.db) else None) none

-- a change is refused by its first key
pub update_plain : (document : List (Pair Bson)) (error : Error) → begins_with_operator document ≡ false → IsMade (kind.InvalidArgument update_text) no_labels error
    → IsArgumentError (change_refusal (UpdateModifications (Document document))) error
update_plain document error plain is = record { text = update_text; refused = ap (λ b. if b then None else Some update_text) plain; is = is }

pub update_taken : (document : List (Pair Bson)) → begins_with_operator document ≡ true → change_refusal (UpdateModifications (Document document)) ≡ None
update_taken document begins = ap (λ b. if b then None else Some update_text) begins

pub replacement_operator : (document : List (Pair Bson)) (error : Error) → not (begins_with_operator document) ≡ false → IsMade (kind.InvalidArgument replacement_text) no_labels error
    → IsArgumentError (change_refusal (Replacement document)) error
replacement_operator document error begins is =
    record { text = replacement_text; refused = ap (λ b. if b then Some replacement_text else None) (not_false (begins_with_operator document) begins); is = is }
  where
    not_false : (b : Bool) → not b ≡ false → b ≡ true
    not_false true is = refl
    not_false false is = absurd (let e : ◌≡◌ {A = Bool} true false = is in cc)

pub replacement_taken : (document : List (Pair Bson)) → not (begins_with_operator document) ≡ true → change_refusal (Replacement document) ≡ None
replacement_taken document plain = ap (λ b. if b then Some replacement_text else None) (not_true (begins_with_operator document) plain)
  where
    not_true : (b : Bool) → not b ≡ true → b ≡ false
    not_true false is = refl
    not_true true is = absurd (let e : ◌≡◌ {A = Bool} false true = is in cc)

-- an error of an argument that is refused is the input's
argument_input : (form : WriteForm) (error : Error) → IsArgumentError (argument_refusal form) error → TellsInput form error
argument_input form error found = elim found.is [
  | inl alone ↦ inr (record { why = kind.InvalidArgument found.text; refused = found.refused; is = alone })
  | inr alone ↦ inl alone
]

pub named_input : (form : WriteForm) (error : Error) → IsArgumentError (name_refusal (namespace_in form)) error → TellsInput form error
named_input form error found = argument_input form error (record { text = found.text; refused = ap (λ why. else_text why (operator_refusal form)) found.refused; is = found.is })

pub operator_input : (form : WriteForm) (error : Error) → name_refusal (namespace_in form) ≡ None → IsArgumentError (operator_refusal form) error → TellsInput form error
operator_input form error name found =
    argument_input form error (record { text = found.text; refused = ap (λ why. else_text why (operator_refusal form)) name ∙ found.refused; is = found.is })

-- what is judged of a write whose arguments are in order
pub judged_values : (form : WriteForm) (fault : Result (Option EncodeFault) AllocError) (result : Option Error) → name_refusal (namespace_in form) ≡ None → operator_refusal form ≡ None
    → IfOk fault (RefusesValues form) → ErrorOfFault fault result → JudgesInput form result
judged_values form fault result name operator values judged = by_fault fault result values judged
  where
    arguments : argument_refusal form ≡ None
    arguments = ap (λ why. else_text why (operator_refusal form)) name ∙ operator

    by_fault : (fault : Result (Option EncodeFault) AllocError) (result : Option Error) → IfOk fault (RefusesValues form) → ErrorOfFault fault result → JudgesInput form result
    by_fault (Ok None) result values judged = subst (JudgesInput form) (sym judged) (record { arguments = arguments; values = values })
    by_fault (Ok (Some fault)) None values judged = absurd judged
    by_fault (Ok (Some fault)) (Some error) values judged = inr (record { why = kind.BsonSerialization fault; refused = (arguments, values); is = judged })
    by_fault (Err refused) None values judged = absurd judged
    by_fault (Err refused) (Some error) values judged = inl judged

-- an id of zeros
some_id : ObjectId
some_id = record { bytes = 0 ∷ 0 ∷ 0 ∷ 0 ∷ 0 ∷ 0 ∷ 0 ∷ 0 ∷ 0 ∷ 0 ∷ 0 ∷ 0 ∷ [] }

-- a write has one refusal for its values
one_refusal : (form : WriteForm) (first second : Option EncodeFault) → RefusesValues form first → RefusesValues form second → first ≡ second
unfolding some_id
one_refusal (inserts namespace document options) first second one other = sym (one some_id refl) ∙ other some_id refl
one_refusal (updates namespace filter change multi options) first second one other = sym one ∙ other
one_refusal (deletes namespace filter multi options) first second one other = sym one ∙ other
one_refusal (finds namespace filter modification options) first second one other = sym one ∙ other

-- an input has one error
pub one_input : (form : WriteForm) (first second : ErrorKind) → InputRefused form first → InputRefused form second → first ≡ second
one_input form (kind.InvalidArgument message) (kind.InvalidArgument other) one two =
    let same : message ≡ other = let e : ◌≡◌ {A = Option (List ℕ)} (Some message) (Some other) = sym one ∙ two in cc in ap (λ m. kind.InvalidArgument m) same
one_input form (kind.InvalidArgument message) (kind.BsonSerialization fault) one two = absurd (let e : ◌≡◌ {A = Option (List ℕ)} (Some message) None = sym one ∙ two.0 in cc)
one_input form (kind.BsonSerialization fault) (kind.InvalidArgument message) one two = absurd (let e : ◌≡◌ {A = Option (List ℕ)} (Some message) None = sym two ∙ one.0 in cc)
one_input form (kind.BsonSerialization fault) (kind.BsonSerialization other) one two =
    let same : fault ≡ other = let e : ◌≡◌ {A = Option EncodeFault} (Some fault) (Some other) = one_refusal form (Some fault) (Some other) one.1 two.1 in cc in
    ap (λ f. kind.BsonSerialization f) same
one_input form (kind.InvalidArgument message) _ one two = absurd two
one_input form (kind.BsonSerialization fault) _ one two = absurd two
one_input form _ second one two = absurd one

-- input that is accepted has no error
pub accepted_not_refused : (form : WriteForm) (why : ErrorKind) → IsAccepted form → InputRefused form why → ⊥
accepted_not_refused form (kind.InvalidArgument message) accepted refused = let e : ◌≡◌ {A = Option (List ℕ)} None (Some message) = sym accepted.arguments ∙ refused in cc
accepted_not_refused form (kind.BsonSerialization fault) accepted refused =
    let e : ◌≡◌ {A = Option EncodeFault} None (Some fault) = one_refusal form None (Some fault) accepted.values refused.1 in cc
accepted_not_refused form _ accepted refused = refused
