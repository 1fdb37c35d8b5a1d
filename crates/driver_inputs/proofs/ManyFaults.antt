-- The faults of the documents of an insert with their ids, whichever those are, and what is judged by them.
use Rattle.std.proofs.Common.{◌≡◌, ℕ, suc, Bool, true, false, List, [], ◌∷◌, ◌++◌, length, refl, sym, ap, subst, ◌∙◌, inl, inr, arith, eq-eqb, eqb-true, true≢false}
use Rattle.std.specs.Prelude.{Option, None, Some, ◌==◌, ◌||◌, Result, Ok, Err, IfOk, if◌then◌else◌}
use Rattle.std.specs.List.{list_any}
use Rattle.std.specs.declared.alloc.AllocError.{AllocError}
use Rattle.bson_lite.specs.declared.bson.Bson as bson
use Rattle.bson_lite.specs.declared.bson.Bson.{Bson}
use Rattle.bson_lite.specs.declared.bson.ObjectId.{ObjectId}
use Rattle.bson_lite.specs.declared.document.Pair.{Pair}
use Rattle.bson_lite.specs.declared.fault.EncodeFault.{EncodeFault}
use Rattle.bson_lite.specs.declared.fault.EncodeFault.TheVariants.{TooLong}
use Rattle.bson_lite.specs.declared.namespace.Namespace.{Namespace}
use Rattle.bson_lite.specs.Spelling.{refusal_within}
use Rattle.driver_error.specs.declared.error.Error.{Error}
use Rattle.driver_error.specs.declared.kind.ErrorKind.TheVariants as kind
use Rattle.driver_error.specs.Conversions.{IsMade}
use Rattle.driver_error.specs.LabelTexts.{no_labels}
use Rattle.driver_options.specs.declared.write_options.InsertManyOptions.{InsertManyOptions}
use Rattle.driver_ops.specs.Inserts.{insert_command}
use Rattle.driver_inputs.specs.Inputs.{document_values, is_long, name_refusal, value_list, values_refusal}
use Rattle.driver_inputs.specs.ManyInputs.{AreTwelve, JudgesManyInput, RefusesManyValues, TellsManyInput, many_argument_refusal, none_given_text, with_ids}
use Rattle.driver_inputs.specs.Faults.{ErrorOfFault, IsArgumentError, JudgesArgument, RefusesDocument, first_of, length_fault, values_fault}
use Rattle.driver_inputs.specs.ManyFaults.{own_fault, own_faults, zero_id}
use Rattle.driver_inputs.proofs.InputFaults.{document_first, first_twice, refused_by}
use Rattle.driver_inputs.proofs.Refusals.{refused_alike}

-- the first refusal of documents by themselves
abbrev refusals_in : List (List (Pair Bson)) → Option EncodeFault
refusals_in [] = None
refusals_in (document ∷ documents) = first_of (refusal_within 96 document) (refusals_in documents)

-- three tests
or_joined : (a b c : Bool) → (a || (b || c)) ≡ ((a || b) || c)
or_joined true b c = refl
or_joined false b c = refl

-- values that begin with documents, each of which has to be short enough by itself
documents_first : (documents : List (List (Pair Bson))) (values : List Bson) (long : Bool)
    → first_of (refusals_in documents) (first_of (values_fault values) (if long then Some TooLong else None))
    ≡ values_refusal (document_values documents ++ values) (list_any is_long documents || long)
documents_first [] values long = refused_by values long
documents_first (document ∷ documents) values long =
    first_twice (refusal_within 96 document) (refusals_in documents) (first_of (values_fault values) (if long then Some TooLong else None))
    ∙ ap (first_of (refusal_within 96 document))
    (documents_first documents values long ∙ sym (refused_by (document_values documents ++ values) (list_any is_long documents || long)))
    ∙ document_first document (document_values documents ++ values) (list_any is_long documents || long)
    ∙ ap (values_refusal (bson.Document document ∷ (document_values documents ++ values))) (or_joined (is_long document) (list_any is_long documents) long)

-- a document's fault is that with each id
pub own_refused : (document : List (Pair Bson)) → RefusesDocument document (own_fault document)
unfolding own_fault zero_id
own_refused document = λ id twelve. refused_alike document id zero_id twelve refl

-- what refuses it with each id is its fault
pub found_own : (document : List (Pair Bson)) (why : Option EncodeFault) → RefusesDocument document why → why ≡ own_fault document
unfolding own_fault zero_id
found_own document why refused = sym (refused zero_id refl)

-- a number after another is not 0, and numbers whose next ones are equal are equal
some_length : (count : ℕ) → suc count ≡ 0 → ⊥
some_length count is = omega arith

one_less : (a b : ℕ) → suc a ≡ suc b → a ≡ b
one_less a b is = omega arith

-- so it is for documents
faults_alike : (ids : List ObjectId) (documents : List (List (Pair Bson))) → length ids ≡ length documents → AreTwelve ids
    → refusals_in (with_ids ids documents) ≡ own_faults documents
faults_alike [] [] same twelve = refl
faults_alike [] (document ∷ documents) same twelve = absurd (some_length (length documents) (sym same))
faults_alike (id ∷ ids) [] same twelve = absurd (some_length (length ids) same)
faults_alike (id ∷ ids) (document ∷ documents) same twelve =
    ap (λ (fault : Option EncodeFault). first_of fault (refusals_in (with_ids ids documents))) (own_refused document id twelve.0)
    ∙ ap (first_of (own_fault document)) (faults_alike ids documents (one_less (length ids) (length documents) same) twelve.1)

-- an insert is refused for its documents, else for its comment, else for the length of its command
pub refused_values : (namespace : Namespace) (documents : List (List (Pair Bson))) (options : InsertManyOptions) (by_documents by_comment by_length : Option EncodeFault)
    → by_documents ≡ own_faults documents → by_comment ≡ values_fault (value_list options.comment) → by_length ≡ length_fault (insert_command namespace options)
    → RefusesManyValues namespace documents options (first_of by_documents (first_of by_comment by_length))
refused_values namespace documents options by_documents by_comment by_length is_documents is_comment is_length = λ ids same twelve.
    let body = insert_command namespace options in
    let comment = value_list options.comment in
    sym (documents_first (with_ids ids documents) comment (is_long body))
    ∙ ap (λ (fault : Option EncodeFault). first_of fault (first_of (values_fault comment) (length_fault body))) (faults_alike ids documents same twelve ∙ sym is_documents)
    ∙ ap (λ (fault : Option EncodeFault). first_of by_documents (first_of fault (length_fault body))) (sym is_comment)
    ∙ ap (λ (fault : Option EncodeFault). first_of by_documents (first_of by_comment fault)) (sym is_length)

-- a list without a document is refused
pub none_given : (namespace : Namespace) (documents : List (List (Pair Bson))) (error : Error) → (length documents == 0) ≡ true
    → IsMade (kind.InvalidArgument none_given_text) no_labels error → IsArgumentError (many_argument_refusal namespace documents) error
none_given namespace [] error none is = record { text = none_given_text; refused = refl; is = is }
none_given namespace (document ∷ documents) error none is = absurd (some_length (length documents) (eqb-true (suc (length documents)) 0 none))

-- another is judged by its database's name
pub some_given : (namespace : Namespace) (documents : List (List (Pair Bson))) (judges : Option Error) → (length documents == 0) ≡ false
    → JudgesArgument (name_refusal namespace) judges → JudgesArgument (many_argument_refusal namespace documents) judges
some_given namespace [] judges some judged = absurd (true≢false (sym (eq-eqb 0 0 refl) ∙ some))
some_given namespace (document ∷ documents) judges some judged = judged

-- an error of an argument that is refused is the input's
pub many_argument : (namespace : Namespace) (documents : List (List (Pair Bson))) (options : InsertManyOptions) (error : Error)
    → IsArgumentError (many_argument_refusal namespace documents) error → TellsManyInput namespace documents options error
many_argument namespace documents options error found = elim found.is [
  | inl alone ↦ inr (record { why = kind.InvalidArgument found.text; refused = found.refused; is = alone })
  | inr alone ↦ inl alone
]

-- what is judged of an insert whose arguments are in order
pub judged_many : (namespace : Namespace) (documents : List (List (Pair Bson))) (options : InsertManyOptions) (fault : Result (Option EncodeFault) AllocError) (judges : Option Error)
    → many_argument_refusal namespace documents ≡ None → IfOk fault (RefusesManyValues namespace documents options) → ErrorOfFault fault judges
    → JudgesManyInput namespace documents options judges
judged_many namespace documents options fault judges arguments values judged = by_fault fault judges values judged
  where
    by_fault : (fault : Result (Option EncodeFault) AllocError) (judges : Option Error) → IfOk fault (RefusesManyValues namespace documents options)
        → ErrorOfFault fault judges → JudgesManyInput namespace documents options judges
    by_fault (Ok None) judges values judged = subst (JudgesManyInput namespace documents options) (sym judged) (record { arguments = arguments; values = values })
    by_fault (Ok (Some fault)) None values judged = absurd judged
    by_fault (Ok (Some fault)) (Some error) values judged = inr (record { why = kind.BsonSerialization fault; refused = (arguments, values); is = judged })
    by_fault (Err refused) None values judged = absurd judged
    by_fault (Err refused) (Some error) values judged = inl judged
