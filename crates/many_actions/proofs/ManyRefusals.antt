-- The input of an insert of documents has one error at most, and documents that are not refused have spellings.
use Rattle.std.proofs.Common.{◌≡◌, ℕ, zero, suc, List, [], ◌∷◌, length, refl, sym, ap, subst, ◌∙◌, inl, inr}
use Rattle.std.specs.Prelude.{Option, None, Some, nat_lt, slice_get}
use Rattle.bson_lite.specs.declared.bson.Bson.{Bson}
use Rattle.bson_lite.specs.declared.bson.ObjectId.{ObjectId}
use Rattle.bson_lite.specs.declared.document.Pair.{Pair}
use Rattle.bson_lite.specs.declared.fault.EncodeFault.{EncodeFault}
use Rattle.bson_lite.specs.declared.fault.EncodeFault.TheVariants.{Memory}
use Rattle.bson_lite.specs.declared.namespace.Namespace.{Namespace}
use Rattle.bson_lite.specs.Fields.{with_id}
use Rattle.bson_lite.specs.Spelling.{nesting, zero_in}
use Rattle.driver_error.specs.declared.error.Error.{Error}
use Rattle.driver_error.specs.declared.kind.ErrorKind.TheVariants as kind
use Rattle.driver_error.specs.Error.{IsAlone, ErrorKind}
use Rattle.driver_error.specs.LabelTexts.{no_labels}
use Rattle.driver_options.specs.declared.write_options.InsertManyOptions.{InsertManyOptions}
use Rattle.driver_link.proofs.Lists.{none_is_some, some_is_some}
use Rattle.driver_ops.specs.declared.target.OperationTarget.{OperationTarget}
use Rattle.driver_ops.specs.Inserts.{insert_command}
use Rattle.driver_ops.specs.Targets.{namespace_of}
use Rattle.driver_attempt.specs.Causes.{ErrorOutline, outline_of}
use Rattle.driver_attempt.specs.Moment.{Moment}
use Rattle.many_actions.specs.ManyCalls.{RefusesManyFirst}
use Rattle.driver_actions.specs.OwnDocuments.{TellsOneRefusal}
use Rattle.driver_inputs.specs.Inputs.{is_long, value_list}
use Rattle.driver_inputs.specs.ManyInputs.{AreTwelve, IsManyAccepted, ManyInputRefused, RefusesManyValues, TellsManyInput}
use Rattle.driver_inputs.specs.Faults.{first_of, length_fault, values_fault}
use Rattle.driver_inputs.specs.ManyFaults.{own_fault, own_faults, zero_id}
use Rattle.driver_inputs.proofs.InputFaults.{first_twice}
use Rattle.driver_inputs.proofs.ManyFaults.{own_refused, refused_values}
use Rattle.driver_inputs.proofs.Refusals.{spelled_within}
use Rattle.driver_inputs.proofs.FaultsBeside.{both_none}

-- an id of zeros for each document
abbrev zero_ids : List (List (Pair Bson)) → List ObjectId
zero_ids [] = []
zero_ids (document ∷ documents) = zero_id ∷ zero_ids documents

zero_length : (documents : List (List (Pair Bson))) → length (zero_ids documents) ≡ length documents
zero_length [] = refl
zero_length (document ∷ documents) = ap suc (zero_length documents)

zero_twelve : (documents : List (List (Pair Bson))) → AreTwelve (zero_ids documents)
unfolding zero_id
zero_twelve [] = tt
zero_twelve (document ∷ documents) = (refl, zero_twelve documents)

-- an insert has one refusal for its values
one_many : (namespace : Namespace) (documents : List (List (Pair Bson))) (options : InsertManyOptions) (first second : Option EncodeFault)
    → RefusesManyValues namespace documents options first → RefusesManyValues namespace documents options second → first ≡ second
one_many namespace documents options first second one other =
    sym (one (zero_ids documents) (zero_length documents) (zero_twelve documents)) ∙ other (zero_ids documents) (zero_length documents) (zero_twelve documents)

-- an input has one error
one_many_input : (namespace : Namespace) (documents : List (List (Pair Bson))) (options : InsertManyOptions) (first second : ErrorKind)
    → ManyInputRefused namespace documents options first → ManyInputRefused namespace documents options second → first ≡ second
one_many_input namespace documents options (kind.InvalidArgument message) (kind.InvalidArgument other) one two =
    let same : message ≡ other = let e : ◌≡◌ {A = Option (List ℕ)} (Some message) (Some other) = sym one ∙ two in cc in ap (λ m. kind.InvalidArgument m) same
one_many_input namespace documents options (kind.InvalidArgument message) (kind.BsonSerialization fault) one two =
    absurd (let e : ◌≡◌ {A = Option (List ℕ)} (Some message) None = sym one ∙ two.0 in cc)
one_many_input namespace documents options (kind.BsonSerialization fault) (kind.InvalidArgument message) one two =
    absurd (let e : ◌≡◌ {A = Option (List ℕ)} (Some message) None = sym two ∙ one.0 in cc)
one_many_input namespace documents options (kind.BsonSerialization fault) (kind.BsonSerialization other) one two =
    let same : fault ≡ other =
    let e : ◌≡◌ {A = Option EncodeFault} (Some fault) (Some other) = one_many namespace documents options (Some fault) (Some other) one.1 two.1 in cc in
    ap (λ f. kind.BsonSerialization f) same
one_many_input namespace documents options (kind.InvalidArgument message) _ one two = absurd two
one_many_input namespace documents options (kind.BsonSerialization fault) _ one two = absurd two
one_many_input namespace documents options _ second one two = absurd one

-- the error that was answered is the input's
pub many_first : (before : Moment) (target : OperationTarget) (documents : List (List (Pair Bson))) (options : InsertManyOptions) (error : Error)
    → TellsManyInput (namespace_of target) documents options error → RefusesManyFirst before before target documents options (Some (outline_of error))
many_first before target documents options error tells = record {
  tells = λ other refused. elim tells [
    | inl memory ↦ inr memory.kind_is
    | inr found ↦ inl (found.is.kind_is ∙ one_many_input (namespace_of target) documents options found.why other found.refused refused, found.is.labels_are)
  ];
  undone = λ other refused. refl;
}

-- input that is accepted has no error
pub many_not_refused : (namespace : Namespace) (documents : List (List (Pair Bson))) (options : InsertManyOptions) (why : ErrorKind)
    → IsManyAccepted namespace documents options → ManyInputRefused namespace documents options why → ⊥
many_not_refused namespace documents options (kind.InvalidArgument message) accepted refused =
    let e : ◌≡◌ {A = Option (List ℕ)} None (Some message) = sym accepted.arguments ∙ refused in cc
many_not_refused namespace documents options (kind.BsonSerialization fault) accepted refused =
    let e : ◌≡◌ {A = Option EncodeFault} None (Some fault) = one_many namespace documents options None (Some fault) accepted.values refused.1 in cc
many_not_refused namespace documents options _ accepted refused = refused

-- no input that is refused comes here
pub many_refuses_nothing : (before now : Moment) (target : OperationTarget) (documents : List (List (Pair Bson))) (options : InsertManyOptions) (ended : Option ErrorOutline)
    → IsManyAccepted (namespace_of target) documents options → RefusesManyFirst before now target documents options ended
many_refuses_nothing before now target documents options ended accepted = record {
  tells = λ why refused. absurd (many_not_refused (namespace_of target) documents options why accepted refused);
  undone = λ why refused. absurd (many_not_refused (namespace_of target) documents options why accepted refused);
}

-- so where there is none, a document has none
own_none : (document : List (Pair Bson)) (other : Option EncodeFault) → first_of (own_fault document) other ≡ None → (own_fault document ≡ None) × (other ≡ None)
unfolding own_fault
own_none document other is =
    both_none (nat_lt 96 (nesting (with_id zero_id document))) (zero_in (with_id zero_id document)) (is_long (with_id zero_id document)) other is

-- and none of documents has one
each_none : (documents : List (List (Pair Bson))) (rest : Option EncodeFault) (at : ℕ) (document : List (Pair Bson)) → slice_get documents at ≡ Some document
    → first_of (own_faults documents) rest ≡ None → own_fault document ≡ None
each_none [] rest at document stands none = absurd (none_is_some document stands)
each_none (one ∷ documents) rest zero document stands none =
    subst (λ (given : List (Pair Bson)). own_fault given ≡ None) (some_is_some one document stands)
    (own_none one (first_of (own_faults documents) rest) (sym (first_twice (own_fault one) (own_faults documents) rest) ∙ none)).0
each_none (one ∷ documents) rest (suc at) document stands none =
    each_none documents rest at document stands
    (own_none one (first_of (own_faults documents) rest) (sym (first_twice (own_fault one) (own_faults documents) rest) ∙ none)).1

-- documents whose input is accepted are spelled as they are sent
pub own_many_memory : (namespace : Namespace) (documents : List (List (Pair Bson))) (options : InsertManyOptions) (error : Error) → IsManyAccepted namespace documents options
    → TellsOneRefusal documents error → IsAlone kind.Memory no_labels error
own_many_memory namespace documents options error accepted tells = elim tells [
  | inl memory ↦ memory
  | inr one ↦
      let rest = first_of (values_fault (value_list options.comment)) (length_fault (insert_command namespace options)) in
      let none = one_many namespace documents options (first_of (own_faults documents) rest) None
      (refused_values namespace documents options (own_faults documents) (values_fault (value_list options.comment)) (length_fault (insert_command namespace options)) refl refl refl) accepted.values in
      let taken = own_refused one.document one.own.id one.own.twelve ∙ each_none documents rest one.at one.document one.stands none in
      absurd (let e : ◌≡◌ {A = Option EncodeFault} None (Some one.own.unspelled.fault) =
      sym (spelled_within (with_id one.own.id one.document) taken) ∙ one.own.unspelled.refused in cc)
]
