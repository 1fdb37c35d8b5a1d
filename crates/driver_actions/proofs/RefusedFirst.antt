-- The error that a write was answered is that of its input, or its input is accepted.
use Rattle.std.proofs.Common.{◌≡◌, List, refl, sym, ◌∙◌, inl, inr}
use Rattle.std.specs.Prelude.{Option, None, Some}
use Rattle.bson_lite.specs.declared.bson.Bson.{Bson}
use Rattle.bson_lite.specs.declared.document.Pair.{Pair}
use Rattle.bson_lite.specs.declared.namespace.Namespace.{Namespace}
use Rattle.bson_lite.specs.declared.fault.EncodeFault.{EncodeFault}
use Rattle.bson_lite.specs.Fields.{with_id}
use Rattle.driver_error.specs.declared.kind.ErrorKind.TheVariants as kind
use Rattle.driver_error.specs.declared.error.Error.{Error}
use Rattle.driver_error.specs.Error.{IsAlone}
use Rattle.driver_error.specs.LabelTexts.{no_labels}
use Rattle.driver_options.specs.declared.write_options.InsertManyOptions.{InsertManyOptions}
use Rattle.driver_attempt.specs.Causes.{ErrorOutline, outline_of}
use Rattle.driver_attempt.specs.Moment.{Moment}
use Rattle.driver_actions.specs.Causes.{RefusesFirst, TellsOwnRefusal}
use Rattle.driver_inputs.specs.Forms.{WriteForm, command_body, inserts}
use Rattle.driver_inputs.specs.Inputs.{IsAccepted, RefusesValues, TellsInput, is_long, value_list}
use Rattle.driver_inputs.proofs.InputFaults.{document_taken}
use Rattle.driver_inputs.proofs.Refusals.{accepted_not_refused, one_input, spelled_within}

-- a document that is not refused is spelled as it is sent
pub own_memory : (namespace : Namespace) (document : List (Pair Bson)) (options : InsertManyOptions) (error : Error) → RefusesValues (inserts namespace document options) None
    → TellsOwnRefusal document error → IsAlone kind.Memory no_labels error
own_memory namespace document options error none tells = elim tells [
  | inl memory ↦ memory
  | inr own ↦
      let now = with_id own.id document in
      let taken = document_taken now (value_list options.comment) (is_long (command_body (inserts namespace document options))) (none own.id own.twelve) in
      absurd (let e : ◌≡◌ {A = Option EncodeFault} None (Some own.unspelled.fault) = sym (spelled_within now taken) ∙ own.unspelled.refused in cc)
]

-- the error that was answered is the input's
pub input_first : (before : Moment) (form : WriteForm) (error : Error) → TellsInput form error → RefusesFirst before before form (Some (outline_of error))
input_first before form error tells = record {
  tells = λ other refused. elim tells [
    | inl memory ↦ inr memory.kind_is
    | inr found ↦ inl (found.is.kind_is ∙ one_input form found.why other found.refused refused, found.is.labels_are)
  ];
  undone = λ other refused. refl;
}

-- no input that is refused comes here
pub refuses_nothing : (before now : Moment) (form : WriteForm) (ended : Option ErrorOutline) → IsAccepted form → RefusesFirst before now form ended
refuses_nothing before now form ended accepted = record {
  tells = λ why refused. absurd (accepted_not_refused form why accepted refused);
  undone = λ why refused. absurd (accepted_not_refused form why accepted refused);
}
