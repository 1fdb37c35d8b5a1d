-- Models whose input is accepted have ops with spellings, so that only memory can be short for them.
use Rattle.std.proofs.Common.{◌≡◌, ℕ, zero, suc, false, List, [], ◌∷◌, length, refl, sym, ap, subst, ◌∙◌, inl, inr}
use Rattle.std.specs.Prelude.{Option, None, Some, slice_get, Result, Ok, Err, IfErr, IfOk}
use Rattle.std.specs.List.{flat_map, list_any}
use Rattle.bson_lite.specs.declared.bson.ObjectId.{ObjectId}
use Rattle.bson_lite.specs.declared.fault.EncodeFault.{EncodeFault}
use Rattle.bson_lite.specs.Namespace.{dotted}
use Rattle.bson_lite.specs.Spelling.{zero_within}
use Rattle.driver_error.specs.declared.error.Error.{Error}
use Rattle.driver_error.specs.declared.kind.ErrorKind.TheVariants as kind
use Rattle.driver_error.specs.Error.{kind_of}
use Rattle.driver_options.specs.declared.models.WriteModel.{WriteModel}
use Rattle.driver_options.specs.declared.write_options.BulkWriteOptions.{BulkWriteOptions}
use Rattle.driver_options.specs.Models.{namespace_of}
use Rattle.driver_link.proofs.Lists.{none_is_some, some_is_some}
use Rattle.driver_session.specs.StoreTells.{StoreTells}
use Rattle.driver_ops.specs.OptionFields.{document_in}
use Rattle.bulk_fronts.specs.declared.own_op.OwnOp.{OwnOp}
use Rattle.bulk_fronts.specs.BulkOps.{namespace_document, op_document}
use Rattle.bulk_fronts.specs.BulkWrites.{bulk_command}
use Rattle.bulk_actions.specs.BulkIds.{DrawsForModels, OwnsOps, PreparesOps}
use Rattle.bulk_actions.specs.inside.OwnOps.{TellsOneModel}
use Rattle.bulk_actions.proofs.OpsSpelled.{op_has_spelling}
use Rattle.driver_inputs.specs.BulkInputs.{IsBulkAccepted, RefusesBulkValues, TellsBulkInput, is_long_model, model_values, with_model_id, with_model_ids}
use Rattle.driver_inputs.specs.Inputs.{is_deep, is_long, value_list, values_refusal}
use Rattle.driver_inputs.specs.ManyInputs.{AreTwelve}
use Rattle.driver_inputs.specs.Faults.{first_of, length_fault, values_fault}
use Rattle.driver_inputs.specs.ManyFaults.{zero_id}
use Rattle.driver_inputs.specs.inside.ModelFaults.{model_fault, model_faults, text_fault}
use Rattle.driver_inputs.proofs.FaultsBeside.{both_none}
use Rattle.driver_inputs.proofs.ModelFaults.{model_tested, models_tested, refused_values}

-- an id of zeros for each model
abbrev pub zero_ids : List WriteModel → List ObjectId
zero_ids [] = []
zero_ids (model ∷ models) = zero_id ∷ zero_ids models

pub zero_length : (models : List WriteModel) → length (zero_ids models) ≡ length models
zero_length [] = refl
zero_length (model ∷ models) = ap suc (zero_length models)

pub zero_is_twelve : length zero_id.bytes ≡ 12
unfolding zero_id
zero_is_twelve = refl

pub zero_twelve : (models : List WriteModel) → AreTwelve (zero_ids models)
zero_twelve [] = tt
zero_twelve (model ∷ models) = (zero_is_twelve, zero_twelve models)

-- where a model and what is judged behind it have no fault together, neither has one
model_none : (model : WriteModel) (other : Option EncodeFault) → first_of (model_fault model) other ≡ None → (model_fault model ≡ None) × (other ≡ None)
model_none model other is =
    let sent : WriteModel = with_model_id zero_id model in
    let tested = model_tested model zero_id zero_is_twelve in
    let parts = both_none (list_any is_deep (model_values sent)) (list_any zero_within (model_values sent)) (is_long (op_document 0 sent)) other
    (ap (λ (fault : Option EncodeFault). first_of fault other) (sym tested) ∙ is) in
    (tested ∙ parts.0, parts.1)

behind_text : (text : List ℕ) (other : Option EncodeFault) → first_of (text_fault text) other ≡ None → other ≡ None
behind_text text other is = (both_none false false (is_long (namespace_document text)) other is).1

-- so where models have none, each has none
each_model_none : (models : List WriteModel) (at : ℕ) (model : WriteModel) → slice_get models at ≡ Some model → model_faults models ≡ None → model_fault model ≡ None
each_model_none [] at model stands none = absurd (none_is_some model stands)
each_model_none (one ∷ models) zero model stands none =
    subst (λ (given : WriteModel). model_fault given ≡ None) (some_is_some one model stands)
    (model_none one (first_of (text_fault (dotted (namespace_of one))) (model_faults models)) none).0
each_model_none (one ∷ models) (suc at) model stands none =
    each_model_none models at model stands
    (behind_text (dotted (namespace_of one)) (model_faults models) (model_none one (first_of (text_fault (dotted (namespace_of one))) (model_faults models)) none).1)

-- models of a bulk write that is not refused for its values have none
faults_none : (models : List WriteModel) (options : BulkWriteOptions) → RefusesBulkValues models options None → model_faults models ≡ None
faults_none models options accepted =
    let ids : List ObjectId = zero_ids models in
    let sent : List WriteModel = with_model_ids ids models in
    let by_vars : Option EncodeFault = values_fault (value_list (document_in options.let_vars)) in
    let by_comment : Option EncodeFault = values_fault (value_list options.comment) in
    let by_length : Option EncodeFault = length_fault (bulk_command options false) in
    let rest : Option EncodeFault = first_of (first_of by_vars by_comment) by_length in
    let refused = refused_values models options (model_faults models) by_vars by_comment by_length refl refl refl refl in
    let none : first_of (model_faults models) rest ≡ None =
    sym (refused ids (zero_length models) (zero_twelve models)) ∙ accepted ids (zero_length models) (zero_twelve models) in
    let tested = models_tested ids models (zero_length models) (zero_twelve models) in
    tested ∙ (both_none (list_any is_deep (flat_map model_values sent)) (list_any zero_within (flat_map model_values sent)) (list_any is_long_model sent) rest
    (ap (λ (fault : Option EncodeFault). first_of fault rest) (sym tested) ∙ none)).0

-- models whose input is accepted are spelled as they are sent
pub models_memory : (models : List WriteModel) (options : BulkWriteOptions) (error : Error) → IsBulkAccepted models options → TellsOneModel models error → kind_of error ≡ kind.Memory
models_memory models options error accepted tells = elim tells [
  | inl memory ↦ memory.kind_is
  | inr one ↦
      let sent : WriteModel = with_model_id one.own.id one.model in
      let none = each_model_none models one.at one.model one.stands (faults_none models options accepted.values) in
      let taken : values_refusal (model_values sent) (is_long (op_document 0 sent)) ≡ None = sym (model_tested one.model one.own.id one.own.twelve) ∙ none in
      absurd (let e : ◌≡◌ {A = Option EncodeFault} None (Some one.own.unspelled.fault) = sym (op_has_spelling sent taken) ∙ one.own.unspelled.refused in cc)
]

-- input that is refused, after which nothing was drawn
pub unprepared : (store : StoreTells) (models : List WriteModel) (options : BulkWriteOptions) (error : Error) → TellsBulkInput models options error
    → PreparesOps store store models options (Err error)
unprepared store models options error tells = inl (refl, tells)

-- input that is accepted, and its ops
pub prepared : (store now : StoreTells) (models : List WriteModel) (options : BulkWriteOptions) (made : Result (List OwnOp) Error) → IsBulkAccepted models options
    → IfOk made (λ own. OwnsOps store now models own) → IfErr made (λ error. TellsOneModel models error) → DrawsForModels store now models → PreparesOps store now models options made
prepared store now models options (Ok own) accepted owns refusal draws = (accepted, owns)
prepared store now models options (Err error) accepted owns refusal draws = inr (accepted, (models_memory models options error accepted refusal, draws))
