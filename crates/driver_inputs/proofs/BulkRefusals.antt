-- How the input of a bulk write is judged: no models, then a test over all of them, then another, then their values.
use Rattle.std.proofs.Common.{◌≡◌, ℕ, suc, ◌+◌, ◌<◌, ◌≤◌, List, [], ◌∷◌, drop, get_or, length, eq-eqb, eqb-true, refl, sym, ap, subst, ◌∙◌, inl, inr, arith, true≢false}
use Rattle.std.proofs.lemmas.List.{at_drop_all, drop_more}
use Rattle.std.specs.Prelude.{Option, None, Some, ◌==◌, true, false, Result, Ok, Err, IfOk}
use Rattle.std.specs.declared.alloc.AllocError.{AllocError}
use Rattle.bson_lite.specs.declared.fault.EncodeFault.{EncodeFault}
use Rattle.bson_lite.specs.declared.namespace.Namespace.{Namespace}
use Rattle.driver_error.specs.declared.error.Error.{Error}
use Rattle.driver_error.specs.declared.kind.ErrorKind.TheVariants as kind
use Rattle.driver_error.specs.Conversions.{IsMade}
use Rattle.driver_error.specs.LabelTexts.{no_labels}
use Rattle.driver_options.specs.declared.models.WriteModel.{WriteModel}
use Rattle.driver_options.specs.declared.write_options.BulkWriteOptions.{BulkWriteOptions}
use Rattle.driver_options.specs.Models.{namespace_of}
use Rattle.driver_inputs.specs.BulkInputs.{JudgesBulkInput, RefusesBulkValues, TellsBulkInput, bulk_argument_refusal, database_refusal, first_text, no_models_text, replacement_refusal, update_refusal}
use Rattle.driver_inputs.specs.Inputs.{else_text, name_refusal}
use Rattle.driver_inputs.specs.Faults.{ErrorOfFault, IsArgumentError, JudgesArgument}

-- a model is refused by its namespace's database
pub judged_database : (model : WriteModel) (namespace : Namespace) (judges : Option Error) → namespace ≡ namespace_of model → JudgesArgument (name_refusal namespace) judges
    → JudgesArgument (database_refusal model) judges
judged_database model namespace judges is judged = subst (λ (known : Namespace). JudgesArgument (name_refusal known) judges) is judged

-- the models from a place on, by the first of them
from_here : (test : WriteModel → Option (List ℕ)) (models : List WriteModel) (at : ℕ) (model : WriteModel) → at < length models → model ≡ get_or models at model
    → first_text test (drop at models) ≡ else_text (test model) (first_text test (drop (at + 1) models))
from_here test models at model within read =
    ap (first_text test) (drop_more models at model within ∙ ap (λ (one : WriteModel). one ∷ drop (at + 1) models) (sym read))

-- the first model that a test refuses, where those before it pass
pub refused_here : (test : WriteModel → Option (List ℕ)) (models : List WriteModel) (at : ℕ) (model : WriteModel) (error : Error) → at < length models → model ≡ get_or models at model
    → first_text test (drop at models) ≡ first_text test models → IsArgumentError (test model) error → IsArgumentError (first_text test models) error
refused_here test models at model error within read so_far found = record {
  text = found.text;
  refused = sym so_far ∙ from_here test models at model within read ∙ ap (λ (why : Option (List ℕ)). else_text why (first_text test (drop (at + 1) models))) found.refused;
  is = found.is;
}

-- a model that passes too
pub passed_here : (test : WriteModel → Option (List ℕ)) (models : List WriteModel) (at : ℕ) (model : WriteModel) → at < length models → model ≡ get_or models at model
    → first_text test (drop at models) ≡ first_text test models → test model ≡ None → first_text test (drop (at + 1) models) ≡ first_text test models
passed_here test models at model within read so_far none =
    sym (from_here test models at model within read ∙ ap (λ (why : Option (List ℕ)). else_text why (first_text test (drop (at + 1) models))) none) ∙ so_far

-- all of them pass
pub passed_all : (test : WriteModel → Option (List ℕ)) (models : List WriteModel) (at : ℕ) → length models ≤ at → first_text test (drop at models) ≡ first_text test models
    → first_text test models ≡ None
passed_all test models at past so_far = sym so_far ∙ at_drop_all (first_text test) models at past

some_length : (count : ℕ) → suc count ≡ 0 → ⊥
some_length count is = omega (arith, is)

-- a list without a model is refused
pub no_models_given : (models : List WriteModel) (error : Error) → (length models == 0) ≡ true → IsMade (kind.InvalidArgument no_models_text) no_labels error
    → IsArgumentError (bulk_argument_refusal models) error
no_models_given [] error none is = record { text = no_models_text; refused = refl; is = is }
no_models_given (model ∷ models) error none is = absurd (some_length (length models) (eqb-true (suc (length models)) 0 none))

-- what refuses one test refuses the input, where those before refuse nothing
refused_first : (first other : Option (List ℕ)) (error : Error) → IsArgumentError first error → IsArgumentError (else_text first other) error
refused_first first other error found = record { text = found.text; refused = ap (λ (why : Option (List ℕ)). else_text why other) found.refused; is = found.is }

judged_next : (first other : Option (List ℕ)) (judges : Option Error) → first ≡ None → JudgesArgument other judges → JudgesArgument (else_text first other) judges
judged_next first other judges none judged = subst (λ (why : Option (List ℕ)). JudgesArgument why judges) (ap (λ (why : Option (List ℕ)). else_text why other) (sym none)) judged

pub judged_databases : (models : List WriteModel) (error : Error) → (length models == 0) ≡ false → IsArgumentError (first_text database_refusal models) error
    → JudgesArgument (bulk_argument_refusal models) (Some error)
judged_databases [] error some found = absurd (true≢false (sym (eq-eqb 0 0 refl) ∙ some))
judged_databases (model ∷ models) error some found =
    refused_first (first_text database_refusal (model ∷ models)) (else_text (first_text update_refusal (model ∷ models)) (first_text replacement_refusal (model ∷ models))) error found

pub judged_updates : (models : List WriteModel) (error : Error) → (length models == 0) ≡ false → first_text database_refusal models ≡ None → IsArgumentError (first_text update_refusal models) error
    → JudgesArgument (bulk_argument_refusal models) (Some error)
judged_updates [] error some named found = absurd (true≢false (sym (eq-eqb 0 0 refl) ∙ some))
judged_updates (model ∷ models) error some named found =
    judged_next (first_text database_refusal (model ∷ models)) (else_text (first_text update_refusal (model ∷ models)) (first_text replacement_refusal (model ∷ models))) (Some error) named
    (refused_first (first_text update_refusal (model ∷ models)) (first_text replacement_refusal (model ∷ models)) error found)

pub judged_replacements : (models : List WriteModel) (judges : Option Error) → (length models == 0) ≡ false → first_text database_refusal models ≡ None → first_text update_refusal models ≡ None
    → JudgesArgument (first_text replacement_refusal models) judges → JudgesArgument (bulk_argument_refusal models) judges
judged_replacements [] judges some named updated judged = absurd (true≢false (sym (eq-eqb 0 0 refl) ∙ some))
judged_replacements (model ∷ models) judges some named updated judged =
    judged_next (first_text database_refusal (model ∷ models)) (else_text (first_text update_refusal (model ∷ models)) (first_text replacement_refusal (model ∷ models))) judges named
    (judged_next (first_text update_refusal (model ∷ models)) (first_text replacement_refusal (model ∷ models)) judges updated judged)

-- an error of an argument that is refused is the input's
pub bulk_argument : (models : List WriteModel) (options : BulkWriteOptions) (error : Error) → IsArgumentError (bulk_argument_refusal models) error → TellsBulkInput models options error
bulk_argument models options error found = elim found.is [
  | inl alone ↦ inr (record { why = kind.InvalidArgument found.text; refused = found.refused; is = alone })
  | inr alone ↦ inl alone
]

-- what is judged of a bulk write whose arguments are in order
pub judged_bulk : (models : List WriteModel) (options : BulkWriteOptions) (fault : Result (Option EncodeFault) AllocError) (judges : Option Error)
    → bulk_argument_refusal models ≡ None → IfOk fault (RefusesBulkValues models options) → ErrorOfFault fault judges → JudgesBulkInput models options judges
judged_bulk models options fault judges arguments values judged = by_fault fault judges values judged
  where
    by_fault : (fault : Result (Option EncodeFault) AllocError) (judges : Option Error) → IfOk fault (RefusesBulkValues models options)
        → ErrorOfFault fault judges → JudgesBulkInput models options judges
    by_fault (Ok None) judges values judged = subst (JudgesBulkInput models options) (sym judged) (record { arguments = arguments; values = values })
    by_fault (Ok (Some fault)) None values judged = absurd judged
    by_fault (Ok (Some fault)) (Some error) values judged = inr (record { why = kind.BsonSerialization fault; refused = (arguments, values); is = judged })
    by_fault (Err refused) None values judged = absurd judged
    by_fault (Err refused) (Some error) values judged = inl judged
