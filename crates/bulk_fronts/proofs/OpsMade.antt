-- An op in bytes is that of its model, where its parts are.
use Rattle.std.proofs.Common.{◌≡◌, ℕ, Bool, List, subst, inl, inr, ◌∙◌}
use Rattle.std.specs.Prelude.{Result, Ok, Err}
use Rattle.bson_lite.specs.declared.bson.Bson.{Bson}
use Rattle.bson_lite.specs.declared.document.Pair.{Pair}
use Rattle.bson_lite.specs.declared.namespace.Namespace.{Namespace}
use Rattle.bson_lite.specs.Namespace.{dotted}
use Rattle.bson_lite.specs.Spelling.{Spells}
use Rattle.driver_error.specs.declared.error.Error.{Error}
use Rattle.driver_options.specs.declared.models.WriteModel.{WriteModel}
use Rattle.driver_options.specs.declared.models.WriteModel.TheVariants.{InsertOne}
use Rattle.driver_options.specs.Models.{is_multi, namespace_of}
use Rattle.driver_ops.specs.Encoding.{IsUnspelled}
use Rattle.bulk_fronts.specs.declared.own_op.OpWork.{OpWork}
use Rattle.bulk_fronts.specs.declared.own_op.OwnOp.{OwnOp}
use Rattle.bulk_fronts.specs.BulkOps.{SpellsOp, op_document, work_of}
use Rattle.bulk_fronts.specs.inside.BulkOps.{SpellsParts}

-- with the document of a model's op, its namespace, whether it is of all documents found, and what it does
pub spells_model : (model : WriteModel) (op : List (Pair Bson)) (namespace : List ℕ) (multi : Bool) (does : OpWork) (made : Result OwnOp Error) → op ≡ op_document 0 model
    → namespace ≡ dotted (namespace_of model) → multi ≡ is_multi model → does ≡ work_of model → SpellsParts op namespace multi does made → SpellsOp model made
spells_model model op namespace multi does (Ok own) op_is namespace_is multi_is work_is parts = record {
  namespace = parts.namespace_is ∙ namespace_is;
  spelled = subst (λ (document : List (Pair Bson)). Spells document own.bytes) op_is parts.spelled;
  multi = parts.multi_is ∙ multi_is;
  work = parts.work_is ∙ work_is;
}
spells_model model op namespace multi does (Err error) op_is namespace_is multi_is work_is (inl memory) = inl memory
spells_model model op namespace multi does (Err error) op_is namespace_is multi_is work_is (inr unspelled) =
    inr (subst (λ (document : List (Pair Bson)). IsUnspelled document error) op_is unspelled)

-- an insert's op is that of the same document
pub spells_insert : (namespace : Namespace) (document given : List (Pair Bson)) (made : Result OwnOp Error) → document ≡ given → SpellsOp (InsertOne (record { namespace = namespace; document = document })) made
    → SpellsOp (InsertOne (record { namespace = namespace; document = given })) made
spells_insert namespace document given made is spells = subst (λ (known : List (Pair Bson)). SpellsOp (InsertOne (record { namespace = namespace; document = known })) made) is spells
