-- The sizes of a call's documents as they are sent, and the front of them that a first build takes.
use Rattle.std.proofs.Common.{◌≡◌, ℕ, zero, suc, ◌+◌, Bool, true, false, List, [], ◌∷◌, drop, length, map, refl, sym, ap, subst, ◌∙◌, arith}
use Rattle.std.specs.Prelude.{Option, None, Some, IfSome, is_some, if◌then◌else◌}
use Rattle.bson_lite.specs.declared.bson.Bson.{Bson}
use Rattle.bson_lite.specs.declared.bson.ObjectId.{ObjectId}
use Rattle.bson_lite.specs.declared.document.Pair.{Pair}
use Rattle.bson_lite.specs.declared.namespace.Namespace.{Namespace}
use Rattle.bson_lite.specs.Fields.{id_key, value_of, with_id}
use Rattle.bson_lite.specs.Spelling.{spelling}
use Rattle.bson_lite.proofs.Named.{id_pair, length_named}
use Rattle.driver_options.specs.declared.options.Description.{Description}
use Rattle.driver_options.specs.declared.write_options.InsertManyOptions.{InsertManyOptions}
use Rattle.driver_batches.specs.declared.sizes.Limits.{Limits}
use Rattle.driver_batches.specs.Fronts.{IsLongestFront}
use Rattle.driver_batches.specs.Sizes.{Fits}
use Rattle.driver_link.specs.declared.machine.Setup.{Setup}
use Rattle.driver_session.specs.StoreTells.{StoreTells}
use Rattle.write_ops.specs.declared.own_document.OwnDocument.{OwnDocument}
use Rattle.write_ops.specs.InsertFronts.{TakesFront, insert_limits, sizes_of}
use Rattle.write_ops.specs.InsertSpec.{AreOwn, statements_fixed}
use Rattle.driver_actions.specs.ManyIds.{DrawsOwnIds}
use Rattle.many_actions.specs.Numbers.{size_with_id, sizes_with_ids}
use Rattle.driver_inputs.specs.ManyInputs.{AreTwelve, with_ids}

-- as many ids as documents
pub ids_each : (store now : StoreTells) (documents : List (List (Pair Bson))) (ids : List ObjectId) → DrawsOwnIds store now documents ids → length ids ≡ length documents
ids_each store now [] [] draws = refl
ids_each store now [] (id ∷ ids) draws = absurd draws
ids_each store now (document ∷ documents) [] draws = absurd draws
ids_each store now (document ∷ documents) (id ∷ ids) draws = ap suc (ids_each draws.0 now documents ids draws.1.1)

-- the sizes of documents as they are sent are those of their spellings
pub sizes_are : (documents : List (List (Pair Bson))) (own : List OwnDocument) → AreOwn documents own → map (λ document. length (spelling document)) documents ≡ sizes_of own
sizes_are [] [] are = refl
sizes_are [] (front ∷ own) are = absurd are
sizes_are (document ∷ documents) [] are = absurd are
sizes_are (document ∷ documents) (front ∷ own) are =
    ap (λ (bytes : List ℕ). length bytes ∷ map (λ d. length (spelling d)) documents) (sym are.0.is) ∙ ap (λ sizes. length front.bytes ∷ sizes) (sizes_are documents own are.2)

-- a document with an id is as long as its size says, whichever id that is
pub with_id_size : (id : ObjectId) (document : List (Pair Bson)) → length id.bytes ≡ 12 → length (spelling (with_id id document)) ≡ size_with_id document
with_id_size id document twelve =
    elim (is_some (value_of id_key document))
    as (λ (has : Bool). length (spelling (if has then document else id_pair id ∷ document)) ≡ (if has then length (spelling document) else length (spelling document) + 17)) [
      | true ↦ refl
      | false ↦ length_named id document twelve
    ]

-- so are all documents of a call
pub with_ids_sizes : (ids : List ObjectId) (documents : List (List (Pair Bson))) → length ids ≡ length documents → AreTwelve ids
    → map (λ document. length (spelling document)) (with_ids ids documents) ≡ sizes_with_ids documents
unfolding sizes_with_ids
with_ids_sizes [] [] each twelve = refl
with_ids_sizes [] (document ∷ documents) each twelve = absurd (omega (arith, each))
with_ids_sizes (id ∷ ids) [] each twelve = absurd (omega (arith, each))
with_ids_sizes (id ∷ ids) (document ∷ documents) each twelve =
    ap (λ size. size ∷ map (λ d. length (spelling d)) (with_ids ids documents)) (with_id_size id document twelve.0)
    ∙ ap (λ sizes. size_with_id document ∷ sizes) (with_ids_sizes ids documents (omega (arith, each)) twelve.1)

-- the sizes of the rest
pub rest_sizes : (count : ℕ) (own : List OwnDocument) → sizes_of (drop count own) ≡ drop count (sizes_of own)
rest_sizes zero own = refl
rest_sizes (suc count) [] = refl
rest_sizes (suc count) (front ∷ own) = rest_sizes count own

-- as many as there are documents
pub sizes_length : (own : List OwnDocument) → length (sizes_of own) ≡ length own
sizes_length [] = refl
sizes_length (front ∷ own) = ap suc (sizes_length own)

-- what a first build takes is the longest front, of one document too
pub takes_longest : (limits : Limits) (own : List OwnDocument) (statements : ℕ) → TakesFront limits own (statements_fixed own None) statements → IsLongestFront (Fits limits) (sizes_of own) statements
takes_longest limits [] statements takes = takes.0
takes_longest limits (front ∷ []) statements takes =
    subst (λ n. IsLongestFront (Fits limits) (sizes_of (front ∷ [])) n) (sym takes.0) (record {
      within = omega arith;
      fits = takes.1;
      longest = λ longer above within fits. omega (arith, above, within);
    })
takes_longest limits (front ∷ (next ∷ own)) statements takes = takes.0

-- so it is by the limits of the setup, where that is told
pub takes_told : (namespace : Namespace) (options : InsertManyOptions) (own : List OwnDocument) (description : Description) (statements : ℕ) (told : Option Setup)
    → IfSome told (λ setup. description ≡ setup.description) → TakesFront (insert_limits namespace options description) own (statements_fixed own None) statements
    → IfSome told (λ setup. IsLongestFront (Fits (insert_limits namespace options setup.description)) (sizes_of own) statements)
takes_told namespace options own description statements None described takes = tt
takes_told namespace options own description statements (Some setup) described takes =
    subst (λ d. IsLongestFront (Fits (insert_limits namespace options d)) (sizes_of own) statements) described
    (takes_longest (insert_limits namespace options description) own statements takes)
