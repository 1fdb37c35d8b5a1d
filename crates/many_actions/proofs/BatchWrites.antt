-- The writes of a batch: the documents that remain of a call, with their ids, each in the place of its index.
use Rattle.std.proofs.Common.{◌≡◌, ℕ, zero, suc, ◌+◌, ◌<◌, List, [], ◌∷◌, drop, length, take, refl, sym, ap, subst, ◌∙◌, inl, arith}
use Rattle.std.specs.Prelude.{Some, slice_get}
use Rattle.bson_lite.specs.declared.bson.Bson.{Bson}
use Rattle.bson_lite.specs.declared.document.Pair.{Pair}
use Rattle.bson_lite.specs.declared.namespace.Namespace.{Namespace}
use Rattle.driver_options.specs.declared.write_options.InsertManyOptions.{InsertManyOptions}
use Rattle.driver_link.specs.declared.machine.Place.{Place}
use Rattle.driver_link.specs.declared.machine.PlacedWrite.{PlacedWrite}
use Rattle.driver_link.specs.declared.machine.Send.{Send}
use Rattle.driver_link.specs.declared.machine.SendBody.{SendBody}
use Rattle.driver_link.specs.declared.machine.SendBody.TheVariants.{Write}
use Rattle.driver_link.specs.declared.machine.SendCommand.TheVariants as command
use Rattle.driver_link.specs.declared.machine.WriteKind.TheVariants as write_kind
use Rattle.driver_link.specs.Cases.{body_writes}
use Rattle.driver_link.specs.Writes.{write_on}
use Rattle.driver_link.proofs.Lists.{none_is_some, some_is_some}
use Rattle.driver_ops.specs.declared.target.OperationTarget.{OperationTarget}
use Rattle.driver_ops.specs.Inserts.{insert_is_ordered, insert_write, insert_writes}
use Rattle.driver_ops.specs.Operations.{AsksFor}
use Rattle.driver_ops.specs.Targets.{namespace_of}
use Rattle.write_ops.specs.declared.own_document.OwnDocument.{OwnDocument}
use Rattle.write_ops.specs.InsertSpec.{AreOwn, insert_spec}
use Rattle.driver_exec.specs.BetweenCalls.{MaySendPlaces}
use Rattle.many_actions.specs.Batches.{places_from, rest_of}
use Rattle.driver_actions.specs.CallParts.{HasWriteOf}
use Rattle.many_actions.proofs.BatchPlaces.{places_length}
use Rattle.many_actions.proofs.PlannedBatches.{IsBelow, StandsAt, standing_may_send}
pub use Rattle.many_actions.proofs.PlannedBatches.{IsNewFrom, place_in}

-- each is behind the first by its position
pub place_at : (call index count at : ℕ) (place : Place) → slice_get (places_from call index count) at ≡ Some place → place ≡ place_in call (index + at)
place_at call index zero at place is = absurd (none_is_some place is)
place_at call index (suc count) zero place is =
    let here : index ≡ index + 0 = omega arith in
    sym (some_is_some (place_in call index) place is) ∙ ap (place_in call) here
place_at call index (suc count) (suc at) place is =
    let here : index + 1 + at ≡ index + suc at = omega arith in
    place_at call (index + 1) count at place is ∙ ap (place_in call) here

-- what stands in the front of a list stands in it, and before its end
pub in_front : {A : Type 0} (count : ℕ) (xs : List A) (at : ℕ) (x : A) → slice_get (take count xs) at ≡ Some x → (at < count) × (slice_get xs at ≡ Some x)
in_front zero xs at x is = absurd (none_is_some x is)
in_front (suc count) [] at x is = absurd (none_is_some x is)
in_front (suc count) (y ∷ xs) zero x is = (omega arith, is)
in_front (suc count) (y ∷ xs) (suc at) x is = let rest = in_front count xs at x is in (omega (arith, rest.0), rest.1)

-- what stands in the rest of a list stands in it, so much further on
pub in_rest : {A : Type 0} (count : ℕ) (xs : List A) (at : ℕ) (x : A) → slice_get (drop count xs) at ≡ Some x → slice_get xs (count + at) ≡ Some x
in_rest zero xs at x is = let here : at ≡ 0 + at = omega arith in ap (slice_get xs) (sym here) ∙ is
in_rest (suc count) [] at x is = absurd (none_is_some x is)
in_rest (suc count) (y ∷ xs) at x is =
    let here : suc count + at ≡ suc (count + at) = omega arith in
    ap (slice_get (y ∷ xs)) here ∙ in_rest count xs at x is

-- the rest of own documents are those of the rest
pub own_rest : (count : ℕ) (documents : List (List (Pair Bson))) (own : List OwnDocument) → AreOwn documents own → AreOwn (drop count documents) (drop count own)
own_rest zero documents own are = are
own_rest (suc count) [] [] are = tt
own_rest (suc count) [] (first ∷ own) are = absurd are
own_rest (suc count) (document ∷ documents) [] are = absurd are
own_rest (suc count) (document ∷ documents) (first ∷ own) are = own_rest count documents own are.2

-- there are as many of them
pub own_length : (documents : List (List (Pair Bson))) (own : List OwnDocument) → AreOwn documents own → length documents ≡ length own
own_length [] [] are = refl
own_length [] (first ∷ own) are = absurd are
own_length (document ∷ documents) [] are = absurd are
own_length (document ∷ documents) (first ∷ own) are = ap suc (own_length documents own are.2)

-- a write that inserts one of documents, and which one it is
pub record Inserts (namespace : Namespace) (documents : List (List (Pair Bson))) (places : List Place) (at : ℕ) (write : PlacedWrite) : Type 0 where
  pub document : List (Pair Bson)
  pub place : Place
  pub stands : slice_get documents at ≡ Some document
  pub placed : slice_get places at ≡ Some place
  pub is : insert_write namespace document place ≡ write

-- each write of an insert is so
inserts_at : (namespace : Namespace) (documents : List (List (Pair Bson))) (places : List Place) (at : ℕ) (write : PlacedWrite)
    → slice_get (insert_writes namespace documents places) at ≡ Some write → Inserts namespace documents places at write
inserts_at namespace [] places at write is = absurd (none_is_some write is)
inserts_at namespace (document ∷ documents) [] at write is = absurd (none_is_some write is)
inserts_at namespace (document ∷ documents) (place ∷ places) zero write is =
    record { document = document; place = place; stands = refl; placed = refl; is = some_is_some (insert_write namespace document place) write is }
inserts_at namespace (document ∷ documents) (place ∷ places) (suc at) write is =
    let rest = inserts_at namespace documents places at write is in
    record { document = rest.document; place = rest.place; stands = rest.stands; placed = rest.placed; is = rest.is }

-- what holds of each of these documents, the first at an index of the caller's list
abbrev pub EachIs : (ℕ → List (Pair Bson) → Type 0) → ℕ → List (List (Pair Bson)) → Type 0
EachIs G index documents = (at : ℕ) (document : List (Pair Bson)) → slice_get documents at ≡ Some document → G (index + at) document

-- it holds of the rest
pub rest_is : (G : ℕ → List (Pair Bson) → Type 0) (index count : ℕ) (documents : List (List (Pair Bson))) → EachIs G index documents → EachIs G (index + count) (drop count documents)
rest_is G index count documents each = λ at document is.
    let here : index + (count + at) ≡ index + count + at = omega arith in
    subst (λ n. G n document) here (each (count + at) document (in_rest count documents at document is))

-- a write is the insert of such a document, in the place of its index in a call, which is below a limit
pub record IsOf (G : ℕ → List (Pair Bson) → Type 0) (namespace : Namespace) (call limit : ℕ) (write : PlacedWrite) : Type 0 where
  pub document : List (Pair Bson)
  pub given : G write.place.index document
  pub of_call : write.place.call ≡ call
  pub below : write.place.index < limit
  pub is : write.written ≡ write_on write_kind.Insert namespace document

-- the same below no limit
pub record IsOfCall (G : ℕ → List (Pair Bson) → Type 0) (namespace : Namespace) (call : ℕ) (write : PlacedWrite) : Type 0 where
  pub document : List (Pair Bson)
  pub given : G write.place.index document
  pub of_call : write.place.call ≡ call
  pub is : write.written ≡ write_on write_kind.Insert namespace document

-- a write of the call in a place below a limit is one below that limit
pub of_limited : (G : ℕ → List (Pair Bson) → Type 0) (namespace : Namespace) (call limit : ℕ) (write : PlacedWrite) → IsBelow (IsOfCall G namespace call) call limit write → IsOf G namespace call limit write
of_limited G namespace call limit write below =
    record { document = below.is.document; given = below.is.given; of_call = below.of_call; below = below.below; is = below.is.is }

-- any write
abbrev AnyWrite : PlacedWrite → Type 0
AnyWrite write = Unit {0}

-- the insert of so many of the documents that remain
module _ (target : OperationTarget) (options : InsertManyOptions) (call index : ℕ) (documents : List (List (Pair Bson))) (own : List OwnDocument) (are : AreOwn documents own) (count : ℕ) where
  -- its writes
  abbrev pub batch_writes : List PlacedWrite
  batch_writes = insert_writes (namespace_of target) (take count documents) (take count (places_from call index (length own)))

  -- what it asks for
  abbrev pub batch_body : SendBody
  batch_body = Write command.Insert (insert_is_ordered options) batch_writes

  -- the operation asks for it
  pub batch_asks : AsksFor (insert_spec target index own options) (rest_of call index own count) batch_body
  batch_asks = record { documents = documents; are_own = are; each_placed = places_length call index (length own); is = refl }

  -- a write of it, by its position
  pub record AtPosition (at : ℕ) (write : PlacedWrite) : Type 0 where
    pub document : List (Pair Bson)
    pub stands : slice_get documents at ≡ Some document
    pub place_is : write.place ≡ place_in call (index + at)
    pub is : write.written ≡ write_on write_kind.Insert (namespace_of target) document
    pub below : at < count

  -- each is so
  pub at_position : (at : ℕ) (write : PlacedWrite) → slice_get batch_writes at ≡ Some write → AtPosition at write
  at_position at write is =
      let found = inserts_at (namespace_of target) (take count documents) (take count (places_from call index (length own))) at write is in
      let front = in_front count documents at found.document found.stands in
      let placed = in_front count (places_from call index (length own)) at found.place found.placed in
      record {
        document = found.document;
        stands = front.1;
        place_is = ap (λ w. w.place) (sym found.is) ∙ place_at call index (length own) at found.place placed.1;
        is = ap (λ w. w.written) (sym found.is);
        below = front.0;
      }

  -- so it stands in the place of its index, as one of the call's writes
  pub batch_stands : (G : ℕ → List (Pair Bson) → Type 0) → EachIs G index documents → (at : ℕ) (write : PlacedWrite) → slice_get batch_writes at ≡ Some write
      → StandsAt (IsOfCall G (namespace_of target) call) call index count at write
  batch_stands G each at write is =
      let found = at_position at write is in
      let index_is : write.place.index ≡ index + at = ap (λ place. place.index) found.place_is in
      record {
        place_is = found.place_is;
        below = found.below;
        is = record {
          document = found.document;
          given = subst (λ n. G n found.document) (sym index_is) (each at found.document found.stands);
          of_call = ap (λ place. place.call) found.place_is;
          is = found.is;
        };
      }

  -- the places may be sent where none of them, nor any behind them, was
  pub batch_may_send : (trace : List Send) → IsNewFrom trace call index → MaySendPlaces trace batch_body
  batch_may_send trace new = standing_may_send AnyWrite call index count trace batch_body tt
      (λ at write stands. let found = at_position at write stands in record { place_is = found.place_is; below = found.below; is = tt }) new

-- where there is a document, and there is one in the batch, its send has a write of the call
pub batch_of_call : (target : OperationTarget) (options : InsertManyOptions) (call index : ℕ) (documents : List (List (Pair Bson))) (own : List OwnDocument) (are : AreOwn documents own) (count : ℕ)
    → 0 < count → 0 < length own → HasWriteOf call (body_writes (batch_body target options call index documents own are count))
batch_of_call target options call index [] [] are count some there = absurd (omega (arith, there))
batch_of_call target options call index [] (first ∷ own) are count some there = absurd are
batch_of_call target options call index (document ∷ documents) [] are count some there = absurd are
batch_of_call target options call index (document ∷ documents) (first ∷ own) are zero some there = absurd (omega (arith, some))
batch_of_call target options call index (document ∷ documents) (first ∷ own) are (suc count) some there = inl refl
