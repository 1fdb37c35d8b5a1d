-- How many documents a build of an insert takes, and where it stops.
use Rattle.std.proofs.Common.{◌≡◌, ℕ, zero, suc, ◌<◌, ◌≤◌, List, [], ◌∷◌, length, min, get_or, take, refl, sym, ap, subst, ◌∙◌, arith, length-take, take_all}
use Rattle.std.proofs.lemmas.List.{length-map}
use Rattle.std.specs.Prelude.{Option, None, Some}
use Rattle.driver_error.specs.declared.error.Error.{Error}
use Rattle.driver_error.specs.declared.kind.ErrorKind.TheVariants as kind
use Rattle.driver_error.specs.Error.{kind_of}
use Rattle.driver_batches.specs.declared.sizes.Limits.{Limits}
use Rattle.driver_batches.specs.Sizes.{Fits}
use Rattle.driver_ops.specs.Operations.{IsFixed}
use Rattle.write_ops.specs.declared.own_document.OwnDocument.{OwnDocument}
use Rattle.write_ops.specs.InsertFronts.{IsFrontOf, RefusesFront, TakesFront, sizes_of, text_at}
use Rattle.write_ops.specs.inside.InsertFronts.{IsTaken, StopsAt}

-- there are as many sizes as documents
length_sizes : (documents : List OwnDocument) → length (sizes_of documents) ≡ length documents
length_sizes documents = length-map documents (λ own. length own.bytes)

-- a first build takes the longest front, where it is not empty
pub first_taken : (limits : Limits) (documents : List OwnDocument) (count : ℕ) → IsFrontOf limits documents count → (count ≡ 0 → ⊥)
    → IsTaken limits documents None count
first_taken limits documents count longest some =
    let more : 0 < count = omega arith in
    let few : count ≤ length (sizes_of documents) = longest.within in
    let as_many : length (sizes_of documents) ≡ length documents = length_sizes documents in
    record { takes = (longest, more); some = more; within = omega arith }

-- and where it is, not even the first document goes out
pub first_stops : (limits : Limits) (documents : List OwnDocument) (count : ℕ) → IsFrontOf limits documents count → count ≡ 0 → StopsAt limits documents None 0
first_stops limits documents count longest none = (refl, subst (λ n. IsFrontOf limits documents n) none longest)

-- a front of so many documents has at most so many sizes
few_sizes : (documents : List OwnDocument) (fixed : ℕ) → length (sizes_of (take fixed documents)) ≡ min fixed (length documents)
few_sizes documents fixed = length_sizes (take fixed documents) ∙ length-take fixed documents

-- a later build takes as many as are fixed, where the whole front goes out
pub again_taken : (limits : Limits) (documents front : List OwnDocument) (fixed count : ℕ) → front ≡ take fixed documents → IsFrontOf limits front count
    → count ≡ fixed → 0 < fixed → IsTaken limits documents (Some fixed) count
again_taken limits documents front fixed count front_is longest whole more =
    let all : IsFrontOf limits (take fixed documents) fixed =
    subst (λ own. IsFrontOf limits own fixed) front_is (subst (λ n. IsFrontOf limits front n) whole longest) in
    let as_many : length (sizes_of (take fixed documents)) ≡ min fixed (length documents) = few_sizes documents fixed in
    let few : length (sizes_of (take fixed documents)) ≤ fixed = omega arith in
    let within : fixed ≤ length (sizes_of (take fixed documents)) = all.within in
    record {
      takes = (whole, subst (λ sizes. Fits limits sizes) (take_all fixed (sizes_of (take fixed documents)) few) all.fits);
      some = omega arith;
      within = omega arith;
    }

-- and where it does not, the first document that does not go out stands in it
pub again_stops : (limits : Limits) (documents front : List OwnDocument) (fixed count : ℕ) → front ≡ take fixed documents → IsFrontOf limits front count
    → (count ≡ fixed → ⊥) → StopsAt limits documents (Some fixed) count
again_stops limits documents front fixed count front_is longest other =
    let part : IsFrontOf limits (take fixed documents) count = subst (λ own. IsFrontOf limits own count) front_is longest in
    let as_many : length (sizes_of (take fixed documents)) ≡ min fixed (length documents) = few_sizes documents fixed in
    let within : count ≤ length (sizes_of (take fixed documents)) = part.within in
    (omega arith, part)

-- what a build takes may be in the command, by what is fixed
pub fixed_by : (limits : Limits) (documents : List OwnDocument) (fixed : Option ℕ) (statements : ℕ) → TakesFront limits documents fixed statements → IsFixed fixed statements
fixed_by limits documents None statements takes = tt
fixed_by limits documents (Some fixed) statements takes = sym takes.0

-- the error about the document that does not go out is what a build is refused with
pub refuses_front : (limits : Limits) (first : ℕ) (documents : List OwnDocument) (fixed : Option ℕ) (at : ℕ) (error : Error) → StopsAt limits documents fixed at
    → kind_of error ≡ kind.InvalidArgument (text_at limits first documents at) → RefusesFront limits first documents fixed error
refuses_front limits first documents None at error stops told =
    (stops.1, told ∙ ap (λ place. kind.InvalidArgument (text_at limits first documents place)) stops.0)
refuses_front limits first documents (Some fixed) at error stops told = (at, stops.0, stops.1, told)

-- the size of a document at its position
pub size_there : (documents : List OwnDocument) (at : ℕ) (own : OwnDocument) → at < length documents → own ≡ get_or documents at own
    → length own.bytes ≡ get_or (sizes_of documents) at 0
size_there documents at own within read = ap (λ (found : OwnDocument). length found.bytes) read ∙ found_at documents at own within
  where
    found_at : (documents : List OwnDocument) (at : ℕ) (own : OwnDocument) → at < length documents → length (get_or documents at own).bytes ≡ get_or (sizes_of documents) at 0
    found_at [] at own within = absurd (omega arith)
    found_at (one ∷ documents) zero own within = refl
    found_at (one ∷ documents) (suc at) own within = found_at documents at own (omega arith)

-- behind the last document there is none
pub size_past : (documents : List OwnDocument) (at : ℕ) → length documents ≤ at → 0 ≡ get_or (sizes_of documents) at 0
size_past [] at past = refl
size_past (one ∷ documents) zero past = absurd (omega arith)
size_past (one ∷ documents) (suc at) past = size_past documents at (omega arith)
