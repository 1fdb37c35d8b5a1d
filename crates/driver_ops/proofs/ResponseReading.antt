-- What bytes that spell no document, and replies that say an error, are answered with.
use Rattle.std.proofs.Common.{◌≡◌, ◌∙◌, ℕ, List, refl, sym, subst, inl, inr}
use Rattle.std.specs.Prelude.{None, Some, ◌⊎◌, Ok, Err}
use Rattle.bson_lite.specs.declared.bson.Bson.{Bson}
use Rattle.bson_lite.specs.declared.document.Pair.{Pair}
use Rattle.bson_lite.specs.declared.fault.DecodeFault.{DecodeFault}
use Rattle.bson_lite.specs.declared.fault.DecodeFault.TheVariants.{At}
use Rattle.bson_lite.specs.Reading.{Gives}
use Rattle.bson_lite.specs.Spelling.{Spells}
use Rattle.driver_error.specs.declared.error.Error.{Error}
use Rattle.driver_error.specs.declared.kind.ErrorKind.TheVariants as kind
use Rattle.driver_error.specs.Conversions.{IsMade}
use Rattle.driver_error.specs.Error.{ErrorKind, HasResponse, kind_of}
use Rattle.driver_error.specs.LabelTexts.{LabelSet, no_labels, label_set}
use Rattle.driver_ops.specs.Responses.{IsNoDocument, IsSpelledBy, KeepsReply, Said, done, fails, breaks, SaysError, SpellsError, TellsResponse, no_document_text, said}
use Rattle.driver_ops.specs.inside.Responses.{IsSaid}

-- bytes that decode to none spell no document
pub spells_nothing : (bytes : List ℕ) (fault : DecodeFault) (offset : ℕ) → fault ≡ At offset
    → ((d : List (Pair Bson)) → Spells d bytes → Gives {A = List (Pair Bson)} (λ document. document) (Err fault) (Ok d))
    → (reply : List (Pair Bson)) → Spells reply bytes → ⊥
spells_nothing bytes fault offset is only reply spelled =
    let given = subst (λ f. Gives {A = List (Pair Bson)} (λ document. document) (Err f) (Ok reply)) is (only reply spelled) in cc

-- the error that says so
pub no_document : (bytes : List ℕ) (error : Error) → ((reply : List (Pair Bson)) → Spells reply bytes → ⊥)
    → IsMade (kind.InvalidResponse no_document_text) no_labels error → (kind_of error ≡ kind.Memory) ⊎ IsNoDocument bytes error
no_document bytes error none (inl is) = inr (record { none = none; is = is })
no_document bytes error none (inr memory) = inl memory.kind_is

-- an error with the reply that spelled it
spelled_by : (bytes : List ℕ) (why : ErrorKind) (labels : LabelSet) (old now : Error) → IsMade why labels old → HasResponse (Some bytes) old now
    → (kind_of now ≡ kind.Memory) ⊎ IsSpelledBy bytes why labels now
spelled_by bytes why labels old now (inl is) has = inr (record {
  kind_is = has.kind ∙ is.kind_is;
  labels_are = has.labels ∙ is.labels_are;
  no_version = has.version ∙ is.no_version;
  no_source = has.source ∙ is.no_source;
  response_is = has.response_is;
})
spelled_by bytes why labels old now (inr memory) has = inl (has.kind ∙ memory.kind_is)

module _ (bytes : List ℕ) (reply : List (Pair Bson)) (spelled : Spells reply bytes) (now : Error) where
  spells_by : (says : Said) (old : Error) → said reply ≡ says → IsSaid says (Some old) → HasResponse (Some bytes) old now
      → (kind_of now ≡ kind.Memory) ⊎ SaysError bytes now
  spells_by done old is tells has = absurd (none_found old tells)
    where
      none_found : (old : Error) → Some old ≡ None → ⊥
      none_found old is = cc
  spells_by (fails body) old is tells has = by_cases (spelled_by bytes (kind.Command body.command_error) (label_set body.error_labels) old now tells has)
    where
      by_cases : (kind_of now ≡ kind.Memory) ⊎ IsSpelledBy bytes (kind.Command body.command_error) (label_set body.error_labels) now
          → (kind_of now ≡ kind.Memory) ⊎ SaysError bytes now
      by_cases (inl memory) = inl memory
      by_cases (inr spells) = inr (record { reply = reply; spelled = spelled; is = subst (λ s. SpellsError bytes s now) (sym is) spells })
  spells_by (breaks message) old is tells has = by_cases (spelled_by bytes (kind.InvalidResponse message) no_labels old now tells has)
    where
      by_cases : (kind_of now ≡ kind.Memory) ⊎ IsSpelledBy bytes (kind.InvalidResponse message) no_labels now → (kind_of now ≡ kind.Memory) ⊎ SaysError bytes now
      by_cases (inl memory) = inl memory
      by_cases (inr spells) = inr (record { reply = reply; spelled = spelled; is = subst (λ s. SpellsError bytes s now) (sym is) spells })

  -- the error that a reply says, with the reply
  pub says_error : (old : Error) → IsSaid (said reply) (Some old) → KeepsReply bytes old now → TellsResponse bytes now
  says_error old tells (inl memory) = inl memory
  says_error old tells (inr has) = by_cases (spells_by (said reply) old refl tells has)
    where
      by_cases : (kind_of now ≡ kind.Memory) ⊎ SaysError bytes now → TellsResponse bytes now
      by_cases (inl memory) = inl memory
      by_cases (inr says) = inr (inr says)
