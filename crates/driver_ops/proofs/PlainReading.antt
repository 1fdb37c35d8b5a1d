-- What a reply which says that its command was done is read as: as its operation reads it, unless memory runs out.
use Rattle.std.proofs.Common.{◌≡◌, ℕ, List, [], ◌∷◌, refl, sym, ap, subst, ◌∙◌, inl, inr}
use Rattle.std.specs.Prelude.{pos, Some, ◌⊎◌, Ok, Err}
use Rattle.bson_lite.specs.Spelling.{Spells}
use Rattle.driver_error.specs.declared.error.Error.{Error}
use Rattle.driver_error.specs.declared.kind.ErrorKind.TheVariants as kind
use Rattle.driver_error.specs.Error.{HasResponse, kind_of}
use Rattle.driver_link.specs.Cursors.{Reply}
use Rattle.driver_ops.specs.declared.operation.Reading.TheVariants as read
use Rattle.driver_ops.specs.Operations.{OperationSpec, ReadsAnswer, ReadsError}
use Rattle.driver_ops.specs.Responses.{Said, SpellsError, TellsResponse, breaks, done, fails, said}
use Rattle.driver_ops.specs.lawful.InsertRead.{spells_one}

-- the error that an operation reads in a reply, which then keeps the reply
pub record ReadsBare {A : Type 0} (spec : OperationSpec A) (statements : ℕ) (bytes : List ℕ) (reply : Reply) (error : Error) : Type 0 where
  pub bare : Error
  pub reads : spec.reads statements (Ok reply ∷ []) (Err bare)
  pub kept : HasResponse (Some bytes) bare error

module _ {A : Type 0} (spec : OperationSpec A) (statements : ℕ) (bytes : List ℕ) (reply : Reply) (says : said reply ≡ done) (spelled : Spells reply bytes) where
  no_said : (what : Said) (error : Error) → said reply ≡ what → SpellsError bytes what error → ⊥
  no_said done error at spells = spells
  no_said (fails body) error at spells = let e : fails body ≡ done = sym at ∙ says in cc
  no_said (breaks message) error at spells = let e : breaks message ≡ done = sym at ∙ says in cc

  no_response : (error : Error) → TellsResponse bytes error → kind_of error ≡ kind.Memory
  no_response error tells = elim tells [
    | inl memory ↦ memory
    | inr other ↦ elim other [
      | inl none ↦ absurd (none.none reply spelled)
      | inr found ↦ let same = spells_one reply found.reply bytes spelled found.spelled in absurd (no_said (said found.reply) error (ap said same) found.is)
    ]
  ]

  bare_read : (error : Error) → ReadsError spec statements bytes error → ReadsBare spec statements bytes reply error
  bare_read error found =
      let same = spells_one found.response.body reply bytes found.done.spelled spelled in
      record {
        bare = found.bare;
        reads = subst (λ body. spec.reads statements (Ok body ∷ []) (Err found.bare)) same found.reads;
        kept = found.kept;
      }

  -- an error is want of memory, or the one that the operation reads
  pub error_read : (error : Error) → ReadsAnswer spec statements bytes (Err error) → (kind_of error ≡ kind.Memory) ⊎ ReadsBare spec statements bytes reply error
  error_read error reads = elim reads [
    | inl response ↦ inl (no_response error response)
    | inr other ↦ elim other [ inl found ↦ inr (bare_read error found) | inr memory ↦ inl memory ]
  ]

  module _ (no_error : (error : Error) → spec.reads statements (Ok reply ∷ []) (Err error) → kind_of error ≡ kind.Memory) where
    bare_memory : (error : Error) → ReadsBare spec statements bytes reply error → kind_of error ≡ kind.Memory
    bare_memory error found = of_kept (no_error found.bare found.reads) found.kept
      where
        of_kept : kind_of found.bare ≡ kind.Memory → HasResponse (Some bytes) found.bare error → kind_of error ≡ kind.Memory
        of_kept memory kept = kept.kind ∙ memory

    -- there is no other error than want of memory
    pub only_memory : (error : Error) → ReadsAnswer spec statements bytes (Err error) → kind_of error ≡ kind.Memory
    only_memory error reads = elim (error_read error reads) [ inl memory ↦ memory | inr found ↦ bare_memory error found ]

  -- it may be read as done
  pub may_be_done : (output : A) → spec.reads statements (Ok reply ∷ []) (Ok (read.Done output)) → ReadsAnswer spec statements bytes (Ok output)
  may_be_done output reads = record {
    response = record { ok = pos 1; body = reply };
    done = record { spelled = spelled; ok = refl; is = says };
    reads = reads;
  }
