-- A single write that ends for want of memory tells of nothing else.
use Rattle.std.proofs.Common.{◌≡◌, List, subst, sym, ◌∙◌, inl, inr}
use Rattle.std.specs.Prelude.{Option, None, Some}
use Rattle.bson_lite.specs.declared.bson.Bson.{Bson}
use Rattle.bson_lite.specs.declared.document.Pair.{Pair}
use Rattle.driver_error.specs.declared.error.Error.{Error}
use Rattle.driver_error.specs.declared.kind.ErrorKind.TheVariants as kind
use Rattle.driver_error.specs.declared.write.WriteFailure.{WriteFailure}
use Rattle.driver_error.specs.Conversions.{Converts, ConvertsKind, IsSingle, single_failure}
use Rattle.driver_error.specs.Error.{ErrorKind, IsAlone, kind_of, labels_of}
use Rattle.driver_error.specs.LabelTexts.{LabelSet, no_labels}
use Rattle.driver_attempt.specs.Failures.{MemoryAlone}
use Rattle.driver_actions.specs.Causes.{TellsOwnRefusal}
use Rattle.driver_inputs.specs.Forms.{WriteForm}
use Rattle.driver_inputs.specs.Inputs.{TellsInput}

-- an error that has its kind and nothing else
alone_told : (why : ErrorKind) (error : Error) → IsAlone why no_labels error → MemoryAlone error
alone_told why error is = λ memory. record {
  kind_is = memory;
  labels_are = is.labels_are;
  no_version = is.no_version;
  no_source = is.no_source;
  no_response = is.no_response;
}

-- input that is refused
pub input_told : (form : WriteForm) (error : Error) → TellsInput form error → MemoryAlone error
input_told form error tells = elim tells [
  | inl memory ↦ λ is. memory
  | inr found ↦ alone_told found.why error found.is
]

-- a document that has no spelling
pub own_told : (document : List (Pair Bson)) (error : Error) → TellsOwnRefusal document error → MemoryAlone error
own_told document error tells = elim tells [
  | inl memory ↦ λ is. memory
  | inr own ↦ alone_told (kind.BsonSerialization own.unspelled.fault) error own.unspelled.is
]

-- an error of many inserts as one of a single write
pub converts_told : (error now : Error) → Converts error now → MemoryAlone error → MemoryAlone now
converts_told error now converts told = by_kind (kind_of error) converts
  where
    by_failure : (failure : Option WriteFailure) (labels : LabelSet) → IsSingle failure labels now → MemoryAlone now
    by_failure (Some failure) labels single = λ is. absurd (let e : ◌≡◌ {A = ErrorKind} (kind.Write failure) kind.Memory = sym single.kind_is ∙ is in cc)
    by_failure None labels single = elim single [ inl alone ↦ alone_told _ now alone | inr memory ↦ λ is. memory ]

    by_kind : (why : ErrorKind) → ConvertsKind why error now → MemoryAlone now
    by_kind (kind.InsertMany failures) single = by_failure (single_failure failures) (labels_of error) single
    by_kind _ same = subst MemoryAlone (sym same) told
