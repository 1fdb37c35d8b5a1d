-- What is judged of a write concern, by the tests on it.
use Rattle.std.proofs.Common.{◌≡◌, refl, ap, ◌∙◌}
use Rattle.std.specs.Prelude.{true, false, List, [], ◌∷◌, None, Some, if◌then◌else◌}
use Rattle.bson_lite.specs.declared.bson.Bson.{Bson}
use Rattle.bson_lite.specs.declared.bson.Bson as bson
use Rattle.bson_lite.specs.declared.document.Pair.{Pair}
use Rattle.driver_error.specs.declared.error.Error.{Error}
use Rattle.driver_error.specs.declared.kind.ErrorKind.TheVariants as kind
use Rattle.driver_error.specs.Conversions.{IsMade}
use Rattle.driver_error.specs.LabelTexts.{no_labels}
use Rattle.driver_options.specs.declared.concerns.WriteConcern.{WriteConcern}
use Rattle.driver_options.specs.Concerns.{is_acknowledged, is_valid}
use Rattle.driver_ops.specs.ConcernFields.{filled}
use Rattle.driver_attempt.specs.Concerns.{IsConcernError, concern_refusal, invalid_concern_text, unacknowledged_text}

-- nobody would acknowledge the write
pub refused_unacknowledged : (concern : WriteConcern) (error : Error) → is_acknowledged concern ≡ false → IsMade (kind.InvalidArgument unacknowledged_text) no_labels error
    → IsConcernError (Some concern) error
refused_unacknowledged concern error nobody is = record {
  text = unacknowledged_text;
  refused = ap (λ b. if b then (if is_valid concern then None else Some invalid_concern_text) else Some unacknowledged_text) nobody;
  is = is;
}

-- somebody would, and no server could meet it
pub refused_invalid : (concern : WriteConcern) (error : Error) → is_acknowledged concern ≡ true → is_valid concern ≡ false → IsMade (kind.InvalidArgument invalid_concern_text) no_labels error
    → IsConcernError (Some concern) error
refused_invalid concern error somebody invalid is = record {
  text = invalid_concern_text;
  refused = ap (λ b. if b then (if is_valid concern then None else Some invalid_concern_text) else Some unacknowledged_text) somebody
      ∙ ap (λ b. if b then None else Some invalid_concern_text) invalid;
  is = is;
}

-- it is in order
pub not_refused : (concern : WriteConcern) → is_acknowledged concern ≡ true → is_valid concern ≡ true → concern_refusal (Some concern) ≡ None
not_refused concern somebody valid =
    ap (λ b. if b then (if is_valid concern then None else Some invalid_concern_text) else Some unacknowledged_text) somebody
    ∙ ap (λ b. if b then None else Some invalid_concern_text) valid

-- a document without a field is no value, and one with a field is
pub filled_none : (document : List (Pair Bson)) → document ≡ [] → filled document ≡ None
filled_none document is = ap filled is

pub filled_some : (document : List (Pair Bson)) → (document ≡ [] → ⊥) → filled document ≡ Some (bson.Document document)
filled_some [] some = absurd (some refl)
filled_some (first ∷ rest) some = refl
