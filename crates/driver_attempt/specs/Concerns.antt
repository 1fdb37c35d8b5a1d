-- The write concern that an operation goes out with, and why one is refused.
use Rattle.std.specs.Prelude.{◌≡◌, ℕ, List, codes, Option, None, Some, if◌then◌else◌}
use Rattle.driver_error.specs.declared.error.Error.{Error}
use Rattle.driver_error.specs.declared.kind.ErrorKind.TheVariants as kind
use Rattle.driver_error.specs.Conversions.{IsMade}
use Rattle.driver_error.specs.LabelTexts.{no_labels}
use Rattle.driver_options.specs.declared.concerns.WriteConcern.{WriteConcern}
use Rattle.driver_options.specs.declared.options.ClientOptions.{ClientOptions}
use Rattle.driver_options.specs.Concerns.{else_concern, is_acknowledged, is_valid}
use Rattle.driver_ops.specs.declared.feature.Feature.{Feature}
use Rattle.driver_ops.specs.declared.feature.Feature.TheVariants.{Inherit, NotSupported, Set}
use Rattle.driver_ops.specs.declared.target.OperationTarget.{OperationTarget}
use Rattle.driver_ops.specs.declared.target.OperationTarget.TheVariants as target
use Rattle.driver_ops.specs.Operations.{OperationSpec}
use Rattle.driver_ops.specs.SendKinds.{SendKind}

-- the concern that an operation without one of its own takes: that of the collection that it goes to, else its client's; where a
-- collection is named alone it takes none
abbrev pub inherited_concern : OperationTarget → Option WriteConcern → Option WriteConcern
inherited_concern (target.Database database) given = given
inherited_concern (target.Collection collection) given = else_concern collection.write_concern given
inherited_concern (target.Namespace namespace) given = None

-- the concern that an operation outside transactions goes out with: its own, else the one that it takes
abbrev pub effective_concern : Feature WriteConcern → OperationTarget → Option WriteConcern → Option WriteConcern
effective_concern (Set concern) goal given = Some concern
effective_concern Inherit goal given = inherited_concern goal given
effective_concern NotSupported goal given = None

-- the same by what an operation tells of a kind of send, and by its client's options
abbrev pub concern_of : {A : Type 0} → OperationSpec A → SendKind → ClientOptions → Option WriteConcern
concern_of spec which options = effective_concern (spec.write_concern which) spec.target options.write_concern

-- the message about a concern under which no server would answer what became of the write
unfoldable pub unacknowledged_text : List ℕ
unacknowledged_text = codes "Unacknowledged write concerns are not supported"

-- the message about a concern that no server could meet
unfoldable pub invalid_concern_text : List ℕ
invalid_concern_text = codes "invalid write concern"

-- why a concern is refused, or none where it is not
abbrev pub concern_refusal : Option WriteConcern → Option (List ℕ)
concern_refusal None = None
concern_refusal (Some concern) = if is_acknowledged concern then (if is_valid concern then None else Some invalid_concern_text) else Some unacknowledged_text

-- a concern is refused, and the error tells why and nothing else, or of want of memory
pub record IsConcernError (concern : Option WriteConcern) (error : Error) : Type 0 where
  pub text : List ℕ
  pub refused : concern_refusal concern ≡ Some text
  pub is : IsMade (kind.InvalidArgument text) no_labels error

-- a concern is not refused, or there is an error
abbrev pub JudgesConcern : Option WriteConcern → Option Error → Type 0
JudgesConcern concern None = concern_refusal concern ≡ None
JudgesConcern concern (Some error) = IsConcernError concern error
