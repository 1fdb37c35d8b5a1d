-- The errors of an attempt's failures: of faults of the link and of replies, with the labels of the table.
use Rattle.std.specs.Prelude.{◌≡◌, ℕ, ℤ, Bool, true, false, List, Option}
use Rattle.driver_error.specs.declared.error.Error.{Error}
use Rattle.driver_error.specs.declared.kind.ErrorKind.TheVariants as kind
use Rattle.driver_error.specs.Error.{ErrorKind, HasVersion, IsAlone, KeepsAllButLabels, kind_of, labels_of}
use Rattle.driver_error.specs.LabelTexts.{label_set, no_labels}
use Rattle.link_faults.specs.declared.fault.LinkFault.{LinkFault}
use Rattle.link_faults.specs.Failures.{fault_kind}
use Rattle.driver_session.specs.declared.retryability.Retryability.{Retryability}
use Rattle.retry_rules.specs.LabelTable.{labels_outside_transactions}

-- there was no memory
abbrev pub is_memory : ErrorKind → Bool
is_memory kind.Memory = true
is_memory _ = false

-- an error of want of memory tells of nothing else: no label, version, source or response
abbrev pub MemoryAlone : Error → Type 0
MemoryAlone error = kind_of error ≡ kind.Memory → IsAlone kind.Memory no_labels error

-- an error gained the labels of the table, and nothing else
pub record IsLabelled (retryability : Retryability) (old now : Error) : Type 0 where
  pub labels : labels_of now ≡ labels_outside_transactions retryability old
  pub rest : KeepsAllButLabels old now

-- the error of a fault of the link: its kind, its own labels and those of the table, and nothing else
pub record IsFaultOf (fault : LinkFault) (labels : List (List ℕ)) (retryability : Retryability) (error : Error) : Type 0 where
  pub bare : Error
  pub is : IsAlone (fault_kind fault) (label_set labels) bare
  pub labelled : IsLabelled retryability bare error

-- an error as it came on a connection with this wire version
pub record IsVersioned (P : Error → Type 0) (version : Option ℤ) (error : Error) : Type 0 where
  pub bare : Error
  pub is : P bare
  pub versioned : HasVersion version bare error

-- an error that was read in a reply gained its labels; want of memory ends an operation at once, and gains none
pub record IsLabelledRead (retryability : Retryability) (old now : Error) : Type 0 where
  pub told : is_memory (kind_of old) ≡ false
  pub labelled : IsLabelled retryability old now
