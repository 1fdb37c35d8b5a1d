-- The errors that failures of a link become, and which failures are the network's.
use Rattle.std.specs.Prelude.{Bool, true, false}
use Rattle.driver_error.specs.declared.error.Error.{Error}
use Rattle.driver_error.specs.declared.kind.ErrorKind.TheVariants as kind
use Rattle.driver_error.specs.Conversions.{IsMade}
use Rattle.driver_error.specs.Error.{ErrorKind, IsAlone}
use Rattle.driver_error.specs.LabelTexts.{no_labels, label_set}
use Rattle.link_faults.specs.declared.fault.LinkError.{LinkError}
use Rattle.link_faults.specs.declared.fault.LinkError.TheVariants.{Fault, Memory}
use Rattle.link_faults.specs.declared.fault.LinkFault.{LinkFault}
use Rattle.link_faults.specs.declared.fault.LinkFault.TheVariants.{Io, PoolCleared, Selection, Authentication}

-- the kind of a link's fault
abbrev pub fault_kind : LinkFault → ErrorKind
fault_kind (Io io) = kind.Io io
fault_kind (PoolCleared message) = kind.ConnectionPoolCleared message
fault_kind (Selection message) = kind.ServerSelection message
fault_kind (Authentication message) = kind.Authentication message

-- the kind of the fault with its labels and nothing else, or want of memory for them
abbrev pub BecomesError : LinkError → Error → Type 0
BecomesError (Fault fault labels) error = IsMade (fault_kind fault) (label_set labels) error
BecomesError Memory error = IsAlone kind.Memory no_labels error

-- the network failed, or the connections to a server were given up
abbrev pub is_network : LinkFault → Bool
is_network (Io io) = true
is_network (PoolCleared message) = true
is_network other = false
