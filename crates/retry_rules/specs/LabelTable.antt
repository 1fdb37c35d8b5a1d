-- Which labels a failure of an operation gains.
use Rattle.std.specs.Prelude.{if◌then◌else◌}
use Rattle.driver_error.specs.declared.error.Error.{Error}
use Rattle.driver_error.specs.declared.labels.TheConstants.{RETRYABLE_WRITE_ERROR}
use Rattle.driver_error.specs.Error.{labels_of}
use Rattle.driver_error.specs.LabelTexts.{LabelSet, with_label}
use Rattle.driver_error.specs.Predicates.{is_network_error}
use Rattle.driver_session.specs.declared.retryability.Retryability.{Retryability}
use Rattle.driver_session.specs.declared.retryability.Retryability.TheVariants.{Write}

-- outside transactions a failure of the network gains the label that lets a write be tried again, where the
-- operation is a write that may be; all other failures have the labels that they had
abbrev pub labels_outside_transactions : Retryability → Error → LabelSet
labels_outside_transactions Write error = if is_network_error error then with_label (labels_of error) RETRYABLE_WRITE_ERROR.now else labels_of error
labels_outside_transactions other error = labels_of error
