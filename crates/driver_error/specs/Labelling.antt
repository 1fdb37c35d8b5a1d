-- The texts of the labels.
use Rattle.std.specs.Prelude.{◌≡◌, codes}
use Rattle.driver_error.specs.declared.labels.TheConstants.{RETRYABLE_WRITE_ERROR, TRANSIENT_TRANSACTION_ERROR, UNKNOWN_TRANSACTION_COMMIT_RESULT, SYSTEM_OVERLOADED_ERROR, RETRYABLE_ERROR, NO_WRITES_PERFORMED, RESUMABLE_CHANGE_STREAM_ERROR}

-- each label is its text
pub record HaveTexts : Type 0 where
  pub retryable_write_error : RETRYABLE_WRITE_ERROR.now ≡ codes "RetryableWriteError"
  pub transient_transaction_error : TRANSIENT_TRANSACTION_ERROR.now ≡ codes "TransientTransactionError"
  pub unknown_transaction_commit_result : UNKNOWN_TRANSACTION_COMMIT_RESULT.now ≡ codes "UnknownTransactionCommitResult"
  pub system_overloaded_error : SYSTEM_OVERLOADED_ERROR.now ≡ codes "SystemOverloadedError"
  pub retryable_error : RETRYABLE_ERROR.now ≡ codes "RetryableError"
  pub no_writes_performed : NO_WRITES_PERFORMED.now ≡ codes "NoWritesPerformed"
  pub resumable_change_stream_error : RESUMABLE_CHANGE_STREAM_ERROR.now ≡ codes "ResumableChangeStreamError"
