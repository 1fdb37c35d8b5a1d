-- What callers ask of an error.
use Rattle.std.specs.Prelude.{ℕ, ℤ, pos, Bool, true, false, ◌&&◌, ◌||◌, not, List, [], ◌∷◌, map, codes, Option, None, Some}
use Rattle.std.specs.List.{list_any}
use Rattle.std.specs.Ordering.{int_eq}
use Rattle.driver_error.specs.declared.error.Error.{Error}
use Rattle.driver_error.specs.declared.kind.ErrorKind.TheVariants as kind
use Rattle.driver_error.specs.declared.kind.IoKind.{IoKind}
use Rattle.driver_error.specs.declared.kind.IoKind.TheVariants as io
use Rattle.driver_error.specs.Chains.{contains_label, sdam_code}
use Rattle.driver_error.specs.Error.{ErrorKind, kind_of}

-- the texts of labels that decide
unfoldable pub retryable_write : List ℕ
retryable_write = codes "RetryableWriteError"

unfoldable pub transient_transaction : List ℕ
transient_transaction = codes "TransientTransactionError"

unfoldable pub resumable_change_stream : List ℕ
resumable_change_stream = codes "ResumableChangeStreamError"

-- the code is there and one of these
abbrev pub code_among : List ℤ → Option ℤ → Bool
code_among numbers None = false
code_among numbers (Some code) = list_any (λ number. int_eq number code) numbers

-- the network failed, or the connections were given up
abbrev pub of_network : ErrorKind → Bool
of_network (kind.Io failure) = true
of_network (kind.ConnectionPoolCleared message) = true
of_network _ = false

abbrev pub is_network_error : Error → Bool
is_network_error error = of_network (kind_of error)

abbrev pub is_time_out : IoKind → Bool
is_time_out io.TimedOut = true
is_time_out _ = false

abbrev pub of_network_timeout : ErrorKind → Bool
of_network_timeout (kind.Io failure) = is_time_out failure
of_network_timeout _ = false

abbrev pub is_network_timeout : Error → Bool
is_network_timeout error = of_network_timeout (kind_of error)

abbrev pub of_other_network : ErrorKind → Bool
of_other_network (kind.Io failure) = not (is_time_out failure)
of_other_network _ = false

abbrev pub is_non_timeout_network_error : Error → Bool
is_non_timeout_network_error error = of_other_network (kind_of error)

abbrev pub of_selection : ErrorKind → Bool
of_selection (kind.ServerSelection message) = true
of_selection _ = false

abbrev pub is_server_selection_error : Error → Bool
is_server_selection_error error = of_selection (kind_of error)

abbrev pub of_authentication : ErrorKind → Bool
of_authentication (kind.Authentication message) = true
of_authentication _ = false

abbrev pub is_auth_error : Error → Bool
is_auth_error error = of_authentication (kind_of error)

abbrev pub of_cleared_pool : ErrorKind → Bool
of_cleared_pool (kind.ConnectionPoolCleared message) = true
of_cleared_pool _ = false

abbrev pub is_pool_cleared : Error → Bool
is_pool_cleared error = of_cleared_pool (kind_of error)

abbrev pub of_old_server : ErrorKind → Bool
of_old_server (kind.IncompatibleServer message) = true
of_old_server _ = false

abbrev pub is_incompatible_server : Error → Bool
is_incompatible_server error = of_old_server (kind_of error)

abbrev pub of_argument : ErrorKind → Bool
of_argument (kind.InvalidArgument message) = true
of_argument _ = false

abbrev pub is_invalid_argument : Error → Bool
is_invalid_argument error = of_argument (kind_of error)

-- a command error of code 26
abbrev pub of_missing_namespace : ErrorKind → Bool
of_missing_namespace (kind.Command error) = int_eq error.code (pos 26)
of_missing_namespace _ = false

abbrev pub is_ns_not_found : Error → Bool
is_ns_not_found error = of_missing_namespace (kind_of error)

abbrev pub of_server : ErrorKind → Bool
of_server (kind.Authentication message) = true
of_server (kind.InsertMany error) = true
of_server (kind.Command error) = true
of_server (kind.Write failure) = true
of_server _ = false

abbrev pub is_server_error : Error → Bool
is_server_error error = of_server (kind_of error)

-- the codes after which a read may be tried again
abbrev pub read_retryable_codes : List ℤ
read_retryable_codes =
    map pos (11600 ∷ 11602 ∷ 10107 ∷ 13435 ∷ 13436 ∷ 189 ∷ 91 ∷ 7 ∷ 6 ∷ 89 ∷ 9001 ∷ 134 ∷ 262 ∷ [])

abbrev pub is_read_retryable : Error → Bool
is_read_retryable error = is_network_error error || code_among read_retryable_codes (sdam_code error)

abbrev pub is_write_retryable : Error → Bool
is_write_retryable error = contains_label retryable_write error

-- the codes of a server that recovers
abbrev pub recovering_codes : List ℤ
recovering_codes = map pos (11600 ∷ 11602 ∷ 13436 ∷ 189 ∷ 91 ∷ [])

abbrev pub is_recovering : Error → Bool
is_recovering error = code_among recovering_codes (sdam_code error)

-- the codes of a server that takes no writes
abbrev pub not_writable_codes : List ℤ
not_writable_codes = map pos (10107 ∷ 13435 ∷ 10058 ∷ [])

abbrev pub is_notwritableprimary : Error → Bool
is_notwritableprimary error = code_among not_writable_codes (sdam_code error)

-- the codes of a server that shuts down
abbrev pub shutting_down_codes : List ℤ
shutting_down_codes = map pos (11600 ∷ 91 ∷ [])

abbrev pub is_shutting_down : Error → Bool
is_shutting_down error = code_among shutting_down_codes (sdam_code error)

abbrev pub is_state_change_error : Error → Bool
is_state_change_error error = is_recovering error || is_notwritableprimary error

abbrev pub is_max_time_ms_expired_error : Error → Bool
is_max_time_ms_expired_error error = code_among (map pos (50 ∷ [])) (sdam_code error)

abbrev pub is_reauthentication_required : Error → Bool
is_reauthentication_required error = code_among (map pos (391 ∷ [])) (sdam_code error)

-- no server's error, or a cursor that is not known, or labelled so
abbrev pub is_resumable : Error → Bool
is_resumable error =
    not (is_server_error error) || code_among (map pos (43 ∷ [])) (sdam_code error)
    || contains_label resumable_change_stream error

abbrev pub should_add_retryable_write_label : Error → Bool
should_add_retryable_write_label error = is_network_error error

-- the codes after which it is unknown whether a commit was made
abbrev pub unknown_commit_codes : List ℤ
unknown_commit_codes = map pos (50 ∷ 64 ∷ 91 ∷ [])

abbrev pub should_add_unknown_transaction_commit_result_label : Error → Bool
should_add_unknown_transaction_commit_result_label error =
    not (contains_label transient_transaction error)
    && (is_network_error error || is_server_selection_error error || is_write_retryable error
    || code_among unknown_commit_codes (sdam_code error))
