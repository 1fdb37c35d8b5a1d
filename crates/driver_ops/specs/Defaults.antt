-- What an operation answers where it has nothing of its own to say.
use Rattle.std.specs.Prelude.{ℕ, Bool, true, false, List, codes, Option, Some}
use Rattle.driver_options.specs.declared.options.ClientOptions.{ClientOptions}
use Rattle.driver_session.specs.declared.retryability.Retryability.{Retryability}
use Rattle.driver_session.specs.declared.retryability.Retryability.TheVariants as may

-- something of an operation may be repeated
abbrev pub is_repeatable : Retryability → Bool
is_repeatable may.None = false
is_repeatable other = true

-- the message about a further page of an answer that has one
unfoldable pub one_page_text : List ℕ
one_page_text = codes "the answer has one page"

-- a write may be repeated, unless the client's options forbid it
abbrev pub repeated_where : Option Bool → Retryability
repeated_where (Some false) = may.None
repeated_where other = may.Write

-- a write of one document may be repeated, unless the client's options forbid it; one of all documents found may not
abbrev pub own_of_statement : Bool → ClientOptions → Retryability
own_of_statement true options = may.None
own_of_statement false options = repeated_where options.retry_writes

-- each may be repeated after an overloaded server refused it, unless the client's options forbid it
abbrev pub under_backpressure : ClientOptions → Bool
under_backpressure options = is_repeatable (repeated_where options.retry_writes)
