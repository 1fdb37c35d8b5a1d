-- The rules of honesty of scheduled answers: a label that would tell a lie of what ran is left out.
use Rattle.std.specs.Prelude.{ℕ, ℤ, Bool, true, false, ◌&&◌, ◌||◌, List, filter, Option, None, Some, if◌then◌else◌}
use Rattle.std.specs.List.{list_any}
use Rattle.std.specs.Str.{bytes_eq}
use Rattle.std.specs.FinMap as finite
use Rattle.driver_error.specs.declared.labels.TheConstants.{NO_WRITES_PERFORMED, RETRYABLE_ERROR, SYSTEM_OVERLOADED_ERROR, TRANSIENT_TRANSACTION_ERROR}
use Rattle.driver_link.specs.declared.machine.KnownSession.{KnownSession}
use Rattle.driver_link.specs.declared.machine.Send.{Send}
use Rattle.driver_link.specs.declared.machine.Server.{Server}
use Rattle.driver_link.specs.Cases.{is_in_transaction, known_under}
use Rattle.driver_link.specs.Sessions.{is_below, is_committed, is_new}
use Rattle.driver_link.specs.Statements.{negated}

-- what an answer is judged by: whether a statement ran in this step, whether one ran before under the
-- send's number, and whether its transaction can be called transient
pub record Facts : Type 0 where
  pub ran_now : Bool
  pub ran_before : Bool
  pub can_be_transient : Bool

-- a label of overload
abbrev pub is_overload : List ℕ → Bool
is_overload label = bytes_eq label SYSTEM_OVERLOADED_ERROR.now || bytes_eq label RETRYABLE_ERROR.now

-- a label that may be answered: of overload only where nothing ran in this step, that no writes were
-- performed only where none ran now or before under the number, and that a transaction is transient only
-- where it can be so
unfoldable pub may_carry : Facts → List ℕ → Bool
may_carry facts label =
    if is_overload label then negated facts.ran_now
    else (if bytes_eq label NO_WRITES_PERFORMED.now then negated (facts.ran_now || facts.ran_before)
    else (if bytes_eq label TRANSIENT_TRANSACTION_ERROR.now then facts.can_be_transient else true))

-- the labels that are answered
abbrev pub honest : Facts → List (List ℕ) → List (List ℕ)
honest facts labels = filter (may_carry facts) labels

-- the transient label is among these
abbrev pub has_transient : List (List ℕ) → Bool
has_transient labels = list_any (λ label. bytes_eq label TRANSIENT_TRANSACTION_ERROR.now) labels

-- whether a statement ran before under a number, by what is known of its session: of a number below the
-- greatest that is not known, so it counts as one that may have
abbrev pub ran_under : ℤ → Option KnownSession → Bool
ran_under number None = false
ran_under number (Some known) = if is_new number (Some known) then false else (is_below number (Some known) || known.ran)

-- the same for a send; one without a number has none before it
unfoldable pub ran_before : Option (List ℕ) → Option ℤ → Server → Bool
ran_before (Some id) (Some number) server = ran_under number (finite.get server.sessions id)
ran_before session number server = false

-- whether a send in a transaction can be answered that this is transient: its number is not below the
-- greatest, and no transaction of that number is committed
unfoldable pub can_be_transient : Option (List ℕ) → Option ℤ → Server → Send → Bool
can_be_transient (Some id) (Some number) server send =
    if is_in_transaction send
    then negated (is_below number (finite.get server.sessions id)) && negated (is_committed (known_under id number server send).transaction)
    else true
can_be_transient session number server send = true

-- what the answer to a send is judged by: the server before it, and the server once it has had its effect
abbrev pub facts_of : Bool → Server → Send → Server → Facts
facts_of ran_now before send now = record {
  ran_now = ran_now;
  ran_before = ran_before send.session send.number before;
  can_be_transient = can_be_transient send.session send.number now send;
}
