-- What an answer that spells an error says of what its send did.
use Rattle.std.specs.Prelude.{◌≡◌, ℕ, ℤ, Bool, true, List, [], Some, ◌⊎◌}
use Rattle.std.specs.List.{list_any}
use Rattle.std.specs.Str.{bytes_eq}
use Rattle.std.specs.FinMap as finite
use Rattle.driver_error.specs.declared.labels.TheConstants.{NO_WRITES_PERFORMED, TRANSIENT_TRANSACTION_ERROR}
use Rattle.driver_link.specs.Cases.{is_in_transaction}
use Rattle.driver_link.specs.Exchange.{after_picks, answered, exchanged, reauthentication_required}
use Rattle.driver_link.specs.Gathered.{gathered_by}
use Rattle.driver_link.specs.Honesty.{is_overload}
use Rattle.driver_link.specs.Replies.{error_reply}
use Rattle.driver_link.specs.Settled.{Has}
use Rattle.driver_link.specs.WellFormed.{IsItem}
use Rattle.driver_link.specs.declared.machine.Entry.{Entry}
use Rattle.driver_link.specs.declared.machine.Item.{Item}
use Rattle.driver_link.specs.declared.machine.Scheduled.{Scheduled}
use Rattle.driver_link.specs.declared.machine.Send.{Send}
use Rattle.driver_link.specs.declared.machine.Server.{Server}
use Rattle.machine_laws.specs.Steady.{GoesUnder}

-- the answer spells an error with this code of the command, and with these labels
abbrev pub AnswersError : ℤ → List (List ℕ) → Server → Send → Scheduled → Type 0
AnswersError code labels server send step = answered server send step ≡ Some (error_reply code labels)

-- a label is among these
abbrev pub has_label : List ℕ → List (List ℕ) → Bool
has_label name labels = list_any (λ label. bytes_eq label name) labels

-- an error says that nothing ran: by a label of overload, or by the code that asks for another authentication, which
-- an item that may be scheduled gives to no send that has run
abbrev pub SaysNothingRan : Item → ℤ → List (List ℕ) → Type 0
SaysNothingRan item code labels = (list_any is_overload labels ≡ true) ⊎ (IsItem item × (code ≡ reauthentication_required))

-- the entries that a session's transaction has gathered
abbrev pub gathered_in : Server → List ℕ → List Entry
gathered_in server id = gathered_by (finite.get server.sessions id)

-- entries are the same as before, or none
abbrev pub IsSameOrNone : List Entry → List Entry → Type 0
IsSameOrNone old now = (now ≡ old) ⊎ (now ≡ [])

-- nothing was added: the log is as before, and what the transaction of each session has gathered is as before, or none
pub record AddsNothing (old now : Server) : Type 0 where
  pub log : now.log ≡ old.log
  pub gathered : (id : List ℕ) → IsSameOrNone (gathered_in old id) (gathered_in now id)

-- an entry of this session and number
pub record IsEntryUnder (id : List ℕ) (number : ℤ) (entry : Entry) : Type 0 where
  pub session : entry.session ≡ Some id
  pub numbered : entry.number ≡ Some number

-- no entry of this session and number stands in the log, or was gathered
pub record HasNone (id : List ℕ) (number : ℤ) (server : Server) : Type 0 where
  pub log : (entry : Entry) → Has server.log entry → IsEntryUnder id number entry → ⊥
  pub gathered : (other : List ℕ) (entry : Entry) → Has (gathered_in server other) entry → IsEntryUnder id number entry → ⊥

-- where an answer says that nothing ran, its send added nothing to the server after the step's deliveries
abbrev pub NothingRan : Server → Send → Scheduled → Type 0
NothingRan server send step =
    (code : ℤ) (labels : List (List ℕ)) → AnswersError code labels server send step → SaysNothingRan step.item code labels
    → AddsNothing (after_picks server step.deliver) (exchanged server send step)

-- no entry of a session and number stood at a moment, stood once the deliveries of a later step were done, or
-- stands after that step
pub record NoneEver (id : List ℕ) (number : ℤ) (earlier server : Server) (send : Send) (step : Scheduled) : Type 0 where
  pub early : HasNone id number earlier
  pub before : HasNone id number (after_picks server step.deliver)
  pub now : HasNone id number (exchanged server send step)

-- where an answer to a numbered send says that no writes were performed, none of its session and number is
-- there, was there before it, or was there at an earlier moment
abbrev pub NoneWritten : Server → Server → Send → Scheduled → Type 0
NoneWritten past server send step =
    (id : List ℕ) (number code : ℤ) (labels : List (List ℕ)) → GoesUnder id number send → AnswersError code labels server send step
    → has_label NO_WRITES_PERFORMED.now labels ≡ true → NoneEver id number past server send step

-- the answer to a send in a transaction, under this session and number, calls the transaction transient
pub record CallsTransient (id : List ℕ) (number : ℤ) (server : Server) (send : Send) (step : Scheduled) : Type 0 where
  pub code : ℤ
  pub labels : List (List ℕ)
  pub under : GoesUnder id number send
  pub inside : is_in_transaction send ≡ true
  pub answers : AnswersError code labels server send step
  pub label : has_label TRANSIENT_TRANSACTION_ERROR.now labels ≡ true
