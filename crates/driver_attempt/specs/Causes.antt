-- Words on ends and on what a link answered: replies, early faults, the number of the session that is lent next.
use Rattle.std.specs.Prelude.{◌≡◌, ℕ, ℤ, pos, List, [], ◌∷◌, Option, None, Some, ◌⊎◌, Result, Ok, Err}
use Rattle.driver_error.specs.declared.error.Error.{Error}
use Rattle.driver_error.specs.declared.kind.ErrorKind.TheVariants as kind
use Rattle.driver_error.specs.Error.{ErrorKind, kind_of, labels_of, source_of}
use Rattle.driver_error.specs.LabelTexts.{LabelSet}
use Rattle.link_faults.specs.declared.fault.Answered.{Answered}
use Rattle.link_faults.specs.declared.fault.Answered.TheVariants as answer
use Rattle.link_faults.specs.declared.fault.LinkCall.TheVariants.{Exchange}
use Rattle.link_faults.specs.declared.fault.LinkFault.{LinkFault}
use Rattle.driver_session.specs.declared.pool.IdleSession.{IdleSession}
use Rattle.driver_session.specs.Session.{last_number}
use Rattle.driver_session.specs.Pool.{Pool}
use Rattle.driver_session.specs.StoreTells.{StoreTells}

-- one of the replies has a property
abbrev pub HasReply : (List ℕ → Type 0) → List Answered → Type 0
HasReply P [] = ⊥
HasReply P (answer.Reply bytes ∷ items) = P bytes ⊎ HasReply P items
HasReply P (answer.Fault call fault labels ∷ items) = HasReply P items

-- one of the faults of exchanges has a property
abbrev pub HasExchangeFault : (LinkFault → List (List ℕ) → Type 0) → List Answered → Type 0
HasExchangeFault P [] = ⊥
HasExchangeFault P (answer.Reply bytes ∷ items) = HasExchangeFault P items
HasExchangeFault P (answer.Fault Exchange fault labels ∷ items) = P fault labels ⊎ HasExchangeFault P items
HasExchangeFault P (answer.Fault call fault labels ∷ items) = HasExchangeFault P items

-- nothing was exchanged: all that was answered is a fault of an earlier call
abbrev pub AllEarly : List Answered → Type 0
AllEarly [] = Unit {0}
AllEarly (answer.Reply bytes ∷ items) = ⊥
AllEarly (answer.Fault Exchange fault labels ∷ items) = ⊥
AllEarly (answer.Fault call fault labels ∷ items) = AllEarly items

-- the number is the last one, where it is told
abbrev pub MayBeLast : Option ℤ → Type 0
MayBeLast None = Unit {0}
MayBeLast (Some number) = number ≡ last_number

-- the number is told, and it is the last one
abbrev pub IsLast : Option ℤ → Type 0
IsLast None = ⊥
IsLast (Some number) = number ≡ last_number

-- what an error tells of itself: its kind, its own labels, and the error that caused it
pub record ErrorOutline : Type 0 where
  pub kind : ErrorKind
  pub labels : LabelSet
  pub source : Option Error

-- what an error tells of itself
abbrev pub outline_of : Error → ErrorOutline
outline_of error = record { kind = kind_of error; labels = labels_of error; source = source_of error }

-- how a call ended: nothing after an Ok, else what its error tells
abbrev pub end_of : {A : Type 0} → Result A Error → Option ErrorOutline
end_of (Ok given) = None
end_of (Err error) = Some (outline_of error)

-- where a session's number is at its end, an error tells so, but for the faults of calls before a command goes
-- out, and for want of memory
abbrev pub KindAtLast : ErrorKind → Type 0
KindAtLast (kind.Io io) = Unit {0}
KindAtLast (kind.ConnectionPoolCleared message) = Unit {0}
KindAtLast (kind.ServerSelection message) = Unit {0}
KindAtLast (kind.Authentication message) = Unit {0}
KindAtLast (kind.Internal message) = Unit {0}
KindAtLast kind.Memory = Unit {0}
KindAtLast _ = ⊥

-- the number of the session that a check-out lends
abbrev pub lent_number : List IdleSession → ℤ
lent_number [] = pos 0
lent_number (front ∷ idle) = front.number

-- the number of the session that is lent next, where the store tells it
abbrev pub number_in : Option Pool → Option ℤ
number_in None = None
number_in (Some pool) = Some (lent_number pool.idle)

-- the number of the session that a store lends next, where it tells its pool
abbrev pub next_number : StoreTells → Option ℤ
next_number store = number_in store.pool
