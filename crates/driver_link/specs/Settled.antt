-- The invariant of one client's writes outside transactions: sends that carry a list of writes under a session
-- and a number, any number of times, sends without a number, each of them once, and commands of cursors among them.
use Rattle.std.specs.Prelude.{◌≡◌, ◌≢◌, ℕ, ◌<ℤ◌, ℤ, false, List, [], ◌∷◌, ◌++◌, None, Some, IsSome, ◌⊎◌, slice_get}
use Rattle.std.specs.FinMap as finite
use Rattle.driver_link.specs.declared.machine.Counted.{Counted}
use Rattle.driver_link.specs.declared.machine.Entry.{Entry}
use Rattle.driver_link.specs.declared.machine.KnownSession.{KnownSession}
use Rattle.driver_link.specs.declared.machine.PlacedWrite.{PlacedWrite}
use Rattle.driver_link.specs.declared.machine.Send.{Send}
use Rattle.driver_link.specs.declared.machine.SendBody.{SendBody}
use Rattle.driver_link.specs.declared.machine.SendBody.TheVariants.{Kill, More, Write}
use Rattle.driver_link.specs.declared.machine.Server.{Server}
use Rattle.driver_link.specs.declared.machine.ServerTransaction.TheVariants as transaction
use Rattle.driver_link.specs.Once.{Once}
use Rattle.driver_link.specs.Cases.{writes_of}
use Rattle.driver_link.specs.Statements.{entry_of}

-- a list has this element
abbrev pub Has : {A : Type 0} → List A → A → Type 0
Has [] x = ⊥
Has (y ∷ ys) x = (y ≡ x) ⊎ Has ys x

-- a command that carries writes
abbrev pub IsWrite : SendBody → Type 0
IsWrite (Write command ordered writes) = Unit {0}
IsWrite other = ⊥

-- a send of writes under a session and a number, outside transactions
pub record IsPlain (send : Send) : Type 0 where
  pub id : List ℕ
  pub number : ℤ
  pub session : send.session ≡ Some id
  pub numbered : send.number ≡ Some number
  pub outside : send.in_transaction ≡ false
  pub writes : IsWrite send.body

-- a send of writes without a number, outside transactions
pub record IsUnnumbered (send : Send) : Type 0 where
  pub none : send.number ≡ None
  pub outside : send.in_transaction ≡ false
  pub writes : IsWrite send.body

-- a command of a cursor, which carries no writes: a question for its next page, or its end
abbrev pub IsOfCursor : SendBody → Type 0
IsOfCursor (More cursor) = Unit {0}
IsOfCursor (Kill cursor) = Unit {0}
IsOfCursor other = ⊥

-- a send of a command of a cursor, without a number and outside transactions
pub record IsAside (send : Send) : Type 0 where
  pub none : send.number ≡ None
  pub outside : send.in_transaction ≡ false
  pub cursor : IsOfCursor send.body

-- a send of writes with a number or without one, or one of a command of a cursor
abbrev pub IsEither : Send → Type 0
IsEither send = IsPlain send ⊎ (IsUnnumbered send ⊎ IsAside send)

-- a send is under this session and number
pub record IsUnder (id : List ℕ) (number : ℤ) (send : Send) : Type 0 where
  pub session : send.session ≡ Some id
  pub numbered : send.number ≡ Some number

-- two sends have a write of the same place
pub record SharePlace (a b : Send) : Type 0 where
  pub first : ℕ
  pub second : ℕ
  pub one : PlacedWrite
  pub other : PlacedWrite
  pub stands : slice_get (writes_of a) first ≡ Some one
  pub also : slice_get (writes_of b) second ≡ Some other
  pub same : one.place ≡ other.place

-- no place stands twice among writes
abbrev pub PlacesApart : List PlacedWrite → Type 0
PlacesApart writes =
    (i j : ℕ) (one other : PlacedWrite) → slice_get writes i ≡ Some one → slice_get writes j ≡ Some other → one.place ≡ other.place → i ≡ j

-- two sends are under one session and one number
pub record IsOneNumber (a b : Send) : Type 0 where
  pub plain : IsPlain a
  pub session : a.session ≡ b.session
  pub number : a.number ≡ b.number

-- two positions of one write, in the sends at two positions of a trace: the same position, under one number
-- or in one send
pub record IsSamePlace (p q : ℕ) (a b : Send) (i j : ℕ) : Type 0 where
  pub position : i ≡ j
  pub sends : IsOneNumber a b ⊎ (p ≡ q)

-- the sends of a trace: each carries writes or is of a cursor, one number has one list of writes, and a place stands
-- at one position, under one number or in one send
pub record IsOrderly (trace : List Send) : Type 0 where
  pub either : (send : Send) → Has trace send → IsEither send
  pub one_list : (a b : Send) → IsPlain a → Has trace a → Has trace b → a.session ≡ b.session → a.number ≡ b.number → writes_of a ≡ writes_of b
  pub one_place : (p q : ℕ) (a b : Send) (i j : ℕ) (v w : PlacedWrite) → slice_get trace p ≡ Some a → slice_get trace q ≡ Some b
      → slice_get (writes_of a) i ≡ Some v → slice_get (writes_of b) j ≡ Some w → v.place ≡ w.place → IsSamePlace p q a b i j

-- a statement of a number has run: the session has gone on, or its result is kept
abbrev pub HasRun : ℤ → ℕ → KnownSession → Type 0
HasRun number at known = (number <ℤ known.greatest) ⊎ ((number ≡ known.greatest) × IsSome (finite.get known.kept at))

-- where an entry under a number comes from: a write of a send of the trace, which has run
pub record HasOrigin (trace : List Send) (server : Server) (entry : Entry) : Type 0 where
  pub send : Send
  pub at : ℕ
  pub write : PlacedWrite
  pub result : Counted
  pub id : List ℕ
  pub number : ℤ
  pub known : KnownSession
  pub sent : Has trace send
  pub under : IsUnder id number send
  pub stands : slice_get (writes_of send) at ≡ Some write
  pub is : entry ≡ entry_of (Some id) (Some number) write result
  pub is_known : finite.get server.sessions id ≡ Some known
  pub has_run : HasRun number at known

-- where an entry without a number comes from: a write of a send of the trace
pub record HasFreeOrigin (trace : List Send) (entry : Entry) : Type 0 where
  pub send : Send
  pub at : ℕ
  pub write : PlacedWrite
  pub result : Counted
  pub sent : Has trace send
  pub none : send.number ≡ None
  pub stands : slice_get (writes_of send) at ≡ Some write
  pub is : entry ≡ entry_of send.session None write result

-- an entry is that of a write of a send of the trace
pub record IsFrom (trace : List Send) (entry : Entry) : Type 0 where
  pub send : Send
  pub at : ℕ
  pub write : PlacedWrite
  pub result : Counted
  pub sent : Has trace send
  pub stands : slice_get (writes_of send) at ≡ Some write
  pub is : entry ≡ entry_of send.session send.number write result

-- no write of a send is in the log
abbrev pub IsUnserved : Send → List Entry → Type 0
IsUnserved send log = (entry : Entry) (at : ℕ) (write : PlacedWrite) → Has log entry → slice_get (writes_of send) at ≡ Some write → entry.place ≢ write.place

-- what is known of a session: a send under its greatest number is in the trace, and each kept result has its
-- entry in the log
pub record IsSettledSession (trace : List Send) (log : List Entry) (id : List ℕ) (known : KnownSession) : Type 0 where
  pub newest : Send
  pub sent : Has trace newest
  pub under : IsUnder id known.greatest newest
  pub none : known.transaction ≡ transaction.None
  pub kept : (at : ℕ) (write : PlacedWrite) (result : Counted) → slice_get (writes_of newest) at ≡ Some write
      → finite.get known.kept at ≡ Some result → Has log (entry_of (Some id) (Some known.greatest) write result)

-- the invariant: waiting sends were sent, sessions and entries come from the trace, no write stands twice, and
-- a send without a number that waits was not served and waits alone
pub record IsSettled (trace : List Send) (server : Server) : Type 0 where
  pub waiting : (at : ℕ) (send : Send) → slice_get server.waiting at ≡ Some (Some send) → Has trace send
  pub sessions : (id : List ℕ) (known : KnownSession) → finite.get server.sessions id ≡ Some known → IsSettledSession trace server.log id known
  pub origin : (entry : Entry) → Has server.log entry → HasOrigin trace server entry ⊎ HasFreeOrigin trace entry
  pub once : Once server.log
  pub unserved : (at : ℕ) (send : Send) → slice_get server.waiting at ≡ Some (Some send) → IsUnnumbered send → IsUnserved send server.log
  pub alone : (at other : ℕ) (a b : Send) → slice_get server.waiting at ≡ Some (Some a) → slice_get server.waiting other ≡ Some (Some b)
      → IsUnnumbered a → SharePlace a b → at ≡ other

-- a send may join the trace: it stays orderly
abbrev pub MayJoin : List Send → Send → Type 0
MayJoin trace send = IsOrderly (trace ++ send ∷ [])
