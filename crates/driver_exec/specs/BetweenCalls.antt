-- What holds between the operations of one client outside transactions: what the sends so far say of the pool of sessions,
-- the invariant of the trace, and which places may be sent next.
use Rattle.std.specs.Prelude.{◌≡◌, ℕ, ℤ, ◌≤ℤ◌, List, [], ◌∷◌, map, Some, slice_get}
use Rattle.driver_link.specs.declared.machine.PlacedWrite.{PlacedWrite}
use Rattle.driver_link.specs.declared.machine.Send.{Send}
use Rattle.driver_link.specs.declared.machine.SendBody.{SendBody}
use Rattle.driver_link.specs.declared.machine.Server.{Server}
use Rattle.driver_link.specs.Cases.{body_writes, writes_of}
use Rattle.driver_link.specs.Settled.{Has, IsOrderly, IsSettled, IsUnder, IsWrite, PlacesApart}
use Rattle.driver_link.specs.Apart.{NotAmong}
use Rattle.driver_session.specs.declared.pool.IdleSession.{IdleSession}
use Rattle.driver_session.specs.Pool.{Pool, Among}

-- each send of a session has a number at most this one
abbrev pub SentUpTo : List ℕ → ℤ → List Send → Type 0
SentUpTo id number trace = (send : Send) (n : ℤ) → Has trace send → IsUnder id n send → n ≤ℤ number

-- no send is of this session
abbrev pub NoneOf : List ℕ → List Send → Type 0
NoneOf id trace = (send : Send) (n : ℤ) → Has trace send → IsUnder id n send → ⊥

-- the ids of idle sessions
abbrev pub ids_of : List IdleSession → List (List ℕ)
ids_of idle = map (λ session. session.id) idle

-- idle sessions have drawn ids, apart from one another, and numbers that are at least those that were sent
abbrev pub FitsIdle : List (List ℕ) → List Send → List IdleSession → Type 0
FitsIdle drawn trace [] = Unit {0}
FitsIdle drawn trace (first ∷ idle) =
    Among first.id drawn × SentUpTo first.id first.number trace × NotAmong first.id (ids_of idle) × FitsIdle drawn trace idle

-- what a trace says of sessions: no send is of an id that was not drawn, and the idle ones fit
pub record Knows (drawn : List (List ℕ)) (idle : List IdleSession) (trace : List Send) : Type 0 where
  pub strangers : (id : List ℕ) → NotAmong id drawn → NoneOf id trace
  pub fits : FitsIdle drawn trace idle

-- between calls nothing is lent
pub record Between (pool : Pool) (trace : List Send) : Type 0 where
  pub lent : pool.lent ≡ []
  pub knows : Knows pool.drawn pool.idle trace

-- the sends so far are orderly, and the server is settled
pub record Sound (server : Server) : Type 0 where
  pub orderly : IsOrderly server.trace
  pub settled : IsSettled server.trace server

-- none of the places of writes stands in a trace
abbrev pub PlacesNew : List Send → List PlacedWrite → Type 0
PlacesNew trace writes =
    (earlier : Send) (i j : ℕ) (one other : PlacedWrite) → Has trace earlier
    → slice_get (writes_of earlier) i ≡ Some one → slice_get writes j ≡ Some other → one.place ≡ other.place → ⊥

-- what carries writes may be sent: their places are apart, and stand in no earlier send
pub record MaySendPlaces (trace : List Send) (body : SendBody) : Type 0 where
  pub writes : IsWrite body
  pub apart : PlacesApart (body_writes body)
  pub new : PlacesNew trace (body_writes body)

-- each idle session's number is at most this one
abbrev pub NumbersWithin : ℤ → List IdleSession → Type 0
NumbersWithin most [] = Unit {0}
NumbersWithin most (first ∷ idle) = (first.number ≤ℤ most) × NumbersWithin most idle
