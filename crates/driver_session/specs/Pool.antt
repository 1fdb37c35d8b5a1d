-- The pool of sessions by MongoDB's sessions specification: the front session is lent, a session that
-- comes back goes to the front, and one under which the network failed is dropped.
use Rattle.std.specs.Prelude.{◌≡◌, ◌⊎◌, ℕ, ◌+◌, pos, Bool, true, false, List, [], ◌∷◌, ◌++◌, if◌then◌else◌}
use Rattle.std.specs.List.{list_any}
use Rattle.std.specs.Str.{bytes_eq}
use Rattle.driver_link.specs.Ids.{IdsToCome, after_draw}
use Rattle.driver_link.specs.declared.ids.IdKind.TheVariants.{Session as SessionId}
use Rattle.driver_session.specs.declared.pool.IdleSession.{IdleSession}
use Rattle.driver_session.specs.declared.pool.StoreEvent.{StoreEvent}
use Rattle.driver_session.specs.declared.pool.StoreEvent.TheVariants.{Lent, Back}
use Rattle.driver_session.specs.Session.{Session}

-- idle sessions with the front first, the ids that are lent, all ids that were drawn, and the events
pub record Pool : Type 0 where
  pub idle : List IdleSession
  pub lent : List (List ℕ)
  pub drawn : List (List ℕ)
  pub history : List StoreEvent

-- a source of ids with the pool of the sessions that it gave ids to
pub record StorePool (I : Type 0) : Type 0 where
  pub ids : I
  pub pool : Pool

-- the pool of a store that has not been used
abbrev pub empty_pool : Pool
empty_pool = record { idle = []; lent = []; drawn = []; history = [] }

-- the session that a check-out lends: the front one, else a new one
abbrev pub session_out : List IdleSession → List ℕ → ℕ → Session
session_out [] next now = record { id = next; number = pos 0; last_use = now; dirty = false }
session_out (front ∷ idle) next now = record { id = front.id; number = front.number; last_use = front.last_use; dirty = false }

-- the idle sessions that a check-out leaves
abbrev pub idle_out : List IdleSession → List IdleSession
idle_out [] = []
idle_out (front ∷ idle) = idle

-- a check-out draws a new id where no session is idle
abbrev pub draws : List IdleSession → Bool
draws [] = true
draws (front ∷ idle) = false

-- the ids to come once a session id was drawn, or none
abbrev pub ids_after : Bool → IdsToCome → IdsToCome
ids_after true to_come = after_draw SessionId to_come
ids_after false to_come = to_come

-- the pool after a check-out
unfoldable pub lent_out : ℕ → List ℕ → ℕ → Pool → Pool
lent_out caller next now pool =
    let id = (session_out pool.idle next now).id in
    record {
      idle = idle_out pool.idle;
      lent = pool.lent ++ id ∷ [];
      drawn = pool.drawn ++ (if draws pool.idle then next ∷ [] else []);
      history = pool.history ++ Lent caller id (draws pool.idle) now ∷ [];
    }

-- the idle sessions once one has come back
abbrev pub idle_back : Session → List IdleSession → List IdleSession
idle_back session idle =
    if session.dirty then idle else record { id = session.id; number = session.number; last_use = session.last_use } ∷ idle

-- an id is lent
abbrev pub is_lent : List ℕ → List (List ℕ) → Bool
is_lent id lent = list_any (λ other. bytes_eq other id) lent

-- the ids without the first that is this one
abbrev pub without_first : List ℕ → List (List ℕ) → List (List ℕ)
without_first id [] = []
without_first id (other ∷ lent) = if bytes_eq other id then lent else other ∷ without_first id lent

-- the pool after a check-in: a session that is not lent changes nothing
unfoldable pub taken_back : ℕ → Session → ℕ → Pool → Pool
taken_back caller session now pool =
    if is_lent session.id pool.lent then record {
      idle = idle_back session pool.idle;
      lent = without_first session.id pool.lent;
      drawn = pool.drawn;
      history = pool.history ++ Back caller session.id session.number session.last_use session.dirty now ∷ [];
    } else pool

-- how often an id is lent
abbrev pub times_lent : List ℕ → List (List ℕ) → ℕ
times_lent id [] = 0
times_lent id (other ∷ lent) = (if bytes_eq other id then 1 else 0) + times_lent id lent

-- an id is one of these
abbrev pub Among : List ℕ → List (List ℕ) → Type 0
Among id [] = ⊥
Among id (other ∷ ids) = (id ≡ other) ⊎ Among id ids
