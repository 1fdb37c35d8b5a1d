-- What a store of sessions tells, and what each of its calls makes of it.
use Rattle.std.specs.Prelude.{◌≡◌, ℕ, Bool, true, false, List, [], ◌++◌, Option, None, Some, ◌⊎◌}
use Rattle.driver_link.specs.Ids.{IdsToCome, after_draw, after_draws, session_ids}
use Rattle.driver_link.specs.declared.ids.IdKind.{IdKind}
use Rattle.driver_link.specs.declared.ids.IdKind.TheVariants as id
use Rattle.driver_link.specs.Apart.{AllApart}
use Rattle.driver_session.specs.Pool.{Pool, draws, empty_pool, lent_out, session_out, taken_back, times_lent}
use Rattle.driver_session.specs.Session.{Session}

-- what a store tells: its pool and the ids to come, where it tells them, and the number of its caller in its events
pub record StoreTells : Type 0 where
  pub pool : Option Pool
  pub to_come : Option IdsToCome
  pub caller : ℕ

-- a told pool lends its front session, else a new one
abbrev pub LendsFrom : Option Pool → Option Pool → ℕ → ℕ → Session → Type 0
LendsFrom None now caller at session = now ≡ None
LendsFrom (Some pool) now caller at session = (session ≡ session_out pool.idle session.id at) × (now ≡ Some (lent_out caller session.id at pool))

-- an id of a kind was drawn: the next to come, where those are told
abbrev pub DrawsId : IdKind → Option IdsToCome → Option IdsToCome → List ℕ → Type 0
DrawsId kind None now drawn = now ≡ None
DrawsId kind (Some to_come) now drawn = (drawn ≡ to_come [] kind) × (now ≡ Some (after_draw kind to_come))

-- the id of a session was drawn, or none was
abbrev pub DrawsWhere : Bool → Option IdsToCome → Option IdsToCome → List ℕ → Type 0
DrawsWhere true to_come now drawn = DrawsId id.Session to_come now drawn
DrawsWhere false to_come now drawn = now ≡ to_come

-- a lending draws an id exactly where no session is idle
abbrev pub LendsId : Option Pool → Option IdsToCome → Option IdsToCome → List ℕ → Type 0
LendsId None to_come now drawn = (now ≡ to_come) ⊎ DrawsId id.Session to_come now drawn
LendsId (Some pool) to_come now drawn = DrawsWhere (draws pool.idle) to_come now drawn

-- a check-out at a time
pub record LendsSession (old now : StoreTells) (at : ℕ) (session : Session) : Type 0 where
  pub pool : LendsFrom old.pool now.pool old.caller at session
  pub ids : LendsId old.pool old.to_come now.to_come session.id
  pub caller : now.caller ≡ old.caller

-- a told pool takes a session back
abbrev pub TakesInto : Option Pool → Option Pool → ℕ → Session → ℕ → Type 0
TakesInto None now caller session at = now ≡ None
TakesInto (Some pool) now caller session at = now ≡ Some (taken_back caller session at pool)

-- a check-in at a time
pub record TakesSession (old now : StoreTells) (session : Session) (at : ℕ) : Type 0 where
  pub pool : TakesInto old.pool now.pool old.caller session at
  pub ids : now.to_come ≡ old.to_come
  pub caller : now.caller ≡ old.caller

-- an object id was drawn, and nothing else changed
pub record DrawsObjectId (old now : StoreTells) (drawn : List ℕ) : Type 0 where
  pub pool : now.pool ≡ old.pool
  pub ids : DrawsId id.Object old.to_come now.to_come drawn
  pub caller : now.caller ≡ old.caller

-- an object id was drawn, or nothing changed
abbrev pub MayDrawObjectId : StoreTells → StoreTells → Type 0
MayDrawObjectId old now = (now ≡ old) ⊎ ((drawn : List ℕ) × DrawsObjectId old now drawn)

-- each id is lent by a told pool as often as before
abbrev pub LendsPoolAsBefore : Option Pool → Option Pool → Type 0
LendsPoolAsBefore None now = now ≡ None
LendsPoolAsBefore (Some old) None = ⊥
LendsPoolAsBefore (Some old) (Some now) = (session : List ℕ) → times_lent session now.lent ≡ times_lent session old.lent

-- each id is lent as often as before, where the pool is told
abbrev pub LendsAsBefore : StoreTells → StoreTells → Type 0
LendsAsBefore old now = LendsPoolAsBefore old.pool now.pool

-- the drawn ids of a told pool gained these
abbrev pub GainsDrawn : Option Pool → Option Pool → List (List ℕ) → Type 0
GainsDrawn None now more = now ≡ None
GainsDrawn (Some old) None more = ⊥
GainsDrawn (Some old) (Some now) more = now.drawn ≡ old.drawn ++ more

-- these draws were made of the ids to come, and gave these session ids
abbrev pub DrawsKinds : Option IdsToCome → Option IdsToCome → List IdKind → List (List ℕ) → Type 0
DrawsKinds None now kinds more = now ≡ None
DrawsKinds (Some to_come) now kinds more = (now ≡ Some (after_draws kinds to_come)) × (more ≡ session_ids kinds to_come)

-- the ids that were drawn are the next of those that were to come, in order
pub record Draws (old now : StoreTells) : Type 0 where
  pub kinds : List IdKind
  pub more : List (List ℕ)
  pub ids : DrawsKinds old.to_come now.to_come kinds more
  pub drawn : GainsDrawn old.pool now.pool more
  pub caller : now.caller ≡ old.caller

-- the store tells that it has not been used
abbrev pub IsNewStore : StoreTells → Type 0
IsNewStore store = store.pool ≡ Some empty_pool

-- the session ids that a store drew are distinct
abbrev pub DrawnApartIn : Option Pool → Type 0
DrawnApartIn None = Unit {0}
DrawnApartIn (Some pool) = AllApart pool.drawn

-- the session ids that a store drew are distinct, where its pool is told
abbrev pub DrawnApart : StoreTells → Type 0
DrawnApart store = DrawnApartIn store.pool
