-- Stores that tell their pool: what a lending and a taking back make of it.
use Rattle.std.proofs.Common.{◌≡◌, ℕ, List, [], ◌∷◌, refl, sym, ap, subst, ◌∙◌}
use Rattle.std.specs.Prelude.{Some, Result, Ok, Err, IfOk, OnOk}
use Rattle.driver_error.specs.declared.error.Error.{Error}
use Rattle.driver_link.specs.Ids.{IdsToCome}
use Rattle.driver_link.specs.declared.ids.IdKind.TheVariants as id
use Rattle.driver_session.specs.declared.pool.IdleSession.{IdleSession}
use Rattle.driver_session.specs.declared.pool.StoreEvent.{StoreEvent}
use Rattle.driver_session.specs.Pool.{Pool, draws, ids_after, lent_out, session_out, taken_back}
use Rattle.driver_session.specs.Session.{Session}
use Rattle.driver_session.specs.StoreTells.{DrawsWhere, LendsFrom, LendsSession, StoreTells, TakesInto, TakesSession}

-- a pool lends its front session, else a new one
pub record LendsPool (old now : Pool) (caller at : ℕ) (session : Session) : Type 0 where
  pub session_is : session ≡ session_out old.idle session.id at
  pub pool_is : now ≡ lent_out caller session.id at old

-- a store that tells its pool lends from it
pub lends_told : (old now : StoreTells) (pool : Pool) (at : ℕ) (session : Session) → old.pool ≡ Some pool → LendsSession old now at session
    → (mid : Pool) × ((now.pool ≡ Some mid) × LendsPool pool mid old.caller at session)
lends_told old now pool at session is lends =
    let from = subst (λ told. LendsFrom told now.pool old.caller at session) is lends.pool in
    (lent_out old.caller session.id at pool, (from.1, record { session_is = from.0; pool_is = refl }))

-- and takes back into it
pub takes_told : (old now : StoreTells) (pool : Pool) (session : Session) (at : ℕ) → old.pool ≡ Some pool → TakesSession old now session at
    → now.pool ≡ Some (taken_back old.caller session at pool)
takes_told old now pool session at is takes = subst (λ told. TakesInto told now.pool old.caller session at) is takes.pool

-- what is told is one
pub same_told : {A : Type 0} (a b : A) → Some a ≡ Some b → a ≡ b
same_told a b same = cc

-- the id of the session that is lent is the next one, or it does not matter which is next
session_by : (idle : List IdleSession) (next : List ℕ) (at : ℕ) → session_out idle next at ≡ session_out idle (session_out idle next at).id at
session_by [] next at = refl
session_by (front ∷ idle) next at = refl

-- so the pool lends under the id of that session
lent_by : (caller : ℕ) (next : List ℕ) (at : ℕ) (idle : List IdleSession) (lent drawn : List (List ℕ)) (history : List StoreEvent)
    → lent_out caller next at (record { idle = idle; lent = lent; drawn = drawn; history = history })
    ≡ lent_out caller (session_out idle next at).id at (record { idle = idle; lent = lent; drawn = drawn; history = history })
unfolding lent_out
lent_by caller next at [] lent drawn history = refl
lent_by caller next at (front ∷ idle) lent drawn history = refl

-- and draws its id where it is new
ids_by : (idle : List IdleSession) (to_come : IdsToCome) (at : ℕ)
    → DrawsWhere (draws idle) (Some to_come) (Some (ids_after (draws idle) to_come)) (session_out idle (to_come [] id.Session) at).id
ids_by [] to_come at = (refl, refl)
ids_by (front ∷ idle) to_come at = refl

-- a pool and the ids to come, both told, lent this session
pool_lends : (old now : Pool) (to_come to_come_now : IdsToCome) (caller at : ℕ) (session : Session) → session ≡ session_out old.idle (to_come [] id.Session) at
    → now ≡ lent_out caller (to_come [] id.Session) at old → to_come_now ≡ ids_after (draws old.idle) to_come
    → LendsSession (record { pool = Some old; to_come = Some to_come; caller = caller }) (record { pool = Some now; to_come = Some to_come_now; caller = caller }) at session
pool_lends old now to_come to_come_now caller at session session_is pool_is ids_is =
    let lent = session_out old.idle (to_come [] id.Session) at in
    let lent_is = lent_by caller (to_come [] id.Session) at old.idle old.lent old.drawn old.history in
    subst (λ s. LendsSession (record { pool = Some old; to_come = Some to_come; caller = caller }) (record { pool = Some now; to_come = Some to_come_now; caller = caller }) at s)
    (sym session_is)
    (record {
      pool = (session_by old.idle (to_come [] id.Session) at, ap (λ pool. Some pool) (pool_is ∙ lent_is));
      ids = subst (λ rest. DrawsWhere (draws old.idle) (Some to_come) (Some rest) lent.id) (sym ids_is) (ids_by old.idle to_come at);
      caller = refl;
    })

-- the same of a check-out that may have failed
pub check_out_lends : (old now : Pool) (to_come to_come_now : IdsToCome) (caller at : ℕ) (result : Result Session Error)
    → IfOk result (λ session. session ≡ session_out old.idle (to_come [] id.Session) at) → OnOk result (now ≡ lent_out caller (to_come [] id.Session) at old)
    → OnOk result (to_come_now ≡ ids_after (draws old.idle) to_come)
    → IfOk result (λ session. LendsSession (record { pool = Some old; to_come = Some to_come; caller = caller }) (record { pool = Some now; to_come = Some to_come_now; caller = caller }) at session)
check_out_lends old now to_come to_come_now caller at (Ok session) session_is pool_is ids_is =
    pool_lends old now to_come to_come_now caller at session session_is pool_is ids_is
check_out_lends old now to_come to_come_now caller at (Err error) session_is pool_is ids_is = tt

-- a pool lends a session and takes it back
pub record TurnsPool (old now : Pool) (out_at back_at : ℕ) (session back : Session) : Type 0 where
  pub mid : Pool
  pub out_by : ℕ
  pub back_by : ℕ
  pub lends : LendsPool old mid out_by out_at session
  pub takes : now ≡ taken_back back_by back back_at mid

-- a store that tells its pool before and after does so
pub turns_told : (old lent now : StoreTells) (pool pool_now : Pool) (out_at back_at : ℕ) (session back : Session) → old.pool ≡ Some pool → now.pool ≡ Some pool_now
    → LendsSession old lent out_at session → TakesSession lent now back back_at → TurnsPool pool pool_now out_at back_at session back
turns_told old lent now pool pool_now out_at back_at session back is now_is lends takes =
    let out = lends_told old lent pool out_at session is lends in
    let told = takes_told lent now out.0 back back_at out.1.0 takes in
    record {
      mid = out.0;
      out_by = old.caller;
      back_by = lent.caller;
      lends = out.1.1;
      takes = same_told pool_now (taken_back lent.caller back back_at out.0) (sym now_is ∙ told);
    }
