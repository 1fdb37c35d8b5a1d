-- The ids that a store draws are the next of those that were to come, in order.
use Rattle.std.proofs.Common.{◌≡◌, ℕ, Bool, true, false, List, [], ◌∷◌, ◌++◌, refl, sym, ap, subst, ◌∙◌, append_assoc, inl, inr}
use Rattle.std.specs.Prelude.{Option, None, Some, if◌then◌else◌}
use Rattle.std.proofs.lemmas.List.{append-nil}
use Rattle.driver_link.specs.declared.ids.IdKind.{IdKind}
use Rattle.driver_link.specs.declared.ids.IdKind.TheVariants as id
use Rattle.driver_link.specs.Ids.{IdsToCome, after_draw, after_draws, session_ids}
use Rattle.driver_link.specs.Apart.{AllApart}
use Rattle.driver_session.specs.Pool.{Pool, lent_out, taken_back, draws, is_lent}
use Rattle.driver_session.specs.StoreTells.{StoreTells, LendsFrom, LendsId, LendsSession, TakesInto, TakesSession, DrawsId, DrawsKinds, DrawsObjectId, DrawsWhere, Draws, DrawnApart, DrawnApartIn, GainsDrawn}
use Rattle.driver_session.specs.Session.{Session}
use Rattle.driver_session.proofs.Ids.{apart_left}

-- draws after draws
draws_onward : (kinds more : List IdKind) (to_come : IdsToCome) → after_draws more (after_draws kinds to_come) ≡ after_draws (kinds ++ more) to_come
draws_onward [] more to_come = refl
draws_onward (drawn ∷ kinds) more to_come = draws_onward kinds more (after_draw drawn to_come)

-- and the session ids that they give
ids_onward : (kinds more : List IdKind) (to_come : IdsToCome)
    → session_ids (kinds ++ more) to_come ≡ session_ids kinds to_come ++ session_ids more (after_draws kinds to_come)
ids_onward [] more to_come = refl
ids_onward (id.Session ∷ kinds) more to_come = ap (λ ids. to_come [] id.Session ∷ ids) (ids_onward kinds more (after_draw id.Session to_come))
ids_onward (id.Object ∷ kinds) more to_come = ids_onward kinds more (after_draw id.Object to_come)

-- the ids to come after draws and draws again
kinds_twice : (a b c : Option IdsToCome) (kinds later : List IdKind) (ids more : List (List ℕ)) → DrawsKinds a b kinds ids → DrawsKinds b c later more
    → DrawsKinds a c (kinds ++ later) (ids ++ more)
kinds_twice None b c kinds later ids more first second = subst (λ to_come. DrawsKinds to_come c later more) first second
kinds_twice (Some to_come) b c kinds later ids more first second =
    let next = subst (λ mid. DrawsKinds mid c later more) first.0 second in (
      next.0 ∙ ap (λ rest. Some rest) (draws_onward kinds later to_come),
      ap (λ all. all ++ more) first.1 ∙ ap (λ all. session_ids kinds to_come ++ all) next.1 ∙ sym (ids_onward kinds later to_come),
    )

-- the drawn ids of a pool that gained twice
gains_twice : (a b c : Option Pool) (ids more : List (List ℕ)) → GainsDrawn a b ids → GainsDrawn b c more → GainsDrawn a c (ids ++ more)
gains_twice None b c ids more first second = subst (λ pool. GainsDrawn pool c more) first second
gains_twice (Some old) None c ids more first second = absurd first
gains_twice (Some old) (Some mid) None ids more first second = absurd second
gains_twice (Some old) (Some mid) (Some now) ids more first second = second ∙ ap (λ all. all ++ more) first ∙ append_assoc old.drawn ids more

-- what draws and draws again draws both
pub draws_twice : (a b c : StoreTells) → Draws a b → Draws b c → Draws a c
draws_twice a b c first second = record {
  kinds = first.kinds ++ second.kinds;
  more = first.more ++ second.more;
  ids = kinds_twice a.to_come b.to_come c.to_come first.kinds second.kinds first.more second.more first.ids second.ids;
  drawn = gains_twice a.pool b.pool c.pool first.more second.more first.drawn second.drawn;
  caller = second.caller ∙ first.caller;
}

-- no id was drawn
no_kinds : (to_come now : Option IdsToCome) → now ≡ to_come → DrawsKinds to_come now [] []
no_kinds None now same = same
no_kinds (Some to_come) now same = (same, refl)

-- a pool that drew no id gained none
no_gain : (old now : Pool) → now.drawn ≡ old.drawn → now.drawn ≡ old.drawn ++ []
no_gain old now same = same ∙ sym (append-nil old.drawn)

-- a pool as it was gained nothing
same_gains : (pool : Option Pool) → GainsDrawn pool pool []
same_gains None = refl
same_gains (Some told) = no_gain told told refl

-- a store as it was drew nothing
pub draws_refl : (store : StoreTells) → Draws store store
draws_refl store = record { kinds = []; more = []; ids = no_kinds store.to_come store.to_come refl; drawn = same_gains store.pool; caller = refl }

-- a store that stays drew nothing
pub draws_staying : (old now : StoreTells) → now ≡ old → Draws old now
draws_staying old now stays = subst (λ store. Draws old store) (sym stays) (draws_refl old)

-- the kinds that a lending draws, where a session id was drawn or not
kinds_where : Bool → List IdKind
kinds_where true = id.Session ∷ []
kinds_where false = []

-- one session id was drawn
one_kind : (to_come now : Option IdsToCome) (drawn : List ℕ) → DrawsId id.Session to_come now drawn → DrawsKinds to_come now (id.Session ∷ []) (drawn ∷ [])
one_kind None now drawn draws = draws
one_kind (Some to_come) now drawn draws = (draws.1, ap (λ given. given ∷ []) draws.0)

-- a session id was drawn, or none was
drawn_where : (drew : Bool) (to_come now : Option IdsToCome) (drawn : List ℕ) → DrawsWhere drew to_come now drawn
    → DrawsKinds to_come now (kinds_where drew) (if drew then drawn ∷ [] else [])
unfolding kinds_where
drawn_where true to_come now drawn draws = one_kind to_come now drawn draws
drawn_where false to_come now drawn draws = no_kinds to_come now draws

-- the drawn ids after a check-out
drawn_out : (caller : ℕ) (next : List ℕ) (at : ℕ) (pool : Pool) → (lent_out caller next at pool).drawn ≡ pool.drawn ++ (if draws pool.idle then next ∷ [] else [])
unfolding lent_out
drawn_out caller next at pool = refl

-- what a lending draws of the ids to come, and what the pool gains
record Lent (to_come to_come_now : Option IdsToCome) (pool now : Option Pool) : Type 0 where
  kinds : List IdKind
  more : List (List ℕ)
  ids : DrawsKinds to_come to_come_now kinds more
  drawn : GainsDrawn pool now more

-- what a lending draws, by whether the pool is told
lent_draws : (to_come to_come_now : Option IdsToCome) (pool now : Option Pool) (caller at : ℕ) (session : Session) → LendsFrom pool now caller at session
    → LendsId pool to_come to_come_now session.id → Lent to_come to_come_now pool now
lent_draws to_come to_come_now None now caller at session lends ids = elim ids [
  | inl same ↦ record { kinds = []; more = []; ids = no_kinds to_come to_come_now same; drawn = lends }
  | inr drew ↦ record { kinds = id.Session ∷ []; more = session.id ∷ []; ids = one_kind to_come to_come_now session.id drew; drawn = lends }
]
lent_draws to_come to_come_now (Some pool) now caller at session lends ids = record {
  kinds = kinds_where (draws pool.idle);
  more = if draws pool.idle then session.id ∷ [] else [];
  ids = drawn_where (draws pool.idle) to_come to_come_now session.id ids;
  drawn = subst (λ told. GainsDrawn (Some pool) told (if draws pool.idle then session.id ∷ [] else [])) (sym lends.1) (drawn_out caller session.id at pool);
}

-- a store that lends draws a session id or none
pub draws_lending : (old now : StoreTells) (at : ℕ) (session : Session) → LendsSession old now at session → Draws old now
draws_lending old now at session lends =
    let lent = lent_draws old.to_come now.to_come old.pool now.pool old.caller at session lends.pool lends.ids in
    record { kinds = lent.kinds; more = lent.more; ids = lent.ids; drawn = lent.drawn; caller = lends.caller }

-- a session that comes back leaves the ids that were drawn
pub drawn_back : (caller : ℕ) (session : Session) (at : ℕ) (pool : Pool) → (taken_back caller session at pool).drawn ≡ pool.drawn
unfolding taken_back
drawn_back caller session at pool = if_drawn (is_lent session.id pool.lent) _ pool refl
  where
    if_drawn : (b : Bool) (taken kept : Pool) → taken.drawn ≡ kept.drawn → (if b then taken else kept).drawn ≡ kept.drawn
    if_drawn true taken kept same = same
    if_drawn false taken kept same = refl

-- a pool that takes back gains nothing
back_gains : (old now : Option Pool) (caller : ℕ) (session : Session) (at : ℕ) → TakesInto old now caller session at → GainsDrawn old now []
back_gains None now caller session at takes = takes
back_gains (Some old) now caller session at takes =
    subst (λ told. GainsDrawn (Some old) told []) (sym takes) (no_gain old (taken_back caller session at old) (drawn_back caller session at old))

-- a store that takes back draws nothing
pub draws_taking : (old now : StoreTells) (session : Session) (at : ℕ) → TakesSession old now session at → Draws old now
draws_taking old now session at takes = record {
  kinds = [];
  more = [];
  ids = no_kinds old.to_come now.to_come takes.ids;
  drawn = back_gains old.pool now.pool old.caller session at takes.pool;
  caller = takes.caller;
}

-- one object id was drawn
object_kind : (to_come now : Option IdsToCome) (drawn : List ℕ) → DrawsId id.Object to_come now drawn → DrawsKinds to_come now (id.Object ∷ []) []
object_kind None now drawn draws = draws
object_kind (Some to_come) now drawn draws = (draws.1, refl)

-- an object id that is drawn is no session id
pub draws_object : (old now : StoreTells) (drawn : List ℕ) → DrawsObjectId old now drawn → Draws old now
draws_object old now drawn draws = record {
  kinds = id.Object ∷ [];
  more = [];
  ids = object_kind old.to_come now.to_come drawn draws.ids;
  drawn = subst (λ pool. GainsDrawn old.pool pool []) (sym draws.pool) (same_gains old.pool);
  caller = draws.caller;
}

-- ids of a pool that are apart now were so before
apart_in : (old now : Option Pool) (more : List (List ℕ)) → GainsDrawn old now more → DrawnApartIn now → DrawnApartIn old
apart_in None now more gains apart = tt
apart_in (Some old) None more gains apart = absurd gains
apart_in (Some old) (Some now) more gains apart = apart_left old.drawn more (subst AllApart gains apart)

-- ids of a store that are apart now were so before
pub apart_before : (old now : StoreTells) → Draws old now → DrawnApart now → DrawnApart old
apart_before old now draws apart = apart_in old.pool now.pool draws.more draws.drawn apart
