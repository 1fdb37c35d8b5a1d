-- Numbers of sessions rise by at most one a call.
use Rattle.std.proofs.Common.{◌≡◌, ℕ, ◌+◌, true, false, cond, List, [], ◌∷◌, ◌++◌, refl, sym, ap, subst, ◌∙◌, arith}
use Rattle.std.specs.Prelude.{ℤ, pos, ◌+ℤ◌, ◌≤ℤ◌, Option, None, Some, if◌then◌else◌}
use Rattle.std.proofs.lemmas.Int.{ints}
use Rattle.driver_session.specs.declared.pool.IdleSession.{IdleSession}
use Rattle.driver_session.specs.declared.pool.StoreEvent.TheVariants.{Back}
use Rattle.driver_session.specs.Pool.{Pool, lent_out, taken_back, session_out, idle_out, idle_back, is_lent, without_first}
use Rattle.driver_session.specs.StoreTells.{StoreTells, LendsSession}
use Rattle.driver_session.specs.Session.{Session}
use Rattle.driver_session.proofs.PoolTells.{LendsPool, TurnsPool, lends_told, same_told, turns_told}
use Rattle.driver_exec.specs.BetweenCalls.{NumbersWithin}
use Rattle.driver_exec.specs.Resending.{Borrowed, Borrows, IsNumbered}

within_more : (made : ℕ) (idle : List IdleSession) → NumbersWithin (pos made) idle → NumbersWithin (pos (made + 1)) idle
within_more made [] within = tt
within_more made (first ∷ idle) within = (above first.number made within.0, within_more made idle within.1)
  where
    above : (number : ℤ) (made : ℕ) → number ≤ℤ pos made → number ≤ℤ pos (made + 1)
    above number made within = omega (arith, ints)

within_out : (made : ℕ) (idle : List IdleSession) → NumbersWithin (pos made) idle → NumbersWithin (pos made) (idle_out idle)
within_out made [] within = tt
within_out made (first ∷ idle) within = within.1

number_out : (made : ℕ) (idle : List IdleSession) (next : List ℕ) (moment : ℕ) → NumbersWithin (pos made) idle → (session_out idle next moment).number ≤ℤ pos made
number_out made [] next moment within = zero_within made
  where
    zero_within : (made : ℕ) → pos 0 ≤ℤ pos made
    zero_within made = omega (arith, ints)
number_out made (front ∷ idle) next moment within = within.0

within_back : (made : ℕ) (session : Session) (idle : List IdleSession) → session.number ≤ℤ pos (made + 1) → NumbersWithin (pos made) idle
    → NumbersWithin (pos (made + 1)) (idle_back session idle)
within_back made session idle number within =
    elim (session.dirty)
    as (λ dirty. NumbersWithin (pos (made + 1)) (if dirty then idle else record { id = session.id; number = session.number; last_use = session.last_use } ∷ idle)) [
      | true ↦ within_more made idle within
      | false ↦ (number, within_more made idle within)
    ]

idle_lent : (caller : ℕ) (next : List ℕ) (moment : ℕ) (pool : Pool) → (lent_out caller next moment pool).idle ≡ idle_out pool.idle
unfolding lent_out
idle_lent caller next moment pool = refl

-- the pool that has taken a session back
abbrev with_back : ℕ → Session → ℕ → Pool → Pool
with_back caller session moment pool = record {
  idle = idle_back session pool.idle;
  lent = without_first session.id pool.lent;
  drawn = pool.drawn;
  history = pool.history ++ Back caller session.id session.number session.last_use session.dirty moment ∷ [];
}

within_taken : (made caller : ℕ) (session : Session) (moment : ℕ) (pool : Pool) → session.number ≤ℤ pos (made + 1) → NumbersWithin (pos made) pool.idle
    → NumbersWithin (pos (made + 1)) (taken_back caller session moment pool).idle
unfolding taken_back
within_taken made caller session moment pool number within =
    elim (is_lent session.id pool.lent) as (λ b. NumbersWithin (pos (made + 1)) (cond b (with_back caller session moment pool) pool).idle) [
      | true ↦ within_back made session pool.idle number within
      | false ↦ within_more made pool.idle within
    ]

-- the number of a session that a pool lends
lends_within : (made : ℕ) (pool mid : Pool) (caller at : ℕ) (session : Session) → LendsPool pool mid caller at session → NumbersWithin (pos made) pool.idle
    → session.number ≤ℤ pos made
lends_within made pool mid caller at session lends within =
    subst (λ held. held.number ≤ℤ pos made) (sym lends.session_is) (number_out made pool.idle session.id at within)

-- what is idle once a session that was lent came back
turned : (made : ℕ) (pool now : Pool) (out_at back_at : ℕ) (session back : Session) → TurnsPool pool now out_at back_at session back
    → back.number ≤ℤ (session.number +ℤ pos 1) → NumbersWithin (pos made) pool.idle → NumbersWithin (pos (made + 1)) now.idle
turned made pool now out_at back_at session back attempts raised within =
    let mid = attempts.mid in
    let number = lends_within made pool mid attempts.out_by out_at session attempts.lends within in
    let mid_is : mid.idle ≡ idle_out pool.idle = ap (λ p. p.idle) attempts.lends.pool_is ∙ idle_lent attempts.out_by session.id out_at pool in
    let mid_within : NumbersWithin (pos made) mid.idle = subst (NumbersWithin (pos made)) (sym mid_is) (within_out made pool.idle within) in
    let back_number : back.number ≤ℤ pos (made + 1) = at_most session.number back.number made number raised in
    subst (λ p. NumbersWithin (pos (made + 1)) p.idle) (sym attempts.takes) (within_taken made attempts.back_by back back_at mid back_number mid_within)
  where
    at_most : (number more : ℤ) (made : ℕ) → number ≤ℤ pos made → more ≤ℤ (number +ℤ pos 1) → more ≤ℤ pos (made + 1)
    at_most number more made first raised = omega (arith, ints)

-- a session comes back with its number or the next one
most_raised : (number : Option ℤ) (session back : Session) → IsNumbered number session back → back.number ≤ℤ (session.number +ℤ pos 1)
most_raised None session back numbered = numbered.1
most_raised (Some number) session back numbered = at_most session.number back.number numbered.1
  where
    at_most : (number more : ℤ) → more ≡ (number +ℤ pos 1) → more ≤ℤ (number +ℤ pos 1)
    at_most number more is = omega (arith, ints)

-- a store that lent a session, which came back
pub borrowed_within : (made : ℕ) (old now : StoreTells) (pool pool_now : Pool) → old.pool ≡ Some pool → now.pool ≡ Some pool_now
    → (id : List ℕ) (number : Option ℤ) → Borrowed old now id number → NumbersWithin (pos made) pool.idle → NumbersWithin (pos (made + 1)) pool_now.idle
borrowed_within made old now pool pool_now is now_is id number borrowed within =
    turned made pool pool_now borrowed.out_at borrowed.back_at borrowed.session borrowed.back
    (turns_told old borrowed.lent now pool pool_now borrowed.out_at borrowed.back_at borrowed.session borrowed.back is now_is borrowed.lends borrowed.takes)
    (most_raised number borrowed.session borrowed.back borrowed.numbered) within

-- the number of a session that a store lends
pub lent_within : (made : ℕ) (old lent : StoreTells) (pool : Pool) → old.pool ≡ Some pool → (at : ℕ) (session : Session) → LendsSession old lent at session
    → NumbersWithin (pos made) pool.idle → session.number ≤ℤ pos made
lent_within made old lent pool is at session lends within =
    let out = lends_told old lent pool at session is lends in lends_within made pool out.0 old.caller at session out.1.1 within

-- a pool that stays
pub within_staying : (made : ℕ) (pool pool_now : Pool) → pool_now ≡ pool → NumbersWithin (pos made) pool.idle → NumbersWithin (pos (made + 1)) pool_now.idle
within_staying made pool pool_now same within = subst (λ p. NumbersWithin (pos (made + 1)) p.idle) (sym same) (within_more made pool.idle within)

-- a store that may have lent a session
pub borrows_within : (made : ℕ) (old now : StoreTells) (pool pool_now : Pool) → old.pool ≡ Some pool → now.pool ≡ Some pool_now
    → (session : Option (List ℕ)) (number : Option ℤ) → Borrows old now session number → NumbersWithin (pos made) pool.idle → NumbersWithin (pos (made + 1)) pool_now.idle
borrows_within made old now pool pool_now is now_is None number borrows within =
    within_staying made pool pool_now (same_told pool_now pool (sym now_is ∙ ap (λ store. store.pool) borrows.0 ∙ is)) within
borrows_within made old now pool pool_now is now_is (Some id) number borrows within = borrowed_within made old now pool pool_now is now_is id number borrows within
