-- What a single write left of store and link: nothing was sent, or its own write was.
use Rattle.std.proofs.Common.{◌≡◌, ℕ, zero, suc, ◌≤◌, List, [], ◌∷◌, length, refl, sym, ap, subst, ◌∙◌, inl, inr, arith}
use Rattle.std.specs.Prelude.{ℤ, false, Option, None, Some, Result, Ok, Err, slice_get}
use Rattle.driver_error.specs.declared.error.Error.{Error}
use Rattle.driver_link.specs.declared.machine.Place.{Place}
use Rattle.driver_link.specs.declared.machine.PlacedWrite.{PlacedWrite}
use Rattle.driver_link.specs.declared.machine.Send.{Send}
use Rattle.driver_link.specs.declared.machine.Written.{Written}
use Rattle.driver_link.specs.LinkState.{server_run}
use Rattle.driver_link.specs.ServerRun.{ServerRun}
use Rattle.driver_link.proofs.Lists.{none_past}
use Rattle.driver_session.specs.Pool.{Pool}
use Rattle.driver_session.specs.StoreTells.{Draws, MayDrawObjectId, StoreTells}
use Rattle.driver_session.proofs.IdDraws.{draws_object, draws_staying}
use Rattle.driver_session.proofs.PoolTells.{same_told}
use Rattle.driver_attempt.specs.Moment.{Moment}
use Rattle.driver_exec.specs.Resending.{SentTimes}
use Rattle.driver_exec.proofs.Moves.{new_is}
use Rattle.driver_exec.proofs.SessionNumbers.{borrows_within, within_staying}
use Rattle.driver_actions.specs.CallParts.{CarrySame, IsSendOf}
use Rattle.driver_actions.specs.SingleCalls.{Made, Makes, first_place}
use Rattle.driver_actions.specs.SingleCompleteness.{RaisesNumbers, RaisesWhereTold}
use Rattle.driver_actions.proofs.CallMoves.{CallMoves, DrewIds, gains_sent, left_moves, moves_drew, moves_more, moves_twice}
use Rattle.driver_actions.proofs.OwnIds.{OnlyDrew}
use Rattle.driver_actions.proofs.CallWrites.WritesMade.{made_drew, made_left, unmade_drew_by}
use Rattle.driver_inputs.specs.declared.call.SingleAnswer.{SingleAnswer}
use Rattle.driver_inputs.specs.Forms.{WriteForm, asked_in, send_in}

-- a store that may have drawn an object id has its pool still
pub pool_kept : (old now : StoreTells) → MayDrawObjectId old now → now.pool ≡ old.pool
pool_kept old now may = elim may [
  | inl same ↦ ap (λ store. store.pool) same
  | inr drew ↦ drew.1.pool
]

-- it drew ids in order
pub may_draws : (old now : StoreTells) → MayDrawObjectId old now → Draws old now
may_draws old now may = elim may [
  | inl same ↦ draws_staying old now same
  | inr drew ↦ draws_object old now drew.0 drew.1
]

-- so an object id was drawn or not, and nothing else changed
pub drew_ids : {before now : Moment} → OnlyDrew before now → DrewIds before now
drew_ids {before = before} {now = now} drew =
    record { draws = may_draws before.store now.store drew.draws; pool = pool_kept before.store now.store drew.draws; rest = drew.rest }

-- a told pool is the same once an id was drawn, if any
pub mid_pool : (before mid : Moment) (pool : Pool) → OnlyDrew before mid → before.store.pool ≡ Some pool → mid.store.pool ≡ Some pool
mid_pool before mid pool draws is = pool_kept before.store mid.store draws.draws ∙ is

-- so is what is told of the server
pub mid_run : (before mid : Moment) → OnlyDrew before mid → server_run mid.link ≡ server_run before.link
mid_run before mid draws = ap (λ moment. server_run moment.link) draws.rest

-- the one write of a command
pub only_write : (write : PlacedWrite) (at : ℕ) (found : PlacedWrite) → slice_get (write ∷ []) at ≡ Some found → (at ≡ 0) × (found ≡ write)
only_write write zero found is = (refl, cc is)
only_write write (suc at) found is = absurd (let e : ◌≡◌ {A = Option PlacedWrite} None (Some found) = is in cc)

-- a single write, in the first place of its call
module _ (before now : Moment) (form : WriteForm) (number : ℕ) where
  -- its send carries it alone
  one_send_of : (session : Option (List ℕ)) (numbered : Option ℤ) (sent : Written) → IsSendOf number (send_in session numbered form (first_place number) sent)
  one_send_of session numbered sent = record {
    some = inl refl;
    all = λ at write stands. ap (λ (w : PlacedWrite). w.place.call) (only_write (record { place = first_place number; written = sent }) at write stands).1;
  }

  -- one that was made
  pub made_moves : (result : Result SingleAnswer Error) → Made before now form (first_place number) result → CallMoves 1 number before now
  made_moves result made =
      let left = made_left form made in
      let send = send_in left.session left.number form (first_place number) made.sent in
      let gains = gains_sent number (server_run made.mid.link) (server_run now.link) send left.sends.count (one_send_of left.session left.number made.sent) left.sends.sends in
      moves_twice 0 1 number before made.mid now (moves_drew number before made.mid (drew_ids (made_drew form made)))
      (left_moves number made.mid now (asked_in form (first_place number) made.sent) left gains)

  -- one that was not
  unmade_moves : OnlyDrew before now → CallMoves 1 number before now
  unmade_moves drew = moves_more 0 1 number before now (omega arith) (moves_drew number before now (drew_ids drew))

  -- each
  pub makes_moves : (result : Result SingleAnswer Error) → Makes before now form (first_place number) result → CallMoves 1 number before now
  makes_moves (Ok answer) made = made_moves (Ok answer) made
  makes_moves (Err error) makes = elim makes [
    | inl unmade ↦ unmade_moves (unmade_drew_by form before now error unmade.draws)
    | inr made ↦ made_moves (Err error) made
  ]

-- the sends of a single write carry the same
module _ (before now : Moment) (told told_now : ServerRun) (is : server_run before.link ≡ Some told) (now_is : server_run now.link ≡ Some told_now) (a b : ℕ)
    (first : length told.server.trace ≤ a) (second : length told.server.trace ≤ b) where
  -- those of one operation
  sent_same : (mid : Option ServerRun) → mid ≡ Some told → (link : Option ServerRun) → link ≡ Some told_now → (send : Send) (count : ℕ) → SentTimes false mid link send count → CarrySame told_now a b
  sent_same mid mid_is link link_is send count sent = λ one other at also.
      let times : SentTimes false (Some told) (Some told_now) send count = subst (λ l. SentTimes false (Some told) l send count) link_is (subst (λ m. SentTimes false m link send count) mid_is sent) in
      let one_is : send ≡ one = new_is told send count told_now times a one first at in
      let other_is : send ≡ other = new_is told send count told_now times b other second also in
      ap (λ s. s.body) (sym one_is ∙ other_is)

  -- where nothing was sent
  none_same : OnlyDrew before now → CarrySame told_now a b
  none_same drew = λ one other at also.
      let same : told_now ≡ told = same_told told_now told (sym now_is ∙ mid_run before now drew ∙ is) in
      absurd (none_past told.server.trace a one first (ap (λ t. slice_get t.server.trace a) (sym same) ∙ at))

  -- each
  pub makes_alike : (form : WriteForm) (place : Place) (result : Result SingleAnswer Error) → Makes before now form place result → CarrySame told_now a b
  makes_alike form place result makes = by_result result makes
    where
      of_made : (result : Result SingleAnswer Error) → Made before now form place result → CarrySame told_now a b
      of_made result made =
          let left = made_left form made in
          sent_same (server_run made.mid.link) (mid_run before made.mid (made_drew form made) ∙ is) (server_run now.link) now_is
          (send_in left.session left.number form place made.sent) left.sends.count left.sends.sends

      by_result : (result : Result SingleAnswer Error) → Makes before now form place result → CarrySame told_now a b
      by_result (Ok answer) made = of_made (Ok answer) made
      by_result (Err error) makes = elim makes [
        | inl unmade ↦ none_same (unmade_drew_by form before now error unmade.draws)
        | inr made ↦ of_made (Err error) made
      ]

-- a single write raises the numbers of idle sessions by one at most
module _ (before now : Moment) (form : WriteForm) (place : Place) where
  -- where it was made
  made_raises : (result : Result SingleAnswer Error) → Made before now form place result → RaisesNumbers before now
  made_raises result made = of_told before.store.pool now.store.pool refl refl
    where
      of_told : (store store_now : Option Pool) → before.store.pool ≡ store → now.store.pool ≡ store_now → RaisesWhereTold store store_now
      of_told None store_now is now_is = tt
      of_told (Some pool) None is now_is = tt
      of_told (Some pool) (Some pool_now) is now_is = λ most within.
          let left = made_left form made in
          borrows_within most made.mid.store now.store pool pool_now (mid_pool before made.mid pool (made_drew form made) is) now_is left.session left.number left.borrows within

  -- where it was not
  unmade_raises : OnlyDrew before now → RaisesNumbers before now
  unmade_raises none = of_told before.store.pool now.store.pool refl refl
    where
      of_told : (store store_now : Option Pool) → before.store.pool ≡ store → now.store.pool ≡ store_now → RaisesWhereTold store store_now
      of_told None store_now is now_is = tt
      of_told (Some pool) None is now_is = tt
      of_told (Some pool) (Some pool_now) is now_is = λ most within.
          within_staying most pool pool_now (same_told pool_now pool (sym now_is ∙ mid_pool before now pool none is)) within

  -- so does each
  pub makes_raises : (result : Result SingleAnswer Error) → Makes before now form place result → RaisesNumbers before now
  makes_raises (Ok answer) made = made_raises (Ok answer) made
  makes_raises (Err error) makes = elim makes [
    | inl unmade ↦ unmade_raises (unmade_drew_by form before now error unmade.draws)
    | inr made ↦ made_raises (Err error) made
  ]
