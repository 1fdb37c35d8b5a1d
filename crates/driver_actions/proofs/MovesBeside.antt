-- What a call leaves of store, link and clock, whatever it does, where commands of cursors may be among its sends: the same of parts of it
-- that follow one another.
use Rattle.std.proofs.Common.{◌≡◌, ℕ, zero, suc, ◌+◌, ◌≤◌, Bool, true, false, List, [], ◌∷◌, ◌++◌, refl, sym, ap, subst, ◌∙◌, inl, inr, append_assoc, arith}
use Rattle.std.specs.Prelude.{ℤ, pos, ◌≤ℤ◌, Option, None, Some}
use Rattle.std.proofs.lemmas.Int.{ints}
use Rattle.std.proofs.lemmas.List.{append-nil}
use Rattle.driver_link.specs.declared.machine.Schedule.{Schedule}
use Rattle.driver_link.specs.declared.machine.Send.{Send}
use Rattle.driver_link.specs.declared.machine.SendBody.{SendBody}
use Rattle.driver_link.specs.declared.machine.Server.{Server}
use Rattle.driver_link.specs.Counting.{KeepsServer, OnlyCounts}
use Rattle.driver_link.specs.Exchange.{empty_server, exchanged, next_step, replayed}
use Rattle.driver_link.specs.LinkState.{server_run}
use Rattle.driver_link.specs.ServerRun.{ServerRun, run_after}
use Rattle.driver_link.specs.Settled.{Has, IsAside}
use Rattle.driver_link.proofs.Lists.{has_either}
use Rattle.driver_link.proofs.Replays.{exchanged_trace, replayed_more}
use Rattle.driver_session.specs.declared.pool.IdleSession.{IdleSession}
use Rattle.driver_session.specs.Pool.{Pool}
use Rattle.driver_session.specs.StoreTells.{Draws, GainsDrawn, LendsAsBefore, LendsPoolAsBefore, StoreTells}
use Rattle.driver_session.proofs.IdDraws.{draws_refl, draws_twice}
use Rattle.driver_session.proofs.LentSessions.{lends_refl, lends_twice}
use Rattle.driver_ops.specs.Fields.{under}
use Rattle.driver_ops.specs.Operations.{send_of}
use Rattle.driver_attempt.specs.Moment.{Moment}
use Rattle.driver_attempt.specs.Readings.{OnlyRead}
use Rattle.driver_exec.specs.BetweenCalls.{NumbersWithin}
use Rattle.driver_exec.specs.Keeping.{KeepsInvariant, MayPass}
use Rattle.driver_exec.specs.Resending.{Borrows, PassesAside, PassesBy, SendsWhereTold, SentTimes, SentWithin}
use Rattle.driver_exec.proofs.ClockReadings.{read_same, read_twice}
use Rattle.driver_exec.proofs.Moves.{IsFold}
use Rattle.driver_exec.proofs.SessionNumbers.{borrows_within}
use Rattle.driver_actions.specs.CallParts.{IsReplayed, IsReplayedWhereTold, IsSendOf, KeepsMaking, KeepsMakingWhereTold, MaySend}
use Rattle.driver_actions.specs.Raises.{RaisesBy, RaisesByWhereTold}
use Rattle.driver_actions.proofs.ServerMaking.{keeps_making_twice, told_refl}

-- a told server went on by sends, each of which is such: its making stays, its trace gained them, and it stays the fold of its trace
pub record Went (P : Send → Type 0) (told now : ServerRun) : Type 0 where
  pub setup : now.setup ≡ told.setup
  pub schedule : now.schedule ≡ told.schedule
  pub sends : List Send
  pub trace : now.server.trace ≡ told.server.trace ++ sends
  pub are : (send : Send) → Has sends send → P send
  pub folds : IsFold told.schedule told.server → IsFold told.schedule now.server

-- by none, where only calls were counted
went_counted : (P : Send → Type 0) (told now : ServerRun) → KeepsServer told now → Went P told now
went_counted P told now keeps = record {
  setup = keeps.setup;
  schedule = keeps.schedule;
  sends = [];
  trace = ap (λ s. s.trace) keeps.server ∙ sym (append-nil told.server.trace);
  are = λ send has. absurd has;
  folds = λ folds. subst (IsFold told.schedule) (sym keeps.server) folds;
}

-- by those of two parts
pub went_twice : (P : Send → Type 0) (told mid now : ServerRun) → Went P told mid → Went P mid now → Went P told now
went_twice P told mid now first second = record {
  setup = second.setup ∙ first.setup;
  schedule = second.schedule ∙ first.schedule;
  sends = first.sends ++ second.sends;
  trace = second.trace ∙ ap (λ t. t ++ second.sends) first.trace ∙ append_assoc told.server.trace first.sends second.sends;
  are = λ send has. elim (has_either first.sends second.sends send has) [ inl earlier ↦ first.are send earlier | inr later ↦ second.are send later ];
  folds = λ folds.
      subst (λ schedule. IsFold schedule now.server) first.schedule
      (second.folds (subst (λ schedule. IsFold schedule mid.server) (sym first.schedule) (first.folds folds)));
}

-- a server stays the fold of its trace after one send more
fold_after : (schedule : Schedule) (server : Server) (send : Send) → IsFold schedule server → IsFold schedule (exchanged server send (next_step schedule server))
fold_after schedule server send folds =
    let step = next_step schedule server in
    let fold : List Send → Server = λ sends. replayed schedule empty_server sends in
    sym (ap fold (exchanged_trace server send step) ∙ replayed_more schedule empty_server server.trace send
    ∙ ap (λ s. exchanged s send (next_step schedule s)) (sym folds))

-- by one
went_one : (P : Send → Type 0) (told : ServerRun) (send : Send) → P send → Went P told (run_after told send)
went_one P told send is = record {
  setup = refl;
  schedule = refl;
  sends = send ∷ [];
  trace = exchanged_trace told.server send (next_step told.schedule told.server);
  are = λ found has. elim has [ inl same ↦ subst P same is | inr none ↦ absurd none ];
  folds = λ folds. fold_after told.schedule told.server send folds;
}

-- by commands of cursors
pub went_aside : (P : Send → Type 0) → ((send : Send) → IsAside send → P send) → (told now : ServerRun) (sends : List Send) → PassesAside told now sends → Went P told now
went_aside P may told now [] keeps = went_counted P told now keeps
went_aside P may told now (send ∷ sends) passes =
    let mid = passes.0 in
    went_twice P told mid now (went_counted P told mid passes.1.0)
    (went_twice P mid (run_after mid send) now (went_one P mid send (may send passes.1.1)) (went_aside P may (run_after mid send) now sends passes.1.2))

-- by what may be beside the sends of an operation
went_by : (P : Send → Type 0) (paged : Bool) → ((send : Send) → MayPass paged send → P send) → (told now : ServerRun) → PassesBy paged told now → Went P told now
went_by P true may told now leaves = went_aside P may told now leaves.sends leaves.passes
went_by P false may told now keeps = went_counted P told now keeps

-- by one send, so many times, and what may be beside it
pub went_sent : (P : Send → Type 0) (paged : Bool) → ((send : Send) → MayPass paged send → P send) → (told : ServerRun) (send : Send) → P send → (count : ℕ) (now : ServerRun)
    → SendsWhereTold paged told now send count → Went P told now
went_sent P paged may told send is zero now sends = went_by P paged may told now sends
went_sent P paged may told send is (suc count) now sends =
    let mid = sends.0 in
    went_twice P told mid now (went_sent P paged may told send is count mid sends.1.0)
    (went_twice P mid (run_after mid send) now (went_one P mid send is) (went_by P paged may (run_after mid send) now sends.1.1))

-- any send
abbrev pub AnySend : Send → Type 0
AnySend send = Unit {0}

pub any_went : (paged : Bool) (told : ServerRun) (send : Send) (count : ℕ) (now : ServerRun) → SendsWhereTold paged told now send count → Went AnySend told now
any_went paged told send count now sends = went_sent AnySend paged (λ found passes. tt) told send tt count now sends

-- a call may send what carries its writes alone
may_send_own : (paged : Bool) (number : ℕ) (send : Send) → IsSendOf number send → MaySend paged number send
may_send_own true number send own = inl own
may_send_own false number send own = own

-- and what may be beside it
may_send_aside : (paged : Bool) (number : ℕ) (send : Send) → MayPass paged send → MaySend paged number send
may_send_aside true number send aside = inr aside
may_send_aside false number send never = absurd never

-- a told trace gained sends, each of which a call may send
pub record GainsSends (paged : Bool) (number : ℕ) (told now : ServerRun) : Type 0 where
  pub sends : List Send
  pub trace : now.server.trace ≡ told.server.trace ++ sends
  pub own : (send : Send) → Has sends send → MaySend paged number send

-- the same for a link that may tell its server
abbrev pub GainsOwn : Bool → ℕ → Option ServerRun → Option ServerRun → Type 0
GainsOwn paged number None now = now ≡ None
GainsOwn paged number (Some told) None = ⊥
GainsOwn paged number (Some told) (Some now) = GainsSends paged number told now

-- the session that an operation borrowed, if any, its sends, and what it kept and read
pub record LeftBy (paged : Bool) (before now : Moment) (asked : SendBody) : Type 0 where
  pub session : Option (List ℕ)
  pub number : Option ℤ
  pub borrows : Borrows before.store now.store session number
  pub sends : SentWithin paged 2 (server_run before.link) (server_run now.link) (send_of (under session number) asked)
  pub keeps : KeepsInvariant paged before now asked
  pub lent : LendsAsBefore before.store now.store
  pub drawn : Draws before.store now.store
  pub read : OnlyRead before.clock now.clock
  pub words : now.words ≡ before.words

-- what a call of a number, which takes at most so many numbers of sessions, leaves of a moment
pub record CallMoves (paged : Bool) (numbers number : ℕ) (before now : Moment) : Type 0 where
  pub draws : Draws before.store now.store
  pub lends : LendsAsBefore before.store now.store
  pub making : KeepsMaking before now
  pub replayed : IsReplayed before → IsReplayed now
  pub gains : GainsOwn paged number (server_run before.link) (server_run now.link)
  pub raises : RaisesBy numbers before now
  pub read : OnlyRead before.clock now.clock
  pub words : now.words ≡ before.words

-- numbers that are at most this are at most a greater one
within_above : (a b : ℕ) → a ≤ b → (idle : List IdleSession) → NumbersWithin (pos a) idle → NumbersWithin (pos b) idle
within_above a b more [] within = tt
within_above a b more (first ∷ idle) within = (above first.number a b more within.0, within_above a b more idle within.1)
  where
    above : (number : ℤ) (a b : ℕ) → a ≤ b → number ≤ℤ pos a → number ≤ℤ pos b
    above number a b more within = omega (arith, ints)

-- numbers rise by the sum of two rises
pub raises_twice : (a b : ℕ) (x y z : Option Pool) (ids : List (List ℕ)) → GainsDrawn x y ids → RaisesByWhereTold a x y → RaisesByWhereTold b y z → RaisesByWhereTold (a + b) x z
raises_twice a b None y z ids gains first second = tt
raises_twice a b (Some old) y None ids gains first second = tt
raises_twice a b (Some old) None (Some now) ids gains first second = absurd gains
raises_twice a b (Some old) (Some mid) (Some now) ids gains first second = λ most within.
    let both : most + a + b ≡ most + (a + b) = omega arith in
    subst (λ n. NumbersWithin (pos n) now.idle) both (second (most + a) (first most within))

-- a pool that stays raises none
pub raises_same : (count : ℕ) (pool : Option Pool) → RaisesByWhereTold count pool pool
raises_same count None = tt
raises_same count (Some told) = λ most within. within_above most (most + count) (omega arith) told.idle within

-- what rises by so many at most rises by more at most
pub raises_more : (a b : ℕ) → a ≤ b → (x y : Option Pool) → RaisesByWhereTold a x y → RaisesByWhereTold b x y
raises_more a b more None y raises = tt
raises_more a b more (Some old) None raises = tt
raises_more a b more (Some old) (Some now) raises = λ most within. within_above (most + a) (most + b) (omega (arith, more)) now.idle (raises most within)

-- a session that was borrowed raises them by one at most
raises_borrowed : (old now : StoreTells) (session : Option (List ℕ)) (number : Option ℤ) → Borrows old now session number → RaisesByWhereTold 1 old.pool now.pool
raises_borrowed old now session number borrows = of_told old.pool now.pool refl refl
  where
    of_told : (store store_now : Option Pool) → old.pool ≡ store → now.pool ≡ store_now → RaisesByWhereTold 1 store store_now
    of_told None store_now is now_is = tt
    of_told (Some pool) None is now_is = tt
    of_told (Some pool) (Some pool_now) is now_is = λ most within. borrows_within most old now pool pool_now is now_is session number borrows within

module _ (paged : Bool) where
  -- twice
  gains_twice : (number : ℕ) (a b c : Option ServerRun) → GainsOwn paged number a b → GainsOwn paged number b c → GainsOwn paged number a c
  gains_twice number None b c first second = subst (λ run. GainsOwn paged number run c) first second
  gains_twice number (Some told) None c first second = absurd first
  gains_twice number (Some told) (Some mid) None first second = absurd second
  gains_twice number (Some told) (Some mid) (Some now) first second = record {
    sends = first.sends ++ second.sends;
    trace = second.trace ∙ ap (λ t. t ++ second.sends) first.trace ∙ append_assoc told.server.trace first.sends second.sends;
    own = λ send has. elim (has_either first.sends second.sends send has) [ inl earlier ↦ first.own send earlier | inr later ↦ second.own send later ];
  }

  -- where only calls were counted
  pub gains_counted : (number : ℕ) (link now : Option ServerRun) → OnlyCounts link now → GainsOwn paged number link now
  gains_counted number None now counts = counts
  gains_counted number (Some told) None counts = absurd counts
  gains_counted number (Some told) (Some now) counts =
      record { sends = []; trace = ap (λ s. s.trace) counts.server ∙ sym (append-nil told.server.trace); own = λ send has. absurd has }

  -- where nothing happened
  gains_refl : (number : ℕ) (link : Option ServerRun) → GainsOwn paged number link link
  gains_refl number None = refl
  gains_refl number (Some told) = record { sends = []; trace = sym (append-nil told.server.trace); own = λ send has. absurd has }

  -- where a send of the call went out so many times
  pub gains_sent : (number : ℕ) (link now : Option ServerRun) (send : Send) (count : ℕ) → IsSendOf number send → SentTimes paged link now send count → GainsOwn paged number link now
  gains_sent number None now send count of_call sent = sent
  gains_sent number (Some told) None send count of_call sent = absurd sent
  gains_sent number (Some told) (Some now) send count of_call sent =
      let went = went_sent (MaySend paged number) paged (may_send_aside paged number) told send (may_send_own paged number send of_call) count now sent in
      record { sends = went.sends; trace = went.trace; own = went.are }

  -- a link's making, by the sends of an operation
  making_of : (link link_now : Option ServerRun) (send : Send) (count : ℕ) → SentTimes paged link link_now send count → KeepsMakingWhereTold link link_now
  making_of None link_now send count sent = sent
  making_of (Some told) None send count sent = absurd sent
  making_of (Some told) (Some now) send count sent = let went = any_went paged told send count now sent in (went.setup, went.schedule)

  -- the fold of a trace, by the sends of an operation
  fold_of : (link link_now : Option ServerRun) (send : Send) (count : ℕ) → SentTimes paged link link_now send count → IsReplayedWhereTold link → IsReplayedWhereTold link_now
  fold_of None link_now send count sent folds = subst IsReplayedWhereTold (sym sent) tt
  fold_of (Some told) None send count sent folds = absurd sent
  fold_of (Some told) (Some now) send count sent folds =
      let went = any_went paged told send count now sent in
      subst (λ schedule. now.server ≡ replayed schedule empty_server now.server.trace) (sym went.schedule) (went.folds folds)

  -- two parts of a call one after another
  pub moves_twice : (a b number : ℕ) (x y z : Moment) → CallMoves paged a number x y → CallMoves paged b number y z → CallMoves paged (a + b) number x z
  moves_twice a b number x y z first second = record {
    draws = draws_twice x.store y.store z.store first.draws second.draws;
    lends = lends_twice x.store y.store z.store first.lends second.lends;
    making = keeps_making_twice x y z first.making second.making;
    replayed = λ folds. second.replayed (first.replayed folds);
    gains = gains_twice number (server_run x.link) (server_run y.link) (server_run z.link) first.gains second.gains;
    raises = raises_twice a b x.store.pool y.store.pool z.store.pool first.draws.more first.draws.drawn first.raises second.raises;
    read = read_twice x.clock y.clock z.clock first.read second.read;
    words = second.words ∙ first.words;
  }

  -- no part of it
  pub moves_refl : (numbers number : ℕ) (now : Moment) → CallMoves paged numbers number now now
  moves_refl numbers number now = record {
    draws = draws_refl now.store;
    lends = lends_refl now.store;
    making = told_refl (server_run now.link);
    replayed = λ folds. folds;
    gains = gains_refl number (server_run now.link);
    raises = raises_same numbers now.store.pool;
    read = read_same now.clock now.clock refl;
    words = refl;
  }

  -- one that takes so many numbers at most takes more at most
  pub moves_more : (a b number : ℕ) (before now : Moment) → a ≤ b → CallMoves paged a number before now → CallMoves paged b number before now
  moves_more a b number before now more moves = record {
    draws = moves.draws;
    lends = moves.lends;
    making = moves.making;
    replayed = moves.replayed;
    gains = moves.gains;
    raises = raises_more a b more before.store.pool now.store.pool moves.raises;
    read = moves.read;
    words = moves.words;
  }

  -- one that raises the numbers by so many at most takes no more
  pub moves_raising : (a b number : ℕ) (before now : Moment) → CallMoves paged a number before now → RaisesBy b before now → CallMoves paged b number before now
  moves_raising a b number before now moves raises = record {
    draws = moves.draws;
    lends = moves.lends;
    making = moves.making;
    replayed = moves.replayed;
    gains = moves.gains;
    raises = raises;
    read = moves.read;
    words = moves.words;
  }

  -- an operation whose sends the call may send is a part of it
  pub left_moves : (number : ℕ) (before now : Moment) (asked : SendBody) → LeftBy paged before now asked → GainsOwn paged number (server_run before.link) (server_run now.link)
      → CallMoves paged 1 number before now
  left_moves number before now asked left gains =
      let send = send_of (under left.session left.number) asked in
      record {
        draws = left.drawn;
        lends = left.lent;
        making = making_of (server_run before.link) (server_run now.link) send left.sends.count left.sends.sends;
        replayed = λ folds. fold_of (server_run before.link) (server_run now.link) send left.sends.count left.sends.sends folds;
        gains = gains;
        raises = raises_borrowed before.store now.store left.session left.number left.borrows;
        read = left.read;
        words = left.words;
      }

-- object ids were drawn, and nothing else changed
pub record DrewIds (before now : Moment) : Type 0 where
  pub draws : Draws before.store now.store
  pub pool : now.store.pool ≡ before.store.pool
  pub rest : now ≡ record before { store = now.store }

-- that is a part of a call
pub moves_drew : (paged : Bool) (number : ℕ) (before now : Moment) → DrewIds before now → CallMoves paged 0 number before now
moves_drew paged number before now drew =
    let run : server_run now.link ≡ server_run before.link = ap (λ moment. server_run moment.link) drew.rest in
    record {
      draws = drew.draws;
      lends = subst (LendsPoolAsBefore before.store.pool) (sym drew.pool) (lends_refl before.store);
      making = subst (KeepsMakingWhereTold (server_run before.link)) (sym run) (told_refl (server_run before.link));
      replayed = λ folds. subst IsReplayedWhereTold (sym run) folds;
      gains = subst (GainsOwn paged number (server_run before.link)) (sym run) (gains_refl paged number (server_run before.link));
      raises = subst (RaisesByWhereTold 0 before.store.pool) (sym drew.pool) (raises_same 0 before.store.pool);
      read = read_same before.clock now.clock (ap (λ moment. moment.clock) drew.rest);
      words = ap (λ moment. moment.words) drew.rest;
    }
