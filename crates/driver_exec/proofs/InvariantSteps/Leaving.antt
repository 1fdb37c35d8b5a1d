-- What an operation outside transactions leaves of a told pool and a told server: whatever was answered, all that stood before
-- it stands, and its last send could be sent.
use Rattle.std.proofs.Common.{◌≡◌, ℕ, ◌≤◌, List, [], ◌∷◌, ◌++◌, refl, sym, ap, subst, ◌∙◌, inl, inr, arith}
use Rattle.std.specs.Prelude.{ℤ, pos, ◌+ℤ◌, ◌<ℤ◌, ◌≤ℤ◌, Bool, true, Option, None, Some, ◌⊎◌}
use Rattle.std.proofs.lemmas.Int.{ints}
use Rattle.driver_link.specs.declared.machine.Entry.{Entry}
use Rattle.driver_link.specs.declared.machine.Send.{Send}
use Rattle.driver_link.specs.declared.machine.SendBody.{SendBody}
use Rattle.driver_link.specs.declared.machine.Server.{Server}
use Rattle.driver_link.specs.Apart.{AllApart}
use Rattle.driver_link.specs.LinkState.{server_run}
use Rattle.driver_link.specs.Settled.{Has, IsAside, IsEither, IsPlain, IsSettled, IsUnder, MayJoin}
use Rattle.driver_link.specs.ServerRun.{ServerRun, run_after}
use Rattle.driver_session.specs.Pool.{Pool, taken_back}
use Rattle.driver_session.specs.Session.{Session}
use Rattle.driver_session.proofs.IdDraws.{drawn_back}
use Rattle.driver_session.proofs.PoolTells.{TurnsPool, same_told, turns_told}
use Rattle.driver_ops.specs.Fields.{under}
use Rattle.driver_ops.specs.Operations.{send_of}
use Rattle.driver_attempt.specs.Moment.{Moment}
use Rattle.driver_exec.specs.BetweenCalls.{Between, SentUpTo, Sound}
use Rattle.driver_exec.specs.Keeping.{MayPass, StandsBefore}
use Rattle.driver_exec.specs.Resending.{Borrowed, Borrows, LeavesAside, SendsWhereTold, SentTimes}
use Rattle.driver_exec.proofs.TraceSessions.{Holding, joined_holds, lends_holds, number_raised, taken_between}
use Rattle.driver_exec.proofs.InvariantSteps.Sends.{Going, begins, between_free, holding_free, numbered_goes, numbered_joins, numbered_new, numbered_onward, numbered_send, unnumbered_goes, unnumbered_joins, unnumbered_new, unnumbered_onward, unnumbered_send}

-- what sends of a command leave of a told pool and a told server
pub record Left (paged : Bool) (session : Option (List ℕ)) (number : Option ℤ) (body : SendBody) (pool_now : Pool) (old now : Server) : Type 0 where
  pub between : Between pool_now now.trace
  pub sound : Sound now
  pub more : List Entry
  pub log : now.log ≡ old.log ++ more
  pub which : (other : Send) → Has now.trace other → Has old.trace other ⊎ ((send_of (under session number) body ≡ other) ⊎ MayPass paged other)

-- a send may go out to a server that is settled
pub record MayGo (send : Send) (server : Server) : Type 0 where
  pub either : IsEither send
  pub joins : MayJoin server.trace send
  pub settled : IsSettled server.trace server

-- a pool that lends one session, and takes it back
record Lending (now : Pool) (trace : List Send) (session back : Session) : Type 0 where
  pool : Pool
  caller : ℕ
  moment : ℕ
  holds : Holding pool trace session
  now_is : now ≡ taken_back caller back moment pool

-- what such a pool holds between
lending : (pool now : Pool) (out_at back_at : ℕ) (session back : Session) (trace : List Send) → TurnsPool pool now out_at back_at session back
    → AllApart now.drawn → Between pool trace → Lending now trace session back
lending pool now out_at back_at session back trace attempts apart between =
    let same : now.drawn ≡ attempts.mid.drawn = ap (λ p. p.drawn) attempts.takes ∙ drawn_back attempts.back_by back back_at attempts.mid in
    record {
      pool = attempts.mid;
      caller = attempts.back_by;
      moment = back_at;
      holds = lends_holds pool attempts.mid attempts.out_by out_at session trace attempts.lends (subst AllApart same apart) between;
      now_is = attempts.takes;
    }

-- what holds once the session came back
came_back : (now : Pool) (old trace : List Send) (session back : Session) (lent : Lending now old session back) → Holding lent.pool trace back → Between now trace
came_back now old trace session back lent holds =
    let P : Pool → Type 0 = λ pool. Between pool trace in
    subst P (sym lent.now_is) (taken_between lent.caller back lent.moment lent.pool trace holds)

-- the sends of told servers
sends_told : (paged : Bool) (link link_now : Option ServerRun) (run run_now : ServerRun) (send : Send) (count : ℕ) → link ≡ Some run → link_now ≡ Some run_now
    → SentTimes paged link link_now send count → SendsWhereTold paged run run_now send count
sends_told paged link link_now run run_now send count is now_is sends =
    subst (λ now. SentTimes paged (Some run) now send count) now_is (subst (λ old. SentTimes paged old link_now send count) is sends)

-- one more is more
grows : (number more : ℤ) → more ≡ (number +ℤ pos 1) → number <ℤ more
grows number more is = omega (arith, ints)

-- and no less
no_less : (number more : ℤ) → more ≡ (number +ℤ pos 1) → number ≤ℤ more
no_less number more is = omega (arith, ints)

module _ (paged : Bool) (before now : Moment) (pool pool_now : Pool) (run run_now : ServerRun) (pool_is : before.store.pool ≡ Some pool) (pool_now_is : now.store.pool ≡ Some pool_now)
    (run_is : server_run before.link ≡ Some run) (run_now_is : server_run now.link ≡ Some run_now) (body : SendBody) (stands : StandsBefore pool pool_now run body) where
  open stands use {between, sound, may_send, apart}

  -- a session was borrowed
  module _ (id : List ℕ) (number : Option ℤ) (borrowed : Borrowed before.store now.store id number) where
    abbrev send : Send
    send = send_of (under (Some id) number) body

    lent : Lending pool_now run.server.trace borrowed.session borrowed.back
    lent = lending pool pool_now borrowed.out_at borrowed.back_at borrowed.session borrowed.back run.server.trace
        (turns_told before.store borrowed.lent now.store pool pool_now borrowed.out_at borrowed.back_at borrowed.session borrowed.back pool_is pool_now_is borrowed.lends borrowed.takes)
        apart between

    id_back : id ≡ borrowed.back.id
    id_back = sym (borrowed.same ∙ borrowed.id_is)

    HoldsBack : List Send → Type 0
    HoldsBack trace = Holding lent.pool trace borrowed.back

    -- a send without a number says nothing of it
    keep_aside : (trace : List Send) (aside : Send) → IsAside aside → HoldsBack trace → HoldsBack (trace ++ aside ∷ [])
    unfolding HoldsBack
    keep_aside trace aside is holds = holding_free trace aside is.none lent.pool borrowed.back holds

    left_by : (keep : (trace : List Send) → HoldsBack trace → HoldsBack (trace ++ send ∷ []))
        (stays : (trace : List Send) (aside : Send) → IsAside aside → HoldsBack trace → HoldsBack (trace ++ aside ∷ []))
        → Going paged (Some id) number body HoldsBack keep stays run.server run_now.server → Left paged (Some id) number body pool_now run.server run_now.server
    unfolding HoldsBack
    left_by keep stays going = record {
      between = came_back pool_now run.server.trace run_now.server.trace borrowed.session borrowed.back lent going.holds;
      sound = record { orderly = going.orderly; settled = going.settled };
      more = going.more;
      log = going.log;
      which = going.which;
    }

  -- its sends have its next number
  module _ (id : List ℕ) (number : ℤ) (borrowed : Borrowed before.store now.store id (Some number)) where
    abbrev own_send : Send
    own_send = send_of (under (Some id) (Some number)) body

    HoldsNumbered : List Send → Type 0
    HoldsNumbered = HoldsBack id (Some number) borrowed

    back_under : IsUnder borrowed.back.id borrowed.back.number own_send
    back_under = record { session = ap (λ i. Some i) (id_back id (Some number) borrowed); numbered = ap (λ n. Some n) (sym borrowed.numbered.0) }

    keep_numbered : (trace : List Send) → HoldsNumbered trace → HoldsNumbered (trace ++ own_send ∷ [])
    unfolding HoldsNumbered HoldsBack
    keep_numbered trace holds = joined_holds (lent id (Some number) borrowed).pool trace borrowed.back own_send back_under holds

    aside_numbered : (trace : List Send) (aside : Send) → IsAside aside → HoldsNumbered trace → HoldsNumbered (trace ++ aside ∷ [])
    unfolding HoldsNumbered
    aside_numbered trace aside is holds = keep_aside id (Some number) borrowed trace aside is holds

    start_numbered : HoldsNumbered run.server.trace
    unfolding HoldsNumbered HoldsBack
    start_numbered =
        let held = lent id (Some number) borrowed in
        number_raised held.pool run.server.trace borrowed.session borrowed.back borrowed.same (no_less borrowed.session.number borrowed.back.number borrowed.numbered.1) held.holds

    join_numbered : MayJoin run.server.trace own_send
    join_numbered =
        let held = lent id (Some number) borrowed in
        let P : List ℕ → Type 0 = λ i. SentUpTo i borrowed.session.number run.server.trace in
        let raised = subst (λ n. borrowed.session.number <ℤ n) borrowed.numbered.0 (grows borrowed.session.number borrowed.back.number borrowed.numbered.1) in
        numbered_new run.server.trace body may_send sound.orderly id number borrowed.session.number (subst P borrowed.id_is held.holds.up_to) raised

    plain : IsPlain own_send
    plain = numbered_send id number body may_send.writes

    start_going : (shown : Bool) → Going shown (Some id) (Some number) body HoldsNumbered keep_numbered aside_numbered run.server run.server
    start_going shown = begins shown (Some id) (Some number) body HoldsNumbered keep_numbered aside_numbered run.server sound start_numbered

    numbered_left : (count : ℕ) → SendsWhereTold paged run run_now own_send count → Left paged (Some id) (Some number) body pool_now run.server run_now.server
    unfolding HoldsNumbered
    numbered_left count sends = left_by id (Some number) borrowed keep_numbered aside_numbered
        (numbered_goes paged (Some id) (Some number) body HoldsNumbered keep_numbered aside_numbered paged (λ is. is) run (start_going paged) join_numbered plain count run_now sends)

    numbered_may : (earlier : ℕ) (mid : ServerRun) → SendsWhereTold paged run mid own_send earlier → MayGo own_send mid.server
    numbered_may earlier mid sends = record {
      either = inl plain;
      joins = numbered_joins true (Some id) (Some number) body HoldsNumbered keep_numbered aside_numbered paged (λ is. refl) run (start_going true) join_numbered plain earlier mid sends;
      settled = (numbered_goes true (Some id) (Some number) body HoldsNumbered keep_numbered aside_numbered paged (λ is. refl) run (start_going true) join_numbered plain earlier mid sends).settled;
    }

    -- the sends behind one that is answered keep each entry
    numbered_further : (earlier later : ℕ) (mid : ServerRun) → SendsWhereTold paged run mid own_send earlier
        → (behind : ServerRun) → LeavesAside (run_after mid own_send) behind → SendsWhereTold paged behind run_now own_send later
        → (entry : Entry) → Has (run_after mid own_send).server.log entry → Has run_now.server.log entry
    numbered_further earlier later mid sends behind leaves rest entry has =
        numbered_onward true (Some id) (Some number) body HoldsNumbered keep_numbered aside_numbered paged (λ is. refl) run (start_going true) join_numbered refl plain earlier mid sends behind leaves later run_now rest entry has

  -- its sends have none
  module _ (id : List ℕ) (borrowed : Borrowed before.store now.store id None) where
    abbrev free_send : Send
    free_send = send_of (under (Some id) None) body

    HoldsFree : List Send → Type 0
    HoldsFree = HoldsBack id None borrowed

    keep_free : (trace : List Send) → HoldsFree trace → HoldsFree (trace ++ free_send ∷ [])
    unfolding HoldsFree HoldsBack
    keep_free trace holds = holding_free trace free_send refl (lent id None borrowed).pool borrowed.back holds

    aside_free : (trace : List Send) (aside : Send) → IsAside aside → HoldsFree trace → HoldsFree (trace ++ aside ∷ [])
    unfolding HoldsFree
    aside_free trace aside is holds = keep_aside id None borrowed trace aside is holds

    start_free : HoldsFree run.server.trace
    unfolding HoldsFree HoldsBack
    start_free =
        let held = lent id None borrowed in
        number_raised held.pool run.server.trace borrowed.session borrowed.back borrowed.same borrowed.numbered.0 held.holds

    free_left : (count : ℕ) → count ≤ 1 → SendsWhereTold paged run run_now free_send count → Left paged (Some id) None body pool_now run.server run_now.server
    unfolding HoldsFree
    free_left count one sends = left_by id None borrowed keep_free aside_free
        (unnumbered_goes paged (Some id) None body HoldsFree keep_free aside_free paged (λ is. is) run
        (begins paged (Some id) None body HoldsFree keep_free aside_free run.server sound start_free)
        (unnumbered_new run.server.trace body may_send sound.orderly (Some id)) count run_now one sends)

  -- no session was borrowed
  module _ (stays : pool_now ≡ pool) where
    abbrev bare_send : Send
    bare_send = send_of (under None None) body

    BetweenOld : List Send → Type 0
    BetweenOld trace = Between pool trace

    keep_bare : (trace : List Send) → BetweenOld trace → BetweenOld (trace ++ bare_send ∷ [])
    unfolding BetweenOld
    keep_bare trace holds = between_free trace bare_send refl pool holds

    aside_bare : (trace : List Send) (aside : Send) → IsAside aside → BetweenOld trace → BetweenOld (trace ++ aside ∷ [])
    unfolding BetweenOld
    aside_bare trace aside is holds = between_free trace aside is.none pool holds

    bare_left : (count : ℕ) → count ≤ 1 → SendsWhereTold paged run run_now bare_send count → Left paged None None body pool_now run.server run_now.server
    unfolding BetweenOld
    bare_left count one sends =
        let going = unnumbered_goes paged None None body BetweenOld keep_bare aside_bare paged (λ is. is) run
        (begins paged None None body BetweenOld keep_bare aside_bare run.server sound between)
        (unnumbered_new run.server.trace body may_send sound.orderly None) count run_now one sends in
        record {
          between = subst (λ p. Between p run_now.server.trace) (sym stays) going.holds;
          sound = record { orderly = going.orderly; settled = going.settled };
          more = going.more;
          log = going.log;
          which = going.which;
        }

  -- the one send without a number
  module _ (session : Option (List ℕ)) where
    abbrev only_send : Send
    only_send = send_of (under session None) body

    -- of the trace nothing more is asked
    abbrev Any : List Send → Type 0
    Any trace = Unit {0}

    any_more : (trace : List Send) → Any trace → Any (trace ++ only_send ∷ [])
    any_more trace any = tt

    any_aside : (trace : List Send) (aside : Send) → IsAside aside → Any trace → Any (trace ++ aside ∷ [])
    any_aside trace aside is any = tt

    any_going : Going true session None body Any any_more any_aside run.server run.server
    any_going = begins true session None body Any any_more any_aside run.server sound tt

    -- it may go out
    unnumbered_may : (mid : ServerRun) → SendsWhereTold paged run mid only_send 0 → MayGo only_send mid.server
    unnumbered_may mid sends =
        let joins = unnumbered_joins true session None body Any any_more any_aside paged (λ is. refl) run any_going (unnumbered_new run.server.trace body may_send sound.orderly session) mid sends in record {
          either = inr (inl (unnumbered_send session body may_send.writes));
          joins = joins.0;
          settled = joins.1;
        }

    -- where there is no send behind it each entry stays too
    unnumbered_further : (later : ℕ) (mid : ServerRun) → later ≡ 0 → SendsWhereTold paged run mid only_send 0 → (behind : ServerRun) → LeavesAside (run_after mid only_send) behind
        → SendsWhereTold paged behind run_now only_send later → (entry : Entry) → Has (run_after mid only_send).server.log entry → Has run_now.server.log entry
    unnumbered_further later mid none sends behind leaves rest entry has =
        unnumbered_onward true session None body Any any_more any_aside paged (λ is. refl) run any_going (unnumbered_new run.server.trace body may_send sound.orderly session) refl mid sends behind leaves run_now
        (subst (SendsWhereTold paged behind run_now only_send) none rest) entry has

  -- a store that borrowed nothing has its pool still
  pool_stays : now.store ≡ before.store → pool_now ≡ pool
  pool_stays stays = same_told pool_now pool (sym pool_now_is ∙ ap (λ store. store.pool) stays ∙ pool_is)

  -- what the sends leave
  pub left_of : (session : Option (List ℕ)) (number : Option ℤ) (count : ℕ) → Borrows before.store now.store session number → (number ≡ None → count ≤ 1)
      → SentTimes paged (server_run before.link) (server_run now.link) (send_of (under session number) body) count
      → Left paged session number body pool_now run.server run_now.server
  left_of session number count borrows once sends =
      by_session session number borrows once (sends_told paged (server_run before.link) (server_run now.link) run run_now (send_of (under session number) body) count run_is run_now_is sends)
    where
      by_session : (session : Option (List ℕ)) (number : Option ℤ) → Borrows before.store now.store session number → (number ≡ None → count ≤ 1)
          → SendsWhereTold paged run run_now (send_of (under session number) body) count → Left paged session number body pool_now run.server run_now.server
      by_session (Some id) (Some number) borrows once sends = numbered_left id number borrows count sends
      by_session (Some id) None borrows once sends = free_left id borrows count (once refl) sends
      by_session None (Some number) borrows once sends = absurd (let e : ◌≡◌ {A = Option ℤ} (Some number) None = borrows.1 in cc)
      by_session None None borrows once sends = bare_left (pool_stays borrows.0) count (once refl) sends

  -- after so many sends one more may go out: any with a number, and the first without one
  pub may_go : (session : Option (List ℕ)) (number : Option ℤ) (earlier : ℕ) (mid : ServerRun) → Borrows before.store now.store session number → (number ≡ None → earlier ≡ 0)
      → SendsWhereTold paged run mid (send_of (under session number) body) earlier → MayGo (send_of (under session number) body) mid.server
  may_go (Some id) (Some number) earlier mid borrows once sends = numbered_may id number borrows earlier mid sends
  may_go None (Some number) earlier mid borrows once sends = absurd (let e : ◌≡◌ {A = Option ℤ} (Some number) None = borrows.1 in cc)
  may_go session None earlier mid borrows once sends =
      unnumbered_may session mid (subst (SendsWhereTold paged run mid (send_of (under session None) body)) (once refl) sends)

  -- and behind one that is answered, with the pages of its answer, each entry stays
  pub further : (session : Option (List ℕ)) (number : Option ℤ) (earlier later : ℕ) (mid : ServerRun) → Borrows before.store now.store session number → (number ≡ None → earlier ≡ 0) → (number ≡ None → later ≡ 0)
      → SendsWhereTold paged run mid (send_of (under session number) body) earlier → (behind : ServerRun) → LeavesAside (run_after mid (send_of (under session number) body)) behind
      → SendsWhereTold paged behind run_now (send_of (under session number) body) later
      → (entry : Entry) → Has (run_after mid (send_of (under session number) body)).server.log entry → Has run_now.server.log entry
  further (Some id) (Some number) earlier later mid borrows once alone sends behind leaves rest entry has = numbered_further id number borrows earlier later mid sends behind leaves rest entry has
  further None (Some number) earlier later mid borrows once alone sends behind leaves rest entry has = absurd (let e : ◌≡◌ {A = Option ℤ} (Some number) None = borrows.1 in cc)
  further session None earlier later mid borrows once alone sends behind leaves rest entry has =
      unnumbered_further session later mid (alone refl) (subst (SendsWhereTold paged run mid (send_of (under session None) body)) (once refl) sends) behind leaves rest entry has
