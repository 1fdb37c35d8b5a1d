-- What an operation has done so far, attempt by attempt: its sends and its session.
use Rattle.std.proofs.Common.{◌≡◌, ℕ, suc, ◌≤◌, List, [], ◌∷◌, refl, sym, ap, subst, ◌∙◌, inl, inr, arith}
use Rattle.std.specs.Prelude.{ℤ, pos, ◌+ℤ◌, Bool, true, false, ◌&&◌, Option, None, Some, is_none, Result, Ok, Err, if◌then◌else◌}
use Rattle.std.specs.Option.{option_map}
use Rattle.std.proofs.lemmas.Bool.{and_parts}
use Rattle.driver_error.specs.declared.error.Error.{Error}
use Rattle.driver_options.specs.declared.concerns.WriteConcern.{WriteConcern}
use Rattle.driver_options.specs.declared.options.Conn.{Conn}
use Rattle.link_faults.specs.declared.fault.LinkError.{LinkError}
use Rattle.link_faults.specs.declared.fault.LinkError.TheVariants.{Fault, Memory}
use Rattle.link_faults.specs.declared.fault.LinkFault.{LinkFault}
use Rattle.driver_link.specs.declared.machine.Send.{Send}
use Rattle.driver_link.specs.declared.machine.SendBody.{SendBody}
use Rattle.driver_link.specs.Counting.{OnlyCounts}
use Rattle.driver_link.specs.ServerRun.{ServerRun, TakesStep}
use Rattle.driver_link.specs.LinkState.{LinkState, server_run}
use Rattle.link_faults.specs.Failures.{is_network}
use Rattle.driver_link.proofs.Lists.{none_told}
use Rattle.driver_session.specs.declared.retryability.Retryability.{Retryability}
use Rattle.driver_session.specs.declared.retryability.Retryability.TheVariants as may
use Rattle.driver_session.specs.StoreTells.{LendsSession, StoreTells}
use Rattle.driver_session.specs.Session.{Numbers, Raises, Session}
use Rattle.driver_session.proofs.UnchangedStore.{stays_then_lends, stays_twice}
use Rattle.driver_ops.specs.Fields.{in_context, under}
use Rattle.driver_ops.specs.Operations.{AsksFor, Batch, OperationSpec, send_of}
use Rattle.driver_ops.specs.SendKinds.{SendKind}
use Rattle.driver_attempt.specs.AttemptExchanges.{Exchanges, PageAsked, held_after, held_after_answer, held_after_pages}
use Rattle.driver_attempt.specs.Holding.{DrawsNumber, DrawsSession, GivesNumber, ExecutionSession, HoldsSession, dirty_session, held_id, needs_session}
use Rattle.driver_attempt.proofs.Attempts.{raises, stays}
use Rattle.driver_exec.specs.Resending.{AnsweredLast, IsNumbered, SentTimes, SentWithin}
use Rattle.driver_exec.proofs.PassesBy.{PassesLink, link_counted}
use Rattle.driver_exec.proofs.SendRelations.{answered_last, begins_unsent, none_sent, sent_answered, sent_lost, sent_maybe, sent_passed}
use Rattle.driver_exec.proofs.BorrowedSession.{CountFits, HeldFrom, HoldsFrom, HoldsLast, MayGoOn, NumberFits, Unnumbered, id_of, lends_then_stays, number_of, one_at_most}

module _ {A : Type 0} (spec : OperationSpec A) (batch : Batch) (store : StoreTells) (link : Option ServerRun) where
  -- what was done so far, in at most so many attempts
  pub record Course (most : ℕ) (store_now : StoreTells) (link_now : Option ServerRun) (session : Option Session) (sent : Option (Option ℤ)) : Type 0 where
    pub count : ℕ
    pub within : count ≤ most
    pub sends : (body : SendBody) → AsksFor spec batch body → SentTimes spec.paged link link_now (send_of (under (id_of session) (number_of sent)) body) count
    pub holds : HoldsFrom store store_now sent session
    pub fits : CountFits sent count

  -- what was done once the operation is over
  pub record Over (most : ℕ) (store_now : StoreTells) (link_now : Option ServerRun) (session : Option Session) (sent : Option (Option ℤ)) : Type 0 where
    pub sends : (body : SendBody) → AsksFor spec batch body → SentWithin spec.paged most link link_now (send_of (under (id_of session) (number_of sent)) body)
    pub holds : HoldsLast store store_now (number_of sent) session

  pub starts : Course 0 store link None None
  starts = record { count = 0; within = omega arith; sends = λ body asked. begins_unsent spec.paged link (send_of (under None None) body); holds = (refl, tt); fits = refl }

  -- what passed by, of which are calls that were only counted
  pub passed : (most : ℕ) (store_now : StoreTells) (mid now : Option ServerRun) (session : Option Session) (sent : Option (Option ℤ)) → PassesLink spec.paged mid now
      → Course most store_now mid session sent → Course most store_now now session sent
  passed most store_now mid now session sent passes course = record {
    count = course.count;
    within = course.within;
    sends = λ body asked. sent_passed spec.paged link mid now (send_of (under (id_of session) (number_of sent)) body) course.count (course.sends body asked) passes;
    holds = course.holds;
    fits = course.fits;
  }

  pub counted : (most : ℕ) (store_now : StoreTells) (mid now : Option ServerRun) (session : Option Session) (sent : Option (Option ℤ)) → OnlyCounts mid now
      → Course most store_now mid session sent → Course most store_now now session sent
  counted most store_now mid now session sent counts course = passed most store_now mid now session sent (link_counted spec.paged mid now counts) course

  -- the same once the operation is over
  pub over_passed : (most : ℕ) (store_now : StoreTells) (mid now : Option ServerRun) (session : Option Session) (sent : Option (Option ℤ)) → PassesLink spec.paged mid now
      → Over most store_now mid session sent → Over most store_now now session sent
  over_passed most store_now mid now session sent passes over = record {
    sends = λ body asked. let within = over.sends body asked in record {
      count = within.count;
      within = within.within;
      once = within.once;
      sends = sent_passed spec.paged link mid now (send_of (under (id_of session) (number_of sent)) body) within.count within.sends passes;
    };
    holds = over.holds;
  }

  -- one attempt more
  pub one_more : (most : ℕ) (store_now : StoreTells) (link_now : Option ServerRun) (session : Option Session) (sent : Option (Option ℤ))
      → Course most store_now link_now session sent → Course (suc most) store_now link_now session sent
  one_more most store_now link_now session sent course =
      record { count = course.count; within = omega (arith, course.within); sends = course.sends; holds = course.holds; fits = course.fits }

  -- a session was lent, before anything was sent
  lent_now : (most : ℕ) (store_mid store_now : StoreTells) (link_now : Option ServerRun) (at : ℕ) (session : Session)
      → LendsSession store_mid store_now at session → Course most store_mid link_now None None → Course most store_now link_now (Some session) None
  lent_now most store_mid store_now link_now at session lends course = record {
    count = 0;
    within = omega arith;
    sends = λ body asked. none_sent spec.paged link link_now (send_of (under None None) body) (send_of (under (Some session.id) None) body) course.count course.fits (course.sends body asked);
    holds = record {
      at = at;
      lent = session;
      lends = stays_then_lends store store_mid store_now at session course.holds.0 lends;
      id = refl;
      number = refl;
    };
    fits = refl;
  }

  -- the store stays
  pub store_stays : (most : ℕ) (store_mid store_now : StoreTells) (link_now : Option ServerRun) (session : Option Session) (sent : Option (Option ℤ))
      → store_now ≡ store_mid → Course most store_mid link_now session sent → Course most store_now link_now session sent
  store_stays most store_mid store_now link_now session sent stays course =
      record { count = course.count; within = course.within; sends = course.sends; holds = by_session session course.holds; fits = course.fits }
    where
      by_session : (session : Option Session) → HoldsFrom store store_mid sent session → HoldsFrom store store_now sent session
      by_session None holds = (stays_twice store store_mid store_now holds.0 stays, holds.1)
      by_session (Some held) holds = record {
        at = holds.at;
        lent = holds.lent;
        lends = lends_then_stays store store_mid store_now holds.at holds.lent holds.lends stays;
        id = holds.id;
        number = holds.number;
      }

  -- where a session is needed one was lent, and nothing had been sent
  pub readied : (most : ℕ) (store_mid store_now : StoreTells) (link_now : Option ServerRun) (asked : Bool) (held ready : ExecutionSession)
      → HoldsSession (needs_session asked held) store_mid store_now held ready (Ok tt)
      → Course most store_mid link_now held.session held.sent → Course most store_now link_now ready.session ready.sent
  readied most store_mid store_now link_now asked held ready holds course = by_need (needs_session asked held) refl holds
    where
      kept : (now : ExecutionSession) → now ≡ held → Course most store_mid link_now held.session held.sent → Course most store_mid link_now now.session now.sent
      kept now is course = subst (λ h. Course most store_mid link_now h.session h.sent) (sym is) course

      by_need : (needed : Bool) → needs_session asked held ≡ needed → HoldsSession needed store_mid store_now held ready (Ok tt) → Course most store_now link_now ready.session ready.sent
      by_need false is holds = subst (λ s. Course most s link_now ready.session ready.sent) (sym holds.0) (kept ready holds.1 course)
      by_need true is holds =
          let both = and_parts (asked && is_none held.session) (is_none held.sent) is in
          let first = and_parts asked (is_none held.session) both.0 in
          let none = none_told held.session first.1 in
          let unsent = none_told held.sent both.1 in
          let bare : Course most store_mid link_now None None
          = subst (λ s. Course most store_mid link_now s None) none (subst (λ s. Course most store_mid link_now held.session s) unsent course) in
          let lent = lent_now most store_mid store_now link_now holds.at holds.session holds.lends bare in
          let is_ready : ready ≡ record { session = Some holds.session; sent = None } = holds.is ∙ ap (λ s. record { session = Some holds.session; sent = s }) unsent in
          subst (λ h. Course most store_now link_now h.session h.sent) (sym is_ready) lent

  -- what is held when the operation is over
  last_holds : (store_now : StoreTells) (sent : Option (Option ℤ)) (session : Option Session) → HoldsFrom store store_now sent session
      → HoldsLast store store_now (number_of sent) session
  last_holds store_now sent None holds = (holds.0, no_number sent holds.1)
    where
      no_number : (sent : Option (Option ℤ)) → Unnumbered sent → number_of sent ≡ None
      no_number (Some (Some number)) none = absurd none
      no_number (Some None) none = refl
      no_number None none = refl
  last_holds store_now sent (Some session) holds = record {
    at = holds.at;
    lent = holds.lent;
    lends = holds.lends;
    id = holds.id;
    number = by_sent sent holds.number;
  }
    where
      by_sent : (sent : Option (Option ℤ)) → NumberFits sent holds.lent session → IsNumbered (number_of sent) holds.lent session
      by_sent (Some (Some number)) fits = fits
      by_sent (Some None) fits = stays holds.lent session fits
      by_sent None fits = stays holds.lent session fits

  pub course_over : (most : ℕ) (store_now : StoreTells) (link_now : Option ServerRun) (session : Option Session) (sent : Option (Option ℤ))
      → Course most store_now link_now session sent → Over most store_now link_now session sent
  course_over most store_now link_now session sent course = record {
    sends = λ body asked. record {
      count = course.count;
      within = course.within;
      once = one_at_most sent course.count course.fits;
      sends = course.sends body asked;
    };
    holds = last_holds store_now sent session course.holds;
  }

  -- what is held once a number was drawn, and what is then sent
  pub record Drawn (held numbered : ExecutionSession) (number : Option ℤ) (store_now : StoreTells) : Type 0 where
    pub same_id : id_of numbered.session ≡ id_of held.session
    pub same_sent : numbered.sent ≡ held.sent
    pub holds : HoldsFrom store store_now (Some number) numbered.session
    pub again : (before : Option ℤ) → held.sent ≡ Some before → number ≡ before

  drawn_from : (store_now : StoreTells) (session : Session) (now : Option Session) (number : Option ℤ) (numbered : Session) (next : Result ℤ Error)
      → HeldFrom (NumberFits None) store store_now session → Numbers session numbered next → now ≡ Some numbered → GivesNumber next (Ok number)
      → (id_of now ≡ Some session.id) × HoldsFrom store store_now (Some number) now
  drawn_from store_now session now number numbered (Err error) held numbers is gives = absurd (let e : ◌≡◌ {A = Result (Option ℤ) Error} (Ok number) (Err error) = gives in cc)
  drawn_from store_now session now number numbered (Ok next) held numbers is gives =
      let number_is : number ≡ Some next = cc gives in
      let id_same : numbered.id ≡ session.id = ap (λ s. s.id) numbers.2 in
      let number_same : numbered.number ≡ next = ap (λ s. s.number) numbers.2 in
      let raised : Raises held.lent numbered = raises session numbered next numbers ∙ ap (λ n. n +ℤ pos 1) held.number in
      let holds : HoldsFrom store store_now (Some (Some next)) (Some numbered) = record {
        at = held.at;
        lent = held.lent;
        lends = held.lends;
        id = id_same ∙ held.id;
        number = (number_same, raised);
      } in (
        ap id_of is ∙ ap (λ id. Some id) id_same,
        subst (λ s. HoldsFrom store store_now (Some number) s) (sym is) (subst (λ n. HoldsFrom store store_now (Some n) (Some numbered)) (sym number_is) holds),
      )

  -- none was drawn
  undrawn : (store_now : StoreTells) (session now : Option Session) (number : Option ℤ) → HoldsFrom store store_now None session
      → now ≡ session → ◌≡◌ {A = Result (Option ℤ) Error} (Ok number) (Ok None) → (id_of now ≡ id_of session) × HoldsFrom store store_now (Some number) now
  undrawn store_now session now number holds is none =
      let number_is : number ≡ None = cc none in (
        ap id_of is,
        subst (λ s. HoldsFrom store store_now (Some number) s) (sym is) (subst (λ n. HoldsFrom store store_now (Some n) session) (sym number_is) (by_session session holds)),
      )
    where
      by_session : (session : Option Session) → HoldsFrom store store_now None session → HoldsFrom store store_now (Some None) session
      by_session None holds = (holds.0, tt)
      by_session (Some held) holds = holds

  first_drawn : (store_now : StoreTells) (connection_retryability : Retryability) (session now : Option Session) (number : Option ℤ) → HoldsFrom store store_now None session
      → DrawsSession connection_retryability session now (Ok number) → (id_of now ≡ id_of session) × HoldsFrom store store_now (Some number) now
  first_drawn store_now may.Write (Some session) now number holds draws =
      drawn_from store_now session now number draws.numbered draws.next holds draws.numbers draws.is draws.gives
  first_drawn store_now may.Write None now number holds draws = undrawn store_now None now number holds draws.0 draws.1
  first_drawn store_now other session now number holds draws = undrawn store_now session now number holds draws.0 draws.1

  pub drawn : (store_now : StoreTells) (connection_retryability : Retryability) (held numbered : ExecutionSession) (number : Option ℤ) → HoldsFrom store store_now held.sent held.session
      → DrawsNumber held.sent connection_retryability held numbered (Ok number) → Drawn held numbered number store_now
  drawn store_now connection_retryability held numbered number holds draws = by_sent held.sent refl holds draws
    where
      by_sent : (sent : Option (Option ℤ)) → held.sent ≡ sent → HoldsFrom store store_now sent held.session → DrawsNumber sent connection_retryability held numbered (Ok number)
          → Drawn held numbered number store_now
      by_sent (Some before) is holds draws =
          let number_is : number ≡ before = cc draws.1 in record {
            same_id = ap (λ h. id_of h.session) draws.0;
            same_sent = ap (λ h. h.sent) draws.0;
            holds = subst (λ n. HoldsFrom store store_now (Some n) numbered.session) (sym number_is)
                (subst (λ h. HoldsFrom store store_now (Some before) h.session) (sym draws.0) holds);
            again = λ other found. let same : before ≡ other = cc (sym is ∙ found) in number_is ∙ same;
          }
      by_sent None is holds draws =
          let first = first_drawn store_now connection_retryability held.session draws.session number holds draws.draws in record {
            same_id = ap (λ h. id_of h.session) draws.is ∙ first.0;
            same_sent = ap (λ h. h.sent) draws.is;
            holds = subst (λ h. HoldsFrom store store_now (Some number) h.session) (sym draws.is) first.1;
            again = λ other found. absurd (let e : ◌≡◌ {A = Option (Option ℤ)} None (Some other) = sym is ∙ found in cc);
          }

  -- a session under which the network failed
  soiled : (store_now : StoreTells) (sent : Option (Option ℤ)) (session : Option Session) → HoldsFrom store store_now sent session
      → HoldsFrom store store_now sent (option_map dirty_session session)
  soiled store_now sent None holds = holds
  soiled store_now sent (Some session) holds = record {
    at = holds.at;
    lent = holds.lent;
    lends = holds.lends;
    id = holds.id;
    number = number_same sent holds.number;
  }
    where
      number_same : (sent : Option (Option ℤ)) → NumberFits sent holds.lent session → NumberFits sent holds.lent (dirty_session session)
      number_same (Some (Some number)) fits = fits
      number_same (Some None) fits = fits
      number_same None fits = fits

  -- what is held after an exchange has the same id, and the same number
  record HeldAfter (held now : ExecutionSession) (store_now : StoreTells) : Type 0 where
    id : id_of now.session ≡ id_of held.session
    sent : now.sent ≡ held.sent
    holds : HoldsFrom store store_now held.sent now.session

  after_exchange : (store_now : StoreTells) (held : ExecutionSession) (result : Result (List ℕ) LinkError) → HoldsFrom store store_now held.sent held.session
      → HeldAfter held (held_after result held) store_now
  after_exchange store_now held (Ok reply) holds = record { id = refl; sent = refl; holds = holds }
  after_exchange store_now held (Err Memory) holds = record { id = refl; sent = refl; holds = holds }
  after_exchange store_now held (Err (Fault fault labels)) holds = by_network (is_network fault)
    where
      dirty_id : (session : Option Session) → id_of (option_map dirty_session session) ≡ id_of session
      dirty_id None = refl
      dirty_id (Some session) = refl

      by_network : (network : Bool) → HeldAfter held (if network then record held { session = option_map dirty_session held.session } else held) store_now
      by_network true = record { id = dirty_id held.session; sent = refl; holds = soiled store_now held.sent held.session holds }
      by_network false = record { id = refl; sent = refl; holds = holds }

  -- what is held after further pages has the same id and number
  after_answer : (store_now : StoreTells) (held : ExecutionSession) (answered : Option (Result (List ℕ) LinkError)) → HoldsFrom store store_now held.sent held.session
      → HeldAfter held (held_after_answer answered held) store_now
  after_answer store_now held None holds = record { id = refl; sent = refl; holds = holds }
  after_answer store_now held (Some result) holds = after_exchange store_now held result holds

  after_pages : (store_now : StoreTells) (held : ExecutionSession) (asked : List PageAsked) → HoldsFrom store store_now held.sent held.session
      → HeldAfter held (held_after_pages asked held) store_now
  after_pages store_now held [] holds = record { id = refl; sent = refl; holds = holds }
  after_pages store_now held (last ∷ earlier) holds = after_answer store_now held last.answered holds

  pub pages_course : (most : ℕ) (store_now : StoreTells) (link_now : Option ServerRun) (held : ExecutionSession) (asked : List PageAsked) → Course most store_now link_now held.session held.sent
      → Course most store_now link_now (held_after_pages asked held).session (held_after_pages asked held).sent
  pages_course most store_now link_now held asked course =
      let after = after_pages store_now held asked course.holds in
      subst (λ s. Course most store_now link_now (held_after_pages asked held).session s) (sym after.sent) (record {
        count = course.count;
        within = course.within;
        sends = λ body with_places.
            subst (λ id. SentTimes spec.paged link link_now (send_of (under id (number_of held.sent)) body) course.count) (sym after.id) (course.sends body with_places);
        holds = after.holds;
        fits = course.fits;
      })

  -- how many sends there are with one more
  fits_more : (sent : Option (Option ℤ)) (number : Option ℤ) (count : ℕ) → MayGoOn sent → CountFits sent count → ((before : Option ℤ) → sent ≡ Some before → number ≡ before)
      → CountFits (Some number) (suc count)
  fits_more None None count goes fits again = omega (arith, fits)
  fits_more None (Some number) count goes fits again = omega arith
  fits_more (Some None) number count goes fits again = absurd goes
  fits_more (Some (Some before)) None count goes fits again = absurd (let e : ◌≡◌ {A = Option ℤ} None (Some before) = again (Some before) refl in cc)
  fits_more (Some (Some before)) (Some number) count goes fits again = omega arith

  -- the send is the one before, where there was one
  same_send : (mid : Option ServerRun) (session : Option (List ℕ)) (sent : Option (Option ℤ)) (number : Option ℤ) (count : ℕ) (body : SendBody)
      → ((before : Option ℤ) → sent ≡ Some before → number ≡ before) → CountFits sent count → SentTimes spec.paged link mid (send_of (under session (number_of sent)) body) count
      → SentTimes spec.paged link mid (send_of (under session number) body) count
  same_send mid session None number count body again fits sent =
      subst (λ n. SentTimes spec.paged link mid (send_of (under session number) body) n) (sym fits) (none_sent spec.paged link mid (send_of (under session None) body) (send_of (under session number) body) count fits sent)
  same_send mid session (Some before) number count body again fits sent =
      subst (λ n. SentTimes spec.paged link mid (send_of (under session n) body) count) (sym (again before refl)) sent

  module _ (most : ℕ) (store_now : StoreTells) (mid : LinkState) (now : LinkState) (ready numbered : ExecutionSession) (connection_retryability : Retryability) (number : Option ℤ)
      (goes : MayGoOn ready.sent) (draws : DrawsNumber ready.sent connection_retryability ready numbered (Ok number)) (course : Course most store_now (server_run mid) ready.session ready.sent) where
    abbrev held : ExecutionSession
    held = record numbered { sent = Some number }

    is_drawn : Drawn ready numbered number store_now
    is_drawn = drawn store_now connection_retryability ready numbered number course.holds draws

    -- the sends so far, as this one
    so_far : (body : SendBody) → AsksFor spec batch body → SentTimes spec.paged link (server_run mid) (send_of (under (id_of numbered.session) number) body) course.count
    so_far body asked = subst (λ id. SentTimes spec.paged link (server_run mid) (send_of (under id number) body) course.count) (sym is_drawn.same_id)
        (same_send (server_run mid) (id_of ready.session) ready.sent number course.count body is_drawn.again course.fits (course.sends body asked))

    module _ {which : SendKind} {concern : Option WriteConcern} (conn : Conn) (result : Result (List ℕ) LinkError)
        (exchanges : Exchanges spec which batch mid now conn (in_context (held_id numbered) number concern) result) where
      kept : HeldAfter held (held_after result held) store_now
      kept = after_exchange store_now held result is_drawn.holds

      -- a send that was answered or lost
      sent_course : ((body : SendBody) → AsksFor spec batch body → SentTimes spec.paged link (server_run now) (send_of (under (id_of numbered.session) number) body) (suc course.count))
          → Course (suc most) store_now (server_run now) (held_after result held).session (held_after result held).sent
      sent_course sends = subst (λ s. Course (suc most) store_now (server_run now) (held_after result held).session s) (sym kept.sent) (record {
        count = suc course.count;
        within = omega (arith, course.within);
        sends = λ body asked. subst (λ id. SentTimes spec.paged link (server_run now) (send_of (under id number) body) (suc course.count)) (sym kept.id) (sends body asked);
        holds = kept.holds;
        fits = fits_more ready.sent number course.count goes course.fits is_drawn.again;
      })

      answered_sends : (bytes : List ℕ) → result ≡ Ok bytes → (body : SendBody) → AsksFor spec batch body
          → SentTimes spec.paged link (server_run now) (send_of (under (id_of numbered.session) number) body) (suc course.count)
      answered_sends bytes is body asked = sent_answered spec.paged link (send_of (under (id_of numbered.session) number) body) course.count (server_run mid) (server_run now) bytes (so_far body asked)
          (subst (λ r. TakesStep (server_run mid) (server_run now) (send_of (under (id_of numbered.session) number) body) r) is (exchanges.exchanges.steps _ (exchanges.reads body asked)))

      lost_sends : (fault : LinkFault) (labels : List (List ℕ)) → result ≡ Err (Fault fault labels) → (body : SendBody) → AsksFor spec batch body
          → SentTimes spec.paged link (server_run now) (send_of (under (id_of numbered.session) number) body) (suc course.count)
      lost_sends fault labels is body asked = sent_lost spec.paged link (send_of (under (id_of numbered.session) number) body) course.count (server_run mid) (server_run now) fault labels (so_far body asked)
          (subst (λ r. TakesStep (server_run mid) (server_run now) (send_of (under (id_of numbered.session) number) body) r) is (exchanges.exchanges.steps _ (exchanges.reads body asked)))

      pub answered_course : (bytes : List ℕ) → result ≡ Ok bytes → Course (suc most) store_now (server_run now) (held_after result held).session (held_after result held).sent
      answered_course bytes is = sent_course (answered_sends bytes is)

      pub lost_course : (fault : LinkFault) (labels : List (List ℕ)) → result ≡ Err (Fault fault labels)
          → Course (suc most) store_now (server_run now) (held_after result held).session (held_after result held).sent
      lost_course fault labels is = sent_course (lost_sends fault labels is)

      -- want of memory in the exchange: the send went out or not
      memory_over : result ≡ Err Memory → Over (suc most) store_now (server_run now) numbered.session (Some number)
      memory_over is = record {
        sends = λ body asked.
            let send = send_of (under (id_of numbered.session) number) body in
            let fits = fits_more ready.sent number course.count goes course.fits is_drawn.again in
            elim (sent_maybe spec.paged link send course.count (server_run mid) (server_run now) (so_far body asked)
            (subst (λ r. TakesStep (server_run mid) (server_run now) send r) is (exchanges.exchanges.steps _ (exchanges.reads body asked)))) [
              | inl same ↦ record {
                count = course.count;
                within = omega (arith, course.within);
                once = λ none. let most_one = one_at_most (Some number) (suc course.count) fits none in omega arith;
                sends = same;
              }
              | inr more ↦ record {
                count = suc course.count;
                within = omega (arith, course.within);
                once = one_at_most (Some number) (suc course.count) fits;
                sends = more;
              }
            ];
        holds = last_holds store_now (Some number) numbered.session is_drawn.holds;
      }

      abbrev OverAfter : Result (List ℕ) LinkError → Type 0
      OverAfter found = Over (suc most) store_now (server_run now) (held_after found held).session (held_after found held).sent

      pub sent_over : OverAfter result
      sent_over = by_result result refl
        where
          over_course : Course (suc most) store_now (server_run now) (held_after result held).session (held_after result held).sent → OverAfter result
          over_course course = course_over (suc most) store_now (server_run now) (held_after result held).session (held_after result held).sent course

          by_result : (found : Result (List ℕ) LinkError) → result ≡ found → OverAfter found
          by_result (Ok bytes) is = subst OverAfter is (over_course (answered_course bytes is))
          by_result (Err Memory) is = memory_over is
          by_result (Err (Fault fault labels)) is = subst OverAfter is (over_course (lost_course fault labels is))

      -- the reply answers the last send
      abbrev send_now : SendBody → Send
      send_now body = send_of (under (id_of (held_after result held).session) (number_of (held_after result held).sent)) body

      pub answered_now : (bytes : List ℕ) → result ≡ Ok bytes → (body : SendBody) → AsksFor spec batch body → AnsweredLast spec batch.statements link (server_run now) (send_now body) course.count bytes []
      answered_now bytes is body asked =
          let send = send_of (under (id_of numbered.session) number) body in
          let last = answered_last spec batch.statements link send course.count (server_run mid) (server_run now) bytes (so_far body asked)
          (subst (λ r. TakesStep (server_run mid) (server_run now) send r) is (exchanges.exchanges.steps _ (exchanges.reads body asked))) in
          subst (λ id. AnsweredLast spec batch.statements link (server_run now) (send_of (under id (number_of (held_after result held).sent)) body) course.count bytes []) (sym kept.id)
          (subst (λ sent. AnsweredLast spec batch.statements link (server_run now) (send_of (under (id_of numbered.session) (number_of sent)) body) course.count bytes []) (sym kept.sent) last)

      -- it is one send more
      pub fits_now : CountFits (held_after result held).sent (suc course.count)
      fits_now = subst (λ s. CountFits s (suc course.count)) (sym kept.sent) (fits_more ready.sent number course.count goes course.fits is_drawn.again)

      -- without a number there was none before it
      pub first_alone : number_of (held_after result held).sent ≡ None → course.count ≡ 0
      first_alone none = by_sent ready.sent number goes course.fits is_drawn.again (ap number_of (sym kept.sent) ∙ none)
        where
          by_sent : (sent : Option (Option ℤ)) (number : Option ℤ) → MayGoOn sent → CountFits sent course.count → ((before : Option ℤ) → sent ≡ Some before → number ≡ before)
              → number ≡ None → course.count ≡ 0
          by_sent None number goes fits again none = fits
          by_sent (Some None) number goes fits again none = absurd goes
          by_sent (Some (Some before)) number goes fits again none = absurd (let e : ◌≡◌ {A = Option ℤ} (Some before) None = sym (again (Some before) refl) ∙ none in cc)
