-- An error that was read in the reply to one of an operation's sends, and what the operation did after it.
use Rattle.std.proofs.Common.{◌≡◌, ℕ, suc, ◌+◌, ◌≤◌, List, [], ◌∷◌, refl, sym, ap, subst, ◌∙◌, arith}
use Rattle.std.specs.Prelude.{ℤ, Bool, true, false, ◌&&◌, Option, None, Some, is_none, Result, Ok, Err, if◌then◌else◌}
use Rattle.std.specs.Option.{option_map}
use Rattle.std.proofs.lemmas.Bool.{and_parts}
use Rattle.driver_error.specs.declared.error.Error.{Error}
use Rattle.driver_error.specs.Error.{kind_of, source_of}
use Rattle.driver_options.specs.declared.concerns.WriteConcern.{WriteConcern}
use Rattle.driver_options.specs.declared.options.Conn.{Conn}
use Rattle.link_faults.specs.declared.fault.LinkError.{LinkError}
use Rattle.link_faults.specs.declared.fault.LinkError.TheVariants.{Fault, Memory}
use Rattle.link_faults.specs.declared.fault.LinkFault.{LinkFault}
use Rattle.driver_link.specs.declared.machine.SendBody.{SendBody}
use Rattle.driver_link.specs.Counting.{OnlyCounts}
use Rattle.link_faults.specs.Failures.{is_network}
use Rattle.driver_link.specs.LinkState.{LinkState, server_run}
use Rattle.driver_link.specs.ServerRun.{ServerRun, TakesStep}
use Rattle.driver_link.proofs.Lists.{none_told}
use Rattle.driver_session.specs.declared.retryability.Retryability.{Retryability}
use Rattle.driver_session.specs.Session.{Session}
use Rattle.driver_session.specs.StoreTells.{StoreTells}
use Rattle.driver_ops.specs.Fields.{in_context, under}
use Rattle.driver_ops.specs.Operations.{AsksFor, Batch, OperationSpec, Page, ReadsPages, send_of}
use Rattle.driver_ops.specs.SendKinds.{SendKind}
use Rattle.driver_attempt.specs.AttemptExchanges.{Exchanges, PageAsked, held_after, held_after_answer, held_after_pages}
use Rattle.driver_attempt.specs.Attempting.{AttemptState, AttemptedOperation, ReadsOn}
use Rattle.driver_attempt.specs.Holding.{DrawsNumber, ExecutionSession, HoldsSession, dirty_session, held_id, needs_session}
use Rattle.driver_exec.specs.Resending.{AnsweredAmong, ReadsOne}
use Rattle.driver_exec.proofs.BorrowedSession.{CountFits, MayGoOn, id_of, number_of, one_at_most}
use Rattle.driver_exec.proofs.FixedNumbers.{after_sent, pages_sent}
use Rattle.driver_exec.proofs.PassesBy.{PassesLink, link_counted}
use Rattle.driver_exec.proofs.SendRelations.{among_answered, among_lost, among_passed}

-- what is held after an exchange has the same id
pub after_id : (result : Result (List ℕ) LinkError) (held : ExecutionSession) → id_of (held_after result held).session ≡ id_of held.session
after_id (Ok reply) held = refl
after_id (Err Memory) held = refl
after_id (Err (Fault fault labels)) held = by_network (is_network fault)
  where
    dirty_id : (session : Option Session) → id_of (option_map dirty_session session) ≡ id_of session
    dirty_id None = refl
    dirty_id (Some session) = refl

    by_network : (network : Bool) → id_of (if network then record held { session = option_map dirty_session held.session } else held).session ≡ id_of held.session
    by_network true = dirty_id held.session
    by_network false = refl

answer_id : (answered : Option (Result (List ℕ) LinkError)) (held : ExecutionSession) → id_of (held_after_answer answered held).session ≡ id_of held.session
answer_id None held = refl
answer_id (Some result) held = after_id result held

-- so has what is held after further pages
pages_id : (asked : List PageAsked) (held : ExecutionSession) → id_of (held_after_pages asked held).session ≡ id_of held.session
pages_id [] held = refl
pages_id (last ∷ earlier) held = answer_id last.answered held

pub read_id : {A : Type 0} {op : AttemptedOperation A} {conn : Conn} {reply : List ℕ} {answer : Result A Error} (behind now : AttemptState) → ReadsOn op conn reply behind now answer → id_of now.held.session ≡ id_of behind.held.session
read_id behind now reads = ap (λ h. id_of h.session) reads.exchanges.held_is ∙ pages_id reads.exchanges.asked behind.held

-- where something was sent there was a send
sent_once : (count earlier later : ℕ) → count ≡ 0 → count ≡ suc (earlier + later) → ⊥
sent_once count earlier later none is = omega (arith, none, is)

-- of one send at most there is no other
no_other : (count earlier later : ℕ) → count ≤ 1 → count ≡ suc (earlier + later) → earlier + later ≡ 0
no_other count earlier later one is = omega (arith, one, is)

-- of two there is one other
one_other : (count earlier later most : ℕ) → count ≤ most → most ≤ 2 → count ≡ suc (earlier + later) → earlier + later ≤ 1
one_other count earlier later most within few is = omega (arith, within, few, is)

-- a number may be sent again
fits_again : (number : Option ℤ) (count : ℕ) → MayGoOn (Some number) → CountFits (Some number) (suc count)
fits_again None count goes = absurd goes
fits_again (Some number) count goes = omega arith

module _ {A : Type 0} (spec : OperationSpec A) (batch : Batch) (link : Option ServerRun) where
  -- the kind and the source of an error were read in the reply to one of the sends so far, and in the pages behind it; there were so
  -- many, in at most so many attempts
  pub record ReadSoFar (most : ℕ) (link_now : Option ServerRun) (session : Option Session) (sent : Option (Option ℤ)) (error : Error) : Type 0 where
    pub bytes : List ℕ
    pub pages : List Page
    pub alone : spec.paged ≡ false → pages ≡ []
    pub bare : Error
    pub reads : ReadsPages spec batch.statements bytes pages (Err bare)
    pub same_kind : kind_of error ≡ kind_of bare
    pub same_source : source_of error ≡ source_of bare
    pub earlier : ℕ
    pub later : ℕ
    pub count : ℕ
    pub count_is : count ≡ suc (earlier + later)
    pub within : count ≤ most
    pub fits : CountFits sent count
    pub answered : (body : SendBody) → AsksFor spec batch body
        → AnsweredAmong spec batch.statements link link_now (send_of (under (id_of session) (number_of sent)) body) earlier later bytes pages

  -- another error of that kind
  pub read_as : (most : ℕ) (link_now : Option ServerRun) (session : Option Session) (sent : Option (Option ℤ)) (error other : Error) → kind_of other ≡ kind_of error → source_of other ≡ source_of error
      → ReadSoFar most link_now session sent error → ReadSoFar most link_now session sent other
  read_as most link_now session sent error other same same_source read = record {
    bytes = read.bytes;
    pages = read.pages;
    alone = read.alone;
    bare = read.bare;
    reads = read.reads;
    same_kind = same ∙ read.same_kind;
    same_source = same_source ∙ read.same_source;
    earlier = read.earlier;
    later = read.later;
    count = read.count;
    count_is = read.count_is;
    within = read.within;
    fits = read.fits;
    answered = read.answered;
  }

  -- what passed by, of which are calls that were only counted
  pub read_passed : (most : ℕ) (mid now : Option ServerRun) (session : Option Session) (sent : Option (Option ℤ)) (error : Error) → PassesLink spec.paged mid now
      → ReadSoFar most mid session sent error → ReadSoFar most now session sent error
  read_passed most mid now session sent error passes read = record {
    bytes = read.bytes;
    pages = read.pages;
    alone = read.alone;
    bare = read.bare;
    reads = read.reads;
    same_kind = read.same_kind;
    same_source = read.same_source;
    earlier = read.earlier;
    later = read.later;
    count = read.count;
    count_is = read.count_is;
    within = read.within;
    fits = read.fits;
    answered = λ body asked.
        among_passed spec batch.statements link (send_of (under (id_of session) (number_of sent)) body) read.earlier read.later read.bytes read.pages mid now (read.answered body asked) passes;
  }

  pub read_counted : (most : ℕ) (mid now : Option ServerRun) (session : Option Session) (sent : Option (Option ℤ)) (error : Error) → OnlyCounts mid now
      → ReadSoFar most mid session sent error → ReadSoFar most now session sent error
  read_counted most mid now session sent error counts read = read_passed most mid now session sent error (link_counted spec.paged mid now counts) read

  -- further pages of a later answer
  pub pages_read : (most : ℕ) (link_now : Option ServerRun) (held : ExecutionSession) (asked : List PageAsked) (error : Error) → ReadSoFar most link_now held.session held.sent error
      → ReadSoFar most link_now (held_after_pages asked held).session (held_after_pages asked held).sent error
  pages_read most link_now held asked error read =
      subst (λ s. ReadSoFar most link_now (held_after_pages asked held).session s error) (sym (pages_sent asked held)) (record {
        bytes = read.bytes;
        pages = read.pages;
        alone = read.alone;
        bare = read.bare;
        reads = read.reads;
        same_kind = read.same_kind;
        same_source = read.same_source;
        earlier = read.earlier;
        later = read.later;
        count = read.count;
        count_is = read.count_is;
        within = read.within;
        fits = read.fits;
        answered = λ body asks.
            subst (λ id. AnsweredAmong spec batch.statements link link_now (send_of (under id (number_of held.sent)) body) read.earlier read.later read.bytes read.pages) (sym (pages_id asked held)) (read.answered body asks);
      })

  -- one attempt more
  pub read_more : (most : ℕ) (link_now : Option ServerRun) (session : Option Session) (sent : Option (Option ℤ)) (error : Error)
      → ReadSoFar most link_now session sent error → ReadSoFar (suc most) link_now session sent error
  read_more most link_now session sent error read = record {
    bytes = read.bytes;
    pages = read.pages;
    alone = read.alone;
    bare = read.bare;
    reads = read.reads;
    same_kind = read.same_kind;
    same_source = read.same_source;
    earlier = read.earlier;
    later = read.later;
    count = read.count;
    count_is = read.count_is;
    within = omega (arith, read.within);
    fits = read.fits;
    answered = read.answered;
  }

  -- where nothing was sent there was no reply
  unsent_unread : (most : ℕ) (link_now : Option ServerRun) (session : Option Session) (sent : Option (Option ℤ)) (error : Error) → sent ≡ None
      → ReadSoFar most link_now session sent error → ⊥
  unsent_unread most link_now session sent error none read = sent_once read.count read.earlier read.later (subst (λ s. CountFits s read.count) none read.fits) read.count_is

  -- no session is lent after it
  pub read_ready : (most : ℕ) (store_mid store_now : StoreTells) (link_now : Option ServerRun) (asked : Bool) (held ready : ExecutionSession) (error : Error)
      → HoldsSession (needs_session asked held) store_mid store_now held ready (Ok tt)
      → ReadSoFar most link_now held.session held.sent error → ReadSoFar most link_now ready.session ready.sent error
  read_ready most store_mid store_now link_now asked held ready error holds read = by_need (needs_session asked held) refl holds
    where
      by_need : (needed : Bool) → needs_session asked held ≡ needed → HoldsSession needed store_mid store_now held ready (Ok tt)
          → ReadSoFar most link_now ready.session ready.sent error
      by_need false is holds = subst (λ h. ReadSoFar most link_now h.session h.sent error) (sym holds.1) read
      by_need true is holds =
          let both = and_parts (asked && is_none held.session) (is_none held.sent) is in
          absurd (unsent_unread most link_now held.session held.sent error (none_told held.sent both.1) read)

  -- and no first number is drawn
  pub read_again : (most : ℕ) (link_now : Option ServerRun) (connection_retryability : Retryability) (ready numbered : ExecutionSession) (number : Option ℤ) (error : Error)
      → DrawsNumber ready.sent connection_retryability ready numbered (Ok number)
      → ReadSoFar most link_now ready.session ready.sent error → ReadSoFar most link_now numbered.session numbered.sent error
  read_again most link_now connection_retryability ready numbered number error draws read = by_sent ready.sent refl draws
    where
      by_sent : (sent : Option (Option ℤ)) → ready.sent ≡ sent → DrawsNumber sent connection_retryability ready numbered (Ok number)
          → ReadSoFar most link_now numbered.session numbered.sent error
      by_sent None is draws = absurd (unsent_unread most link_now ready.session ready.sent error is read)
      by_sent (Some before) is draws = subst (λ h. ReadSoFar most link_now h.session h.sent error) (sym draws.0) read

  -- a further send is the same one
  module _ (most : ℕ) (mid now : LinkState) (ready numbered : ExecutionSession) (connection_retryability : Retryability) (number : Option ℤ) (error : Error)
      (goes : MayGoOn ready.sent) (draws : DrawsNumber ready.sent connection_retryability ready numbered (Ok number))
      (read : ReadSoFar most (server_run mid) ready.session ready.sent error) where
    -- what is held then
    abbrev held : ExecutionSession
    held = record numbered { sent = Some number }

    -- it has the number of the send before
    at_send : ReadSoFar most (server_run mid) numbered.session (Some number) error
    at_send = by_sent ready.sent refl draws
      where
        by_sent : (sent : Option (Option ℤ)) → ready.sent ≡ sent → DrawsNumber sent connection_retryability ready numbered (Ok number)
            → ReadSoFar most (server_run mid) numbered.session (Some number) error
        by_sent None is draws = absurd (unsent_unread most (server_run mid) ready.session ready.sent error is read)
        by_sent (Some before) is draws =
            let number_is : number ≡ before = cc draws.1 in
            subst (λ n. ReadSoFar most (server_run mid) numbered.session (Some n) error) (sym number_is)
            (subst (λ h. ReadSoFar most (server_run mid) h.session (Some before) error) (sym draws.0)
            (subst (λ s. ReadSoFar most (server_run mid) ready.session s error) is read))

    -- there is one
    goes_on : MayGoOn (Some number)
    goes_on = by_sent ready.sent refl goes draws
      where
        by_sent : (sent : Option (Option ℤ)) → ready.sent ≡ sent → MayGoOn sent → DrawsNumber sent connection_retryability ready numbered (Ok number) → MayGoOn (Some number)
        by_sent None is goes draws = absurd (unsent_unread most (server_run mid) ready.session ready.sent error is read)
        by_sent (Some before) is goes draws =
            let number_is : number ≡ before = cc draws.1 in
            subst (λ n. MayGoOn (Some n)) (sym number_is) goes

    module _ {which : SendKind} {concern : Option WriteConcern} (conn : Conn) (result : Result (List ℕ) LinkError)
        (exchanges : Exchanges spec which batch mid now conn (in_context (held_id numbered) number concern) result) where
      -- so it is one more behind the one that was answered so
      read_behind : ((body : SendBody) → AsksFor spec batch body
          → AnsweredAmong spec batch.statements link (server_run now) (send_of (under (id_of numbered.session) number) body) at_send.earlier (suc at_send.later) at_send.bytes at_send.pages)
          → ReadSoFar (suc most) (server_run now) (held_after result held).session (held_after result held).sent error
      read_behind sends = subst (λ s. ReadSoFar (suc most) (server_run now) (held_after result held).session s error) (sym (after_sent result held)) (record {
        bytes = at_send.bytes;
        pages = at_send.pages;
        alone = at_send.alone;
        bare = at_send.bare;
        reads = at_send.reads;
        same_kind = at_send.same_kind;
        same_source = at_send.same_source;
        earlier = at_send.earlier;
        later = suc at_send.later;
        count = suc at_send.count;
        count_is = omega (arith, at_send.count_is);
        within = omega (arith, at_send.within);
        fits = fits_again number at_send.count goes_on;
        answered = λ body asked. subst (λ id. AnsweredAmong spec batch.statements link (server_run now) (send_of (under id number) body) at_send.earlier (suc at_send.later) at_send.bytes at_send.pages)
            (sym (after_id result held)) (sends body asked);
      })

      pub read_answered : (bytes : List ℕ) → result ≡ Ok bytes → ReadSoFar (suc most) (server_run now) (held_after result held).session (held_after result held).sent error
      read_answered bytes is = read_behind (λ body asked.
          among_answered spec batch.statements link (send_of (under (id_of numbered.session) number) body) at_send.earlier at_send.later at_send.bytes at_send.pages (server_run mid) (server_run now) bytes (at_send.answered body asked)
          (subst (λ r. TakesStep (server_run mid) (server_run now) (send_of (under (id_of numbered.session) number) body) r) is (exchanges.exchanges.steps _ (exchanges.reads body asked))))

      pub read_lost : (fault : LinkFault) (labels : List (List ℕ)) → result ≡ Err (Fault fault labels)
          → ReadSoFar (suc most) (server_run now) (held_after result held).session (held_after result held).sent error
      read_lost fault labels is = read_behind (λ body asked.
          among_lost spec batch.statements link (send_of (under (id_of numbered.session) number) body) at_send.earlier at_send.later at_send.bytes at_send.pages (server_run mid) (server_run now) fault labels (at_send.answered body asked)
          (subst (λ r. TakesStep (server_run mid) (server_run now) (send_of (under (id_of numbered.session) number) body) r) is (exchanges.exchanges.steps _ (exchanges.reads body asked))))

  -- so the failure was read in the reply to one of at most two sends
  pub reads_one : (most : ℕ) (link_now : Option ServerRun) (session : Option Session) (sent : Option (Option ℤ)) (error : Error) → most ≤ 2
      → ReadSoFar most link_now session sent error → ReadsOne spec batch link link_now (id_of session) (number_of sent) error
  reads_one most link_now session sent error few read = record {
    bytes = read.bytes;
    pages = read.pages;
    alone = read.alone;
    bare = read.bare;
    reads = read.reads;
    same_kind = read.same_kind;
    same_source = read.same_source;
    earlier = read.earlier;
    later = read.later;
    within = one_other read.count read.earlier read.later most read.within few read.count_is;
    once = λ none. no_other read.count read.earlier read.later (one_at_most sent read.count read.fits none) read.count_is;
    answered = read.answered;
  }
