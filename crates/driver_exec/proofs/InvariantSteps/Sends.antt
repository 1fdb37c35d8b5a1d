-- The sends of one command outside transactions: they join the trace, and the server stays settled.
use Rattle.std.proofs.Common.{◌≡◌, ℕ, zero, suc, ◌≤◌, List, [], ◌∷◌, ◌++◌, refl, sym, ap, subst, ◌∙◌, inl, inr, arith, append_assoc}
use Rattle.std.specs.Prelude.{ℤ, ◌<ℤ◌, ◌≤ℤ◌, Bool, true, false, Option, None, Some, ◌⊎◌}
use Rattle.std.proofs.lemmas.Int.{ints}
use Rattle.std.proofs.lemmas.List.{append-nil}
use Rattle.driver_link.specs.declared.machine.Entry.{Entry}
use Rattle.driver_link.specs.declared.machine.Scheduled.{Scheduled}
use Rattle.driver_link.specs.declared.machine.Send.{Send}
use Rattle.driver_link.specs.declared.machine.SendBody.{SendBody}
use Rattle.driver_link.specs.declared.machine.Server.{Server}
use Rattle.driver_link.specs.Counting.{KeepsServer}
use Rattle.driver_link.specs.Exchange.{exchanged, next_step}
use Rattle.driver_link.specs.Settled.{Has, IsAside, IsOrderly, IsPlain, IsSettled, IsUnder, IsUnnumbered, IsWrite, MayJoin, SharePlace}
use Rattle.driver_link.specs.ServerRun.{ServerRun, run_after}
use Rattle.driver_link.proofs.CursorSends.{aside_joins, joins_behind}
use Rattle.driver_link.proofs.Lists.{has_either, has_last, has_left}
use Rattle.driver_link.proofs.LogGrowth.{exchanged_keeps}
use Rattle.driver_link.proofs.OrderlyTraces.{orderly_again, orderly_new}
use Rattle.driver_link.proofs.SettledExchanges.{exchanged_settled}
use Rattle.driver_session.specs.declared.pool.IdleSession.{IdleSession}
use Rattle.driver_session.specs.Pool.{Pool}
use Rattle.driver_session.specs.Session.{Session}
use Rattle.driver_ops.specs.Fields.{under}
use Rattle.driver_ops.specs.Operations.{send_of}
use Rattle.driver_exec.specs.BetweenCalls.{Between, FitsIdle, Knows, MaySendPlaces, NoneOf, SentUpTo, Sound}
use Rattle.driver_exec.specs.Keeping.{MayPass}
use Rattle.driver_exec.specs.Resending.{LeavesAside, PassesAside, PassesBy, SendsWhereTold}
use Rattle.driver_exec.proofs.TraceSessions.{Holding}

-- sends of one command, with commands of cursors among them, keep what holds of the trace
module _ (shown : Bool) (session : Option (List ℕ)) (number : Option ℤ) (body : SendBody)
    (Q : List Send → Type 0) (keep : (trace : List Send) → Q trace → Q (trace ++ send_of (under session number) body ∷ []))
    (keep_aside : (trace : List Send) (send : Send) → IsAside send → Q trace → Q (trace ++ send ∷ [])) where
  abbrev sent : Send
  sent = send_of (under session number) body

  -- what the sends so far made of a server
  pub record Going (old now : Server) : Type 0 where
    pub more : List Entry
    pub log : now.log ≡ old.log ++ more
    pub orderly : IsOrderly now.trace
    pub settled : IsSettled now.trace now
    pub which : (other : Send) → Has now.trace other → Has old.trace other ⊎ ((sent ≡ other) ⊎ MayPass shown other)
    pub holds : Q now.trace

  pub begins : (server : Server) → Sound server → Q server.trace → Going server server
  begins server sound holds = record {
    more = [];
    log = sym (append-nil server.log);
    orderly = sound.orderly;
    settled = sound.settled;
    which = λ other has. inl has;
    holds = holds;
  }

  -- one exchange, of the command or of one of a cursor
  goes : (old now : Server) (send : Send) (step : Scheduled) → (sent ≡ send) ⊎ MayPass shown send → ((trace : List Send) → Q trace → Q (trace ++ send ∷ [])) → MayJoin now.trace send → Going old now
      → Going old (exchanged now send step)
  goes old now send step is keeps joins going =
      let trace = now.trace ++ send ∷ [] in
      let done = exchanged now send step in
      let exchanges = exchanged_keeps now.trace now send step joins going.settled in
      let settled = exchanged_settled now.trace now send step joins going.settled in
      record {
        more = going.more ++ exchanges.more;
        log = exchanges.log ∙ ap (λ log. log ++ exchanges.more) going.log ∙ append_assoc old.log going.more exchanges.more;
        orderly = subst IsOrderly (sym exchanges.trace) joins;
        settled = subst (λ t. IsSettled t done) (sym exchanges.trace) settled;
        which = λ other has. longer_which other (subst (λ t. Has t other) exchanges.trace has);
        holds = subst Q (sym exchanges.trace) (keeps now.trace going.holds);
      }
    where
      last_is : (other : Send) → Has (send ∷ []) other → (sent ≡ other) ⊎ MayPass shown other
      last_is other last = elim last [ inl same ↦ subst (λ s. (sent ≡ s) ⊎ MayPass shown s) same is | inr none ↦ absurd none ]

      longer_which : (other : Send) → Has (now.trace ++ send ∷ []) other → Has old.trace other ⊎ ((sent ≡ other) ⊎ MayPass shown other)
      longer_which other has = elim (has_either now.trace (send ∷ []) other has) [
        | inl earlier ↦ going.which other earlier
        | inr last ↦ inr (last_is other last)
      ]

  -- the command itself
  goes_sent : (old : Server) (mid : ServerRun) → MayJoin mid.server.trace sent → Going old mid.server → Going old (run_after mid sent).server
  goes_sent old mid joins going = goes old mid.server sent (next_step mid.schedule mid.server) (inl refl) keep joins going

  -- one of a cursor, where there may be such
  goes_aside : shown ≡ true → (old : Server) (send : Send) → IsAside send → (mid : ServerRun) → Going old mid.server → Going old (run_after mid send).server
  goes_aside wide old send aside mid going =
      goes old mid.server send (next_step mid.schedule mid.server) (inr (subst (λ b. MayPass b send) (sym wide) aside)) (λ trace holds. keep_aside trace send aside holds) (aside_joins mid.server.trace send aside going.orderly) going

  -- all that passes by
  goes_passing : shown ≡ true → (old : Server) (sends : List Send) (mid now : ServerRun) → PassesAside mid now sends → Going old mid.server → Going old now.server
  goes_passing wide old [] mid now keeps going = subst (Going old) (sym keeps.server) going
  goes_passing wide old (send ∷ sends) mid now passes going =
      goes_passing wide old sends (run_after passes.0 send) now passes.1.2
      (goes_aside wide old send passes.1.1 passes.0 (subst (Going old) (sym passes.1.0.server) going))

  goes_by : (may : Bool) → (may ≡ true → shown ≡ true) → (old : Server) (mid now : ServerRun) → PassesBy may mid now → Going old mid.server → Going old now.server
  goes_by true wide old mid now leaves going = goes_passing (wide refl) old leaves.sends mid now leaves.passes going
  goes_by false wide old mid now keeps going = subst (Going old) (sym keeps.server) going

  -- the sends of a told link, of which each but the first is one that was sent before
  module _ (paged : Bool) (wide : paged ≡ true → shown ≡ true) (told : ServerRun) (start : Going told.server told.server) (first : MayJoin told.server.trace sent) where
    Keeping : ServerRun → Type 0
    Keeping now = Going told.server now.server × MayJoin now.server.trace sent

    kept : (mid now : ServerRun) → KeepsServer mid now → Keeping mid → Keeping now
    unfolding Keeping
    kept mid now keeps keeping = subst (λ s. Going told.server s × MayJoin s.trace sent) (sym keeps.server) keeping

    aside_more : shown ≡ true → (send : Send) → IsAside send → (mid : ServerRun) → Keeping mid → Keeping (run_after mid send)
    unfolding Keeping
    aside_more all send aside mid keeping =
        let joins = aside_joins mid.server.trace send aside keeping.0.orderly in
        let exchanges = exchanged_keeps mid.server.trace mid.server send (next_step mid.schedule mid.server) joins keeping.0.settled in (
          goes_aside all told.server send aside mid keeping.0,
          subst (λ t. MayJoin t sent) (sym exchanges.trace) (joins_behind mid.server.trace send sent aside keeping.1),
        )

    passing_keeps : shown ≡ true → (sends : List Send) (mid now : ServerRun) → PassesAside mid now sends → Keeping mid → Keeping now
    passing_keeps all [] mid now keeps keeping = kept mid now keeps keeping
    passing_keeps all (send ∷ sends) mid now passes keeping =
        passing_keeps all sends (run_after passes.0 send) now passes.1.2 (aside_more all send passes.1.1 passes.0 (kept mid passes.0 passes.1.0 keeping))

    by_keeps : (may : Bool) → (may ≡ true → shown ≡ true) → (mid now : ServerRun) → PassesBy may mid now → Keeping mid → Keeping now
    by_keeps true all mid now leaves keeping = passing_keeps (all refl) leaves.sends mid now leaves.passes keeping
    by_keeps false all mid now keeps keeping = kept mid now keeps keeping

    begins_keeping : Keeping told
    unfolding Keeping
    begins_keeping = (start, first)

    -- a number may be sent again
    one_more : IsPlain sent → (mid : ServerRun) → Keeping mid → Keeping (run_after mid sent)
    unfolding Keeping
    one_more plain mid keeping =
        let step = next_step mid.schedule mid.server in
        let going = goes_sent told.server mid keeping.1 keeping.0 in
        let exchanges = exchanged_keeps mid.server.trace mid.server sent step keeping.1 keeping.0.settled in
        let has : Has (exchanged mid.server sent step).trace sent = subst (λ t. Has t sent) (sym exchanges.trace) (has_last mid.server.trace sent) in
        (going, orderly_again (exchanged mid.server sent step).trace sent has plain going.orderly)

    numbered_keeps : IsPlain sent → (count : ℕ) (now : ServerRun) → SendsWhereTold paged told now sent count → Keeping now
    numbered_keeps plain zero now sends = by_keeps paged wide told now sends begins_keeping
    numbered_keeps plain (suc count) now sends = by_keeps paged wide (run_after sends.0 sent) now sends.1.1 (one_more plain sends.0 (numbered_keeps plain count sends.0 sends.1.0))

    pub numbered_goes : IsPlain sent → (count : ℕ) (now : ServerRun) → SendsWhereTold paged told now sent count → Going told.server now.server
    unfolding Keeping
    numbered_goes plain count now sends = (numbered_keeps plain count now sends).0

    -- without a number there is one send at most
    unnumbered_keeps : (now : ServerRun) → SendsWhereTold paged told now sent 0 → Keeping now
    unnumbered_keeps now sends = by_keeps paged wide told now sends begins_keeping

    unnumbered_sent : (mid : ServerRun) → SendsWhereTold paged told mid sent 0 → Going told.server (run_after mid sent).server
    unfolding Keeping
    unnumbered_sent mid sends = let keeping = unnumbered_keeps mid sends in goes_sent told.server mid keeping.1 keeping.0

    pub unnumbered_goes : (count : ℕ) (now : ServerRun) → count ≤ 1 → SendsWhereTold paged told now sent count → Going told.server now.server
    unfolding Keeping
    unnumbered_goes zero now one sends = (unnumbered_keeps now sends).0
    unnumbered_goes (suc zero) now one sends = goes_by paged wide told.server (run_after sends.0 sent) now sends.1.1 (unnumbered_sent sends.0 sends.1.0)
    unnumbered_goes (suc (suc count)) now one sends = absurd (omega arith)

    -- before the one send
    pub unnumbered_joins : (now : ServerRun) → SendsWhereTold paged told now sent 0 → MayJoin now.server.trace sent × IsSettled now.server.trace now.server
    unfolding Keeping
    unnumbered_joins now sends = let keeping = unnumbered_keeps now sends in (keeping.1, keeping.0.settled)

    -- what goes on behind one of them keeps each entry
    abbrev KeepsEntries : ServerRun → ServerRun → Type 0
    KeepsEntries mid now = (entry : Entry) → Has mid.server.log entry → Has now.server.log entry

    entries_kept : (mid now : ServerRun) → KeepsServer mid now → KeepsEntries mid now
    entries_kept mid now keeps = λ entry has. subst (λ s. Has s.log entry) (sym keeps.server) has

    -- an exchange does
    entries_stay : (send : Send) (mid : ServerRun) → MayJoin mid.server.trace send → IsSettled mid.server.trace mid.server → KeepsEntries mid (run_after mid send)
    entries_stay send mid joins settled = λ entry has.
        let exchanges = exchanged_keeps mid.server.trace mid.server send (next_step mid.schedule mid.server) joins settled in
        subst (λ log. Has log entry) (sym exchanges.log) (has_left mid.server.log exchanges.more entry has)

    -- so does all that passes by
    passing_stays : shown ≡ true → (sends : List Send) (mid now : ServerRun) → PassesAside mid now sends → Going told.server mid.server → KeepsEntries mid now
    passing_stays all [] mid now keeps going = entries_kept mid now keeps
    passing_stays all (send ∷ sends) mid now passes going = λ entry has.
        let here = subst (Going told.server) (sym passes.1.0.server) going in
        let joins = aside_joins passes.0.server.trace send passes.1.1 here.orderly in
        passing_stays all sends (run_after passes.0 send) now passes.1.2 (goes_aside all told.server send passes.1.1 passes.0 here) entry
        (entries_stay send passes.0 joins here.settled entry (entries_kept mid passes.0 passes.1.0 entry has))

    passes_stay : (may : Bool) → (may ≡ true → shown ≡ true) → (mid now : ServerRun) → PassesBy may mid now → Going told.server mid.server → KeepsEntries mid now
    passes_stay true all mid now leaves going = passing_stays (all refl) leaves.sends mid now leaves.passes going
    passes_stay false all mid now keeps going = entries_kept mid now keeps

    record Onward (mid now : ServerRun) : Type 0 where
      keeping : Keeping now
      entries : KeepsEntries mid now

    onward_by : (may : Bool) → (may ≡ true → shown ≡ true) → (first_run mid now : ServerRun) → PassesBy may mid now → Onward first_run mid → Onward first_run now
    unfolding Keeping
    onward_by may all first_run mid now passes far = record {
      keeping = by_keeps may all mid now passes far.keeping;
      entries = λ entry has. passes_stay may all mid now passes far.keeping.0 entry (far.entries entry has);
    }

    onward : IsPlain sent → (first_run mid : ServerRun) → Onward first_run mid → (count : ℕ) (now : ServerRun) → SendsWhereTold paged mid now sent count → Onward first_run now
    unfolding Keeping
    onward plain first_run mid far zero now sends = onward_by paged wide first_run mid now sends far
    onward plain first_run mid far (suc count) now sends =
        let last = sends.0 in
        let before = onward plain first_run mid far count last sends.1.0 in
        let after : Onward first_run (run_after last sent) = record {
          keeping = one_more plain last before.keeping;
          entries = λ entry has. entries_stay sent last before.keeping.1 before.keeping.0.settled entry (before.entries entry has);
        } in
        onward_by paged wide first_run (run_after last sent) now sends.1.1 after

    -- so do the pages and the sends behind one that is answered
    pub numbered_onward : shown ≡ true → IsPlain sent → (earlier : ℕ) (mid : ServerRun) → SendsWhereTold paged told mid sent earlier → (behind : ServerRun) → LeavesAside (run_after mid sent) behind
        → (later : ℕ) (now : ServerRun) → SendsWhereTold paged behind now sent later
        → (entry : Entry) → Has (run_after mid sent).server.log entry → Has now.server.log entry
    numbered_onward all plain earlier mid before behind leaves later now after entry has =
        let begun : Onward (run_after mid sent) (run_after mid sent) = record { keeping = one_more plain mid (numbered_keeps plain earlier mid before); entries = λ one stands. stands } in
        (onward plain (run_after mid sent) behind (onward_by true (λ is. all) (run_after mid sent) (run_after mid sent) behind leaves begun) later now after).entries entry has

    pub unnumbered_onward : shown ≡ true → (mid : ServerRun) → SendsWhereTold paged told mid sent 0 → (behind : ServerRun) → LeavesAside (run_after mid sent) behind → (now : ServerRun) → SendsWhereTold paged behind now sent 0
        → (entry : Entry) → Has (run_after mid sent).server.log entry → Has now.server.log entry
    unnumbered_onward all mid before behind leaves now after entry has =
        let going = unnumbered_sent mid before in
        passes_stay paged wide behind now after (goes_by true (λ is. all) told.server (run_after mid sent) behind leaves going) entry
        (passes_stay true (λ is. all) (run_after mid sent) behind leaves going entry has)

    -- before the last send
    pub numbered_joins : IsPlain sent → (count : ℕ) (now : ServerRun) → SendsWhereTold paged told now sent count → MayJoin now.server.trace sent
    unfolding Keeping
    numbered_joins plain count now sends = (numbered_keeps plain count now sends).1

-- a send of writes with a number and without one
pub numbered_send : (id : List ℕ) (number : ℤ) (body : SendBody) → IsWrite body → IsPlain (send_of (under (Some id) (Some number)) body)
numbered_send id number body writes = record { id = id; number = number; session = refl; numbered = refl; outside = refl; writes = writes }

pub unnumbered_send : (session : Option (List ℕ)) (body : SendBody) → IsWrite body → IsUnnumbered (send_of (under session None) body)
unnumbered_send session body writes = record { none = refl; outside = refl; writes = writes }

-- writes that may be sent
module _ (trace : List Send) (body : SendBody) (may_send : MaySendPlaces trace body) (orderly : IsOrderly trace) where
  -- no earlier send has one of their places
  new_place : (session : Option (List ℕ)) (number : Option ℤ) (earlier : Send) → Has trace earlier → SharePlace earlier (send_of (under session number) body) → ⊥
  new_place session number earlier has shares = may_send.new earlier shares.first shares.second shares.one shares.other has shares.stands shares.also shares.same

  -- they join under a new number of a session
  pub numbered_new : (id : List ℕ) (number last : ℤ) → SentUpTo id last trace → last <ℤ number → MayJoin trace (send_of (under (Some id) (Some number)) body)
  numbered_new id number last up raised =
      orderly_new trace (send_of (under (Some id) (Some number)) body) (inl (numbered_send id number body may_send.writes)) may_send.apart
      (new_place (Some id) (Some number)) new_number orderly
    where
      past : (last number n : ℤ) → n ≡ number → last <ℤ number → n ≤ℤ last → ⊥
      past last number n same raised within = omega (arith, ints)

      new_number : (earlier : Send) → Has trace earlier → IsPlain (send_of (under (Some id) (Some number)) body) → earlier.session ≡ Some id → earlier.number ≡ Some number → ⊥
      new_number earlier has plain session numbered = past last number number refl raised (up earlier number has (record { session = session; numbered = numbered }))

  -- and without a number
  pub unnumbered_new : (session : Option (List ℕ)) → MayJoin trace (send_of (under session None) body)
  unnumbered_new session =
      orderly_new trace (send_of (under session None) body) (inr (inl (unnumbered_send session body may_send.writes))) may_send.apart
      (new_place session None)
      (λ earlier has plain same numbered. let e : ◌≡◌ {A = Option ℤ} None (Some plain.number) = plain.numbered in absurd cc) orderly

-- a send without a number says nothing of sessions
module _ (trace : List Send) (sent : Send) (none : sent.number ≡ None) where
  not_under : (id : List ℕ) (n : ℤ) (send : Send) → sent ≡ send → IsUnder id n send → ⊥
  not_under id n send same under = let e : ◌≡◌ {A = Option ℤ} None (Some n) = sym none ∙ ap (λ s. s.number) same ∙ under.numbered in cc

  up_free : (id : List ℕ) (most : ℤ) → SentUpTo id most trace → SentUpTo id most (trace ++ sent ∷ [])
  up_free id most up = λ send n has under. elim (has_either trace (sent ∷ []) send has) [
    | inl earlier ↦ up send n earlier under
    | inr last ↦ elim last [ inl same ↦ absurd (not_under id n send same under) | inr none ↦ absurd none ]
  ]

  none_free : (id : List ℕ) → NoneOf id trace → NoneOf id (trace ++ sent ∷ [])
  none_free id nothing = λ send n has under. elim (has_either trace (sent ∷ []) send has) [
    | inl earlier ↦ nothing send n earlier under
    | inr last ↦ elim last [ inl same ↦ not_under id n send same under | inr none ↦ absurd none ]
  ]

  fits_free : (drawn : List (List ℕ)) (idle : List IdleSession) → FitsIdle drawn trace idle → FitsIdle drawn (trace ++ sent ∷ []) idle
  fits_free drawn [] fits = tt
  fits_free drawn (first ∷ idle) fits = (fits.0, up_free first.id first.number fits.1, fits.2, fits_free drawn idle fits.3)

  knows_free : (drawn : List (List ℕ)) (idle : List IdleSession) → Knows drawn idle trace → Knows drawn idle (trace ++ sent ∷ [])
  knows_free drawn idle knows = record { strangers = λ id not. none_free id (knows.strangers id not); fits = fits_free drawn idle knows.fits }

  pub holding_free : (pool : Pool) (session : Session) → Holding pool trace session → Holding pool (trace ++ sent ∷ []) session
  holding_free pool session holds = record {
    lent = holds.lent;
    knows = knows_free pool.drawn pool.idle holds.knows;
    among = holds.among;
    up_to = up_free session.id session.number holds.up_to;
    apart = holds.apart;
  }

  pub between_free : (pool : Pool) → Between pool trace → Between pool (trace ++ sent ∷ [])
  between_free pool between = record { lent = between.lent; knows = knows_free pool.drawn pool.idle between.knows }
