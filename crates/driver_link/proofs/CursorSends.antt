-- What a command of a cursor makes of a server: cursors alone change, so the invariant is kept.
use Rattle.std.proofs.Common.{◌≡◌, ℕ, true, false, cond, List, [], ◌∷◌, ◌++◌, length, refl, sym, ap, subst, ◌∙◌, inl, inr}
use Rattle.std.specs.Prelude.{Option, None, Some, ◌⊎◌, slice_get}
use Rattle.std.specs.FinMap as finite
use Rattle.std.proofs.lemmas.Bool.{cond-false}
use Rattle.std.proofs.lemmas.List.{append-nil}
use Rattle.driver_link.specs.declared.machine.KnownSession.{KnownSession}
use Rattle.driver_link.specs.declared.machine.PlacedWrite.{PlacedWrite}
use Rattle.driver_link.specs.declared.machine.Send.{Send}
use Rattle.driver_link.specs.declared.machine.SendBody.{SendBody}
use Rattle.driver_link.specs.declared.machine.SendBody.TheVariants.{Write, Commit, Abort, More, Kill}
use Rattle.driver_link.specs.declared.machine.Server.{Server}
use Rattle.driver_link.specs.declared.machine.Statement.{Statement}
use Rattle.driver_link.specs.Once.{Once}
use Rattle.driver_link.specs.Cases.{body_writes, case_as, case_of, is_decided, known_of, nothing, of_cursor, results_of, unnumbered_case, writes_of}
use Rattle.driver_link.specs.Exchange.{interrupted, interrupted_labels}
use Rattle.driver_link.specs.Honesty.{has_transient}
use Rattle.driver_link.specs.Interrupting.{interrupted_case, interrupted_done, interrupted_in, interruption, told_of_error, transient_as, session_interrupted}
use Rattle.driver_link.specs.Serving.{Plan, done_in, served, served_in, sessions_as, session_after}
use Rattle.driver_link.specs.Settled.{Has, IsAside, IsEither, IsOfCursor, IsOrderly, IsPlain, IsSamePlace, IsSettled, IsSettledSession, IsUnserved, MayJoin, SharePlace}
use Rattle.driver_link.specs.Statements.{entries_of}
use Rattle.driver_link.proofs.Lists.{earlier_or_last, get_last, get_left, has_last, has_left, none_beyond, none_is_some}
use Rattle.driver_link.proofs.OrderlyTraces.{last_or, numbered_or_not, orderly_new}
use Rattle.driver_link.proofs.Unnumbered.{case_without, origin_moves, transient_without}

-- two servers differ in their cursors alone
pub record OnlyCursors (old now : Server) : Type 0 where
  pub sessions : now.sessions ≡ old.sessions
  pub log : now.log ≡ old.log
  pub waiting : now.waiting ≡ old.waiting
  pub trace : now.trace ≡ old.trace

pub same_server : (server : Server) → OnlyCursors server server
same_server server = record { sessions = refl; log = refl; waiting = refl; trace = refl }

-- so the invariant is kept
module _ (trace : List Send) (old now : Server) (same : OnlyCursors old now) (settled : IsSettled trace old) where
  waits_before : (at : ℕ) (send : Send) → slice_get now.waiting at ≡ Some (Some send) → slice_get old.waiting at ≡ Some (Some send)
  waits_before at send is = ap (λ waiting. slice_get waiting at) (sym same.waiting) ∙ is

  pub cursors_settled : IsSettled trace now
  cursors_settled = record {
    waiting = λ at send is. settled.waiting at send (waits_before at send is);
    sessions = λ id known is.
        subst (λ log. IsSettledSession trace log id known) (sym same.log)
        (settled.sessions id known (ap (λ sessions. finite.get sessions id) (sym same.sessions) ∙ is));
    origin = λ entry has. elim (settled.origin entry (subst (λ log. Has log entry) same.log has)) [
      | inl origin ↦ inl (origin_moves trace trace old now entry (λ one has. has) same.sessions origin)
      | inr other ↦ inr other
    ];
    once = subst Once (sym same.log) settled.once;
    unserved = λ at send is free. subst (IsUnserved send) (sym same.log) (settled.unserved at send (waits_before at send is) free);
    alone = λ at other a b is_a is_b. settled.alone at other a b (waits_before at a is_a) (waits_before other b is_b);
  }

-- the case of a command of a cursor
cursor_case : (body : SendBody) → IsOfCursor body → unnumbered_case body ≡ of_cursor
cursor_case (Write command ordered writes) is = absurd is
cursor_case Commit is = absurd is
cursor_case Abort is = absurd is
cursor_case (More cursor) is = refl
cursor_case (Kill cursor) is = refl

-- it carries no write
pub no_writes : (body : SendBody) → IsOfCursor body → body_writes body ≡ []
no_writes (Write command ordered writes) is = absurd is
no_writes Commit is = refl
no_writes Abort is = refl
no_writes (More cursor) is = refl
no_writes (Kill cursor) is = refl

-- without a number no session changes
sessions_stay : (session : Option (List ℕ)) (change : KnownSession → KnownSession) (server : Server) (send : Send)
    → sessions_as session None of_cursor change server send ≡ server.sessions
sessions_stay None change server send = refl
sessions_stay (Some id) change server send = refl

sessions_rest : (session : Option (List ℕ)) (change : KnownSession → KnownSession) (server : Server) (send : Send)
    → sessions_as session None nothing change server send ≡ server.sessions
sessions_rest None change server send = refl
sessions_rest (Some id) change server send = refl

-- what a command of a cursor makes of a server
module _ (send : Send) (aside : IsAside send) (server : Server) where
  case_aside : case_of server send ≡ of_cursor
  case_aside =
      ap (λ number. case_as send.session number server send) aside.none ∙ case_without send.session server send ∙ cursor_case send.body aside.cursor

  -- an error changes nothing
  error_aside : (labels : List (List ℕ)) (now : Server) → told_of_error labels now send ≡ now
  unfolding told_of_error
  error_aside labels now =
      elim (has_transient labels) as (λ b. cond b (transient_as send.session send.number now send) now ≡ now) [
        | true ↦ ap (λ number. transient_as send.session number now send) aside.none ∙ transient_without send.session now send
        | false ↦ refl
      ]

  served_only : (done : List Statement) (page : Option ℕ) → OnlyCursors server (served_in of_cursor done page server send)
  unfolding served_in
  served_only done page = record {
    sessions =
        ap (λ number. sessions_as send.session number of_cursor (session_after of_cursor done (entries_of send.session send.number (writes_of send) done)) server send) aside.none
        ∙ sessions_stay send.session (session_after of_cursor done (entries_of send.session send.number (writes_of send) done)) server send;
    log = append-nil server.log;
    waiting = refl;
    trace = refl;
  }

  -- it is served
  pub served_aside : (plan : Plan) → OnlyCursors server (served plan server send)
  unfolding served
  served_aside plan =
      subst (λ case. OnlyCursors server (served_in case (done_in case plan (results_of (known_of server send)) send.body) plan.page server send))
      (sym case_aside) (served_only (done_in of_cursor plan (results_of (known_of server send)) send.body) plan.page)

  begun_only : (done : List Statement) → OnlyCursors server (interrupted_in nothing done server send)
  unfolding interrupted_in
  begun_only done = record {
    sessions =
        ap (λ number. sessions_as send.session number nothing (session_interrupted nothing done (entries_of send.session send.number (writes_of send) done)) server send) aside.none
        ∙ sessions_rest send.session (session_interrupted nothing done (entries_of send.session send.number (writes_of send) done)) server send;
    log = append-nil server.log;
    waiting = refl;
    trace = refl;
  }

  begun_aside : (most : ℕ) → OnlyCursors server (interruption most server send)
  unfolding interruption
  begun_aside most =
      subst (λ case. OnlyCursors server (interrupted_in (interrupted_case most case) (interrupted_done most (interrupted_case most case) (results_of (known_of server send)) send.body) server send))
      (sym case_aside) (begun_only [])

  -- it is interrupted
  pub interrupted_aside : (most : ℕ) (labels : List (List ℕ)) → OnlyCursors server (interrupted most labels server send)
  unfolding interrupted
  interrupted_aside most labels =
      subst (OnlyCursors server)
      (sym (cond-false _ _ _ (ap is_decided case_aside) ∙ error_aside (interrupted_labels most labels server send) (interruption most server send)))
      (begun_aside most)

  -- it is refused
  pub refused_aside : (labels : List (List ℕ)) → OnlyCursors server (told_of_error labels server send)
  refused_aside labels = subst (OnlyCursors server) (sym (error_aside labels server)) (same_server server)

-- no write of it stands anywhere
pub no_write_at : (send : Send) → IsAside send → (at : ℕ) (write : PlacedWrite) → slice_get (writes_of send) at ≡ Some write → ⊥
no_write_at send aside at write is = none_is_some write (sym (ap (λ writes. slice_get writes at) (no_writes send.body aside.cursor)) ∙ is)

-- it may always join a trace
pub aside_joins : (trace : List Send) (send : Send) → IsAside send → IsOrderly trace → MayJoin trace send
aside_joins trace send aside orderly =
    orderly_new trace send (inr (inr aside)) (λ i j one other at_i. absurd (no_write_at send aside i one at_i)) no_share other_number orderly
  where
    no_share : (earlier : Send) → Has trace earlier → SharePlace earlier send → ⊥
    no_share earlier before share = no_write_at send aside share.second share.other share.also

    other_number : (earlier : Send) → Has trace earlier → IsPlain send → earlier.session ≡ send.session → earlier.number ≡ send.number → ⊥
    other_number earlier before plain session number = numbered_or_not send.number plain.number plain.numbered aside.none

-- what may join a trace may join it behind a command of a cursor
module _ (trace : List Send) (aside sent : Send) (is_aside : IsAside aside) (joins : MayJoin trace sent) where
  abbrev longer : List Send
  longer = trace ++ aside ∷ []

  -- a send of the longer trace is of a cursor, or joined without it
  without : (one : Send) → Has (longer ++ sent ∷ []) one → Has (trace ++ sent ∷ []) one ⊎ (aside ≡ one)
  without one has = elim (last_or longer sent one has) [
    | inl before ↦ elim (last_or trace aside one before) [ inl earlier ↦ inl (has_left trace (sent ∷ []) one earlier) | inr same ↦ inr same ]
    | inr same ↦ inl (subst (Has (trace ++ sent ∷ [])) same (has_last trace sent))
  ]

  behind_either : (one : Send) → Has (longer ++ sent ∷ []) one → IsEither one
  behind_either one has = elim (without one has) [
    | inl here ↦ joins.either one here
    | inr same ↦ inr (inr (subst IsAside same is_aside))
  ]

  behind_list : (a b : Send) → IsPlain a → Has (longer ++ sent ∷ []) a → Has (longer ++ sent ∷ []) b → a.session ≡ b.session → a.number ≡ b.number → writes_of a ≡ writes_of b
  behind_list a b plain left right session number = elim (without a left) [
    | inl here ↦ elim (without b right) [
      | inl there ↦ joins.one_list a b plain here there session number
      | inr is_b ↦ absurd (numbered_or_not a.number plain.number plain.numbered (number ∙ ap (λ s. s.number) (sym is_b) ∙ is_aside.none))
    ]
    | inr is_a ↦ absurd (numbered_or_not a.number plain.number plain.numbered (ap (λ s. s.number) (sym is_a) ∙ is_aside.none))
  ]

  -- a send with a write stands in the trace, or is the last
  stands : (p : ℕ) (a : Send) (i : ℕ) (v : PlacedWrite) → slice_get (longer ++ sent ∷ []) p ≡ Some a → slice_get (writes_of a) i ≡ Some v
      → (slice_get trace p ≡ Some a) ⊎ ((p ≡ length longer) × (sent ≡ a))
  stands p a i v at_p at_i = elim (earlier_or_last longer sent p a at_p) [
    | inl before ↦ elim (earlier_or_last trace aside p a before) [
      | inl earlier ↦ inl earlier
      | inr last ↦ absurd (no_write_at aside is_aside i v (ap (λ s. slice_get (writes_of s) i) last.1 ∙ at_i))
    ]
    | inr last ↦ inr last
  ]

  -- so it stood where the last joined without it
  old : (p : ℕ) (a : Send) → slice_get trace p ≡ Some a → slice_get (trace ++ sent ∷ []) p ≡ Some a
  old p a at_p = get_left trace (sent ∷ []) p a at_p

  new : (a : Send) → sent ≡ a → slice_get (trace ++ sent ∷ []) (length trace) ≡ Some a
  new a is = get_last trace sent ∙ ap (λ s. Some s) is

  behind_place : (p q : ℕ) (a b : Send) (i j : ℕ) (v w : PlacedWrite) → slice_get (longer ++ sent ∷ []) p ≡ Some a → slice_get (longer ++ sent ∷ []) q ≡ Some b
      → slice_get (writes_of a) i ≡ Some v → slice_get (writes_of b) j ≡ Some w → v.place ≡ w.place → IsSamePlace p q a b i j
  behind_place p q a b i j v w at_p at_q at_i at_j same = elim (stands p a i v at_p at_i) [
    | inl here ↦ elim (stands q b j w at_q at_j) [
      | inl there ↦ joins.one_place p q a b i j v w (old p a here) (old q b there) at_i at_j same
      | inr last ↦
          let one = joins.one_place p (length trace) a b i j v w (old p a here) (new b last.1) at_i at_j same in
          record { position = one.position; sends = elim one.sends [ inl number ↦ inl number | inr is ↦ absurd (none_beyond trace p a here is) ] }
    ]
    | inr first ↦ elim (stands q b j w at_q at_j) [
      | inl there ↦
          let one = joins.one_place (length trace) q a b i j v w (new a first.1) (old q b there) at_i at_j same in
          record { position = one.position; sends = elim one.sends [ inl number ↦ inl number | inr is ↦ absurd (none_beyond trace q b there (sym is)) ] }
      | inr last ↦ record {
        position = (joins.one_place (length trace) (length trace) a b i j v w (new a first.1) (new b last.1) at_i at_j same).position;
        sends = inr (first.0 ∙ sym last.0);
      }
    ]
  ]

  pub joins_behind : MayJoin longer sent
  joins_behind = record { either = behind_either; one_list = behind_list; one_place = behind_place }
