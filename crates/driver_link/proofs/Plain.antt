-- What serving and interrupting a plain send make of a server: its statements run under its number, or the
-- number is below the greatest and nothing changes.
use Rattle.std.proofs.Common.{◌≡◌, ℕ, Bool, true, false, cond, ◌||◌, List, [], ◌++◌, refl, sym, ap, subst, ◌∙◌, inl, inr}
use Rattle.std.specs.Prelude.{ℤ, Option, None, Some}
use Rattle.std.specs.FinMap as finite
use Rattle.std.proofs.lemmas.Bool.{cond-true, cond-false}
use Rattle.std.proofs.lemmas.List.{append-nil}
use Rattle.driver_link.specs.declared.machine.KnownSession.{KnownSession}
use Rattle.driver_link.specs.declared.machine.Send.{Send}
use Rattle.driver_link.specs.declared.machine.SendBody.{SendBody}
use Rattle.driver_link.specs.declared.machine.SendBody.TheVariants.{Write, Commit, Abort, More, Kill}
use Rattle.driver_link.specs.declared.machine.Server.{Server}
use Rattle.driver_link.specs.declared.machine.ServerTransaction.TheVariants as transaction
use Rattle.driver_link.specs.declared.machine.Statement.{Statement}
use Rattle.driver_link.specs.Cases.{too_old, outside, case_as, case_of, case_under, known_as, known_of, known_under, results_of, numbered_case, is_decided, is_end, is_in_transaction, is_ordered, writes_of}
use Rattle.driver_link.specs.Exchange.{interrupted, interrupted_labels}
use Rattle.driver_link.specs.Honesty.{has_transient}
use Rattle.driver_link.specs.Interrupting.{interrupted_case, interrupted_done, interrupted_in, interruption, told_of_error, transient_as, session_interrupted}
use Rattle.driver_link.specs.Serving.{Plan, usual, done_in, served, served_in, sessions_as, session_after}
use Rattle.driver_link.specs.Sessions.{is_below, is_new, taken}
use Rattle.driver_link.specs.Settled.{Has, IsOrderly, IsPlain, IsSettled, IsWrite}
use Rattle.driver_link.specs.Statements.{entries_of, front_to_run, statements, usual_statements}
use Rattle.driver_link.proofs.KeptStatements.{Follows, follows_front, follows_statements}
use Rattle.driver_link.proofs.ServedSends.{Runs, taken_is, runs_settled}

-- what is known of a plain send's session once its number has come
abbrev pub plain_known : List ℕ → ℤ → Server → KnownSession
plain_known id number server = taken number false false (finite.get server.sessions id)

-- outside transactions a write is served outside them
pub case_is : (known : KnownSession) (new : Bool) (send : Send) (body : SendBody) → send.in_transaction ≡ false → IsWrite body → numbered_case known new send body ≡ outside
case_is known new send (Write command ordered writes) out write = cond-false send.in_transaction _ outside out
case_is known new send Commit out write = absurd write
case_is known new send Abort out write = absurd write
case_is known new send (More cursor) out write = absurd write
case_is known new send (Kill cursor) out write = absurd write

no_end : (body : SendBody) → IsWrite body → is_end body ≡ false
no_end (Write command ordered writes) write = refl
no_end Commit write = absurd write
no_end Abort write = absurd write
no_end (More cursor) write = absurd write
no_end (Kill cursor) write = absurd write

-- a start means nothing outside transactions
start_is : (number : ℤ) (start : Bool) (before : Option KnownSession) → taken number false start before ≡ taken number false false before
unfolding taken
start_is number start None = refl
start_is number start (Some known) = refl

module _ (send : Send) (plain : IsPlain send) (server : Server) where
  unfoldable pub known : KnownSession
  known = plain_known plain.id plain.number server

  pub out_of_transaction : is_in_transaction send ≡ false
  out_of_transaction = ap (λ flag. flag || is_end send.body) plain.outside ∙ no_end send.body plain.writes

  pub known_here : known_under plain.id plain.number server send ≡ known
  unfolding known
  known_here =
      ap (λ out. taken plain.number out send.start (finite.get server.sessions plain.id)) out_of_transaction
      ∙ start_is plain.number send.start (finite.get server.sessions plain.id)

  case_here : case_of server send ≡ case_under plain.id plain.number server send
  unfolding case_as
  case_here =
      ap (λ session. case_as session send.number server send) plain.session
      ∙ ap (λ number. case_as (Some plain.id) number server send) plain.numbered

  -- a number below the greatest is too old, and another is served outside transactions
  pub case_below : is_below plain.number (finite.get server.sessions plain.id) ≡ true → case_of server send ≡ too_old
  unfolding case_under
  case_below below = case_here ∙ cond-true _ too_old _ below

  pub case_above : is_below plain.number (finite.get server.sessions plain.id) ≡ false → case_of server send ≡ outside
  unfolding case_under
  case_above above =
      let new = is_new plain.number (finite.get server.sessions plain.id) in
      case_here ∙ cond-false _ too_old _ above ∙ case_is (known_under plain.id plain.number server send) new send send.body plain.outside plain.writes

  pub results_here : results_of (known_of server send) ≡ known.kept
  unfolding known_as
  results_here =
      ap (λ session. results_of (known_as session send.number server send)) plain.session
      ∙ ap (λ number. results_of (known_as (Some plain.id) number server send)) plain.numbered
      ∙ ap (λ k. k.kept) known_here

  -- the statements of a plan
  unfoldable pub planned : Plan → List Statement
  planned plan = statements plan.results plan.fail (is_ordered send.body) known.kept 0 (writes_of send)

  pub served_above : (plan : Plan) → is_below plain.number (finite.get server.sessions plain.id) ≡ false
      → served plan server send ≡ served_in outside (planned plan) plan.page server send
  unfolding served planned
  served_above plan above =
      ap (λ case. served_in case (done_in case plan (results_of (known_of server send)) send.body) plan.page server send) (case_above above)
      ∙ ap (λ kept. served_in outside (done_in outside plan kept send.body) plan.page server send) results_here

  sessions_here : (change : KnownSession → KnownSession)
      → sessions_as send.session send.number outside change server send ≡ finite.insert server.sessions plain.id (change known)
  sessions_here change =
      ap (λ session. sessions_as session send.number outside change server send) plain.session
      ∙ ap (λ number. sessions_as (Some plain.id) number outside change server send) plain.numbered
      ∙ ap (λ k. finite.insert server.sessions plain.id (change k)) known_here

  entries_here : (done : List Statement) → server.log ++ entries_of send.session send.number (writes_of send) done
      ≡ server.log ++ entries_of (Some plain.id) (Some plain.number) (writes_of send) done
  entries_here done =
      ap (λ session. server.log ++ entries_of session send.number (writes_of send) done) plain.session
      ∙ ap (λ number. server.log ++ entries_of (Some plain.id) number (writes_of send) done) plain.numbered

  pub none_known : (trace : List Send) → IsSettled trace server → is_below plain.number (finite.get server.sessions plain.id) ≡ false → known.transaction ≡ transaction.None
  unfolding known
  none_known trace settled above =
      let is_taken = taken_is plain.number (finite.get server.sessions plain.id) above in
      elim is_taken.is [
        | inl before ↦ (settled.sessions plain.id (plain_known plain.id plain.number server) before).none
        | inr anew ↦ ap (λ k. k.transaction) anew.0
      ]

  pub served_runs : (done : List Statement) (page : Option ℕ) → known.transaction ≡ transaction.None
      → Runs plain.id plain.number known done send server (served_in outside done page server send)
  unfolding served_in
  served_runs done page none = record {
    after = session_after outside done (entries_of send.session send.number (writes_of send) done) known;
    greatest = refl;
    none = none;
    kept = refl;
    sessions = sessions_here (session_after outside done (entries_of send.session send.number (writes_of send) done));
    log = entries_here done;
    waiting = λ at other is. is;
  }

  -- a send that is too old changes nothing
  too_old_nothing : (page : Option ℕ) → served_in too_old [] page server send ≡ server
  unfolding served_in
  too_old_nothing page = ap (λ log. record server { log = log }) (append-nil server.log)

  pub below_nothing : (plan : Plan) → is_below plain.number (finite.get server.sessions plain.id) ≡ true → served plan server send ≡ server
  unfolding served
  below_nothing plan below =
      ap (λ case. served_in case (done_in case plan (results_of (known_of server send)) send.body) plan.page server send) (case_below below)
      ∙ too_old_nothing plan.page

  -- the invariant is kept by what a plain send runs
  module _ (trace : List Send) (orderly : IsOrderly trace) (sent : Has trace send) (settled : IsSettled trace server) where
    settled_by : (done : List Statement) (now : Server) → is_below plain.number (finite.get server.sessions plain.id) ≡ false
        → Follows known.kept 0 (writes_of send) done → Runs plain.id plain.number known done send server now → IsSettled trace now
    unfolding known
    settled_by done now above follows runs =
        runs_settled trace send plain.id plain.number (plain_known plain.id plain.number server) done server now orderly sent
        (record { session = plain.session; numbered = plain.numbered }) (taken_is plain.number (finite.get server.sessions plain.id) above) follows runs settled

    settled_above : (plan : Plan) → is_below plain.number (finite.get server.sessions plain.id) ≡ false → IsSettled trace (served plan server send)
    unfolding planned
    settled_above plan above =
        let done = planned plan in
        subst (IsSettled trace) (sym (served_above plan above))
        (settled_by done (served_in outside done plan.page server send) above
        (follows_statements plan.results plan.fail (is_ordered send.body) known.kept 0 (writes_of send)) (served_runs done plan.page (none_known trace settled above)))

    -- serving keeps it
    pub served_settled : (plan : Plan) → IsSettled trace (served plan server send)
    served_settled plan =
        elim (is_below plain.number (finite.get server.sessions plain.id))
        as (λ b. is_below plain.number (finite.get server.sessions plain.id) ≡ b → IsSettled trace (served plan server send)) [
          | true ↦ λ below. subst (IsSettled trace) (sym (below_nothing plan below)) settled
          | false ↦ λ above. settled_above plan above
        ] refl

  -- an error changes nothing outside transactions
  pub error_nothing : (labels : List (List ℕ)) (now : Server) → told_of_error labels now send ≡ now
  unfolding told_of_error transient_as
  error_nothing labels now =
      elim (has_transient labels) as (λ b. cond b (transient_as send.session send.number now send) now ≡ now) [
        | true ↦
            ap (λ session. transient_as session send.number now send) plain.session
            ∙ ap (λ number. transient_as (Some plain.id) number now send) plain.numbered
            ∙ cond-false (is_in_transaction send) _ now out_of_transaction
        | false ↦ refl
      ]

  -- the statements that run before an interruption
  unfoldable pub begun_done : ℕ → List Statement
  begun_done most = usual_statements known.kept (front_to_run known.kept 0 most (writes_of send))

  pub interruption_above : (most : ℕ) → is_below plain.number (finite.get server.sessions plain.id) ≡ false
      → interruption most server send ≡ interrupted_in outside (begun_done most) server send
  unfolding interruption begun_done
  interruption_above most above =
      ap (λ case. interrupted_in (interrupted_case most case) (interrupted_done most (interrupted_case most case) (results_of (known_of server send)) send.body) server send) (case_above above)
      ∙ ap (λ kept. interrupted_in outside (interrupted_done most outside kept send.body) server send) results_here

  pub interrupted_runs : (done : List Statement) → known.transaction ≡ transaction.None
      → Runs plain.id plain.number known done send server (interrupted_in outside done server send)
  unfolding interrupted_in
  interrupted_runs done none = record {
    after = session_interrupted outside done (entries_of send.session send.number (writes_of send) done) known;
    greatest = refl;
    none = none;
    kept = refl;
    sessions = sessions_here (session_interrupted outside done (entries_of send.session send.number (writes_of send) done));
    log = entries_here done;
    waiting = λ at other is. is;
  }

  pub interrupted_below : (most : ℕ) (labels : List (List ℕ)) → is_below plain.number (finite.get server.sessions plain.id) ≡ true
      → interrupted most labels server send ≡ server
  unfolding interrupted
  interrupted_below most labels below = cond-true _ _ _ (ap is_decided (case_below below)) ∙ below_nothing usual below

  pub interrupted_above : (most : ℕ) (labels : List (List ℕ)) → is_below plain.number (finite.get server.sessions plain.id) ≡ false
      → interrupted most labels server send ≡ interrupted_in outside (begun_done most) server send
  unfolding interrupted
  interrupted_above most labels above =
      cond-false _ _ _ (ap is_decided (case_above above)) ∙ error_nothing (interrupted_labels most labels server send) (interruption most server send)
      ∙ interruption_above most above

  module _ (trace : List Send) (orderly : IsOrderly trace) (sent : Has trace send) (settled : IsSettled trace server) where
    -- an interruption keeps it
    pub interrupted_settled : (most : ℕ) (labels : List (List ℕ)) → IsSettled trace (interrupted most labels server send)
    unfolding begun_done
    interrupted_settled most labels =
        elim (is_below plain.number (finite.get server.sessions plain.id))
        as (λ b. is_below plain.number (finite.get server.sessions plain.id) ≡ b → IsSettled trace (interrupted most labels server send)) [
          | true ↦ λ below. subst (IsSettled trace) (sym (interrupted_below most labels below)) settled
          | false ↦ λ above.
              subst (IsSettled trace) (sym (interrupted_above most labels above))
              (settled_by trace orderly sent settled (begun_done most) (interrupted_in outside (begun_done most) server send) above
              (follows_front known.kept 0 most (writes_of send)) (interrupted_runs (begun_done most) (none_known trace settled above)))
        ] refl

    -- a refusal keeps it
    pub refused_settled : (labels : List (List ℕ)) → IsSettled trace (told_of_error labels server send)
    refused_settled labels = subst (IsSettled trace) (sym (error_nothing labels server)) settled
