-- What serving and interrupting a send of writes without a number make of a server: its statements run, nothing
-- is kept and no session changes, and the invariant is kept where its writes are new.
use Rattle.std.proofs.Common.{◌≡◌, ℕ, true, false, cond, List, ◌++◌, refl, sym, ap, subst, ◌∙◌, inl, inr}
use Rattle.std.specs.Prelude.{Option, None, Some, ◌⊎◌, slice_get}
use Rattle.std.specs.FinMap as finite
use Rattle.std.proofs.lemmas.Bool.{cond-false}
use Rattle.driver_link.specs.declared.machine.Entry.{Entry}
use Rattle.driver_link.specs.declared.machine.KnownSession.{KnownSession}
use Rattle.driver_link.specs.declared.machine.Send.{Send}
use Rattle.driver_link.specs.declared.machine.SendBody.{SendBody}
use Rattle.driver_link.specs.declared.machine.SendBody.TheVariants.{Write, Commit, Abort, More, Kill}
use Rattle.driver_link.specs.declared.machine.Server.{Server}
use Rattle.driver_link.specs.declared.machine.Statement.{Statement}
use Rattle.driver_link.specs.Once.{Once}
use Rattle.driver_link.specs.Cases.{outside, case_as, case_of, known_as, known_of, results_of, is_decided, is_ordered, unnumbered_case, writes_of}
use Rattle.driver_link.specs.Exchange.{interrupted, interrupted_labels}
use Rattle.driver_link.specs.Honesty.{has_transient}
use Rattle.driver_link.specs.Interrupting.{interrupted_case, interrupted_done, interrupted_in, interruption, told_of_error, transient_as, session_interrupted}
use Rattle.driver_link.specs.Serving.{Plan, done_in, served, served_in, sessions_as, session_after}
use Rattle.driver_link.specs.Settled.{Has, HasFreeOrigin, HasOrigin, IsOrderly, IsSettled, IsSettledSession, IsUnnumbered, IsUnserved, IsWrite, SharePlace}
use Rattle.driver_link.specs.Statements.{entries_of, entry_of, front_to_run, no_results, statements, usual_statements}
use Rattle.driver_link.proofs.KeptStatements.{IsEntryOf, entry_from}
use Rattle.driver_link.proofs.Lists.{has_either, has_left}
use Rattle.driver_link.proofs.OrderlyTraces.{all_places}
use Rattle.driver_link.proofs.Placing.{once_append, once_entries}

-- what a send without a number makes of a server: no session changes, and the log gains the entries of the
-- statements that ran
pub record RunsOnly (done : List Statement) (send : Send) (old now : Server) : Type 0 where
  pub sessions : now.sessions ≡ old.sessions
  pub log : now.log ≡ old.log ++ entries_of send.session send.number (writes_of send) done
  pub waiting : (at : ℕ) (other : Send) → slice_get now.waiting at ≡ Some (Some other) → slice_get old.waiting at ≡ Some (Some other)

-- an origin stays one in a longer trace and at a server with the same sessions
pub origin_moves : (trace longer : List Send) (old now : Server) (entry : Entry) → ((send : Send) → Has trace send → Has longer send) → now.sessions ≡ old.sessions
    → HasOrigin trace old entry → HasOrigin longer now entry
origin_moves trace longer old now entry moves same origin = record {
  send = origin.send;
  at = origin.at;
  write = origin.write;
  result = origin.result;
  id = origin.id;
  number = origin.number;
  known = origin.known;
  sent = moves origin.send origin.sent;
  under = origin.under;
  stands = origin.stands;
  is = origin.is;
  is_known = ap (λ sessions. finite.get sessions origin.id) same ∙ origin.is_known;
  has_run = origin.has_run;
}

-- the invariant is kept where no write of the send stood in the log or waits
module _ (trace : List Send) (send : Send) (done : List Statement) (old now : Server) (orderly : IsOrderly trace) (sent : Has trace send) (free : IsUnnumbered send)
    (unserved : IsUnserved send old.log) (apart : (at : ℕ) (other : Send) → slice_get old.waiting at ≡ Some (Some other) → SharePlace send other → ⊥)
    (runs : RunsOnly done send old now) (settled : IsSettled trace old) where
  entries : List Entry
  entries = entries_of send.session send.number (writes_of send) done

  log_is : now.log ≡ old.log ++ entries
  unfolding entries
  log_is = runs.log

  from_send : (entry : Entry) → Has entries entry → IsEntryOf send.session send.number (writes_of send) done entry
  unfolding entries
  from_send entry has = entry_from send.session send.number (writes_of send) done entry has

  either_log : (entry : Entry) → Has now.log entry → Has old.log entry ⊎ Has entries entry
  either_log entry has = has_either old.log entries entry (subst (λ log. Has log entry) log_is has)

  has_before : (entry : Entry) → Has old.log entry → Has now.log entry
  has_before entry has = subst (λ log. Has log entry) (sym log_is) (has_left old.log entries entry has)

  session_now : (id : List ℕ) (known : KnownSession) → IsSettledSession trace old.log id known → IsSettledSession trace now.log id known
  session_now id known session = record {
    newest = session.newest;
    sent = session.sent;
    under = session.under;
    none = session.none;
    kept = λ at write result stands kept.
        has_before (entry_of (Some id) (Some known.greatest) write result) (session.kept at write result stands kept);
  }

  origin_new : (entry : Entry) → IsEntryOf send.session send.number (writes_of send) done entry → HasFreeOrigin trace entry
  origin_new entry new = record {
    send = send;
    at = new.at;
    write = new.write;
    result = new.result;
    sent = sent;
    none = free.none;
    stands = new.stands;
    is = new.is ∙ ap (λ number. entry_of send.session number new.write new.result) free.none;
  }

  unserved_now : (at : ℕ) (other : Send) → slice_get now.waiting at ≡ Some (Some other) → IsUnnumbered other → IsUnserved other now.log
  unserved_now at other is unnumbered entry k write has stands same =
      let before = runs.waiting at other is in
      elim (either_log entry has) [
        | inl stood ↦ settled.unserved at other before unnumbered entry k write stood stands same
        | inr joined ↦
            let new = from_send entry joined in
            apart at other before
            (record { first = new.at; second = k; one = new.write; other = write; stands = new.stands; also = stands; same = sym (ap (λ e. e.place) new.is) ∙ same })
      ]

  pub runs_only_settled : IsSettled trace now
  unfolding entries
  runs_only_settled = record {
    waiting = λ at other is. settled.waiting at other (runs.waiting at other is);
    sessions = λ id known is. session_now id known (settled.sessions id known (ap (λ sessions. finite.get sessions id) (sym runs.sessions) ∙ is));
    origin = λ entry has. elim (either_log entry has) [
      | inl before ↦ elim (settled.origin entry before) [
        | inl origin ↦ inl (origin_moves trace trace old now entry (λ one has. has) runs.sessions origin)
        | inr other ↦ inr other
      ]
      | inr new ↦ inr (origin_new entry (from_send entry new))
    ];
    once =
        subst Once (sym log_is) (once_append old.log entries settled.once
        (once_entries send.session send.number (writes_of send) done (all_places trace orderly send sent))
        (λ a b left right same. let new = from_send b right in unserved a new.at new.write left new.stands (same ∙ ap (λ e. e.place) new.is)));
    unserved = unserved_now;
    alone = λ at other a b is_a is_b. settled.alone at other a b (runs.waiting at a is_a) (runs.waiting other b is_b);
  }

-- without a number a write is served outside transactions, and nothing is known of a session
pub case_without : (session : Option (List ℕ)) (server : Server) (send : Send) → case_as session None server send ≡ unnumbered_case send.body
unfolding case_as
case_without None server send = refl
case_without (Some id) server send = refl

pub write_outside : (body : SendBody) → IsWrite body → unnumbered_case body ≡ outside
write_outside (Write command ordered writes) write = refl
write_outside Commit write = absurd write
write_outside Abort write = absurd write
write_outside (More cursor) write = absurd write
write_outside (Kill cursor) write = absurd write

known_without : (session : Option (List ℕ)) (server : Server) (send : Send) → known_as session None server send ≡ None
unfolding known_as
known_without None server send = refl
known_without (Some id) server send = refl

sessions_without : (session : Option (List ℕ)) (change : KnownSession → KnownSession) (server : Server) (send : Send)
    → sessions_as session None outside change server send ≡ server.sessions
sessions_without None change server send = refl
sessions_without (Some id) change server send = refl

pub transient_without : (session : Option (List ℕ)) (server : Server) (send : Send) → transient_as session None server send ≡ server
unfolding transient_as
transient_without None server send = refl
transient_without (Some id) server send = refl

module _ (send : Send) (free : IsUnnumbered send) (server : Server) where
  pub case_free : case_of server send ≡ outside
  case_free =
      ap (λ number. case_as send.session number server send) free.none ∙ case_without send.session server send ∙ write_outside send.body free.writes

  pub results_free : results_of (known_of server send) ≡ no_results
  results_free = ap (λ number. results_of (known_as send.session number server send)) free.none ∙ ap results_of (known_without send.session server send)

  sessions_free : (change : KnownSession → KnownSession) → sessions_as send.session send.number outside change server send ≡ server.sessions
  sessions_free change =
      ap (λ number. sessions_as send.session number outside change server send) free.none ∙ sessions_without send.session change server send

  -- the statements of a plan
  unfoldable pub planned_only : Plan → List Statement
  planned_only plan = statements plan.results plan.fail (is_ordered send.body) no_results 0 (writes_of send)

  pub served_free : (plan : Plan) → served plan server send ≡ served_in outside (planned_only plan) plan.page server send
  unfolding served planned_only
  served_free plan =
      ap (λ case. served_in case (done_in case plan (results_of (known_of server send)) send.body) plan.page server send) case_free
      ∙ ap (λ kept. served_in outside (done_in outside plan kept send.body) plan.page server send) results_free

  pub served_runs_only : (done : List Statement) (page : Option ℕ) → RunsOnly done send server (served_in outside done page server send)
  unfolding served_in
  served_runs_only done page = record {
    sessions = sessions_free (session_after outside done (entries_of send.session send.number (writes_of send) done));
    log = refl;
    waiting = λ at other is. is;
  }

  -- an error changes nothing
  pub error_free : (labels : List (List ℕ)) (now : Server) → told_of_error labels now send ≡ now
  unfolding told_of_error
  error_free labels now =
      elim (has_transient labels) as (λ b. cond b (transient_as send.session send.number now send) now ≡ now) [
        | true ↦ ap (λ number. transient_as send.session number now send) free.none ∙ transient_without send.session now send
        | false ↦ refl
      ]

  -- the statements that run before an interruption
  unfoldable pub begun_only : ℕ → List Statement
  begun_only most = usual_statements no_results (front_to_run no_results 0 most (writes_of send))

  interruption_free : (most : ℕ) → interruption most server send ≡ interrupted_in outside (begun_only most) server send
  unfolding interruption begun_only
  interruption_free most =
      ap (λ case. interrupted_in (interrupted_case most case) (interrupted_done most (interrupted_case most case) (results_of (known_of server send)) send.body) server send) case_free
      ∙ ap (λ kept. interrupted_in outside (interrupted_done most outside kept send.body) server send) results_free

  pub interrupted_runs_only : (done : List Statement) → RunsOnly done send server (interrupted_in outside done server send)
  unfolding interrupted_in
  interrupted_runs_only done = record {
    sessions = sessions_free (session_interrupted outside done (entries_of send.session send.number (writes_of send) done));
    log = refl;
    waiting = λ at other is. is;
  }

  pub interrupted_free : (most : ℕ) (labels : List (List ℕ)) → interrupted most labels server send ≡ interrupted_in outside (begun_only most) server send
  unfolding interrupted
  interrupted_free most labels =
      cond-false _ _ _ (ap is_decided case_free) ∙ error_free (interrupted_labels most labels server send) (interruption most server send) ∙ interruption_free most

  -- a refusal keeps the invariant
  pub refused_free_settled : (trace : List Send) → IsSettled trace server → (labels : List (List ℕ)) → IsSettled trace (told_of_error labels server send)
  refused_free_settled trace settled labels = subst (IsSettled trace) (sym (error_free labels server)) settled

  -- so do serving and an interruption where the writes of the send are new
  module _ (trace : List Send) (orderly : IsOrderly trace) (sent : Has trace send) (unserved : IsUnserved send server.log)
      (apart : (at : ℕ) (other : Send) → slice_get server.waiting at ≡ Some (Some other) → SharePlace send other → ⊥) (settled : IsSettled trace server) where
    pub served_free_settled : (plan : Plan) → IsSettled trace (served plan server send)
    served_free_settled plan =
        subst (IsSettled trace) (sym (served_free plan))
        (runs_only_settled trace send (planned_only plan) server (served_in outside (planned_only plan) plan.page server send) orderly sent free unserved apart
        (served_runs_only (planned_only plan) plan.page) settled)

    pub interrupted_free_settled : (most : ℕ) (labels : List (List ℕ)) → IsSettled trace (interrupted most labels server send)
    interrupted_free_settled most labels =
        subst (IsSettled trace) (sym (interrupted_free most labels))
        (runs_only_settled trace send (begun_only most) server (interrupted_in outside (begun_only most) server send) orderly sent free unserved apart
        (interrupted_runs_only (begun_only most)) settled)
