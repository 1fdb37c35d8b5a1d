-- Whether a transaction can be called transient once its send was interrupted.
use Rattle.std.proofs.Common.{◌≡◌, ℕ, ℤ, ◌&&◌, ◌==◌, Bool, true, false, List, Option, None, Some, refl, sym, ap, ◌∙◌, if◌then◌else◌}
use Rattle.std.specs.Prelude.{int_lt}
use Rattle.std.specs.Cmp.Lexicographic.{nat_list_cmp_total}
use Rattle.std.specs.FinMap as finite
use Rattle.std.proofs.lemmas.Bool.{or_right}
use Rattle.bson_lite.proofs.FinMaps.{get_inserted}
use Rattle.driver_link.proofs.TakenNumbers.{not_below_taken, not_new, open_above, taken_again}
use Rattle.driver_link.specs.Cases.{Case, is_end, unnumbered_case, write_case, case_as, case_of, case_under, is_decided, is_in_transaction, known_under, numbered_case, too_old, outside, gathers, commits, aborts, of_cursor, nothing, denied, writes_of}
use Rattle.driver_link.specs.Honesty.{can_be_transient}
use Rattle.driver_link.specs.Interrupting.{done_before, interrupted_case, interrupted_in, interruption, session_interrupted}
use Rattle.driver_link.specs.Serving.{sessions_as}
use Rattle.driver_link.specs.Sessions.{denied_transaction, is_below, is_committed, is_new, running, taken}
use Rattle.driver_link.specs.Statements.{entries_of, negated}
use Rattle.driver_link.specs.declared.machine.Entry.{Entry}
use Rattle.driver_link.specs.declared.machine.KnownSession.{KnownSession}
use Rattle.driver_link.specs.declared.machine.Send.{Send}
use Rattle.driver_link.specs.declared.machine.Server.{Server}
use Rattle.driver_link.specs.declared.machine.SendBody.{SendBody}
use Rattle.driver_link.specs.declared.machine.SendBody.TheVariants.{Write, Commit, Abort, More, Kill}
use Rattle.driver_link.specs.declared.machine.ServerTransaction.{ServerTransaction}
use Rattle.driver_link.specs.declared.machine.ServerTransaction.TheVariants as transaction
use Rattle.driver_link.specs.declared.machine.Statement.{Statement}
use Rattle.model_server.specs.Transient.{still_transient}

-- a case in which a transaction commits, or is aborted at the client's wish
is_commits : Case → Bool
is_commits (commits entries) = true
is_commits other = false

is_aborts : Case → Bool
is_aborts aborts = true
is_aborts other = false

-- an interruption commits only what was to commit
commits_still : (most : ℕ) (case : Case) → is_commits (interrupted_case most case) ≡ true → is_commits case ≡ true
unfolding is_commits
commits_still most too_old is = is
commits_still most outside is = is
commits_still most (gathers entries) is = is
commits_still most (commits entries) is = refl
commits_still most aborts is = is
commits_still most of_cursor is = is
commits_still most nothing is = is
commits_still most denied is = is

-- and aborts nothing at the client's wish
none_aborts : (most : ℕ) (case : Case) → is_aborts (interrupted_case most case) ≡ false
unfolding is_aborts
none_aborts most too_old = refl
none_aborts most outside = refl
none_aborts most (gathers entries) = refl
none_aborts most (commits entries) = by_test (most == 0)
  where
    by_test : (b : Bool) → is_aborts (if b then nothing else commits entries) ≡ false
    by_test true = refl
    by_test false = refl
none_aborts most aborts = refl
none_aborts most of_cursor = refl
none_aborts most nothing = refl
none_aborts most denied = refl

-- only an end commits
write_commits : (inside : Bool) (found : Option (List Entry)) (again : Bool) → is_commits (if inside then write_case found again else outside) ≡ false
unfolding is_commits
write_commits false found again = refl
write_commits true None again = refl
write_commits true (Some entries) true = refl
write_commits true (Some entries) false = refl

commits_end : (known : KnownSession) (new : Bool) (send : Send) (body : SendBody) → is_commits (numbered_case known new send body) ≡ true → is_end body ≡ true
unfolding is_commits
commits_end known new send (Write does ordered writes) is =
    let no = write_commits send.in_transaction (running known.transaction) (send.start && negated new) in cc
commits_end known new send Commit is = refl
commits_end known new send Abort is = refl
commits_end known new send (More cursor) is = let no = is in cc
commits_end known new send (Kill cursor) is = let no = is in cc

unnumbered_commits : (body : SendBody) → is_commits (unnumbered_case body) ≡ false
unfolding is_commits
unnumbered_commits (Write does ordered writes) = refl
unnumbered_commits Commit = refl
unnumbered_commits Abort = refl
unnumbered_commits (More cursor) = refl
unnumbered_commits (Kill cursor) = refl

-- whether a session's transaction can be called transient
free : Bool → ServerTransaction → Bool
free inside transaction = if inside then negated (is_committed transaction) else true

module _ (id : List ℕ) (number : ℤ) (server : Server) (send : Send) (above : is_below number (finite.get server.sessions id) ≡ false) where
  known : KnownSession
  known = known_under id number server send

  -- before, by what is known of the session
  free_before : can_be_transient (Some id) (Some number) server send ≡ free (is_in_transaction send) known.transaction
  unfolding can_be_transient free known
  free_before = ap (λ b. if is_in_transaction send then negated b && negated (is_committed (known_under id number server send).transaction) else true) above

  -- and once the session has become another under the same number
  free_after : (after : KnownSession) (log : List Entry) → after.greatest ≡ known.greatest
      → can_be_transient (Some id) (Some number) (record server { sessions = finite.insert server.sessions id after; log = log }) send
      ≡ free (is_in_transaction send) after.transaction
  unfolding can_be_transient free known is_below
  free_after after log same =
      let there = get_inserted nat_list_cmp_total server.sessions id after in
      let not_new = not_new number (is_in_transaction send) send.start (finite.get server.sessions id) in
      let again : taken number (is_in_transaction send) send.start (Some after) ≡ after
      = taken_again number (is_in_transaction send) send.start after (ap (λ greatest. int_lt greatest number) same ∙ not_new) in
      let still : is_below number (Some after) ≡ false
      = ap (int_lt number) same ∙ not_below_taken number (is_in_transaction send) send.start (finite.get server.sessions id) above in
      (λ i. if is_in_transaction send then negated (is_below number (there i)) && negated (is_committed (taken number (is_in_transaction send) send.start (there i)).transaction) else true)
      ∙ λ i. if is_in_transaction send then negated (still i) && negated (is_committed (again i).transaction) else true

  -- what the log is makes no difference
  logged_free : (log : List Entry) → can_be_transient (Some id) (Some number) (record server { log = log }) send ≡ can_be_transient (Some id) (Some number) server send
  unfolding can_be_transient
  logged_free log = refl

  -- an interrupted send under this number
  still_in : (most : ℕ) (case whole : Case) (done : List Statement) (ran : List Entry) (log : List Entry)
      → case ≡ interrupted_case most whole → (is_commits whole ≡ true → is_in_transaction send ≡ true)
      → can_be_transient (Some id) (Some number) (record server { sessions = sessions_as (Some id) (Some number) case (session_interrupted case done ran) server send; log = log }) send
      ≡ still_transient case (can_be_transient (Some id) (Some number) server send)
  unfolding free known is_commits is_aborts
  still_in most too_old whole done ran log is inside = logged_free log
  still_in most outside whole done ran log is inside = free_after (session_interrupted outside done ran known) log refl ∙ sym free_before
  still_in most (gathers entries) whole done ran log is inside =
      free_after (session_interrupted (gathers entries) done ran known) log refl ∙ always (is_in_transaction send)
    where
      always : (b : Bool) → (if b then true else true) ≡ true
      always true = refl
      always false = refl
  still_in most (commits entries) whole done ran log is inside =
      free_after (session_interrupted (commits entries) done ran known) log refl
      ∙ ap (λ b. if b then false else true) (inside (commits_still most whole (ap is_commits (sym is))))
  still_in most aborts whole done ran log is inside = let no = ap is_aborts is ∙ none_aborts most whole in cc
  still_in most of_cursor whole done ran log is inside = free_after known log refl ∙ sym free_before
  still_in most nothing whole done ran log is inside = free_after known log refl ∙ sym free_before
  still_in most denied whole done ran log is inside =
      free_after (session_interrupted denied done ran known) log refl
      ∙ ap (λ b. if is_in_transaction send then negated b else true) (same known.transaction)
      ∙ sym free_before
    where
      same : (t : ServerTransaction) → is_committed (denied_transaction t) ≡ is_committed t
      same transaction.None = refl
      same (transaction.Running entries) = refl
      same transaction.Committed = refl
      same transaction.Aborted = refl

commits_inside : (id : List ℕ) (number : ℤ) (server : Server) (send : Send) → is_commits (case_under id number server send) ≡ true → is_in_transaction send ≡ true
unfolding case_under is_commits
commits_inside id number server send is =
    or_right send.in_transaction (is_end send.body) (by_test (is_below number (finite.get server.sessions id)) is)
  where
    by_test : (b : Bool)
        → is_commits (if b then too_old else numbered_case (known_under id number server send) (is_new number (finite.get server.sessions id)) send send.body) ≡ true
        → is_end send.body ≡ true
    by_test true is = let no = is in cc
    by_test false is = commits_end (known_under id number server send) (is_new number (finite.get server.sessions id)) send send.body is

-- without a number nothing commits
unnumbered_still : (most : ℕ) (case whole : Case) → case ≡ interrupted_case most whole → is_commits whole ≡ false → true ≡ still_transient case true
unfolding is_commits
unnumbered_still most (commits entries) whole is none =
    let some = commits_still most whole (ap is_commits (sym is)) in let no = sym some ∙ none in cc
unnumbered_still most too_old whole is none = refl
unnumbered_still most outside whole is none = refl
unnumbered_still most (gathers entries) whole is none = refl
unnumbered_still most aborts whole is none = refl
unnumbered_still most of_cursor whole is none = refl
unnumbered_still most nothing whole is none = refl
unnumbered_still most denied whole is none = refl

-- a server in which an interrupted send's session was changed
abbrev changed_by : Option (List ℕ) → Option ℤ → Case → List Statement → List Entry → List Entry → Server → Send → Server
changed_by session number case done ran log server send =
    record server { sessions = sessions_as session number case (session_interrupted case done ran) server send; log = log }

still_none : (number : Option ℤ) (most : ℕ) (case : Case) (done : List Statement) (ran log : List Entry) (server : Server) (send : Send)
    → case ≡ interrupted_case most (case_as None number server send)
    → can_be_transient None number (changed_by None number case done ran log server send) send ≡ still_transient case (can_be_transient None number server send)
unfolding case_as can_be_transient
still_none number most case done ran log server send is = unnumbered_still most case (unnumbered_case send.body) is (unnumbered_commits send.body)

still_unnumbered : (id : List ℕ) (most : ℕ) (case : Case) (done : List Statement) (ran log : List Entry) (server : Server) (send : Send)
    → case ≡ interrupted_case most (case_as (Some id) None server send)
    → can_be_transient (Some id) None (changed_by (Some id) None case done ran log server send) send ≡ still_transient case (can_be_transient (Some id) None server send)
unfolding case_as can_be_transient
still_unnumbered id most case done ran log server send is = unnumbered_still most case (unnumbered_case send.body) is (unnumbered_commits send.body)

still_as : (session : Option (List ℕ)) (number : Option ℤ) (most : ℕ) (case : Case) (done : List Statement) (ran log : List Entry) (server : Server) (send : Send)
    → case ≡ interrupted_case most (case_as session number server send) → is_decided (case_as session number server send) ≡ false
    → can_be_transient session number (changed_by session number case done ran log server send) send ≡ still_transient case (can_be_transient session number server send)
unfolding case_as
still_as None number most case done ran log server send is undecided = still_none number most case done ran log server send is
still_as (Some id) None most case done ran log server send is undecided = still_unnumbered id most case done ran log server send is
still_as (Some id) (Some number) most case done ran log server send is undecided =
    still_in id number server send (open_above number id server send undecided) most case (case_under id number server send) done ran log is (commits_inside id number server send)

-- the same of the server after an interruption
pub still_law : (most : ℕ) (server : Server) (send : Send) → is_decided (case_of server send) ≡ false
    → can_be_transient send.session send.number (interruption most server send) send
    ≡ still_transient (interrupted_case most (case_of server send)) (can_be_transient send.session send.number server send)
unfolding interruption interrupted_in
still_law most server send undecided =
    still_as send.session send.number most (interrupted_case most (case_of server send)) (done_before most server send)
    (entries_of send.session send.number (writes_of send) (done_before most server send)) _ server send refl undecided
