-- Of a transaction a commit alone adds entries, and it adds those that were gathered.
use Rattle.std.proofs.Common.{◌≡◌, ◌≢◌, ℕ, ℤ, ◌&&◌, ◌||◌, Bool, true, false, List, [], ◌++◌, Option, None, Some, refl, ap, ◌∙◌, if◌then◌else◌}
use Rattle.std.proofs.lemmas.List.{append-nil}
use Rattle.std.specs.FinMap as finite
use Rattle.driver_link.specs.Cases.{Case, abort_case, case_of, case_under, commits, is_end, is_in_transaction, known_of, known_under, numbered_case, outside, results_of, too_old, write_case, writes_of}
use Rattle.driver_link.specs.Serving.{Plan, done_in, log_gains, served, served_in}
use Rattle.driver_link.specs.Sessions.{is_below, is_new, running}
use Rattle.driver_link.specs.Statements.{entries_of, negated}
use Rattle.driver_link.specs.declared.machine.Entry.{Entry}
use Rattle.driver_link.specs.declared.machine.KnownSession.{KnownSession}
use Rattle.driver_link.specs.declared.machine.Send.{Send}
use Rattle.driver_link.specs.declared.machine.SendBody.{SendBody}
use Rattle.driver_link.specs.declared.machine.SendBody.TheVariants.{Write, Commit, Abort, More, Kill}
use Rattle.driver_link.specs.declared.machine.Server.{Server}
use Rattle.driver_link.specs.declared.machine.ServerTransaction.{ServerTransaction}
use Rattle.driver_link.specs.declared.machine.ServerTransaction.TheVariants as transaction
use Rattle.driver_link.specs.declared.machine.Statement.{Statement}
use Rattle.machine_laws.proofs.SteadyLaws.{case_there, served_case}
use Rattle.machine_laws.specs.Steady.{GoesUnder}

write_gains : (inside : Bool) (found : Option (List Entry)) (again : Bool) (ran : List Entry) → inside || false ≡ true → log_gains (if inside then write_case found again else outside) ran ≡ []
write_gains false found again ran is = let no = is in cc
write_gains true None again ran is = refl
write_gains true (Some entries) true ran is = refl
write_gains true (Some entries) false ran is = refl

abort_gains : (t : ServerTransaction) (ran : List Entry) → log_gains (abort_case t) ran ≡ []
abort_gains transaction.None ran = refl
abort_gains (transaction.Running entries) ran = refl
abort_gains transaction.Committed ran = refl
abort_gains transaction.Aborted ran = refl

inside_gains : (known : KnownSession) (new : Bool) (send : Send) (body : SendBody) (ran : List Entry) → send.in_transaction || is_end body ≡ true → body ≢ Commit
    → log_gains (numbered_case known new send body) ran ≡ []
inside_gains known new send (Write does ordered writes) ran inside other =
    write_gains send.in_transaction (running known.transaction) (send.start && negated new) ran inside
inside_gains known new send Commit ran inside other = absurd (other refl)
inside_gains known new send Abort ran inside other = abort_gains known.transaction ran
inside_gains known new send (More cursor) ran inside other = refl
inside_gains known new send (Kill cursor) ran inside other = refl

under_gains : (id : List ℕ) (number : ℤ) (server : Server) (send : Send) (ran : List Entry) → is_in_transaction send ≡ true → send.body ≢ Commit
    → log_gains (case_under id number server send) ran ≡ []
unfolding case_under
under_gains id number server send ran inside other = by_test (is_below number (finite.get server.sessions id))
  where
    by_test : (b : Bool)
        → log_gains (if b then too_old else numbered_case (known_under id number server send) (is_new number (finite.get server.sessions id)) send send.body) ran ≡ []
    by_test true = refl
    by_test false = inside_gains (known_under id number server send) (is_new number (finite.get server.sessions id)) send send.body ran inside other

log_is : (case : Case) (done : List Statement) (page : Option ℕ) (server : Server) (send : Send)
    → (served_in case done page server send).log ≡ server.log ++ log_gains case (entries_of send.session send.number (writes_of send) done)
unfolding served_in
log_is case done page server send = refl

pub inside_law : (plan : Plan) (id : List ℕ) (number : ℤ) (server : Server) (send : Send) → GoesUnder id number send → is_in_transaction send ≡ true → send.body ≢ Commit
    → (served plan server send).log ≡ server.log
inside_law plan id number server send under inside other =
    let case : Case = case_under id number server send in
    let done : List Statement = done_in case plan (results_of (known_of server send)) send.body in
    ap (λ s. s.log) (served_case plan server send case (case_there id number server send under))
    ∙ log_is case done plan.page server send
    ∙ ap (λ more. server.log ++ more) (under_gains id number server send (entries_of send.session send.number (writes_of send) done) inside other)
    ∙ append-nil server.log

-- a commit of a transaction that runs appends what that has gathered
pub appends_law : (plan : Plan) (server : Server) (send : Send) (entries : List Entry) → case_of server send ≡ commits entries
    → (served plan server send).log ≡ server.log ++ entries
appends_law plan server send entries is =
    ap (λ s. s.log) (served_case plan server send (commits entries) is)
    ∙ log_is (commits entries) (done_in (commits entries) plan (results_of (known_of server send)) send.body) plan.page server send
