-- Laws of transactions: what was aborted never enters the log, what was committed enters it once, and either ends its transaction.
use Rattle.std.proofs.Common.{◌≡◌, ℕ, ℤ, Bool, true, false, List, Option, refl, sym, ap, subst, ◌∙◌}
use Rattle.std.specs.FinMap as finite
use Rattle.driver_link.proofs.ServedSends.{id_same}
use Rattle.driver_link.proofs.TakenNumbers.{open_above}
use Rattle.driver_link.specs.Cases.{Case, case_of, is_decided, is_in_transaction, known_of, known_under, results_of, writes_of, too_old, commits, aborts}
use Rattle.driver_link.specs.Serving.{Plan, done_in, served, served_in, session_after}
use Rattle.driver_link.specs.Sessions.{is_below}
use Rattle.driver_link.specs.Statements.{entries_of}
use Rattle.driver_link.specs.declared.machine.Entry.{Entry}
use Rattle.driver_link.specs.declared.machine.KnownSession.{KnownSession}
use Rattle.driver_link.specs.declared.machine.Send.{Send}
use Rattle.driver_link.specs.declared.machine.SendBody.TheVariants.{Commit}
use Rattle.driver_link.specs.declared.machine.Server.{Server}
use Rattle.driver_link.specs.declared.machine.ServerTransaction.{ServerTransaction}
use Rattle.driver_link.specs.declared.machine.ServerTransaction.TheVariants as transaction
use Rattle.driver_link.specs.declared.machine.Statement.{Statement}
use Rattle.machine_laws.proofs.HeldSessions.{greatest_served, is_early, puts_under, taken_greatest}
use Rattle.machine_laws.proofs.SteadyLaws.{aborted_after, case_there, committed_after, served_case}
use Rattle.machine_laws.specs.Steady.{GoesUnder, HasTransaction}

-- a send in an aborted transaction, under its number
pub aborted_law : (plan : Plan) (id : List ℕ) (number : ℤ) (server : Server) (send : Send) → GoesUnder id number send → is_in_transaction send ≡ true
    → HasTransaction id number transaction.Aborted server
    → ((served plan server send).log ≡ server.log) × HasTransaction id number transaction.Aborted (served plan server send)
aborted_law plan id number server send under inside has = aborted_after id number server send under has.known has.there has.greatest plan has.its inside

-- a commit of a committed transaction
pub committed_law : (plan : Plan) (id : List ℕ) (number : ℤ) (server : Server) (send : Send) → GoesUnder id number send → send.body ≡ Commit
    → HasTransaction id number transaction.Committed server
    → ((served plan server send).log ≡ server.log) × HasTransaction id number transaction.Committed (served plan server send)
committed_law plan id number server send under commit has = committed_after id number server send under has.known has.there has.greatest plan has.its commit

-- what is known of a session once a send under its number was served in a case
abbrev pub left_by : Plan → Case → List ℕ → ℤ → Server → Send → KnownSession
left_by plan case id number server send =
    let done = done_in case plan (results_of (known_of server send)) send.body in
    session_after case done (entries_of send.session send.number (writes_of send) done) (known_under id number server send)

-- a send whose number is not too old leaves its session with this number, and with what the case makes of the transaction
pub case_leaves : (id : List ℕ) (number : ℤ) (server : Server) (send : Send) (case : Case) (done : List Statement) (page : Option ℕ) (its : ServerTransaction)
    → GoesUnder id number send → is_below number (finite.get server.sessions id) ≡ false → is_early case ≡ false
    → (session_after case done (entries_of send.session send.number (writes_of send) done) (known_under id number server send)).transaction ≡ its
    → HasTransaction id number its (served_in case done page server send)
unfolding served_in
case_leaves id number server send case done page its under above late is =
    let known : KnownSession = known_under id number server send in
    let change : KnownSession → KnownSession = session_after case done (entries_of send.session send.number (writes_of send) done) in
    record {
      known = change known;
      there = ap (λ sessions. finite.get sessions id) (puts_under id number case change server send under late) ∙ id_same server.sessions id (change known);
      greatest =
          greatest_served case done (entries_of send.session send.number (writes_of send) done) known
          ∙ taken_greatest number (is_in_transaction send) send.start (finite.get server.sessions id) above;
      its = is;
    }

-- a case that the rules on numbers and transactions leave open is not too old
open_late : (case : Case) → is_decided case ≡ false → is_early case ≡ false
open_late too_old opens = let no : ◌≡◌ {A = Bool} true false = opens in cc
open_late case opens = refl

-- the same of a send that is served in such a case
pub served_leaves : (plan : Plan) (id : List ℕ) (number : ℤ) (server : Server) (send : Send) (case : Case) (its : ServerTransaction) → GoesUnder id number send
    → case_of server send ≡ case → is_decided case ≡ false → (left_by plan case id number server send).transaction ≡ its
    → HasTransaction id number its (served plan server send)
served_leaves plan id number server send case its under is opens left =
    let above = open_above number id server send (ap is_decided (sym (case_there id number server send under) ∙ is) ∙ opens) in
    let done : List Statement = done_in case plan (results_of (known_of server send)) send.body in
    subst (HasTransaction id number its) (sym (served_case plan server send case is))
    (case_leaves id number server send case done plan.page its under above (open_late case opens) left)

-- after a commit of a transaction that runs it is committed
pub commits_law : (plan : Plan) (id : List ℕ) (number : ℤ) (server : Server) (send : Send) (entries : List Entry) → GoesUnder id number send
    → case_of server send ≡ commits entries → HasTransaction id number transaction.Committed (served plan server send)
commits_law plan id number server send entries under is =
    served_leaves plan id number server send (commits entries) transaction.Committed under is refl refl

-- after an abort of one it is aborted
pub aborts_law : (plan : Plan) (id : List ℕ) (number : ℤ) (server : Server) (send : Send) → GoesUnder id number send
    → case_of server send ≡ aborts → HasTransaction id number transaction.Aborted (served plan server send)
aborts_law plan id number server send under is =
    served_leaves plan id number server send aborts transaction.Aborted under is refl refl

-- a second commit after one that appended
pub twice_law : (first second : Plan) (id : List ℕ) (number : ℤ) (server : Server) (send again : Send) (entries : List Entry) → GoesUnder id number send → GoesUnder id number again
    → case_of server send ≡ commits entries → again.body ≡ Commit
    → (served second (served first server send) again).log ≡ (served first server send).log
twice_law first second id number server send again entries under once_more is commit =
    (committed_law second id number (served first server send) again once_more commit (commits_law first id number server send entries under is)).0
