-- What serving leaves as it is, by the state of a send's session.
use Rattle.std.proofs.Common.{◌≡◌, ℕ, ℤ, ◌&&◌, ◌||◌, Bool, true, false, List, [], Option, None, Some, refl, ap, ◌∙◌, if◌then◌else◌}
use Rattle.std.specs.Prelude.{int_lt}
use Rattle.std.proofs.lemmas.List.{append-nil}
use Rattle.std.specs.Cmp.Lexicographic.{nat_list_cmp_total}
use Rattle.std.specs.FinMap as finite
use Rattle.bson_lite.proofs.FinMaps.{get_inserted}
use Rattle.driver_link.proofs.TakenNumbers.{not_below_itself, taken_again}
use Rattle.driver_link.specs.Cases.{Case, abort_case, case_as, case_of, case_under, commit_case, is_end, is_in_transaction, known_of, known_under, numbered_case, results_of, too_old, outside, of_cursor, nothing, denied, write_case}
use Rattle.driver_link.specs.Serving.{Plan, done_in, served, served_in, session_after, sessions_as}
use Rattle.driver_link.specs.Sessions.{denied_transaction, is_below, is_new, running, taken}
use Rattle.driver_link.specs.Statements.{negated}
use Rattle.driver_link.specs.declared.machine.KnownSession.{KnownSession}
use Rattle.driver_link.specs.declared.machine.Send.{Send}
use Rattle.driver_link.specs.declared.machine.SendBody.{SendBody}
use Rattle.driver_link.specs.declared.machine.SendBody.TheVariants.{Write, Commit, Abort, More, Kill}
use Rattle.driver_link.specs.declared.machine.Server.{Server}
use Rattle.driver_link.specs.declared.machine.ServerTransaction.{ServerTransaction}
use Rattle.driver_link.specs.declared.machine.ServerTransaction.TheVariants as transaction
use Rattle.driver_link.specs.declared.machine.Statement.{Statement}
use Rattle.machine_laws.specs.Steady.{GoesUnder, HasTransaction}

-- serving a send in a case that is known
pub served_case : (plan : Plan) (server : Server) (send : Send) (case : Case) → case_of server send ≡ case
    → served plan server send ≡ served_in case (done_in case plan (results_of (known_of server send)) send.body) plan.page server send
unfolding served
served_case plan server send case is = λ i. served_in (is i) (done_in (is i) plan (results_of (known_of server send)) send.body) plan.page server send

-- (under a session and a number) the case
pub case_there : (id : List ℕ) (number : ℤ) (server : Server) (send : Send) → GoesUnder id number send → case_of server send ≡ case_under id number server send
unfolding case_as
case_there id number server send under = λ i. case_as (under.its_session i) (under.its_number i) server send

-- a number below the greatest of its session changes nothing
old_case : (id : List ℕ) (number : ℤ) (server : Server) (send : Send) → is_below number (finite.get server.sessions id) ≡ true → case_under id number server send ≡ too_old
unfolding case_under
old_case id number server send below =
    ap (λ b. if b then too_old else numbered_case (known_under id number server send) (is_new number (finite.get server.sessions id)) send send.body) below

old_stays : (done : List Statement) (page : Option ℕ) (server : Server) (send : Send) → served_in too_old done page server send ≡ server
unfolding served_in
old_stays done page server send = λ i. record server { log = append-nil server.log i }

pub old_law : (plan : Plan) (id : List ℕ) (number : ℤ) (server : Server) (send : Send) → GoesUnder id number send
    → is_below number (finite.get server.sessions id) ≡ true → served plan server send ≡ server
old_law plan id number server send under below =
    served_case plan server send too_old (case_there id number server send under ∙ old_case id number server send below)
    ∙ old_stays _ plan.page server send

-- a case that adds no entry and keeps number and transaction
is_quiet : Case → Bool
is_quiet of_cursor = true
is_quiet nothing = true
is_quiet denied = true
is_quiet other = false

module _ (id : List ℕ) (number : ℤ) (server : Server) (send : Send) (under : GoesUnder id number send) (known : KnownSession)
    (there : finite.get server.sessions id ≡ Some known) (same : known.greatest ≡ number) where
  not_less : int_lt number known.greatest ≡ false
  not_less = ap (int_lt number) same ∙ not_below_itself number

  not_greater : int_lt known.greatest number ≡ false
  not_greater = ap (λ greatest. int_lt greatest number) same ∙ not_below_itself number

  above : is_below number (finite.get server.sessions id) ≡ false
  unfolding is_below
  above = ap (is_below number) there ∙ not_less

  known_is : known_under id number server send ≡ known
  known_is = ap (taken number (is_in_transaction send) send.start) there ∙ taken_again number (is_in_transaction send) send.start known not_greater

  new_is : is_new number (finite.get server.sessions id) ≡ false
  unfolding is_new
  new_is = ap (is_new number) there ∙ not_greater

  pub case_is : case_of server send ≡ numbered_case known false send send.body
  unfolding case_under
  case_is =
      case_there id number server send under
      ∙ ap (λ b. if b then too_old else numbered_case (known_under id number server send) (is_new number (finite.get server.sessions id)) send send.body) above
      ∙ λ i. numbered_case (known_is i) (new_is i) send send.body

  -- a quiet case adds nothing to the log
  quiet_log : (case : Case) (done : List Statement) (page : Option ℕ) → is_quiet case ≡ true → (served_in case done page server send).log ≡ server.log
  unfolding is_quiet served_in
  quiet_log of_cursor done page quiet = append-nil server.log
  quiet_log nothing done page quiet = append-nil server.log
  quiet_log denied done page quiet = append-nil server.log
  quiet_log case done page quiet = let no = quiet in cc

  -- what is made of the known session is found under its id
  put_there : (change : KnownSession → KnownSession) → finite.get (finite.insert server.sessions id (change (known_under id number server send))) id ≡ Some (change known)
  put_there change = get_inserted nat_list_cmp_total server.sessions id (change (known_under id number server send)) ∙ ap (λ k. Some (change k)) known_is

  -- a case that puts the session anew puts there what it makes of the known one
  put_by : (case : Case) (change : KnownSession → KnownSession)
      → sessions_as (Some id) (Some number) case change server send ≡ finite.insert server.sessions id (change (known_under id number server send))
      → finite.get (sessions_as send.session send.number case change server send) id ≡ Some (change known)
  put_by case change puts =
      (λ i. finite.get (sessions_as (under.its_session i) (under.its_number i) case change server send) id)
      ∙ ap (λ sessions. finite.get sessions id) puts ∙ put_there change

  -- a quiet case puts there what it makes of the known session
  quiet_there : (case : Case) (done : List Statement) (page : Option ℕ) → is_quiet case ≡ true
      → finite.get (served_in case done page server send).sessions id ≡ Some (session_after case done [] known)
  unfolding is_quiet served_in
  quiet_there of_cursor done page quiet = put_by of_cursor (λ k. k) refl
  quiet_there nothing done page quiet = put_by nothing (λ k. k) refl
  quiet_there denied done page quiet = put_by denied (session_after denied done []) refl
  quiet_there case done page quiet = let no = quiet in cc

  -- a send in an aborted transaction
  write_denied : (inside again : Bool) → inside ≡ true → is_quiet (if inside then write_case None again else outside) ≡ true
  unfolding is_quiet
  write_denied true again is = refl
  write_denied false again is = let no = is in cc

  aborted_quiet : (body : SendBody) → known.transaction ≡ transaction.Aborted → send.in_transaction || is_end body ≡ true → is_quiet (numbered_case known false send body) ≡ true
  unfolding is_quiet
  aborted_quiet (Write does ordered writes) is inside =
      ap (λ t. is_quiet (if send.in_transaction then write_case (running t) (send.start && negated false) else outside)) is
      ∙ write_denied send.in_transaction (send.start && negated false) (of_write send.in_transaction inside)
    where
      of_write : (b : Bool) → b || false ≡ true → b ≡ true
      of_write true is = refl
      of_write false is = is
  aborted_quiet Commit is inside = ap (λ t. is_quiet (commit_case t)) is
  aborted_quiet Abort is inside = ap (λ t. is_quiet (abort_case t)) is
  aborted_quiet (More cursor) is inside = refl
  aborted_quiet (Kill cursor) is inside = refl

  committed_quiet : (body : SendBody) → body ≡ Commit → known.transaction ≡ transaction.Committed → is_quiet (numbered_case known false send body) ≡ true
  unfolding is_quiet
  committed_quiet body is committed =
      ap (λ b. is_quiet (numbered_case known false send b)) is ∙ ap (λ t. is_quiet (commit_case t)) committed

  -- a quiet case leaves a transaction that a denial leaves
  kept_transaction : (its : ServerTransaction) (case : Case) (done : List Statement) → denied_transaction its ≡ its → is_quiet case ≡ true → known.transaction ≡ its
      → (session_after case done [] known).transaction ≡ its
  unfolding is_quiet
  kept_transaction its of_cursor done stays quiet is = is
  kept_transaction its nothing done stays quiet is = is
  kept_transaction its denied done stays quiet is = ap denied_transaction is ∙ stays
  kept_transaction its case done stays quiet is = let no = quiet in cc

  -- a quiet case keeps the number
  kept_greatest : (case : Case) (done : List Statement) → is_quiet case ≡ true → (session_after case done [] known).greatest ≡ number
  unfolding is_quiet
  kept_greatest of_cursor done quiet = same
  kept_greatest nothing done quiet = same
  kept_greatest denied done quiet = same
  kept_greatest case done quiet = let no = quiet in cc

  -- in a quiet case the log stays, and such a transaction stays under its number
  quiet_after : (plan : Plan) (its : ServerTransaction) → denied_transaction its ≡ its → known.transaction ≡ its → is_quiet (numbered_case known false send send.body) ≡ true
      → ((served plan server send).log ≡ server.log) × HasTransaction id number its (served plan server send)
  quiet_after plan its stays is quiet =
      let case : Case = numbered_case known false send send.body in
      let done : List Statement = done_in case plan (results_of (known_of server send)) send.body in
      let whole = served_case plan server send case case_is in (
        ap (λ s. s.log) whole ∙ quiet_log case done plan.page quiet,
        record {
          known = session_after case done [] known;
          there = ap (λ s. finite.get s.sessions id) whole ∙ quiet_there case done plan.page quiet;
          greatest = kept_greatest case done quiet;
          its = kept_transaction its case done stays quiet is;
        },
      )

  -- an aborted transaction stays aborted, and adds nothing to the log
  pub aborted_after : (plan : Plan) → known.transaction ≡ transaction.Aborted → is_in_transaction send ≡ true
      → ((served plan server send).log ≡ server.log) × HasTransaction id number transaction.Aborted (served plan server send)
  aborted_after plan is inside = quiet_after plan transaction.Aborted refl is (aborted_quiet send.body is inside)

  -- a committed transaction that is committed again stays so, and adds nothing to the log
  pub committed_after : (plan : Plan) → known.transaction ≡ transaction.Committed → send.body ≡ Commit
      → ((served plan server send).log ≡ server.log) × HasTransaction id number transaction.Committed (served plan server send)
  committed_after plan is commit = quiet_after plan transaction.Committed refl is (committed_quiet send.body commit is)
