-- An interrupted send: its step, its effect, and the labels of its answer, whatever trace the server has.
use Rattle.std.proofs.Common.{◌≡◌, ℕ, ℤ, ◌&&◌, ◌||◌, Bool, true, false, List, ◌++◌, Option, None, Some, refl, sym, ap, ◌∙◌, if◌then◌else◌}
use Rattle.std.proofs.lemmas.List.{append-nil}
use Rattle.std.specs.FinMap as finite
use Rattle.driver_link.proofs.TakenNumbers.{case_traced, known_traced}
use Rattle.driver_link.specs.Cases.{Case, case_of, is_decided, is_in_transaction, known_of, known_under, results_of, writes_of}
use Rattle.driver_link.specs.Exchange.{interrupted, interrupted_labels, interrupted_reply}
use Rattle.driver_link.specs.Gathered.{gathered_by, is_numbered}
use Rattle.driver_link.specs.Honesty.{can_be_transient, has_transient, honest, ran_before}
use Rattle.driver_link.specs.Interrupting.{aborted, done_before, told_of_error, interrupted_case, interrupted_done, interrupted_in, interruption, runs_in, session_interrupted, transient_as}
use Rattle.driver_link.specs.Replies.{error_reply, served_reply}
use Rattle.driver_link.specs.Serving.{log_gains, served, session_after, sessions_as, usual}
use Rattle.driver_link.specs.Statements.{entries_of, has_run}
use Rattle.driver_link.specs.declared.machine.Entry.{Entry}
use Rattle.driver_link.specs.declared.machine.KnownSession.{KnownSession}
use Rattle.driver_link.specs.declared.machine.Send.{Send}
use Rattle.driver_link.specs.declared.machine.Server.{Server}
use Rattle.driver_link.specs.declared.machine.ServerTransaction.TheVariants as transaction
use Rattle.driver_link.specs.declared.machine.Statement.{Statement}
use Rattle.model_effects.proofs.EffectLaws.{taken_law}
use Rattle.model_server.proofs.StillLaws.{still_law}
use Rattle.model_server.proofs.TransientLaws.{before_traced, cursors_stay, transient_law, transient_traced}
use Rattle.model_effects.specs.Changes.{changed, effect_in}
use Rattle.model_effects.specs.Does.{Does}
use Rattle.model_effects.specs.Parts.{Makes, parts_as}
use Rattle.model_effects.specs.Seen.{is_too_old, seen}
use Rattle.model_server.specs.Transient.{called, still_transient}
use Rattle.model_effects.specs.declared.cases.Case.{Case as Met}
use Rattle.model_effects.specs.declared.cases.Case.TheVariants as met
use Rattle.model_effects.specs.declared.change.CursorChange.TheVariants as cursor
use Rattle.model_effects.specs.declared.change.Effect.{Effect}
use Rattle.model_effects.specs.declared.change.Effect.TheVariants as effect
use Rattle.model_effects.specs.declared.change.SessionStep.{SessionStep}
use Rattle.model_effects.specs.declared.change.SessionStep.TheVariants as step

-- statements that gather and are interrupted abort their transaction
pub fails_interrupted : (done : List Statement) (ran : List Entry) (has : Bool) (known : KnownSession)
    → has ≡ has_run done → Does session_interrupted (step.Fails has) met.Gathers done ran known
fails_interrupted done ran has known has_is = record {
  session = λ i. record known { ran = known.ran || has_is i; transaction = transaction.Aborted };
  log = λ log. sym (append-nil log);
}

-- in the other cases the step is that of serving
pub as_served : (step : SessionStep) (case : Met) (done : List Statement) (ran : List Entry) (known : KnownSession)
    → (case ≡ met.Gathers → ⊥) → Does session_after step case done ran known → Does session_interrupted step case done ran known
as_served step met.TooOld done ran known other does = record { session = does.session; log = does.log }
as_served step met.Outside done ran known other does = record { session = does.session; log = does.log }
as_served step met.Gathers done ran known other does = absurd (other refl)
as_served step met.Commits done ran known other does = record { session = does.session; log = does.log }
as_served step met.Aborts done ran known other does = record { session = does.session; log = does.log }
as_served step met.OfCursor done ran known other does = record { session = does.session; log = does.log }
as_served step met.Nothing done ran known other does = record { session = does.session; log = does.log }
as_served step met.Denied done ran known other does = record { session = does.session; log = does.log }

-- a step whose transaction is then called transient, or is not
step_called : (id : List ℕ) (number : ℤ) (step : SessionStep) (server : Server) (send : Send) (inside : Bool) → is_in_transaction send ≡ inside
    → effect_in (effect.Taken id number (is_in_transaction send) send.start step inside) server
    ≡ transient_as (Some id) (Some number) (effect_in (effect.Taken id number (is_in_transaction send) send.start step false) server) send
unfolding transient_as
step_called id number step server send true is = transient_law id number step server send is
step_called id number step server send false is =
    let less : Server = effect_in (effect.Taken id number (is_in_transaction send) send.start step false) server in
    ap (λ b. if b then record less { sessions = finite.insert less.sessions id (aborted (known_under id number less send)) } else less) (sym is)

pub effect_called : (makes : Makes) (case : Met) (id : List ℕ) (number : ℤ) (step : SessionStep) (done : List Statement) (ran : List Entry) (server : Server) (send : Send) (transient : Bool)
    → send.session ≡ Some id → send.number ≡ Some number → is_too_old case ≡ false
    → ((known : KnownSession) → Does makes step case done ran known)
    → effect_in (effect.Taken id number (is_in_transaction send) send.start step (transient && is_in_transaction send)) server
    ≡ called transient (parts_as makes send.session send.number case done ran server send) send
effect_called makes case id number step done ran server send false session_is number_is early does =
    taken_law makes case id number step done ran server send session_is number_is early does
effect_called makes case id number step done ran server send true session_is number_is early does =
    step_called id number step server send (is_in_transaction send) refl
    ∙ ap (λ now. transient_as (Some id) (Some number) now send) (taken_law makes case id number step done ran server send session_is number_is early does)
    ∙ λ i. transient_as (sym session_is i) (sym number_is i) (parts_as makes send.session send.number case done ran server send) send

-- without a number no transaction is called transient
unnumbered_stays : (session : Option (List ℕ)) (number : Option ℤ) (server : Server) (send : Send) → is_numbered session number ≡ false
    → server ≡ transient_as session number server send
unfolding transient_as
unnumbered_stays None number server send none = refl
unnumbered_stays (Some id) None server send none = refl
unnumbered_stays (Some id) (Some number) server send none = let no = none in cc

pub unnumbered_called : (server : Server) (send : Send) (transient : Bool) → is_numbered send.session send.number ≡ false → server ≡ called transient server send
unnumbered_called server send false none = refl
unnumbered_called server send true none = unnumbered_stays send.session send.number server send none

-- an error with the transient label calls the transaction transient
told_called : (labels : List (List ℕ)) (server : Server) (send : Send) → called (has_transient labels) server send ≡ told_of_error labels server send
unfolding told_of_error
told_called labels server send = by_test (has_transient labels)
  where
    by_test : (b : Bool) → called b server send ≡ (if b then transient_as send.session send.number server send else server)
    by_test true = refl
    by_test false = refl

module _ (server : Server) (trace : List Send) (send : Send) (case : Met) (most : ℕ)
    (case_is : seen case (gathered_by (known_of server send)) ≡ interrupted_case most (case_of server send))
    (undecided : is_decided (case_of server send) ≡ false) where
  now : Server
  now = record server { trace = trace }

  whole : Case
  whole = seen case (gathered_by (known_of server send))

  known_now : known_of now send ≡ known_of server send
  unfolding now
  known_now = known_traced send.session send.number server trace send

  whole_now : whole ≡ interrupted_case most (case_of now send)
  unfolding now whole
  whole_now = case_is ∙ ap (interrupted_case most) (sym (case_traced send.session send.number server trace send))

  undecided_now : is_decided (case_of now send) ≡ false
  unfolding now
  undecided_now = ap is_decided (case_traced send.session send.number server trace send) ∙ undecided

  -- the statements that ran
  done_now : (done : List Statement) → done ≡ interrupted_done most whole (results_of (known_of server send)) send.body → done ≡ done_before most now send
  done_now done is = is ∙ λ i. interrupted_done most (whole_now i) (results_of (sym known_now i)) send.body

  -- the labels of the answer
  pub labels_law : (labels answered : List (List ℕ)) (done : List Statement) (ran before can : Bool)
      → done ≡ interrupted_done most (seen case (gathered_by (known_of server send))) (results_of (known_of server send)) send.body
      → ran ≡ runs_in (seen case (gathered_by (known_of server send))) done
      → before ≡ ran_before send.session send.number server
      → can ≡ still_transient (seen case (gathered_by (known_of server send))) (can_be_transient send.session send.number server send)
      → answered ≡ honest (record { ran_now = ran; ran_before = before; can_be_transient = can }) labels
      → answered ≡ interrupted_labels most labels (record server { trace = trace }) send
  unfolding now whole
  labels_law labels answered done ran before can done_is ran_is before_is can_is is =
      is ∙ λ i. honest (record {
        ran_now = (ran_is ∙ λ j. runs_in (whole_now j) (done_now done done_is j)) i;
        ran_before = (before_is ∙ sym (before_traced send.session send.number server trace)) i;
        can_be_transient = (can_is
            ∙ (λ j. still_transient (whole_now j) (sym (transient_traced send.session send.number server trace send) j))
            ∙ sym (still_law most now send undecided_now)) i;
      }) labels

  -- its effect on sessions and log
  parts_now : (done : List Statement) → done ≡ interrupted_done most whole (results_of (known_of server send)) send.body
      → parts_as session_interrupted send.session send.number case done (entries_of send.session send.number (writes_of send) done) now send ≡ interruption most now send
  unfolding parts_as interruption interrupted_in now whole
  parts_now done done_is =
      (λ i. let one : Case = seen case (gathered_by (known_now i)) in
      record now {
        sessions = sessions_as send.session send.number one (session_interrupted one done (entries_of send.session send.number (writes_of send) done)) now send;
        log = now.log ++ log_gains one (entries_of send.session send.number (writes_of send) done);
      })
      ∙ λ i. interrupted_in (whole_now i) (done_now done done_is i) now send

  -- the server after it
  pub interrupt_law : (labels : List (List ℕ)) (done : List Statement) (effect : Effect) (transient : Bool)
      → done ≡ interrupted_done most (seen case (gathered_by (known_of server send))) (results_of (known_of server send)) send.body
      → ((state : Server) → effect_in effect state ≡ called transient (parts_as session_interrupted send.session send.number case done (entries_of send.session send.number (writes_of send) done) state send) send)
      → transient ≡ has_transient labels
      → changed effect cursor.Nothing (record server { trace = trace }) ≡ told_of_error labels (interruption most (record server { trace = trace }) send) send
  unfolding now whole
  interrupt_law labels done effect transient done_is effect_is transient_is =
      cursors_stay effect now ∙ effect_is now ∙ (λ i. called (transient_is i) (parts_now done done_is i) send) ∙ told_called labels (interruption most now send) send

-- where the rules on numbers and transactions decide, an interrupted send is served as usual
pub decided_law : (server : Server) (trace : List Send) (send : Send) (most : ℕ) (labels : List (List ℕ)) → is_decided (case_of server send) ≡ true
    → served usual (record server { trace = trace }) send ≡ interrupted most labels (record server { trace = trace }) send
unfolding interrupted
decided_law server trace send most labels is =
    let now : Server = record server { trace = trace } in
    ap (λ b. if b then served usual now send else told_of_error (interrupted_labels most labels now send) (interruption most now send) send)
    (sym (ap is_decided (case_traced send.session send.number server trace send) ∙ is))

pub decided_reply_law : (server : Server) (trace : List Send) (send : Send) (most : ℕ) (code : ℤ) (labels : List (List ℕ)) → is_decided (case_of server send) ≡ true
    → served_reply usual (record server { trace = trace }) send ≡ interrupted_reply most code labels (record server { trace = trace }) send
unfolding interrupted_reply
decided_reply_law server trace send most code labels is =
    let now : Server = record server { trace = trace } in
    ap (λ b. if b then served_reply usual now send else error_reply code (interrupted_labels most labels now send))
    (sym (ap is_decided (case_traced send.session send.number server trace send) ∙ is))

-- in the other cases it is interrupted
pub open_law : (server : Server) (trace : List Send) (send : Send) (most : ℕ) (labels : List (List ℕ)) → is_decided (case_of server send) ≡ false
    → told_of_error (interrupted_labels most labels (record server { trace = trace }) send) (interruption most (record server { trace = trace }) send) send
    ≡ interrupted most labels (record server { trace = trace }) send
unfolding interrupted
open_law server trace send most labels is =
    let now : Server = record server { trace = trace } in
    ap (λ b. if b then served usual now send else told_of_error (interrupted_labels most labels now send) (interruption most now send) send)
    (sym (ap is_decided (case_traced send.session send.number server trace send) ∙ is))

pub open_reply_law : (server : Server) (trace : List Send) (send : Send) (most : ℕ) (code : ℤ) (labels : List (List ℕ)) → is_decided (case_of server send) ≡ false
    → error_reply code (interrupted_labels most labels (record server { trace = trace }) send) ≡ interrupted_reply most code labels (record server { trace = trace }) send
unfolding interrupted_reply
open_reply_law server trace send most code labels is =
    let now : Server = record server { trace = trace } in
    ap (λ b. if b then served_reply usual now send else error_reply code (interrupted_labels most labels now send))
    (sym (ap is_decided (case_traced send.session send.number server trace send) ∙ is))
