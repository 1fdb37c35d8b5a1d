-- Entries only grow at the log's end, and a kept result adds none.
use Rattle.std.proofs.Common.{◌≡◌, ℕ, ◌+◌, ℤ, ◌&&◌, Bool, true, false, List, [], ◌∷◌, ◌++◌, Option, None, Some, IsSome, refl, sym, ap, ◌∙◌, append_assoc, if◌then◌else◌, slice_get, slice_set}
use Rattle.std.proofs.lemmas.List.{append-nil}
use Rattle.std.specs.FinMap as finite
use Rattle.driver_link.specs.Cases.{case_of, is_decided, is_in_transaction, known_of, known_under, is_ordered, outside, results_of, writes_of}
use Rattle.driver_link.specs.Exchange.{after_picks, arrived, delivered, exchanged, interrupted, interrupted_labels, met, plan_of, refused_labels, traced}
use Rattle.driver_link.specs.Honesty.{has_transient}
use Rattle.driver_link.specs.Interrupting.{aborted, done_before, interrupted_case, interrupted_in, interruption, told_of_error, transient_as}
use Rattle.driver_link.specs.Serving.{Plan, log_gains, served, served_in, usual}
use Rattle.driver_link.specs.Statements.{Results, code_at, counts_by_plan, entries_of, is_failed, planned_at, statement_of, statements}
use Rattle.driver_link.specs.declared.machine.Counted.{Counted}
use Rattle.driver_link.specs.declared.machine.Failing.{Failing}
use Rattle.driver_link.specs.declared.machine.Item.{Item}
use Rattle.driver_link.specs.declared.machine.Item.TheVariants.{Serve, Lost, Late, ReplyLost, Interrupted, Refused, Reauthenticate}
use Rattle.driver_link.specs.declared.machine.PlacedWrite.{PlacedWrite}
use Rattle.driver_link.specs.declared.machine.Planned.{Planned}
use Rattle.driver_link.specs.declared.machine.Scheduled.{Scheduled}
use Rattle.driver_link.specs.declared.machine.Send.{Send}
use Rattle.driver_link.specs.declared.machine.Server.{Server}
use Rattle.driver_link.specs.declared.machine.Statement.TheVariants.{Kept}
use Rattle.machine_laws.proofs.SteadyLaws.{served_case}
use Rattle.machine_laws.specs.Steady.{HasResults, OnlyAdds}

-- nothing was added
adds_none : (server : Server) → OnlyAdds server server
adds_none server = record { more = []; log = sym (append-nil server.log) }

-- a server with the same log
adds_same : (old now : Server) → now.log ≡ old.log → OnlyAdds old now
adds_same old now same = record { more = []; log = same ∙ sym (append-nil old.log) }

adds_twice : (a b c : Server) → OnlyAdds a b → OnlyAdds b c → OnlyAdds a c
adds_twice a b c first second = record {
  more = first.more ++ second.more;
  log = second.log ∙ ap (λ log. log ++ second.more) first.log ∙ append_assoc a.log first.more second.more;
}

pub served_adds : (plan : Plan) (server : Server) (send : Send) → OnlyAdds server (served plan server send)
unfolding served served_in
served_adds plan server send = record { more = log_gains (case_of server send) _; log = refl }

interruption_adds : (most : ℕ) (server : Server) (send : Send) → OnlyAdds server (interruption most server send)
unfolding interruption interrupted_in
interruption_adds most server send = record {
  more = log_gains (interrupted_case most (case_of server send)) (entries_of send.session send.number (writes_of send) (done_before most server send));
  log = refl;
}

transient_adds : (session : Option (List ℕ)) (number : Option ℤ) (server : Server) (send : Send) → OnlyAdds server (transient_as session number server send)
unfolding transient_as
transient_adds None number server send = adds_none server
transient_adds (Some id) None server send = adds_none server
transient_adds (Some id) (Some number) server send = by_test (is_in_transaction send)
  where
    by_test : (b : Bool) → OnlyAdds server (if b then record server { sessions = finite.insert server.sessions id (aborted (known_under id number server send)) } else server)
    by_test true = adds_same server _ refl
    by_test false = adds_none server

error_adds : (labels : List (List ℕ)) (server : Server) (send : Send) → OnlyAdds server (told_of_error labels server send)
unfolding told_of_error
error_adds labels server send = by_test (has_transient labels)
  where
    by_test : (b : Bool) → OnlyAdds server (if b then transient_as send.session send.number server send else server)
    by_test true = transient_adds send.session send.number server send
    by_test false = adds_none server

interrupted_adds : (most : ℕ) (labels : List (List ℕ)) (server : Server) (send : Send) → OnlyAdds server (interrupted most labels server send)
unfolding interrupted
interrupted_adds most labels server send = by_test (is_decided (case_of server send))
  where
    by_test : (b : Bool) → OnlyAdds server (if b then served usual server send else told_of_error (interrupted_labels most labels server send) (interruption most server send) send)
    by_test true = served_adds usual server send
    by_test false = adds_twice server (interruption most server send) _ (interruption_adds most server send) (error_adds _ (interruption most server send) send)

met_adds : (server : Server) (send : Send) (item : Item) → OnlyAdds server (met server send item)
unfolding met
met_adds server send (Serve results fail concern page) = served_adds (plan_of results fail concern page) server send
met_adds server send Lost = adds_none server
met_adds server send Late = adds_same server _ refl
met_adds server send ReplyLost = served_adds usual server send
met_adds server send (Interrupted most code labels) = interrupted_adds most labels server send
met_adds server send (Refused code labels) = error_adds (refused_labels labels server send) server send
met_adds server send Reauthenticate = adds_none server

arrived_adds : (server : Server) (at : ℕ) (found : Option (Option Send)) → OnlyAdds server (arrived server at found)
unfolding arrived
arrived_adds server at None = adds_none server
arrived_adds server at (Some None) = adds_none server
arrived_adds server at (Some (Some send)) =
    let adds = served_adds usual (record server { waiting = slice_set server.waiting at None }) send in
    record { more = adds.more; log = adds.log }

pub delivered_adds : (server : Server) (at : ℕ) → OnlyAdds server (delivered server at)
unfolding delivered
delivered_adds server at = arrived_adds server at (slice_get server.waiting at)

picks_add : (server : Server) (picks : List ℕ) → OnlyAdds server (after_picks server picks)
unfolding after_picks
picks_add server [] = adds_none server
picks_add server (pick ∷ picks) = adds_twice server (delivered server pick) _ (delivered_adds server pick) (picks_add (delivered server pick) picks)

pub exchanged_adds : (server : Server) (send : Send) (step : Scheduled) → OnlyAdds server (exchanged server send step)
unfolding exchanged
exchanged_adds server send step =
    let after : Server = after_picks server step.deliver in
    let adds = met_adds (traced after send) send step.item in
    adds_twice server after _ (picks_add server step.deliver) (record { more = adds.more; log = adds.log })

-- writes whose results were kept add no entry
kept_statement : (found : Option Counted) (code : Option ℤ) (now : Counted) → IsSome found → (result : Counted) × (statement_of found code now ≡ Kept result)
kept_statement (Some result) code now some = (result, refl)
kept_statement None code now some = let no = some in absurd (cc no)

no_entries : (session : Option (List ℕ)) (number : Option ℤ) (results : List Planned) (fail : List Failing) (ordered : Bool) (kept : Results) (at : ℕ) (writes : List PlacedWrite)
    → HasResults kept at writes → entries_of session number writes (statements results fail ordered kept at writes) ≡ []
unfolding entries_of statements
no_entries session number results fail ordered kept at [] has = refl
no_entries session number results fail ordered kept at (write ∷ writes) has =
    let is = kept_statement (finite.get kept at) (code_at fail at) (counts_by_plan write.written.kind (planned_at results at)) has.0 in
    (λ i. entries_of session number (write ∷ writes) (is.1 i ∷ (if ordered && is_failed (is.1 i) then [] else statements results fail ordered kept (at + 1) writes)))
    ∙ later ordered (no_entries session number results fail ordered kept (at + 1) writes has.1)
  where
    later : (b : Bool) → entries_of session number writes (statements results fail ordered kept (at + 1) writes) ≡ []
        → entries_of session number writes (if b && false then [] else statements results fail ordered kept (at + 1) writes) ≡ []
    later true rest = rest
    later false rest = rest

outside_log : (plan : Plan) (server : Server) (send : Send) → HasResults (results_of (known_of server send)) 0 (writes_of send)
    → (served_in outside (statements plan.results plan.fail (is_ordered send.body) (results_of (known_of server send)) 0 (writes_of send)) plan.page server send).log ≡ server.log
unfolding served_in
outside_log plan server send has =
    ap (λ ran. server.log ++ ran) (no_entries send.session send.number plan.results plan.fail (is_ordered send.body) (results_of (known_of server send)) 0 (writes_of send) has)
    ∙ append-nil server.log

pub kept_law : (plan : Plan) (server : Server) (send : Send) → case_of server send ≡ outside → HasResults (results_of (known_of server send)) 0 (writes_of send)
    → (served plan server send).log ≡ server.log
kept_law plan server send is has = ap (λ s. s.log) (served_case plan server send outside is) ∙ outside_log plan server send has
