-- The trace gains each send, and a run is the fold of the exchange over its trace.
use Rattle.std.proofs.Common.{◌≡◌, ℕ, Bool, true, false, List, [], ◌∷◌, ◌++◌, refl, ap, ◌∙◌}
use Rattle.std.specs.Prelude.{ℤ, Option, None, Some, slice_get, if◌then◌else◌}
use Rattle.driver_link.specs.declared.machine.Item.{Item}
use Rattle.driver_link.specs.declared.machine.Item.TheVariants.{Serve, Lost, Late, ReplyLost, Interrupted, Refused, Reauthenticate}
use Rattle.driver_link.specs.declared.machine.Schedule.{Schedule}
use Rattle.driver_link.specs.declared.machine.Scheduled.{Scheduled}
use Rattle.driver_link.specs.declared.machine.Send.{Send}
use Rattle.driver_link.specs.declared.machine.Server.{Server}
use Rattle.driver_link.specs.Cases.{case_of, is_decided, is_in_transaction}
use Rattle.driver_link.specs.Exchange.{after_picks, arrived, delivered, exchanged, interrupted, met, next_step, plan_of, refused_labels, interrupted_labels, replayed, traced}
use Rattle.driver_link.specs.Honesty.{has_transient}
use Rattle.driver_link.specs.Interrupting.{interrupted_in, interruption, told_of_error, transient_as}
use Rattle.driver_link.specs.Serving.{Plan, usual, served, served_in}

either_trace : (b : Bool) (one other : Server) (trace : List Send) → one.trace ≡ trace → other.trace ≡ trace → (if b then one else other).trace ≡ trace
either_trace true one other trace first second = first
either_trace false one other trace first second = second

-- serving keeps the trace
served_trace : (plan : Plan) (server : Server) (send : Send) → (served plan server send).trace ≡ server.trace
unfolding served served_in
served_trace plan server send = refl

interruption_trace : (most : ℕ) (server : Server) (send : Send) → (interruption most server send).trace ≡ server.trace
unfolding interruption interrupted_in
interruption_trace most server send = refl

transient_trace : (session : Option (List ℕ)) (number : Option ℤ) (server : Server) (send : Send) → (transient_as session number server send).trace ≡ server.trace
unfolding transient_as
transient_trace (Some id) (Some number) server send = either_trace (is_in_transaction send) _ server server.trace refl refl
transient_trace (Some id) None server send = refl
transient_trace None number server send = refl

error_trace : (labels : List (List ℕ)) (server : Server) (send : Send) → (told_of_error labels server send).trace ≡ server.trace
unfolding told_of_error
error_trace labels server send =
    either_trace (has_transient labels) _ server server.trace (transient_trace send.session send.number server send) refl

interrupted_trace : (most : ℕ) (labels : List (List ℕ)) (server : Server) (send : Send) → (interrupted most labels server send).trace ≡ server.trace
unfolding interrupted
interrupted_trace most labels server send =
    either_trace (is_decided (case_of server send)) _ _ server.trace (served_trace usual server send)
    (error_trace (interrupted_labels most labels server send) (interruption most server send) send ∙ interruption_trace most server send)

arrived_trace : (server : Server) (at : ℕ) (waits : Option (Option Send)) → (arrived server at waits).trace ≡ server.trace
unfolding arrived
arrived_trace server at (Some (Some send)) = served_trace usual _ send
arrived_trace server at (Some None) = refl
arrived_trace server at None = refl

-- late deliveries keep it
pub after_trace : (server : Server) (picks : List ℕ) → (after_picks server picks).trace ≡ server.trace
unfolding after_picks delivered
after_trace server [] = refl
after_trace server (pick ∷ picks) =
    after_trace (arrived server pick (slice_get server.waiting pick)) picks ∙ arrived_trace server pick (slice_get server.waiting pick)

met_trace : (server : Server) (send : Send) (item : Item) → (met server send item).trace ≡ server.trace
unfolding met
met_trace server send (Serve results fail concern page) = served_trace (plan_of results fail concern page) server send
met_trace server send Lost = refl
met_trace server send Late = refl
met_trace server send ReplyLost = served_trace usual server send
met_trace server send (Interrupted most code labels) = interrupted_trace most labels server send
met_trace server send (Refused code labels) = error_trace (refused_labels labels server send) server send
met_trace server send Reauthenticate = refl

-- an exchange adds its send
pub exchanged_trace : (server : Server) (send : Send) (step : Scheduled) → (exchanged server send step).trace ≡ server.trace ++ send ∷ []
unfolding exchanged
exchanged_trace server send step =
    met_trace (traced (after_picks server step.deliver) send) send step.item ∙ ap (λ sends. sends ++ send ∷ []) (after_trace server step.deliver)

-- the fold over one send more
pub replayed_more : (schedule : Schedule) (server : Server) (sends : List Send) (send : Send)
    → replayed schedule server (sends ++ send ∷ [])
    ≡ exchanged (replayed schedule server sends) send (next_step schedule (replayed schedule server sends))
unfolding replayed
replayed_more schedule server [] send = refl
replayed_more schedule server (first ∷ sends) send = replayed_more schedule (exchanged server first (next_step schedule server)) sends send
