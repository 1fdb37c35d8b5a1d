-- A transaction that was called transient, and what an answer is judged by, whatever trace the server has.
use Rattle.std.proofs.Common.{◌≡◌, ℕ, ℤ, Bool, true, false, List, Option, None, Some, refl, sym, ap, ◌∙◌, if◌then◌else◌}
use Rattle.std.specs.Prelude.{int_lt}
use Rattle.std.specs.Cmp.Lexicographic.{nat_list_cmp_total}
use Rattle.std.specs.FinMap as finite
use Rattle.bson_lite.proofs.FinMaps.{get_inserted, insert_again}
use Rattle.driver_link.proofs.TakenNumbers.{not_new, taken_again}
use Rattle.driver_link.specs.Cases.{is_in_transaction, known_under}
use Rattle.driver_link.specs.Exchange.{refused_labels}
use Rattle.driver_link.specs.Honesty.{can_be_transient, honest, ran_before}
use Rattle.driver_link.specs.Interrupting.{aborted, transient_as}
use Rattle.driver_link.specs.Sessions.{taken}
use Rattle.driver_link.specs.declared.machine.KnownSession.{KnownSession}
use Rattle.driver_link.specs.declared.machine.Send.{Send}
use Rattle.driver_link.specs.declared.machine.Server.{Server}
use Rattle.model_effects.specs.Changes.{changed, effect_in, step_in, stepped}
use Rattle.model_effects.specs.declared.change.CursorChange.TheVariants as cursor
use Rattle.model_effects.specs.declared.change.Effect.{Effect}
use Rattle.model_effects.specs.declared.change.Effect.TheVariants as effect
use Rattle.model_effects.specs.declared.change.SessionStep.{SessionStep}
use Rattle.model_effects.specs.declared.change.SessionStep.TheVariants as step

-- what ran before does not depend on the trace
pub before_traced : (session : Option (List ℕ)) (number : Option ℤ) (server : Server) (trace : List Send)
    → ran_before session number (record server { trace = trace }) ≡ ran_before session number server
unfolding ran_before
before_traced None number server trace = refl
before_traced (Some id) None server trace = refl
before_traced (Some id) (Some number) server trace = refl

-- nor does whether the transaction can be called transient
pub transient_traced : (session : Option (List ℕ)) (number : Option ℤ) (server : Server) (trace : List Send) (send : Send)
    → can_be_transient session number (record server { trace = trace }) send ≡ can_be_transient session number server send
unfolding can_be_transient
transient_traced None number server trace send = refl
transient_traced (Some id) None server trace send = refl
transient_traced (Some id) (Some number) server trace send = refl

-- an effect without a change of cursors
pub cursors_stay : (effect : Effect) (server : Server) → changed effect cursor.Nothing server ≡ effect_in effect server
unfolding changed effect_in
cursors_stay effect.Nothing server = refl
cursors_stay (effect.Logged entries) server = refl
cursors_stay (effect.Taken id number in_transaction start step transient) server = refl

-- a step leaves the number
greatest_stays : (step : SessionStep) (known : KnownSession) → (stepped step known).greatest ≡ known.greatest
greatest_stays step.Stays known = refl
greatest_stays (step.Keeps entries results ran) known = refl
greatest_stays (step.Gathers entries ran) known = refl
greatest_stays (step.Fails ran) known = refl
greatest_stays step.Ends known = refl
greatest_stays step.Commits known = refl
greatest_stays step.Denied known = refl

-- what is known of a session after a step of it
pub known_after : (id : List ℕ) (number : ℤ) (step : SessionStep) (server : Server) (send : Send)
    → known_under id number (step_in id step false (known_under id number server send) server) send ≡ stepped step (known_under id number server send)
known_after id number step server send =
    let known : KnownSession = known_under id number server send in
    ap (taken number (is_in_transaction send) send.start) (get_inserted nat_list_cmp_total server.sessions id (stepped step known))
    ∙ taken_again number (is_in_transaction send) send.start (stepped step known)
    (ap (λ greatest. int_lt greatest number) (greatest_stays step known) ∙ not_new number (is_in_transaction send) send.start (finite.get server.sessions id))

-- a step whose transaction is then called transient
pub transient_law : (id : List ℕ) (number : ℤ) (step : SessionStep) (server : Server) (send : Send) → is_in_transaction send ≡ true
    → effect_in (effect.Taken id number (is_in_transaction send) send.start step true) server
    ≡ transient_as (Some id) (Some number) (effect_in (effect.Taken id number (is_in_transaction send) send.start step false) server) send
unfolding effect_in transient_as
transient_law id number step server send inside =
    let known : KnownSession = known_under id number server send in
    let stepped_in : Server = step_in id step false known server in
    (λ i. record stepped_in {
      sessions = (sym (insert_again nat_list_cmp_total (finite.slice_cmp-IsAntisymmetric finite.nat_cmp-IsAntisymmetric) server.sessions id (stepped step known) (aborted (stepped step known)))
          ∙ ap (λ k. finite.insert stepped_in.sessions id (aborted k)) (sym (known_after id number step server send))) i;
    })
    ∙ λ i. if sym inside i then record stepped_in { sessions = finite.insert stepped_in.sessions id (aborted (known_under id number stepped_in send)) } else stepped_in

-- the labels of a refused send
pub refused_law : (server : Server) (trace : List Send) (send : Send) (labels answered : List (List ℕ)) (ran can : Bool)
    → ran ≡ ran_before send.session send.number server → can ≡ can_be_transient send.session send.number server send
    → answered ≡ honest (record { ran_now = false; ran_before = ran; can_be_transient = can }) labels
    → answered ≡ refused_labels labels (record server { trace = trace }) send
refused_law server trace send labels answered ran can ran_is can_is is =
    is ∙ λ i. honest (record {
      ran_now = false;
      ran_before = (ran_is ∙ sym (before_traced send.session send.number server trace)) i;
      can_be_transient = (can_is ∙ sym (transient_traced send.session send.number server trace send)) i;
    }) labels
