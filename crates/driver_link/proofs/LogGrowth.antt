-- Entries stay in the log, whatever sends are served or arrive late, and the trace gains the send alone.
use Rattle.std.proofs.Common.{◌≡◌, ℕ, true, false, List, [], ◌∷◌, ◌++◌, refl, sym, ap, subst, ◌∙◌, append_assoc, inl, inr}
use Rattle.std.specs.Prelude.{Option, None, Some, slice_get, slice_set}
use Rattle.std.specs.FinMap as finite
use Rattle.std.proofs.lemmas.List.{append-nil}
use Rattle.driver_link.specs.declared.machine.Entry.{Entry}
use Rattle.driver_link.specs.declared.machine.Item.{Item}
use Rattle.driver_link.specs.declared.machine.Item.TheVariants.{Serve, Lost, Late, ReplyLost, Interrupted, Refused, Reauthenticate}
use Rattle.driver_link.specs.declared.machine.Scheduled.{Scheduled}
use Rattle.driver_link.specs.declared.machine.Send.{Send}
use Rattle.driver_link.specs.declared.machine.Server.{Server}
use Rattle.driver_link.specs.Cases.{outside, writes_of}
use Rattle.driver_link.specs.Exchange.{after_picks, arrived, delivered, exchanged, interrupted, met, plan_of, refused_labels, traced}
use Rattle.driver_link.specs.Interrupting.{interrupted_in, told_of_error}
use Rattle.driver_link.specs.Serving.{Plan, usual, served, served_in}
use Rattle.driver_link.specs.Sessions.{is_below}
use Rattle.driver_link.specs.Settled.{IsEither, IsOrderly, IsPlain, IsSettled, IsUnnumbered}
use Rattle.driver_link.specs.Statements.{entries_of}
use Rattle.driver_link.proofs.CursorSends.{OnlyCursors, interrupted_aside, refused_aside, served_aside}
use Rattle.driver_link.proofs.Lists.{has_last}
use Rattle.driver_link.proofs.Plain.{begun_done, below_nothing, error_nothing, interrupted_above, interrupted_below, planned, served_above}
use Rattle.driver_link.proofs.SettledExchanges.{after_settled, orderly_front}
use Rattle.driver_link.proofs.Unnumbered.{begun_only, error_free, interrupted_free, planned_only, served_free}

-- the log keeps its front and the trace stays
pub record KeepsEntries (old now : Server) : Type 0 where
  pub more : List Entry
  pub log : now.log ≡ old.log ++ more
  pub trace : now.trace ≡ old.trace

keeps_same : (server : Server) → KeepsEntries server server
keeps_same server = record { more = []; log = sym (append-nil server.log); trace = refl }

-- so it is where cursors alone change
keeps_beside_cursors : (old now : Server) → OnlyCursors old now → KeepsEntries old now
keeps_beside_cursors old now same = record { more = []; log = same.log ∙ sym (append-nil old.log); trace = same.trace }

keeps_entries_twice : (a b c : Server) → KeepsEntries a b → KeepsEntries b c → KeepsEntries a c
keeps_entries_twice a b c first second = record {
  more = first.more ++ second.more;
  log = second.log ∙ ap (λ log. log ++ second.more) first.log ∙ append_assoc a.log first.more second.more;
  trace = second.trace ∙ first.trace;
}

-- under a number
module _ (send : Send) (plain : IsPlain send) (server : Server) where
  served_in_keeps : (plan : Plan) → KeepsEntries server (served_in outside (planned send plain server plan) plan.page server send)
  unfolding served_in
  served_in_keeps plan =
      record { more = entries_of send.session send.number (writes_of send) (planned send plain server plan); log = refl; trace = refl }

  served_plain_keeps : (plan : Plan) → KeepsEntries server (served plan server send)
  served_plain_keeps plan =
      elim (is_below plain.number (finite.get server.sessions plain.id))
      as (λ b. is_below plain.number (finite.get server.sessions plain.id) ≡ b → KeepsEntries server (served plan server send)) [
        | true ↦ λ below. subst (KeepsEntries server) (sym (below_nothing send plain server plan below)) (keeps_same server)
        | false ↦ λ above. subst (KeepsEntries server) (sym (served_above send plain server plan above)) (served_in_keeps plan)
      ] refl

  begun_in_keeps : (most : ℕ) → KeepsEntries server (interrupted_in outside (begun_done send plain server most) server send)
  unfolding interrupted_in
  begun_in_keeps most = record { more = entries_of send.session send.number (writes_of send) (begun_done send plain server most); log = refl; trace = refl }

  interrupted_plain_keeps : (most : ℕ) (labels : List (List ℕ)) → KeepsEntries server (interrupted most labels server send)
  interrupted_plain_keeps most labels =
      elim (is_below plain.number (finite.get server.sessions plain.id))
      as (λ b. is_below plain.number (finite.get server.sessions plain.id) ≡ b → KeepsEntries server (interrupted most labels server send)) [
        | true ↦ λ below. subst (KeepsEntries server) (sym (interrupted_below send plain server most labels below)) (keeps_same server)
        | false ↦ λ above. subst (KeepsEntries server) (sym (interrupted_above send plain server most labels above)) (begun_in_keeps most)
      ] refl

-- without one
module _ (send : Send) (free : IsUnnumbered send) (server : Server) where
  served_in_keeps_free : (plan : Plan) → KeepsEntries server (served_in outside (planned_only send free server plan) plan.page server send)
  unfolding served_in
  served_in_keeps_free plan =
      record { more = entries_of send.session send.number (writes_of send) (planned_only send free server plan); log = refl; trace = refl }

  served_free_keeps : (plan : Plan) → KeepsEntries server (served plan server send)
  served_free_keeps plan = subst (KeepsEntries server) (sym (served_free send free server plan)) (served_in_keeps_free plan)

  begun_in_keeps_free : (most : ℕ) → KeepsEntries server (interrupted_in outside (begun_only send free server most) server send)
  unfolding interrupted_in
  begun_in_keeps_free most = record { more = entries_of send.session send.number (writes_of send) (begun_only send free server most); log = refl; trace = refl }

  interrupted_free_keeps : (most : ℕ) (labels : List (List ℕ)) → KeepsEntries server (interrupted most labels server send)
  interrupted_free_keeps most labels = subst (KeepsEntries server) (sym (interrupted_free send free server most labels)) (begun_in_keeps_free most)

-- with one or without
module _ (send : Send) (is_either : IsEither send) (server : Server) where
  served_keeps : (plan : Plan) → KeepsEntries server (served plan server send)
  served_keeps plan = elim is_either [
    | inl plain ↦ served_plain_keeps send plain server plan
    | inr other ↦ elim other [
      | inl free ↦ served_free_keeps send free server plan
      | inr aside ↦ keeps_beside_cursors server (served plan server send) (served_aside send aside server plan)
    ]
  ]

  interrupted_keeps : (most : ℕ) (labels : List (List ℕ)) → KeepsEntries server (interrupted most labels server send)
  interrupted_keeps most labels = elim is_either [
    | inl plain ↦ interrupted_plain_keeps send plain server most labels
    | inr other ↦ elim other [
      | inl free ↦ interrupted_free_keeps send free server most labels
      | inr aside ↦ keeps_beside_cursors server (interrupted most labels server send) (interrupted_aside send aside server most labels)
    ]
  ]

  refused_keeps : (labels : List (List ℕ)) → KeepsEntries server (told_of_error labels server send)
  refused_keeps labels = elim is_either [
    | inl plain ↦ subst (KeepsEntries server) (sym (error_nothing send plain server labels server)) (keeps_same server)
    | inr other ↦ elim other [
      | inl free ↦ subst (KeepsEntries server) (sym (error_free send free server labels server)) (keeps_same server)
      | inr aside ↦ keeps_beside_cursors server (told_of_error labels server send) (refused_aside send aside server labels)
    ]
  ]

  met_keeps : (item : Item) → KeepsEntries server (met server send item)
  unfolding met
  met_keeps (Serve results fail concern page) = served_keeps (plan_of results fail concern page)
  met_keeps Lost = keeps_same server
  met_keeps Late = record { more = []; log = sym (append-nil server.log); trace = refl }
  met_keeps ReplyLost = served_keeps usual
  met_keeps (Interrupted most code labels) = interrupted_keeps most labels
  met_keeps (Refused code labels) = refused_keeps (refused_labels labels server send)
  met_keeps Reauthenticate = keeps_same server

arrived_keeps : (trace : List Send) (server : Server) (at : ℕ) (found : Option (Option Send)) → IsOrderly trace → slice_get server.waiting at ≡ found → IsSettled trace server
    → KeepsEntries server (arrived server at found)
unfolding arrived
arrived_keeps trace server at None orderly is settled = keeps_same server
arrived_keeps trace server at (Some None) orderly is settled = keeps_same server
arrived_keeps trace server at (Some (Some send)) orderly is settled =
    let less : Server = record server { waiting = slice_set server.waiting at None } in
    let keeps = served_keeps send (orderly.either send (settled.waiting at send is)) less usual in
    record { more = keeps.more; log = keeps.log; trace = keeps.trace }

delivered_keeps : (trace : List Send) (server : Server) (pick : ℕ) → IsOrderly trace → IsSettled trace server → KeepsEntries server (delivered server pick)
unfolding delivered
delivered_keeps trace server pick orderly settled = arrived_keeps trace server pick (slice_get server.waiting pick) orderly refl settled

-- late deliveries
pub after_keeps : (trace : List Send) (server : Server) (picks : List ℕ) → IsOrderly trace → IsSettled trace server → KeepsEntries server (after_picks server picks)
unfolding after_picks
after_keeps trace server [] orderly settled = keeps_same server
after_keeps trace server (pick ∷ picks) orderly settled =
    keeps_entries_twice server (delivered server pick) (after_picks (delivered server pick) picks) (delivered_keeps trace server pick orderly settled)
    (after_keeps trace (delivered server pick) picks orderly (after_settled trace server (pick ∷ []) orderly settled))

-- what one exchange keeps of the log, and the trace after it
pub record Exchanges (old now : Server) (send : Send) : Type 0 where
  pub more : List Entry
  pub log : now.log ≡ old.log ++ more
  pub trace : now.trace ≡ old.trace ++ send ∷ []

pub exchanged_keeps : (trace : List Send) (server : Server) (send : Send) (step : Scheduled) → IsOrderly (trace ++ send ∷ []) → IsSettled trace server
    → Exchanges server (exchanged server send step) send
unfolding exchanged
exchanged_keeps trace server send step orderly settled =
    let came = after_keeps trace server step.deliver (orderly_front trace send orderly) settled in
    let keeps = met_keeps send (orderly.either send (has_last trace send)) (traced (after_picks server step.deliver) send) step.item in
    record {
      more = came.more ++ keeps.more;
      log = keeps.log ∙ ap (λ log. log ++ keeps.more) came.log ∙ append_assoc server.log came.more keeps.more;
      trace = keeps.trace ∙ ap (λ sends. sends ++ send ∷ []) came.trace;
    }
