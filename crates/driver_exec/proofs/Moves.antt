-- What the sends of an operation make of a link that tells its server: its setup and its schedule stay, and its server is
-- the fold of the exchanges over its trace.
use Rattle.std.proofs.Common.{◌≡◌, ℕ, zero, suc, ◌≤◌, List, length, sym, ap, subst, ◌∙◌, inl, inr}
use Rattle.std.specs.Prelude.{false, Some, slice_get}
use Rattle.driver_link.specs.declared.machine.Schedule.{Schedule}
use Rattle.driver_link.specs.declared.machine.Send.{Send}
use Rattle.driver_link.specs.declared.machine.Server.{Server}
use Rattle.driver_link.specs.Exchange.{empty_server, exchanged, next_step, replayed}
use Rattle.driver_link.specs.ServerRun.{ServerRun, run_after}
use Rattle.driver_link.proofs.Lists.{earlier_or_last, none_past}
use Rattle.driver_link.proofs.Replays.{exchanged_trace, replayed_more}
use Rattle.driver_exec.specs.Resending.{SendsWhereTold}

-- a server is the fold over its trace
abbrev pub IsFold : Schedule → Server → Type 0
IsFold schedule server = server ≡ replayed schedule empty_server server.trace

-- it is so after one send more
fold_after : (schedule : Schedule) (server : Server) (send : Send) → IsFold schedule server → IsFold schedule (exchanged server send (next_step schedule server))
fold_after schedule server send folds =
    let step = next_step schedule server in
    let fold : List Send → Server = λ sends. replayed schedule empty_server sends in
    sym (ap fold (exchanged_trace server send step) ∙ replayed_more schedule empty_server server.trace send
    ∙ ap (λ s. exchanged s send (next_step schedule s)) (sym folds))

module _ (told : ServerRun) (send : Send) where
  -- what was made with the server stays
  pub keeps_making : (count : ℕ) (now : ServerRun) → SendsWhereTold false told now send count → (now.setup ≡ told.setup) × (now.schedule ≡ told.schedule)
  keeps_making zero now sends = (sends.setup, sends.schedule)
  keeps_making (suc count) now sends =
      let before = keeps_making count sends.0 sends.1.0 in
      (sends.1.1.setup ∙ before.0, sends.1.1.schedule ∙ before.1)

  -- the server stays the fold over its trace
  pub keeps_fold : (count : ℕ) (now : ServerRun) → SendsWhereTold false told now send count → IsFold told.schedule told.server → IsFold told.schedule now.server
  keeps_fold zero now sends folds = subst (IsFold told.schedule) (sym sends.server) folds
  keeps_fold (suc count) now sends folds =
      let mid = sends.0 in
      let before = keeps_fold count mid sends.1.0 folds in
      let schedule = (keeps_making count mid sends.1.0).1 in
      let after : IsFold mid.schedule (run_after mid send).server = fold_after mid.schedule mid.server send (subst (λ s. IsFold s mid.server) (sym schedule) before) in
      subst (IsFold told.schedule) (sym sends.1.1.server) (subst (λ s. IsFold s (run_after mid send).server) schedule after)

  -- the trace gains the send alone
  pub new_is : (count : ℕ) (now : ServerRun) → SendsWhereTold false told now send count → (at : ℕ) (found : Send) → length told.server.trace ≤ at → slice_get now.server.trace at ≡ Some found
      → send ≡ found
  new_is zero now sends at found above is = absurd (none_past told.server.trace at found above (ap (λ s. slice_get s.trace at) (sym sends.server) ∙ is))
  new_is (suc count) now sends at found above is =
      let mid = sends.0 in
      let trace = ap (λ s. s.trace) sends.1.1.server ∙ exchanged_trace mid.server send (next_step mid.schedule mid.server) in
      elim (earlier_or_last mid.server.trace send at found (ap (λ t. slice_get t at) (sym trace) ∙ is)) [
        | inl earlier ↦ new_is count mid sends.1.0 at found above earlier
        | inr last ↦ last.1
      ]
