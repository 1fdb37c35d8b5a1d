-- When the command of a single write may go out: under a new number of a session, again under the same one, or without a number.
use Rattle.std.proofs.Common.{◌≡◌, ℕ, List, refl, subst, inl, inr}
use Rattle.std.specs.Prelude.{ℤ, pos, ◌+ℤ◌, ◌<ℤ◌, ◌≤ℤ◌, Option, None, Some, ◌⊎◌}
use Rattle.std.proofs.Common.{arith}
use Rattle.std.proofs.lemmas.Int.{ints}
use Rattle.driver_link.specs.declared.machine.Item.{Item}
use Rattle.driver_link.specs.declared.machine.Item.TheVariants as met
use Rattle.driver_link.specs.declared.machine.Place.{Place}
use Rattle.driver_link.specs.declared.machine.Scheduled.{Scheduled}
use Rattle.driver_link.specs.declared.machine.Send.{Send}
use Rattle.driver_link.specs.declared.machine.Server.{Server}
use Rattle.driver_link.specs.declared.machine.WriteKind.{WriteKind}
use Rattle.driver_link.specs.declared.machine.Written.{Written}
use Rattle.driver_link.specs.Exchange.{answered, exchanged}
use Rattle.driver_link.specs.Retried.{CountsBy, IsGentleItem, IsNewNumber}
use Rattle.driver_link.proofs.OneWriteReplies.{IsOneWrite}
use Rattle.driver_link.proofs.RetriedSends.{IsDone, MayBeSent, may_again, may_answered, may_first, only_done}
use Rattle.driver_link.proofs.UnnumberedReplies.{IsOneUnnumbered}
use Rattle.driver_session.specs.Pool.{Pool}
use Rattle.driver_session.specs.StoreTells.{DrawnApart, DrawnApartIn, LendsSession, StoreTells}
use Rattle.driver_session.specs.Session.{Session}
use Rattle.driver_session.proofs.PoolTells.{lends_told}
use Rattle.driver_exec.specs.BetweenCalls.{Between, MaySendPlaces, SentUpTo, Sound}
use Rattle.driver_exec.specs.Gentle.{IsLossy}
use Rattle.driver_exec.proofs.TraceSessions.{lends_holds}
use Rattle.driver_exec.proofs.InvariantSteps.Sends.{numbered_new, unnumbered_send}
use Rattle.driver_actions.proofs.CallWrites.Entries.{placed_at}
use Rattle.driver_inputs.specs.Forms.{WriteForm, asked_in, command_in, kind_in, ordered_in, send_in}

-- an item without a reply counts nothing
lossy_counts : (does : WriteKind) (item : Item) → IsLossy item → CountsBy does item
lossy_counts does met.Lost lossy = tt
lossy_counts does met.Late lossy = tt
lossy_counts does met.ReplyLost lossy = tt
lossy_counts does _ lossy = absurd lossy

module _ (form : WriteForm) (place : Place) (sent : Written) where
  -- a send of the write may go out
  abbrev pub MayGo : Send → Server → Type 0
  MayGo send server = MayBeSent (command_in form) (kind_in form) send (placed_at place sent) server ⊎ IsOneUnnumbered (command_in form) send (placed_at place sent)

  -- where its item is gentle it is answered that it was done
  pub go_answered : (send : Send) (server : Server) (step : Scheduled) → MayGo send server → IsGentleItem (kind_in form) step.item
      → IsDone (command_in form) (kind_in form) (placed_at place sent) (answered server send step)
  go_answered send server step may gentle = elim may [
    | inl numbered ↦ may_answered (kind_in form) server send (placed_at place sent) step gentle numbered
    | inr free ↦ only_done (kind_in form) server send (placed_at place sent) free step gentle
  ]

  -- where it got no reply it may go out again
  pub go_again : (id : List ℕ) (number : ℤ) (server : Server) (step : Scheduled) → MayGo (send_in (Some id) (Some number) form place sent) server → IsLossy step.item
      → MayGo (send_in (Some id) (Some number) form place sent) (exchanged server (send_in (Some id) (Some number) form place sent) step)
  go_again id number server step may lossy = elim may [
    | inl numbered ↦ inl (may_again (kind_in form) server (send_in (Some id) (Some number) form place sent) (placed_at place sent) step (lossy_counts (kind_in form) step.item lossy) numbered)
    | inr free ↦ absurd (let e : ◌≡◌ {A = Option ℤ} (Some number) None = free.free.none in cc)
  ]

  -- without a number it may go out once
  pub bare_goes : (session : Option (List ℕ)) (server : Server) → MayGo (send_in session None form place sent) server
  bare_goes session server = inr (record { free = unnumbered_send session (asked_in form place sent) tt; ordered = ordered_in form; body = refl })

  -- its send under a number
  abbrev one_numbered : (id : List ℕ) (number : ℤ) → IsOneWrite (command_in form) (send_in (Some id) (Some number) form place sent) (placed_at place sent)
  one_numbered id number = record {
    plain = record { id = id; number = number; session = refl; numbered = refl; outside = refl; writes = tt };
    ordered = ordered_in form;
    body = refl;
  }

  -- under a new number it may go out, where its place is new
  new_goes : (server : Server) (id : List ℕ) (number last : ℤ) → MaySendPlaces server.trace (asked_in form place sent) → Sound server → SentUpTo id last server.trace → last <ℤ number
      → MayGo (send_in (Some id) (Some number) form place sent) server
  new_goes server id number last may_send sound up raised =
      let new : IsNewNumber server.trace id number = λ send found has under. below last number found (up send found has under) raised in
      inl (may_first (kind_in form) server (send_in (Some id) (Some number) form place sent) (placed_at place sent) (one_numbered id number)
      (numbered_new server.trace (asked_in form place sent) may_send sound.orderly id number last up raised) sound.settled new)
    where
      below : (last number found : ℤ) → found ≤ℤ last → last <ℤ number → found <ℤ number
      below last number found within raised = omega (arith, ints)

  -- so it may under the next number of a session that is lent
  pub lent_goes : (old lent : StoreTells) (pool : Pool) (server : Server) → old.pool ≡ Some pool → MaySendPlaces server.trace (asked_in form place sent) → Sound server
      → Between pool server.trace → (at : ℕ) (session : Session) (number : ℤ) → LendsSession old lent at session → DrawnApart lent
      → number ≡ (session.number +ℤ pos 1) → MayGo (send_in (Some session.id) (Some number) form place sent) server
  lent_goes old lent pool server pool_is may_send sound between at session number lends apart is =
      let out = lends_told old lent pool at session pool_is lends in
      let apart_out = subst DrawnApartIn out.1.0 apart in
      let holds = lends_holds pool out.0 old.caller at session server.trace out.1.1 apart_out between in
      new_goes server session.id number session.number may_send sound holds.up_to (raised session.number number is)
    where
      raised : (last number : ℤ) → number ≡ (last +ℤ pos 1) → last <ℤ number
      raised last number is = omega (arith, ints)
