-- What a call leaves of store, link and clock, whatever it does, where all that it sends carries its own writes: the same of parts of it
-- that follow one another.
use Rattle.std.proofs.Common.{◌≡◌, ℕ, zero, suc, ◌≤◌, List, [], ◌∷◌, ◌++◌, length, sym, ap, ◌∙◌, append_assoc, arith, ◌+◌}
use Rattle.std.specs.Prelude.{Bool, false, Option, None, Some, slice_get}
use Rattle.std.proofs.lemmas.List.{append-nil}
use Rattle.driver_link.specs.declared.machine.Send.{Send}
use Rattle.driver_link.specs.declared.machine.SendBody.{SendBody}
use Rattle.driver_link.specs.Counting.{OnlyCounts}
use Rattle.driver_link.specs.Exchange.{next_step}
use Rattle.driver_link.specs.LinkState.{server_run}
use Rattle.driver_link.specs.ServerRun.{ServerRun}
use Rattle.driver_link.specs.Settled.{Has}
use Rattle.driver_link.proofs.Lists.{has_at}
use Rattle.driver_link.proofs.Replays.{exchanged_trace}
use Rattle.driver_attempt.specs.Moment.{Moment}
use Rattle.driver_exec.specs.Resending.{SendsWhereTold, SentTimes}
use Rattle.driver_actions.specs.CallParts.{IsSendOf, SendsOwn}
use Rattle.driver_actions.specs.Raises.{RaisesBy}
use Rattle.driver_actions.proofs.MovesBeside as beside
use Rattle.driver_actions.proofs.CallWrites.WritesMade.{LeftBy}
pub use Rattle.driver_actions.proofs.MovesBeside.{DrewIds, raises_more, raises_same, raises_twice}

-- copies of a send, one after another
abbrev pub copies : ℕ → Send → List Send
copies zero send = []
copies (suc count) send = copies count send ++ send ∷ []

-- a told trace gains the copies
pub sends_gain : (told : ServerRun) (send : Send) (count : ℕ) (now : ServerRun) → SendsWhereTold false told now send count → now.server.trace ≡ told.server.trace ++ copies count send
sends_gain told send zero now sends = ap (λ s. s.trace) sends.server ∙ sym (append-nil told.server.trace)
sends_gain told send (suc count) now sends =
    let mid = sends.0 in
    ap (λ s. s.trace) sends.1.1.server ∙ exchanged_trace mid.server send (next_step mid.schedule mid.server)
    ∙ ap (λ t. t ++ send ∷ []) (sends_gain told send count mid sends.1.0) ∙ append_assoc told.server.trace (copies count send) (send ∷ [])

-- a told trace gained sends, each with writes of a call alone, for a link that may tell its server
abbrev pub GainsOwn : ℕ → Option ServerRun → Option ServerRun → Type 0
GainsOwn number link now = beside.GainsOwn false number link now

-- where only calls were counted
pub gains_counted : (number : ℕ) (link now : Option ServerRun) → OnlyCounts link now → GainsOwn number link now
gains_counted number link now counts = beside.gains_counted false number link now counts

-- where a send of the call went out so many times
pub gains_sent : (number : ℕ) (link now : Option ServerRun) (send : Send) (count : ℕ) → IsSendOf number send → SentTimes false link now send count → GainsOwn number link now
gains_sent number link now send count of_call sent = beside.gains_sent false number link now send count of_call sent

-- what stands behind the front of a list is one of the rest
has_behind : {A : Type 0} (xs more : List A) (at : ℕ) (x : A) → length xs ≤ at → slice_get (xs ++ more) at ≡ Some x → Has more x
has_behind [] more at x above is = has_at more at x is
has_behind (y ∷ xs) more zero x above is = absurd (omega (arith, above))
has_behind (y ∷ xs) more (suc at) x above is = has_behind xs more at x (omega (arith, above)) is

-- so all that was sent is what the call may send, commands of cursors among it or not
pub gains_sends_own : (paged : Bool) (number : ℕ) (link now : Option ServerRun) → beside.GainsOwn paged number link now → SendsOwn paged number link now
gains_sends_own paged number None now gains = tt
gains_sends_own paged number (Some told) None gains = absurd gains
gains_sends_own paged number (Some told) (Some now) gains = λ at send above is.
    gains.own send (has_behind told.server.trace gains.sends at send above (ap (λ t. slice_get t at) (sym gains.trace) ∙ is))

-- what a call of a number, which takes at most so many numbers of sessions, leaves of a moment
abbrev pub CallMoves : ℕ → ℕ → Moment → Moment → Type 0
CallMoves numbers number before now = beside.CallMoves false numbers number before now

-- two parts of it one after another
pub moves_twice : (a b number : ℕ) (x y z : Moment) → CallMoves a number x y → CallMoves b number y z → CallMoves (a + b) number x z
moves_twice a b number x y z first second = beside.moves_twice false a b number x y z first second

-- no part of it
pub moves_refl : (numbers number : ℕ) (now : Moment) → CallMoves numbers number now now
moves_refl numbers number now = beside.moves_refl false numbers number now

-- one that takes so many numbers at most takes more at most
pub moves_more : (a b number : ℕ) (before now : Moment) → a ≤ b → CallMoves a number before now → CallMoves b number before now
moves_more a b number before now more moves = beside.moves_more false a b number before now more moves

-- where object ids were drawn, and nothing else changed, that is a part of a call
pub moves_drew : (number : ℕ) (before now : Moment) → DrewIds before now → CallMoves 0 number before now
moves_drew number before now drew = beside.moves_drew false number before now drew

-- an operation whose sends are the call's own is one as well
pub left_moves : (number : ℕ) (before now : Moment) (asked : SendBody) → LeftBy before now asked → GainsOwn number (server_run before.link) (server_run now.link) → CallMoves 1 number before now
left_moves number before now asked left gains = beside.left_moves false number before now asked left gains

-- one that raises the numbers by so many at most takes no more
pub moves_raising : (a b number : ℕ) (before now : Moment) → CallMoves a number before now → RaisesBy b before now → CallMoves b number before now
moves_raising a b number before now moves raises = beside.moves_raising false a b number before now moves raises
