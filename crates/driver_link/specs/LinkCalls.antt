-- What each call of a link makes of what it tells.
use Rattle.std.specs.Prelude.{◌≡◌, ℕ, Bool, List, Option, None, Some, Result, IfOk, IfSome}
use Rattle.driver_options.specs.declared.options.Address.{Address}
use Rattle.driver_options.specs.declared.options.Asked.{Asked}
use Rattle.driver_options.specs.declared.options.Conn.{Conn}
use Rattle.link_faults.specs.declared.fault.LinkCall.{LinkCall}
use Rattle.link_faults.specs.declared.fault.LinkCall.TheVariants.{Select, Support, CheckOut, Exchange, Reauthenticate}
use Rattle.link_faults.specs.declared.fault.LinkError.{LinkError}
use Rattle.driver_link.specs.declared.machine.Place.{Place}
use Rattle.driver_link.specs.declared.machine.Send.{Send}
use Rattle.driver_link.specs.declared.machine.Setup.{Setup}
use Rattle.driver_link.specs.Counting.{Counts, Listed, selected, select_fault, supported, support_fault, checked_out, check_out_fault, reauthenticated, reauthentication_fault}
use Rattle.driver_link.specs.Faults.{HasLinkCause}
use Rattle.driver_link.specs.Framed.{Framed}
use Rattle.driver_link.specs.LinkState.{LinkState, GainsAll, GainsAnswer, MayGain, HandsBack, TellsFrame, noted, nothing_noted, reply_noted, server_run, setup_of}
use Rattle.driver_link.specs.Reads.{Reads}
use Rattle.driver_link.specs.ServerRun.{ServerRun, TakesStep}

-- a call that is counted: what is behind the link changes by its count alone, its fault is noted and raises the count of
-- faults, and no frame is given
pub record CallsLink {A : Type 0} (which : LinkCall) (next : ServerRun → ServerRun) (fault : ServerRun → Option Listed) (link now : LinkState) (result : Result A LinkError) : Type 0 where
  pub counts : Counts next fault (server_run link) (server_run now) result
  pub setup : setup_of now ≡ setup_of link
  pub answers : GainsAll link.answers now.answers (noted which nothing_noted result)
  pub frames : now.frames ≡ link.frames
  pub over : now.over ≡ link.over
  pub cause : HasLinkCause link.faults now.faults result

-- nothing was selected and no connection checked out
pub record KeepsConnections (link now : LinkState) : Type 0 where
  pub asked : now.asked ≡ link.asked
  pub addresses : now.addresses ≡ link.addresses
  pub connections : now.connections ≡ link.connections
  pub out : now.out ≡ link.out

-- a selection: what it asked and what it answered is told
pub record SelectsServer (link now : LinkState) (asks : Asked) (result : Result Address LinkError) : Type 0 where
  pub calls : CallsLink Select selected select_fault link now result
  pub asked : MayGain link.asked now.asked asks result
  pub addresses : GainsAnswer link.addresses now.addresses result
  pub connections : now.connections ≡ link.connections
  pub out : now.out ≡ link.out

-- a question for transactions, which is answered by the setup that is told
pub record AsksSupport (link now : LinkState) (result : Result Bool LinkError) : Type 0 where
  pub calls : CallsLink Support supported support_fault link now result
  pub support : IfOk result (λ answer. IfSome (setup_of link) (λ setup. answer ≡ setup.transactions))
  pub rest : KeepsConnections link now

-- a connection to the address asked for, with the description of the setup that is told
abbrev pub IsTo : Option Setup → Address → Conn → Type 0
IsTo None address conn = Unit {0}
IsTo (Some setup) address conn = (conn.address ≡ address) × (conn.description ≡ setup.description)

-- a check-out: the connection is told, and it is out
pub record ChecksOutConnection (link now : LinkState) (address : Address) (result : Result Conn LinkError) : Type 0 where
  pub calls : CallsLink CheckOut checked_out check_out_fault link now result
  pub to : IfOk result (λ conn. IsTo (setup_of link) address conn)
  pub connections : GainsAnswer link.connections now.connections result
  pub out : GainsAnswer link.out now.out result
  pub asked : now.asked ≡ link.asked
  pub addresses : now.addresses ≡ link.addresses

-- an exchange over a connection: the server takes the step of the send that the frame with its places reads as, and the
-- frame, the connection's number and the answer are told
pub record ExchangesFrame (link now : LinkState) (conn : Conn) (frame : Framed) (places : List Place) (result : Result (List ℕ) LinkError) : Type 0 where
  pub steps : (send : Send) → Reads frame places send → TakesStep (server_run link) (server_run now) send result
  pub setup : setup_of now ≡ setup_of link
  pub answers : GainsAll link.answers now.answers (noted Exchange reply_noted result)
  pub given : TellsFrame link now frame conn.number result
  pub rest : KeepsConnections link now
  pub cause : HasLinkCause link.faults now.faults result

-- one authentication more
pub record Reauthenticates (link now : LinkState) (result : Result (Unit {0}) LinkError) : Type 0 where
  pub calls : CallsLink Reauthenticate reauthenticated reauthentication_fault link now result
  pub rest : KeepsConnections link now

-- a connection is handed back: the newest of its number is out no more, and nothing else changes
pub record ChecksInConnection (link now : LinkState) (conn : Conn) : Type 0 where
  pub out : HandsBack link.out now.out conn.number
  pub rest : now ≡ record link { out = now.out }
