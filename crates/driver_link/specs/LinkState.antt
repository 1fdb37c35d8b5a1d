-- What a link tells at one moment, and how what it tells grows.
use Rattle.std.specs.Prelude.{◌≡◌, ℕ, ◌==◌, ◌||◌, Bool, false, List, [], ◌∷◌, ◌++◌, Option, None, Some, Result, Ok, Err, ◌⊎◌, if◌then◌else◌}
use Rattle.driver_options.specs.declared.options.Address.{Address}
use Rattle.driver_options.specs.declared.options.Asked.{Asked}
use Rattle.driver_options.specs.declared.options.Conn.{Conn}
use Rattle.link_faults.specs.declared.fault.Answered.{Answered}
use Rattle.link_faults.specs.declared.fault.Answered.TheVariants as answer
use Rattle.link_faults.specs.declared.fault.LinkCall.{LinkCall}
use Rattle.link_faults.specs.declared.fault.LinkError.{LinkError}
use Rattle.link_faults.specs.declared.fault.LinkError.TheVariants.{Fault, Memory}
use Rattle.driver_link.specs.declared.machine.Setup.{Setup}
use Rattle.driver_link.specs.Framed.{Framed}
use Rattle.driver_link.specs.ServerRun.{ServerRun}

-- what is behind a link: nothing is told of it, its setup alone, or a model server, which has its setup inside
pub data Making : Type 0 where
  Untold : Making
  Described : Setup → Making
  Served : ServerRun → Making

-- what a link tells: what is behind it, what its calls answered, the frames that it was given, the numbers of the
-- connections that they went over, what each selection asked, what it answered, the connections that were checked out and
-- those of them that are out, each list the oldest first; and how many of its answers were faults
pub record LinkState : Type 0 where
  pub making : Making
  pub answers : Option (List Answered)
  pub frames : Option (List Framed)
  pub over : Option (List ℕ)
  pub asked : Option (List Asked)
  pub addresses : Option (List Address)
  pub connections : Option (List Conn)
  pub out : Option (List Conn)
  pub faults : ℕ

-- the setup, where it is told
abbrev pub setup_in : Making → Option Setup
setup_in Untold = None
setup_in (Described setup) = Some setup
setup_in (Served run) = Some run.setup

-- the server, where it is told
abbrev pub run_in : Making → Option ServerRun
run_in (Served run) = Some run
run_in other = None

-- the setup that a link tells
abbrev pub setup_of : LinkState → Option Setup
setup_of link = setup_in link.making

-- the server that a link tells
abbrev pub server_run : LinkState → Option ServerRun
server_run link = run_in link.making

-- a told list gains these items
abbrev pub GainsAll : {A : Type 0} → Option (List A) → Option (List A) → List A → Type 0
GainsAll None now items = now ≡ None
GainsAll (Some told) now items = now ≡ Some (told ++ items)

-- it gains what a call answered, where that is Ok
abbrev pub GainsAnswer : {A : Type 0} → Option (List A) → Option (List A) → Result A LinkError → Type 0
GainsAnswer None now result = now ≡ None
GainsAnswer (Some told) now (Ok given) = now ≡ Some (told ++ given ∷ [])
GainsAnswer (Some told) now (Err failure) = now ≡ Some told

-- it gains one item, which after want of memory may be missing
abbrev pub MayGain : {A B : Type 0} → Option (List A) → Option (List A) → A → Result B LinkError → Type 0
MayGain None now item result = now ≡ None
MayGain (Some told) now item (Ok given) = now ≡ Some (told ++ item ∷ [])
MayGain (Some told) now item (Err (Fault fault labels)) = now ≡ Some (told ++ item ∷ [])
MayGain (Some told) now item (Err Memory) = (now ≡ Some told) ⊎ (now ≡ Some (told ++ item ∷ []))

-- the told frames gain one, and the numbers of their connections too
abbrev pub GainsFrame : LinkState → LinkState → Framed → ℕ → Type 0
GainsFrame link now frame number = GainsAll link.frames now.frames (frame ∷ []) × GainsAll link.over now.over (number ∷ [])

-- both are as before
abbrev pub KeepsFrames : LinkState → LinkState → Type 0
KeepsFrames link now = (now.frames ≡ link.frames) × (now.over ≡ link.over)

-- an exchange tells its frame together with the number of its connection; after want of memory it may tell neither
abbrev pub TellsFrame : {A : Type 0} → LinkState → LinkState → Framed → ℕ → Result A LinkError → Type 0
TellsFrame link now frame number (Ok given) = GainsFrame link now frame number
TellsFrame link now frame number (Err (Fault fault labels)) = GainsFrame link now frame number
TellsFrame link now frame number (Err Memory) = KeepsFrames link now ⊎ GainsFrame link now frame number

-- what a call adds to the answers: a fault is noted, and of an exchange its reply too
abbrev pub noted : {A : Type 0} → LinkCall → (A → List Answered) → Result A LinkError → List Answered
noted call reply (Ok given) = reply given
noted call reply (Err (Fault fault labels)) = answer.Fault call fault labels ∷ []
noted call reply (Err Memory) = []

-- the reply to an exchange
abbrev pub reply_noted : List ℕ → List Answered
reply_noted bytes = answer.Reply bytes ∷ []

-- nothing, as a call that is no exchange has no reply
abbrev pub nothing_noted : {A : Type 0} → A → List Answered
nothing_noted given = []

-- one of the connections has this number
abbrev pub has_number : ℕ → List Conn → Bool
has_number number [] = false
has_number number (conn ∷ out) = (conn.number == number) || has_number number out

-- the connections without the newest of this number
abbrev pub without_newest : ℕ → List Conn → List Conn
without_newest number [] = []
without_newest number (conn ∷ out) =
    if has_number number out then conn ∷ without_newest number out else if conn.number == number then out else conn ∷ out

-- the newest connection of this number, where one is out, is out no more
abbrev pub HandsBack : Option (List Conn) → Option (List Conn) → ℕ → Type 0
HandsBack None now number = now ≡ None
HandsBack (Some out) now number = now ≡ Some (without_newest number out)
