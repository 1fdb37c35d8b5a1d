-- A link whose answers are chosen beforehand.
use Rattle.std.specs.Prelude.{◌≡◌, ℕ, ◌+◌, ◌-◌, ◌<◌, min, false, length, take, drop, slice_get, List, [], ◌∷◌, ◌++◌, Option, None, Some, Result, Ok, Err}
use Rattle.driver_error.specs.declared.kind.IoKind.TheVariants.{ConnectionReset}
use Rattle.driver_options.specs.declared.options.Address.{Address}
use Rattle.driver_options.specs.declared.options.Asked.{Asked}
use Rattle.driver_options.specs.declared.options.Conn.{Conn}
use Rattle.driver_options.specs.declared.options.Description.{Description}
use Rattle.driver_options.specs.declared.options.SelectionCriteria.{SelectionCriteria}
use Rattle.driver_options.specs.declared.options.SelectionCriteria.TheVariants as criteria
use Rattle.memory_links.specs.declared.fake_link.FakeStep.{FakeStep}
use Rattle.memory_links.specs.declared.fake_link.FakeStep.TheVariants as step
use Rattle.memory_links.specs.declared.fake_link.TheConstants.{HOST, PORT}
use Rattle.link_faults.specs.declared.fault.Answered.{Answered}
use Rattle.link_faults.specs.declared.fault.Answered.TheVariants as answer
use Rattle.link_faults.specs.declared.fault.LinkCall.TheVariants.{Exchange}
use Rattle.link_faults.specs.declared.fault.LinkError.{LinkError}
use Rattle.link_faults.specs.declared.fault.LinkError.TheVariants.{Fault, Memory}
use Rattle.link_faults.specs.declared.fault.LinkFault.TheVariants.{Io}
use Rattle.driver_link.specs.Counting.{one_more}
use Rattle.driver_link.specs.Framed.{Framed}
use Rattle.driver_link.specs.LinkState.{LinkState, Untold, has_number, without_newest}

-- what it was made with, how many check-outs and exchanges it has had, what its selections asked and answered, the
-- connections that it gave and those of them that are out, the frames that it was given and for each the number of its
-- connection, what it answered, and how many of its answers were faults
pub record Fake : Type 0 where
  pub descriptions : List Description
  pub steps : List FakeStep
  pub check_outs : ℕ
  pub exchanges : ℕ
  pub asked : List Asked
  pub addresses : List Address
  pub connections : List Conn
  pub out : List Conn
  pub frames : List Framed
  pub over : List ℕ
  pub answered : List Answered
  pub faults : ℕ

-- a link that has had no calls
abbrev pub fresh_link : List Description → List FakeStep → Fake
fresh_link descriptions steps = record {
  descriptions = descriptions;
  steps = steps;
  check_outs = 0;
  exchanges = 0;
  asked = [];
  addresses = [];
  connections = [];
  out = [];
  frames = [];
  over = [];
  answered = [];
  faults = 0;
}

-- what it tells: nothing of a server, and all else
abbrev pub fake_tells : Fake → LinkState
fake_tells fake = record {
  making = Untold;
  answers = Some fake.answered;
  frames = Some fake.frames;
  over = Some fake.over;
  asked = Some fake.asked;
  addresses = Some fake.addresses;
  connections = Some fake.connections;
  out = Some fake.out;
  faults = fake.faults;
}

-- the address of a fake link
abbrev pub fake_address : Address
fake_address = record { host = HOST.now; port = PORT }

-- the address that is selected: the one that is asked for, else that of a fake link
abbrev pub address_for : Option SelectionCriteria → Address
address_for (Some (criteria.Address address)) = address
address_for criteria = fake_address

-- one selection: what it asked and answered is noted; want of memory changes nothing, and no fault is answered
abbrev pub FakeSelects : Fake → Fake → Asked → Result Address LinkError → Type 0
FakeSelects old now asked (Ok address) =
    (address ≡ address_for asked.criteria) × (now ≡ record old { asked = old.asked ++ asked ∷ []; addresses = old.addresses ++ address ∷ [] })
FakeSelects old now asked (Err (Fault fault labels)) = ⊥
FakeSelects old now asked (Err Memory) = now ≡ old

-- the description that the check-out of a number gives, from 0: the one at that place, and the last one from
-- then on
abbrev pub description_at : List Description → ℕ → Option Description
description_at descriptions number = slice_get descriptions (min number (length descriptions - 1))

-- a connection to an address, with the number and the description of the next check-out
pub record IsNext (fake : Fake) (to : Address) (conn : Conn) : Type 0 where
  pub address : conn.address ≡ to
  pub number : conn.number ≡ fake.check_outs
  pub description : description_at fake.descriptions fake.check_outs ≡ Some conn.description

-- one check-out: it is counted, and its connection noted; want of memory changes nothing, and no fault is answered
abbrev pub FakeChecksOut : Fake → Fake → Address → Result Conn LinkError → Type 0
FakeChecksOut old now address (Ok conn) =
    IsNext old address conn
    × (now ≡ record old { check_outs = one_more old.check_outs; connections = old.connections ++ conn ∷ []; out = old.out ++ conn ∷ [] })
FakeChecksOut old now address (Err (Fault fault labels)) = ⊥
FakeChecksOut old now address (Err Memory) = now ≡ old

-- a step, and where there is none the reset of the connection
abbrev pub step_or_reset : Option FakeStep → FakeStep
step_or_reset (Some found) = found
step_or_reset None = step.Fault (Io ConnectionReset)

-- the step of the exchange of a number, from 0: after the steps each connection is reset
abbrev pub step_at : List FakeStep → ℕ → FakeStep
step_at steps number = step_or_reset (slice_get steps number)

-- the step of the next exchange
abbrev pub next_step : Fake → FakeStep
next_step fake = step_at fake.steps fake.exchanges

-- what an exchange notes of its step
abbrev pub note_of : FakeStep → Answered
note_of (step.Reply bytes) = answer.Reply bytes
note_of (step.Fault fault) = answer.Fault Exchange fault []

-- the link after an exchange of a frame over a connection, with this note: it is counted, and frame, number and note are kept
abbrev pub exchanged_with : Fake → ℕ → Framed → Answered → Fake
exchanged_with fake number frame note = record fake {
  exchanges = one_more fake.exchanges;
  frames = fake.frames ++ frame ∷ [];
  over = fake.over ++ number ∷ [];
  answered = fake.answered ++ note ∷ [];
}

-- one exchange: it answers what the next step says, a fault without labels, and a fault is counted; want of
-- memory changes nothing
abbrev pub FakeExchanges : Fake → Fake → ℕ → Framed → Result (List ℕ) LinkError → Type 0
FakeExchanges old now number frame (Ok bytes) = (next_step old ≡ step.Reply bytes) × (now ≡ exchanged_with old number frame (answer.Reply bytes))
FakeExchanges old now number frame (Err (Fault fault labels)) =
    (next_step old ≡ step.Fault fault) × (labels ≡ [])
    × (now ≡ record (exchanged_with old number frame (answer.Fault Exchange fault [])) { faults = one_more old.faults })
FakeExchanges old now number frame (Err Memory) = now ≡ old

-- a connection is handed back: where one of its number is out, the newest is out no more
abbrev pub FakeChecksIn : Fake → Fake → ℕ → Type 0
FakeChecksIn old now number = now ≡ record old { out = without_newest number old.out }

-- where the newest connection of a number is out, or that none is
abbrev pub FindsNewest : ℕ → List Conn → Option ℕ → Type 0
FindsNewest number out None = has_number number out ≡ false
FindsNewest number out (Some at) = (at < length out) × (take at out ++ drop (at + 1) out ≡ without_newest number out)
