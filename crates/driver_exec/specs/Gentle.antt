-- Which part of a schedule is gentle: in it no selection and no check-out fails, and each send is served as usual; where the
-- sends of a command have a number, one of them may get no reply instead.
use Rattle.std.specs.Prelude.{◌≡◌, ℕ, ◌-◌, ◌^◌, ◌<◌, ◌≤◌, min, false, List, length, Option, None, Some, Result, Ok, Err, ◌⊎◌, slice_get}
use Rattle.driver_error.specs.declared.error.Error.{Error}
use Rattle.driver_error.specs.declared.kind.ErrorKind.TheVariants as kind
use Rattle.driver_error.specs.Error.{kind_of}
use Rattle.driver_link.specs.declared.machine.Item.{Item}
use Rattle.driver_link.specs.declared.machine.Item.TheVariants.{Lost, Late, ReplyLost}
use Rattle.driver_link.specs.declared.machine.Send.{Send}
use Rattle.driver_link.specs.Counting.{is_listed, one_more}
use Rattle.driver_link.specs.Exchange.{step_at}
use Rattle.driver_link.specs.ServerRun.{ServerRun}

-- a call had this number, from one count to another; a count stands still at the greatest u64
abbrev pub IsCounted : ℕ → ℕ → ℕ → Type 0
IsCounted from to at = (min from (2 ^ 64 - 1) ≤ at) × (one_more at ≤ to)

-- none of the calls from one count to another is listed
abbrev pub NoneListed : List ℕ → ℕ → ℕ → Type 0
NoneListed numbers from to = (at : ℕ) → IsCounted from to at → is_listed numbers at ≡ false

-- an item by which a send gets no reply
abbrev pub IsLossy : Item → Type 0
IsLossy Lost = Unit {0}
IsLossy Late = Unit {0}
IsLossy ReplyLost = Unit {0}
IsLossy _ = ⊥

-- an exchange has this number, from one moment of a told link to another
abbrev pub IsOfPart : ServerRun → ServerRun → ℕ → Type 0
IsOfPart before now at = (length before.server.trace ≤ at) × (at < length now.server.trace)

-- the part of a schedule that was taken from one moment to another is gentle for a command, by which items serve a send of it as
-- usual and which sends may go out again
pub record IsGentlePart (Serves : Send → Item → Type 0) (repeats : Send → Type 0) (before now : ServerRun) : Type 0 where
  pub selects : NoneListed before.schedule.selects before.counts.selects now.counts.selects
  pub check_outs : NoneListed before.schedule.check_outs before.counts.check_outs now.counts.check_outs
  pub overloaded : NoneListed before.schedule.overloaded_check_outs before.counts.check_outs now.counts.check_outs
  pub items : (at : ℕ) (send : Send) → IsOfPart before now at → slice_get now.server.trace at ≡ Some send
      → Serves send (step_at before.schedule at).item ⊎ (repeats send × IsLossy (step_at before.schedule at).item)
  pub one : (a b : ℕ) → IsOfPart before now a → IsOfPart before now b → IsLossy (step_at before.schedule a).item → IsLossy (step_at before.schedule b).item → a ≡ b

-- the same of a link that tells its server
abbrev pub IsGentleWhereTold : (Send → Item → Type 0) → (Send → Type 0) → Option ServerRun → Option ServerRun → Type 0
IsGentleWhereTold Serves repeats None now = ⊥
IsGentleWhereTold Serves repeats (Some told) None = ⊥
IsGentleWhereTold Serves repeats (Some told) (Some now) = IsGentlePart Serves repeats told now

-- a call ended with an answer, or with want of memory
abbrev pub EndsWell : {A : Type 0} → Result A Error → Type 0
EndsWell (Ok given) = Unit {0}
EndsWell (Err error) = kind_of error ≡ kind.Memory
