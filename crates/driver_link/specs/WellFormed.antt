-- Schedules that a model server takes.
use Rattle.std.specs.Prelude.{◌≡◌, ◌≢◌, ◌≤◌, ◌≤ℤ◌, ℤ, pos, List, [], ◌∷◌, All, None, IfSome}
use Rattle.bson_lite.specs.declared.bson.Bson.{Bson}
use Rattle.bson_lite.specs.declared.document.Pair.{Pair}
use Rattle.bson_lite.specs.Spelling.{refusal, nesting, depth}
use Rattle.driver_link.specs.declared.machine.Item.{Item}
use Rattle.driver_link.specs.declared.machine.Item.TheVariants.{Serve, Interrupted}
use Rattle.driver_link.specs.declared.machine.Planned.{Planned}
use Rattle.driver_link.specs.declared.machine.Schedule.{Schedule}
use Rattle.driver_link.specs.Exchange.{reauthentication_required}
use Rattle.driver_link.specs.Numbers.{field}

-- a number that a schedule may give
abbrev pub IsCount : ℤ → Type 0
IsCount n = (pos 0 ≤ℤ n) × (n ≤ℤ pos 4294967295)

-- a document that may be scheduled: `encode` takes it, and it nests at most 95 deep, since a result stands
-- at most five levels deep in a reply
abbrev pub IsShallow : List (Pair Bson) → Type 0
IsShallow document = (refusal document ≡ None) × (nesting document ≤ 95)

-- a value that may be scheduled, as the one value of a document
abbrev pub IsShallowValue : Bson → Type 0
IsShallowValue value = (refusal (field [] value ∷ []) ≡ None) × (depth value ≤ 95)

-- what a schedule may say of a statement
pub record IsPlan (planned : Planned) : Type 0 where
  pub n : IfSome planned.n IsCount
  pub modified : IfSome planned.modified IsCount
  pub upserted : IfSome planned.upserted IsShallowValue
  pub value : IfSome planned.value IsShallow

-- an item that may be scheduled: only a refusal asks for another authentication
abbrev pub IsItem : Item → Type 0
IsItem (Serve results fail concern page) =
    All IsPlan results × All (λ failing. failing.code ≢ reauthentication_required) fail × IfSome concern (λ error. error.code ≢ reauthentication_required)
IsItem (Interrupted after code labels) = code ≢ reauthentication_required
IsItem other = Unit {0}

-- a schedule that a model server takes
abbrev pub IsWellFormed : Schedule → Type 0
IsWellFormed schedule = All (λ step. IsItem step.item) schedule.items
