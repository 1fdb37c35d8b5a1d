-- The calls of a link that are counted: each faults exactly where the schedule lists its number.
use Rattle.std.specs.Prelude.{◌≡◌, ℕ, ◌+◌, ◌-◌, ◌^◌, ◌==◌, min, Bool, List, [], ◌∷◌, Option, None, Some, Result, Ok, Err, ◌⊎◌, if◌then◌else◌}
use Rattle.std.specs.List.{list_any}
use Rattle.driver_error.specs.declared.kind.IoKind.TheVariants.{ConnectionRefused}
use Rattle.driver_error.specs.declared.labels.TheConstants.{RETRYABLE_ERROR, SYSTEM_OVERLOADED_ERROR}
use Rattle.link_faults.specs.declared.fault.LinkError.{LinkError}
use Rattle.link_faults.specs.declared.fault.LinkError.TheVariants.{Fault, Memory}
use Rattle.link_faults.specs.declared.fault.LinkFault.{LinkFault}
use Rattle.link_faults.specs.declared.fault.LinkFault.TheVariants.{Io, Selection, Authentication}
use Rattle.wire_keys.specs.declared.keys.TheConstants.{SELECTION_FAILURE, REAUTHENTICATION_FAILURE}
use Rattle.driver_link.specs.ServerRun.{ServerRun}

-- a fault that a schedule lists, with its labels
pub record Listed : Type 0 where
  pub fault : LinkFault
  pub labels : List (List ℕ)

-- a number is listed
abbrev pub is_listed : List ℕ → ℕ → Bool
is_listed numbers at = list_any (λ number. number == at) numbers

-- a fault where its number is listed
abbrev pub fault_where : Bool → LinkFault → List (List ℕ) → Option Listed → Option Listed
fault_where listed fault labels other = if listed then Some (record { fault = fault; labels = labels }) else other

-- the labels of overload
abbrev pub overload_labels : List (List ℕ)
overload_labels = SYSTEM_OVERLOADED_ERROR.now ∷ RETRYABLE_ERROR.now ∷ []

-- one call more; the count stands still at the greatest u64
abbrev pub one_more : ℕ → ℕ
one_more count = min (count + 1) (2 ^ 64 - 1)

-- the fault of the next selection
abbrev pub select_fault : ServerRun → Option Listed
select_fault told = fault_where (is_listed told.schedule.selects told.counts.selects) (Selection SELECTION_FAILURE.now) [] None

-- a selection more was counted
abbrev pub selected : ServerRun → ServerRun
selected told = record told { counts = record told.counts { selects = one_more told.counts.selects } }

-- the fault of the next question for support of transactions
abbrev pub support_fault : ServerRun → Option Listed
support_fault told = fault_where (is_listed told.schedule.supports told.counts.supports) (Selection SELECTION_FAILURE.now) [] None

-- a question for transactions more was counted
abbrev pub supported : ServerRun → ServerRun
supported told = record told { counts = record told.counts { supports = one_more told.counts.supports } }

-- the fault of the next check-out: one that is listed as overloaded has the labels of overload
abbrev pub check_out_fault : ServerRun → Option Listed
check_out_fault told =
    fault_where (is_listed told.schedule.overloaded_check_outs told.counts.check_outs) (Io ConnectionRefused) overload_labels
    (fault_where (is_listed told.schedule.check_outs told.counts.check_outs) (Io ConnectionRefused) [] None)

-- a check-out more was counted
abbrev pub checked_out : ServerRun → ServerRun
checked_out told = record told { counts = record told.counts { check_outs = one_more told.counts.check_outs } }

-- the fault of the next authentication
abbrev pub reauthentication_fault : ServerRun → Option Listed
reauthentication_fault told =
    fault_where (is_listed told.schedule.reauthentications told.counts.reauthentications) (Authentication REAUTHENTICATION_FAILURE.now) [] None

-- an authentication more was counted
abbrev pub reauthenticated : ServerRun → ServerRun
reauthenticated told = record told { counts = record told.counts { reauthentications = one_more told.counts.reauthentications } }

-- a call that is counted: it faults exactly where the schedule lists its number, and changes the count
-- alone; after want of memory it was counted or not
abbrev pub Counts : {A : Type 0} → (ServerRun → ServerRun) → (ServerRun → Option Listed) → Option ServerRun → Option ServerRun → Result A LinkError → Type 0
Counts next fault None now result = now ≡ None
Counts next fault (Some told) now (Ok given) = (now ≡ Some (next told)) × (fault told ≡ None)
Counts next fault (Some told) now (Err (Fault found labels)) =
    (now ≡ Some (next told)) × (fault told ≡ Some (record { fault = found; labels = labels }))
Counts next fault (Some told) now (Err Memory) = (now ≡ Some told) ⊎ (now ≡ Some (next told))

-- only calls were counted: the server, its setup and its schedule are as before
pub record KeepsServer (old now : ServerRun) : Type 0 where
  pub server : now.server ≡ old.server
  pub setup : now.setup ≡ old.setup
  pub schedule : now.schedule ≡ old.schedule

-- the same of a link that may tell its server
abbrev pub OnlyCounts : Option ServerRun → Option ServerRun → Type 0
OnlyCounts None now = now ≡ None
OnlyCounts (Some told) None = ⊥
OnlyCounts (Some told) (Some now) = KeepsServer told now
