-- The statements of a send: which of them run, what they count, and what they leave.
use Rattle.std.specs.Prelude.{ℕ, ◌+◌, ◌-◌, ◌==◌, ◌&&◌, ℤ, pos, Bool, true, false, List, [], ◌∷◌, Option, None, Some, is_some, unwrap_or, slice_get, take_while, if◌then◌else◌}
use Rattle.std.specs.List.{list_any}
use Rattle.std.specs.Ordering.{nat_cmp}
use Rattle.std.specs.FinMap as finite
use Rattle.driver_link.specs.declared.machine.Counted.{Counted}
use Rattle.driver_link.specs.declared.machine.Entry.{Entry}
use Rattle.driver_link.specs.declared.machine.Failing.{Failing}
use Rattle.driver_link.specs.declared.machine.PlacedWrite.{PlacedWrite}
use Rattle.driver_link.specs.declared.machine.Planned.{Planned}
use Rattle.driver_link.specs.declared.machine.Statement.{Statement}
use Rattle.driver_link.specs.declared.machine.Statement.TheVariants.{Kept, Ran, Failed}
use Rattle.driver_link.specs.declared.machine.WriteKind.{WriteKind}
use Rattle.driver_link.specs.declared.machine.WriteKind.TheVariants as kind

-- the other truth value
abbrev pub negated : Bool → Bool
negated true = false
negated false = true

-- the results kept under a number, by the position of the statement
abbrev pub Results : Type 0
Results = finite.FinMap nat_cmp Counted

-- no result
abbrev pub no_results : Results
no_results = finite.empty

-- how many documents a statement changes where no schedule says so: an update one, others none
abbrev pub usual_modified : WriteKind → ℤ
usual_modified kind.Update = pos 1
usual_modified other = pos 0

-- what a statement of a kind counts by its plan: one document where the plan does not say so
abbrev pub counts_by_plan : WriteKind → Planned → Counted
counts_by_plan does planned = record {
  n = unwrap_or planned.n (pos 1);
  modified = unwrap_or planned.modified (usual_modified does);
  upserted = planned.upserted;
  value = planned.value;
}

-- a plan that says nothing
abbrev pub no_plan : Planned
no_plan = record { n = None; modified = None; upserted = None; value = None }

-- the plan of the statement at a position
abbrev pub planned_at : List Planned → ℕ → Planned
planned_at results at = unwrap_or (slice_get results at) no_plan

-- the code with which the statement at a position fails; of equal positions the first counts
unfoldable pub code_at : List Failing → ℕ → Option ℤ
code_at [] at = None
code_at (failing ∷ fail) at = if failing.at == at then Some failing.code else code_at fail at

-- a statement with a kept result does not run again, and one that fails does not run
abbrev pub statement_of : Option Counted → Option ℤ → Counted → Statement
statement_of (Some result) code now = Kept result
statement_of None (Some code) now = Failed code
statement_of None None now = Ran now

-- what the statement at a position comes to
abbrev pub statement_at : List Planned → List Failing → Results → ℕ → PlacedWrite → Statement
statement_at results fail kept at write =
    statement_of (finite.get kept at) (code_at fail at) (counts_by_plan write.written.kind (planned_at results at))

-- the statement failed
abbrev pub is_failed : Statement → Bool
is_failed (Failed code) = true
is_failed other = false

-- the statement ran now
abbrev pub is_run : Statement → Bool
is_run (Ran result) = true
is_run other = false

-- the statements of writes in order, the first at a position; an ordered send stops at one that fails
unfoldable pub statements : List Planned → List Failing → Bool → Results → ℕ → List PlacedWrite → List Statement
statements results fail ordered kept at [] = []
statements results fail ordered kept at (write ∷ writes) =
    statement_at results fail kept at write
    ∷ (if ordered && is_failed (statement_at results fail kept at write) then [] else statements results fail ordered kept (at + 1) writes)

-- the statements of writes where no schedule says anything
abbrev pub usual_statements : Results → List PlacedWrite → List Statement
usual_statements kept writes = statements [] [] false kept 0 writes

-- some statement ran now
abbrev pub has_run : List Statement → Bool
has_run done = list_any is_run done

-- the statements before the first that failed
abbrev pub before_failing : List Statement → List Statement
before_failing done = take_while (λ statement. negated (is_failed statement)) done

-- some statement failed
abbrev pub has_failed : List Statement → Bool
has_failed done = list_any is_failed done

-- the entry of a write that ran
abbrev pub entry_of : Option (List ℕ) → Option ℤ → PlacedWrite → Counted → Entry
entry_of session number write result =
    record { place = write.place; written = write.written; result = result; session = session; number = number }

-- the entry of a write by what its statement came to
abbrev pub entries_by : Option (List ℕ) → Option ℤ → PlacedWrite → Statement → List Entry → List Entry
entries_by session number write (Ran result) rest = entry_of session number write result ∷ rest
entries_by session number write other rest = rest

-- the entries of the writes that ran, in order
unfoldable pub entries_of : Option (List ℕ) → Option ℤ → List PlacedWrite → List Statement → List Entry
entries_of session number [] done = []
entries_of session number (write ∷ writes) [] = []
entries_of session number (write ∷ writes) (statement ∷ done) = entries_by session number write statement (entries_of session number writes done)

-- the kept results with that of one statement more
abbrev pub kept_by : Results → ℕ → Statement → Results
kept_by kept at (Ran result) = finite.insert kept at result
kept_by kept at other = kept

-- the kept results once the statements have run, the first at a position
unfoldable pub kept_with : Results → ℕ → List Statement → Results
kept_with kept at [] = kept
kept_with kept at (statement ∷ done) = kept_with (kept_by kept at statement) (at + 1) done

-- the front of the writes, the first at a position, that has so many without a kept result
unfoldable pub front_to_run : Results → ℕ → ℕ → List PlacedWrite → List PlacedWrite
front_to_run kept at most [] = []
front_to_run kept at most (write ∷ writes) =
    if is_some (finite.get kept at) then write ∷ front_to_run kept (at + 1) most writes
    else (if most == 0 then [] else write ∷ front_to_run kept (at + 1) (most - 1) writes)
