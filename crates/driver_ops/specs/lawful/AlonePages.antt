-- An operation whose answer is one reply asks for no further page.
use Rattle.std.specs.Prelude.{ℕ, ℤ, List, [], ◌∷◌, Result, Ok, Err}
use Rattle.bson_lite.specs.declared.bson.Bson.{Bson}
use Rattle.bson_lite.specs.declared.document.Pair.{Pair}
use Rattle.bson_lite.specs.declared.namespace.Namespace.{Namespace}
use Rattle.driver_error.specs.declared.error.Error.{Error}
use Rattle.driver_link.specs.declared.machine.Server.{Server}
use Rattle.driver_link.specs.Cursors.{Reply}
use Rattle.driver_ops.specs.declared.operation.Reading.{Reading}
use Rattle.driver_ops.specs.declared.operation.Reading.TheVariants.{Page as Further}
use Rattle.driver_ops.specs.Operations.{ReadsAlone, OperationSpec, Page}
use Rattle.driver_ops.specs.OperationLaw.{FurtherPages, NeverOpen}

-- nothing that is read alone leaves a cursor open
pub never_open : {A : Type 0} (reads : List (Pair Bson) → Result A Error → Type 0) (pages : List Page) (cursor : ℤ) (namespace : Namespace)
    → ReadsAlone reads pages (Ok (Further cursor namespace)) → ⊥
never_open reads [] cursor namespace asks = asks
never_open reads (Err failure ∷ pages) cursor namespace asks = asks
never_open reads (Ok reply ∷ []) cursor namespace asks = asks
never_open reads (Ok reply ∷ page ∷ pages) cursor namespace asks = asks

-- nor is anything read where the page did not come
pub none_failed : {A : Type 0} (reads : List (Pair Bson) → Result A Error → Type 0) (failure : Error) (pages : List Page) (reading : Reading A) → ReadsAlone reads (Err failure ∷ pages) (Ok reading) → ⊥
none_failed reads failure pages reading asks = asks

-- so no page is behind its reply
pub none_further : {A : Type 0} (spec : OperationSpec A) → NeverOpen spec
    → (statements : ℕ) (reply : Reply) (server last : Server) (page : Reply) (pages : List Reply) → FurtherPages spec statements reply server (page ∷ pages) last → ⊥
none_further spec never statements reply server last page pages further = never statements _ further.1.1.cursor further.1.1.namespace further.1.1.left
