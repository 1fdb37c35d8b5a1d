-- How many documents of an insert a build takes, as its functions say it.
use Rattle.std.specs.Prelude.{◌≡◌, ℕ, ◌<◌, ◌≤◌, List, length, take, Option, None, Some, Result, Ok, Err}
use Rattle.driver_batches.specs.declared.sizes.Limits.{Limits}
use Rattle.write_ops.specs.declared.own_document.OwnDocument.{OwnDocument}
use Rattle.write_ops.specs.InsertFronts.{IsFrontOf, TakesFront}

-- so many documents are taken, by the number that is fixed: there are so many, and one at least
pub record IsTaken (limits : Limits) (documents : List OwnDocument) (fixed : Option ℕ) (statements : ℕ) : Type 0 where
  pub takes : TakesFront limits documents fixed statements
  pub some : 0 < statements
  pub within : statements ≤ length documents

-- none are taken, by the number that is fixed, since the document at a position does not go out
abbrev pub StopsAt : Limits → List OwnDocument → Option ℕ → ℕ → Type 0
StopsAt limits documents None at = (at ≡ 0) × IsFrontOf limits documents 0
StopsAt limits documents (Some fixed) at = (at < fixed) × IsFrontOf limits (take fixed documents) at

-- how many documents are taken, or which one does not go out
abbrev pub TakesOrStops : Limits → List OwnDocument → Option ℕ → Result ℕ ℕ → Type 0
TakesOrStops limits documents fixed (Ok statements) = IsTaken limits documents fixed statements
TakesOrStops limits documents fixed (Err at) = StopsAt limits documents fixed at
