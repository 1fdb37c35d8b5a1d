-- What an insert of many documents does to what stands between the operations of one client, and which of its documents stand
-- in the log by its answer.
use Rattle.std.specs.Prelude.{◌≡◌, ◌≢◌, ℕ, List, Option, Some, Result, Ok, Err, ◌⊎◌, slice_get}
use Rattle.std.specs.FinMap as finite
use Rattle.std.specs.Ordering.{nat_cmp}
use Rattle.bson_lite.specs.declared.bson.Bson.{Bson}
use Rattle.bson_lite.specs.declared.document.Pair.{Pair}
use Rattle.bson_lite.specs.declared.namespace.Namespace.{Namespace}
use Rattle.driver_error.specs.declared.error.Error.{Error}
use Rattle.driver_error.specs.declared.kind.ErrorKind.TheVariants as kind
use Rattle.server_answers.specs.declared.results.InsertManyResult.{InsertManyResult}
use Rattle.driver_error.specs.declared.write.InsertManyError.{InsertManyError}
use Rattle.driver_error.specs.Error.{kind_of}
use Rattle.driver_link.specs.declared.machine.Entry.{Entry}
use Rattle.driver_link.specs.declared.machine.PlacedWrite.{PlacedWrite}
use Rattle.driver_link.specs.declared.machine.Send.{Send}
use Rattle.driver_link.specs.Apart.{AllApart}
use Rattle.driver_link.specs.Cases.{writes_of}
use Rattle.driver_link.specs.LinkState.{server_run}
use Rattle.driver_link.specs.ServerRun.{ServerRun}
use Rattle.driver_link.specs.Settled.{Has}
use Rattle.driver_session.specs.Pool.{Pool}
use Rattle.driver_attempt.specs.Moment.{Moment}
use Rattle.driver_exec.specs.BetweenCalls.{Between, Sound}
use Rattle.driver_inputs.specs.Calls.{IsOwn, entry_id, given_insert}

-- no write of a trace has a place of this call
abbrev pub IsNewCall : List Send → ℕ → Type 0
IsNewCall trace call =
    (earlier : Send) (at : ℕ) (write : PlacedWrite) → Has trace earlier → slice_get (writes_of earlier) at ≡ Some write → write.place.call ≢ call

-- writes of a call may be made: nothing is lent, the sends so far are sound, no place of the call was sent, and the ids that are
-- drawn by its end are apart
pub record MayWriteCall (pool pool_now : Pool) (run : ServerRun) (call : ℕ) : Type 0 where
  pub between : Between pool run.server.trace
  pub sound : Sound run.server
  pub new : IsNewCall run.server.trace call
  pub apart : AllApart pool_now.drawn

-- a write inserts a document of the caller, in the place of its index in this call
pub record IsOwnInsert (namespace : Namespace) (documents : List (List (Pair Bson))) (call : ℕ) (write : PlacedWrite) : Type 0 where
  pub document : List (Pair Bson)
  pub of_call : write.place.call ≡ call
  pub given : slice_get documents write.place.index ≡ Some document
  pub own : IsOwn (given_insert namespace document) write.written

-- all writes of a send are so
abbrev pub AreOwnInserts : Namespace → List (List (Pair Bson)) → ℕ → Send → Type 0
AreOwnInserts namespace documents call send = (at : ℕ) (write : PlacedWrite) → slice_get (writes_of send) at ≡ Some write → IsOwnInsert namespace documents call write

-- what stands after the call: the same, and each send of the trace was there before or inserts the caller's documents alone
pub record HasWrittenCall (namespace : Namespace) (documents : List (List (Pair Bson))) (pool_now : Pool) (run run_now : ServerRun) (call : ℕ) : Type 0 where
  pub between : Between pool_now run_now.server.trace
  pub sound : Sound run_now.server
  pub which : (send : Send) → Has run_now.server.trace send → Has run.server.trace send ⊎ AreOwnInserts namespace documents call send

-- what stands before the call stands after it, where pool and server are told
abbrev pub KeepsCallWhereTold : Namespace → List (List (Pair Bson)) → Option Pool → Option Pool → Option ServerRun → Option ServerRun → ℕ → Type 0
KeepsCallWhereTold namespace documents (Some pool) (Some pool_now) (Some run) (Some run_now) call =
    MayWriteCall pool pool_now run call → HasWrittenCall namespace documents pool_now run run_now call
KeepsCallWhereTold namespace documents pool pool_now run run_now call = Unit {0}

-- the same of two moments
abbrev pub KeepsCall : Moment → Moment → Namespace → List (List (Pair Bson)) → ℕ → Type 0
KeepsCall before now namespace documents call = KeepsCallWhereTold namespace documents before.store.pool now.store.pool (server_run before.link) (server_run now.link) call

-- a log has the entry of the caller's document at an index, and the document there has this id
pub record HasInserted (namespace : Namespace) (documents : List (List (Pair Bson))) (call : ℕ) (log : List Entry) (index : ℕ) (id : Bson) : Type 0 where
  pub document : List (Pair Bson)
  pub given : slice_get documents index ≡ Some document
  pub entry : Entry
  pub has : Has log entry
  pub placed : entry.place ≡ record { call = call; index = index }
  pub own : IsOwn (given_insert namespace document) entry.written
  pub id_is : entry_id entry ≡ Some id

-- a log has the entry of each document whose id is listed
abbrev pub HasListed : Namespace → List (List (Pair Bson)) → ℕ → List Entry → finite.FinMap nat_cmp Bson → Type 0
HasListed namespace documents call log ids = (index : ℕ) (id : Bson) → finite.get ids index ≡ Some id → HasInserted namespace documents call log index id

-- an answer lists the id of each document
abbrev pub ListsAll : List (List (Pair Bson)) → finite.FinMap nat_cmp Bson → Type 0
ListsAll documents ids = (index : ℕ) (document : List (Pair Bson)) → slice_get documents index ≡ Some document → (id : Bson) × (finite.get ids index ≡ Some id)

-- what an answer says of a log: an Ok lists each document, and those that are listed stand in it, after an error of some of the
-- documents too
abbrev pub AnswerStands : Namespace → List (List (Pair Bson)) → ℕ → List Entry → Result InsertManyResult Error → Type 0
AnswerStands namespace documents call log (Ok output) = ListsAll documents output.inserted_ids × HasListed namespace documents call log output.inserted_ids
AnswerStands namespace documents call log (Err error) =
    (failures : InsertManyError) → kind_of error ≡ kind.InsertMany failures → HasListed namespace documents call log failures.inserted_ids

-- so it is in the log that is told after the call, where it may be made
abbrev pub AnswerStandsWhereTold : Namespace → List (List (Pair Bson)) → ℕ → Option Pool → Option Pool → Option ServerRun → Option ServerRun → Result InsertManyResult Error → Type 0
AnswerStandsWhereTold namespace documents call (Some pool) (Some pool_now) (Some run) (Some run_now) result =
    MayWriteCall pool pool_now run call → AnswerStands namespace documents call run_now.server.log result
AnswerStandsWhereTold namespace documents call pool pool_now run run_now result = Unit {0}

-- the same of two moments
abbrev pub ListedStand : Moment → Moment → Namespace → List (List (Pair Bson)) → ℕ → Result InsertManyResult Error → Type 0
ListedStand before now namespace documents call result =
    AnswerStandsWhereTold namespace documents call before.store.pool now.store.pool (server_run before.link) (server_run now.link) result
