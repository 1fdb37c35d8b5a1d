-- The main theorem for one list of calls: one outcome per call, no write twice in the log and every
-- entry the caller's own, late arrivals included, and an Ok call's writes there once with the answer
-- that the log spells.
use Rattle.std.specs.Prelude.{◌≡◌, ℕ, Bool, true, false, List, [], length, map, sum, Option, None, Some, IfSome, Result, slice_get}
use Rattle.std.specs.Option.{option_and_then}
use Rattle.std.specs.Result.{result_ok}
use Rattle.driver_error.specs.declared.error.Error.{Error}
use Rattle.bulk_outcomes.specs.BulkResults.{summary_spec, verbose_spec}
use Rattle.driver_link.specs.declared.machine.Item.{Item}
use Rattle.driver_link.specs.declared.machine.Send.{Send}
use Rattle.driver_link.specs.declared.machine.Server.{Server}
use Rattle.driver_link.specs.declared.machine.Setup.{Setup}
use Rattle.driver_link.specs.Exchange.{after_picks, replayed}
use Rattle.driver_link.specs.Once.{Once}
use Rattle.driver_link.specs.LinkState.{server_run, setup_of}
use Rattle.driver_link.specs.Retried.{IsGentleItem}
use Rattle.driver_link.specs.ServerRun.{IsFresh, ServerRun}
use Rattle.driver_session.specs.StoreTells.{DrawnApart, IsNewStore}
use Rattle.driver_ops.specs.Targets.{in_collection}
use Rattle.driver_attempt.specs.Moment.{Moment}
use Rattle.driver_exec.specs.Gentle.{EndsWell}
use Rattle.driver_exec.specs.OperationCauses.{DrawsNumbers}
use Rattle.many_actions.specs.ManyCompleteness.{InsertsHaveNumbers, IsGentleCallWhereTold, IsValidMany, ServesInserts}
use Rattle.many_actions.specs.Numbers.{many_numbers}
use Rattle.driver_actions.specs.CallParts.{IsValidWrite, SendsOwn, IsReplayed}
use Rattle.bulk_actions.specs.BulkCompleteness.{BulkRepeats, CountsWithin, IsValidBulk, ServesBulk}
use Rattle.bulk_actions.specs.BulkNumbers.{bulk_numbers}
use Rattle.call_runs.specs.CallByCall.{CallByCall, CallCaused}
use Rattle.call_runs.specs.CallsLeft.{LeavesByCall}
use Rattle.driver_inputs.specs.declared.call.Answer.{Answer}
use Rattle.driver_inputs.specs.declared.call.Call.{Call}
use Rattle.driver_inputs.specs.declared.call.Outcome.{Outcome}
use Rattle.driver_inputs.specs.declared.call.Call.TheVariants.{BulkWrite, InsertMany, Single}
use Rattle.driver_inputs.specs.Calls.{Mine, Done, call_result}
use Rattle.driver_inputs.specs.Forms.{form_of, kind_in, repeats_in}

-- the answer of the call at a number, where it is Ok
abbrev pub answer_at : List Outcome → ℕ → Option Answer
answer_at outcomes call = option_and_then (λ outcome. result_ok outcome.result) (slice_get outcomes call)

-- what a run of calls leaves on the server
pub record MainTheorem (calls : List Call) (outcomes : List Outcome) (server : Server) : Type 0 where
  pub one_each : length outcomes ≡ length calls
  pub once : (picks : List ℕ) → Once (after_picks server picks).log
  pub mine : (picks : List ℕ) → Mine calls (after_picks server picks).log
  pub done : (call : ℕ) (answer : Answer) → answer_at outcomes call ≡ Some answer → Done calls call server.log
  pub result : (call : ℕ) (answer : Answer) → answer_at outcomes call ≡ Some answer → call_result calls call server.log ≡ Some answer

-- how many numbers of sessions a call takes at most, over a link that tells its setup or not: one for each of its batches
abbrev pub numbers_of : Option Setup → Call → ℕ
numbers_of setup (Single write) = 1
numbers_of setup (InsertMany namespace documents options) = many_numbers setup namespace documents options
numbers_of setup (BulkWrite models options verbose) = bulk_numbers setup models options verbose

-- how many calls take together
unfoldable pub all_numbers_of : Option Setup → List Call → ℕ
all_numbers_of setup calls = sum (map (numbers_of setup) calls)

-- a call is valid at a moment, after at most so many numbers
abbrev pub IsValid : ℕ → Moment → Call → Type 0
IsValid most before (Single write) = IsValidWrite most before.client.options (setup_of before.link) (form_of write)
IsValid most before (InsertMany namespace documents options) =
    IsValidMany most before.client.options (setup_of before.link) (in_collection namespace) documents options
IsValid most before (BulkWrite models options verbose) = IsValidBulk most before.client.options (setup_of before.link) models options verbose

-- a send of a call's command may go out again, as such sends have numbers: the link tells that its connections take sessions and
-- retryable writes, what is written may be repeated, and the client's options do not forbid it
abbrev pub MayRepeat : Moment → Call → (Send → Type 0)
MayRepeat before (Single write) = λ send. DrawsNumbers true (repeats_in (form_of write) before.client.options) (setup_of before.link)
MayRepeat before (InsertMany namespace documents options) = λ send. InsertsHaveNumbers before.client.options (setup_of before.link)
MayRepeat before (BulkWrite models options verbose) = BulkRepeats models before.client.options (setup_of before.link)

-- the items that serve a send of a call's commands as usual
abbrev pub ServesCall : Call → (Send → Item → Type 0)
ServesCall (Single write) = λ send. IsGentleItem (kind_in (form_of write))
ServesCall (InsertMany namespace documents options) = λ send. ServesInserts
ServesCall (BulkWrite models options verbose) = ServesBulk

-- the sums of the counts of a bulk write of a number stay within 64 bits, by the log of the server that is told after it; other calls have
-- none
abbrev pub SumsWithin : ℕ → Call → Option ServerRun → Type 0
SumsWithin number (Single write) link = Unit {0}
SumsWithin number (InsertMany namespace documents options) link = Unit {0}
SumsWithin number (BulkWrite models options true) link = IfSome link (λ run. CountsWithin verbose_spec models number run.server.log)
SumsWithin number (BulkWrite models options false) link = IfSome link (λ run. CountsWithin summary_spec models number run.server.log)

-- the part of a schedule that a call of a number takes is gentle: none of its selections and check-outs fails, and each of its sends is
-- served as usual; where its sends have numbers one of each command may get no reply instead; and the sums of its counts stay within
-- 64 bits
pub record IsGentle (number : ℕ) (before now : Moment) (call : Call) : Type 0 where
  pub part : IsGentleCallWhereTold (ServesCall call) (MayRepeat before call) (server_run before.link) (server_run now.link)
  pub sums : SumsWithin number call (server_run now.link)

-- completeness of a call: a valid one whose part of the schedule is gentle ends well, whatever came before it
abbrev pub CallCompletes : List Call → Moment → Moment → Call → Result Answer Error → Type 0
CallCompletes earlier before now call result =
    IsValid (all_numbers_of (setup_of before.link) earlier) before call → IsGentle (length earlier) before now call → EndsWell result

-- a call's answer may come in pages, which are read by commands of a cursor
abbrev pub is_paged : Call → Bool
is_paged (Single write) = false
is_paged (InsertMany namespace documents options) = false
is_paged (BulkWrite models options verbose) = true

-- a call between two moments: it was made and ended with its cause, and well where it is valid and its part is gentle; all
-- that was sent is what it may send, a told server stays the fold of its sends, and the call left what its kind of call leaves
pub record CallEnds (earlier : List Call) (before now : Moment) (call : Call) (outcome : Outcome) : Type 0 where
  pub caused : CallCaused (length earlier) before now call outcome
  pub complete : CallCompletes earlier before now call outcome.result
  pub sends_own : SendsOwn (is_paged call) (length earlier) (server_run before.link) (server_run now.link)
  pub replayed : IsReplayed before → IsReplayed now
  pub leaves : LeavesByCall (length earlier) before now call outcome.result

-- each call of a list ended so
abbrev pub HaveEnded : List Call → List Outcome → Moment → Moment → Type 0
HaveEnded calls outcomes before now = CallByCall CallEnds [] calls outcomes before now

-- the main theorem of a link that tells its server
abbrev pub MainTheoremWhereTold : List Call → List Outcome → Option ServerRun → Type 0
MainTheoremWhereTold calls outcomes None = ⊥
MainTheoremWhereTold calls outcomes (Some run) = MainTheorem calls outcomes run.server

-- the main theorem at a moment of a link that tells its server
abbrev pub MeetsMainTheorem : List Call → List Outcome → Moment → Type 0
MeetsMainTheorem calls outcomes now = MainTheoremWhereTold calls outcomes (server_run now.link)

-- the premises: a client over a store that was not used, a link to a server that has seen nothing,
-- and ids that were drawn apart
pub record Begins (before now : Moment) : Type 0 where
  pub new : IsNewStore before.store
  pub fresh : IsFresh (server_run before.link)
  pub apart : DrawnApart now.store
