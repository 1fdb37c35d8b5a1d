-- A call of a run that stands ends well where it is valid and its part of the schedule is gentle.
use Rattle.std.proofs.Common.{◌≡◌, ℕ, ◌<◌, ◌≤◌, List, length, take, refl, sym, subst, arith}
use Rattle.std.specs.Prelude.{pos, Bool, true, false, Option, None, Some, IfSome, Result, Ok, Err}
use Rattle.std.proofs.lemmas.List.{length-take-le}
use Rattle.bson_lite.specs.declared.bson.Bson.{Bson}
use Rattle.bson_lite.specs.declared.document.Pair.{Pair}
use Rattle.bson_lite.specs.declared.namespace.Namespace.{Namespace}
use Rattle.driver_error.specs.declared.error.Error.{Error}
use Rattle.driver_error.specs.declared.kind.ErrorKind.TheVariants as kind
use Rattle.server_answers.specs.declared.results.InsertManyResult.{InsertManyResult}
use Rattle.bulk_outcomes.specs.BulkResults.{MergesResults, ResultSpec, summary_spec, verbose_spec}
use Rattle.driver_error.specs.Error.{kind_of}
use Rattle.bulk_outcomes.specs.lawful.Merging.{summary_merges, verbose_merges}
use Rattle.driver_options.specs.declared.models.WriteModel.{WriteModel}
use Rattle.driver_options.specs.declared.options.ClientOptions.{ClientOptions}
use Rattle.driver_options.specs.declared.write_options.BulkWriteOptions.{BulkWriteOptions}
use Rattle.driver_options.specs.declared.write_options.InsertManyOptions.{InsertManyOptions}
use Rattle.driver_link.specs.Clock.{ClockTells}
use Rattle.driver_link.specs.declared.machine.Item.{Item}
use Rattle.driver_link.specs.declared.machine.Send.{Send}
use Rattle.driver_link.specs.declared.machine.Setup.{Setup}
use Rattle.driver_link.specs.Retried.{IsGentleItem}
use Rattle.driver_link.specs.LinkState.{server_run, setup_of}
use Rattle.driver_link.specs.ServerRun.{ServerRun}
use Rattle.driver_link.proofs.ToldSetups.{served_setup}
use Rattle.driver_session.specs.Pool.{Pool}
use Rattle.driver_session.specs.StoreTells.{DrawnApart, DrawnApartIn, GainsDrawn}
use Rattle.driver_ops.specs.SendKinds.{first}
use Rattle.driver_ops.specs.Targets.{in_collection}
use Rattle.bulk_ops.specs.BulkSpec.{is_verbose}
use Rattle.driver_attempt.specs.Moment.{Moment}
use Rattle.driver_exec.specs.BetweenCalls.{NumbersWithin}
use Rattle.driver_exec.specs.Gentle.{EndsWell, IsGentlePart}
use Rattle.driver_exec.specs.OperationCauses.{DrawsNumbers}
use Rattle.driver_actions.specs.CallParts.{CarrySame, IsValidWrite, SendsOwn}
use Rattle.many_actions.specs.ManyCalls.{MakesMany}
use Rattle.many_actions.specs.ManyCompleteness.{InsertsHaveNumbers, IsGentleCallPart, IsGentleCallWhereTold, IsValidMany, MayCompleteCallWhereTold, ServesInserts}
use Rattle.many_actions.specs.ManyEntries.{AnswerStands, AnswerStandsWhereTold}
use Rattle.many_actions.specs.ManyTold.{IsToldTruly, IsToldWhereTold}
use Rattle.driver_actions.specs.Below.{AllBelow}
use Rattle.driver_actions.specs.SingleCalls.{Makes, first_place}
use Rattle.driver_actions.proofs.CallSends.{makes_alike}
use Rattle.many_actions.proofs.FewestCuts.{many_fewest}
use Rattle.many_actions.proofs.ManyCompleteness.{many_complete}
use Rattle.many_actions.proofs.ManyMade.{many_listed, many_moves}
use Rattle.many_actions.proofs.ManySpelled.{many_truly}
use Rattle.driver_actions.proofs.CallWrites.Entries.{new_place}
use Rattle.driver_actions.proofs.Completeness.{Ready, single_well}
use Rattle.bulk_actions.specs.BulkCalls.{MakesBulk}
use Rattle.bulk_actions.specs.BulkCompleteness.{BulkRepeats, CountsWithin, IsGentleBulkWhereTold, IsValidBulk, MayCompleteBulkWhereTold, ServesBulk}
use Rattle.bulk_actions.proofs.BulkCompleteness.{bulk_complete}
use Rattle.bulk_actions.proofs.BulkNumbers.{bulk_moves}
use Rattle.call_runs.specs.CallByCall.{CallCaused, with_clock}
use Rattle.call_runs.specs.CallMaking.{MakesBulkCall, MakesCall}
use Rattle.call_runs.specs.CallsLeft.{LeavesBulkCall, LeavesByCall, LeavesMany}
use Rattle.call_runs.specs.MainTheorem.{CallCompletes, CallEnds, IsGentle, IsValid, all_numbers_of, is_paged}
use Rattle.call_runs.specs.Standing.{LeavesWhereTold, RunInvariant, RunState}
use Rattle.call_runs.proofs.BulkLeft.{bulk_left_read, bulk_leaves}
use Rattle.call_runs.proofs.EachCall.{bulk_call_moves, caused_own, caused_replayed}
use Rattle.call_runs.proofs.StandingRuns.{stands_count}
use Rattle.call_runs.proofs.ToldAfter.{by_told}
use Rattle.driver_inputs.specs.declared.call.Answer.{Answer}
use Rattle.driver_inputs.specs.declared.call.Answer.TheVariants as answer
use Rattle.driver_inputs.specs.declared.call.Call.{Call}
use Rattle.driver_inputs.specs.declared.call.Call.TheVariants.{BulkWrite, InsertMany, Single}
use Rattle.driver_inputs.specs.declared.call.Outcome.{Outcome}
use Rattle.driver_inputs.specs.declared.call.SingleAnswer.{SingleAnswer}
use Rattle.driver_inputs.specs.declared.single_write.SingleWrite.{SingleWrite}
use Rattle.driver_inputs.specs.Forms.{WriteForm, form_of, kind_in, repeats_in}

-- a part of a schedule that is gentle for a call is so for one write, where all that it sent carries the same
pub gentle_alike : (Serves : Send → Item → Type 0) (repeats : Send → Type 0) (told told_now : ServerRun) → IsGentleCallPart Serves repeats told told_now
    → ((a b : ℕ) → length told.server.trace ≤ a → length told.server.trace ≤ b → CarrySame told_now a b) → IsGentlePart Serves repeats told told_now
gentle_alike Serves repeats told told_now gentle alike = record {
  selects = gentle.selects;
  check_outs = gentle.check_outs;
  overloaded = gentle.overloaded;
  items = gentle.items;
  one = λ a b of_part also_of loses other. gentle.one a b of_part also_of loses other (alike a b of_part.0 also_of.0);
}

-- a single write in its call
single_call_well : (most number : ℕ) (before now : Moment) (form : WriteForm) (valid : IsValidWrite most before.client.options (setup_of before.link) form) (pool : Pool) (told told_now : ServerRun)
    (ready : Ready most (first_place number) pool told) → before.store.pool ≡ Some pool → server_run before.link ≡ Some told → server_run now.link ≡ Some told_now → DrawnApart now.store
    → IsGentleCallPart (λ send. IsGentleItem (kind_in form)) (λ send. DrawsNumbers true (repeats_in form before.client.options) (setup_of before.link)) told told_now
    → (result : Result SingleAnswer Error) → Makes before now form (first_place number) result → EndsWell result
single_call_well most number before now form valid pool told told_now ready pool_is link_is now_is apart gentle result makes =
    let part = gentle_alike (λ send. IsGentleItem (kind_in form)) (λ send. DrawsNumbers true (repeats_in form before.client.options) (setup_of before.link)) told told_now gentle
    (λ a b above also_above. makes_alike before now told told_now link_is now_is a b above also_above form (first_place number) result makes) in
    single_well most (first_place number) before now form valid pool told told_now ready pool_is link_is now_is apart part result makes

-- the part that a bulk write took is gentle for it, where the link tells its server
gentle_told : {R : Type 0} (tells : ResultSpec R) (models : List WriteModel) (number : ℕ) (client : ClientOptions) (setup : Option Setup) (link link_now : Option ServerRun)
    → IsGentleCallWhereTold ServesBulk (BulkRepeats models client setup) link link_now → IfSome link_now (λ told. CountsWithin tells models number told.server.log)
    → IsGentleBulkWhereTold tells models number client setup link link_now
gentle_told tells models number client setup None link_now part sums = absurd part
gentle_told tells models number client setup (Some told) None part sums = absurd part
gentle_told tells models number client setup (Some told) (Some told_now) part sums = record { part = part; sums = sums }

-- the same of a run that stands
module _ (run : RunState) (calls : List Call) (before now : Moment) (left : LeavesWhereTold (take run.made calls) run.outcomes before.store.pool (server_run before.link))
    (count : length run.outcomes ≡ run.made) (apart : DrawnApart now.store) where
  -- the numbers that the calls before it take at most
  abbrev most : ℕ
  most = all_numbers_of (setup_of before.link) (take run.made calls)

  -- no idle session's number is above them, where the link tells its server
  most_within : (pool : Pool) (told : ServerRun) → server_run before.link ≡ Some told → NumbersWithin (pos (all_numbers_of (Some told.setup) (take run.made calls))) pool.idle → NumbersWithin (pos most) pool.idle
  most_within pool told link_is within = subst (λ s. NumbersWithin (pos (all_numbers_of s (take run.made calls))) pool.idle) (sym (served_setup before.link.making told link_is)) within

  -- a single write, by what is told
  single_told : (store : Option Pool) (link link_now : Option ServerRun) → before.store.pool ≡ store → server_run before.link ≡ link → server_run now.link ≡ link_now
      → LeavesWhereTold (take run.made calls) run.outcomes store link → (write : SingleWrite) (result : Result SingleAnswer Error)
      → Makes before now (form_of write) (first_place run.made) result → IsValidWrite most before.client.options (setup_of before.link) (form_of write)
      → IsGentleCallWhereTold (λ send. IsGentleItem (kind_in (form_of write))) (λ send. DrawsNumbers true (repeats_in (form_of write) before.client.options) (setup_of before.link)) link link_now → EndsWell result
  single_told None link link_now pool_is link_is now_is leaves write result makes valid gentle = absurd leaves
  single_told (Some pool) None link_now pool_is link_is now_is leaves write result makes valid gentle = absurd leaves
  single_told (Some pool) (Some told) None pool_is link_is now_is leaves write result makes valid gentle = absurd gentle
  single_told (Some pool) (Some told) (Some told_now) pool_is link_is now_is leaves write result makes valid gentle =
      let ready : Ready most (first_place run.made) pool told = record {
        between = leaves.between;
        sound = leaves.sound;
        new = new_place run.made told.server.trace (subst (λ n. AllBelow n told.server.trace) count leaves.below);
        numbers = most_within pool told link_is leaves.numbers;
      } in
      single_call_well most run.made before now (form_of write) valid pool told told_now ready pool_is link_is now_is apart gentle result makes

  -- an insert of many documents may be made, by what is told
  many_told : (store store_now : Option Pool) (link link_now : Option ServerRun) → before.store.pool ≡ store → now.store.pool ≡ store_now → server_run before.link ≡ link
      → server_run now.link ≡ link_now → (ids : List (List ℕ)) → GainsDrawn store store_now ids → LeavesWhereTold (take run.made calls) run.outcomes store link
      → MayCompleteCallWhereTold most store store_now link run.made
  many_told None store_now link link_now pool_is pool_now_is link_is now_is ids gains leaves = absurd leaves
  many_told (Some pool) None link link_now pool_is pool_now_is link_is now_is ids gains leaves = absurd gains
  many_told (Some pool) (Some pool_now) None link_now pool_is pool_now_is link_is now_is ids gains leaves = absurd leaves
  many_told (Some pool) (Some pool_now) (Some told) link_now pool_is pool_now_is link_is now_is ids gains leaves =
      let below = subst (λ n. AllBelow n told.server.trace) count leaves.below in
      record {
        writes = record {
          between = leaves.between;
          sound = leaves.sound;
          new = λ earlier at write has stands of_call. let under : write.place.call < run.made = below earlier at write has stands in absurd (omega (arith, under, of_call));
          apart = subst DrawnApartIn pool_now_is apart;
        };
        numbers = most_within pool told link_is leaves.numbers;
      }

  -- one that is made ends well where it is valid and its part is gentle
  many_well : (namespace : Namespace) (documents : List (List (Pair Bson))) (options : InsertManyOptions) (result : Result InsertManyResult Error)
      → MakesMany before now (in_collection namespace) documents options run.made result → IsValidMany most before.client.options (setup_of before.link) (in_collection namespace) documents options
      → IsGentleCallWhereTold (λ send. ServesInserts) (λ send. InsertsHaveNumbers before.client.options (setup_of before.link)) (server_run before.link) (server_run now.link) → EndsWell result
  many_well namespace documents options result makes valid gentle =
      let moves = many_moves before now (in_collection namespace) documents options run.made result makes in
      many_complete before now (in_collection namespace) documents options run.made result makes most
      (many_told before.store.pool now.store.pool (server_run before.link) (server_run now.link) refl refl refl refl moves.draws.more moves.draws.drawn left) valid gentle

  -- a bulk write may be made, by what is told
  bulk_told : (store store_now : Option Pool) (link link_now : Option ServerRun) → before.store.pool ≡ store → now.store.pool ≡ store_now → server_run before.link ≡ link
      → server_run now.link ≡ link_now → (ids : List (List ℕ)) → GainsDrawn store store_now ids → LeavesWhereTold (take run.made calls) run.outcomes store link
      → MayCompleteBulkWhereTold most store store_now link run.made
  bulk_told None store_now link link_now pool_is pool_now_is link_is now_is ids gains leaves = absurd leaves
  bulk_told (Some pool) None link link_now pool_is pool_now_is link_is now_is ids gains leaves = absurd gains
  bulk_told (Some pool) (Some pool_now) None link_now pool_is pool_now_is link_is now_is ids gains leaves = absurd leaves
  bulk_told (Some pool) (Some pool_now) (Some told) link_now pool_is pool_now_is link_is now_is ids gains leaves = record {
    call_may = many_told (Some pool) (Some pool_now) (Some told) link_now pool_is pool_now_is link_is now_is ids gains leaves;
    cursors = leaves.cursors;
  }

  -- one that failed, by the results that it asks for
  bulk_memory : {R : Type 0} (tells : ResultSpec R) → MergesResults tells → (models : List WriteModel) (options : BulkWriteOptions) (error : Error) → MakesBulk tells before now models options run.made (Err error)
      → IsValidBulk most before.client.options (setup_of before.link) models options (is_verbose tells)
      → IsGentleCallWhereTold ServesBulk (BulkRepeats models before.client.options (setup_of before.link)) (server_run before.link) (server_run now.link)
      → IfSome (server_run now.link) (λ told. CountsWithin tells models run.made told.server.log) → kind_of error ≡ kind.Memory
  bulk_memory tells laws models options error makes valid part sums =
      let moves = bulk_moves tells before now models options run.made (Err error) makes in
      bulk_complete tells laws before now models options run.made (Err error) makes most
      (bulk_told before.store.pool now.store.pool (server_run before.link) (server_run now.link) refl refl refl refl moves.draws.more moves.draws.drawn left) valid
      (gentle_told tells models run.made before.client.options (setup_of before.link) (server_run before.link) (server_run now.link) part sums)

  -- one that is made ends well where it is valid and its part is gentle
  bulk_well : (models : List WriteModel) (options : BulkWriteOptions) (verbose : Bool) (result : Result Answer Error) → MakesBulkCall before now models options verbose run.made result
      → IsValidBulk most before.client.options (setup_of before.link) models options verbose → IsGentle run.made before now (BulkWrite models options verbose) → EndsWell result
  bulk_well models options true (Ok given) makes valid gentle = tt
  bulk_well models options true (Err error) makes valid gentle = bulk_memory verbose_spec verbose_merges models options error makes valid gentle.part gentle.sums
  bulk_well models options false (Ok given) makes valid gentle = tt
  bulk_well models options false (Err error) makes valid gentle = bulk_memory summary_spec summary_merges models options error makes valid gentle.part gentle.sums

  -- what an insert of many documents that was made left
  leaves_many : (namespace : Namespace) (documents : List (List (Pair Bson))) (options : InsertManyOptions) (result : Result InsertManyResult Error)
      → MakesMany before now (in_collection namespace) documents options run.made result → LeavesMany run.made before now namespace documents options result
  leaves_many namespace documents options result makes =
      let moves = many_moves before now (in_collection namespace) documents options run.made result makes in
      let may = many_told before.store.pool now.store.pool (server_run before.link) (server_run now.link) refl refl refl refl moves.draws.more moves.draws.drawn left in
      record {
        stand = by_told most run.made (λ told told_now. AnswerStands namespace documents run.made told_now.server.log result) (λ s t l m. AnswerStandsWhereTold namespace documents run.made s t l m result)
            (λ pool pool_now told told_now stands writes. stands writes) before.store.pool now.store.pool (server_run before.link) (server_run now.link)
            (many_listed before now (in_collection namespace) documents options run.made result makes) may;
        told = λ first clock made. by_told most run.made (λ told told_now. IsToldTruly namespace documents run.made told told_now made.ends result) (λ s t l m. IsToldWhereTold namespace documents run.made s t l m made.ends result)
            (λ pool pool_now told told_now truly writes. truly writes) before.store.pool now.store.pool (server_run before.link) (server_run now.link)
            (many_truly (with_clock before first) (with_clock now clock) (in_collection namespace) documents options run.made result made) may;
        fewest = many_fewest before now (in_collection namespace) documents options run.made result makes;
      }

  -- what a bulk write left
  leaves_bulk : (models : List WriteModel) (options : BulkWriteOptions) (verbose : Bool) (result : Result Answer Error) → MakesBulkCall before now models options verbose run.made result
      → LeavesBulkCall run.made before now models options verbose result
  leaves_bulk models options verbose result makes =
      let moves = bulk_call_moves before now models options verbose run.made result makes in
      bulk_leaves most run.made before now models options
      (many_told before.store.pool now.store.pool (server_run before.link) (server_run now.link) refl refl refl refl moves.draws.more moves.draws.drawn left) verbose result makes

  -- and what each call did
  leaves : (call : Call) (result : Result Answer Error) → MakesCall before now call run.made result → LeavesByCall run.made before now call result
  leaves (Single write) result makes = tt
  leaves (InsertMany namespace documents options) (Ok (answer.Many output)) makes = leaves_many namespace documents options (Ok output) makes
  leaves (InsertMany namespace documents options) (Ok other) makes = absurd makes
  leaves (InsertMany namespace documents options) (Err error) makes = leaves_many namespace documents options (Err error) makes
  leaves (BulkWrite models options verbose) result makes = leaves_bulk models options verbose result makes

  -- a call that is made ends well where it is valid and its part is gentle
  completes : (call : Call) (result : Result Answer Error) → MakesCall before now call run.made result → IsValid most before call → IsGentle run.made before now call → EndsWell result
  completes (Single write) (Ok given) makes valid gentle = tt
  completes (Single write) (Err error) makes valid gentle =
      single_told before.store.pool (server_run before.link) (server_run now.link) refl refl refl left write (Err error) makes valid gentle.part
  completes (InsertMany namespace documents options) (Ok given) makes valid gentle = tt
  completes (InsertMany namespace documents options) (Err error) makes valid gentle = many_well namespace documents options (Err error) makes valid gentle.part
  completes (BulkWrite models options verbose) result makes valid gentle = bulk_well models options verbose result makes valid gentle

-- its end does not depend on the readings of the clock
completes_read : (earlier : List Call) (began clock : ClockTells) (before now : Moment) (call : Call) (result : Result Answer Error)
    → CallCompletes earlier (with_clock before began) (with_clock now clock) call result → CallCompletes earlier before now call result
completes_read earlier began clock before now (Single write) result completes = λ valid gentle. completes valid (record { part = gentle.part; sums = gentle.sums })
completes_read earlier began clock before now (InsertMany namespace documents options) result completes = λ valid gentle. completes valid (record { part = gentle.part; sums = gentle.sums })
completes_read earlier began clock before now (BulkWrite models options true) result completes = λ valid gentle. completes valid (record { part = gentle.part; sums = gentle.sums })
completes_read earlier began clock before now (BulkWrite models options false) result completes = λ valid gentle. completes valid (record { part = gentle.part; sums = gentle.sums })

-- nor does what it left
leaves_read : (number : ℕ) (began clock : ClockTells) (before now : Moment) (call : Call) (result : Result Answer Error) → LeavesByCall number (with_clock before began) (with_clock now clock) call result
    → LeavesByCall number before now call result
leaves_read number began clock before now (Single write) result leaves = tt
leaves_read number began clock before now (InsertMany namespace documents options) (Ok (answer.Many output)) leaves = record { stand = leaves.stand; told = leaves.told; fewest = leaves.fewest }
leaves_read number began clock before now (InsertMany namespace documents options) (Ok other) leaves = absurd leaves
leaves_read number began clock before now (InsertMany namespace documents options) (Err error) leaves = record { stand = leaves.stand; told = leaves.told; fewest = leaves.fewest }
leaves_read number began clock before now (BulkWrite models options verbose) result leaves = bulk_left_read number began clock before now models options verbose result leaves

-- a call of a run that stands
pub call_ends : (run : RunState) (calls : List Call) (before now : Moment) → RunInvariant run calls before → DrawnApart now.store → (call : Call) (outcome : Outcome)
    → CallCaused run.made before now call outcome → CallEnds (take run.made calls) before now call outcome
call_ends run calls before now stands apart call outcome caused =
    let read = with_clock before caused.first in
    let last = with_clock now caused.clock in
    let count : run.made ≡ length (take run.made calls) = sym (length-take-le run.made calls stands.within) in
    record {
      caused = subst (λ n. CallCaused n before now call outcome) count caused;
      complete = completes_read (take run.made calls) caused.first caused.clock before now call outcome.result
          (λ valid gentle. completes run calls read last stands.left (stands_count run calls before stands) apart call outcome.result caused.makes valid
          (subst (λ n. IsGentle n read last call) (sym count) gentle));
      sends_own = subst (λ n. SendsOwn (is_paged call) n (server_run before.link) (server_run now.link)) count (caused_own run.made before now call outcome caused);
      replayed = caused_replayed run.made before now call outcome caused;
      leaves = subst (λ n. LeavesByCall n before now call outcome.result) count (leaves_read run.made caused.first caused.clock before now call outcome.result
          (leaves run calls read last stands.left (stands_count run calls before stands) apart call outcome.result caused.makes));
    }
