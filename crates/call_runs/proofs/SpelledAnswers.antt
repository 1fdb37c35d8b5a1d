-- What the log spells of the calls that answered, once one more call was made.
use Rattle.std.proofs.Common.{◌≡◌, ℕ, zero, suc, ◌+◌, Bool, true, false, List, [], ◌∷◌, ◌++◌, length, refl, sym, ap, subst, ◌∙◌, inl, inr}
use Rattle.std.specs.Prelude.{Option, None, Some, IsSome, ◌⊎◌, ◌==◌, slice_get, if◌then◌else◌}
use Rattle.std.specs.Option.{option_and_then, option_map}
use Rattle.std.specs.Result.{result_ok}
use Rattle.std.proofs.lemmas.Bool.Decides.{Decides-eqb}
use Rattle.bson_lite.specs.declared.bson.Bson.{Bson}
use Rattle.bson_lite.specs.declared.document.Pair.{Pair}
use Rattle.driver_options.specs.declared.models.WriteModel.{WriteModel}
use Rattle.driver_link.specs.declared.machine.Entry.{Entry}
use Rattle.driver_link.specs.declared.machine.Place.{Place}
use Rattle.driver_link.specs.declared.machine.WriteKind.{WriteKind}
use Rattle.driver_link.specs.declared.machine.Written.{Written}
use Rattle.driver_link.specs.Once.{Once}
use Rattle.driver_link.specs.Settled.{Has}
use Rattle.driver_actions.specs.SingleCalls.{first_place}
use Rattle.many_actions.proofs.BatchWrites.{place_in}
use Rattle.many_actions.proofs.ListedIds.{Ids}
use Rattle.call_runs.specs.MainTheorem.{answer_at}
use Rattle.call_runs.proofs.LogEntries.{done_left, entry_found, entry_left, stands_has}
use Rattle.driver_inputs.specs.declared.call.Answer.{Answer}
use Rattle.driver_inputs.specs.declared.call.Answer.TheVariants as answer
use Rattle.driver_inputs.specs.declared.call.Call.{Call}
use Rattle.driver_inputs.specs.declared.call.Call.TheVariants.{BulkWrite, InsertMany, Single}
use Rattle.driver_inputs.specs.declared.call.Outcome.{Outcome}
use Rattle.driver_inputs.specs.declared.call.SingleAnswer.{SingleAnswer}
use Rattle.driver_inputs.specs.declared.single_write.SingleWrite.{SingleWrite}
use Rattle.driver_inputs.specs.Calls.{OwnAt, IsOwn, Done, answer_by, bulk_answer, write_at, write_in, written, entries_in_log, entry_at, entry_id, ids_in_log, put_id, result_of, call_result}

-- what the log spells of the calls that answered
pub record Answered (calls : List Call) (outcomes : List Outcome) (log : List Entry) : Type 0 where
  pub done : (call : ℕ) (given : Answer) → answer_at outcomes call ≡ Some given → Done calls call log
  pub result : (call : ℕ) (given : Answer) → answer_at outcomes call ≡ Some given → call_result calls call log ≡ Some given

-- an answer is an earlier one or the last
answer_last : (outcomes : List Outcome) (last : Outcome) (call : ℕ) (given : Answer) → answer_at (outcomes ++ last ∷ []) call ≡ Some given
    → (answer_at outcomes call ≡ Some given) ⊎ ((call ≡ length outcomes) × (result_ok last.result ≡ Some given))
answer_last [] last zero given is = inr (refl, is)
answer_last [] last (suc call) given is = absurd (let e : ◌≡◌ {A = Option Answer} None (Some given) = is in cc)
answer_last (outcome ∷ outcomes) last zero given is = inl is
answer_last (outcome ∷ outcomes) last (suc call) given is = elim (answer_last outcomes last call given is) [
  | inl earlier ↦ inl earlier
  | inr now ↦ inr (ap suc now.0, now.1)
]

-- the answer of a write of a kind from the entry that was found
abbrev spelled : WriteKind → Option Entry → Option Answer
spelled does found = option_map (λ given. answer.Single given) (option_and_then (answer_by does) found)

-- what was spelled at a place is so in a longer log
spelled_left : (does : WriteKind) (place : Place) (log more : List Entry) (given : Answer) (found : Option Entry) → entry_at place log ≡ found
    → spelled does found ≡ Some given → spelled does (entry_at place (log ++ more)) ≡ Some given
spelled_left does place log more given None at is = absurd (let e : ◌≡◌ {A = Option Answer} None (Some given) = is in cc)
spelled_left does place log more given (Some entry) at is = ap (spelled does) (entry_left place log more entry at) ∙ is

-- an id that an entry tells is told in a longer log
id_left : (place : Place) (log more : List Entry) (id : Bson) (found : Option Entry) → entry_at place log ≡ found → option_and_then entry_id found ≡ Some id
    → option_and_then entry_id (entry_at place (log ++ more)) ≡ Some id
id_left place log more id None at is = absurd (let e : ◌≡◌ {A = Option Bson} None (Some id) = is in cc)
id_left place log more id (Some entry) at is = ap (option_and_then entry_id) (entry_left place log more entry at) ∙ is

-- what was put beside ids: an id, and these
record PutsBeside (id : Option Bson) (ids : Option Ids) : Type 0 where
  one : Bson
  rest : Ids
  one_is : id ≡ Some one
  rest_is : ids ≡ Some rest

puts_beside : (index : ℕ) (id : Option Bson) (ids : Option Ids) (all : Ids) → put_id index id ids ≡ Some all → PutsBeside id ids
puts_beside index (Some one) (Some rest) all is = record { one = one; rest = rest; one_is = refl; rest_is = refl }
puts_beside index (Some one) None all is = absurd (let e : ◌≡◌ {A = Option Ids} None (Some all) = is in cc)
puts_beside index None ids all is = absurd (let e : ◌≡◌ {A = Option Ids} None (Some all) = is in cc)

-- ids that a log tells are told in a longer one
ids_left : (call index : ℕ) (documents : List (List (Pair Bson))) (log more : List Entry) (ids : Ids) → ids_in_log call index documents log ≡ Some ids
    → ids_in_log call index documents (log ++ more) ≡ Some ids
ids_left call index [] log more ids is = is
ids_left call index (document ∷ documents) log more ids is =
    let place = place_in call index in
    let puts = puts_beside index (option_and_then entry_id (entry_at place log)) (ids_in_log call (index + 1) documents log) ids is in
    let here = id_left place log more puts.one (entry_at place log) refl puts.one_is in
    let rest = ids_left call (index + 1) documents log more puts.rest puts.rest_is in
    ap (λ id. put_id index id (ids_in_log call (index + 1) documents (log ++ more))) (here ∙ sym puts.one_is)
    ∙ ap (put_id index (option_and_then entry_id (entry_at place log))) (rest ∙ sym puts.rest_is) ∙ is

-- so is the answer that they are
many_left : (call : ℕ) (documents : List (List (Pair Bson))) (log more : List Entry) (given : Answer) (found : Option Ids) → ids_in_log call 0 documents log ≡ found
    → option_map (λ ids. answer.Many (record { inserted_ids = ids })) found ≡ Some given
    → option_map (λ ids. answer.Many (record { inserted_ids = ids })) (ids_in_log call 0 documents (log ++ more)) ≡ Some given
many_left call documents log more given None told is = absurd (let e : ◌≡◌ {A = Option Answer} None (Some given) = is in cc)
many_left call documents log more given (Some ids) told is =
    ap (option_map (λ (all : Ids). answer.Many (record { inserted_ids = all }))) (ids_left call 0 documents log more ids told) ∙ is

-- an entry before others, where both were found
abbrev pub joined : Option Entry → Option (List Entry) → Option (List Entry)
joined found rest = option_and_then (λ entry. option_map (λ others. entry ∷ others) rest) found

-- what was joined so: an entry, and others
record JoinsEntries (found : Option Entry) (rest : Option (List Entry)) : Type 0 where
  one : Entry
  others : List Entry
  one_is : found ≡ Some one
  others_are : rest ≡ Some others

joins_entries : (found : Option Entry) (rest : Option (List Entry)) (all : List Entry) → joined found rest ≡ Some all → JoinsEntries found rest
joins_entries (Some one) (Some others) all is = record { one = one; others = others; one_is = refl; others_are = refl }
joins_entries (Some one) None all is = absurd (let e : ◌≡◌ {A = Option (List Entry)} None (Some all) = is in cc)
joins_entries None rest all is = absurd (let e : ◌≡◌ {A = Option (List Entry)} None (Some all) = is in cc)

-- entries that a log tells are told in a longer one
entries_left : (call index : ℕ) (models : List WriteModel) (log more : List Entry) (entries : List Entry) → entries_in_log call index models log ≡ Some entries
    → entries_in_log call index models (log ++ more) ≡ Some entries
entries_left call index [] log more entries is = is
entries_left call index (model ∷ models) log more entries is =
    let place = place_in call index in
    let joins = joins_entries (entry_at place log) (entries_in_log call (index + 1) models log) entries is in
    let here = entry_left place log more joins.one joins.one_is in
    let rest = entries_left call (index + 1) models log more joins.others joins.others_are in
    ap (λ found. joined found (entries_in_log call (index + 1) models (log ++ more))) (here ∙ sym joins.one_is)
    ∙ ap (joined (entry_at place log)) (rest ∙ sym joins.others_are) ∙ is

-- so is the answer that they tell
bulk_left : (call : ℕ) (models : List WriteModel) (verbose : Bool) (log more : List Entry) (given : Answer) (found : Option (List Entry)) → entries_in_log call 0 models log ≡ found
    → option_map (bulk_answer verbose) found ≡ Some given → option_map (bulk_answer verbose) (entries_in_log call 0 models (log ++ more)) ≡ Some given
bulk_left call models verbose log more given None told is = absurd (let e : ◌≡◌ {A = Option Answer} None (Some given) = is in cc)
bulk_left call models verbose log more given (Some entries) told is = ap (option_map (bulk_answer verbose)) (entries_left call 0 models log more entries told) ∙ is

-- a call's answer is so too
of_left : (made : Call) (call : ℕ) (log more : List Entry) (given : Answer) → result_of made call log ≡ Some given → result_of made call (log ++ more) ≡ Some given
of_left (Single write) call log more given is =
    spelled_left (written write).kind (first_place call) log more given (entry_at (first_place call) log) refl is
of_left (InsertMany namespace documents options) call log more given is = many_left call documents log more given (ids_in_log call 0 documents log) refl is
of_left (BulkWrite models options verbose) call log more given is = bulk_left call models verbose log more given (entries_in_log call 0 models log) refl is

-- so is that of the call at a number
result_left : (calls : List Call) (call : ℕ) (log more : List Entry) (given : Answer) → call_result calls call log ≡ Some given
    → call_result calls call (log ++ more) ≡ Some given
unfolding call_result
result_left calls call log more given is =
    elim (slice_get calls call)
    as (λ made. option_and_then (λ m. result_of m call log) made ≡ Some given → option_and_then (λ m. result_of m call (log ++ more)) made ≡ Some given) [
      | None ↦ λ e. e
      | Some made ↦ λ e. of_left made call log more given e
    ] is

-- the write of a call, by its place
write_is : (calls : List Call) (call index : ℕ) (write : SingleWrite) → slice_get calls call ≡ Some (Single write)
    → write_at calls (record { call = call; index = index }) ≡ (if index == 0 then Some (written write) else None)
unfolding write_at
write_is calls call index write at = ap (λ made. option_and_then (λ m. write_in m index) made) at

-- a write that is the caller's own is so at its place
pub own_at : (calls : List Call) (call : ℕ) (write : SingleWrite) (sent : Written) → slice_get calls call ≡ Some (Single write) → IsOwn (written write) sent
    → OwnAt (write_at calls (first_place call)) sent
own_at calls call write sent at own = subst (λ given. OwnAt given sent) (sym (write_is calls call 0 write at)) own

-- what stands under a condition says that it holds
is_there : (b : Bool) (given : Written) → IsSome (if b then Some given else None) → b ≡ true
is_there true given there = refl
is_there false given there = there

-- a write whose entry stands is done
done_now : (calls : List Call) (call : ℕ) (write : SingleWrite) (log : List Entry) (entry : Entry)
    → slice_get calls call ≡ Some (Single write) → Has log entry → entry.place ≡ first_place call → Done calls call log
done_now calls call write log entry at has placed = λ index given.
    let there = subst (λ write. IsSome write) (write_is calls call index write at) given in
    let first : index ≡ 0 = (Decides-eqb index 0).0 (is_there (index == 0) (written write) there) in
    stands_has (record { call = call; index = index }) log entry has (placed ∙ ap (λ i. record { call = call; index = i }) (sym first))

-- and the log spells its answer
result_now : (calls : List Call) (call : ℕ) (write : SingleWrite) (log : List Entry) (entry : Entry) (given : SingleAnswer)
    → slice_get calls call ≡ Some (Single write) → Once log → Has log entry → entry.place ≡ first_place call
    → answer_by (written write).kind entry ≡ Some given → call_result calls call log ≡ Some (answer.Single given)
unfolding call_result
result_now calls call write log entry given at once has placed tells =
    ap (λ made. option_and_then (λ m. result_of m call log) made) at
    ∙ ap (spelled (written write).kind) (entry_found (first_place call) log entry once has placed)
    ∙ ap (option_map (λ found. answer.Single found)) tells

-- a call without an answer, whatever it added to the log
pub answered_none : (calls : List Call) (outcomes : List Outcome) (log more : List Entry) (last : Outcome) → result_ok last.result ≡ None
    → Answered calls outcomes log → Answered calls (outcomes ++ last ∷ []) (log ++ more)
answered_none calls outcomes log more last none answered = record {
  done = λ call given is. elim (answer_last outcomes last call given is) [
    | inl earlier ↦ done_left calls call log more (answered.done call given earlier)
    | inr now ↦ absurd (let e : ◌≡◌ {A = Option Answer} None (Some given) = sym none ∙ now.1 in cc)
  ];
  result = λ call given is. elim (answer_last outcomes last call given is) [
    | inl earlier ↦ result_left calls call log more given (answered.result call given earlier)
    | inr now ↦ absurd (let e : ◌≡◌ {A = Option Answer} None (Some given) = sym none ∙ now.1 in cc)
  ];
}

-- a call that answered, which is done, and whose answer the log spells
pub answered_with : (calls : List Call) (outcomes : List Outcome) (log more : List Entry) (given : Answer) (last : Outcome) → Done calls (length outcomes) (log ++ more)
    → call_result calls (length outcomes) (log ++ more) ≡ Some given → result_ok last.result ≡ Some given → Answered calls outcomes log → Answered calls (outcomes ++ last ∷ []) (log ++ more)
answered_with calls outcomes log more given last done_here result_here is_answer answered = record {
  done = λ call found is. elim (answer_last outcomes last call found is) [
    | inl earlier ↦ done_left calls call log more (answered.done call found earlier)
    | inr now ↦ subst (λ c. Done calls c (log ++ more)) (sym now.0) done_here
  ];
  result = λ call found is. elim (answer_last outcomes last call found is) [
    | inl earlier ↦ result_left calls call log more found (answered.result call found earlier)
    | inr now ↦ ap (λ c. call_result calls c (log ++ more)) now.0 ∙ result_here ∙ sym is_answer ∙ now.1
  ];
}

-- a single write that answered, whose entry stands
pub answered_more : (calls : List Call) (outcomes : List Outcome) (write : SingleWrite) (log more : List Entry) (entry : Entry) (given : SingleAnswer)
    (last : Outcome) → slice_get calls (length outcomes) ≡ Some (Single write) → Once (log ++ more) → Has (log ++ more) entry
    → entry.place ≡ first_place (length outcomes) → answer_by (written write).kind entry ≡ Some given
    → result_ok last.result ≡ Some (answer.Single given)
    → Answered calls outcomes log → Answered calls (outcomes ++ last ∷ []) (log ++ more)
answered_more calls outcomes write log more entry given last at once has placed tells is_answer answered =
    let n = length outcomes in
    answered_with calls outcomes log more (answer.Single given) last (done_now calls n write (log ++ more) entry at has placed)
    (result_now calls n write (log ++ more) entry given at once has placed tells) is_answer answered
