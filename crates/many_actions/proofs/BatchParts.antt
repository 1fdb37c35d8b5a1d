-- One batch of an insert: what its operation was made of, what it came to, and what is gathered of it.
use Rattle.std.proofs.Common.{◌≡◌, ℕ, ◌<◌, List, [], ◌∷◌, drop, length, refl, sym, ap, subst, ◌∙◌, inl, inr, arith}
use Rattle.std.proofs.lemmas.List.{length-drop}
use Rattle.std.specs.Prelude.{Bool, true, false, Option, None, Some, IfSome, ◌⊎◌, Result, Ok, Err}
use Rattle.driver_error.specs.declared.error.Error.{Error}
use Rattle.driver_error.specs.declared.kind.ErrorKind.TheVariants as kind
use Rattle.server_answers.specs.declared.results.InsertManyResult.{InsertManyResult}
use Rattle.driver_error.specs.Error.{ErrorKind, kind_of}
use Rattle.driver_options.specs.declared.write_options.InsertManyOptions.{InsertManyOptions}
use Rattle.driver_link.specs.declared.machine.Place.{Place}
use Rattle.driver_ops.specs.declared.built_front.BuiltFront.{BuiltFront}
use Rattle.driver_ops.specs.declared.target.OperationTarget.{OperationTarget}
use Rattle.driver_ops.specs.Limits.{built_count}
use Rattle.driver_ops.specs.Inserts.{insert_is_ordered}
use Rattle.driver_ops.specs.Operations.{HasBodies, IsFixed, OperationSpec, batch_of}
use Rattle.driver_ops.specs.SendKinds as send
use Rattle.driver_ops.specs.SendKinds.{SendKind}
use Rattle.driver_ops.specs.Targets.{namespace_of}
use Rattle.write_ops.specs.declared.own_document.OwnDocument.{OwnDocument}
use Rattle.write_ops.specs.InsertSpec.{IsInsertCommand, insert_spec, statements_fixed}
use Rattle.write_ops.proofs.InsertCommand.{insert_bodies}
use Rattle.driver_attempt.specs.Causes.{end_of}
use Rattle.driver_attempt.specs.Executing.{Executes}
use Rattle.driver_attempt.specs.Moment.{Moment}
use Rattle.driver_attempt.proofs.CommandParts.{fixed_some}
use Rattle.driver_exec.specs.OperationCauses.{Caused}
use Rattle.driver_exec.specs.Reporting.{HasBuilt, HasRun}
use Rattle.driver_exec.specs.Resending.{IsReadFailure, SendsOneCommand}
use Rattle.driver_exec.proofs.WholeOperation.{executes_client}
use Rattle.many_actions.specs.declared.behind.Behind.{Behind}
use Rattle.many_actions.specs.declared.behind.Behind.TheVariants.{Next, Over, Stopped}
use Rattle.many_actions.specs.declared.gathered.Gathered.{Gathered}
use Rattle.many_actions.specs.Batches.{goes_on, insert_plan, is_of_documents, places_from, rest_of, tells_documents}
use Rattle.many_actions.specs.ManyAnswers.{with_result}
use Rattle.many_actions.specs.inside.Batches.{AreSpelled, BatchMade, ComesBehind, GathersBatch, IsCount, NextBehind, StepsWithin, StopsBatches}
use Rattle.many_actions.specs.inside.Taking.{StopsWith}
use Rattle.many_actions.proofs.BatchPlaces.{places_length}
use Rattle.driver_actions.proofs.CallWrites.WriteOperations.{of_insert}
use Rattle.many_actions.proofs.PlannedParts.{planned_made}

-- an error that tells of its documents is one that only a reply spells
read_documents : (why : ErrorKind) → tells_documents why ≡ true → IsReadFailure why
read_documents (kind.InsertMany failures) tells = tt
read_documents _ tells = absurd (let e : ◌≡◌ {A = Bool} false true = tells in cc)

-- an insert's command was built with a document at least
built_documents : (target : OperationTarget) (index : ℕ) (own : List OwnDocument) (options : InsertManyOptions) (before : Moment) (fixed fixed_now : Option ℕ) (count : ℕ)
    → HasBuilt (insert_spec target index own options) send.first before fixed fixed_now → IfSome fixed_now (λ statements. count ≡ statements) → IsCount own fixed_now count
built_documents target index own options before fixed fixed_now count built told =
    let same : count ≡ built.statements = subst (λ o. IfSome o (λ statements. count ≡ statements)) built.is told in
    let command : IsInsertCommand (namespace_of target) own options built.statements built.command = built.commanded in
    record {
      told = built.is ∙ ap (λ n. Some n) (sym same);
      some = (let some = command.some in omega (arith, some, same));
      within = (let within = command.within in omega (arith, within, same));
    }

-- so was that of a batch whose end is one of documents
counts_documents : (target : OperationTarget) (index : ℕ) (own : List OwnDocument) (options : InsertManyOptions) (before : Moment) (fixed fixed_now : Option ℕ) (count : ℕ)
    (came : Result InsertManyResult Error) → HasRun (insert_spec target index own options) send.first before fixed fixed_now came → IfSome fixed_now (λ statements. count ≡ statements)
    → is_of_documents came ≡ true → IsCount own fixed_now count
counts_documents target index own options before fixed fixed_now count (Ok output) ran told documents = built_documents target index own options before fixed fixed_now count ran told
counts_documents target index own options before fixed fixed_now count (Err error) ran told documents =
    built_documents target index own options before fixed fixed_now count (ran (read_documents (kind_of error) documents)) told

-- a batch was made where its operation was executed
module _ (target : OperationTarget) (options : InsertManyOptions) (call index : ℕ) (own : List OwnDocument) (before now : Moment) (sends : ℕ) (fixed_now : Option ℕ) (came : Result InsertManyResult Error)
    (executes : (statements : ℕ) → IsFixed fixed_now statements
    → Executes (insert_spec target index own options) (rest_of call index own statements) send.first before now 0 sends (statements_fixed own None) fixed_now came) where
  batch_of_parts : (count : ℕ) → 0 < length own
      → ((statements : ℕ) → IsFixed fixed_now statements → SendsOneCommand (insert_spec target index own options) (rest_of call index own statements) before now came)
      → Caused (insert_spec target index own options) send.first (statements_fixed own None) before now (end_of came)
      → HasRun (insert_spec target index own options) send.first before (statements_fixed own None) fixed_now came
      → IfSome fixed_now (λ statements. count ≡ statements) → BatchMade target options call index own before now count came
  batch_of_parts count left one_command caused ran told = record {
    end = record { first = index; statements = fixed_now; result = came };
    makes = planned_made (insert_plan target options) call index own before now sends fixed_now came executes left one_command caused;
    result_is = refl;
    counted = counts_documents target index own options before (statements_fixed own None) fixed_now count came ran told;
  }

-- what is told of an operation that was made of these parts
pub record BatchRan (target : OperationTarget) (index : ℕ) (own : List OwnDocument) (options : InsertManyOptions) (places : List Place) (before now : Moment) (from sends : ℕ) (built : Option BuiltFront) (fixed_now : Option ℕ) (came : Result InsertManyResult Error) : Type 0 where
  pub executes : (statements : ℕ) → IsFixed fixed_now statements
      → Executes (insert_spec target index own options) (batch_of places statements) send.first before now from sends (statements_fixed own (built_count built)) fixed_now came
  pub one_command : (statements : ℕ) → IsFixed fixed_now statements → SendsOneCommand (insert_spec target index own options) (batch_of places statements) before now came
  pub caused : Caused (insert_spec target index own options) send.first (statements_fixed own (built_count built)) before now (end_of came)
  pub ran : HasRun (insert_spec target index own options) send.first before (statements_fixed own (built_count built)) fixed_now came

-- the insert that was made of the parts of a batch
module _ {made target : OperationTarget} {at index : ℕ} {held own : List OwnDocument} {had options : InsertManyOptions} (is_target : made ≡ target) (is_index : at ≡ index) (is_own : held ≡ own) (is_options : had ≡ options) where
  -- it asks for something, for each command that it may build
  pub batch_has : (call : ℕ) (places : List Place) → AreSpelled own → places ≡ places_from call index (length own) → HasBodies (insert_spec made at held had) places
  batch_has call places spelled is_places =
      of_insert (λ t f d o. HasBodies (insert_spec t f d o) places) (sym is_target) (sym is_index) (sym is_own) (sym is_options)
      (insert_bodies target index own options spelled.documents places spelled.are_own (ap length is_places ∙ places_length call index (length own)))

  -- so the batch was made where it ran
  pub batch_made : (call : ℕ) (places : List Place) (before now : Moment) (from sends : ℕ) (built : Option BuiltFront) (fixed_now : Option ℕ) (came : Result InsertManyResult Error) (count : ℕ)
      → 0 < length own → places ≡ places_from call index (length own) → from ≡ 0 → built ≡ None → BatchRan made at held had places before now from sends built fixed_now came
      → IfSome fixed_now (λ statements. count ≡ statements) → BatchMade target options call index own before now count came
  batch_made call places before now from sends built fixed_now came count left is_places none unbuilt ran told =
      let here : BatchRan target index own options (places_from call index (length own)) before now 0 sends None fixed_now came =
      of_insert (λ t f d o. BatchRan t f d o (places_from call index (length own)) before now 0 sends None fixed_now came) is_target is_index is_own is_options
      (subst (λ p. BatchRan made at held had p before now 0 sends None fixed_now came) is_places
      (subst (λ n. BatchRan made at held had places before now n sends None fixed_now came) none
      (subst (λ b. BatchRan made at held had places before now from sends b fixed_now came) unbuilt ran))) in
      batch_of_parts target options call index own before now sends fixed_now came here.executes count left here.one_command here.caused here.ran told

-- an operation keeps the client
pub kept_client : {A : Type 0} {spec : OperationSpec A} {places : List Place} {which : SendKind} {before now : Moment} {from sends : ℕ} {fixed fixed_now : Option ℕ} {came : Result A Error}
    → ((statements : ℕ) → IsFixed fixed_now statements → Executes spec (batch_of places statements) which before now from sends fixed fixed_now came) → now.client ≡ before.client
kept_client {spec = spec} {places = places} {which = which} {before = before} {now = now} {from = from} {sends = sends} {fixed = fixed} {fixed_now = fixed_now} {came = came} executes =
    let some = fixed_some fixed_now in
    executes_client spec (batch_of places some.0) which before now from sends fixed fixed_now came (executes some.0 some.1)

-- an end that is not one of documents ends the call
alone_stops : (ordered : Bool) (came : Result InsertManyResult Error) → is_of_documents came ≡ false → goes_on ordered came ≡ false
alone_stops ordered (Ok output) other = absurd (let e : ◌≡◌ {A = Bool} true false = other in cc)
alone_stops true (Err error) other = refl
alone_stops false (Err error) other = other

-- a batch that was gathered
pub gathers : (target : OperationTarget) (options : InsertManyOptions) (call index : ℕ) (own : List OwnDocument) (before now : Moment) (so_far told : Gathered) (count : ℕ) (came : Result InsertManyResult Error) (on : Bool)
    → BatchMade target options call index (drop index own) before now count came → told ≡ with_result so_far index count came → is_of_documents came ≡ true → on ≡ goes_on (insert_is_ordered options) came
    → GathersBatch target options call index own before now so_far told on count
gathers target options call index own before now so_far told count came on made told_is documents goes = record {
  end = made.end;
  makes = made.makes;
  counted = made.counted documents;
  of_documents = ap is_of_documents made.result_is ∙ documents;
  told_is = told_is ∙ ap (with_result so_far index count) (sym made.result_is);
  goes = ap (goes_on (insert_is_ordered options)) made.result_is ∙ sym goes;
}

-- what comes behind it
pub comes_behind : (target : OperationTarget) (options : InsertManyOptions) (call index : ℕ) (own : List OwnDocument) (before now : Moment) (so_far told : Gathered) (on : Bool) (count : ℕ) (next : Behind)
    → NextBehind on count next → GathersBatch target options call index own before now so_far told on count → ComesBehind target options call index own before now so_far told next
comes_behind target options call index own before now so_far told on count (Next further) behind found =
    subst (GathersBatch target options call index own before now so_far told true) (sym behind.1)
    (subst (λ b. GathersBatch target options call index own before now so_far told b count) behind.0 found)
comes_behind target options call index own before now so_far told on count Over behind found =
    (count, subst (λ b. GathersBatch target options call index own before now so_far told b count) behind found)
comes_behind target options call index own before now so_far told on count (Stopped error) behind found = absurd behind

pub steps_behind : (index : ℕ) (own : List OwnDocument) (statements : Option ℕ) (on : Bool) (count : ℕ) (next : Behind) → index < length own → NextBehind on count next → IsCount (drop index own) statements count
    → StepsWithin index (length own) next
steps_behind index own statements on count (Next further) within behind counted =
    let some = counted.some in
    let few = counted.within in
    let same = behind.1 in
    (omega (arith, some, same), omega (arith, few, same, within, length-drop index own))
steps_behind index own statements on count Over within behind counted = tt
steps_behind index own statements on count (Stopped error) within behind counted = tt

-- a batch that ended its call, or behind which memory ran out
module _ (target : OperationTarget) (options : InsertManyOptions) (call index : ℕ) (own : List OwnDocument) (before now : Moment) (count : ℕ) (came : Result InsertManyResult Error)
    (made : BatchMade target options call index own before now count came) (error : Error) where
  -- one that is not of documents is the last
  stops_alone : is_of_documents came ≡ false → (kind_of error ≡ kind.Memory) ⊎ (came ≡ Err error) → StopsBatches target options call index own before now error
  stops_alone other why = record {
    ends = made.end ∷ [];
    makes = (now, (made.makes, inr (record { over = ap (goes_on (insert_is_ordered options)) made.result_is ∙ alone_stops (insert_is_ordered options) came other; none = refl; same = refl })));
    why = elim why [
      | inl memory ↦ inl memory
      | inr is ↦ inr (made.result_is ∙ is, ap is_of_documents made.result_is ∙ other)
    ];
  }

  -- behind one of documents memory ran out
  stops_short : (on : Bool) → goes_on (insert_is_ordered options) came ≡ on → is_of_documents came ≡ true → kind_of error ≡ kind.Memory → StopsBatches target options call index own before now error
  stops_short true on documents memory = record {
    ends = made.end ∷ [];
    makes = (
      now,
      (
        made.makes,
        inl (record {
          on = ap (goes_on (insert_is_ordered options)) made.result_is ∙ on;
          statements = count;
          told = (made.counted documents).told;
          rest = (refl, inr memory);
        }),
      ),
    );
    why = inl memory;
  }
  stops_short false on documents memory = record {
    ends = made.end ∷ [];
    makes = (now, (made.makes, inr (record { over = ap (goes_on (insert_is_ordered options)) made.result_is ∙ on; none = refl; same = refl })));
    why = inl memory;
  }

  stops_by : (documents : Bool) → is_of_documents came ≡ documents → (kind_of error ≡ kind.Memory) ⊎ ((came ≡ Err error) × (is_of_documents came ≡ false))
      → StopsBatches target options call index own before now error
  stops_by true is why = elim why [
    | inl memory ↦ stops_short (goes_on (insert_is_ordered options) came) refl is memory
    | inr alone ↦ absurd (let e : ◌≡◌ {A = Bool} true false = sym is ∙ alone.1 in cc)
  ]
  stops_by false is why = stops_alone is (elim why [ inl memory ↦ inl memory | inr alone ↦ inr alone.0 ])

  pub stops_batch : StopsWith came error → StopsBatches target options call index own before now error
  stops_batch why = stops_by (is_of_documents came) refl (elim why [ inl memory ↦ inl memory.kind_is | inr alone ↦ inr alone ])

-- memory ran out before a batch was made
pub stops_unmade : (target : OperationTarget) (options : InsertManyOptions) (call index : ℕ) (own : List OwnDocument) (before now : Moment) (error : Error) → now ≡ before → kind_of error ≡ kind.Memory
    → StopsBatches target options call index own before now error
stops_unmade target options call index own before now error same memory = record { ends = []; makes = (same, inr memory); why = inl memory }
