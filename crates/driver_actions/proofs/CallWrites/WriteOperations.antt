-- The operation of a single write: what it asks for, what it was made with, and what it came to.
use Rattle.std.proofs.Common.{◌≡◌, ℕ, suc, ◌+◌, ◌≤◌, List, [], ◌∷◌, refl, sym, ap, subst, arith}
use Rattle.std.specs.Prelude.{Bool, false, Option, None, Some, Result}
use Rattle.bson_lite.specs.declared.bson.Bson.{Bson}
use Rattle.bson_lite.specs.declared.document.Pair.{Pair}
use Rattle.bson_lite.specs.declared.namespace.Namespace.{Namespace}
use Rattle.bson_lite.specs.Fields.{id_key, value_of}
use Rattle.bson_lite.specs.Spelling.{Spells}
use Rattle.driver_error.specs.declared.error.Error.{Error}
use Rattle.server_answers.specs.declared.results.DeleteResult.{DeleteResult}
use Rattle.server_answers.specs.declared.results.InsertManyResult.{InsertManyResult}
use Rattle.server_answers.specs.declared.results.UpdateResult.{UpdateResult}
use Rattle.driver_options.specs.declared.find_options.FindAndModifyOptions.{FindAndModifyOptions}
use Rattle.driver_options.specs.declared.updates.Modification.{Modification}
use Rattle.driver_options.specs.declared.updates.UpdateOrReplace.{UpdateOrReplace}
use Rattle.driver_options.specs.declared.write_options.DeleteOptions.{DeleteOptions}
use Rattle.driver_options.specs.declared.write_options.InsertManyOptions.{InsertManyOptions}
use Rattle.driver_options.specs.declared.write_options.UpdateOptions.{UpdateOptions}
use Rattle.driver_link.specs.declared.machine.Place.{Place}
use Rattle.driver_link.specs.declared.machine.SendBody.{SendBody}
use Rattle.driver_ops.specs.declared.target.OperationTarget.{OperationTarget}
use Rattle.driver_ops.specs.OperationLaw.{NeverOpen}
use Rattle.driver_ops.specs.Operations.{AsksFor, HasBodies, IsFixed, OperationSpec, StaysFixed, batch_of}
use Rattle.driver_ops.specs.SendKinds.{SendKind, first}
use Rattle.driver_ops.specs.Targets.{in_collection}
use Rattle.write_ops.specs.declared.own_document.OwnDocument.{OwnDocument}
use Rattle.write_ops.specs.InsertSpec.{AsksInsert, insert_spec}
use Rattle.statement_ops.specs.StatementSpec.{delete_spec, find_spec, update_spec}
use Rattle.driver_attempt.specs.Causes.{end_of}
use Rattle.driver_attempt.specs.Executing.{Executes}
use Rattle.driver_attempt.specs.Moment.{Moment}
use Rattle.driver_exec.specs.Keeping.{KeepsInvariant, OkHasEntries}
use Rattle.driver_exec.specs.OperationCauses.{Caused}
use Rattle.driver_exec.specs.Resending.{SendsOneCommand}
use Rattle.driver_exec.proofs.WholeOperation.{executes_draws, executes_few, executes_lends}
use Rattle.driver_actions.specs.SingleCalls.{Made, Runs, Tells}
use Rattle.driver_actions.specs.Singles.{BecomesSingle}
use Rattle.driver_inputs.specs.declared.call.SingleAnswer.{SingleAnswer}
use Rattle.driver_inputs.specs.declared.call.SingleAnswer.TheVariants.{Deleted, Found, Updated}
use Rattle.driver_inputs.specs.Forms.{asked_in, deletes, finds, inserts, updates, written_in}
use Rattle.driver_inputs.specs.Inputs.{IsAccepted}

-- the one statement of an operation that was built with one stays
pub still_one : (old now : Option ℕ) → old ≡ Some 1 → StaysFixed old now → IsFixed now 1
still_one old None one stays = tt
still_one old (Some found) one stays = sym (subst (λ o. IsFixed o found) one (stays found refl))

-- and is the number that is fixed
pub still_fixed : (old now : Option ℕ) → old ≡ Some 1 → StaysFixed old now → now ≡ Some 1
still_fixed old None one stays = absurd (none_follows 1 (subst (λ o. IsFixed o (suc 1)) one (stays (suc 1) tt)))
  where
    none_follows : (n : ℕ) → n ≡ suc n → ⊥
    none_follows n is = omega arith
still_fixed old (Some found) one stays = ap (λ n. Some n) (still_one old (Some found) one stays)

-- two sends more than none are two
two_at_most : (from count : ℕ) → from ≡ 0 → count ≤ from + 2 → count ≤ 2
two_at_most from count none within = omega (arith, none, within)

-- an operation of one statement was run where it was executed, and this is its result in a single write's form
pub executed_runs : {A : Type 0} (spec : OperationSpec A) (which : SendKind) (asked : SendBody) (place : Place) (before now : Moment) (from count : ℕ) (fixed fixed_now : Option ℕ) (executed found ended : Result A Error)
    → which ≡ first → from ≡ 0 → fixed ≡ Some 1 → fixed_now ≡ Some 1 → AsksFor spec (batch_of (place ∷ []) 1) asked → (spec.paged ≡ false → NeverOpen spec)
    → Executes spec (batch_of (place ∷ []) 1) which before now from count fixed fixed_now executed
    → SendsOneCommand spec (batch_of (place ∷ []) 1) before now executed → Caused spec which fixed before now (end_of executed) → KeepsInvariant spec.paged before now asked
    → OkHasEntries spec asked before now executed → executed ≡ found → BecomesSingle found ended → Runs spec asked place before now ended
executed_runs spec which asked place before now from count fixed fixed_now executed found ended kind none one still asks alone executes one_command caused keeps entries is becomes = record {
  asks = asks;
  executed = executed;
  count = count;
  executes = subst (λ k. Executes spec (batch_of (place ∷ []) 1) k before now 0 count (Some 1) (Some 1) executed) kind
      (subst (λ n. Executes spec (batch_of (place ∷ []) 1) which before now n count (Some 1) (Some 1) executed) none
      (subst (λ o. Executes spec (batch_of (place ∷ []) 1) which before now from count o (Some 1) executed) one
      (subst (λ o. Executes spec (batch_of (place ∷ []) 1) which before now from count fixed o executed) still executes)));
  twice = two_at_most from count none (executes_few spec (batch_of (place ∷ []) 1) which before now from count fixed fixed_now executed executes);
  one_command = one_command;
  caused = subst (λ k. Caused spec k (Some 1) before now (end_of executed)) kind (subst (λ o. Caused spec which o before now (end_of executed)) one caused);
  becomes = subst (λ r. BecomesSingle r ended) (sym is) becomes;
  keeps = keeps;
  entries = entries;
  lent = executes_lends spec (batch_of (place ∷ []) 1) which before now from count fixed fixed_now executed alone executes;
  drawn = executes_draws spec (batch_of (place ∷ []) 1) which before now from count fixed fixed_now executed alone executes;
}

-- what holds of the parts that an insert was made with holds of those that it was made from
pub of_insert : {made target : OperationTarget} {at index : ℕ} {held own : List OwnDocument} {had options : InsertManyOptions}
    (P : OperationTarget → ℕ → List OwnDocument → InsertManyOptions → Type 0) → made ≡ target → at ≡ index → held ≡ own → had ≡ options → P made at held had → P target index own options
of_insert {made = made} {at = at} {index = index} {held = held} {own = own} {options = options} P is_target is_first is_own is_options holds =
    subst (λ t. P t index own options) is_target (subst (λ f. P made f own options) is_first (subst (λ d. P made at d options) is_own (subst (P made at held) is_options holds)))

-- the same of an update
pub of_update : {made target : OperationTarget} {held filter : List (Pair Bson)} {kept change : UpdateOrReplace} {all multi : Bool} {had options : UpdateOptions}
    (P : OperationTarget → List (Pair Bson) → UpdateOrReplace → Bool → UpdateOptions → Type 0) → made ≡ target → held ≡ filter → kept ≡ change → all ≡ multi → had ≡ options
    → P made held kept all had → P target filter change multi options
of_update {made = made} {held = held} {filter = filter} {kept = kept} {change = change} {all = all} {multi = multi} {options = options} P is_target is_filter is_change is_multi is_options holds =
    subst (λ t. P t filter change multi options) is_target (subst (λ f. P made f change multi options) is_filter (subst (λ c. P made held c multi options) is_change
    (subst (λ m. P made held kept m options) is_multi (subst (P made held kept all) is_options holds))))

-- of a delete
pub of_delete : {made target : OperationTarget} {held filter : List (Pair Bson)} {all multi : Bool} {had options : DeleteOptions}
    (P : OperationTarget → List (Pair Bson) → Bool → DeleteOptions → Type 0) → made ≡ target → held ≡ filter → all ≡ multi → had ≡ options → P made held all had → P target filter multi options
of_delete {made = made} {held = held} {filter = filter} {all = all} {multi = multi} {options = options} P is_target is_filter is_multi is_options holds =
    subst (λ t. P t filter multi options) is_target (subst (λ f. P made f multi options) is_filter (subst (λ m. P made held m options) is_multi (subst (P made held all) is_options holds)))

-- and of a findAndModify
pub of_find : {made target : OperationTarget} {held filter : List (Pair Bson)} {kept modification : Modification} {had options : FindAndModifyOptions}
    (P : OperationTarget → List (Pair Bson) → Modification → FindAndModifyOptions → Type 0) → made ≡ target → held ≡ filter → kept ≡ modification → had ≡ options
    → P made held kept had → P target filter modification options
of_find {made = made} {held = held} {filter = filter} {kept = kept} {modification = modification} {options = options} P is_target is_filter is_modification is_options holds =
    subst (λ t. P t filter modification options) is_target (subst (λ f. P made f modification options) is_filter (subst (λ m. P made held m options) is_modification (subst (P made held kept) is_options holds)))

-- the insert of a document with its id asks for the write of it
module _ (namespace : Namespace) (document sent : List (Pair Bson)) (options : InsertManyOptions) (place : Place) (own : OwnDocument) (spelled : Spells sent own.bytes)
    (found : value_of id_key sent ≡ Some own.id) where
  pub insert_asks : AsksInsert namespace (own ∷ []) options 1 (place ∷ []) (asked_in (inserts namespace document options) place (written_in (inserts namespace sent options)))
  insert_asks = record { documents = sent ∷ []; are_own = (spelled, found, tt); each_placed = refl; is = refl }

  pub insert_bodies : HasBodies (insert_spec (in_collection namespace) 0 (own ∷ []) options) (place ∷ [])
  insert_bodies = λ which statements command is.
      let asked = asked_in (inserts namespace document options) place (written_in (inserts namespace sent options)) in
      let one : statements ≡ 1 = (let some = is.some in let within = is.within in omega arith) in
      (asked, subst (λ n. AsksInsert namespace (own ∷ []) options n (place ∷ []) asked) (sym one) insert_asks)

  -- so does one that was made of these parts
  module _ {made : OperationTarget} {at : ℕ} {held : List OwnDocument} {had : InsertManyOptions} (is_target : made ≡ in_collection namespace) (is_first : at ≡ 0) (is_own : held ≡ own ∷ [])
      (is_options : had ≡ options) where
    pub insert_has : HasBodies (insert_spec made at held had) (place ∷ [])
    insert_has = of_insert (λ t f d o. HasBodies (insert_spec t f d o) (place ∷ [])) (sym is_target) (sym is_first) (sym is_own) (sym is_options) insert_bodies

    pub insert_ran : (before now : Moment) (ended : Result InsertManyResult Error)
        → ((asked : SendBody) → AsksFor (insert_spec made at held had) (batch_of (place ∷ []) 1) asked → Runs (insert_spec made at held had) asked place before now ended)
        → Runs (insert_spec (in_collection namespace) 0 (own ∷ []) options) (asked_in (inserts namespace document options) place (written_in (inserts namespace sent options))) place before now ended
    insert_ran before now ended runs =
        of_insert (λ t f d o. (asked : SendBody) → AsksFor (insert_spec t f d o) (batch_of (place ∷ []) 1) asked → Runs (insert_spec t f d o) asked place before now ended) is_target is_first is_own is_options
        runs (asked_in (inserts namespace document options) place (written_in (inserts namespace sent options))) insert_asks

-- an update asks for the write of its statement
module _ (namespace : Namespace) (filter : List (Pair Bson)) (change : UpdateOrReplace) (multi : Bool) (options : UpdateOptions) (place : Place) where
  abbrev update_asked : SendBody
  update_asked = asked_in (updates namespace filter change multi options) place (written_in (updates namespace filter change multi options))

  pub update_asks : AsksFor (update_spec (in_collection namespace) filter change multi options) (batch_of (place ∷ []) 1) update_asked
  update_asks = record { one = refl; place = place; alone = refl; is = refl }

  pub update_bodies : HasBodies (update_spec (in_collection namespace) filter change multi options) (place ∷ [])
  update_bodies = λ which statements command is.
      (update_asked, subst (λ n. AsksFor (update_spec (in_collection namespace) filter change multi options) (batch_of (place ∷ []) n) update_asked) (sym is.one) update_asks)

  -- the same of one that was made of these parts
  module _ {made : OperationTarget} {held : List (Pair Bson)} {kept : UpdateOrReplace} {all : Bool} {had : UpdateOptions} (is_target : made ≡ in_collection namespace) (is_filter : held ≡ filter) (is_change : kept ≡ change) (is_multi : all ≡ multi) (is_options : had ≡ options) where
    pub update_has : HasBodies (update_spec made held kept all had) (place ∷ [])
    update_has = of_update (λ t f c m o. HasBodies (update_spec t f c m o) (place ∷ [])) (sym is_target) (sym is_filter) (sym is_change) (sym is_multi) (sym is_options) update_bodies

    update_ran : (before now : Moment) (ended : Result UpdateResult Error)
        → ((asked : SendBody) → AsksFor (update_spec made held kept all had) (batch_of (place ∷ []) 1) asked → Runs (update_spec made held kept all had) asked place before now ended)
        → Runs (update_spec (in_collection namespace) filter change multi options) update_asked place before now ended
    update_ran before now ended runs =
        of_update (λ t f c m o. (asked : SendBody) → AsksFor (update_spec t f c m o) (batch_of (place ∷ []) 1) asked → Runs (update_spec t f c m o) asked place before now ended) is_target is_filter is_change is_multi is_options runs update_asked update_asks

    -- so it was made where it was run
    pub update_made : IsAccepted (updates namespace filter change multi options) → (before now : Moment) (ended : Result UpdateResult Error) (result : Result SingleAnswer Error)
        → ((asked : SendBody) → AsksFor (update_spec made held kept all had) (batch_of (place ∷ []) 1) asked → Runs (update_spec made held kept all had) asked place before now ended)
        → Tells (λ output. Updated output) ended result → Made before now (updates namespace filter change multi options) place result
    update_made accepted before now ended result runs tells =
        record { accepted = accepted; sent = written_in (updates namespace filter change multi options); mid = before; runs = record { same = refl; sent_is = refl; ended = ended; runs = update_ran before now ended runs; tells = tells } }

-- a delete
module _ (namespace : Namespace) (filter : List (Pair Bson)) (multi : Bool) (options : DeleteOptions) (place : Place) where
  abbrev delete_asked : SendBody
  delete_asked = asked_in (deletes namespace filter multi options) place (written_in (deletes namespace filter multi options))

  pub delete_asks : AsksFor (delete_spec (in_collection namespace) filter multi options) (batch_of (place ∷ []) 1) delete_asked
  delete_asks = record { one = refl; place = place; alone = refl; is = refl }

  pub delete_bodies : HasBodies (delete_spec (in_collection namespace) filter multi options) (place ∷ [])
  delete_bodies = λ which statements command is.
      (delete_asked, subst (λ n. AsksFor (delete_spec (in_collection namespace) filter multi options) (batch_of (place ∷ []) n) delete_asked) (sym is.one) delete_asks)

  -- the same of one that was made of these parts
  module _ {made : OperationTarget} {held : List (Pair Bson)} {all : Bool} {had : DeleteOptions} (is_target : made ≡ in_collection namespace) (is_filter : held ≡ filter) (is_multi : all ≡ multi) (is_options : had ≡ options) where
    pub delete_has : HasBodies (delete_spec made held all had) (place ∷ [])
    delete_has = of_delete (λ t f m o. HasBodies (delete_spec t f m o) (place ∷ [])) (sym is_target) (sym is_filter) (sym is_multi) (sym is_options) delete_bodies

    delete_ran : (before now : Moment) (ended : Result DeleteResult Error)
        → ((asked : SendBody) → AsksFor (delete_spec made held all had) (batch_of (place ∷ []) 1) asked → Runs (delete_spec made held all had) asked place before now ended)
        → Runs (delete_spec (in_collection namespace) filter multi options) delete_asked place before now ended
    delete_ran before now ended runs =
        of_delete (λ t f m o. (asked : SendBody) → AsksFor (delete_spec t f m o) (batch_of (place ∷ []) 1) asked → Runs (delete_spec t f m o) asked place before now ended) is_target is_filter is_multi is_options runs delete_asked delete_asks

    -- so it was made where it was run
    pub delete_made : IsAccepted (deletes namespace filter multi options) → (before now : Moment) (ended : Result DeleteResult Error) (result : Result SingleAnswer Error)
        → ((asked : SendBody) → AsksFor (delete_spec made held all had) (batch_of (place ∷ []) 1) asked → Runs (delete_spec made held all had) asked place before now ended)
        → Tells (λ output. Deleted output) ended result → Made before now (deletes namespace filter multi options) place result
    delete_made accepted before now ended result runs tells =
        record { accepted = accepted; sent = written_in (deletes namespace filter multi options); mid = before; runs = record { same = refl; sent_is = refl; ended = ended; runs = delete_ran before now ended runs; tells = tells } }

-- and a findAndModify that of its body
module _ (namespace : Namespace) (filter : List (Pair Bson)) (modification : Modification) (options : FindAndModifyOptions) (place : Place) where
  abbrev find_asked : SendBody
  find_asked = asked_in (finds namespace filter modification options) place (written_in (finds namespace filter modification options))

  pub find_asks : AsksFor (find_spec (in_collection namespace) filter modification options) (batch_of (place ∷ []) 1) find_asked
  find_asks = record { one = refl; place = place; alone = refl; is = refl }

  pub find_bodies : HasBodies (find_spec (in_collection namespace) filter modification options) (place ∷ [])
  find_bodies = λ which statements command is.
      (find_asked, subst (λ n. AsksFor (find_spec (in_collection namespace) filter modification options) (batch_of (place ∷ []) n) find_asked) (sym is.one) find_asks)

  -- the same of one that was made of these parts
  module _ {made : OperationTarget} {held : List (Pair Bson)} {kept : Modification} {had : FindAndModifyOptions} (is_target : made ≡ in_collection namespace) (is_filter : held ≡ filter) (is_modification : kept ≡ modification) (is_options : had ≡ options) where
    pub find_has : HasBodies (find_spec made held kept had) (place ∷ [])
    find_has = of_find (λ t f m o. HasBodies (find_spec t f m o) (place ∷ [])) (sym is_target) (sym is_filter) (sym is_modification) (sym is_options) find_bodies

    find_ran : (before now : Moment) (ended : Result (Option (List (Pair Bson))) Error)
        → ((asked : SendBody) → AsksFor (find_spec made held kept had) (batch_of (place ∷ []) 1) asked → Runs (find_spec made held kept had) asked place before now ended)
        → Runs (find_spec (in_collection namespace) filter modification options) find_asked place before now ended
    find_ran before now ended runs =
        of_find (λ t f m o. (asked : SendBody) → AsksFor (find_spec t f m o) (batch_of (place ∷ []) 1) asked → Runs (find_spec t f m o) asked place before now ended) is_target is_filter is_modification is_options runs find_asked find_asks

    -- so it was made where it was run
    pub find_made : IsAccepted (finds namespace filter modification options) → (before now : Moment) (ended : Result (Option (List (Pair Bson))) Error) (result : Result SingleAnswer Error)
        → ((asked : SendBody) → AsksFor (find_spec made held kept had) (batch_of (place ∷ []) 1) asked → Runs (find_spec made held kept had) asked place before now ended)
        → Tells (λ output. Found output) ended result → Made before now (finds namespace filter modification options) place result
    find_made accepted before now ended result runs tells =
        record { accepted = accepted; sent = written_in (finds namespace filter modification options); mid = before; runs = record { same = refl; sent_is = refl; ended = ended; runs = find_ran before now ended runs; tells = tells } }
