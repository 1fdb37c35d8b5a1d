-- What a single write does to what stands between operations, and the entry of one that was done.
use Rattle.std.proofs.Common.{◌≡◌, ℕ, ◌<◌, arith, List, [], ◌∷◌, refl, sym, ap, subst, ◌∙◌, inl, inr}
use Rattle.std.specs.Prelude.{ℤ, false, Option, None, Some, Result, Ok, Err, slice_get}
use Rattle.std.specs.Option.{option_map}
use Rattle.bson_lite.specs.Fields.{id_key, value_of}
use Rattle.driver_error.specs.declared.error.Error.{Error}
use Rattle.driver_link.specs.declared.machine.Entry.{Entry}
use Rattle.driver_link.specs.declared.machine.Place.{Place}
use Rattle.driver_link.specs.declared.machine.PlacedWrite.{PlacedWrite}
use Rattle.driver_link.specs.declared.machine.Send.{Send}
use Rattle.driver_link.specs.declared.machine.Written.{Written}
use Rattle.driver_link.specs.Cases.{body_writes}
use Rattle.driver_link.specs.LinkState.{server_run}
use Rattle.driver_link.specs.ServerRun.{ServerRun}
use Rattle.driver_link.specs.Settled.{Has}
use Rattle.driver_link.specs.Statements.{entry_of}
use Rattle.driver_session.specs.Pool.{Pool}
use Rattle.driver_ops.specs.Operations.{OperationSpec}
use Rattle.driver_ops.specs.Served.{AreEntries}
use Rattle.driver_ops.specs.Targets.{in_collection}
use Rattle.write_ops.specs.InsertSpec.{insert_spec}
use Rattle.statement_ops.specs.StatementSpec.{delete_spec, find_spec, update_spec}
use Rattle.driver_attempt.specs.Moment.{Moment}
use Rattle.driver_exec.specs.BetweenCalls.{MaySendPlaces}
use Rattle.driver_exec.specs.Keeping.{AreWritten, HasEntries, KeepsWhereTold, OkHasEntries, StandsAfter, StandsBefore}
use Rattle.driver_actions.specs.SingleCalls.{Made, Makes, Runs, Tells, first_place}
use Rattle.driver_actions.specs.SingleEntries.{HasOwnEntry, HasOwnEntryWhereTold, HasWritten, IsNewPlace, KeepsSingle, KeepsSingleWhereTold, MayWrite, OkHasEntry}
use Rattle.driver_actions.specs.Singles.{BecomesSingle}
use Rattle.driver_actions.specs.Below.{AllBelow}
use Rattle.driver_actions.proofs.CallSends.{mid_run, only_write, pool_kept}
use Rattle.driver_actions.proofs.OwnIds.{OnlyDrew}
use Rattle.driver_actions.proofs.CallWrites.WritesMade.{made_drew, made_left, made_own, unmade_drew_by}
use Rattle.driver_inputs.specs.declared.call.SingleAnswer.{SingleAnswer}
use Rattle.driver_inputs.specs.declared.call.SingleAnswer.TheVariants.{Deleted, Found, Inserted, Updated}
use Rattle.driver_inputs.specs.Calls.{IsOwn, answer_by}
use Rattle.driver_inputs.specs.Forms.{WriteForm, asked_in, deletes, finds, inserts, kind_in, updates, written_in}

-- a write in its place
abbrev pub placed_at : Place → Written → PlacedWrite
placed_at place sent = record { place = place; written = sent }

-- its place may be sent where it is new
pub may_send : (trace : List Send) (form : WriteForm) (place : Place) (sent : Written) → IsNewPlace trace place → MaySendPlaces trace (asked_in form place sent)
may_send trace form place sent new =
    let write = placed_at place sent in
    record {
      writes = tt;
      apart = λ i j one other at_i at_j same. (only_write write i one at_i).0 ∙ sym (only_write write j other at_j).0;
      new = λ earlier i j one other has stands also same. new earlier i one has stands (same ∙ ap (λ w. w.place) (only_write write j other also).1);
    }

-- so all stands before it
pub may_stand : (pool pool_now : Pool) (run : ServerRun) (form : WriteForm) (place : Place) (sent : Written) → MayWrite pool pool_now run place
    → StandsBefore pool pool_now run (asked_in form place sent)
may_stand pool pool_now run form place sent may =
    record { between = may.between; sound = may.sound; may_send = may_send run.server.trace form place sent may.new; apart = may.apart }

-- where all places are of earlier calls, the first place of a call is new
pub new_place : (made : ℕ) (trace : List Send) → AllBelow made trace → IsNewPlace trace (first_place made)
new_place made trace below = λ earlier at write has stands is.
    let before : write.place.call < made = below earlier at write has stands in
    let same : write.place.call ≡ made = ap (λ place. place.call) is in absurd (omega arith)

-- what stands after a write
written_after : (pool_now : Pool) (run run_now : ServerRun) (form : WriteForm) (place : Place) (sent : Written) → StandsAfter false pool_now run run_now (asked_in form place sent)
    → HasWritten pool_now run run_now place
written_after pool_now run run_now form place sent after = record {
  between = after.between;
  sound = after.sound;
  which = λ send has. elim (after.which send has) [
    | inl earlier ↦ inl earlier
    | inr later ↦ inr (λ at found stands. elim later [
      | inl same ↦ ap (λ w. w.place) (only_write (placed_at place sent) at found (ap (λ body. slice_get (body_writes body) at) (sym same) ∙ stands)).1
      | inr aside ↦ absurd aside
    ])
  ];
}

-- the one entry of a write
one_entry : (session : Option (List ℕ)) (number : Option ℤ) (write : PlacedWrite) (entries : List Entry) → AreEntries session number (write ∷ []) entries
    → (entry : Entry) × ((entries ≡ entry ∷ []) × (entry ≡ entry_of session number write entry.result))
one_entry session number write [] are = absurd are
one_entry session number write (entry ∷ []) are = (entry, (refl, are.0))
one_entry session number write (entry ∷ (other ∷ entries)) are = absurd are.1

-- an operation whose output is answered so, and whose one entry spells that answer
module _ {A : Type 0} (spec : OperationSpec A) (form : WriteForm) (answers : A → SingleAnswer) (mid now : Moment) (place : Place) (sent : Written) (own : IsOwn (written_in form) sent)
    (answer : SingleAnswer) (spells : (entry : Entry) (output : A) → entry.written ≡ sent → spec.output (entry ∷ []) output → answer_by (kind_in form) entry ≡ Some (answers output)) where
  has_own : (output : A) (log : List Entry) → answer ≡ answers output → HasEntries spec (asked_in form place sent) log output → HasOwnEntry (written_in form) place log answer
  has_own output log is has =
      let one = one_entry has.session has.number (placed_at place sent) has.entries has.are in
      let sent_is : one.0.written ≡ sent = ap (λ e. e.written) one.1.1 in
      record {
        entry = one.0;
        has = has.stand one.0 (subst (λ entries. Has entries one.0) (sym one.1.0) (inl refl));
        placed = ap (λ e. e.place) one.1.1;
        own = subst (IsOwn (written_in form)) (sym sent_is) own;
        tells = spells one.0 output sent_is (subst (λ entries. spec.output entries output) one.1.0 has.told) ∙ ap (λ a. Some a) (sym is);
      }

  -- the same where pool and server are told
  abbrev Told : Type 0
  Told = HasOwnEntryWhereTold (written_in form) answer mid.store.pool now.store.pool (server_run mid.link) (server_run now.link) place

  done_entry : (output : A) → answer ≡ answers output → OkHasEntries spec (asked_in form place sent) mid now (Ok output) → Told
  done_entry output is entries = of_told mid.store.pool now.store.pool (server_run mid.link) (server_run now.link) entries
    where
      of_told : (pool pool_now : Option Pool) (run run_now : Option ServerRun) → AreWritten spec (asked_in form place sent) output pool pool_now run run_now
          → HasOwnEntryWhereTold (written_in form) answer pool pool_now run run_now place
      of_told (Some pool) (Some pool_now) (Some run) (Some run_now) are = λ may. has_own output run_now.server.log is (are (may_stand pool pool_now run form place sent may))
      of_told None pool_now run run_now are = tt
      of_told (Some pool) None run run_now are = tt
      of_told (Some pool) (Some pool_now) None run_now are = tt
      of_told (Some pool) (Some pool_now) (Some run) None are = tt

  -- so one that was done has its entry
  pub runs_entry : (ended : Result A Error) → Runs spec (asked_in form place sent) place mid now ended → Tells answers ended (Ok answer) → Told
  runs_entry ended runs tells = by_executed runs.executed refl ended runs.becomes tells
    where
      by_executed : (executed : Result A Error) → runs.executed ≡ executed → (ended : Result A Error) → BecomesSingle executed ended → Tells answers ended (Ok answer) → Told
      by_executed (Ok output) is ended becomes tells =
          done_entry output (subst (λ e. Tells answers e (Ok answer)) becomes tells) (subst (OkHasEntries spec (asked_in form place sent) mid now) is runs.entries)
      by_executed (Err error) is (Ok done) becomes tells = absurd becomes
      by_executed (Err error) is (Err failed) becomes tells = absurd (let e : ◌≡◌ {A = Result SingleAnswer Error} (Ok answer) (Err failed) = tells in cc)

module _ (before now : Moment) (place : Place) where
  -- a write that was made keeps what stands
  made_keeps : (form : WriteForm) (result : Result SingleAnswer Error) → Made before now form place result → KeepsSingle before now place
  made_keeps form result made =
      let drew = made_drew form made in
      let mid = made.mid in
      subst (λ p. KeepsSingleWhereTold p now.store.pool (server_run before.link) (server_run now.link) place) (pool_kept before.store mid.store drew.draws)
      (subst (λ r. KeepsSingleWhereTold mid.store.pool now.store.pool r (server_run now.link) place) (mid_run before mid drew)
      (of_told mid.store.pool now.store.pool (server_run mid.link) (server_run now.link) (made_left form made).keeps))
    where
      of_told : (pool pool_now : Option Pool) (run run_now : Option ServerRun) → KeepsWhereTold false pool pool_now run run_now (asked_in form place made.sent)
          → KeepsSingleWhereTold pool pool_now run run_now place
      of_told (Some pool) (Some pool_now) (Some run) (Some run_now) keeps = λ may.
          written_after pool_now run run_now form place made.sent (keeps (may_stand pool pool_now run form place made.sent may))
      of_told None pool_now run run_now keeps = tt
      of_told (Some pool) None run run_now keeps = tt
      of_told (Some pool) (Some pool_now) None run_now keeps = tt
      of_told (Some pool) (Some pool_now) (Some run) None keeps = tt

  -- a write that was not made changed nothing that is told of pool and server
  unmade_keeps : OnlyDrew before now → KeepsSingle before now place
  unmade_keeps draws =
      subst (λ p. KeepsSingleWhereTold before.store.pool p (server_run before.link) (server_run now.link) place) (sym (pool_kept before.store now.store draws.draws))
      (subst (λ r. KeepsSingleWhereTold before.store.pool before.store.pool (server_run before.link) r place) (sym (mid_run before now draws)) (of_told before.store.pool (server_run before.link)))
    where
      of_told : (pool : Option Pool) (run : Option ServerRun) → KeepsSingleWhereTold pool pool run run place
      of_told None run = tt
      of_told (Some pool) None = tt
      of_told (Some pool) (Some run) = λ may. record { between = may.between; sound = may.sound; which = λ send has. inl has }

  -- so each single write keeps what stands
  pub makes_keeps : (form : WriteForm) (result : Result SingleAnswer Error) → Makes before now form place result → KeepsSingle before now place
  makes_keeps form (Ok answer) makes = made_keeps form (Ok answer) makes
  makes_keeps form (Err error) makes = elim makes [
    | inl unmade ↦ unmade_keeps (unmade_drew_by form before now error unmade.draws)
    | inr made ↦ made_keeps form (Err error) made
  ]

  -- the entry of a write that was done, told from the moment of its operation on
  mid_entry : (form : WriteForm) (answer : SingleAnswer) (made : Made before now form place (Ok answer))
      → HasOwnEntryWhereTold (written_in form) answer made.mid.store.pool now.store.pool (server_run made.mid.link) (server_run now.link) place
  mid_entry (inserts namespace document options) answer made =
      let run = made.runs in
      runs_entry (insert_spec (in_collection namespace) 0 (run.own ∷ []) options) (inserts namespace document options) (λ output. Inserted (record { inserted_id = run.own.id })) made.mid now place made.sent
      (made_own (inserts namespace document options) made) answer (λ entry output is tells.
      ap (λ sent. option_map (λ id. Inserted (record { inserted_id = id })) (value_of id_key sent.document)) (is ∙ run.sent_is)
      ∙ ap (option_map (λ id. Inserted (record { inserted_id = id }))) run.found) run.ended run.runs run.tells
  mid_entry (updates namespace filter change multi options) answer made =
      let run = made.runs in
      runs_entry (update_spec (in_collection namespace) filter change multi options) (updates namespace filter change multi options) (λ output. Updated output) made.mid now place made.sent
      (made_own (updates namespace filter change multi options) made) answer (λ entry output is tells. ap (option_map (λ result. Updated result)) tells) run.ended run.runs run.tells
  mid_entry (deletes namespace filter multi options) answer made =
      let run = made.runs in
      runs_entry (delete_spec (in_collection namespace) filter multi options) (deletes namespace filter multi options) (λ output. Deleted output) made.mid now place made.sent
      (made_own (deletes namespace filter multi options) made) answer (λ entry output is tells. ap (option_map (λ result. Deleted result)) tells) run.ended run.runs run.tells
  mid_entry (finds namespace filter modification options) answer made =
      let run = made.runs in
      runs_entry (find_spec (in_collection namespace) filter modification options) (finds namespace filter modification options) (λ output. Found output) made.mid now place made.sent
      (made_own (finds namespace filter modification options) made) answer (λ entry output is tells. ap (option_map (λ found. Found found)) tells) run.ended run.runs run.tells

  -- the same of each end
  pub makes_entry : (form : WriteForm) (result : Result SingleAnswer Error) → Makes before now form place result → OkHasEntry before now (written_in form) place result
  makes_entry form (Ok answer) made =
      let drew = made_drew form made in
      subst (λ p. HasOwnEntryWhereTold (written_in form) answer p now.store.pool (server_run before.link) (server_run now.link) place) (pool_kept before.store made.mid.store drew.draws)
      (subst (λ r. HasOwnEntryWhereTold (written_in form) answer made.mid.store.pool now.store.pool r (server_run now.link) place) (mid_run before made.mid drew) (mid_entry form answer made))
  makes_entry form (Err error) makes = tt

-- the entry, where pool and server are told to be these
pub entry_told : (place : Place) (store store_now : Option Pool) (link link_now : Option ServerRun) (pool pool_now : Pool) (run run_now : ServerRun) → store ≡ Some pool → store_now ≡ Some pool_now
    → link ≡ Some run → link_now ≡ Some run_now → (given : Written) (answer : SingleAnswer) → HasOwnEntryWhereTold given answer store store_now link link_now place → MayWrite pool pool_now run place
    → HasOwnEntry given place run_now.server.log answer
entry_told place store store_now link link_now pool pool_now run run_now pool_is pool_now_is run_is run_now_is given answer told may =
    subst (λ n. HasOwnEntryWhereTold given answer (Some pool) (Some pool_now) (Some run) n place) run_now_is
    (subst (λ r. HasOwnEntryWhereTold given answer (Some pool) (Some pool_now) r link_now place) run_is
    (subst (λ p. HasOwnEntryWhereTold given answer (Some pool) p link link_now place) pool_now_is
    (subst (λ p. HasOwnEntryWhereTold given answer p store_now link link_now place) pool_is told))) may
