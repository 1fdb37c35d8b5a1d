-- A valid insert of many documents whose part of the schedule is gentle ends well.
use Rattle.std.proofs.Common.{◌≡◌, ℕ, suc, ◌+◌, Bool, true, false, List, [], ◌∷◌, length, refl, sym, ap, subst, ◌∙◌, inl, inr}
use Rattle.std.specs.Prelude.{pos, ◌≤ℤ◌, Option, None, Some, IfSome, Result, Ok, Err}
use Rattle.bson_lite.specs.declared.bson.Bson.{Bson}
use Rattle.bson_lite.specs.declared.bson.ObjectId.{ObjectId}
use Rattle.bson_lite.specs.declared.document.Pair.{Pair}
use Rattle.bson_lite.specs.declared.fault.EncodeFault.{EncodeFault}
use Rattle.bson_lite.specs.declared.namespace.Namespace.{Namespace}
use Rattle.bson_lite.specs.Spelling.{spelling}
use Rattle.driver_error.specs.declared.error.Error.{Error}
use Rattle.driver_error.specs.declared.kind.ErrorKind.TheVariants as kind
use Rattle.server_answers.specs.declared.results.InsertManyResult.{InsertManyResult}
use Rattle.driver_error.specs.Error.{ErrorKind, kind_of}
use Rattle.driver_options.specs.declared.write_options.InsertManyOptions.{InsertManyOptions}
use Rattle.driver_batches.specs.Sizes.{Fits}
use Rattle.driver_link.specs.declared.machine.Setup.{Setup}
use Rattle.driver_link.specs.LinkState.{server_run, setup_of}
use Rattle.driver_link.specs.ServerRun.{ServerRun}
use Rattle.driver_link.proofs.ToldSetups.{served_setup}
use Rattle.driver_session.specs.Pool.{Pool}
use Rattle.driver_session.specs.Session.{last_number}
use Rattle.driver_session.specs.StoreTells.{DrawnApartIn}
use Rattle.driver_ops.specs.declared.target.OperationTarget.{OperationTarget}
use Rattle.driver_ops.specs.Targets.{namespace_of}
use Rattle.write_ops.specs.InsertFronts.{sizes_of}
use Rattle.driver_attempt.specs.Moment.{Moment}
use Rattle.driver_exec.specs.Gentle.{EndsWell}
use Rattle.driver_exec.proofs.Moments.{before_refl}
use Rattle.many_actions.specs.declared.gathered.Gathered.{Gathered}
use Rattle.many_actions.specs.Batches.{BatchEnd, is_of_documents, tells_documents}
use Rattle.many_actions.specs.ManyAnswers.{AllOfDocuments, AnswersMany, EndsAlone, count_of, gathered, nothing_gathered, with_result}
use Rattle.many_actions.specs.ManyCalls.{MadeMany, MakesMany, RanShort}
use Rattle.many_actions.specs.ManyCompleteness.{CompletesMany, EachFitsAlone, InsertsHaveNumbers, IsGentleCallPart, IsGentleCallWhereTold, IsValidMany, MayCompleteCall, MayCompleteCallWhereTold, ServesInserts}
use Rattle.many_actions.specs.Numbers.{many_numbers, numbers_for}
use Rattle.many_actions.proofs.BatchFit.{FitsOne, setup_limits}
use Rattle.many_actions.proofs.BatchWrites.{EachIs}
use Rattle.many_actions.proofs.BatchesWell.{AllWell, batches_well}
use Rattle.many_actions.proofs.ManyMade.{IsGiven, made_drew, sent, sent_each}
use Rattle.many_actions.proofs.ManyNumbers.{made_sizes}
use Rattle.driver_inputs.specs.ManyInputs.{AreTwelve, IsManyAccepted, ManyInputRefused, TellsManyInput}

-- ids of twelve bytes, as many as documents
some_ids : List (List (Pair Bson)) → List ObjectId
some_ids [] = []
some_ids (document ∷ documents) = record { bytes = 0 ∷ 0 ∷ 0 ∷ 0 ∷ 0 ∷ 0 ∷ 0 ∷ 0 ∷ 0 ∷ 0 ∷ 0 ∷ 0 ∷ [] } ∷ some_ids documents

ids_many : (documents : List (List (Pair Bson))) → length (some_ids documents) ≡ length documents
unfolding some_ids
ids_many [] = refl
ids_many (document ∷ documents) = ap suc (ids_many documents)

ids_twelve : (documents : List (List (Pair Bson))) → AreTwelve (some_ids documents)
unfolding some_ids
ids_twelve [] = tt
ids_twelve (document ∷ documents) = (refl, ids_twelve documents)

-- an accepted input is refused with no kind of error
accepted_many : (namespace : Namespace) (documents : List (List (Pair Bson))) (options : InsertManyOptions) (why : ErrorKind) → IsManyAccepted namespace documents options
    → ManyInputRefused namespace documents options why → ⊥
accepted_many namespace documents options (kind.InvalidArgument message) accepted refused =
    let e : ◌≡◌ {A = Option (List ℕ)} None (Some message) = sym accepted.arguments ∙ refused in cc
accepted_many namespace documents options (kind.BsonSerialization fault) accepted refused =
    let ids = some_ids documents in
    let e : ◌≡◌ {A = Option EncodeFault} None (Some fault)
    = sym (accepted.values ids (ids_many documents) (ids_twelve documents)) ∙ refused.1 ids (ids_many documents) (ids_twelve documents) in
    cc
accepted_many namespace documents options _ accepted refused = refused

-- so one that tells of its input tells of want of memory
accepted_memory : (namespace : Namespace) (documents : List (List (Pair Bson))) (options : InsertManyOptions) (error : Error) → IsManyAccepted namespace documents options
    → TellsManyInput namespace documents options error → kind_of error ≡ kind.Memory
accepted_memory namespace documents options error accepted tells = elim tells [
  | inl memory ↦ memory.kind_is
  | inr input ↦ absurd (accepted_many namespace documents options input.why accepted input.refused)
]

-- an end that is well, and of documents, is Ok
ok_of_well : (result : Result InsertManyResult Error) → EndsWell result → is_of_documents result ≡ true → (output : InsertManyResult) × (result ≡ Ok output)
ok_of_well (Ok output) well of_documents = (output, refl)
ok_of_well (Err error) well of_documents = absurd (let e : false ≡ true = ap tells_documents (sym well) ∙ of_documents in cc)

-- so nothing failed
none_failed : (ends : List BatchEnd) (so_far : Gathered) → AllWell ends → AllOfDocuments ends → so_far.failed ≡ false → (gathered so_far ends).failed ≡ false
none_failed [] so_far well of_documents unfailed = unfailed
none_failed (end ∷ ends) so_far well of_documents unfailed =
    let ok = ok_of_well end.result well.0 of_documents.0 in
    none_failed ends (with_result so_far end.first (count_of end.statements) end.result) well.1 of_documents.1
    (ap (λ r. (with_result so_far end.first (count_of end.statements) r).failed) ok.1 ∙ unfailed)

-- the last one alone ended well
alone_well : (ends : List BatchEnd) (error : Error) → AllWell ends → EndsAlone ends error → kind_of error ≡ kind.Memory
alone_well [] error well alone = absurd alone
alone_well (end ∷ []) error well alone = subst EndsWell alone.0 well.0
alone_well (end ∷ (next ∷ ends)) error well alone = alone_well (next ∷ ends) error well.1 alone

-- where each batch ended well the call did
pub answers_well : (ends : List BatchEnd) (result : Result InsertManyResult Error) → AllWell ends → AnswersMany ends result → EndsWell result
answers_well ends (Ok output) well answers = tt
answers_well ends (Err error) well answers = elim answers [
  | inl memory ↦ memory
  | inr other ↦ elim other [
    | inl alone ↦ alone_well ends error well alone
    | inr told ↦
        let unfailed = none_failed ends nothing_gathered well told.0 refl in
        absurd (let e : ◌≡◌ {A = Bool} true false = sym told.1.0 ∙ unfailed in cc)
  ]
]

-- where a document of a call is that of the caller with an id, it fits alone as the caller's does
sent_fits : (target : OperationTarget) (documents : List (List (Pair Bson))) (options : InsertManyOptions) (setup : Setup) → EachFitsAlone setup.description (namespace_of target) documents options
    → (made : List (List (Pair Bson))) → EachIs (IsGiven documents) 0 made → EachIs (FitsOne target options setup) 0 made
sent_fits target documents options setup fits made each at document is =
    let given = each at document is in
    subst (λ d. Fits (setup_limits target options setup) (length (spelling d) ∷ [])) (sym given.gets.is) (fits (0 + at) given.given given.stands given.gets.id given.gets.twelve)

module _ (before now : Moment) (target : OperationTarget) (documents : List (List (Pair Bson))) (options : InsertManyOptions) (call : ℕ) where
  -- over what is told
  module _ (result : Result InsertManyResult Error) (made : MadeMany before now target documents options call result) (most : ℕ) (valid : IsValidMany most before.client.options (setup_of before.link) target documents options) where
    told_well : (pool pool_now : Pool) (run last : ServerRun) → before.store.pool ≡ Some pool → now.store.pool ≡ Some pool_now → server_run before.link ≡ Some run → server_run now.link ≡ Some last
        → MayCompleteCall most pool pool_now run call → IsGentleCallPart (λ send. ServesInserts) (λ send. InsertsHaveNumbers before.client.options (setup_of before.link)) run last → AllWell made.ends
    told_well pool pool_now run last pool_is pool_now_is run_is last_is may gentle =
        let sent_now = sent before now target documents options call result made in
        let setup_is : setup_of before.link ≡ Some run.setup = served_setup before.link.making run run_is in
        let fits : EachFitsAlone run.setup.description (namespace_of target) documents options
        = subst (λ s. IfSome s (λ found. EachFitsAlone found.description (namespace_of target) documents options)) setup_is valid.fits in
        let part : IsGentleCallPart (λ send. ServesInserts) (λ send. InsertsHaveNumbers before.client.options (Some run.setup)) run last
        = subst (λ s. IsGentleCallPart (λ send. ServesInserts) (λ send. InsertsHaveNumbers before.client.options s) run last) setup_is gentle in
        let drew = made_drew before now target documents options call result made in
        let within : pos (most + many_numbers (Some run.setup) (namespace_of target) documents options) ≤ℤ last_number
        = subst (λ s. pos (most + many_numbers s (namespace_of target) documents options) ≤ℤ last_number) setup_is valid.numbers in
        let enough : pos (most + numbers_for (Some run.setup) (namespace_of target) options (sizes_of made.own)) ≤ℤ last_number
        = subst (λ sizes. pos (most + numbers_for (Some run.setup) (namespace_of target) options sizes) ≤ℤ last_number)
        (sym (made_sizes before now target documents options call result made)) within in
        batches_well target options call before.client.options run.setup valid.concerned valid.command run last part (RanShort result) made.ends 0 sent_now made.own made.owns.are_own
        (sent_fits target documents options run.setup fits sent_now (sent_each before now target documents options call result made)) made.mid now
        (ap (λ moment. moment.client.options) made.rest) (ap (λ moment. setup_of moment.link) made.rest ∙ setup_is) pool run (drew.pool ∙ pool_is)
        (ap (λ moment. server_run moment.link) made.rest ∙ run_is) last_is may.writes.between may.writes.sound
        (λ earlier at write has stands of_call. absurd (may.writes.new earlier at write has stands of_call)) (subst DrawnApartIn (sym pool_now_is) may.writes.apart) most may.numbers enough
        (before_refl run) made.batches

    -- so it is, whatever is told
    each_well : (store store_now : Option Pool) (link link_now : Option ServerRun) → before.store.pool ≡ store → now.store.pool ≡ store_now → server_run before.link ≡ link → server_run now.link ≡ link_now
        → MayCompleteCallWhereTold most store store_now link call → IsGentleCallWhereTold (λ send. ServesInserts) (λ send. InsertsHaveNumbers before.client.options (setup_of before.link)) link link_now → AllWell made.ends
    each_well None store_now link link_now pool_is pool_now_is run_is last_is may gentle = absurd may
    each_well (Some pool) None link link_now pool_is pool_now_is run_is last_is may gentle = absurd may
    each_well (Some pool) (Some pool_now) None link_now pool_is pool_now_is run_is last_is may gentle = absurd may
    each_well (Some pool) (Some pool_now) (Some run) None pool_is pool_now_is run_is last_is may gentle = absurd gentle
    each_well (Some pool) (Some pool_now) (Some run) (Some last) pool_is pool_now_is run_is last_is may gentle = told_well pool pool_now run last pool_is pool_now_is run_is last_is may gentle

  -- an insert of many documents ends well where it is valid and its part is gentle
  pub many_complete : (result : Result InsertManyResult Error) → MakesMany before now target documents options call result → CompletesMany before now target documents options call result
  many_complete (Ok output) made most may valid gentle = tt
  many_complete (Err error) makes most may valid gentle = elim makes [
    | inl unmade ↦ accepted_memory (namespace_of target) documents options error valid.accepted unmade.why
    | inr made ↦
        answers_well made.ends (Err error)
        (each_well (Err error) made most valid before.store.pool now.store.pool (server_run before.link) (server_run now.link) refl refl refl refl may gentle) made.answers
  ]
