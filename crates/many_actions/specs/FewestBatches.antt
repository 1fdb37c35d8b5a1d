-- The batches of an insert that was answered Ok: their sends are a cut of the caller's list, and no cut that keeps to the limits
-- has fewer runs.
use Rattle.std.specs.Prelude.{◌≡◌, ℕ, ◌+◌, List, [], ◌∷◌, ◌++◌, length, map, Option, None, Some, Result, Ok, Err, ◌⊎◌}
use Rattle.bson_lite.specs.declared.bson.Bson.{Bson}
use Rattle.bson_lite.specs.declared.bson.ObjectId.{ObjectId}
use Rattle.bson_lite.specs.declared.document.Pair.{Pair}
use Rattle.bson_lite.specs.declared.namespace.Namespace.{Namespace}
use Rattle.bson_lite.specs.Spelling.{spelling}
use Rattle.driver_error.specs.declared.error.Error.{Error}
use Rattle.server_answers.specs.declared.results.InsertManyResult.{InsertManyResult}
use Rattle.driver_options.specs.declared.write_options.InsertManyOptions.{InsertManyOptions}
use Rattle.driver_batches.specs.Batches.{IsFewest}
use Rattle.driver_batches.specs.Sizes.{Fits}
use Rattle.driver_link.specs.declared.machine.Place.{Place}
use Rattle.driver_link.specs.declared.machine.Send.{Send}
use Rattle.driver_link.specs.Cases.{writes_of}
use Rattle.driver_link.specs.LinkState.{server_run}
use Rattle.driver_link.specs.ServerRun.{ServerRun}
use Rattle.write_ops.specs.InsertFronts.{insert_limits}
use Rattle.driver_attempt.specs.Moment.{Moment}
use Rattle.many_actions.specs.Batches.{places_from}
use Rattle.driver_inputs.specs.ManyInputs.{AreTwelve, with_ids}

-- the places of a send's writes
abbrev pub places_of : Send → List Place
places_of send = map (λ write. write.place) (writes_of send)

-- a send went out once or, the same again, twice, before later ones
abbrev pub GoesOut : Send → List Send → List Send → Type 0
GoesOut send later sends = (sends ≡ send ∷ later) ⊎ (sends ≡ send ∷ send ∷ later)

-- sends are those of the runs of a call's documents, in order and from an index on: each went out once or twice, with the places of
-- its run, and nothing else was sent
abbrev pub AreSendsOf : {W : Type 0} → ℕ → ℕ → List (List W) → List Send → Type 0
AreSendsOf call index [] sends = sends ≡ []
AreSendsOf call index (run ∷ runs) sends =
    (send : Send) × ((later : List Send) × ((places_of send ≡ places_from call index (length run))
    × (GoesOut send later sends × AreSendsOf call (index + length run) runs later)))

-- the sizes of documents in bytes, as they are sent with these ids
abbrev pub sent_sizes : List ObjectId → List (List (Pair Bson)) → List ℕ
sent_sizes ids documents = map (λ document. length (spelling document)) (with_ids ids documents)

-- what a call sent is a cut of its documents into runs that keep to the limits of the setup's connections, and no such cut has
-- fewer runs
pub record IsFewestCut (namespace : Namespace) (documents : List (List (Pair Bson))) (options : InsertManyOptions) (call : ℕ) (run run_now : ServerRun) : Type 0 where
  pub ids : List ObjectId
  pub twelve : AreTwelve ids
  pub each : length ids ≡ length documents
  pub runs : List (List ℕ)
  pub fewest : IsFewest (Fits (insert_limits namespace options run.setup.description)) (sent_sizes ids documents) runs
  pub sends : List Send
  pub gained : run_now.server.trace ≡ run.server.trace ++ sends
  pub are : AreSendsOf call 0 runs sends

-- so it is where the server is told
abbrev pub IsFewestCutWhereTold : Namespace → List (List (Pair Bson)) → InsertManyOptions → ℕ → Option ServerRun → Option ServerRun → Type 0
IsFewestCutWhereTold namespace documents options call None now = Unit {0}
IsFewestCutWhereTold namespace documents options call (Some run) None = ⊥
IsFewestCutWhereTold namespace documents options call (Some run) (Some run_now) = IsFewestCut namespace documents options call run run_now

-- an insert that is answered Ok was cut so
abbrev pub OkIsFewestCut : Moment → Moment → Namespace → List (List (Pair Bson)) → InsertManyOptions → ℕ → Result InsertManyResult Error → Type 0
OkIsFewestCut before now namespace documents options call (Ok output) =
    IsFewestCutWhereTold namespace documents options call (server_run before.link) (server_run now.link)
OkIsFewestCut before now namespace documents options call (Err error) = Unit {0}
