-- How many numbers of sessions an insert of many documents takes at most: one for each of its batches.
use Rattle.std.specs.Prelude.{ℕ, suc, ◌+◌, Bool, ◌&&◌, nat_lt, nat_le, List, [], ◌∷◌, length, map, Option, None, Some, is_some, if◌then◌else◌}
use Rattle.bson_lite.specs.declared.bson.Bson.{Bson}
use Rattle.bson_lite.specs.declared.document.Pair.{Pair}
use Rattle.bson_lite.specs.declared.namespace.Namespace.{Namespace}
use Rattle.bson_lite.specs.Fields.{id_key, value_of}
use Rattle.bson_lite.specs.Spelling.{spelling}
use Rattle.driver_options.specs.declared.write_options.InsertManyOptions.{InsertManyOptions}
use Rattle.driver_batches.specs.declared.sizes.Limits.{Limits}
use Rattle.driver_link.specs.declared.machine.Setup.{Setup}
use Rattle.driver_link.specs.ServerRun.{ServerRun}
use Rattle.write_ops.specs.InsertFronts.{insert_limits}

-- a document of this size goes into a run that has so many documents and bytes already
abbrev pub goes_in : Limits → ℕ → ℕ → ℕ → Bool
goes_in limits items bytes size = nat_lt items limits.items && (nat_le size limits.each && nat_le (bytes + size) limits.bytes)

-- how many runs documents of these sizes begin behind a run that has so many documents and bytes already: each goes into the run
-- before it, or where it does not begins another
abbrev pub runs_beside : Limits → ℕ → ℕ → List ℕ → ℕ
runs_beside limits items bytes [] = 0
runs_beside limits items bytes (size ∷ sizes) =
    if goes_in limits items bytes size then runs_beside limits (items + 1) (bytes + size) sizes else suc (runs_beside limits 1 size sizes)

-- into how many runs documents of these sizes are cut by limits, each run as long as it may be; a document that fits into no run
-- begins one all the same
abbrev pub runs_of : Limits → List ℕ → ℕ
runs_of limits [] = 0
runs_of limits (size ∷ sizes) = suc (runs_beside limits 1 size sizes)

-- the size of a document in bytes, as it is sent: where it has no id it gets one, which is an element of seventeen bytes
abbrev pub size_with_id : List (Pair Bson) → ℕ
size_with_id document = if is_some (value_of id_key document) then length (spelling document) else length (spelling document) + 17

-- the sizes of documents, as they are sent
unfoldable pub sizes_with_ids : List (List (Pair Bson)) → List ℕ
sizes_with_ids documents = map size_with_id documents

-- how many numbers an insert of documents of these sizes takes at most: one for each run by the limits of the setup's connections, and
-- where no setup is told one for each document
abbrev pub numbers_for : Option Setup → Namespace → InsertManyOptions → List ℕ → ℕ
numbers_for None namespace options sizes = length sizes
numbers_for (Some setup) namespace options sizes = runs_of (insert_limits namespace options setup.description) sizes

-- the setup of a server, where it is told
abbrev pub server_setup : Option ServerRun → Option Setup
server_setup None = None
server_setup (Some run) = Some run.setup

-- how many an insert of documents takes at most
abbrev pub many_numbers : Option Setup → Namespace → List (List (Pair Bson)) → InsertManyOptions → ℕ
many_numbers setup namespace documents options = numbers_for setup namespace options (sizes_with_ids documents)
