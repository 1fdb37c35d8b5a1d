-- How a script writes the options of its client, and the concerns of writes and reads.
use Rattle.std.specs.Prelude.{ℕ, Bool, if◌then◌else◌, List, [], ◌∷◌, Option, None, Some, bytes_eq}
use Rattle.std.specs.Option.{option_and_then, option_map}
use Rattle.driver_options.specs.declared.concerns.Acknowledgment.{Acknowledgment}
use Rattle.driver_options.specs.declared.concerns.Acknowledgment.TheVariants.{Custom, Majority, Nodes}
use Rattle.driver_options.specs.declared.concerns.ReadConcern.{ReadConcern}
use Rattle.driver_options.specs.declared.concerns.ReadConcernLevel.{ReadConcernLevel}
use Rattle.driver_options.specs.declared.concerns.ReadConcernLevel.TheVariants as levels
use Rattle.driver_options.specs.declared.concerns.WriteConcern.{WriteConcern}
use Rattle.driver_options.specs.declared.options.ClientOptions.{ClientOptions}
use Rattle.script_parts.specs.declared.keys.TheConstants.{AVAILABLE, JOURNAL, LINEARIZABLE, LOCAL, MAJORITY, READ_CONCERN, RETRY_WRITES, SNAPSHOT, W, W_TIMEOUT, WRITE_CONCERN}
use Rattle.script_parts.specs.Json.{has_only, optional_part}
use Rattle.script_parts.specs.Values.{small_of}
use Rattle.serde_json.specs.Data.{Data, boolean, number, string}

-- true or false
unfoldable pub flag_of : Data → Option Bool
flag_of (boolean flag) = Some flag
flag_of d = None

-- the servers that a text names to acknowledge a write: most of them, or those that are listed under it
unfoldable pub acknowledgment_named : List ℕ → Acknowledgment
acknowledgment_named name = if bytes_eq name MAJORITY.now then Majority else Custom name

-- the servers that acknowledge a write: so many, or those that a text names
unfoldable pub acknowledgment_of : Data → Option Acknowledgment
acknowledgment_of (number n) = option_map Nodes (small_of (number n))
acknowledgment_of (string name) = Some (acknowledgment_named name)
acknowledgment_of d = None

-- a write concern of these parts
abbrev pub write_concern_with : Option Acknowledgment → Option ℕ → Option Bool → WriteConcern
write_concern_with w w_timeout journal = record { w = w; w_timeout = w_timeout; journal = journal }

-- a write concern: an object with the parts that are set
unfoldable pub write_concern_of : Data → Option WriteConcern
write_concern_of d =
    if has_only (W.now ∷ W_TIMEOUT.now ∷ JOURNAL.now ∷ []) d
    then option_and_then (λ w. option_and_then (λ w_timeout. option_map (write_concern_with w w_timeout)
    (optional_part flag_of JOURNAL.now d)) (optional_part small_of W_TIMEOUT.now d)) (optional_part acknowledgment_of W.now d)
    else None

-- the level of a name, which is its own where it is none of the five that are known
unfoldable pub level_named : List ℕ → ReadConcernLevel
level_named name =
    if bytes_eq name LOCAL.now then levels.Local else (
    if bytes_eq name MAJORITY.now then levels.Majority else (
    if bytes_eq name LINEARIZABLE.now then levels.Linearizable else (
    if bytes_eq name AVAILABLE.now then levels.Available else (
    if bytes_eq name SNAPSHOT.now then levels.Snapshot else levels.Custom name))))

-- a read concern of a level
abbrev pub read_concern_with : ReadConcernLevel → ReadConcern
read_concern_with level = record { level = level }

-- a read concern: the name of its level
unfoldable pub read_concern_of : Data → Option ReadConcern
read_concern_of (string name) = Some (read_concern_with (level_named name))
read_concern_of d = None

-- the options of the first client, of which these are set
abbrev pub client_options_with : Option Bool → Option WriteConcern → Option ReadConcern → ClientOptions
client_options_with retry_writes write_concern read_concern = record {
  client_number = 1;
  retry_writes = retry_writes;
  read_concern = read_concern;
  write_concern = write_concern;
}

-- the options of a script's client: an object with those that are set
unfoldable pub client_options_of : Data → Option ClientOptions
client_options_of d =
    if has_only (RETRY_WRITES.now ∷ WRITE_CONCERN.now ∷ READ_CONCERN.now ∷ []) d
    then option_and_then (λ retry_writes. option_and_then (λ write_concern. option_map (client_options_with retry_writes write_concern)
    (optional_part read_concern_of READ_CONCERN.now d)) (optional_part write_concern_of WRITE_CONCERN.now d)) (optional_part flag_of RETRY_WRITES.now d)
    else None
