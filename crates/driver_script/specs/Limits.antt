-- How a script writes the limits of its server, and the setup that they make.
use Rattle.std.specs.Prelude.{ℤ, true, false, if◌then◌else◌, pos, [], ◌∷◌, Option, None, Some, unwrap_or}
use Rattle.std.specs.Option.{option_and_then, option_map}
use Rattle.driver_link.specs.declared.machine.Setup.{Setup}
use Rattle.script_parts.specs.declared.keys.TheConstants.{BATCH, BSON, MESSAGE, WIRE}
use Rattle.driver_script.specs.declared.limits.Limits.{Limits}
use Rattle.script_parts.specs.Json.{has_only, optional_part}
use Rattle.script_parts.specs.Values.{code_of, whole_of}
use Rattle.serde_json.specs.Data.{Data}

-- limits of which none is set
abbrev pub no_limits : Limits
no_limits = record { bson = None; message = None; batch = None; wire = None }

-- the limits that are set: the bytes of a document and of a message, the writes of a batch, and the wire version
abbrev pub limits_with : Option ℤ → Option ℤ → Option ℤ → Option ℤ → Limits
limits_with bson message batch wire = record { bson = bson; message = message; batch = batch; wire = wire }

-- the limits of a script's server: an object with those that are set, whole numbers of 64 bits with a sign, the wire version of 32
unfoldable pub limits_of : Data → Option Limits
limits_of d =
    if has_only (BSON.now ∷ MESSAGE.now ∷ BATCH.now ∷ WIRE.now ∷ []) d
    then option_and_then (λ bson. option_and_then (λ message. option_and_then (λ batch. option_map (limits_with bson message batch)
    (optional_part code_of WIRE.now d)) (optional_part whole_of BATCH.now d)) (optional_part whole_of MESSAGE.now d)) (optional_part whole_of BSON.now d)
    else None

-- the setup of a script's server with these limits, and with the usual ones for those that are not set
abbrev pub setup_with : Limits → Setup
setup_with limits = record {
  description = record {
    max_wire_version = Some (unwrap_or limits.wire (pos 25));
    max_bson_object_size = unwrap_or limits.bson (pos 16777216);
    max_message_size_bytes = unwrap_or limits.message (pos 48000000);
    max_write_batch_size = unwrap_or limits.batch (pos 100000);
    supports_sessions = true;
    supports_retryable_writes = true;
    sharded = false;
  };
  transactions = true;
  timeout_ms = Some 1800000;
}
