-- What a connection's limits leave for the writes of a command, and how many earlier builds took.
use Rattle.std.specs.Prelude.{ℕ, ◌-◌, ℤ, pos, negsuc, Option, None, Some}
use Rattle.driver_options.specs.declared.options.Description.{Description}
use Rattle.driver_batches.specs.declared.sizes.Limits.{Limits}
use Rattle.driver_ops.specs.declared.built_front.BuiltFront.{BuiltFront}

-- a limit as a number: one below 0 is 0, under which nothing goes out
abbrev pub limit_of : ℤ → ℕ
limit_of (pos limit) = limit
limit_of (negsuc below) = 0

-- of the longest message so many bytes are left for what stands around body and documents
abbrev pub bytes_around : ℕ
bytes_around = 1000

-- the limits of a connection for the documents of a command whose body has so many bytes; where body and what stands around it
-- are longer than a message, no byte is left
abbrev pub limits_for : Description → ℕ → Limits
limits_for description body = record {
  items = limit_of description.max_write_batch_size;
  bytes = limit_of description.max_message_size_bytes - bytes_around - body;
  each = limit_of description.max_bson_object_size;
}

-- how many writes earlier builds took, where there was one
abbrev pub built_count : Option BuiltFront → Option ℕ
built_count None = None
built_count (Some front) = Some front.count
