-- A command that ends a transaction, which tests send.
use Rattle.std.specs.Prelude.{pos, false, List, [], ◌∷◌, None}
use Rattle.bson_lite.specs.declared.bson.Bson.{Bson}
use Rattle.bson_lite.specs.declared.bson.Bson as bson
use Rattle.bson_lite.specs.declared.document.Pair.{Pair}
use Rattle.wire_keys.specs.declared.keys.TheConstants.{ABORT_TRANSACTION, ADMIN, DATABASE}
use Rattle.driver_link.specs.declared.machine.Send.{Send}
use Rattle.driver_link.specs.declared.machine.SendBody.TheVariants.{Abort}
use Rattle.driver_link.specs.Numbers.{field}

-- its body, without a session
unfoldable pub abort_body : List (Pair Bson)
abort_body = field ABORT_TRANSACTION.now (bson.Int32 (pos 1)) ∷ field DATABASE.now (bson.String ADMIN.now) ∷ []

-- the send that it is
abbrev pub abort_send : Send
abort_send = record { session = None; number = None; start = false; in_transaction = false; body = Abort }
