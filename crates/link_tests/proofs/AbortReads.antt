-- The frame of a command that ends a transaction reads as a send.
use Rattle.std.proofs.Common.{◌≡◌, [], refl}
use Rattle.std.specs.Prelude.{ℤ, pos, true, Some}
use denote.Hole.Carrier.{out}
use Rattle.bson_lite.specs.declared.bson.Bson.{Bson}
use Rattle.bson_lite.specs.declared.bson.Bson as bson
use Rattle.bson_lite.specs.Spelling.{Spells}
use Rattle.wire_keys.specs.declared.keys.TheConstants.{ADMIN}
use Rattle.driver_link.specs.declared.machine.SendBody.TheVariants.{Abort}
use Rattle.driver_link.specs.Asking.{asks, asks_alone, asks_as, is_plain_one, may_go_to, spelled}
use Rattle.driver_link.specs.CommandNames.{command_named}
use Rattle.driver_link.specs.Commands.{flag_value, goes_to, needed, optional_value, sent_as}
use Rattle.driver_link.specs.Framed.{Framed}
use Rattle.driver_link.specs.Reads.{Reads}
use Rattle.driver_link.specs.Values.{int32_of}
use Rattle.driver_link.proofs.Forms.{text_is}
use Rattle.link_tests.specs.AbortFrame.{abort_body, abort_send}

int_is : (number : ℤ) → int32_of (bson.Int32 number) ≡ Some number
unfolding bson.out-Bson out
int_is number = refl

goes : goes_to ADMIN.now abort_body ≡ true
unfolding goes_to needed abort_body
goes = rw (text_is ADMIN.now) refl

plain : is_plain_one (bson.Int32 (pos 1)) ≡ true
unfolding is_plain_one
plain = rw (int_is (pos 1)) refl

asked : asks ADMIN.now abort_body [] [] ≡ Some Abort
unfolding asks command_named may_go_to asks_as asks_alone abort_body
asked = rw plain refl

sent : sent_as abort_body Abort ≡ Some abort_send
unfolding sent_as optional_value flag_value abort_body
sent = refl

spells : spelled ADMIN.now abort_body [] [] ≡ Some abort_send
unfolding spelled
spells = rw (goes, asked) sent

pub abort_reads : (frame : Framed) → frame.database ≡ ADMIN.now → Spells abort_body frame.body → frame.sequences ≡ [] → Reads frame [] abort_send
abort_reads frame database body sequences = record {
  body = abort_body;
  sequences = [];
  body_spelled = body;
  sequences_spelled = rw sequences tt;
  spelled = rw database spells;
}
