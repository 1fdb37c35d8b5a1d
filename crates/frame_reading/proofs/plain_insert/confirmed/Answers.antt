-- The bytes are those of the guess.
use Rattle.std.proofs.Common.{refl, sym, ◌∙◌}
use Rattle.frame_reading.proofs.PlainBytes.{told_by_bytes}
use Rattle.frame_reading.proofs.plain_insert.confirmed.Goals as goal

pub returns-then-is_same : goal.returns-then-is_same
returns-then-is_same c = record {
  names = refl;
  is = told_by_bytes c.args.plain c.in_ok-bytes.bytes c.args.body.now c.in_ok-bytes.ensures.bytes (sym c.is_same.ensures ∙ c.if-is_same.true);
  sound = c.in_ok-bytes.ensures.sound;
}
