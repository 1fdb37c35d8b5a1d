-- Replies as they are kept until they are spelled.
use Rattle.std.specs.Prelude.{ℤ, [], ◌∷◌}
use Rattle.bson_lite.specs.declared.bson.Bson as bson
use Rattle.wire_keys.specs.declared.keys.TheConstants.{N}
use Rattle.driver_link.specs.Cursors.{Reply}
use Rattle.driver_link.specs.Numbers.{field}
use Rattle.driver_link.specs.Replies.{done_field}
use Rattle.model_replies.specs.declared.kept_reply.Form.{Form}
use Rattle.model_replies.specs.declared.kept_reply.Form.TheVariants.{Whole, Counted}

-- the reply to inserts or deletes that all went well, by the number that they count together
abbrev pub counted_reply : ℤ → Reply
counted_reply n = done_field ∷ field N.now (bson.Int32 n) ∷ []

-- a reply by the form in which it is kept
abbrev pub reply_in_form : Form → Reply
reply_in_form (Whole document) = document
reply_in_form (Counted n) = counted_reply n
