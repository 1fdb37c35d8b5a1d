-- Options of commands are no fields of commands of every kind.
use Rattle.std.proofs.Common.{ℕ, List, [], ◌∷◌, ◌++◌, refl, ◌∙◌}
use Rattle.std.specs.Prelude.{Option, None, Some}
use Rattle.bson_lite.specs.declared.bson.Bson.{Bson}
use Rattle.bson_lite.specs.declared.document.Pair.{Pair}
use Rattle.driver_ops.specs.declared.keys.TheConstants.{BYPASS_DOCUMENT_VALIDATION, COMMENT, LET}
use Rattle.driver_ops.specs.Fields.{IsPlain, LacksAll}
use Rattle.driver_ops.specs.OptionFields.{option_field}
use Rattle.driver_ops.proofs.Frames.{skips}

-- keys that neither of two bodies has
pub lacks_join : (keys : List (List ℕ)) (xs ys : List (Pair Bson)) → LacksAll keys xs → LacksAll keys ys → LacksAll keys (xs ++ ys)
lacks_join [] xs ys first second = tt
lacks_join (key ∷ keys) xs ys first second = (skips key xs ys first.0 ∙ second.0, lacks_join keys xs ys first.1 second.1)

-- options of commands are no fields of commands of every kind
pub plain_bypass : (value : Option Bson) → IsPlain (option_field BYPASS_DOCUMENT_VALIDATION.now value)
plain_bypass None = (refl, (refl, (refl, (refl, (refl, (refl, (refl, (refl, (refl, tt)))))))))
plain_bypass (Some value) = (refl, (refl, (refl, (refl, (refl, (refl, (refl, (refl, (refl, tt)))))))))

pub plain_let : (value : Option Bson) → IsPlain (option_field LET.now value)
plain_let None = (refl, (refl, (refl, (refl, (refl, (refl, (refl, (refl, (refl, tt)))))))))
plain_let (Some value) = (refl, (refl, (refl, (refl, (refl, (refl, (refl, (refl, (refl, tt)))))))))

pub plain_comment : (value : Option Bson) → IsPlain (option_field COMMENT.now value)
plain_comment None = (refl, (refl, (refl, (refl, (refl, (refl, (refl, (refl, (refl, tt)))))))))
plain_comment (Some value) = (refl, (refl, (refl, (refl, (refl, (refl, (refl, (refl, (refl, tt)))))))))
