-- How the fields of a reply are read: what their values may be, and what a missing field stands for.
use Rattle.std.specs.Prelude.{◌≡◌, ℕ, ◌^◌, ℤ, pos, negsuc, List, [], ◌∷◌, Option, None, Some, Result, Ok, Err, unwrap_or, if◌then◌else◌}
use Rattle.std.specs.Option.{option_and_then, option_map}
use Rattle.bson_lite.specs.declared.bson.Bson.{Bson}
use Rattle.bson_lite.specs.declared.document.Pair.{Pair}
use Rattle.bson_lite.specs.Fields.{int_of}
use Rattle.bson_lite.specs.Ranges.{fits}
use Rattle.server_answers.specs.declared.command.CommandErrorBody.{CommandErrorBody}
use Rattle.wire_keys.specs.declared.keys.TheConstants.{CODE, ERROR_LABELS, ERROR_MESSAGE}
use Rattle.driver_link.specs.Commands.{needed, optional}
use Rattle.driver_link.specs.Values.{text_of, array_of}
use Rattle.driver_ops.specs.declared.keys.TheConstants.{BASE_BACKOFF, CODE_NAME}
use Rattle.driver_ops.specs.declared.reply_fields.Unread.{Unread}
use Rattle.driver_ops.specs.declared.reply_fields.Unread.TheVariants.{Memory, Wrong}

-- a whole number that has 32 bits
unfoldable pub small_of : Bson → Option ℤ
small_of value = option_and_then (λ number. if fits (2 ^ 31) number then Some number else None) (int_of value)

-- a number that is not negative
abbrev pub natural : ℤ → Option ℕ
natural (pos number) = Some number
natural (negsuc number) = None

-- a whole number that is not negative
unfoldable pub natural_of : Bson → Option ℕ
natural_of value = option_and_then natural (int_of value)

-- a text, which is empty where it is missing
unfoldable pub text_in : List ℕ → List (Pair Bson) → Option (List ℕ)
text_in key document = option_map (λ found. unwrap_or found []) (optional text_of key document)

-- values that are all texts
unfoldable pub texts_in : List Bson → Option (List (List ℕ))
texts_in [] = Some []
texts_in (value ∷ values) = option_and_then (λ text. option_map (λ rest. text ∷ rest) (texts_in values)) (text_of value)

-- an array of texts
unfoldable pub texts_of : Bson → Option (List (List ℕ))
texts_of value = option_and_then texts_in (array_of value)

-- the labels of a reply, which are none where they are missing
unfoldable pub labels_in : List (Pair Bson) → Option (List (List ℕ))
labels_in document = option_map (λ found. unwrap_or found []) (optional texts_of ERROR_LABELS.now document)

-- the error that the reply to a failed command spells: its code is needed
unfoldable pub command_error_in : List (Pair Bson) → Option CommandErrorBody
command_error_in document =
    option_and_then (λ code.
    option_and_then (λ name.
    option_and_then (λ message.
    option_and_then (λ backoff.
    option_map (λ labels. record {
      error_labels = labels;
      command_error = record { code = code; code_name = name; message = message; base_backoff = backoff };
    })
    (labels_in document))
    (optional natural_of BASE_BACKOFF.now document))
    (text_in ERROR_MESSAGE.now document))
    (text_in CODE_NAME.now document))
    (needed small_of CODE.now document)

-- what a reader of a field gives: the answer is what is given, and wrong where none is; want of memory says nothing
abbrev pub Gives : {A : Type 0} → Result A Unread → Option A → Type 0
Gives (Ok value) given = given ≡ Some value
Gives (Err Wrong) given = given ≡ None
Gives (Err Memory) given = Unit {0}
