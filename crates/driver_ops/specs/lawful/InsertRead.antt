-- Replies that are read as done: bytes spell one document alone, and `ok` is 1 in a reply which says that its command was done.
use Rattle.std.proofs.Common.{◌≡◌, ℕ, Bool, true, false, List, refl, sym, ap, ◌∙◌}
use Rattle.std.specs.Prelude.{ℤ, pos, Option, None, Some, if◌then◌else◌}
use Rattle.std.specs.Option.{option_and_then}
use Rattle.std.specs.Ordering.{int_eq}
use Rattle.bson_lite.specs.declared.bson.Bson.{Bson}
use Rattle.bson_lite.specs.declared.document.Pair.{Pair}
use Rattle.bson_lite.specs.Fields.{int_of, value_of}
use Rattle.bson_lite.specs.Reading.{read}
use Rattle.bson_lite.specs.Spelling.{Spells}
use Rattle.bson_lite.proofs.Nested.{read_again}
use Rattle.server_answers.specs.declared.command.CommandErrorBody.{CommandErrorBody}
use Rattle.wire_keys.specs.declared.keys.TheConstants.{CLUSTER_TIME, OK}
use Rattle.driver_ops.specs.Inserts.{int_at, is_one}
use Rattle.driver_ops.specs.Readings.{command_error_in}
use Rattle.driver_ops.specs.Responses.{breaks, done, failed_with, has_time_form, missing_ok_text, odd_ok_text, odd_time_text, said, said_by, said_with}

-- bytes spell one document alone
pub spells_one : (a b : List (Pair Bson)) (bytes : List ℕ) → Spells a bytes → Spells b bytes → a ≡ b
spells_one a b bytes first second = cc (sym (read_again a first.has) ∙ ap read (sym first.is ∙ second.is) ∙ read_again b second.has)

-- the truth values differ
pub differ : ◌≡◌ {A = Bool} false true → ⊥
differ is = cc

-- a failure is none that is done
no_failure : (body : Option CommandErrorBody) → failed_with body ≡ done → ⊥
no_failure None is = cc
no_failure (Some body) is = cc

-- a reply which says that its command was done has `ok` 1
one_by : (one : Bool) (body : Option CommandErrorBody) → (if one then done else failed_with body) ≡ done → one ≡ true
one_by true body is = refl
one_by false body is = absurd (no_failure body is)

-- and whose form stands
one_in_form : (formed one : Bool) (body : Option CommandErrorBody) → (if formed then (if one then done else failed_with body) else breaks odd_time_text) ≡ done → one ≡ true
one_in_form true one body is = one_by one body is
one_in_form false one body is = absurd (let e : breaks odd_time_text ≡ done = is in cc)

-- the same by the number of `ok`
done_by : (ok : Option ℤ) (reply : List (Pair Bson)) → said_by ok reply ≡ done → is_one ok ≡ true
done_by None reply is = absurd (let e : breaks odd_ok_text ≡ done = is in cc)
done_by (Some number) reply is = one_in_form (has_time_form (value_of CLUSTER_TIME.now reply)) (int_eq number (pos 1)) (command_error_in reply) is

-- by its value
done_with : (value : Option Bson) (reply : List (Pair Bson)) → said_with value reply ≡ done → is_one (option_and_then int_of value) ≡ true
done_with None reply is = absurd (let e : breaks missing_ok_text ≡ done = is in cc)
done_with (Some value) reply is = done_by (int_of value) reply is

-- and by the reply
pub ok_is_one : (reply : List (Pair Bson)) → said reply ≡ done → is_one (int_at OK.now reply) ≡ true
unfolding said
ok_is_one reply is = done_with (value_of OK.now reply) reply is
