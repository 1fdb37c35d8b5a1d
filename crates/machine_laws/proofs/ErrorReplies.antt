-- Replies that spell an error, and when a send that is served is answered so.
use Rattle.std.proofs.Common.{◌≡◌, ◌≢◌, ℕ, ℤ, pos, Bool, true, false, List, [], ◌∷◌, ◌++◌, map, Option, None, Some, unwrap_or, refl, sym, ap, ◌∙◌, inl, inr, if◌then◌else◌}
use Rattle.std.specs.Prelude.{◌⊎◌, int_lt}
use denote.Hole.Carrier.{out}
use Rattle.bson_lite.specs.declared.bson.Bson.{Bson}
use Rattle.bson_lite.specs.declared.bson.Bson as bson
use Rattle.driver_error.specs.declared.labels.TheConstants.{TRANSIENT_TRANSACTION_ERROR}
use Rattle.driver_link.proofs.Forms.{array_is, text_is}
use Rattle.driver_link.proofs.Lists.{some_is_some}
use Rattle.driver_link.specs.Cases.{Case, too_old, of_cursor, denied, case_of, known_of, results_of}
use Rattle.driver_link.specs.Cursors.{Reply, results_left}
use Rattle.driver_link.specs.Exchange.{reauthentication_required}
use Rattle.driver_link.specs.Replies.{body_reply, concern_field, cursor_field, cursor_not_found, cursor_reply, denied_reply, done_field, end_reply, error_reply, kill_reply_of, needed_fields, no_such_transaction, page_reply_of, reply_in, served_reply, transaction_of, transaction_too_old, write_reply}
use Rattle.driver_link.specs.Serving.{Plan, done_in}
use Rattle.driver_link.specs.Sessions.{is_committed}
use Rattle.driver_link.specs.Values.{array_of, int32_of, text_of}
use Rattle.wire_keys.specs.declared.keys.TheConstants.{NEXT_BATCH}
use Rattle.driver_link.specs.declared.machine.PlannedConcern.{PlannedConcern}
use Rattle.driver_link.specs.declared.machine.Send.{Send}
use Rattle.driver_link.specs.declared.machine.SendBody.{SendBody}
use Rattle.driver_link.specs.declared.machine.SendBody.TheVariants.{Write, More, Kill}
use Rattle.driver_link.specs.declared.machine.Server.{Server}
use Rattle.driver_link.specs.declared.machine.ServerTransaction.{ServerTransaction}
use Rattle.driver_link.specs.declared.machine.Statement.{Statement}

-- the first number of a reply is above 0
abbrev is_above : Option ℤ → Bool
is_above None = false
is_above (Some number) = int_lt (pos 0) number

abbrev is_done : Reply → Bool
is_done [] = false
is_done (pair ∷ rest) = is_above (int32_of pair.value)

done_is : (rest : Reply) → is_done (done_field ∷ rest) ≡ true
unfolding bson.out-Bson out
done_is rest = refl

error_is : (code : ℤ) (labels : List (List ℕ)) → is_done (error_reply code labels) ≡ false
unfolding error_reply bson.out-Bson out
error_is code labels = refl

-- a reply that is done spells no error
no_error : (rest : Reply) (code : ℤ) (labels : List (List ℕ)) → done_field ∷ rest ≡ error_reply code labels → ⊥
no_error rest code labels is = let e : ◌≡◌ {A = Bool} true false = sym (done_is rest) ∙ ap is_done is ∙ error_is code labels in cc

-- the code of an error, and its labels as values
abbrev code_in : Reply → Option ℤ
code_in [] = None
code_in (ok ∷ []) = None
code_in (ok ∷ pair ∷ rest) = int32_of pair.value

abbrev labels_in : Reply → Option (List Bson)
labels_in [] = None
labels_in (ok ∷ []) = None
labels_in (ok ∷ code ∷ []) = None
labels_in (ok ∷ code ∷ message ∷ []) = None
labels_in (ok ∷ code ∷ message ∷ pair ∷ rest) = array_of pair.value

error_code : (code : ℤ) (labels : List (List ℕ)) → code_in (error_reply code labels) ≡ Some code
unfolding error_reply bson.out-Bson out
error_code code labels = refl

error_labels : (code : ℤ) (labels : List (List ℕ)) → labels_in (error_reply code labels) ≡ Some (map (λ label. bson.String label) labels)
unfolding error_reply
error_labels code labels = array_is (map (λ label. bson.String label) labels)

-- the texts of values
abbrev texts_of : List Bson → List (List ℕ)
texts_of [] = []
texts_of (value ∷ values) = unwrap_or (text_of value) [] ∷ texts_of values

texts_are : (labels : List (List ℕ)) → texts_of (map (λ label. bson.String label) labels) ≡ labels
texts_are [] = refl
texts_are (label ∷ labels) = λ i. unwrap_or (text_is label i) [] ∷ texts_are labels i

-- a reply spells one error alone
pub same_code : (code other : ℤ) (labels others : List (List ℕ)) → error_reply code labels ≡ error_reply other others → code ≡ other
same_code code other labels others is = some_is_some code other (sym (error_code code labels) ∙ ap code_in is ∙ error_code other others)

pub same_labels : (code other : ℤ) (labels others : List (List ℕ)) → error_reply code labels ≡ error_reply other others → labels ≡ others
same_labels code other labels others is =
    let values : map (λ label. bson.String label) labels ≡ map (λ label. bson.String label) others
    = some_is_some (map (λ label. bson.String label) labels) (map (λ label. bson.String label) others)
    (sym (error_labels code labels) ∙ ap labels_in is ∙ error_labels other others) in
    sym (texts_are labels) ∙ ap texts_of values ∙ texts_are others

-- an error without labels, whose code asks for no other authentication
pub record IsBare (code : ℤ) (labels : List (List ℕ)) : Type 0 where
  pub none : labels ≡ []
  pub other : code ≢ reauthentication_required

-- the labels of a send that was denied in a transaction
abbrev pub denied_labels : ServerTransaction → List (List ℕ)
denied_labels transaction = if is_committed transaction then [] else TRANSIENT_TRANSACTION_ERROR.now ∷ []

-- the error of a send that was denied in its transaction
pub record IsDenied (server : Server) (send : Send) (code : ℤ) (labels : List (List ℕ)) : Type 0 where
  pub is_denied : case_of server send ≡ denied
  pub are : labels ≡ denied_labels (transaction_of (known_of server send))
  pub other : code ≢ reauthentication_required

-- the codes of the machine's own errors
below_reauthentication : (code : ℤ) → int_lt code reauthentication_required ≡ true → code ≢ reauthentication_required
below_reauthentication code less same =
    let e : ◌≡◌ {A = Bool} true false = sym less ∙ ap (λ n. int_lt n reauthentication_required) same in cc

bare : (own code : ℤ) (labels : List (List ℕ)) → int_lt own reauthentication_required ≡ true → error_reply own [] ≡ error_reply code labels → IsBare code labels
bare own code labels less is = record {
  none = sym (same_labels own code [] labels is);
  other = λ same. below_reauthentication own less (same_code own code [] labels is ∙ same);
}

body_no_error : (body : SendBody) (plan : Plan) (cursors : List (Option (List Reply))) (done : List Statement) (code : ℤ) (labels : List (List ℕ))
    → body_reply body plan cursors done ≡ error_reply code labels → ⊥
unfolding write_reply end_reply
body_no_error (Write does ordered writes) plan cursors done code labels is =
    no_error (needed_fields does plan.page cursors writes done ++ concern_field plan.concern) code labels is
body_no_error other plan cursors done code labels is = no_error (concern_field plan.concern) code labels is

page_error : (concern : Option PlannedConcern) (left : Option (List Reply)) (code : ℤ) (labels : List (List ℕ)) → page_reply_of concern left ≡ error_reply code labels → IsBare code labels
page_error concern None code labels is = bare cursor_not_found code labels refl is
page_error concern (Some left) code labels is = absurd (no_error (cursor_field NEXT_BATCH.now 0 left ∷ concern_field concern) code labels is)

kill_error : (concern : Option PlannedConcern) (left : Option (List Reply)) (code : ℤ) (labels : List (List ℕ)) → kill_reply_of concern left ≡ error_reply code labels → IsBare code labels
kill_error concern None code labels is = bare cursor_not_found code labels refl is
kill_error concern (Some left) code labels is = absurd (no_error (concern_field concern) code labels is)

cursor_error : (body : SendBody) (concern : Option PlannedConcern) (cursors : List (Option (List Reply))) (code : ℤ) (labels : List (List ℕ))
    → cursor_reply body concern cursors ≡ error_reply code labels → IsBare code labels
unfolding cursor_reply end_reply
cursor_error (More cursor) concern cursors code labels is = page_error concern (results_left cursor cursors) code labels is
cursor_error (Kill cursor) concern cursors code labels is = kill_error concern (results_left cursor cursors) code labels is
cursor_error other concern cursors code labels is = absurd (no_error (concern_field concern) code labels is)

denied_error : (server : Server) (send : Send) (code : ℤ) (labels : List (List ℕ)) → case_of server send ≡ denied
    → denied_reply (transaction_of (known_of server send)) ≡ error_reply code labels → IsDenied server send code labels
unfolding denied_reply
denied_error server send code labels case_is is =
    let own : List (List ℕ) = denied_labels (transaction_of (known_of server send)) in record {
      is_denied = case_is;
      are = sym (same_labels no_such_transaction code own labels is);
      other = λ same. below_reauthentication no_such_transaction refl (same_code no_such_transaction code own labels is ∙ same);
    }

in_case : (case : Case) (plan : Plan) (done : List Statement) (server : Server) (send : Send) (code : ℤ) (labels : List (List ℕ)) → case_of server send ≡ case
    → reply_in case plan done server send ≡ error_reply code labels → IsBare code labels ⊎ IsDenied server send code labels
unfolding reply_in
in_case too_old plan done server send code labels case_is is = inl (bare transaction_too_old code labels refl is)
in_case denied plan done server send code labels case_is is = inr (denied_error server send code labels case_is is)
in_case of_cursor plan done server send code labels case_is is = inl (cursor_error send.body plan.concern server.cursors code labels is)
in_case other plan done server send code labels case_is is = absurd (body_no_error send.body plan server.cursors done code labels is)

-- a send that is served is answered by an error without labels, or it was denied in its transaction
pub served_error : (plan : Plan) (server : Server) (send : Send) (code : ℤ) (labels : List (List ℕ)) → served_reply plan server send ≡ error_reply code labels
    → IsBare code labels ⊎ IsDenied server send code labels
unfolding served_reply
served_error plan server send code labels is = in_case (case_of server send) plan (done_in (case_of server send) plan (results_of (known_of server send)) send.body) server send code labels refl is
