-- A command of one statement asks for its write: an update's, a delete's.
use Rattle.std.proofs.Common.{◌≡◌, ℕ, ◌≤◌, List, [], ◌∷◌, ◌++◌, length, refl, Bool, subst, sym, arith}
use Rattle.std.specs.Prelude.{take, true, false, Option, None, Some, bytes_eq, if◌then◌else◌}
use Rattle.bson_lite.specs.declared.bson.Bson.{Bson}
use Rattle.bson_lite.specs.declared.bson.Bson as bson
use Rattle.bson_lite.specs.declared.document.Pair.{Pair}
use Rattle.bson_lite.specs.declared.namespace.Namespace.{Namespace}
use Rattle.bson_lite.specs.Fields.{value_of}
use Rattle.driver_options.specs.declared.updates.UpdateOrReplace.{UpdateOrReplace}
use Rattle.driver_options.specs.declared.write_options.DeleteOptions.{DeleteOptions}
use Rattle.driver_options.specs.declared.write_options.UpdateOptions.{UpdateOptions}
use Rattle.driver_link.specs.declared.command.CommandName.TheVariants as name
use Rattle.wire_keys.specs.declared.keys.TheConstants.{DELETE, DELETES, ORDERED, UPDATE, UPDATES}
use Rattle.driver_link.specs.declared.machine.Place.{Place}
use Rattle.driver_link.specs.declared.machine.SendBody.{SendBody}
use Rattle.driver_link.specs.declared.machine.SendBody.TheVariants.{Write}
use Rattle.driver_link.specs.declared.machine.SendCommand.{SendCommand}
use Rattle.driver_link.specs.declared.machine.SendCommand.TheVariants as command
use Rattle.driver_link.specs.declared.machine.WriteKind.{WriteKind}
use Rattle.driver_link.specs.declared.machine.WriteKind.TheVariants as kind
use Rattle.driver_link.specs.Asking.{asks, asks_alone, asks_as, asks_statements, asks_writes, may_go_to, target as target_of}
use Rattle.driver_link.specs.CommandNames.{command_named}
use Rattle.driver_link.specs.Commands.{needed}
use Rattle.driver_link.specs.Numbers.{field}
use Rattle.driver_link.specs.Reads.{SpellSequences}
use Rattle.driver_link.specs.Writes.{common_keys, documents_in, placed}
use Rattle.driver_link.proofs.Forms.{array_is, bool_is, document_is, text_is}
use Rattle.driver_ops.specs.declared.command.Command.{Command}
use Rattle.driver_ops.specs.declared.keys.TheConstants.{BYPASS_DOCUMENT_VALIDATION, COMMENT, LET}
use Rattle.driver_ops.specs.declared.target.OperationTarget.{OperationTarget}
use Rattle.driver_ops.specs.Fields.{AreCommon, IsPlain, LacksAll}
use Rattle.driver_ops.specs.OptionFields.{document_in, flag_of, option_field}
use Rattle.driver_ops.specs.Operations.{CommandAsks, IsBuilt}
use Rattle.driver_ops.specs.SendKinds.{SendKind}
use Rattle.driver_ops.specs.Targets.{namespace_of}
use Rattle.driver_ops.proofs.Frames.{skips}
use Rattle.driver_ops.proofs.PlainOptions.{lacks_join, plain_bypass, plain_comment, plain_let}
use Rattle.statement_ops.specs.Deleting.{delete_command, delete_statement}
use Rattle.statement_ops.specs.StatementSpec.{AsksStatement, IsStatementCommand, delete_spec, statement_write, update_spec}
use Rattle.statement_ops.specs.Updating.{update_command, update_head, update_statement}

missing : (value : Bson) → None ≡ Some value → ⊥
missing value is = cc

-- what a key has in a body it has in a longer one
pub stays : (key : List ℕ) (body fields : List (Pair Bson)) (value : Bson) → value_of key body ≡ Some value → value_of key (body ++ fields) ≡ Some value
stays key [] fields value is = absurd (missing value is)
stays key (pair ∷ body) fields value is = by_test (bytes_eq pair.key key) (stays key body fields value) is
  where
    by_test : (same : Bool) → (value_of key body ≡ Some value → value_of key (body ++ fields) ≡ Some value)
        → (if same then Some pair.value else value_of key body) ≡ Some value
        → (if same then Some pair.value else value_of key (body ++ fields)) ≡ Some value
    by_test true rest is = is
    by_test false rest is = rest is

-- nor the statements or the order
no_updates_bypass : (value : Option Bson) → LacksAll (UPDATES.now ∷ ORDERED.now ∷ []) (option_field BYPASS_DOCUMENT_VALIDATION.now value)
no_updates_bypass None = (refl, (refl, tt))
no_updates_bypass (Some value) = (refl, (refl, tt))

no_updates_let : (value : Option Bson) → LacksAll (UPDATES.now ∷ ORDERED.now ∷ []) (option_field LET.now value)
no_updates_let None = (refl, (refl, tt))
no_updates_let (Some value) = (refl, (refl, tt))

no_updates_comment : (value : Option Bson) → LacksAll (UPDATES.now ∷ ORDERED.now ∷ []) (option_field COMMENT.now value)
no_updates_comment None = (refl, (refl, tt))
no_updates_comment (Some value) = (refl, (refl, tt))

-- the front of an update's body
module _ (collection : List ℕ) (options : UpdateOptions) where
  abbrev bypass : List (Pair Bson)
  bypass = option_field BYPASS_DOCUMENT_VALIDATION.now (flag_of options.bypass_document_validation)

  abbrev let_vars : List (Pair Bson)
  let_vars = option_field LET.now (document_in options.let_vars)

  abbrev comment : List (Pair Bson)
  comment = option_field COMMENT.now options.comment

  abbrev named_one : List (Pair Bson)
  named_one = field UPDATE.now (bson.String collection) ∷ []

  head_lacks : (keys : List (List ℕ)) → LacksAll keys named_one → LacksAll keys bypass → LacksAll keys let_vars → LacksAll keys comment → LacksAll keys (update_head collection options)
  unfolding update_head
  head_lacks keys first second third fourth =
      lacks_join keys ((named_one ++ bypass) ++ let_vars) comment
      (lacks_join keys (named_one ++ bypass) let_vars (lacks_join keys named_one bypass first second) third) fourth

  head_plain : IsPlain (update_head collection options)
  head_plain = head_lacks common_keys (refl, (refl, (refl, (refl, (refl, (refl, (refl, (refl, (refl, tt))))))))) (plain_bypass (flag_of options.bypass_document_validation)) (plain_let (document_in options.let_vars)) (plain_comment options.comment)

  head_empty : LacksAll (UPDATES.now ∷ ORDERED.now ∷ []) (update_head collection options)
  head_empty = head_lacks (UPDATES.now ∷ ORDERED.now ∷ []) (refl, (refl, tt)) (no_updates_bypass (flag_of options.bypass_document_validation)) (no_updates_let (document_in options.let_vars))
      (no_updates_comment options.comment)

-- an update's body
module _ (namespace : Namespace) (statement : List (Pair Bson)) (options : UpdateOptions) where
  abbrev updates : List (Pair Bson)
  updates = field UPDATES.now (bson.Array (bson.Document statement ∷ [])) ∷ field ORDERED.now (bson.Boolean true) ∷ []

  update_plain : IsPlain (update_command namespace statement options)
  unfolding update_command
  update_plain = lacks_join common_keys (update_head namespace.coll options) updates (head_plain namespace.coll options) (refl, (refl, (refl, (refl, (refl, (refl, (refl, (refl, (refl, tt)))))))))

  update_has : (fields : List (Pair Bson)) → value_of UPDATES.now (update_command namespace statement options ++ fields) ≡ Some (bson.Array (bson.Document statement ∷ []))
  unfolding update_command
  update_has fields =
      stays UPDATES.now (update_head namespace.coll options ++ updates) fields _ (skips UPDATES.now (update_head namespace.coll options) updates (head_empty namespace.coll options).0)

  update_ordered : (fields : List (Pair Bson)) → value_of ORDERED.now (update_command namespace statement options ++ fields) ≡ Some (bson.Boolean true)
  unfolding update_command
  update_ordered fields =
      stays ORDERED.now (update_head namespace.coll options ++ updates) fields _ (skips ORDERED.now (update_head namespace.coll options) updates (head_empty namespace.coll options).1.0)

-- a body that updates asks for that
asks_first_update : (database collection : List ℕ) (fields statement : List (Pair Bson)) (place : Place)
    → value_of ORDERED.now (field UPDATE.now (bson.String collection) ∷ fields) ≡ Some (bson.Boolean true)
    → value_of UPDATES.now (field UPDATE.now (bson.String collection) ∷ fields) ≡ Some (bson.Array (bson.Document statement ∷ []))
    → asks database (field UPDATE.now (bson.String collection) ∷ fields) [] (place ∷ [])
    ≡ Some (Write command.Update true (statement_write kind.Update (record { db = database; coll = collection }) statement place ∷ []))
unfolding asks command_named may_go_to asks_as asks_alone target_of asks_statements asks_writes placed documents_in needed
asks_first_update database collection fields statement place ordered found =
    rw (text_is collection, ordered, bool_is true, found, array_is (bson.Document statement ∷ []), document_is statement)

asks_update : (namespace : Namespace) (statement : List (Pair Bson)) (options : UpdateOptions) (fields : List (Pair Bson)) (place : Place)
    → asks namespace.db (update_command namespace statement options ++ fields) [] (place ∷ [])
    ≡ Some (Write command.Update true (statement_write kind.Update namespace statement place ∷ []))
unfolding update_command update_head
asks_update namespace statement options fields place =
    asks_first_update namespace.db namespace.coll _ statement place (update_ordered namespace statement options fields) (update_has namespace statement options fields)

-- a body that deletes asks for that
asks_first_delete : (database collection : List ℕ) (fields statement : List (Pair Bson)) (place : Place)
    → value_of ORDERED.now (field DELETE.now (bson.String collection) ∷ fields) ≡ Some (bson.Boolean true)
    → value_of DELETES.now (field DELETE.now (bson.String collection) ∷ fields) ≡ Some (bson.Array (bson.Document statement ∷ []))
    → asks database (field DELETE.now (bson.String collection) ∷ fields) [] (place ∷ [])
    ≡ Some (Write command.Delete true (statement_write kind.Delete (record { db = database; coll = collection }) statement place ∷ []))
unfolding asks command_named may_go_to asks_as asks_alone target_of asks_statements asks_writes placed documents_in needed
asks_first_delete database collection fields statement place ordered found =
    rw (text_is collection, ordered, bool_is true, found, array_is (bson.Document statement ∷ []), document_is statement)

asks_delete : (namespace : Namespace) (statement : List (Pair Bson)) (options : DeleteOptions) (fields : List (Pair Bson)) (place : Place)
    → asks namespace.db (delete_command namespace statement options ++ fields) [] (place ∷ [])
    ≡ Some (Write command.Delete true (statement_write kind.Delete namespace statement place ∷ []))
unfolding delete_command
asks_delete namespace statement options fields place = asks_first_delete namespace.db namespace.coll _ statement place refl refl

delete_plain : (namespace : Namespace) (statement : List (Pair Bson)) (options : DeleteOptions) → IsPlain (delete_command namespace statement options)
unfolding delete_command
delete_plain namespace statement options =
    let first = field DELETE.now (bson.String namespace.coll) ∷ field DELETES.now (bson.Array (bson.Document statement ∷ [])) ∷ field ORDERED.now (bson.Boolean true) ∷ [] in
    let let_vars = option_field LET.now (document_in options.let_vars) in
    lacks_join common_keys (first ++ let_vars) (option_field COMMENT.now options.comment)
    (lacks_join common_keys first let_vars (refl, (refl, (refl, (refl, (refl, (refl, (refl, (refl, (refl, tt))))))))) (plain_let (document_in options.let_vars))) (plain_comment options.comment)

-- a command of one statement asks for its write
module _ (does : SendCommand) (change : WriteKind) (namespace : Namespace) (statement body : List (Pair Bson))
    (asks_one : (fields : List (Pair Bson)) → AreCommon fields → (place : Place)
    → asks namespace.db (body ++ fields) [] (place ∷ []) ≡ Some (Write does true (statement_write change namespace statement place ∷ [])))
    (made : Command) (is : IsStatementCommand namespace body 1 made) where
  pub asks_for : (places : List Place) (asked : SendBody) → AsksStatement does change namespace statement 1 places asked → CommandAsks made (take 1 places) asked
  asks_for places asked told = record {
    sequences = [];
    spelled = subst (SpellSequences []) (sym is.sequences) tt;
    asks = λ fields common. rw (is.database, is.body, told.alone, told.is) (asks_one fields common told.place);
  }

  pub within : (places : List Place) (asked : SendBody) → AsksStatement does change namespace statement 1 places asked → 1 ≤ length places
  within places asked told = subst (λ found. 1 ≤ length found) (sym told.alone) (omega arith)

-- such a command is an update's
pub built_update : (target : OperationTarget) (filter : List (Pair Bson)) (change : UpdateOrReplace) (multi : Bool) (options : UpdateOptions) (made : Command) (which : SendKind)
    → made.name ≡ name.Update
    → IsStatementCommand (namespace_of target) (update_command (namespace_of target) (update_statement filter change multi options) options) 1 made
    → IsBuilt (update_spec target filter change multi options) which 1 made
built_update target filter change multi options made which is_name is =
    let namespace = namespace_of target in
    let statement = update_statement filter change multi options in
    let body = update_command namespace statement options in
    record {
      name = is_name;
      is = is;
      plain = subst IsPlain (sym is.body) (update_plain namespace statement options);
      asks = asks_for command.Update kind.Update namespace statement body (λ fields common. asks_update namespace statement options fields) made is;
      within = within command.Update kind.Update namespace statement body (λ fields common. asks_update namespace statement options fields) made is;
    }

-- and such a one is a delete's
pub built_delete : (target : OperationTarget) (filter : List (Pair Bson)) (multi : Bool) (options : DeleteOptions) (made : Command) (which : SendKind)
    → made.name ≡ name.Delete
    → IsStatementCommand (namespace_of target) (delete_command (namespace_of target) (delete_statement filter multi options) options) 1 made
    → IsBuilt (delete_spec target filter multi options) which 1 made
built_delete target filter multi options made which is_name is =
    let namespace = namespace_of target in
    let statement = delete_statement filter multi options in
    let body = delete_command namespace statement options in
    record {
      name = is_name;
      is = is;
      plain = subst IsPlain (sym is.body) (delete_plain namespace statement options);
      asks = asks_for command.Delete kind.Delete namespace statement body (λ fields common. asks_delete namespace statement options fields) made is;
      within = within command.Delete kind.Delete namespace statement body (λ fields common. asks_delete namespace statement options fields) made is;
    }
