-- The command of a findAndModify asks for its one write, which is its body without the executor's fields.
use Rattle.std.proofs.Common.{◌≡◌, ℕ, List, [], ◌∷◌, ◌++◌, Bool, refl, subst, sym, ap}
use Rattle.std.specs.Prelude.{true, false, Option, None, Some, bytes_eq, cond, not, ◌&&◌, ◌||◌, if◌then◌else◌}
use Rattle.std.specs.List.{list_all, list_any}
use Rattle.bson_lite.specs.declared.bson.Bson.{Bson}
use Rattle.bson_lite.specs.declared.bson.Bson as bson
use Rattle.bson_lite.specs.declared.document.Pair.{Pair}
use Rattle.bson_lite.specs.declared.namespace.Namespace.{Namespace}
use Rattle.driver_options.specs.declared.find_options.FindAndModifyOptions.{FindAndModifyOptions}
use Rattle.driver_options.specs.declared.updates.Modification.{Modification}
use Rattle.driver_options.specs.declared.updates.Modification.TheVariants.{Delete, Update}
use Rattle.driver_link.specs.declared.command.CommandName.TheVariants as name
use Rattle.wire_keys.specs.declared.keys.TheConstants.{FIND_AND_MODIFY, UPDATE}
use Rattle.driver_link.specs.declared.machine.Place.{Place}
use Rattle.driver_link.specs.declared.machine.SendBody.TheVariants.{Write}
use Rattle.driver_link.specs.declared.machine.SendCommand.TheVariants as command
use Rattle.driver_link.specs.declared.machine.WriteKind.TheVariants as kind
use Rattle.driver_link.specs.Asking.{asks, asks_alone, asks_as, asks_one, asks_writes, may_go_to, target as target_of}
use Rattle.driver_link.specs.CommandNames.{command_named}
use Rattle.driver_link.specs.Numbers.{field}
use Rattle.driver_link.specs.Writes.{common_keys, is_common, own_fields, placed}
use Rattle.driver_link.proofs.Forms.{text_is}
use Rattle.driver_ops.specs.declared.command.Command.{Command}
use Rattle.driver_ops.specs.declared.keys.TheConstants.{ARRAY_FILTERS, BYPASS_DOCUMENT_VALIDATION, COLLATION, COMMENT, FIELDS, FIND_QUERY, HINT, LET, MAX_TIME, NEW, REMOVE, SORT, UPSERT}
use Rattle.driver_ops.specs.declared.target.OperationTarget.{OperationTarget}
use Rattle.driver_ops.specs.ConcernFields.{number_of}
use Rattle.driver_ops.specs.Fields.{AreCommon, IsPlain, LacksAll}
use Rattle.driver_ops.specs.OptionFields.{document_in, documents_of, flag_of, hint_of, option_field}
use Rattle.driver_ops.specs.Operations.{IsBuilt}
use Rattle.driver_ops.specs.SendKinds.{SendKind}
use Rattle.driver_ops.specs.Targets.{namespace_of}
use Rattle.driver_ops.specs.lawful.InsertRead.{differ}
use Rattle.driver_ops.proofs.PlainOptions.{lacks_join}
use Rattle.statement_ops.specs.FindingAndModifying.{find_command, find_front, find_head, modification_field}
use Rattle.statement_ops.specs.StatementSpec.{IsStatementCommand, find_spec, statement_write}
use Rattle.statement_ops.specs.Updating.{change_value}
use Rattle.statement_ops.proofs.StatementCommand.{asks_for, within}

-- no pair of these stands in commands of every kind
abbrev AreOwn : List (Pair Bson) → Type 0
AreOwn [] = Unit {0}
AreOwn (pair ∷ fields) = (is_common pair ≡ false) × AreOwn fields

own_joined : (xs ys : List (Pair Bson)) → AreOwn xs → AreOwn ys → AreOwn (xs ++ ys)
own_joined [] ys first second = second
own_joined (pair ∷ xs) ys first second = (first.0, own_joined xs ys first.1 second)

-- of fields that stand in commands of every kind none is a command's own
none_own : (fields : List (Pair Bson)) → AreCommon fields → own_fields fields ≡ []
none_own [] common = refl
none_own (pair ∷ fields) common = by_test (is_common pair) common.0 (none_own fields common.1)
  where
    by_test : (found : Bool) → found ≡ true → own_fields fields ≡ [] → cond (not found) (pair ∷ own_fields fields) (own_fields fields) ≡ []
    by_test true is rest = rest
    by_test false is rest = absurd (differ is)

-- a body of a command's own fields stays where others stand behind it
own_kept : (body fields : List (Pair Bson)) → AreOwn body → AreCommon fields → own_fields (body ++ fields) ≡ body
own_kept [] fields own common = none_own fields common
own_kept (pair ∷ body) fields own common = by_test (is_common pair) own.0 (own_kept body fields own.1 common)
  where
    by_test : (found : Bool) → found ≡ false → own_fields (body ++ fields) ≡ body
        → cond (not found) (pair ∷ own_fields (body ++ fields)) (own_fields (body ++ fields)) ≡ pair ∷ body
    by_test false is rest = ap (λ fields. pair ∷ fields) rest
    by_test true is rest = absurd (differ (sym is))

-- a key that no field of commands of every kind has
abbrev differs : List ℕ → List ℕ → Bool
differs key common = not (bytes_eq common key) && not (bytes_eq key common)

abbrev is_own_key : List ℕ → Bool
is_own_key key = list_all (differs key) common_keys

-- a field under such a key has none of these keys
own_by : (keys : List (List ℕ)) (key : List ℕ) (value : Bson) → list_all (differs key) keys ≡ true
    → (list_any (λ common. bytes_eq common key) keys ≡ false) × LacksAll keys (field key value ∷ [])
own_by [] key value is = (refl, tt)
own_by (common ∷ keys) key value is = by_tests (bytes_eq common key) (bytes_eq key common) (own_by keys key value) is
  where
    by_tests : (first second : Bool)
        → (list_all (differs key) keys ≡ true → (list_any (λ common. bytes_eq common key) keys ≡ false) × LacksAll keys (field key value ∷ []))
        → ((not first && not second) && list_all (differs key) keys) ≡ true
        → ((first || list_any (λ common. bytes_eq common key) keys) ≡ false) × (((if second then Some value else None) ≡ None) × LacksAll keys (field key value ∷ []))
    by_tests false false rest is = let found = rest is in (found.0, (refl, found.1))
    by_tests true second rest is = absurd (differ is)
    by_tests false true rest is = absurd (differ is)

-- fields that are a command's own, and have no key of commands of every kind
pub record AreOnlyOwn (fields : List (Pair Bson)) : Type 0 where
  pub own : AreOwn fields
  pub plain : IsPlain fields

own_nothing : AreOnlyOwn []
own_nothing = record { own = tt; plain = (refl, (refl, (refl, (refl, (refl, (refl, (refl, (refl, (refl, tt))))))))) }

own_join : (xs ys : List (Pair Bson)) → AreOnlyOwn xs → AreOnlyOwn ys → AreOnlyOwn (xs ++ ys)
own_join xs ys first second = record { own = own_joined xs ys first.own second.own; plain = lacks_join common_keys xs ys first.plain second.plain }

own_field : (key : List ℕ) (value : Bson) → is_own_key key ≡ true → AreOnlyOwn (field key value ∷ [])
unfolding is_common
own_field key value is = let parts = own_by common_keys key value is in record { own = (parts.0, tt); plain = parts.1 }

own_option : (key : List ℕ) (value : Option Bson) → is_own_key key ≡ true → AreOnlyOwn (option_field key value)
own_option key None is = own_nothing
own_option key (Some value) is = own_field key value is

-- such fields with an option behind them
own_with : (body : List (Pair Bson)) (key : List ℕ) (value : Option Bson) → is_own_key key ≡ true → AreOnlyOwn body → AreOnlyOwn (body ++ option_field key value)
own_with body key value is own = own_join body (option_field key value) own (own_option key value is)

-- what is done to the document is such a field
own_modification : (modification : Modification) → AreOnlyOwn (modification_field modification ∷ [])
own_modification Delete = own_field REMOVE.now (bson.Boolean true) refl
own_modification (Update change) = own_field UPDATE.now (change_value change) refl

-- so is the body, part by part
own_head : (collection : List ℕ) (filter : List (Pair Bson)) (modification : Modification) → AreOnlyOwn (find_head collection filter modification)
unfolding find_head
own_head collection filter modification =
    own_join (field FIND_AND_MODIFY.now (bson.String collection) ∷ []) (field FIND_QUERY.now (bson.Document filter) ∷ modification_field modification ∷ [])
    (own_field FIND_AND_MODIFY.now (bson.String collection) refl)
    (own_join (field FIND_QUERY.now (bson.Document filter) ∷ []) (modification_field modification ∷ []) (own_field FIND_QUERY.now (bson.Document filter) refl) (own_modification modification))

own_front : (collection : List ℕ) (filter : List (Pair Bson)) (modification : Modification) (options : FindAndModifyOptions) → AreOnlyOwn (find_front collection filter modification options)
unfolding find_front
own_front collection filter modification options =
    own_with _ MAX_TIME.now (number_of options.max_time) refl
    (own_with _ ARRAY_FILTERS.now (documents_of options.array_filters) refl
    (own_with _ BYPASS_DOCUMENT_VALIDATION.now (flag_of options.bypass_document_validation) refl
    (own_with _ UPSERT.now (flag_of options.upsert) refl
    (own_with _ NEW.now (flag_of options.new) refl
    (own_with (find_head collection filter modification) SORT.now (document_in options.sort) refl (own_head collection filter modification))))))

own_find : (namespace : Namespace) (filter : List (Pair Bson)) (modification : Modification) (options : FindAndModifyOptions) → AreOnlyOwn (find_command namespace filter modification options)
unfolding find_command
own_find namespace filter modification options =
    own_with _ COMMENT.now options.comment refl
    (own_with _ LET.now (document_in options.let_vars) refl
    (own_with _ HINT.now (hint_of options.hint) refl
    (own_with _ COLLATION.now (document_in options.collation) refl
    (own_with (find_front namespace.coll filter modification options) FIELDS.now (document_in options.projection) refl (own_front namespace.coll filter modification options)))))

-- a body that finds and modifies asks for that
asks_first_find : (database collection : List ℕ) (fields body : List (Pair Bson)) (place : Place)
    → own_fields (field FIND_AND_MODIFY.now (bson.String collection) ∷ fields) ≡ body
    → asks database (field FIND_AND_MODIFY.now (bson.String collection) ∷ fields) [] (place ∷ [])
    ≡ Some (Write command.FindAndModify true (statement_write kind.FindAndModify (record { db = database; coll = collection }) body place ∷ []))
unfolding asks command_named may_go_to asks_as asks_alone target_of asks_one asks_writes placed
asks_first_find database collection fields body place own = rw (text_is collection, own)

module _ (namespace : Namespace) (filter : List (Pair Bson)) (modification : Modification) (options : FindAndModifyOptions) where
  abbrev body : List (Pair Bson)
  body = find_command namespace filter modification options

  asks_find : (fields : List (Pair Bson)) → AreCommon fields → (place : Place)
      → asks namespace.db (body ++ fields) [] (place ∷ []) ≡ Some (Write command.FindAndModify true (statement_write kind.FindAndModify namespace body place ∷ []))
  unfolding find_command find_front find_head
  asks_find fields common place = asks_first_find namespace.db namespace.coll _ body place (own_kept body fields (own_find namespace filter modification options).own common)

-- such a command is a findAndModify's
pub built_find : (target : OperationTarget) (filter : List (Pair Bson)) (modification : Modification) (options : FindAndModifyOptions) (made : Command) (which : SendKind)
    → made.name ≡ name.FindAndModify → IsStatementCommand (namespace_of target) (find_command (namespace_of target) filter modification options) 1 made
    → IsBuilt (find_spec target filter modification options) which 1 made
built_find target filter modification options made which is_name is =
    let namespace = namespace_of target in
    let own = find_command namespace filter modification options in
    record {
      name = is_name;
      is = is;
      plain = subst IsPlain (sym is.body) (own_find namespace filter modification options).plain;
      asks = asks_for command.FindAndModify kind.FindAndModify namespace own own (asks_find namespace filter modification options) made is;
      within = within command.FindAndModify kind.FindAndModify namespace own own (asks_find namespace filter modification options) made is;
    }
