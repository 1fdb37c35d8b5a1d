-- The commands of a cursor ask for its next page, and for its end.
use Rattle.std.proofs.Common.{◌≡◌, ℕ, ◌≤◌, ℤ, List, [], ◌∷◌, ◌++◌, length, refl, sym, subst, arith}
use Rattle.std.specs.Prelude.{Some, take}
use Rattle.bson_lite.specs.declared.bson.Bson.{Bson}
use Rattle.bson_lite.specs.declared.bson.Bson as bson
use Rattle.bson_lite.specs.declared.document.Pair.{Pair}
use Rattle.bson_lite.specs.declared.namespace.Namespace.{Namespace}
use Rattle.driver_link.specs.declared.command.CommandName.TheVariants as name
use Rattle.driver_link.specs.declared.machine.Place.{Place}
use Rattle.driver_link.specs.declared.machine.SendBody.{SendBody}
use Rattle.driver_link.specs.declared.machine.SendBody.TheVariants.{Kill, More}
use Rattle.driver_link.specs.Asking.{asks, asks_alone, asks_as, asks_kill, asks_more, may_go_to, only_cursor}
use Rattle.driver_link.specs.CommandNames.{command_named}
use Rattle.driver_link.specs.Commands.{needed}
use Rattle.driver_link.specs.Reads.{SpellSequences}
use Rattle.driver_link.proofs.Forms.{array_is, text_is}
use Rattle.driver_ops.specs.declared.command.Command.{Command}
use Rattle.driver_ops.specs.declared.target.OperationTarget.{OperationTarget}
use Rattle.driver_ops.specs.Fields.{IsPlain}
use Rattle.driver_ops.specs.GetMores.{AsksCursor, IsCursorCommand, kill_command, kill_spec, more_command, more_spec}
use Rattle.driver_ops.specs.Operations.{CommandAsks, IsBuilt}
use Rattle.driver_ops.specs.SendKinds.{SendKind}
use Rattle.driver_ops.specs.Targets.{namespace_of}
use Rattle.driver_ops.proofs.Frames.{int_is}

-- what the body of a question asks for
asks_page : (database : List ℕ) (namespace : Namespace) (cursor : ℤ) (fields : List (Pair Bson)) → asks database (more_command namespace cursor ++ fields) [] [] ≡ Some (More cursor)
unfolding more_command asks command_named may_go_to asks_as asks_alone asks_more needed
asks_page database namespace cursor fields = rw (text_is namespace.coll, int_is cursor) refl

-- and that of an end
asks_end : (database : List ℕ) (namespace : Namespace) (cursor : ℤ) (fields : List (Pair Bson)) → asks database (kill_command namespace cursor ++ fields) [] [] ≡ Some (Kill cursor)
unfolding kill_command asks command_named may_go_to asks_as asks_alone asks_kill only_cursor needed
asks_end database namespace cursor fields = rw (text_is namespace.coll, array_is (bson.Int64 cursor ∷ []), int_is cursor) refl

more_plain : (namespace : Namespace) (cursor : ℤ) → IsPlain (more_command namespace cursor)
unfolding more_command
more_plain namespace cursor = (refl, (refl, (refl, (refl, (refl, (refl, (refl, (refl, (refl, tt)))))))))

kill_plain : (namespace : Namespace) (cursor : ℤ) → IsPlain (kill_command namespace cursor)
unfolding kill_command
kill_plain namespace cursor = (refl, (refl, (refl, (refl, (refl, (refl, (refl, (refl, (refl, tt)))))))))

-- a command of a cursor asks for what its body does, with no place
module _ (namespace : Namespace) (own : List (Pair Bson)) (asked : SendBody)
    (asks_for : (database : List ℕ) (fields : List (Pair Bson)) → asks database (own ++ fields) [] [] ≡ Some asked) (made : Command) (is : IsCursorCommand namespace own 0 made) where
  asks_cursor : (places : List Place) (body : SendBody) → AsksCursor asked 0 places body → CommandAsks made (take 0 places) body
  asks_cursor places body told = record {
    sequences = [];
    spelled = subst (SpellSequences []) (sym is.sequences) tt;
    asks = λ fields common. rw (is.body, told.is) (asks_for made.database fields);
  }

  none_needed : (places : List Place) (body : SendBody) → AsksCursor asked 0 places body → 0 ≤ length places
  none_needed places body told = omega arith

pub built_more : (goal : OperationTarget) (cursor : ℤ) (made : Command) (which : SendKind) → made.name ≡ name.GetMore
    → IsCursorCommand (namespace_of goal) (more_command (namespace_of goal) cursor) 0 made → IsBuilt (more_spec goal cursor) which 0 made
built_more goal cursor made which is_name is =
    let namespace = namespace_of goal in
    record {
      name = is_name;
      is = is;
      plain = subst IsPlain (sym is.body) (more_plain namespace cursor);
      asks = asks_cursor namespace (more_command namespace cursor) (More cursor) (λ database fields. asks_page database namespace cursor fields) made is;
      within = none_needed namespace (more_command namespace cursor) (More cursor) (λ database fields. asks_page database namespace cursor fields) made is;
    }

pub built_kill : (goal : OperationTarget) (cursor : ℤ) (made : Command) (which : SendKind) → made.name ≡ name.KillCursors
    → IsCursorCommand (namespace_of goal) (kill_command (namespace_of goal) cursor) 0 made → IsBuilt (kill_spec goal cursor) which 0 made
built_kill goal cursor made which is_name is =
    let namespace = namespace_of goal in
    record {
      name = is_name;
      is = is;
      plain = subst IsPlain (sym is.body) (kill_plain namespace cursor);
      asks = asks_cursor namespace (kill_command namespace cursor) (Kill cursor) (λ database fields. asks_end database namespace cursor fields) made is;
      within = none_needed namespace (kill_command namespace cursor) (Kill cursor) (λ database fields. asks_end database namespace cursor fields) made is;
    }
