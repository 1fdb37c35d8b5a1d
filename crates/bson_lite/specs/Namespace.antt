-- The text of a namespace.
use Rattle.std.specs.Prelude.{ℕ, List, ◌++◌, codes}
use Rattle.bson_lite.specs.declared.namespace.Namespace.{Namespace}

-- the database, a dot, the collection
abbrev pub dotted : Namespace → List ℕ
dotted namespace = namespace.db ++ codes "." ++ namespace.coll
