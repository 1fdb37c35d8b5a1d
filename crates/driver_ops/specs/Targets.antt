-- What an operation goes to, by the names of its database and its collection.
use Rattle.std.specs.Prelude.{ℕ, List, [], None}
use Rattle.bson_lite.specs.declared.namespace.Namespace.{Namespace}
use Rattle.driver_ops.specs.declared.target.OperationTarget.{OperationTarget}
use Rattle.driver_ops.specs.declared.target.OperationTarget.TheVariants as target

-- the name of its database
abbrev pub database_of : OperationTarget → List ℕ
database_of (target.Database database) = database.name
database_of (target.Collection collection) = collection.namespace.db
database_of (target.Namespace namespace) = namespace.db

-- the name of its collection, which a database as a whole has not
abbrev pub collection_of : OperationTarget → List ℕ
collection_of (target.Database database) = []
collection_of (target.Collection collection) = collection.namespace.coll
collection_of (target.Namespace namespace) = namespace.coll

-- both names
abbrev pub namespace_of : OperationTarget → Namespace
namespace_of goal = record { db = database_of goal; coll = collection_of goal }

-- a collection without a concern of its own
abbrev pub in_collection : Namespace → OperationTarget
in_collection namespace = target.Collection (record { namespace = namespace; write_concern = None })
