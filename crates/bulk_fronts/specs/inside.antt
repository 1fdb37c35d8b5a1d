-- What the functions of ops and fronts say of themselves, and what the bulk write over them goes on from.
pub mod BulkFronts
pub mod BulkOps
pub mod InsertSpelling
