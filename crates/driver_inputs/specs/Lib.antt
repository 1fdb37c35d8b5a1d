pub mod BulkInputs
pub mod Calls
pub mod Faults
pub mod Forms
pub mod Inputs
pub mod ManyFaults
pub mod ManyInputs
pub mod inside
