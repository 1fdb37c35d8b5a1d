pub mod Chains
pub mod Equality
pub mod LabelSets
pub mod Redacting
pub mod SortedLabels
