-- Lemmas that the law of results of a bulk write needs.
pub mod Apart
pub mod Merging
