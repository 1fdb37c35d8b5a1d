-- What a call of an insert of many documents says of its run: the lemmas that it cites, from one place.
pub use Rattle.many_actions.proofs.FewestCuts.{many_fewest}
pub use Rattle.many_actions.proofs.ManyCompleteness.{many_complete}
pub use Rattle.many_actions.proofs.ManyMade.{many_keeps, many_listed}
pub use Rattle.many_actions.proofs.ManyNumbers.{many_raises}
pub use Rattle.many_actions.proofs.ManySpelled.{many_truly}
