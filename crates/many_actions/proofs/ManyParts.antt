-- One call of an insert of many documents, from its parts.
use Rattle.std.proofs.Common.{◌≡◌, ℕ, List, refl, ap, inl, inr}
use Rattle.std.specs.Prelude.{IsErrAnd, Result, Ok, Err}
use Rattle.bson_lite.specs.declared.bson.Bson.{Bson}
use Rattle.bson_lite.specs.declared.document.Pair.{Pair}
use Rattle.driver_error.specs.declared.error.Error.{Error}
use Rattle.driver_error.specs.declared.kind.ErrorKind.TheVariants as kind
use Rattle.server_answers.specs.declared.results.InsertManyResult.{InsertManyResult}
use Rattle.driver_error.specs.Error.{IsAlone}
use Rattle.driver_error.specs.LabelTexts.{no_labels}
use Rattle.driver_options.specs.declared.options.ClientOptions.{ClientOptions}
use Rattle.driver_options.specs.declared.write_options.InsertManyOptions.{InsertManyOptions}
use Rattle.driver_session.specs.StoreTells.{StoreTells}
use Rattle.driver_ops.specs.declared.target.OperationTarget.{OperationTarget}
use Rattle.driver_ops.specs.Targets.{namespace_of}
use Rattle.write_ops.specs.declared.own_document.OwnDocument.{OwnDocument}
use Rattle.driver_attempt.specs.Causes.{end_of}
use Rattle.driver_attempt.specs.Moment.{Moment}
use Rattle.many_actions.specs.ManyCalls.{MadeMany, MakesMany, ManyCaused}
use Rattle.driver_actions.specs.ManyIds.{OwnsAll}
use Rattle.many_actions.specs.inside.Batches.{AreSpelled, BatchesMade}
use Rattle.driver_actions.specs.OwnDocuments.{DrawsFront}
use Rattle.many_actions.proofs.ManyRefusals.{many_first, many_refuses_nothing}
use Rattle.driver_inputs.specs.ManyInputs.{IsManyAccepted, TellsManyInput, with_ids}

-- documents that got their ids are spelled
pub owns_spelled : {store now : StoreTells} {given : List (List (Pair Bson))} {own : List OwnDocument} → OwnsAll store now given own → AreSpelled own
owns_spelled {given = given} owns = record { documents = with_ids owns.ids given; are_own = owns.are_own }

module _ (target : OperationTarget) (documents : List (List (Pair Bson))) (options : InsertManyOptions) (call : ℕ) where
  -- a call whose input was refused, or for which there was no memory before an id was drawn
  pub many_unmade : (before : Moment) (error : Error) → TellsManyInput (namespace_of target) documents options error → MakesMany before before target documents options call (Err error)
  many_unmade before error why = inl (record { draws = inl refl; why = why })

  pub many_refused : (before : Moment) (error : Error) → TellsManyInput (namespace_of target) documents options error → ManyCaused before before target documents options call (Err error)
  many_refused before error why = record { makes = many_unmade before error why; refused = many_first before target documents options error why }

  -- the same of what the exit of a `?` returns
  pub many_unmade_exit : (before : Moment) (result : Result InsertManyResult Error) → IsErrAnd result (λ error. IsAlone kind.Memory no_labels error)
      → MakesMany before before target documents options call result
  many_unmade_exit before (Ok output) exits = absurd exits
  many_unmade_exit before (Err error) exits = many_unmade before error (inl exits)

  pub many_refused_exit : (before : Moment) (result : Result InsertManyResult Error) → IsErrAnd result (λ error. IsAlone kind.Memory no_labels error)
      → ManyCaused before before target documents options call result
  many_refused_exit before (Ok output) exits = absurd exits
  many_refused_exit before (Err error) exits = many_refused before error (inl exits)

  -- a call that was made, by its result
  made_makes : (before now : Moment) (result : Result InsertManyResult Error) → MadeMany before now target documents options call result → MakesMany before now target documents options call result
  made_makes before now (Ok output) made = made
  made_makes before now (Err error) made = inr made

  -- the cause of a call whose input is accepted
  pub many_caused : (before now : Moment) (result : Result InsertManyResult Error) → IsManyAccepted (namespace_of target) documents options → MakesMany before now target documents options call result
      → ManyCaused before now target documents options call result
  many_caused before now result accepted makes = record { makes = makes; refused = many_refuses_nothing before now target documents options (end_of result) accepted }

  -- once ids were drawn from the store of a client, whose options stay
  module _ (before : Moment) (store : StoreTells) (given : ClientOptions) (same : given ≡ before.client.options) where
    -- the moment after that
    abbrev drawn : Moment
    drawn = record before { store = store; client = record { options = given } }

    only_drawn : drawn ≡ record before { store = store }
    only_drawn = ap (λ o. record before { store = store; client = record { options = o } }) same

    -- memory ran out before there were ids for all documents
    pub many_short : (error : Error) → DrawsFront before.store store documents → IsAlone kind.Memory no_labels error → MakesMany before drawn target documents options call (Err error)
    many_short error drew memory = inl (record {
      draws = inr (memory.kind_is, record { count = drew.count; ids = drew.ids; twelve = drew.twelve; draws = drew.draws; rest = only_drawn });
      why = inl memory;
    })

    -- or the batches were made of the documents with their ids
    pub many_made : (own : List OwnDocument) → OwnsAll before.store store documents own → IsManyAccepted (namespace_of target) documents options → (now : Moment) (result : Result InsertManyResult Error)
        → BatchesMade target options call own drawn now result → MakesMany before now target documents options call result
    many_made own owns accepted now result made = made_makes before now result (record {
      accepted = accepted;
      mid = drawn;
      own = own;
      owns = owns;
      rest = only_drawn;
      ends = made.ends;
      batches = made.batches;
      answers = made.answers;
    })
