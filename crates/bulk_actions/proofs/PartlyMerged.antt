-- What partial results of two parts of a bulk write tell together: entries of the earlier part and of the later one behind them.
use Rattle.std.proofs.Common.{◌≡◌, ℕ, ◌+◌, ◌≤◌, List, [], ◌∷◌, ◌++◌, refl, sym, ap, subst, ◌∙◌, inl, inr, arith}
use Rattle.std.proofs.lemmas.List.{append-nil}
use Rattle.std.specs.Prelude.{Option, None, Some, ◌⊎◌}
use Rattle.std.specs.FinMap as finite
use Rattle.std.specs.Option.{option_or}
use Rattle.std.specs.Ordering.{nat_cmp}
use Rattle.bson_lite.specs.Unions.{union}
use Rattle.bson_lite.proofs.Uniting.{get-union}
use Rattle.server_answers.specs.declared.results.PartialBulkWriteResult.{PartialBulkWriteResult}
use Rattle.server_answers.specs.declared.results.PartialBulkWriteResult.TheVariants as partly
use Rattle.driver_error.specs.BulkErrors.{AreOfOneKind, merged_partial, merged_partials}
use Rattle.bulk_outcomes.specs.BulkResults.{ResultSpec}
use Rattle.driver_error.specs.Counts.{Counts, added}
use Rattle.bulk_outcomes.specs.Status.{IsOfKind}
use Rattle.bulk_outcomes.proofs.Keeping.{both_keep}
use Rattle.driver_options.specs.declared.models.WriteModel.{WriteModel}
use Rattle.driver_link.specs.declared.machine.Entry.{Entry}
use Rattle.driver_link.specs.declared.machine.WriteKind.{WriteKind}
use Rattle.driver_link.specs.Settled.{Has}
use Rattle.driver_link.proofs.Lists.{has_either, has_left, has_right}
use Rattle.bulk_ops.specs.BulkEntries.{counts_by}
use Rattle.bulk_fronts.specs.BulkOps.{model_written}
use Rattle.bulk_ops.specs.PartialEntries.{AllTold, IndexedEntry, IndexesRise, TellsSome, entries_in}
use Rattle.many_actions.proofs.PlannedBatches.{place_in}
use Rattle.bulk_actions.proofs.BulkTold.{counts_append}

-- ---- indexes that rise
-- the indexes rise, from one on and below a limit
abbrev pub RiseWithin : ℕ → ℕ → List IndexedEntry → Type 0
RiseWithin from limit [] = from ≤ limit
RiseWithin from limit (one ∷ more) = (from ≤ one.index) × RiseWithin (one.index + 1) limit more

pub rise_alone : (from limit : ℕ) (indexed : List IndexedEntry) → RiseWithin from limit indexed → IndexesRise from indexed
rise_alone from limit [] rise = tt
rise_alone from limit (one ∷ more) rise = (rise.0, rise_alone (one.index + 1) limit more rise.1)

-- from a lower one on, and below a higher limit
pub rise_lower : (low from limit : ℕ) (indexed : List IndexedEntry) → low ≤ from → RiseWithin from limit indexed → RiseWithin low limit indexed
rise_lower low from limit [] below rise = omega (arith, below, rise)
rise_lower low from limit (one ∷ more) below rise = ((let first = rise.0 in omega (arith, below, first)), rise.1)

pub rise_higher : (from limit high : ℕ) (indexed : List IndexedEntry) → limit ≤ high → RiseWithin from limit indexed → RiseWithin from high indexed
rise_higher from limit high [] below rise = omega (arith, below, rise)
rise_higher from limit high (one ∷ more) below rise = (rise.0, rise_higher (one.index + 1) limit high more below rise.1)

-- of others behind the limit too
rise_both : (from mid limit : ℕ) (xs ys : List IndexedEntry) → RiseWithin from mid xs → RiseWithin mid limit ys → RiseWithin from limit (xs ++ ys)
rise_both from mid limit [] ys one two = rise_lower from mid limit ys one two
rise_both from mid limit (x ∷ xs) ys one two = (one.0, rise_both (x.index + 1) mid limit xs ys one.1 two)

-- ---- what two tell together
both_entries : (xs ys : List IndexedEntry) → entries_in (xs ++ ys) ≡ entries_in xs ++ entries_in ys
both_entries [] ys = refl
both_entries (x ∷ xs) ys = ap (λ (rest : List Entry). x.entry ∷ rest) (both_entries xs ys)

-- what is found in two maps together is found in the later one or in the earlier one
pub union_either : {V : Type 0} (m n : finite.FinMap nat_cmp V) (q : ℕ) (v : V) → finite.get (union m n) q ≡ Some v → (finite.get n q ≡ Some v) ⊎ (finite.get m q ≡ Some v)
union_either {V = V} m n q v is = by_later (finite.get n q) refl (sym (get-union m n q) ∙ is)
  where
    by_later : (found : Option V) → finite.get n q ≡ found → option_or found (finite.get m q) ≡ Some v → (finite.get n q ≡ Some v) ⊎ (finite.get m q ≡ Some v)
    by_later None at earlier = inr earlier
    by_later (Some x) at here = inl (at ∙ here)

both_told : {V : Type 0} (which : WriteKind) (tells : Entry → V) (xs ys : List IndexedEntry) (m n : finite.FinMap nat_cmp V) → AllTold which tells xs m → AllTold which tells ys n
    → AllTold which tells (xs ++ ys) (union m n)
both_told which tells xs ys m n mine theirs = λ q value is. elim (union_either m n q value is) [
  | inl later ↦
      let told = theirs q value later in
      record { entry = told.entry; among = has_right xs ys _ told.among; kind_is = told.kind_is; told = told.told }
  | inr earlier ↦
      let told = mine q value earlier in
      record { entry = told.entry; among = has_left xs ys _ told.among; kind_is = told.kind_is; told = told.told }
]

both_counts : (xs ys : List IndexedEntry) (a b : Counts) → a ≡ counts_by (entries_in xs) → b ≡ counts_by (entries_in ys) → added a b ≡ counts_by (entries_in (xs ++ ys))
both_counts xs ys a b mine theirs = (λ i. added (mine i) (theirs i)) ∙ sym (counts_append (entries_in xs) (entries_in ys)) ∙ ap counts_by (sym (both_entries xs ys))

merged_told : (xs ys : List IndexedEntry) (a b : PartialBulkWriteResult) → AreOfOneKind a b → TellsSome xs a → TellsSome ys b → TellsSome (xs ++ ys) (merged_partial a b)
merged_told xs ys (partly.Summary a) (partly.Summary b) one mine theirs = record { counts = both_counts xs ys a b mine.counts theirs.counts; results = tt }
merged_told xs ys (partly.Verbose a) (partly.Verbose b) one mine theirs = record {
  counts = both_counts xs ys a.summary b.summary mine.counts theirs.counts;
  results = record {
    inserts = both_told _ _ xs ys a.insert_results b.insert_results mine.results.inserts theirs.results.inserts;
    updates = both_told _ _ xs ys a.update_results b.update_results mine.results.updates theirs.results.updates;
    deletes = both_told _ _ xs ys a.delete_results b.delete_results mine.results.deletes theirs.results.deletes;
  };
}
merged_told xs ys (partly.Summary a) (partly.Verbose b) one mine theirs = absurd one
merged_told xs ys (partly.Verbose a) (partly.Summary b) one mine theirs = absurd one

-- two of the kind of a third are of one kind
one_kind : (a b c : PartialBulkWriteResult) → AreOfOneKind a c → AreOfOneKind b c → AreOfOneKind a b
one_kind (partly.Summary a) (partly.Summary b) c mine theirs = tt
one_kind (partly.Verbose a) (partly.Verbose b) c mine theirs = tt
one_kind (partly.Summary a) (partly.Verbose b) (partly.Summary c) mine theirs = absurd theirs
one_kind (partly.Summary a) (partly.Verbose b) (partly.Verbose c) mine theirs = absurd mine
one_kind (partly.Verbose a) (partly.Summary b) (partly.Summary c) mine theirs = absurd mine
one_kind (partly.Verbose a) (partly.Summary b) (partly.Verbose c) mine theirs = absurd theirs

-- ---- partial results that may not be there
-- where there is none it is told by no entry
abbrev pub MaybeTells : List IndexedEntry → Option PartialBulkWriteResult → Type 0
MaybeTells indexed None = indexed ≡ []
MaybeTells indexed (Some found) = TellsSome indexed found

maybe_merged : {R : Type 0} (tells : ResultSpec R) (xs ys : List IndexedEntry) (a b : Option PartialBulkWriteResult) → IsOfKind tells a → IsOfKind tells b → MaybeTells xs a → MaybeTells ys b
    → MaybeTells (xs ++ ys) (merged_partials a b)
maybe_merged tells xs ys None None mine theirs told also = λ i. told i ++ also i
maybe_merged tells xs ys None (Some b) mine theirs told also = subst (λ (l : List IndexedEntry). TellsSome (l ++ ys) b) (sym told) also
maybe_merged tells xs ys (Some a) None mine theirs told also =
    subst (λ (l : List IndexedEntry). TellsSome l a) (sym (ap (λ (l : List IndexedEntry). xs ++ l) also ∙ append-nil xs)) told
maybe_merged tells xs ys (Some a) (Some b) mine theirs told also =
    merged_told xs ys a b (one_kind a b (tells.partial tells.nothing) (mine tells.nothing) (theirs tells.nothing)) told also

-- the entry of a model of which this holds stands in a log, in the place of its index in a call
pub record StandsFor (G : ℕ → WriteModel → Type 0) (call : ℕ) (log : List Entry) (one : IndexedEntry) : Type 0 where
  pub model : WriteModel
  pub given : G one.index model
  pub place : one.entry.place ≡ place_in call one.index
  pub written : one.entry.written ≡ model_written model
  pub has : Has log one.entry

-- such entries, from an index on and below a limit, tell a partial result, if there is one, and it is of a kind of results
pub record TellsPart {R : Type 0} (tells : ResultSpec R) (G : ℕ → WriteModel → Type 0) (call from limit : ℕ) (log : List Entry) (found : Option PartialBulkWriteResult) : Type 0 where
  pub indexed : List IndexedEntry
  pub rise : RiseWithin from limit indexed
  pub stand : (one : IndexedEntry) → Has indexed one → StandsFor G call log one
  pub told : MaybeTells indexed found
  pub of_kind : IsOfKind tells found

module _ {R : Type 0} (tells : ResultSpec R) (G : ℕ → WriteModel → Type 0) (call : ℕ) where
  -- none is told
  pub tells_none : (from limit : ℕ) (log : List Entry) → from ≤ limit → TellsPart tells G call from limit log None
  tells_none from limit log below = record { indexed = []; rise = below; stand = λ one has. absurd has; told = refl; of_kind = tt }

  -- so it is in a longer log
  pub tells_longer : (from limit : ℕ) (log later more : List Entry) (found : Option PartialBulkWriteResult) → later ≡ log ++ more → TellsPart tells G call from limit log found
      → TellsPart tells G call from limit later found
  tells_longer from limit log later more found is part = record {
    indexed = part.indexed;
    rise = part.rise;
    stand = λ one has.
        let stands = part.stand one has in record {
          model = stands.model;
          given = stands.given;
          place = stands.place;
          written = stands.written;
          has = subst (λ (l : List Entry). Has l one.entry) (sym is) (has_left log more one.entry stands.has);
        };
    told = part.told;
    of_kind = part.of_kind;
  }

  -- two parts one behind the other
  pub tells_both : (from mid limit : ℕ) (log : List Entry) (a b : Option PartialBulkWriteResult) → TellsPart tells G call from mid log a → TellsPart tells G call mid limit log b
      → TellsPart tells G call from limit log (merged_partials a b)
  tells_both from mid limit log a b one two = record {
    indexed = one.indexed ++ two.indexed;
    rise = rise_both from mid limit one.indexed two.indexed one.rise two.rise;
    stand = λ e has. elim (has_either one.indexed two.indexed e has) [ inl earlier ↦ one.stand e earlier | inr later ↦ two.stand e later ];
    told = maybe_merged tells one.indexed two.indexed a b one.of_kind two.of_kind one.told two.told;
    of_kind = both_keep tells a b one.of_kind two.of_kind;
  }
