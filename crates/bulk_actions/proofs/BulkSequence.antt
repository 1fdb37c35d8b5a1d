-- Batches of a bulk write one after another: those so far, and how the next one goes on or ends the call.
use Rattle.std.proofs.Common.{◌≡◌, ℕ, ◌+◌, ◌<◌, ◌≤◌, Bool, true, false, List, [], ◌∷◌, ◌++◌, drop, length, refl, subst, inl, inr, arith}
use Rattle.std.proofs.lemmas.List.{drop-drop, drop_all}
use Rattle.std.specs.Prelude.{◌⊎◌, None, Result, Ok, Err}
use Rattle.driver_error.specs.declared.error.Error.{Error}
use Rattle.driver_error.specs.declared.kind.ErrorKind.TheVariants as kind
use Rattle.bulk_outcomes.specs.declared.status.ExecutionStatus.{ExecutionStatus}
use Rattle.bulk_outcomes.specs.declared.status.ExecutionStatus.TheVariants as status
use Rattle.bulk_outcomes.specs.BulkResults.{ResultSpec}
use Rattle.driver_error.specs.Error.{kind_of}
use Rattle.driver_options.specs.declared.write_options.BulkWriteOptions.{BulkWriteOptions}
use Rattle.bulk_fronts.specs.declared.own_op.OwnOp.{OwnOp}
use Rattle.driver_attempt.specs.Moment.{Moment}
use Rattle.many_actions.specs.BatchPlans.{PlannedEnd}
use Rattle.many_actions.proofs.PlannedSequence as planned
use Rattle.bulk_actions.specs.BulkBatches.{ComesTo, StandsBehind, bulk_plan}
use Rattle.bulk_actions.specs.inside.BulkBatches.{IsBegun, StandsBehindAll, StopsBulk, TakesBatch, TakesCounted}
use Rattle.bulk_actions.proofs.Following.{begun_behind}

-- what stands behind a batch, where others come behind those after it
behind_then : {R : Type 0} (Rest Later : ExecutionStatus R → Type 0) (ends later : List (PlannedEnd R)) (mid : ExecutionStatus R) (came : Result (ExecutionStatus R) Error) → ((now : ExecutionStatus R) → Rest now → Later now)
    → (now : Result (ExecutionStatus R) Error) → StandsBehind Rest ends now (Ok mid) → StandsBehind Later (ends ++ later) now came
behind_then Rest Later ends later mid came turn (Ok now) behind = turn now behind
behind_then {R} Rest Later ends later mid came turn (Err error) behind = absurd (let e : ◌≡◌ {A = Result (ExecutionStatus R) Error} (Ok mid) (Err error) = behind.1 in cc)

-- what stands behind batches, and behind others after them
module _ {R : Type 0} (tells : ResultSpec R) where
  pub come_then : (ends later : List (PlannedEnd R)) (before mid : ExecutionStatus R) (came : Result (ExecutionStatus R) Error)
      → ComesTo tells before ends (Ok mid) → ComesTo tells mid later came → ComesTo tells before (ends ++ later) came
  come_then [] later before mid came comes rest =
      let same : mid ≡ before = let e : ◌≡◌ {A = Result (ExecutionStatus R) Error} (Ok mid) (Ok before) = comes in cc in
      subst (λ s. ComesTo tells s later came) same rest
  come_then (end ∷ ends) later before mid came comes rest = (
    comes.0,
    (
      comes.1.0,
      behind_then (λ standing. ComesTo tells standing ends (Ok mid)) (λ standing. ComesTo tells standing (ends ++ later) came) ends later mid came
          (λ now on. come_then ends later now mid came on rest) comes.0 comes.1.1,
    ),
  )

-- the batches so far, from the first op on: each lets the next one be made, and this stands behind them
pub record SoFar {R : Type 0} (tells : ResultSpec R) (options : BulkWriteOptions) (call : ℕ) (own : List OwnOp) (before now : Moment) (reached : ℕ) (standing : ExecutionStatus R) : Type 0 where
  pub ends : List (PlannedEnd R)
  pub front : planned.MakesFront (bulk_plan tells options) call 0 own ends reached (drop reached own) before now
  pub comes : ComesTo tells status.None ends (Ok standing)
  pub begun : (reached ≡ 0) ⊎ IsBegun standing

-- no batch
pub begins : {R : Type 0} (tells : ResultSpec R) (options : BulkWriteOptions) (call : ℕ) (own : List OwnOp) (at : Moment) → SoFar tells options call own at at 0 status.None
begins tells options call own at = record { ends = []; front = (refl, (refl, refl)); comes = refl; begun = inl refl }

module _ {R : Type 0} (tells : ResultSpec R) (options : BulkWriteOptions) (call : ℕ) (own : List OwnOp) (before mid : Moment) (reached : ℕ) (standing : ExecutionStatus R) (far : SoFar tells options call own before mid reached standing) where
  -- what stands behind them and the next one
  comes_further : (now : Moment) (later : ExecutionStatus R) (on : Bool) (next : TakesBatch tells options call reached own mid now standing later on)
      → ComesTo tells status.None (far.ends ++ next.end ∷ []) (Ok later)
  comes_further now later on next = come_then tells far.ends (next.end ∷ []) status.None standing (Ok later) far.comes (Ok later, (next.takes, refl))

  -- the next one, behind which another is made
  pub goes_further : (now : Moment) (later : ExecutionStatus R) (count : ℕ) → TakesCounted tells options call reached own mid now standing later count
      → SoFar tells options call own before now (reached + count) later
  goes_further now later count next = record {
    ends = far.ends ++ next.takes.end ∷ [];
    front = subst (λ l. planned.MakesFront (bulk_plan tells options) call 0 own (far.ends ++ next.takes.end ∷ []) (reached + count) l before now) (drop-drop count reached own)
        (planned.front_more (bulk_plan tells options) call 0 own far.ends reached (drop reached own) before mid now next.takes.end count far.front next.takes.makes next.takes.goes next.counted.told);
    comes = comes_further now later true next.takes;
    begun = inr (begun_behind tells standing next.takes.end.result later next.takes.takes);
  }

  -- the next one, behind which no other is made
  pub goes_no_further : (now : Moment) (later : ExecutionStatus R) → TakesBatch tells options call reached own mid now standing later false
      → StandsBehindAll tells options call own before now later
  goes_no_further now later next = record {
    ends = far.ends ++ next.end ∷ [];
    batches = planned.front_then (bulk_plan tells options) call ⊥ 0 own far.ends reached (drop reached own) before mid now (next.end ∷ []) far.front
        (now, (next.makes, inr (record { over = next.goes; none = refl; same = refl })));
    comes = comes_further now later false next;
    begun = begun_behind tells standing next.end.result later next.takes;
  }

  -- the call ended with an error there
  stops_there : (now : Moment) (error : Error) → StopsBulk tells options call reached (drop reached own) mid now standing error → StopsBulk tells options call 0 own before now status.None error
  stops_there now error stops =
      let behind : ComesTo tells standing stops.ends (Err error) → ComesTo tells status.None (far.ends ++ stops.ends) (Err error)
      = λ comes. come_then tells far.ends stops.ends status.None standing (Err error) far.comes comes in
      record {
        ends = far.ends ++ stops.ends;
        makes = planned.short_as (bulk_plan tells options) call ((kind_of error ≡ kind.Memory) ⊎ ComesTo tells standing stops.ends (Err error))
            ((kind_of error ≡ kind.Memory) ⊎ ComesTo tells status.None (far.ends ++ stops.ends) (Err error))
            (λ why. elim why [ inl memory ↦ inl memory | inr comes ↦ inr (behind comes) ]) 0 own (far.ends ++ stops.ends) before now
            (planned.front_then (bulk_plan tells options) call ((kind_of error ≡ kind.Memory) ⊎ ComesTo tells standing stops.ends (Err error)) 0 own far.ends reached (drop reached own) before mid now stops.ends far.front stops.makes);
        why = elim stops.why [ inl memory ↦ inl memory | inr comes ↦ inr (behind comes) ];
      }

  -- the same of a call's number that is equal
  pub stops_at : (number : ℕ) → number ≡ call → (now : Moment) (error : Error) → StopsBulk tells options number reached (drop reached own) mid now standing error → StopsBulk tells options call 0 own before now status.None error
  stops_at number is now error stops = stops_there now error (subst (λ n. StopsBulk tells options n reached (drop reached own) mid now standing error) is stops)

  -- no op is left
  pub all_done : 0 < length own → length own ≤ reached → StandsBehindAll tells options call own before mid standing
  all_done some all = record {
    ends = far.ends ++ [];
    batches = planned.front_then (bulk_plan tells options) call ⊥ 0 own far.ends reached (drop reached own) before mid mid [] far.front (refl, inl (drop_all reached own all));
    comes = come_then tells far.ends [] status.None standing (Ok standing) far.comes refl;
    begun = elim far.begun [ inl none ↦ absurd (omega (arith, none, some, all)) | inr begun ↦ begun ];
  }
