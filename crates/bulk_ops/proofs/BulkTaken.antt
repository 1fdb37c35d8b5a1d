-- A build that took a front is a bulk write's, and one that stopped is refused.
use Rattle.std.proofs.Common.{◌≡◌, ℕ, suc, ◌+◌, ◌≤◌, Bool, true, false, List, [], ◌∷◌, length, take, refl, sym, ap, subst, ◌∙◌, inl, inr, ◌⊎◌, true≢false}
use Rattle.std.specs.Prelude.{◌↔◌, IsTrue, Option, Some}
use Rattle.bulk_outcomes.specs.BulkResults.{ResultSpec}
use Rattle.driver_error.specs.declared.error.Error.{Error}
use Rattle.driver_error.specs.declared.kind.ErrorKind.TheVariants as kind
use Rattle.driver_error.specs.Error.{ErrorKind, IsAlone, kind_of}
use Rattle.driver_error.specs.LabelTexts.{no_labels}
use Rattle.driver_options.specs.declared.options.Description.{Description}
use Rattle.driver_options.specs.declared.write_options.BulkWriteOptions.{BulkWriteOptions}
use Rattle.driver_batches.specs.declared.sizes.Limits.{Limits}
use Rattle.driver_link.specs.declared.command.CommandName.TheVariants as name
use Rattle.wire_keys.specs.declared.keys.TheConstants.{ADMIN, NAMESPACES, OPS}
use Rattle.driver_ops.specs.declared.command.Command.{Command}
use Rattle.driver_ops.specs.declared.target.OperationTarget.{OperationTarget}
use Rattle.driver_ops.specs.Operations.{BuildsCommand, MayRefuse, Refuses}
use Rattle.driver_ops.specs.SendKinds.{SendKind}
use Rattle.bulk_fronts.specs.declared.bulk_front.OpFront.{OpFront}
use Rattle.bulk_fronts.specs.declared.bulk_front.Taken.{Taken}
use Rattle.bulk_fronts.specs.declared.bulk_front.Taken.TheVariants.{Front, Stops}
use Rattle.bulk_fronts.specs.declared.own_op.OwnOp.{OwnOp}
use Rattle.bulk_fronts.specs.BulkFronts.{AreNumbered, RefusesFor, TakesOps, bulk_limits, number_text, old_server_text, op_text, serves_bulk}
use Rattle.bulk_ops.specs.BulkSpec.{bulk_spec, is_verbose}
use Rattle.bulk_fronts.specs.BulkWrites.{AreBulkSequences, bulk_command, described, op_namespaces}
use Rattle.bulk_fronts.specs.inside.BulkFronts.{EndsFront, HasFront, IsSpelled, IsTakenFront, StopsAtOp}
use Rattle.bulk_ops.proofs.BulkCommand.{built_bulk}
use Rattle.bulk_fronts.proofs.BulkFronts.{ops_fixed_by, refuses_ops}

-- what a build took, by the number that is fixed
pub took_front : (limits : Limits) (ops : List OwnOp) (fixed before : Option ℕ) (taken : Taken) (front : OpFront) → fixed ≡ before → taken ≡ Front front → EndsFront limits ops fixed taken
    → IsTakenFront limits ops before front
took_front limits ops fixed before taken front fixed_is is ends =
    subst (λ (known : Option ℕ). IsTakenFront limits ops known front) fixed_is (subst (λ (made : Taken). EndsFront limits ops fixed made) is ends)

-- or where it stopped
pub took_none : (limits : Limits) (ops : List OwnOp) (fixed before : Option ℕ) (taken : Taken) (at : ℕ) → fixed ≡ before → taken ≡ Stops at → EndsFront limits ops fixed taken
    → StopsAtOp limits ops before at
took_none limits ops fixed before taken at fixed_is is ends =
    subst (λ (known : Option ℕ). StopsAtOp limits ops known at) fixed_is (subst (λ (made : Taken). EndsFront limits ops fixed made) is ends)

-- so many namespaces are those of the front
count_described : (ops : List OwnOp) (front : OpFront) → IsSpelled ops front → length front.namespaces ≡ length (op_namespaces ops)
count_described ops front spelled = ap length spelled.namespaces ∙ length-described (op_namespaces ops)
  where
    length-described : (texts : List (List ℕ)) → length (described texts) ≡ length texts
    length-described [] = refl
    length-described (text ∷ texts) = ap suc (length-described texts)

module _ (target : OperationTarget) (first : ℕ) (own : List OwnOp) (options : BulkWriteOptions) {R : Type 0} (tells : ResultSpec R) (description : Description) (fixed : Option ℕ) (serves : serves_bulk description ≡ true) where
  -- a build that took a front
  pub builds_bulk : (which : SendKind) (limits : Limits) (front : OpFront) (made : Command) → limits ≡ bulk_limits options (is_verbose tells) description → IsTakenFront limits own fixed front
      → length front.namespaces ≤ 2147483648 → made.name ≡ name.BulkWrite → made.database ≡ ADMIN.now → made.body ≡ bulk_command options (is_verbose tells) → HasFront made.sequences front
      → BuildsCommand (bulk_spec tells target first own options) which description fixed (Some (length front.ops)) made
  builds_bulk which limits front made limits_are taken few is_name database body sequences =
      let count = length front.ops in
      let numbered : AreNumbered (take count own) = subst (λ n. n ≤ 2147483648) (count_described (take count own) front taken.spelled) few in
      let takes = subst (λ known. TakesOps known own fixed count) limits_are taken.takes in
      let both : AreBulkSequences made.sequences (take count own) = sequences ∙ (λ i. record { name = NAMESPACES.now; documents = taken.spelled.namespaces i } ∷ record { name = OPS.now; documents = taken.spelled.numbered numbered i } ∷ []) in
      record {
        statements = count;
        built = built_bulk target first own options tells count made
            (record { some = taken.some; within = taken.within; database = database; body = body; sequences = both; spelled = taken.spelled.described }) numbered which is_name;
        takes = record { serves = serves; front = takes; numbered = numbered };
        fixed = ops_fixed_by (bulk_limits options (is_verbose tells) description) own fixed count takes;
        now_is = refl;
      }

  -- an error that is alone is a refusal of its kind
  refuses_alone : (error : Error) (why : ErrorKind) → RefusesFor true (bulk_limits options (is_verbose tells) description) first own fixed error → MayRefuse why → IsAlone why no_labels error
      → Refuses (bulk_spec tells target first own options) fixed description error
  refuses_alone error why refused may alone = record {
    refused = subst (λ b. RefusesFor b (bulk_limits options (is_verbose tells) description) first own fixed error) (sym serves) refused;
    may = subst (λ (found : ErrorKind). MayRefuse found) (sym alone.kind_is) may;
    alone = record { kind_is = refl; labels_are = alone.labels_are; no_version = alone.no_version; no_source = alone.no_source; no_response = alone.no_response };
  }

  -- a build that is refused for a size
  pub refuses_size : (limits : Limits) (at : ℕ) (error : Error) → limits ≡ bulk_limits options (is_verbose tells) description → StopsAtOp limits own fixed at
      → IsAlone (kind.InvalidArgument (op_text (first + at))) no_labels error ⊎ IsAlone kind.Memory no_labels error
      → Refuses (bulk_spec tells target first own options) fixed description error ⊎ (kind_of error ≡ kind.Memory)
  refuses_size limits at error limits_are stops (inl alone) =
      inl (refuses_alone error (kind.InvalidArgument (op_text (first + at)))
      (inl (refuses_ops (bulk_limits options (is_verbose tells) description) first own fixed at error (subst (λ known. StopsAtOp known own fixed at) limits_are stops) alone.kind_is)) tt alone)
  refuses_size limits at error limits_are stops (inr memory) = inr memory.kind_is

  -- a build that is refused for a number past its end
  pub refuses_number : (limits : Limits) (front : OpFront) (error : Error) → limits ≡ bulk_limits options (is_verbose tells) description → IsTakenFront limits own fixed front
      → (length front.namespaces ≤ 2147483648 → ⊥) → IsAlone (kind.Internal number_text) no_labels error ⊎ IsAlone kind.Memory no_labels error
      → Refuses (bulk_spec tells target first own options) fixed description error ⊎ (kind_of error ≡ kind.Memory)
  refuses_number limits front error limits_are taken past (inl alone) =
      let count = length front.ops in
      inl (refuses_alone error (kind.Internal number_text)
      (inr (record {
        statements = count;
        takes = subst (λ known. TakesOps known own fixed count) limits_are taken.takes;
        past = λ few. past (subst (λ n. n ≤ 2147483648) (sym (count_described (take count own) front taken.spelled)) few);
        is = alone.kind_is;
      })) tt alone)
  refuses_number limits front error limits_are taken past (inr memory) = inr memory.kind_is

  -- a build that took a front whose namespaces have numbers
  pub builds_taken : (which : SendKind) (limits : Limits) (known : Option ℕ) (taken : Taken) (front : OpFront) (numbered : Bool) (count : ℕ) (made : Command)
      → limits ≡ bulk_limits options (is_verbose tells) description → known ≡ fixed → taken ≡ Front front → EndsFront limits own known taken
      → numbered ≡ true → IsTrue numbered ↔ (length front.namespaces ≤ 2147483648) → count ≡ length front.ops
      → made.name ≡ name.BulkWrite → made.database ≡ ADMIN.now → made.body ≡ bulk_command options (is_verbose tells) → HasFront made.sequences front
      → BuildsCommand (bulk_spec tells target first own options) which description fixed (Some count) made
  builds_taken which limits known taken front numbered count made limits_are known_is taken_is ends is_true few_are count_is is_name database body sequences =
      subst (λ (n : ℕ). BuildsCommand (bulk_spec tells target first own options) which description fixed (Some n) made) (sym count_is)
      (builds_bulk which limits front made limits_are (took_front limits own known fixed taken front known_is taken_is ends) (few_are.0 is_true) is_name database body sequences)

  -- a build that took none
  pub refuses_none : (limits : Limits) (known : Option ℕ) (taken : Taken) (at : ℕ) (error : Error) → limits ≡ bulk_limits options (is_verbose tells) description → known ≡ fixed → taken ≡ Stops at
      → EndsFront limits own known taken → IsAlone (kind.InvalidArgument (op_text (first + at))) no_labels error ⊎ IsAlone kind.Memory no_labels error
      → Refuses (bulk_spec tells target first own options) fixed description error ⊎ (kind_of error ≡ kind.Memory)
  refuses_none limits known taken at error limits_are known_is taken_is ends made =
      refuses_size limits at error limits_are (took_none limits own known fixed taken at known_is taken_is ends) made

  -- a build that took a front whose namespaces have none
  pub refuses_past : (limits : Limits) (known : Option ℕ) (taken : Taken) (front : OpFront) (numbered : Bool) (error : Error)
      → limits ≡ bulk_limits options (is_verbose tells) description → known ≡ fixed → taken ≡ Front front → EndsFront limits own known taken
      → numbered ≡ false → IsTrue numbered ↔ (length front.namespaces ≤ 2147483648)
      → IsAlone (kind.Internal number_text) no_labels error ⊎ IsAlone kind.Memory no_labels error
      → Refuses (bulk_spec tells target first own options) fixed description error ⊎ (kind_of error ≡ kind.Memory)
  refuses_past limits known taken front numbered error limits_are known_is taken_is ends is_false few_are made =
      refuses_number limits front error limits_are (took_front limits own known fixed taken front known_is taken_is ends)
      (λ few. true≢false (sym (few_are.1 few) ∙ is_false)) made

-- a build for a server that is too old
pub refuses_old : (target : OperationTarget) (first : ℕ) (own : List OwnOp) (options : BulkWriteOptions) {R : Type 0} (tells : ResultSpec R) (description : Description) (fixed : Option ℕ) (error : Error)
    → serves_bulk description ≡ false → IsAlone (kind.IncompatibleServer old_server_text) no_labels error ⊎ IsAlone kind.Memory no_labels error
    → Refuses (bulk_spec tells target first own options) fixed description error ⊎ (kind_of error ≡ kind.Memory)
refuses_old target first own options tells description fixed error old (inl alone) = inl (record {
  refused = subst (λ b. RefusesFor b (bulk_limits options (is_verbose tells) description) first own fixed error) (sym old) alone.kind_is;
  may = subst (λ (found : ErrorKind). MayRefuse found) (sym alone.kind_is) tt;
  alone = record { kind_is = refl; labels_are = alone.labels_are; no_version = alone.no_version; no_source = alone.no_source; no_response = alone.no_response };
})
refuses_old target first own options tells description fixed error old (inr memory) = inr memory.kind_is
