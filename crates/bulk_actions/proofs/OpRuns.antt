-- How many runs ops are cut into: behind their longest front there is one run fewer.
use Rattle.std.proofs.Common.{◌≡◌, ℕ, zero, suc, ◌+◌, ◌-◌, ◌<◌, ◌≤◌, Bool, true, false, List, [], ◌∷◌, ◌++◌, drop, length, length-append, length-drop, take, take-append-drop, refl, sym, ap, subst, ◌∙◌, append_assoc, arith}
use Rattle.std.proofs.lemmas.Bool.{and_from, and_parts, le-leb, leb-true, lt-ltb, ltb-true}
use Rattle.std.proofs.lemmas.List.{append-nil}
use Rattle.std.proofs.lemmas.List.Elements.{All-head, All-push}
use Rattle.std.specs.Prelude.{Option, None, Some, IfSome, nat_le, nat_lt, ◌&&◌, if◌then◌else◌}
use Rattle.driver_options.specs.declared.options.Description.{Description}
use Rattle.driver_options.specs.declared.write_options.BulkWriteOptions.{BulkWriteOptions}
use Rattle.driver_batches.specs.declared.sizes.Limits.{Limits}
use Rattle.driver_batches.specs.Fronts.{IsLongestFront}
use Rattle.driver_link.specs.declared.machine.Setup.{Setup}
use Rattle.bulk_fronts.specs.declared.own_op.SizedOp.{SizedOp}
use Rattle.bulk_fronts.specs.BulkFronts.{FitsOps, bulk_limits, bytes_of}
use Rattle.bulk_fronts.proofs.BulkFronts.{bytes_front}
use Rattle.bulk_actions.specs.BulkNumbers.{keeps_within, numbers_for, op_runs, runs_beside}

-- what comes behind a front of a list is its next
next_taken : {A : Type 0} (m : ℕ) (xs : List A) (x : A) (after : List A) → drop m xs ≡ x ∷ after → take (suc m) xs ≡ take m xs ++ x ∷ []
next_taken zero xs x after is = ap (take 1) is
next_taken (suc m) [] x after is = absurd (let long : 0 ≡ suc (length after) = ap length is in omega (arith, long))
next_taken (suc m) (y ∷ xs) x after is = ap (λ rest. y ∷ rest) (next_taken m xs x after is)

module _ (limits : Limits) where
  -- the front of a run that keeps to them does
  pub front_within : 0 < limits.each → (run more : List SizedOp) → FitsOps limits (run ++ more) → keeps_within limits run ≡ true
  front_within each run more fits =
      let items = fits.items in
      let bytes = fits.bytes in
      and_from (nat_le (length run) limits.items) (nat_lt 0 limits.each && nat_le (bytes_of run) limits.bytes)
      (le-leb (length run) limits.items (omega (arith, length-append run more, items)))
      (and_from (nat_lt 0 limits.each) (nat_le (bytes_of run) limits.bytes) (lt-ltb 0 limits.each each) (le-leb (bytes_of run) limits.bytes (omega (arith, bytes_front run more, bytes))))

  -- a run with one op more that is told to keep to them does
  pub pushed_fits : (run : List SizedOp) (op : SizedOp) → FitsOps limits run → keeps_within limits (run ++ op ∷ []) ≡ true → FitsOps limits (run ++ op ∷ [])
  pushed_fits run op fits is =
      let first = and_parts (nat_le (length (run ++ op ∷ [])) limits.items) (nat_lt 0 limits.each && nat_le (bytes_of (run ++ op ∷ [])) limits.bytes) is in
      let rest = and_parts (nat_lt 0 limits.each) (nat_le (bytes_of (run ++ op ∷ [])) limits.bytes) first.1 in record {
        items = leb-true (length (run ++ op ∷ [])) limits.items first.0;
        each = All-push (λ op. 0 < limits.each) run op fits.each (ltb-true 0 limits.each rest.0);
        bytes = leb-true (bytes_of (run ++ op ∷ [])) limits.bytes rest.1;
      }

  -- so one that does not is told so
  blocked_by : (run : List SizedOp) (op : SizedOp) → FitsOps limits run → (FitsOps limits (run ++ op ∷ []) → ⊥) → keeps_within limits (run ++ op ∷ []) ≡ false
  blocked_by run op fits never =
      elim (keeps_within limits (run ++ op ∷ [])) as (λ (b : Bool). keeps_within limits (run ++ op ∷ []) ≡ b → keeps_within limits (run ++ op ∷ []) ≡ false) [
        | true ↦ λ is. absurd (never (pushed_fits run op fits is))
        | false ↦ λ is. is
      ] refl

  -- ops that keep to them with a run go in, all of them
  run_takes : 0 < limits.each → (front rest run : List SizedOp) → FitsOps limits (run ++ front) → runs_beside limits run (front ++ rest) ≡ runs_beside limits (run ++ front) rest
  run_takes each [] rest run fits = ap (λ r. runs_beside limits r rest) (sym (append-nil run))
  run_takes each (op ∷ front) rest run fits =
      let joined : (run ++ op ∷ []) ++ front ≡ run ++ op ∷ front = append_assoc run (op ∷ []) front in
      let whole : FitsOps limits ((run ++ op ∷ []) ++ front) = subst (FitsOps limits) (sym joined) fits in
      ap (λ (b : Bool). if b then runs_beside limits (run ++ op ∷ []) (front ++ rest) else suc (runs_beside limits (op ∷ []) (front ++ rest))) (front_within each (run ++ op ∷ []) front whole)
      ∙ run_takes each front rest (run ++ op ∷ []) whole
      ∙ ap (λ r. runs_beside limits r rest) joined

  -- behind a run that takes no more begin all runs of the rest
  behind_run : (run rest : List SizedOp) → ((op : SizedOp) (after : List SizedOp) → rest ≡ op ∷ after → keeps_within limits (run ++ op ∷ []) ≡ false) → runs_beside limits run rest ≡ op_runs limits rest
  behind_run run [] blocked = refl
  behind_run run (op ∷ rest) blocked = ap (λ (b : Bool). if b then runs_beside limits (run ++ op ∷ []) rest else suc (runs_beside limits (op ∷ []) rest)) (blocked op rest refl)

  -- behind the longest front of ops there is one run fewer
  pub fewer_runs : (ops : List SizedOp) (count : ℕ) → IsLongestFront (FitsOps limits) ops count → 0 < count → 1 + op_runs limits (drop count ops) ≤ op_runs limits ops
  fewer_runs ops zero longest some = absurd (omega (arith, some))
  fewer_runs [] (suc m) longest some = absurd (let within = longest.within in omega (arith, within))
  fewer_runs (op ∷ ops) (suc m) longest some =
      let fits : FitsOps limits (op ∷ take m ops) = longest.fits in
      let each : 0 < limits.each = All-head (λ op. 0 < limits.each) op (take m ops) fits.each in
      let blocked : (next : SizedOp) (after : List SizedOp) → drop m ops ≡ next ∷ after → keeps_within limits ((op ∷ take m ops) ++ next ∷ []) ≡ false
      = λ next after is. blocked_by (op ∷ take m ops) next fits (λ more.
      let long : length ops - m ≡ suc (length after) = sym (length-drop m ops) ∙ ap length is in
      let taken : take (suc (suc m)) (op ∷ ops) ≡ (op ∷ take m ops) ++ next ∷ [] = ap (λ rest. op ∷ rest) (next_taken m ops next after is) in
      longest.longest (suc (suc m)) (omega arith) (omega (arith, long)) (subst (FitsOps limits) (sym taken) more)) in
      let same : runs_beside limits (op ∷ []) ops ≡ op_runs limits (drop m ops)
      = ap (runs_beside limits (op ∷ [])) (sym (take-append-drop m ops))
      ∙ run_takes each (take m ops) (drop m ops) (op ∷ []) fits
      ∙ behind_run (op ∷ take m ops) (drop m ops) blocked in
      omega (arith, same)

-- where the setup is told or not: a batch takes one number at least, and leaves one fewer
pub fewer_numbers : (setup : Option Setup) (options : BulkWriteOptions) (verbose : Bool) (ops : List SizedOp) (count : ℕ) (description : Description) → IfSome setup (λ found. description ≡ found.description)
    → IsLongestFront (FitsOps (bulk_limits options verbose description)) ops count → 0 < count → count ≤ length ops
    → 1 + numbers_for setup options verbose (drop count ops) ≤ numbers_for setup options verbose ops
fewer_numbers None options verbose ops count description told longest some within = omega (arith, length-drop count ops, some, within)
fewer_numbers (Some setup) options verbose ops count description told longest some within =
    fewer_runs (bulk_limits options verbose setup.description) ops count (subst (λ d. IsLongestFront (FitsOps (bulk_limits options verbose d)) ops count) told longest) some

pub some_number : (setup : Option Setup) (options : BulkWriteOptions) (verbose : Bool) (ops : List SizedOp) → 0 < length ops → 1 ≤ numbers_for setup options verbose ops
some_number None options verbose ops some = omega (arith, some)
some_number (Some setup) options verbose [] some = absurd (omega (arith, some))
some_number (Some setup) options verbose (op ∷ ops) some = omega arith
