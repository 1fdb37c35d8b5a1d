-- How many runs ops are cut into is how many the fewest cut has.
use Rattle.std.proofs.Common.{◌≡◌, ℕ, suc, ◌+◌, ◌-◌, ◌<◌, ◌≤◌, Bool, true, false, List, [], ◌∷◌, ◌++◌, length, length-append, take, refl, sym, ap, subst, ◌∙◌, append_assoc, inl, inr, arith}
use Rattle.std.proofs.lemmas.List.{take_at}
use Rattle.std.proofs.lemmas.List.Elements.{All-head}
use Rattle.std.specs.List.{AllByRecursion, flat_map}
use Rattle.std.specs.Prelude.{if◌then◌else◌}
use Rattle.driver_batches.specs.declared.sizes.Limits.{Limits}
use Rattle.driver_batches.specs.Batches.{CutsFront, IsFewest, IsGreedyCut}
use Rattle.driver_batches.proofs.Greedy.{greedy_law}
use Rattle.bulk_fronts.specs.declared.own_op.SizedOp.{SizedOp}
use Rattle.bulk_fronts.specs.BulkFronts.{FitsOps}
use Rattle.bulk_fronts.proofs.BulkFronts.{fits_none}
use Rattle.bulk_ops.proofs.DistinctSums.{ops_keep_fit}
use Rattle.bulk_actions.specs.BulkNumbers.{keeps_within, op_runs, runs_beside}
use Rattle.bulk_actions.proofs.OpRuns.{front_within, pushed_fits}

-- the front of a list is taken past a front of it
take_past : {A : Type 0} (run xs : List A) (more : ℕ) → take (length run + more) (run ++ xs) ≡ run ++ take more xs
take_past [] xs more = ap (λ n. take n xs) (let e : 0 + more ≡ more = omega arith in e)
take_past (x ∷ run) xs more =
    ap (λ n. take n (x ∷ (run ++ xs))) (let e : suc (length run) + more ≡ suc (length run + more) = omega arith in e) ∙ ap (λ rest. x ∷ rest) (take_past run xs more)

-- what holds of each of two lists holds of both
each_of_both : {A : Type 0} (P : A → Type 0) (xs ys : List A) → AllByRecursion P xs → AllByRecursion P ys → AllByRecursion P (xs ++ ys)
each_of_both P [] ys each rest = rest
each_of_both P (x ∷ xs) ys each rest = (each.0, each_of_both P xs ys each.1 rest)

-- a list with something at its end is not empty
not_nothing : {A : Type 0} (run : List A) (x : A) → run ++ x ∷ [] ≡ [] → ⊥
not_nothing run x is = let long : length (run ++ x ∷ []) ≡ 0 = ap length is in omega (arith, long, length-append run (x ∷ []))

module _ (limits : Limits) where
  -- an op keeps to the limits by itself
  abbrev IsAlone : SizedOp → Type 0
  IsAlone op = FitsOps limits (op ∷ [])

  -- so does each op of a run that does
  alone_in : (run : List SizedOp) → FitsOps limits run → AllByRecursion IsAlone run
  alone_in [] fits = tt
  alone_in (op ∷ rest) fits =
      let each : 0 < limits.each = All-head (λ (op : SizedOp). 0 < limits.each) op rest fits.each in
      let here : IsAlone op = pushed_fits limits [] op (fits_none limits) (front_within limits each (op ∷ []) rest fits) in
      elim (ops_keep_fit limits op rest fits) [
        | inl none ↦ (here, subst (AllByRecursion IsAlone) (sym none) tt)
        | inr left ↦ (here, alone_in rest left)
      ]

  -- and each op of runs that do
  alone_of_runs : (runs : List (List SizedOp)) → AllByRecursion (FitsOps limits) runs → AllByRecursion IsAlone (flat_map (λ run. run) runs)
  alone_of_runs [] each = tt
  alone_of_runs (run ∷ runs) each = each_of_both IsAlone run (flat_map (λ run. run) runs) (alone_in run each.0) (alone_of_runs runs each.1)

  -- the runs that ops begin behind a run that has these already
  cut_beside : List SizedOp → List SizedOp → List (List SizedOp)
  cut_beside run [] = run ∷ []
  cut_beside run (op ∷ ops) = if keeps_within limits (run ++ op ∷ []) then cut_beside (run ++ op ∷ []) ops else run ∷ cut_beside (op ∷ []) ops

  -- they are as many as they are counted
  cut_counted : (run ops : List SizedOp) → length (cut_beside run ops) ≡ suc (runs_beside limits run ops)
  unfolding cut_beside
  cut_counted run [] = refl
  cut_counted run (op ∷ ops) =
      elim (keeps_within limits (run ++ op ∷ [])) as (λ (b : Bool). length (if b then cut_beside (run ++ op ∷ []) ops else run ∷ cut_beside (op ∷ []) ops)
      ≡ suc (if b then runs_beside limits (run ++ op ∷ []) ops else suc (runs_beside limits (op ∷ []) ops))) [
        | true ↦ cut_counted (run ++ op ∷ []) ops
        | false ↦ ap suc (cut_counted (op ∷ []) ops)
      ]

  -- a front with an op that keeps to them says that a document may have a byte
  each_of : (front : List SizedOp) → (front ≡ [] → ⊥) → (rest : List SizedOp) → FitsOps limits (front ++ rest) → 0 < limits.each
  each_of [] some rest fits = absurd (some refl)
  each_of (first ∷ front) some rest fits = All-head (λ (op : SizedOp). 0 < limits.each) first (front ++ rest) fits.each

  -- a run that keeps to the limits, and not with the next op, is the longest front
  is_front : (run : List SizedOp) (op : SizedOp) (ops : List SizedOp) → (run ≡ [] → ⊥) → FitsOps limits run → keeps_within limits (run ++ op ∷ []) ≡ false → CutsFront (FitsOps limits) (run ++ op ∷ ops) run (op ∷ ops)
  is_front run op ops some fits blocked = record {
    whole = refl;
    some = some;
    longest = record {
      within = omega (arith, length-append run (op ∷ ops));
      fits = subst (FitsOps limits) (sym (take_at run (op ∷ ops) (length run) refl)) fits;
      longest = λ longer past within more. too_long longer past more;
    };
  }
    where
      too_long : (longer : ℕ) → length run < longer → FitsOps limits (take longer (run ++ op ∷ ops)) → ⊥
      too_long longer past more = by_rest (longer - (length run + 1)) (omega (arith, past))
        where
          by_rest : (rest : ℕ) → longer ≡ length run + suc rest → ⊥
          by_rest rest is =
              let taken : take longer (run ++ op ∷ ops) ≡ (run ++ op ∷ []) ++ take rest ops
              = ap (λ n. take n (run ++ op ∷ ops)) is ∙ take_past run (op ∷ ops) (suc rest) ∙ sym (append_assoc run (op ∷ []) (take rest ops)) in
              let fits_more : FitsOps limits ((run ++ op ∷ []) ++ take rest ops) = subst (FitsOps limits) taken more in
              let each : 0 < limits.each = each_of (run ++ op ∷ []) (not_nothing run op) (take rest ops) fits_more in
              let e : true ≡ false = sym (front_within limits each (run ++ op ∷ []) (take rest ops) fits_more) ∙ blocked in cc

  -- so the runs are cut as longest fronts, one after another
  cut_greedy : (run ops : List SizedOp) → (run ≡ [] → ⊥) → FitsOps limits run → AllByRecursion IsAlone ops → IsGreedyCut (FitsOps limits) (run ++ ops) (cut_beside run ops)
  unfolding cut_beside
  cut_greedy run [] some fits alone = (
    [],
    record {
      whole = refl;
      some = some;
      longest = record {
        within = omega (arith, length-append run []);
        fits = subst (FitsOps limits) (sym (take_at run [] (length run) refl)) fits;
        longest = λ longer past within more. omega (arith, past, within, length-append run []);
      };
    },
    refl,
  )
  cut_greedy run (op ∷ ops) some fits alone =
      elim (keeps_within limits (run ++ op ∷ [])) as (λ (b : Bool). keeps_within limits (run ++ op ∷ []) ≡ b
      → IsGreedyCut (FitsOps limits) (run ++ op ∷ ops) (if b then cut_beside (run ++ op ∷ []) ops else run ∷ cut_beside (op ∷ []) ops)) [
        | true ↦ λ is.
            subst (λ list. IsGreedyCut (FitsOps limits) list (cut_beside (run ++ op ∷ []) ops)) (append_assoc run (op ∷ []) ops)
            (cut_greedy (run ++ op ∷ []) ops (not_nothing run op) (pushed_fits limits run op fits is) alone.1)
        | false ↦ λ is. (op ∷ ops, is_front run op ops some fits is, cut_greedy (op ∷ []) ops (not_nothing [] op) alone.0 alone.1)
      ] refl

  -- so they are the fewest
  counted_fewest : (ops : List SizedOp) (runs : List (List SizedOp)) → AllByRecursion IsAlone ops → IsFewest (FitsOps limits) ops runs → op_runs limits ops ≡ length runs
  counted_fewest [] runs alone fewest = let none : length runs ≤ 0 = fewest.fewest [] (record { whole = refl; each = tt }) in omega (arith, none)
  counted_fewest (op ∷ ops) runs alone fewest =
      let cut = greedy_law (FitsOps limits) (ops_keep_fit limits) (op ∷ ops) (cut_beside (op ∷ []) ops) (cut_greedy (op ∷ []) ops (not_nothing [] op) alone.0 alone.1) in
      let counted = cut_counted (op ∷ []) ops in
      let few : length (cut_beside (op ∷ []) ops) ≤ length runs = cut.fewest runs fewest.partition in
      let least : length runs ≤ length (cut_beside (op ∷ []) ops) = fewest.fewest (cut_beside (op ∷ []) ops) cut.partition in
      omega (arith, counted, few, least)

  pub runs_are_fewest : (ops : List SizedOp) (runs : List (List SizedOp)) → IsFewest (FitsOps limits) ops runs → op_runs limits ops ≡ length runs
  runs_are_fewest ops runs fewest =
      counted_fewest ops runs (subst (AllByRecursion IsAlone) fewest.partition.whole (alone_of_runs runs fewest.partition.each)) fewest
