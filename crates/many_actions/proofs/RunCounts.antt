-- How many runs documents are cut into: behind their longest front there is one run fewer, and no cut that keeps to the limits has
-- fewer runs.
use Rattle.std.proofs.Common.{◌≡◌, ℕ, suc, ◌+◌, ◌<◌, ◌≤◌, Bool, true, false, List, [], ◌∷◌, ◌++◌, sum, drop, length, length-append, length-drop, length-take-le, take, take-append-drop, take_at, refl, sym, ap, subst, ◌∙◌, append_assoc, arith}
use Rattle.std.proofs.lemmas.Bool.{and_from, and_parts, le-leb, leb-true, lt-ltb, ltb-true}
use Rattle.std.proofs.lemmas.List.Elements.{All-push, recursion_from_All}
use Rattle.std.proofs.lemmas.List.Sums.{sum_by-cons, sum_by_push}
use Rattle.std.specs.List.{AllByRecursion, flat_map}
use Rattle.std.specs.Prelude.{Option, None, Some, IfSome, nat_le, nat_lt, ◌&&◌, if◌then◌else◌}
use Rattle.bson_lite.specs.declared.namespace.Namespace.{Namespace}
use Rattle.driver_options.specs.declared.write_options.InsertManyOptions.{InsertManyOptions}
use Rattle.driver_batches.specs.declared.sizes.Limits.{Limits}
use Rattle.driver_batches.specs.Batches.{IsPartition}
use Rattle.driver_batches.specs.Fronts.{IsLongestFront}
use Rattle.driver_batches.specs.Sizes.{Fits}
use Rattle.driver_link.specs.declared.machine.Setup.{Setup}
use Rattle.write_ops.specs.InsertFronts.{insert_limits}
use Rattle.many_actions.specs.Numbers.{goes_in, numbers_for, runs_beside, runs_of}

-- what counts one and more is at least one
at_least_one : (n : ℕ) → 1 ≤ suc n
at_least_one n = omega arith

-- one fewer and one
one_fewer : (n m : ℕ) → n ≡ suc m → 1 + m ≤ n
one_fewer n m is = omega (arith, is)

-- a count that is within another is within one more
one_above : (n m : ℕ) → n ≤ m → n ≤ suc m
one_above n m within = omega (arith, within)

-- one run and those of the rest
run_above : (n more rest m : ℕ) → n ≡ suc more → more ≤ rest → rest ≤ m → n ≤ suc m
run_above n more rest m is alone within = omega (arith, is, alone, within)

module _ (limits : Limits) where
  -- each document is within its own limit
  abbrev EachWithin : List ℕ → Type 0
  EachWithin sizes = AllByRecursion (λ size. size ≤ limits.each) sizes

  -- a run has room for a document
  record HasRoom (items bytes size : ℕ) : Type 0 where
    few : items < limits.items
    small : size ≤ limits.each
    short : bytes + size ≤ limits.bytes

  -- then it goes in
  goes : (items bytes size : ℕ) → HasRoom items bytes size → goes_in limits items bytes size ≡ true
  goes items bytes size room =
      and_from (nat_lt items limits.items) (nat_le size limits.each && nat_le (bytes + size) limits.bytes) (lt-ltb items limits.items room.few)
      (and_from (nat_le size limits.each) (nat_le (bytes + size) limits.bytes) (le-leb size limits.each room.small) (le-leb (bytes + size) limits.bytes room.short))

  -- and only then
  room_for : (items bytes size : ℕ) → goes_in limits items bytes size ≡ true → HasRoom items bytes size
  room_for items bytes size is =
      let first = and_parts (nat_lt items limits.items) (nat_le size limits.each && nat_le (bytes + size) limits.bytes) is in
      let rest = and_parts (nat_le size limits.each) (nat_le (bytes + size) limits.bytes) first.1 in record {
        few = ltb-true items limits.items first.0;
        small = leb-true size limits.each rest.0;
        short = leb-true (bytes + size) limits.bytes rest.1;
      }

  -- one that goes in begins no run
  beside_more : (items bytes size : ℕ) (sizes : List ℕ) → goes_in limits items bytes size ≡ true → runs_beside limits items bytes (size ∷ sizes) ≡ runs_beside limits (items + 1) (bytes + size) sizes
  beside_more items bytes size sizes is = ap (λ (there : Bool). if there then runs_beside limits (items + 1) (bytes + size) sizes else suc (runs_beside limits 1 size sizes)) is

  -- one that does not begins one
  beside_new : (items bytes size : ℕ) (sizes : List ℕ) → goes_in limits items bytes size ≡ false → runs_beside limits items bytes (size ∷ sizes) ≡ suc (runs_beside limits 1 size sizes)
  beside_new items bytes size sizes is = ap (λ (there : Bool). if there then runs_beside limits (items + 1) (bytes + size) sizes else suc (runs_beside limits 1 size sizes)) is

  -- documents that keep to the limits with a run go in, all of them
  run_takes : (front rest : List ℕ) (items bytes all together : ℕ) → all ≡ items + length front → together ≡ bytes + sum front → EachWithin front → all ≤ limits.items → together ≤ limits.bytes
      → runs_beside limits items bytes (front ++ rest) ≡ runs_beside limits all together rest
  run_takes [] rest items bytes all together all_is together_is small few short =
      let same_items : items ≡ all = omega (arith, all_is) in
      let same_bytes : bytes ≡ together = omega (arith, together_is) in
      ap (λ n. runs_beside limits n bytes rest) same_items ∙ ap (λ n. runs_beside limits all n rest) same_bytes
  run_takes (size ∷ front) rest items bytes all together all_is together_is small few short =
      let sums : sum (size ∷ front) ≡ size + sum front = sum_by-cons (λ x. x) size front in
      let room : HasRoom items bytes size = record { few = omega (arith, all_is, few); small = small.0; short = omega (arith, together_is, sums, short) } in
      beside_more items bytes size (front ++ rest) (goes items bytes size room)
      ∙ run_takes front rest (items + 1) (bytes + size) all together (omega (arith, all_is)) (omega (arith, together_is, sums)) small.1 few short

  -- so a run that keeps to the limits is one run
  whole_run : (first : ℕ) (front rest : List ℕ) → Fits limits (first ∷ front) → runs_of limits ((first ∷ front) ++ rest) ≡ suc (runs_beside limits (length (first ∷ front)) (sum (first ∷ front)) rest)
  whole_run first front rest fits =
      let small = recursion_from_All (λ size. size ≤ limits.each) (first ∷ front) fits.each in
      ap suc (run_takes front rest 1 first (length (first ∷ front)) (sum (first ∷ front)) (omega arith) (sum_by-cons (λ x. x) first front) small.1 fits.items fits.bytes)

  -- the next document does not go into a run
  abbrev Blocked : ℕ → ℕ → List ℕ → Type 0
  Blocked items bytes [] = Unit {0}
  Blocked items bytes (size ∷ sizes) = goes_in limits items bytes size ≡ false

  -- behind a run that takes no more begin all runs of the rest
  behind_blocked : (items bytes : ℕ) (rest : List ℕ) → Blocked items bytes rest → runs_beside limits items bytes rest ≡ runs_of limits rest
  behind_blocked items bytes [] blocked = refl
  behind_blocked items bytes (size ∷ rest) blocked = beside_new items bytes size rest blocked

  -- no longer front of a list keeps to the limits
  abbrev NoLonger : List ℕ → List ℕ → Type 0
  NoLonger front rest = (longer : ℕ) → length front < longer → longer ≤ length (front ++ rest) → Fits limits (take longer (front ++ rest)) → ⊥

  -- a document that goes into a run keeps to the limits with it
  pushed_fits : (front : List ℕ) (size : ℕ) → Fits limits front → HasRoom (length front) (sum front) size → Fits limits (front ++ size ∷ [])
  pushed_fits front size fits room =
      let sums : sum (front ++ size ∷ []) ≡ sum front + size = sum_by_push (λ x. x) front size in
      let few = room.few in
      let short = room.short in record {
        items = omega (arith, length-append front (size ∷ []), few);
        each = All-push (λ s. s ≤ limits.each) front size fits.each room.small;
        bytes = omega (arith, sums, short);
      }

  -- so behind the longest front the next one does not go in
  next_blocked : (front rest : List ℕ) → Fits limits front → NoLonger front rest → Blocked (length front) (sum front) rest
  next_blocked front [] fits longest = tt
  next_blocked front (size ∷ rest) fits longest = by_test (goes_in limits (length front) (sum front) size) refl
    where
      by_test : (found : Bool) → goes_in limits (length front) (sum front) size ≡ found → goes_in limits (length front) (sum front) size ≡ false
      by_test false is = is
      by_test true is =
          let long : length (front ++ size ∷ []) ≡ length front + 1 = length-append front (size ∷ []) in
          let whole : length (front ++ size ∷ rest) ≡ length front + length (size ∷ rest) = length-append front (size ∷ rest) in
          let front_is : take (length front + 1) (front ++ size ∷ rest) ≡ front ++ size ∷ []
          = ap (take (length front + 1)) (sym (append_assoc front (size ∷ []) rest)) ∙ take_at (front ++ size ∷ []) rest (length front + 1) long in
          absurd (longest (length front + 1) (omega arith) (omega (arith, whole))
          (subst (Fits limits) (sym front_is) (pushed_fits front size fits (room_for (length front) (sum front) size is))))

  -- behind a longest front that has a document there is one run fewer
  front_and_rest : (front rest : List ℕ) → 0 < length front → Fits limits front → NoLonger front rest → runs_of limits (front ++ rest) ≡ suc (runs_of limits rest)
  front_and_rest [] rest some fits longest = absurd (omega (arith, some))
  front_and_rest (first ∷ front) rest some fits longest =
      whole_run first front rest fits ∙ ap suc (behind_blocked (length (first ∷ front)) (sum (first ∷ front)) rest (next_blocked (first ∷ front) rest fits longest))

  front_runs : (sizes : List ℕ) (count : ℕ) → 0 < count → IsLongestFront (Fits limits) sizes count → runs_of limits sizes ≡ suc (runs_of limits (drop count sizes))
  front_runs sizes count some front =
      let whole : take count sizes ++ drop count sizes ≡ sizes = take-append-drop count sizes in
      let long : length (take count sizes) ≡ count = length-take-le count sizes front.within in
      ap (runs_of limits) (sym whole)
      ∙ front_and_rest (take count sizes) (drop count sizes) (omega (arith, long, some)) front.fits
      (λ longer above within fits. front.longest longer (omega (arith, long, above)) (subst (λ s. longer ≤ length s) whole within) (subst (λ s. Fits limits (take longer s)) whole fits))

  -- whatever stands in a run, at most one run more begins behind another, and none more behind one that has as much in it
  record Steady (sizes : List ℕ) : Type 0 where
    most : (a b c d : ℕ) → runs_beside limits a b sizes ≤ suc (runs_beside limits c d sizes)
    less : (a b c d : ℕ) → a ≤ c → b ≤ d → runs_beside limits a b sizes ≤ runs_beside limits c d sizes

  -- a run with less in it has room where one with more has
  room_less : (a b c d size : ℕ) → a ≤ c → b ≤ d → HasRoom c d size → HasRoom a b size
  room_less a b c d size fewer shorter room =
      let few = room.few in
      let short = room.short in
      record { few = omega (arith, fewer, few); small = room.small; short = omega (arith, shorter, short) }

  module _ (size : ℕ) (sizes : List ℕ) (rest : Steady sizes) (a b c d : ℕ) where
    one_most : (here there : Bool) → goes_in limits a b size ≡ here → goes_in limits c d size ≡ there → runs_beside limits a b (size ∷ sizes) ≤ suc (runs_beside limits c d (size ∷ sizes))
    one_most true true in_here in_there = omega (arith, beside_more a b size sizes in_here, beside_more c d size sizes in_there, rest.most (a + 1) (b + size) (c + 1) (d + size))
    one_most true false in_here in_there = omega (arith, beside_more a b size sizes in_here, beside_new c d size sizes in_there, rest.most (a + 1) (b + size) 1 size)
    one_most false true in_here in_there =
        omega (arith, beside_new a b size sizes in_here, beside_more c d size sizes in_there, rest.less 1 size (c + 1) (d + size) (omega arith) (omega arith))
    one_most false false in_here in_there = omega (arith, beside_new a b size sizes in_here, beside_new c d size sizes in_there)

    one_less : a ≤ c → b ≤ d → (here there : Bool) → goes_in limits a b size ≡ here → goes_in limits c d size ≡ there → runs_beside limits a b (size ∷ sizes) ≤ runs_beside limits c d (size ∷ sizes)
    one_less fewer shorter true true in_here in_there =
        omega (arith, beside_more a b size sizes in_here, beside_more c d size sizes in_there, rest.less (a + 1) (b + size) (c + 1) (d + size) (omega (arith, fewer)) (omega (arith, shorter)))
    one_less fewer shorter true false in_here in_there = omega (arith, beside_more a b size sizes in_here, beside_new c d size sizes in_there, rest.most (a + 1) (b + size) 1 size)
    one_less fewer shorter false true in_here in_there =
        absurd (let e : ◌≡◌ {A = Bool} true false = sym (goes a b size (room_less a b c d size fewer shorter (room_for c d size in_there))) ∙ in_here in cc)
    one_less fewer shorter false false in_here in_there = omega (arith, beside_new a b size sizes in_here, beside_new c d size sizes in_there)

  steady : (sizes : List ℕ) → Steady sizes
  steady [] = record { most = λ a b c d. omega arith; less = λ a b c d fewer shorter. omega arith }
  steady (size ∷ sizes) =
      let rest = steady sizes in record {
        most = λ a b c d. one_most size sizes rest a b c d (goes_in limits a b size) (goes_in limits c d size) refl refl;
        less = λ a b c d fewer shorter. one_less size sizes rest a b c d fewer shorter (goes_in limits a b size) (goes_in limits c d size) refl refl;
      }

  -- behind a run there begin no more than alone
  beside_alone : (items bytes : ℕ) (rest : List ℕ) → runs_beside limits items bytes rest ≤ runs_of limits rest
  beside_alone items bytes [] = omega arith
  beside_alone items bytes (size ∷ rest) = by_test (goes_in limits items bytes size) refl
    where
      by_test : (found : Bool) → goes_in limits items bytes size ≡ found → runs_beside limits items bytes (size ∷ rest) ≤ suc (runs_beside limits 1 size rest)
      by_test true is = omega (arith, beside_more items bytes size rest is, (steady rest).most (items + 1) (bytes + size) 1 size)
      by_test false is = omega (arith, beside_new items bytes size rest is)

  -- runs that keep to the limits are no fewer
  no_fewer : (runs : List (List ℕ)) → AllByRecursion (Fits limits) runs → runs_of limits (flat_map (λ run. run) runs) ≤ length runs
  no_fewer [] each = omega arith
  no_fewer ([] ∷ runs) each = one_above (runs_of limits (flat_map (λ (run : List ℕ). run) runs)) (length runs) (no_fewer runs each.1)
  no_fewer ((first ∷ front) ∷ runs) each =
      let left = flat_map (λ (run : List ℕ). run) runs in
      run_above (runs_of limits ((first ∷ front) ++ left)) (runs_beside limits (length (first ∷ front)) (sum (first ∷ front)) left) (runs_of limits left) (length runs)
      (whole_run first front left each.0) (beside_alone (length (first ∷ front)) (sum (first ∷ front)) left) (no_fewer runs each.1)

  pub no_cut_has_fewer : (sizes : List ℕ) (runs : List (List ℕ)) → IsPartition (Fits limits) sizes runs → runs_of limits sizes ≤ length runs
  no_cut_has_fewer sizes runs cut = subst (λ s. runs_of limits s ≤ length runs) cut.whole (no_fewer runs cut.each)

-- documents that are there take a number
pub some_number : (setup : Option Setup) (namespace : Namespace) (options : InsertManyOptions) (sizes : List ℕ) → 0 < length sizes → 1 ≤ numbers_for setup namespace options sizes
some_number None namespace options sizes some = omega (arith, some)
some_number (Some setup) namespace options [] some = absurd (omega (arith, some))
some_number (Some setup) namespace options (size ∷ sizes) some = at_least_one (runs_beside (insert_limits namespace options setup.description) 1 size sizes)

-- behind a batch that took the longest front by the limits of the setup that is told, one number fewer is left to take
pub fewer_numbers : (setup : Option Setup) (namespace : Namespace) (options : InsertManyOptions) (sizes : List ℕ) (count : ℕ) → 0 < count → count ≤ length sizes
    → IfSome setup (λ found. IsLongestFront (Fits (insert_limits namespace options found.description)) sizes count)
    → 1 + numbers_for setup namespace options (drop count sizes) ≤ numbers_for setup namespace options sizes
fewer_numbers None namespace options sizes count some within front = omega (arith, length-drop count sizes, some, within)
fewer_numbers (Some setup) namespace options sizes count some within front =
    let limits = insert_limits namespace options setup.description in one_fewer (runs_of limits sizes) (runs_of limits (drop count sizes)) (front_runs limits sizes count some front)
