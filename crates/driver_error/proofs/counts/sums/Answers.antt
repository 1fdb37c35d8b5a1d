-- Where one sum does not fit, not all do; and where each fits, each is what it should be.
use Rattle.std.proofs.Common.{rules, ◌≡◌, ℤ, ◌+ℤ◌, FitsSigned, to_z, of_z, w64, sym, subst, ap, ◌∙◌}
use Rattle.std.proofs.lemmas.Int.{to_z-of_z}
use Rattle.driver_error.specs.Counts.{five}
use Rattle.driver_error.proofs.counts.sums.Goals as goal

-- a number of 64 bits, read again from its bits
abbrev again : ℤ → ℤ
again x = to_z w64 (of_z w64 x)

-- two numbers that fit, read again from their bits, have the same sum
read_again : (x y : ℤ) → FitsSigned w64 x → FitsSigned w64 y → again x +ℤ again y ≡ x +ℤ y
read_again x y fits_x fits_y = λ i. to_z-of_z w64 x fits_x i +ℤ to_z-of_z w64 y fits_y i

-- that sum does not fit
too_great : (x y : ℤ) → FitsSigned w64 x → FitsSigned w64 y
    → ¬ (FitsSigned w64 (again x +ℤ again y)) → ¬ (FitsSigned w64 (x +ℤ y))
too_great x y fits_x fits_y not_fit fits =
    not_fit (subst (λ z. FitsSigned w64 z) (sym (read_again x y fits_x fits_y)) fits)

-- that sum fits, and so it is the same when it is read again
fitting : (x y sum : ℤ) → FitsSigned w64 x → FitsSigned w64 y
    → FitsSigned w64 (again x +ℤ again y) × (sum ≡ again x +ℤ again y)
    → FitsSigned w64 (x +ℤ y) × (again sum ≡ x +ℤ y)
fitting x y sum fits_x fits_y is =
    let fits : FitsSigned w64 (x +ℤ y) = subst (λ z. FitsSigned w64 z) (read_again x y fits_x fits_y) is.0 in
    (fits, ap (λ z. again z) (is.1 ∙ read_again x y fits_x fits_y) ∙ to_z-of_z w64 (x +ℤ y) fits)

pub returns-in_err-checked_add-2 : goal.returns-in_err-checked_add-2
returns-in_err-checked_add-2 c =
    let fits_x : FitsSigned w64 c.args.counts.matched_count = search rules in
    let fits_y : FitsSigned w64 c.args.more.matched_count = search rules in
    rw c.from_residual-in_err-checked_add-2.ensures (λ fits. too_great
    c.args.counts.matched_count c.args.more.matched_count fits_x fits_y
    c.in_err-checked_add-2.ensures fits.matched)

pub returns-in_err-checked_add-3 : goal.returns-in_err-checked_add-3
returns-in_err-checked_add-3 c =
    let fits_x : FitsSigned w64 c.args.counts.modified_count = search rules in
    let fits_y : FitsSigned w64 c.args.more.modified_count = search rules in
    rw c.from_residual-in_err-checked_add-3.ensures (λ fits. too_great
    c.args.counts.modified_count c.args.more.modified_count fits_x fits_y
    c.in_err-checked_add-3.ensures fits.modified)

pub returns-in_err-checked_add-4 : goal.returns-in_err-checked_add-4
returns-in_err-checked_add-4 c =
    let fits_x : FitsSigned w64 c.args.counts.upserted_count = search rules in
    let fits_y : FitsSigned w64 c.args.more.upserted_count = search rules in
    rw c.from_residual-in_err-checked_add-4.ensures (λ fits. too_great
    c.args.counts.upserted_count c.args.more.upserted_count fits_x fits_y
    c.in_err-checked_add-4.ensures fits.upserted)

pub returns-in_err-checked_add-5 : goal.returns-in_err-checked_add-5
returns-in_err-checked_add-5 c =
    let fits_x : FitsSigned w64 c.args.counts.deleted_count = search rules in
    let fits_y : FitsSigned w64 c.args.more.deleted_count = search rules in
    rw c.from_residual-in_err-checked_add-5.ensures (λ fits. too_great
    c.args.counts.deleted_count c.args.more.deleted_count fits_x fits_y
    c.in_err-checked_add-5.ensures fits.deleted)

pub returns : goal.returns
returns c =
    let inserted : FitsSigned w64 (c.args.counts.inserted_count +ℤ c.args.more.inserted_count)
    × (to_z w64 (of_z w64 c.in_ok-checked_add.field-0)
    ≡ c.args.counts.inserted_count +ℤ c.args.more.inserted_count) =
    fitting c.args.counts.inserted_count c.args.more.inserted_count c.in_ok-checked_add.field-0
    (search rules) (search rules) c.in_ok-checked_add.ensures in
    let matched : FitsSigned w64 (c.args.counts.matched_count +ℤ c.args.more.matched_count)
    × (to_z w64 (of_z w64 c.in_ok-checked_add-2.field-0)
    ≡ c.args.counts.matched_count +ℤ c.args.more.matched_count) =
    fitting c.args.counts.matched_count c.args.more.matched_count c.in_ok-checked_add-2.field-0
    (search rules) (search rules) c.in_ok-checked_add-2.ensures in
    let modified : FitsSigned w64 (c.args.counts.modified_count +ℤ c.args.more.modified_count)
    × (to_z w64 (of_z w64 c.in_ok-checked_add-3.field-0)
    ≡ c.args.counts.modified_count +ℤ c.args.more.modified_count) =
    fitting c.args.counts.modified_count c.args.more.modified_count c.in_ok-checked_add-3.field-0
    (search rules) (search rules) c.in_ok-checked_add-3.ensures in
    let upserted : FitsSigned w64 (c.args.counts.upserted_count +ℤ c.args.more.upserted_count)
    × (to_z w64 (of_z w64 c.in_ok-checked_add-4.field-0)
    ≡ c.args.counts.upserted_count +ℤ c.args.more.upserted_count) =
    fitting c.args.counts.upserted_count c.args.more.upserted_count c.in_ok-checked_add-4.field-0
    (search rules) (search rules) c.in_ok-checked_add-4.ensures in
    let deleted : FitsSigned w64 (c.args.counts.deleted_count +ℤ c.args.more.deleted_count)
    × (to_z w64 (of_z w64 c.in_ok-checked_add-5.field-0)
    ≡ c.args.counts.deleted_count +ℤ c.args.more.deleted_count) =
    fitting c.args.counts.deleted_count c.args.more.deleted_count c.in_ok-checked_add-5.field-0
    (search rules) (search rules) c.in_ok-checked_add-5.ensures in (
      record {
        inserted = inserted.0;
        matched = matched.0;
        modified = modified.0;
        upserted = upserted.0;
        deleted = deleted.0;
      },
      λ i. five (inserted.1 i) (matched.1 i) (modified.1 i) (upserted.1 i) (deleted.1 i),
    )
