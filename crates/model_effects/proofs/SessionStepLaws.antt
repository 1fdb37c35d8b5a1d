-- A step of a session does what serving a send does.
use Rattle.std.proofs.Common.{◌≡◌, ℕ, ◌+◌, ◌||◌, Bool, true, false, List, [], ◌∷◌, ◌++◌, refl, sym, ap, ◌∙◌}
use Rattle.std.proofs.lemmas.List.{append-nil}
use Rattle.std.proofs.lemmas.List.Sums.{take_while-cons}
use Rattle.std.specs.FinMap as finite
use Rattle.bson_lite.specs.Indexed.{insert_each}
use Rattle.driver_link.specs.Gathered.{entries_in}
use Rattle.driver_link.specs.declared.machine.Counted.{Counted}
use Rattle.driver_link.specs.declared.machine.Entry.{Entry}
use Rattle.driver_link.specs.declared.machine.KnownSession.{KnownSession}
use Rattle.driver_link.specs.declared.machine.ServerTransaction.TheVariants as transaction
use Rattle.driver_link.specs.declared.machine.Statement.{Statement}
use Rattle.driver_link.specs.declared.machine.Statement.TheVariants.{Kept, Ran, Failed}
use Rattle.driver_link.specs.Serving.{gathered, session_after}
use Rattle.driver_link.specs.Statements.{Results, negated, is_failed, has_failed, has_run, before_failing, kept_with}
use Rattle.model_effects.specs.Does.{Does}
use Rattle.model_statements.specs.Ran.{ran_at, runs_first}
use Rattle.model_effects.specs.declared.cases.Case.TheVariants as met
use Rattle.model_effects.specs.declared.change.SessionStep.TheVariants as step

-- the results of the statements that ran are those that are kept
pub kept_law : (kept : Results) (at : ℕ) (done : List Statement) → insert_each kept (ran_at at done) ≡ kept_with kept at done
unfolding insert_each ran_at kept_with
kept_law kept at [] = refl
kept_law kept at (Ran result ∷ done) = kept_law (finite.insert kept at result) (at + 1) done
kept_law kept at (Kept result ∷ done) = kept_law kept (at + 1) done
kept_law kept at (Failed code ∷ done) = kept_law kept (at + 1) done

-- a statement ran before the first that failed
pub runs_first_law : (done : List Statement) → runs_first done ≡ has_run (before_failing done)
unfolding runs_first
runs_first_law [] = refl
runs_first_law (Ran result ∷ done) = ap has_run (sym (take_while-cons (λ statement. negated (is_failed statement)) (Ran result) done))
runs_first_law (Failed code ∷ done) = ap has_run (sym (take_while-cons (λ statement. negated (is_failed statement)) (Failed code) done))
runs_first_law (Kept result ∷ done) =
    runs_first_law done ∙ ap has_run (sym (take_while-cons (λ statement. negated (is_failed statement)) (Kept result) done))

pub keeps_does : (done : List Statement) (ran entries : List Entry) (results : List (ℕ × Counted)) (has : Bool) (known : KnownSession)
    → entries ≡ ran → results ≡ ran_at 0 done → has ≡ has_run done → Does session_after (step.Keeps entries results has) met.Outside done ran known
keeps_does done ran entries results has known entries_are results_are has_is = record {
  session =
      let kept : insert_each known.kept results ≡ kept_with known.kept 0 done = ap (insert_each known.kept) results_are ∙ kept_law known.kept 0 done in
      λ i. record known { kept = kept i; ran = known.ran || has_is i };
  log = λ log. ap (λ more. log ++ more) entries_are;
}

pub gathers_does : (done : List Statement) (ran entries : List Entry) (has : Bool) (known : KnownSession)
    → entries ≡ ran → has ≡ runs_first done → has_failed done ≡ false → Does session_after (step.Gathers entries has) met.Gathers done ran known
gathers_does done ran entries has known entries_are has_is none = record {
  session =
      let first : has ≡ has_run (before_failing done) = has_is ∙ runs_first_law done in
      let now : transaction.Running (entries_in known.transaction ++ entries) ≡ gathered (has_failed done) (entries_in known.transaction ++ ran)
      = ap (λ more. transaction.Running (entries_in known.transaction ++ more)) entries_are
      ∙ ap (λ failed. gathered failed (entries_in known.transaction ++ ran)) (sym none) in
      λ i. record known { ran = known.ran || first i; transaction = now i };
  log = λ log. sym (append-nil log);
}

pub fails_does : (done : List Statement) (ran : List Entry) (has : Bool) (known : KnownSession)
    → has ≡ runs_first done → has_failed done ≡ true → Does session_after (step.Fails has) met.Gathers done ran known
fails_does done ran has known has_is some = record {
  session =
      let first : has ≡ has_run (before_failing done) = has_is ∙ runs_first_law done in
      let now : transaction.Aborted ≡ gathered (has_failed done) (entries_in known.transaction ++ ran)
      = ap (λ failed. gathered failed (entries_in known.transaction ++ ran)) (sym some) in
      λ i. record known { ran = known.ran || first i; transaction = now i };
  log = λ log. sym (append-nil log);
}

pub commits_does : (done : List Statement) (ran : List Entry) (known : KnownSession) → Does session_after step.Commits met.Commits done ran known
commits_does done ran known = record { session = refl; log = λ log. refl }

pub ends_does : (done : List Statement) (ran : List Entry) (known : KnownSession) → Does session_after step.Ends met.Aborts done ran known
ends_does done ran known = record { session = refl; log = λ log. sym (append-nil log) }

pub denied_does : (done : List Statement) (ran : List Entry) (known : KnownSession) → Does session_after step.Denied met.Denied done ran known
denied_does done ran known = record { session = refl; log = λ log. sym (append-nil log) }

pub cursor_does : (done : List Statement) (ran : List Entry) (known : KnownSession) → Does session_after step.Stays met.OfCursor done ran known
cursor_does done ran known = record { session = refl; log = λ log. sym (append-nil log) }

pub nothing_does : (done : List Statement) (ran : List Entry) (known : KnownSession) → Does session_after step.Stays met.Nothing done ran known
nothing_does done ran known = record { session = refl; log = λ log. sym (append-nil log) }

pub old_does : (done : List Statement) (ran : List Entry) (known : KnownSession) → Does session_after step.Stays met.TooOld done ran known
old_does done ran known = record { session = refl; log = λ log. sym (append-nil log) }
