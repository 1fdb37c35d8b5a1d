-- No write twice: lists of entries whose places differ.
use Rattle.std.proofs.Common.{◌≡◌, ◌≢◌, ℕ, suc, List, [], ◌∷◌, ◌++◌, refl, sym, ap, ◌∙◌, inl, inr, arith}
use Rattle.std.specs.Prelude.{ℤ, Option}
use Rattle.driver_link.specs.declared.machine.Entry.{Entry}
use Rattle.driver_link.specs.declared.machine.Place.{Place}
use Rattle.driver_link.specs.declared.machine.PlacedWrite.{PlacedWrite}
use Rattle.driver_link.specs.declared.machine.Statement.{Statement}
use Rattle.driver_link.specs.declared.machine.Statement.TheVariants.{Kept, Ran, Failed}
use Rattle.driver_link.specs.Once.{NoneAt, Once}
use Rattle.driver_link.specs.Settled.{Has, PlacesApart}
use Rattle.driver_link.specs.Statements.{entries_of}
use Rattle.driver_link.proofs.KeptStatements.{entry_from}

pub none_at : (place : Place) (log : List Entry) → ((entry : Entry) → Has log entry → entry.place ≢ place) → NoneAt place log
none_at place [] differ = tt
none_at place (entry ∷ log) differ = (differ entry (inl refl), none_at place log (λ other has. differ other (inr has)))

none_append : (place : Place) (log more : List Entry) → NoneAt place log → NoneAt place more → NoneAt place (log ++ more)
none_append place [] more none rest = rest
none_append place (entry ∷ log) more none rest = (none.0, none_append place log more none.1 rest)

-- two logs without a common place
pub once_append : (log more : List Entry) → Once log → Once more → ((a b : Entry) → Has log a → Has more b → a.place ≢ b.place) → Once (log ++ more)
once_append [] more once rest apart = rest
once_append (entry ∷ log) more once rest apart = (
  none_append entry.place log more once.0 (none_at entry.place more (λ other has same. apart entry other (inl refl) has (sym same))),
  once_append log more once.1 rest (λ a b left right. apart a b (inr left) right),
)

tail_places : (first : PlacedWrite) (writes : List PlacedWrite) → PlacesApart (first ∷ writes) → PlacesApart writes
tail_places first writes apart = λ i j v w at_i at_j same. let e = apart (suc i) (suc j) v w at_i at_j same in omega (arith, e)

-- the entries of writes whose places differ: no write twice
pub once_entries : (session : Option (List ℕ)) (number : Option ℤ) (writes : List PlacedWrite) (done : List Statement) → PlacesApart writes
    → Once (entries_of session number writes done)
unfolding entries_of
once_entries session number [] done apart = tt
once_entries session number (write ∷ writes) [] apart = tt
once_entries session number (write ∷ writes) (Kept result ∷ done) apart = once_entries session number writes done (tail_places write writes apart)
once_entries session number (write ∷ writes) (Failed code ∷ done) apart = once_entries session number writes done (tail_places write writes apart)
once_entries session number (write ∷ writes) (Ran result ∷ done) apart = (
  none_at write.place (entries_of session number writes done) (λ other has same.
      let is = entry_from session number writes done other has in
      let place : is.write.place ≡ write.place = sym (ap (λ e. e.place) is.is) ∙ same in
      let e = apart 0 (suc is.at) write is.write refl is.stands (sym place) in absurd (omega (arith, e))),
  once_entries session number writes done (tail_places write writes apart),
)
