-- Answers that were noted, and the number of the session that is lent next.
use Rattle.std.proofs.Common.{◌≡◌, List, [], refl, sym, ap, subst}
use Rattle.std.specs.Prelude.{Option, None, Some}
use Rattle.std.proofs.lemmas.List.{append-nil}
use Rattle.link_faults.specs.declared.fault.Answered.{Answered}
use Rattle.driver_link.specs.LinkState.{GainsAll}
use Rattle.driver_session.specs.StoreTells.{StoreTells}
use Rattle.driver_attempt.specs.Causes.{next_number}

-- answers that gained nothing
pub notes_nothing : (answers : Option (List Answered)) → GainsAll answers answers []
notes_nothing None = refl
notes_nothing (Some items) = ap (λ all. Some all) (sym (append-nil items))

-- nothing noted, and then these
pub notes_since : (answers mid answers_now : Option (List Answered)) (items : List Answered) → GainsAll answers mid [] → GainsAll mid answers_now items → GainsAll answers answers_now items
notes_since None mid answers_now items same noted = subst (λ told. GainsAll told answers_now items) same noted
notes_since (Some told) mid answers_now items same noted =
    subst (λ all. GainsAll (Some all) answers_now items) (append-nil told) (subst (λ told. GainsAll told answers_now items) same noted)

-- a store that stays lends the same number
pub number_stays : (store mid : StoreTells) → mid ≡ store → next_number mid ≡ next_number store
number_stays store mid stays = ap next_number stays
