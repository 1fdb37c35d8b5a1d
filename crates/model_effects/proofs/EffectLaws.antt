-- An effect that was made beforehand is what a send in its case makes of sessions and log.
use Rattle.std.proofs.Common.{◌≡◌, ℕ, ℤ, true, false, List, [], ◌++◌, Option, None, Some, refl, sym, ◌∙◌}
use Rattle.std.proofs.lemmas.List.{append-nil}
use Rattle.std.specs.FinMap as finite
use Rattle.driver_link.specs.Cases.{is_in_transaction, known_as, known_under}
use Rattle.driver_link.specs.Gathered.{is_numbered}
use Rattle.driver_link.specs.declared.machine.Entry.{Entry}
use Rattle.driver_link.specs.declared.machine.KnownSession.{KnownSession}
use Rattle.driver_link.specs.declared.machine.Send.{Send}
use Rattle.driver_link.specs.declared.machine.Server.{Server}
use Rattle.driver_link.specs.declared.machine.Statement.{Statement}
use Rattle.model_effects.specs.Changes.{effect_in}
use Rattle.model_effects.specs.Does.{Does}
use Rattle.model_effects.specs.Parts.{Makes, parts_as}
use Rattle.model_effects.specs.Seen.{is_outside, is_too_old}
use Rattle.model_effects.specs.declared.cases.Case.{Case}
use Rattle.model_effects.specs.declared.cases.Case.TheVariants as met
use Rattle.model_effects.specs.declared.change.Effect.TheVariants as effect
use Rattle.model_effects.specs.declared.change.SessionStep.{SessionStep}

-- a step of the session that a send names
step_law : (makes : Makes) (case : Case) (id : List ℕ) (number : ℤ) (step : SessionStep) (done : List Statement) (ran : List Entry) (server : Server) (send : Send)
    → is_too_old case ≡ false
    → ((known : KnownSession) → Does makes step case done ran known)
    → effect_in (effect.Taken id number (is_in_transaction send) send.start step false) server ≡ parts_as makes (Some id) (Some number) case done ran server send
unfolding effect_in parts_as known_as
step_law makes met.TooOld id number step done ran server send early does = let no = early in cc
step_law makes case id number step done ran server send early does =
    let now = does (known_under id number server send) in λ i. record server { sessions = finite.insert server.sessions id (now.session i); log = now.log server.log i }

-- the same of a send that names its session and number
pub taken_law : (makes : Makes) (case : Case) (id : List ℕ) (number : ℤ) (step : SessionStep) (done : List Statement) (ran : List Entry) (server : Server) (send : Send)
    → send.session ≡ Some id → send.number ≡ Some number → is_too_old case ≡ false
    → ((known : KnownSession) → Does makes step case done ran known)
    → effect_in (effect.Taken id number (is_in_transaction send) send.start step false) server ≡ parts_as makes send.session send.number case done ran server send
taken_law makes case id number step done ran server send session_is number_is early does =
    step_law makes case id number step done ran server send early does
    ∙ λ i. parts_as makes (sym session_is i) (sym number_is i) case done ran server send

-- a server whose log gains nothing stays as it is
nothing_added : (server : Server) → server ≡ record server { log = server.log ++ [] }
nothing_added server = λ i. record server { log = sym (append-nil server.log) i }

-- a number that is too old changes nothing
pub old_law : (makes : Makes) (case : Case) (session : Option (List ℕ)) (number : Option ℤ) (done : List Statement) (ran : List Entry) (server : Server) (send : Send)
    → is_too_old case ≡ true → effect_in effect.Nothing server ≡ parts_as makes session number case done ran server send
unfolding effect_in parts_as
old_law makes met.TooOld session number done ran server send old = nothing_added server
old_law makes case session number done ran server send old = let no = old in cc

-- statements without a number enter the log
pub logged_law : (makes : Makes) (session : Option (List ℕ)) (number : Option ℤ) (done : List Statement) (ran entries : List Entry) (server : Server) (send : Send)
    → is_numbered session number ≡ false → entries ≡ ran → effect_in (effect.Logged entries) server ≡ parts_as makes session number met.Outside done ran server send
unfolding effect_in parts_as known_as
logged_law makes None number done ran entries server send none is = λ i. record server { log = server.log ++ is i }
logged_law makes (Some id) None done ran entries server send none is = λ i. record server { log = server.log ++ is i }
logged_law makes (Some id) (Some number) done ran entries server send none is = let no = none in cc

-- all else without a number changes nothing
pub nothing_law : (makes : Makes) (case : Case) (session : Option (List ℕ)) (number : Option ℤ) (done : List Statement) (ran : List Entry) (server : Server) (send : Send)
    → is_numbered session number ≡ false → is_outside case ≡ false → effect_in effect.Nothing server ≡ parts_as makes session number case done ran server send
unfolding effect_in parts_as known_as
nothing_law makes met.Outside session number done ran server send none other = let no = other in cc
nothing_law makes met.TooOld session number done ran server send none other = nothing_added server
nothing_law makes case None number done ran server send none other = nothing_added server
nothing_law makes case (Some id) None done ran server send none other = nothing_added server
nothing_law makes case (Some id) (Some number) done ran server send none other = let no = none in cc

-- a case that is not outside
pub other_law : (case : Case) → (case ≡ met.Outside → ⊥) → is_outside case ≡ false
other_law met.Outside other = absurd (other refl)
other_law case other = refl
