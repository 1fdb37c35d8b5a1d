-- The session that an operation holds: where it is from, what its number is before the first send, and that the link's
-- connections take sessions where there is one.
use Rattle.std.proofs.Common.{◌≡◌, ℕ, List, [], ◌∷◌, refl, sym, ap, subst, ◌∙◌, inl, inr}
use Rattle.std.specs.Prelude.{ℤ, Bool, true, false, ◌&&◌, Option, None, Some, IfSome, is_none, is_some, ◌⊎◌, Result, Ok, Err, if◌then◌else◌}
use Rattle.std.specs.Option.{option_map}
use Rattle.std.proofs.lemmas.Bool.{and_parts}
use Rattle.driver_error.specs.declared.error.Error.{Error}
use Rattle.driver_error.specs.declared.kind.ErrorKind.TheVariants as kind
use Rattle.driver_error.specs.Error.{IsAlone}
use Rattle.driver_error.specs.LabelTexts.{no_labels}
use Rattle.driver_options.specs.declared.options.Address.{Address}
use Rattle.driver_options.specs.declared.options.Conn.{Conn}
use Rattle.driver_options.specs.declared.options.Description.{Description}
use Rattle.link_faults.specs.declared.fault.LinkError.{LinkError}
use Rattle.link_faults.specs.declared.fault.LinkError.TheVariants.{Fault, Memory}
use Rattle.driver_link.specs.declared.machine.Setup.{Setup}
use Rattle.driver_link.specs.LinkCalls.{IsTo}
use Rattle.link_faults.specs.Failures.{is_network}
use Rattle.driver_link.proofs.Lists.{none_told}
use Rattle.driver_session.specs.declared.pool.IdleSession.{IdleSession}
use Rattle.driver_session.specs.declared.retryability.Retryability.{Retryability}
use Rattle.driver_session.specs.declared.retryability.Retryability.TheVariants as may
use Rattle.driver_session.specs.Pool.{Pool, session_out}
use Rattle.driver_session.specs.StoreTells.{LendsFrom, LendsSession, StoreTells}
use Rattle.driver_session.specs.Session.{IsAtItsEnd, Numbers, Session, last_number, number_at_its_end}
use Rattle.driver_attempt.specs.AttemptExchanges.{PageAsked, held_after, held_after_answer, held_after_pages}
use Rattle.driver_attempt.specs.Attempting.{asks_session, on_connection}
use Rattle.driver_attempt.specs.Causes.{IsLast, MayBeLast, lent_number, next_number, number_in}
use Rattle.driver_attempt.specs.Holding.{DrawsNumber, DrawsSession, GivesNumber, ExecutionSession, HoldsSession, dirty_session, needs_session}
use Rattle.driver_exec.specs.OperationCauses.{DrawsNumbers}

-- what is true is not false
pub not_both : true ≡ false → ⊥
not_both same = cc

-- without a session the store is as it was
abbrev pub IsUntouched : Option Session → StoreTells → StoreTells → Type 0
IsUntouched None store now = now ≡ store
IsUntouched (Some session) store now = Unit {0}

-- a number is the one that is lent next, where that is told
abbrev pub FitsNumber : Option ℤ → ℤ → Type 0
FitsNumber None number = Unit {0}
FitsNumber (Some next) number = number ≡ next

-- before the first send a session's number is the one that it was lent with
abbrev pub IsFirst : Option Session → Option (Option ℤ) → Option ℤ → Type 0
IsFirst (Some session) None next = FitsNumber next session.number
IsFirst session sent next = Unit {0}

-- where there is a session the link's connections take sessions
abbrev pub TakesSessions : Option Session → Option Setup → Type 0
TakesSessions (Some session) (Some setup) = setup.description.supports_sessions ≡ true
TakesSessions session setup = Unit {0}

-- what is held at one moment of an operation, by the store and the setup at its start
pub record HeldSoFar (store : StoreTells) (setup : Option Setup) (now : StoreTells) (session : Option Session) (sent : Option (Option ℤ)) : Type 0 where
  pub untouched : IsUntouched session store now
  pub first : IsFirst session sent (next_number store)
  pub takes : TakesSessions session setup

-- a description is that of the setup, where that is told
abbrev pub IsOf : Option Setup → Description → Type 0
IsOf None description = Unit {0}
IsOf (Some setup) description = description ≡ setup.description

-- a connection has the description of the setup that was told
pub is_of : (setup told : Option Setup) (address : Address) (conn : Conn) → told ≡ setup → IsTo told address conn → IsOf setup conn.description
is_of setup told address conn same to = subst (λ s. IsOf s conn.description) same (by_told told to)
  where
    by_told : (told : Option Setup) → IsTo told address conn → IsOf told conn.description
    by_told None to = tt
    by_told (Some setup) to = to.1

-- the same in the words of a cause
pub is_told : (setup : Option Setup) (description : Description) → IsOf setup description → IfSome setup (λ told. description ≡ told.description)
is_told None description is = tt
is_told (Some setup) description is = is

-- a session that is lent has the number that was next
lent_fits : (store lent : StoreTells) (at : ℕ) (session : Session) → LendsSession store lent at session → FitsNumber (next_number store) session.number
lent_fits store lent at session lends = by_pool store.pool lends.pool
  where
    number_is : (idle : List IdleSession) (next : List ℕ) → (session_out idle next at).number ≡ lent_number idle
    number_is [] next = refl
    number_is (front ∷ idle) next = refl

    by_pool : (pool : Option Pool) → LendsFrom pool lent.pool store.caller at session → FitsNumber (number_in pool) session.number
    by_pool None lends = tt
    by_pool (Some pool) lends = ap (λ held. held.number) lends.0 ∙ number_is pool.idle session.id

-- what is the last number
pub last_of : (next : Option ℤ) (number : ℤ) → IsLast next → FitsNumber next number → number ≡ last_number
last_of None number last fits = absurd last
last_of (Some next) number last fits = fits ∙ last

-- what may be the last number
pub may_be_last : (next : Option ℤ) (number : ℤ) → FitsNumber next number → number ≡ last_number → MayBeLast next
may_be_last None number fits last = tt
may_be_last (Some next) number fits last = sym fits ∙ last

-- some value
some_of : {B : Type 0} (o : Option B) → is_none o ≡ false → is_some o ≡ true
some_of None is = absurd (not_both is)
some_of (Some b) is = refl

module _ (store : StoreTells) (setup : Option Setup) where
  -- an operation that has not begun
  pub held_at_first : HeldSoFar store setup store None None
  held_at_first = record { untouched = refl; first = tt; takes = tt }

  -- a session was lent where one is needed
  module _ (sessions : Bool) (description : Description) (is : IsOf setup description) (mid now : StoreTells) (held ready : ExecutionSession) where
    -- a session that is asked for is one that the link's connections take
    takes_asked : (session : Session) (setup : Option Setup) → IsOf setup description → description.supports_sessions ≡ true → TakesSessions (Some session) setup
    takes_asked session None is supports = tt
    takes_asked session (Some told) is supports = sym (ap (λ d. d.supports_sessions) is) ∙ supports

    -- a session that was lent has its first number
    first_lent : (session : Session) (sent : Option (Option ℤ)) → FitsNumber (next_number store) session.number → IsFirst (Some session) sent (next_number store)
    first_lent session None fits = fits
    first_lent session (Some before) fits = tt

    pub ready_held : HoldsSession (needs_session (asks_session sessions description) held) mid now held ready (Ok tt) → HeldSoFar store setup mid held.session held.sent
        → HeldSoFar store setup now ready.session ready.sent
    ready_held holds held_so_far = by_need (needs_session (asks_session sessions description) held) refl holds
      where
        by_need : (needed : Bool) → needs_session (asks_session sessions description) held ≡ needed → HoldsSession needed mid now held ready (Ok tt)
            → HeldSoFar store setup now ready.session ready.sent
        by_need false needs holds =
            subst (λ h. HeldSoFar store setup now h.session h.sent) (sym holds.1) (subst (λ s. HeldSoFar store setup s held.session held.sent) (sym holds.0) held_so_far)
        by_need true needs holds =
            let both = and_parts (asks_session sessions description && is_none held.session) (is_none held.sent) needs in
            let first = and_parts (asks_session sessions description) (is_none held.session) both.0 in
            let supports = (and_parts sessions description.supports_sessions first.0).1 in
            let same : mid ≡ store = subst (λ s. IsUntouched s store mid) (none_told held.session first.1) held_so_far.untouched in
            let fits = subst (λ s. FitsNumber (next_number s) holds.session.number) same (lent_fits mid now holds.at holds.session holds.lends) in
            subst (λ h. HeldSoFar store setup now h.session h.sent) (sym holds.is)
            (record { untouched = tt; first = first_lent holds.session held.sent fits; takes = takes_asked holds.session setup is supports })

    -- with one asked for and nothing sent, a session is held
    pub ready_holds : asks_session sessions description ≡ true → held.sent ≡ None → HoldsSession (needs_session (asks_session sessions description) held) mid now held ready (Ok tt)
        → (ready.sent ≡ None) × (is_some ready.session ≡ true)
    ready_holds asks unsent holds = by_need (needs_session (asks_session sessions description) held) refl holds
      where
        none_true : (sent : Option (Option ℤ)) → sent ≡ None → is_none sent ≡ true
        none_true sent none = ap is_none none

        must_hold : (a b c : Bool) → a ≡ true → c ≡ true → (a && b && c) ≡ false → b ≡ false
        must_hold true false c first last none = refl
        must_hold true true true first last none = none
        must_hold true true false first last none = sym last
        must_hold false b c first last none = absurd (not_both (sym first))

        by_need : (needed : Bool) → needs_session (asks_session sessions description) held ≡ needed → HoldsSession needed mid now held ready (Ok tt)
            → (ready.sent ≡ None) × (is_some ready.session ≡ true)
        by_need false needs holds =
            let some = some_of held.session (must_hold (asks_session sessions description) (is_none held.session) (is_none held.sent) asks (none_true held.sent unsent) needs) in
            (ap (λ h. h.sent) holds.1 ∙ unsent, ap (λ h. is_some h.session) holds.1 ∙ some)
        by_need true needs holds = (ap (λ h. h.sent) holds.is ∙ unsent, ap (λ h. is_some h.session) holds.is)

  -- what is held after a number was drawn is a session where it was one
  pub draw_holds : (connection_retryability : Retryability) (held numbered : ExecutionSession) (result : Result (Option ℤ) Error) → DrawsNumber held.sent connection_retryability held numbered result
      → is_some numbered.session ≡ is_some held.session
  draw_holds connection_retryability held numbered result draws = by_sent held.sent draws
    where
      by_retryability : (connection_retryability : Retryability) (session now : Option Session) → DrawsSession connection_retryability session now result → is_some now ≡ is_some session
      by_retryability may.Write (Some session) now draws = ap is_some draws.is
      by_retryability may.Write None now draws = ap is_some draws.0
      by_retryability other session now draws = ap is_some draws.0

      by_sent : (sent : Option (Option ℤ)) → DrawsNumber sent connection_retryability held numbered result → is_some numbered.session ≡ is_some held.session
      by_sent (Some before) draws = ap (λ h. is_some h.session) draws.0
      by_sent None draws = ap (λ h. is_some h.session) draws.is ∙ by_retryability connection_retryability held.session draws.session draws.draws

  -- so is what is held after an exchange
  pub exchange_holds : (result : Result (List ℕ) LinkError) (held : ExecutionSession) → (is_some (held_after result held).session ≡ is_some held.session) × ((held_after result held).sent ≡ held.sent)
  exchange_holds (Ok reply) held = (refl, refl)
  exchange_holds (Err Memory) held = (refl, refl)
  exchange_holds (Err (Fault found labels)) held = by_network (is_network found)
    where
      dirty_some : (session : Option Session) → is_some (option_map dirty_session session) ≡ is_some session
      dirty_some None = refl
      dirty_some (Some session) = refl

      by_network : (network : Bool)
          → (is_some (if network then record held { session = option_map dirty_session held.session } else held).session ≡ is_some held.session)
          × ((if network then record held { session = option_map dirty_session held.session } else held).sent ≡ held.sent)
      by_network true = (dirty_some held.session, refl)
      by_network false = (refl, refl)

  -- and after further pages
  answer_holds : (answered : Option (Result (List ℕ) LinkError)) (held : ExecutionSession) → is_some (held_after_answer answered held).session ≡ is_some held.session
  answer_holds None held = refl
  answer_holds (Some result) held = (exchange_holds result held).0

  pub pages_hold : (asked : List PageAsked) (held : ExecutionSession) → is_some (held_after_pages asked held).session ≡ is_some held.session
  pages_hold [] held = refl
  pages_hold (last ∷ earlier) held = answer_holds last.answered held

  -- what is held after a send
  pub sent_held : (now : StoreTells) (session after : Option Session) (sent : Option (Option ℤ)) (number : Option ℤ) → is_some after ≡ is_some session
      → HeldSoFar store setup now session sent → HeldSoFar store setup now after (Some number)
  sent_held now None None sent number same held_so_far = record { untouched = held_so_far.untouched; first = tt; takes = tt }
  sent_held now (Some session) (Some after) sent number same held_so_far = record { untouched = tt; first = tt; takes = by_setup setup held_so_far.takes }
    where
      by_setup : (setup : Option Setup) → TakesSessions (Some session) setup → TakesSessions (Some after) setup
      by_setup None takes = tt
      by_setup (Some told) takes = takes
  sent_held now None (Some after) sent number same held_so_far = absurd (not_both same)
  sent_held now (Some session) None sent number same held_so_far = absurd (not_both (sym same))

-- a session is held, and the connection takes none: the setup is not told
pub sessionless : (setup : Option Setup) (description : Description) (session : Option Session) → IsOf setup description → TakesSessions session setup
    → (if is_some session then description.supports_sessions else true) ≡ false → setup ≡ None
sessionless None description session is takes refused = refl
sessionless (Some setup) description None is takes refused = absurd (not_both refused)
sessionless (Some setup) description (Some session) is takes refused = absurd (not_both (sym (ap (λ d. d.supports_sessions) is ∙ takes) ∙ refused))

-- what each send has a number by
pub none_draws : (sessions : Bool) (retryability : Retryability) → DrawsNumbers sessions retryability None → ⊥
none_draws sessions may.Write draws = draws
none_draws sessions may.Read draws = draws
none_draws sessions may.None draws = draws

-- where each send has a number, a session is asked for on each connection, and the write may be repeated on it
pub draws_on : (sessions : Bool) (retryability : Retryability) (setup : Option Setup) (description : Description) → DrawsNumbers sessions retryability setup → IsOf setup description
    → (asks_session sessions description ≡ true) × (on_connection retryability description ≡ may.Write)
draws_on sessions may.Write None description draws is = absurd draws
draws_on sessions may.Write (Some setup) description draws is =
    let supports = ap (λ d. d.supports_sessions) is ∙ draws.1 in
    let retries = ap (λ d. d.supports_retryable_writes) is ∙ draws.2 in
    (ap (λ s. s && description.supports_sessions) draws.0 ∙ supports, ap (λ b. if b then may.Write else may.None) retries)
draws_on sessions may.Read setup description draws is = absurd draws
draws_on sessions may.None setup description draws is = absurd draws

-- there is no number after the last one
pub last_draws_none : (next : Option ℤ) (connection_retryability : Retryability) (held numbered : ExecutionSession) (number : Option ℤ) → IsLast next → connection_retryability ≡ may.Write → held.sent ≡ None
    → is_some held.session ≡ true → IsFirst held.session held.sent next → DrawsNumber held.sent connection_retryability held numbered (Ok number) → ⊥
last_draws_none next connection_retryability held numbered number last is_write unsent holds first draws =
    let drawn = subst (λ t. DrawsNumber None t held numbered (Ok number)) is_write (subst (λ s. DrawsNumber s connection_retryability held numbered (Ok number)) unsent draws) in
    by_session held.session drawn.session holds (subst (λ s. IsFirst held.session s next) unsent first) drawn.draws
  where
    by_next : (session back : Session) (given : Result ℤ Error) → FitsNumber next session.number → Numbers session back given → GivesNumber given (Ok number) → ⊥
    by_next session back (Ok drawn) fits numbers gives = numbers.0 (last_of next session.number last fits)
    by_next session back (Err error) fits numbers gives = absurd (let e : ◌≡◌ {A = Result (Option ℤ) Error} (Ok number) (Err error) = gives in cc)

    by_session : (session now : Option Session) → is_some session ≡ true → IsFirst session None next → DrawsSession may.Write session now (Ok number) → ⊥
    by_session None now some first draws = not_both (sym some)
    by_session (Some session) now some first draws = by_next session draws.numbered draws.next first draws.numbers draws.gives

-- the numbers may be at their end, and an error tells so and nothing else
pub record AtEndBy (next : Option ℤ) (error : Error) : Type 0 where
  pub may : MayBeLast next
  pub is : IsAlone (kind.Internal number_at_its_end) no_labels error

-- an error tells so, or of want of memory
abbrev pub AtEnd : Option ℤ → Error → Type 0
AtEnd next error = IsAlone kind.Memory no_labels error ⊎ AtEndBy next error

-- where there is no number, an error tells why
pub unnumbered_at_end : (next : Option ℤ) (connection_retryability : Retryability) (held numbered : ExecutionSession) (error : Error) → IsFirst held.session held.sent next
    → DrawsNumber held.sent connection_retryability held numbered (Err error) → AtEnd next error
unnumbered_at_end next connection_retryability held numbered error first draws = by_sent held.sent first draws
  where
    err_ok : (number : Option ℤ) → ◌≡◌ {A = Result (Option ℤ) Error} (Err error) (Ok number) → ⊥
    err_ok number same = cc

    tells : (session : Session) (other : Error) → FitsNumber next session.number → (IsAlone kind.Memory no_labels other ⊎ IsAtItsEnd session other) → AtEnd next other
    tells session other fits ends = elim ends [
      | inl memory ↦ inl memory
      | inr at ↦ inr (record { may = may_be_last next session.number fits at.last; is = at.is })
    ]

    by_next : (session back : Session) (given : Result ℤ Error) → FitsNumber next session.number → Numbers session back given → GivesNumber given (Err error)
        → AtEnd next error
    by_next session back (Ok drawn) fits numbers gives = absurd (err_ok (Some drawn) gives)
    by_next session back (Err other) fits numbers gives =
        let same : other ≡ error = cc (sym gives) in subst (AtEnd next) same (tells session other fits numbers.2)

    by_retryability : (connection_retryability : Retryability) (session now : Option Session) → IsFirst session None next → DrawsSession connection_retryability session now (Err error) → AtEnd next error
    by_retryability may.Write (Some session) now first draws = by_next session draws.numbered draws.next first draws.numbers draws.gives
    by_retryability may.Write None now first draws = absurd (err_ok None draws.1)
    by_retryability other session now first draws = absurd (err_ok None draws.1)

    by_sent : (sent : Option (Option ℤ)) → IsFirst held.session sent next → DrawsNumber sent connection_retryability held numbered (Err error) → AtEnd next error
    by_sent (Some before) first draws = absurd (err_ok before draws.1)
    by_sent None first draws = by_retryability connection_retryability held.session draws.session first draws.draws
