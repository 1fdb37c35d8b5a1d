-- What the sends of a trace say of a pool's sessions: their numbers are at most the sessions', and no send is of
-- an id that was not drawn.
use Rattle.std.proofs.Common.{◌≡◌, ℕ, Bool, true, false, cond, List, [], ◌∷◌, ◌++◌, refl, sym, ap, subst, ◌∙◌, arith}
use Rattle.std.specs.Prelude.{ℤ, ◌≤ℤ◌, ◌||◌, Option, Some}
use Rattle.std.specs.Str.{bytes_eq}
use Rattle.std.proofs.Common.{inl, inr}
use Rattle.std.proofs.lemmas.Bool.{cond-true}
use Rattle.std.proofs.lemmas.Int.{ints}
use Rattle.bson_lite.proofs.Numbers.{bytes_eq-same}
use Rattle.driver_link.specs.declared.machine.Send.{Send}
use Rattle.driver_link.specs.Settled.{IsUnder}
use Rattle.driver_link.proofs.Lists.{has_either}
use Rattle.driver_link.specs.Apart.{NotAmong, AllApart}
use Rattle.driver_session.specs.declared.pool.IdleSession.{IdleSession}
use Rattle.driver_session.specs.declared.pool.StoreEvent.{StoreEvent}
use Rattle.driver_session.specs.Pool.{Pool, lent_out, taken_back, session_out, idle_back, is_lent, without_first, Among}
use Rattle.driver_session.specs.Session.{Session}
use Rattle.driver_session.proofs.Ids.{among_left, among_last, not_among_left, apart_last, among_differs}
use Rattle.driver_session.proofs.PoolTells.{LendsPool}
use Rattle.driver_exec.specs.BetweenCalls.{Between, FitsIdle, Knows, NoneOf, SentUpTo, ids_of}

-- one session is lent
pub record Holding (pool : Pool) (trace : List Send) (session : Session) : Type 0 where
  pub lent : pool.lent ≡ session.id ∷ []
  pub knows : Knows pool.drawn pool.idle trace
  pub among : Among session.id pool.drawn
  pub up_to : SentUpTo session.id session.number trace
  pub apart : NotAmong session.id (ids_of pool.idle)

fits_more : (drawn more : List (List ℕ)) (trace : List Send) (idle : List IdleSession) → FitsIdle drawn trace idle → FitsIdle (drawn ++ more) trace idle
fits_more drawn more trace [] fits = tt
fits_more drawn more trace (first ∷ idle) fits =
    (among_left first.id drawn more fits.0, fits.1, fits.2, fits_more drawn more trace idle fits.3)

knows_more : (drawn more : List (List ℕ)) (idle : List IdleSession) (trace : List Send) → Knows drawn idle trace → Knows (drawn ++ more) idle trace
knows_more drawn more idle trace knows = record {
  strangers = λ id not. knows.strangers id (not_among_left id drawn more not);
  fits = fits_more drawn more trace idle knows.fits;
}

lent_holds : (caller : ℕ) (next : List ℕ) (moment : ℕ) (idle : List IdleSession) (lent drawn : List (List ℕ)) (history : List StoreEvent) (trace : List Send)
    → lent ≡ [] → Knows drawn idle trace
    → AllApart (lent_out caller next moment (record { idle = idle; lent = lent; drawn = drawn; history = history })).drawn
    → Holding (lent_out caller next moment (record { idle = idle; lent = lent; drawn = drawn; history = history })) trace (session_out idle next moment)
unfolding lent_out
lent_holds caller next moment [] lent drawn history trace none knows apart = record {
  lent = ap (λ ids. ids ++ next ∷ []) none;
  knows = knows_more drawn (next ∷ []) [] trace knows;
  among = among_last next drawn;
  up_to = λ send n has under. absurd (knows.strangers next (apart_last drawn next apart) send n has under);
  apart = tt;
}
lent_holds caller next moment (front ∷ idle) lent drawn history trace none knows apart = record {
  lent = ap (λ ids. ids ++ front.id ∷ []) none;
  knows = knows_more drawn [] idle trace (record { strangers = knows.strangers; fits = knows.fits.3 });
  among = among_left front.id drawn [] knows.fits.0;
  up_to = knows.fits.1;
  apart = knows.fits.2;
}

-- a check-out
pub lends_holds : (pool mid : Pool) (caller at : ℕ) (session : Session) (trace : List Send) → LendsPool pool mid caller at session
    → AllApart mid.drawn → Between pool trace → Holding mid trace session
lends_holds pool mid caller at session trace lends apart between =
    let out = lent_out caller session.id at pool in
    let apart_out : AllApart out.drawn = subst (λ made. AllApart made.drawn) lends.pool_is apart in
    let holds = lent_holds caller session.id at pool.idle pool.lent pool.drawn pool.history trace between.lent between.knows apart_out in
    subst (λ made. Holding made trace session) (sym lends.pool_is)
    (subst (λ held. Holding out trace held) (sym lends.session_is) holds)

up_more : (n number more : ℤ) → number ≤ℤ more → n ≤ℤ number → n ≤ℤ more
up_more n number more raised up = omega (arith, ints)

-- a number that was raised
pub number_raised : (pool : Pool) (trace : List Send) (session back : Session) → back.id ≡ session.id → session.number ≤ℤ back.number
    → Holding pool trace session → Holding pool trace back
number_raised pool trace session back same raised holds = record {
  lent = holds.lent ∙ ap (λ id. id ∷ []) (sym same);
  knows = holds.knows;
  among = subst (λ id. Among id pool.drawn) (sym same) holds.among;
  up_to =
      let up : SentUpTo session.id back.number trace
      = λ send n has under. up_more n session.number back.number raised (holds.up_to send n has under) in
      let P : List ℕ → Type 0 = λ id. SentUpTo id back.number trace in
      subst P (sym same) up;
  apart = subst (λ id. NotAmong id (ids_of pool.idle)) (sym same) holds.apart;
}

-- the session of a send is one alone
one_session : (send : Send) (a b : List ℕ) → send.session ≡ Some a → send.session ≡ Some b → a ≡ b
one_session send a b first second = let e : ◌≡◌ {A = Option (List ℕ)} (Some a) (Some b) = sym first ∙ second in cc

one_number : (send : Send) (a b : ℤ) → send.number ≡ Some a → send.number ≡ Some b → a ≡ b
one_number send a b first second = let e : ◌≡◌ {A = Option ℤ} (Some a) (Some b) = sym first ∙ second in cc

no_more : (a b : ℤ) → a ≡ b → a ≤ℤ b
no_more a b is = omega (arith, ints)

module _ (trace : List Send) (sent : Send) (id : List ℕ) (number : ℤ) (under : IsUnder id number sent) where
  -- a send under the trace's last number of its session
  pub up_joined : (most : ℤ) → number ≤ℤ most → SentUpTo id most trace → SentUpTo id most (trace ++ sent ∷ [])
  up_joined most within up = λ send n has is. elim (has_either trace (sent ∷ []) send has) [
    | inl earlier ↦ up send n earlier is
    | inr last ↦ elim last [
      | inl same ↦
          let here : IsUnder id n sent = subst (λ s. IsUnder id n s) (sym same) is in
          up_more n number most within (no_more n number (one_number sent n number here.numbered under.numbered))
      | inr none ↦ absurd none
    ]
  ]

  -- other sessions
  pub up_other : (other : List ℕ) (most : ℤ) → (other ≡ id → ⊥) → SentUpTo other most trace → SentUpTo other most (trace ++ sent ∷ [])
  up_other other most differs up = λ send n has is. elim (has_either trace (sent ∷ []) send has) [
    | inl earlier ↦ up send n earlier is
    | inr last ↦ elim last [
      | inl same ↦
          let here : IsUnder other n sent = subst (λ s. IsUnder other n s) (sym same) is in
          absurd (differs (one_session sent other id here.session under.session))
      | inr none ↦ absurd none
    ]
  ]

  none_other : (other : List ℕ) → (other ≡ id → ⊥) → NoneOf other trace → NoneOf other (trace ++ sent ∷ [])
  none_other other differs none = λ send n has is. elim (has_either trace (sent ∷ []) send has) [
    | inl earlier ↦ none send n earlier is
    | inr last ↦ elim last [
      | inl same ↦
          let here : IsUnder other n sent = subst (λ s. IsUnder other n s) (sym same) is in
          absurd (differs (one_session sent other id here.session under.session))
      | inr nothing ↦ absurd nothing
    ]
  ]

  fits_joined : (drawn : List (List ℕ)) (idle : List IdleSession) → NotAmong id (ids_of idle) → FitsIdle drawn trace idle → FitsIdle drawn (trace ++ sent ∷ []) idle
  fits_joined drawn [] apart fits = tt
  fits_joined drawn (first ∷ idle) apart fits =
      (fits.0, up_other first.id first.number (λ same. apart.0 (sym same)) fits.1, fits.2, fits_joined drawn idle apart.1 fits.3)

-- a send under the session's number
pub joined_holds : (pool : Pool) (trace : List Send) (session : Session) (sent : Send) → IsUnder session.id session.number sent
    → Holding pool trace session → Holding pool (trace ++ sent ∷ []) session
joined_holds pool trace session sent under holds = record {
  lent = holds.lent;
  knows = record {
    strangers = λ id not. none_other trace sent session.id session.number under id
        (λ same. among_differs session.id id pool.drawn holds.among not same) (holds.knows.strangers id not);
    fits = fits_joined trace sent session.id session.number under pool.drawn pool.idle holds.apart holds.knows.fits;
  };
  among = holds.among;
  up_to = up_joined trace sent session.id session.number under session.number (no_more session.number session.number refl) holds.up_to;
  apart = holds.apart;
}

back_between : (caller : ℕ) (session : Session) (moment : ℕ) (pool : Pool) (trace : List Send) → Holding pool trace session
    → Between (record {
      idle = idle_back session pool.idle;
      lent = without_first session.id pool.lent;
      drawn = pool.drawn;
      history = (taken_back caller session moment pool).history;
    }) trace
back_between caller session moment pool trace holds = record {
  lent = ap (without_first session.id) holds.lent ∙ cond-true (bytes_eq session.id session.id) [] (session.id ∷ []) (bytes_eq-same session.id);
  knows = record { strangers = holds.knows.strangers; fits = fits_back session.dirty pool trace session holds };
}
  where
    fits_back : (dirty : Bool) (pool : Pool) (trace : List Send) (session : Session) → Holding pool trace session
        → FitsIdle pool.drawn trace (cond dirty pool.idle (record { id = session.id; number = session.number; last_use = session.last_use } ∷ pool.idle))
    fits_back true pool trace session holds = holds.knows.fits
    fits_back false pool trace session holds = (holds.among, holds.up_to, holds.apart, holds.knows.fits)

-- a check-in
pub taken_between : (caller : ℕ) (session : Session) (moment : ℕ) (pool : Pool) (trace : List Send) → Holding pool trace session
    → Between (taken_back caller session moment pool) trace
unfolding taken_back
taken_between caller session moment pool trace holds =
    let lent : is_lent session.id pool.lent ≡ true = ap (is_lent session.id) holds.lent ∙ ap (λ b. b || false) (bytes_eq-same session.id) in
    let between = back_between caller session moment pool trace holds in
    let P : Pool → Type 0 = λ made. Between made trace in
    subst P (sym (cond-true (is_lent session.id pool.lent) _ pool lent)) (record { lent = between.lent; knows = between.knows })
