-- A session that is lent and comes back leaves each id lent as often as before.
use Rattle.std.proofs.Common.{◌≡◌, ℕ, ◌+◌, Bool, true, false, ◌||◌, List, [], ◌∷◌, ◌++◌, refl, sym, ap, subst, ◌∙◌, arith}
use Rattle.std.specs.Prelude.{Option, None, Some, if◌then◌else◌}
use Rattle.std.specs.Str.{bytes_eq}
use Rattle.std.proofs.lemmas.Bool.{cond-true, or_right}
use Rattle.std.proofs.lemmas.Slice.Eq.{bytes_eq-Decides}
use Rattle.bson_lite.proofs.Numbers.{bytes_eq-same}
use Rattle.driver_session.specs.Pool.{Pool, times_lent, is_lent, without_first, lent_out, taken_back, session_out}
use Rattle.driver_session.specs.StoreTells.{StoreTells, LendsSession, LendsFrom, TakesInto, TakesSession, LendsPoolAsBefore, LendsAsBefore}
use Rattle.driver_session.specs.Session.{Session}

-- one for the same id, else none
abbrev one : Bool → ℕ
one b = if b then 1 else 0

-- one more of an id is lent
times_more : (q id : List ℕ) (lent : List (List ℕ)) → times_lent q (lent ++ id ∷ []) ≡ times_lent q lent + one (bytes_eq id q)
times_more q id [] = omega arith
times_more q id (other ∷ lent) = let rest = times_more q id lent in omega (arith, rest)

-- an id that is this one counts as it
same_times : (q id other : List ℕ) (rest : ℕ) (b : Bool) → bytes_eq other id ≡ b → b ≡ true → rest + one (bytes_eq id q) ≡ one (bytes_eq other q) + rest
same_times q id other rest b is holds =
    let same : other ≡ id = (bytes_eq-Decides other id).0 (is ∙ holds) in
    let e : one (bytes_eq other q) ≡ one (bytes_eq id q) = ap (λ o. one (bytes_eq o q)) same in omega (arith, e)

-- one id at the front, taken out or not
times_first : (q id other : List ℕ) (lent without : List (List ℕ)) (b : Bool) → bytes_eq other id ≡ b
    → (is_lent id lent ≡ true → times_lent q without + one (bytes_eq id q) ≡ times_lent q lent) → (b || is_lent id lent) ≡ true
    → times_lent q (if b then lent else other ∷ without) + one (bytes_eq id q) ≡ times_lent q (other ∷ lent)
times_first q id other lent without true is rest there = same_times q id other (times_lent q lent) true is refl
times_first q id other lent without false is rest there = let e = rest there in omega (arith, e)

-- an id that is lent is lent once less without its first
times_without : (q id : List ℕ) (lent : List (List ℕ)) → is_lent id lent ≡ true → times_lent q (without_first id lent) + one (bytes_eq id q) ≡ times_lent q lent
times_without q id [] there = absurd (let e : ◌≡◌ {A = Bool} false true = there in cc)
times_without q id (other ∷ lent) there = times_first q id other lent (without_first id lent) (bytes_eq other id) refl (times_without q id lent) there

-- an id at the end is lent
is_lent_last : (id : List ℕ) (lent : List (List ℕ)) → is_lent id (lent ++ id ∷ []) ≡ true
is_lent_last id [] = ap (λ b. b || false) (bytes_eq-same id)
is_lent_last id (other ∷ lent) = ap (λ b. bytes_eq other id || b) (is_lent_last id lent) ∙ or_right (bytes_eq other id) true refl

-- what is lent after a check-out
lent_is : (caller : ℕ) (next : List ℕ) (at : ℕ) (pool : Pool)
    → (lent_out caller next at pool).lent ≡ pool.lent ++ (session_out pool.idle next at).id ∷ []
unfolding lent_out
lent_is caller next at pool = refl

-- what is lent after a check-in of a lent session
back_is : (caller : ℕ) (session : Session) (at : ℕ) (pool : Pool) → is_lent session.id pool.lent ≡ true
    → (taken_back caller session at pool).lent ≡ without_first session.id pool.lent
unfolding taken_back
back_is caller session at pool there = ap (λ made. made.lent) (cond-true (is_lent session.id pool.lent) _ pool there)

-- as often as before, and again as often
pool_twice : (a b c : Option Pool) → LendsPoolAsBefore a b → LendsPoolAsBefore b c → LendsPoolAsBefore a c
pool_twice None b c first second = subst (λ pool. LendsPoolAsBefore pool c) first second
pool_twice (Some old) None c first second = absurd first
pool_twice (Some old) (Some mid) None first second = absurd second
pool_twice (Some old) (Some mid) (Some now) first second = λ id. second id ∙ first id

-- a pool lends as often as itself
pool_refl : (pool : Option Pool) → LendsPoolAsBefore pool pool
pool_refl None = refl
pool_refl (Some told) = λ id. refl

-- the same of stores
pub lends_twice : (a b c : StoreTells) → LendsAsBefore a b → LendsAsBefore b c → LendsAsBefore a c
lends_twice a b c first second = pool_twice a.pool b.pool c.pool first second

-- a store lends as often as itself
pub lends_refl : (store : StoreTells) → LendsAsBefore store store
lends_refl store = pool_refl store.pool

-- a store that stays lends each id as often as before
pub lends_staying : (old now : StoreTells) → now ≡ old → LendsAsBefore old now
lends_staying old now stays = subst (λ store. LendsAsBefore old store) (sym stays) (lends_refl old)

-- a pool that lent a session and took one of its id back
turned : (pool : Pool) (out_by out_at back_by back_at : ℕ) (session back : Session) → session ≡ session_out pool.idle session.id out_at → back.id ≡ session.id
    → (q : List ℕ) → times_lent q (taken_back back_by back back_at (lent_out out_by session.id out_at pool)).lent ≡ times_lent q pool.lent
turned pool out_by out_at back_by back_at session back is same q =
    let mid = lent_out out_by session.id out_at pool in
    let id_is : (session_out pool.idle session.id out_at).id ≡ back.id = ap (λ held. held.id) (sym is) ∙ sym same in
    let mid_is : mid.lent ≡ pool.lent ++ back.id ∷ [] = lent_is out_by session.id out_at pool ∙ ap (λ id. pool.lent ++ id ∷ []) id_is in
    let there : is_lent back.id mid.lent ≡ true = ap (is_lent back.id) mid_is ∙ is_lent_last back.id pool.lent in
    let now_is : (taken_back back_by back back_at mid).lent ≡ without_first back.id mid.lent = back_is back_by back back_at mid there in
    let less = times_without q back.id mid.lent there in
    let more : times_lent q mid.lent ≡ times_lent q pool.lent + one (bytes_eq back.id q) = ap (times_lent q) mid_is ∙ times_more q back.id pool.lent in
    ap (times_lent q) now_is ∙ omega (arith, less, more)

-- the same where the pool may not be told
pool_turning : (old mid now : Option Pool) (out_by out_at back_by back_at : ℕ) (session back : Session) → LendsFrom old mid out_by out_at session
    → back.id ≡ session.id → TakesInto mid now back_by back back_at → LendsPoolAsBefore old now
pool_turning None mid now out_by out_at back_by back_at session back lends same takes = subst (λ pool. TakesInto pool now back_by back back_at) lends takes
pool_turning (Some old) mid now out_by out_at back_by back_at session back lends same takes =
    let taken = subst (λ pool. TakesInto pool now back_by back back_at) lends.1 takes in
    subst (λ pool. LendsPoolAsBefore (Some old) pool) (sym taken) (turned old out_by out_at back_by back_at session back lends.0 same)

-- one session was lent and came back
pub lends_turning : (old mid now : StoreTells) (out_at back_at : ℕ) (session back : Session) → LendsSession old mid out_at session → back.id ≡ session.id
    → TakesSession mid now back back_at → LendsAsBefore old now
lends_turning old mid now out_at back_at session back lends same takes =
    pool_turning old.pool mid.pool now.pool old.caller out_at mid.caller back_at session back lends.pool same takes.pool
