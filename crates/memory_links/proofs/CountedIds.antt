-- The ids that count: the next of them, and that the first of them differ.
use Rattle.std.proofs.Common.{◌≡◌, ◌<◌, ℕ, zero, suc, ◌+◌, ◌-◌, ◌*◌, ◌/◌, ◌%◌, ◌^◌, List, [], ◌∷◌, refl, sym, ap, ◌∙◌, arith, lit<, add-zero, zero-add}
use Rattle.std.proofs.Math.Arith.{mod-mul}
use Rattle.std.proofs.Math.Nat.{div-one, mod-add-mod, mod-eq_of_lt, mod-one, pow-suc, pow-succ'}
use Rattle.std.specs.Int.{byte_at, bytes_high_first}
use Rattle.driver_link.specs.Apart.{AllApart, NotAmong, first_ids}
use Rattle.memory_links.specs.CountingIds.{IdsDrawn, counted_ids, none_drawn, number_at, object_at, session_at}
use Rattle.driver_link.specs.Ids.{IdsToCome, after_draw, session_ids, times}
use Rattle.driver_link.specs.declared.ids.IdKind.{IdKind}
use Rattle.driver_link.specs.declared.ids.IdKind.TheVariants.{Session, Object}

-- the number of the next id, and those of the ids after it
number_now : (greatest drawn : ℕ) → drawn < greatest → number_at greatest drawn 0 ≡ drawn + 1
number_now greatest drawn within = ap (λ n. n % greatest + 1) (add-zero drawn) ∙ ap (λ n. n + 1) (mod-eq_of_lt within)

number_next : (greatest drawn k : ℕ) → number_at greatest ((drawn + 1) % greatest) k ≡ number_at greatest drawn (k + 1)
number_next greatest drawn k =
    ap (λ n. n + 1) (mod-add-mod (drawn + 1) greatest k)
    ∙ ap (λ n. n % greatest + 1) (let same : drawn + 1 + k ≡ drawn + (k + 1) = omega arith in same)

pub session_now : (ids : IdsDrawn) → ids.sessions < 2 ^ 128 - 1 → bytes_high_first 16 (ids.sessions + 1) ≡ session_at ids 0
unfolding session_at
session_now ids within = ap (bytes_high_first 16) (sym (number_now (2 ^ 128 - 1) ids.sessions within))

pub session_next : (ids : IdsDrawn) (k : ℕ) → session_at (record ids { sessions = (ids.sessions + 1) % (2 ^ 128 - 1) }) k ≡ session_at ids (k + 1)
unfolding session_at
session_next ids k = ap (bytes_high_first 16) (number_next (2 ^ 128 - 1) ids.sessions k)

pub object_now : (ids : IdsDrawn) → ids.objects < 2 ^ 96 - 1 → bytes_high_first 12 (ids.objects + 1) ≡ object_at ids 0
unfolding object_at
object_now ids within = ap (bytes_high_first 12) (sym (number_now (2 ^ 96 - 1) ids.objects within))

pub object_next : (ids : IdsDrawn) (k : ℕ) → object_at (record ids { objects = (ids.objects + 1) % (2 ^ 96 - 1) }) k ≡ object_at ids (k + 1)
unfolding object_at
object_next ids k = ap (bytes_high_first 12) (number_next (2 ^ 96 - 1) ids.objects k)

-- the draws of the other kind change nothing
pub session_kept : (ids : IdsDrawn) (n k : ℕ) → session_at (record ids { objects = n }) k ≡ session_at ids k
unfolding session_at
session_kept ids n k = refl

pub object_kept : (ids : IdsDrawn) (n k : ℕ) → object_at (record ids { sessions = n }) k ≡ object_at ids k
unfolding object_at
object_kept ids n k = refl

-- the ids to come after a draw of a session id, and after one of an object id
pub session_rest : (ids : IdsDrawn) (drawn : ℕ) → drawn ≡ (ids.sessions + 1) % (2 ^ 128 - 1) → (kinds : List IdKind) (kind : IdKind)
    → counted_ids (record ids { sessions = drawn }) kinds kind ≡ counted_ids ids (Session ∷ kinds) kind
session_rest ids drawn is kinds Session = ap (λ n. session_at (record ids { sessions = n }) (times Session kinds)) is ∙ session_next ids (times Session kinds)
session_rest ids drawn is kinds Object = object_kept ids drawn (times Object kinds)

pub object_rest : (ids : IdsDrawn) (drawn : ℕ) → drawn ≡ (ids.objects + 1) % (2 ^ 96 - 1) → (kinds : List IdKind) (kind : IdKind)
    → counted_ids (record ids { objects = drawn }) kinds kind ≡ counted_ids ids (Object ∷ kinds) kind
object_rest ids drawn is kinds Session = session_kept ids drawn (times Session kinds)
object_rest ids drawn is kinds Object = ap (λ n. object_at (record ids { objects = n }) (times Object kinds)) is ∙ object_next ids (times Object kinds)

-- where session ids count by themselves, the draws of both kinds give the first of them
pub session_ids_first : (kinds : List IdKind) (to_come : IdsToCome) (sessions : ℕ → List ℕ)
    → ((earlier : List IdKind) → to_come earlier Session ≡ sessions (times Session earlier)) → session_ids kinds to_come ≡ first_ids (times Session kinds) sessions
session_ids_first [] to_come sessions count = refl
session_ids_first (Session ∷ kinds) to_come sessions count =
    let rest = session_ids_first kinds (after_draw Session to_come) (λ k. sessions (k + 1)) (λ earlier. count (Session ∷ earlier)) in
    (λ i. count [] i ∷ rest i) ∙ ap (λ n. first_ids n sessions) (let same : suc (times Session kinds) ≡ times Session kinds + 1 = omega arith in same)
session_ids_first (Object ∷ kinds) to_come sessions count =
    session_ids_first kinds (after_draw Object to_come) sessions (λ earlier. count (Object ∷ earlier))

-- a byte of a number
byte_is : (k n : ℕ) → byte_at k n ≡ n / 256 ^ k % 256
byte_is zero n = ap (λ m. m % 256) (sym (div-one n))
byte_is (suc k) n = refl

-- the parts of lists that are the same
first_same : (x y : ℕ) (xs ys : List ℕ) → x ∷ xs ≡ y ∷ ys → x ≡ y
first_same x y xs ys same = cc

rest_same : (x y : ℕ) (xs ys : List ℕ) → x ∷ xs ≡ y ∷ ys → xs ≡ ys
rest_same x y xs ys same = cc

-- a power of 256 is not 0
some_power : (k : ℕ) → 0 < 256 ^ k
some_power zero = lit< tt
some_power (suc k) = let less = some_power k in rw pow-suc (omega arith)

-- numbers with the same low bytes are the same below those bytes
same_low : (k a b : ℕ) → bytes_high_first k a ≡ bytes_high_first k b → a % 256 ^ k ≡ b % 256 ^ k
same_low zero a b same = mod-one a ∙ sym (mod-one b)
same_low (suc k) a b same =
    let high : a / 256 ^ k % 256 ≡ b / 256 ^ k % 256 = sym (byte_is k a) ∙ first_same _ _ _ _ same ∙ byte_is k b in
    let low : a % 256 ^ k ≡ b % 256 ^ k = same_low k a b (rest_same _ _ _ _ same) in
    ap (λ n. a % n) (pow-succ' 256 k) ∙ mod-mul a {m = 256} {c = 256 ^ k} (lit< tt) (some_power k)
    ∙ (λ i. high i * 256 ^ k + low i)
    ∙ sym (ap (λ n. b % n) (pow-succ' 256 k) ∙ mod-mul b {m = 256} {c = 256 ^ k} (lit< tt) (some_power k))

-- numbers of different draws
numbers_differ : (greatest width bound i j : ℕ) → i < j → j < bound → bound < greatest → bound < 256 ^ width
    → bytes_high_first width (number_at greatest 0 i) ≡ bytes_high_first width (number_at greatest 0 j) → ⊥
numbers_differ greatest width bound i j before within small fits same =
    let first : number_at greatest 0 i ≡ i + 1 = ap (λ n. n % greatest + 1) (zero-add i) ∙ ap (λ n. n + 1) (mod-eq_of_lt (omega arith)) in
    let second : number_at greatest 0 j ≡ j + 1 = ap (λ n. n % greatest + 1) (zero-add j) ∙ ap (λ n. n + 1) (mod-eq_of_lt (omega arith)) in
    let bytes : bytes_high_first width (i + 1) ≡ bytes_high_first width (j + 1)
    = sym (ap (bytes_high_first width) first) ∙ same ∙ ap (bytes_high_first width) second in
    let numbers : i + 1 ≡ j + 1 = sym (mod-eq_of_lt (omega arith)) ∙ same_low width (i + 1) (j + 1) bytes ∙ mod-eq_of_lt (omega arith) in
    omega arith

-- ids that differ by their numbers are apart
not_among : (count : ℕ) (id : List ℕ) (to_come : ℕ → List ℕ) → ((j : ℕ) → j < count → id ≡ to_come j → ⊥) → NotAmong id (first_ids count to_come)
not_among zero id to_come differ = tt
not_among (suc count) id to_come differ =
    (differ 0 (omega arith), not_among count id (λ k. to_come (k + 1)) (λ j within. differ (j + 1) (omega arith)))

all_apart : (count : ℕ) (to_come : ℕ → List ℕ) → ((i j : ℕ) → i < j → j < count → to_come i ≡ to_come j → ⊥) → AllApart (first_ids count to_come)
all_apart zero to_come differ = tt
all_apart (suc count) to_come differ = (
  not_among count (to_come 0) (λ k. to_come (k + 1)) (λ j within. differ 0 (j + 1) (omega arith) (omega arith)),
  all_apart count (λ k. to_come (k + 1)) (λ i j before within. differ (i + 1) (j + 1) (omega arith) (omega arith)),
)

pub sessions_apart : (count : ℕ) → count < 2 ^ 64 → AllApart (first_ids count (session_at none_drawn))
unfolding session_at
sessions_apart count few = all_apart count (session_at none_drawn)
    (λ i j before within. numbers_differ (2 ^ 128 - 1) 16 (2 ^ 64) i j before (omega arith) (lit< tt) (lit< tt))

pub objects_apart : (count : ℕ) → count < 2 ^ 64 → AllApart (first_ids count (object_at none_drawn))
unfolding object_at
objects_apart count few = all_apart count (object_at none_drawn)
    (λ i j before within. numbers_differ (2 ^ 96 - 1) 12 (2 ^ 64) i j before (omega arith) (lit< tt) (lit< tt))
