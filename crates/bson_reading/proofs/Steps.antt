-- What is known of each step of a reading that gave a value.
use Rattle.std.proofs.Common.{◌≡◌, ℕ, Bool, true, false, cond, List, Option, Some, None, Result, Ok, Err, refl}
use Rattle.std.specs.Str.{is_utf8}
use Rattle.bson_lite.specs.Parts as parts
use Rattle.bson_lite.specs.Parts.{made, utf8_of}
use Rattle.bson_lite.specs.Reading as reading
use Rattle.bson_lite.specs.Reading.{or_at, closed}

abbrev some : {A : Type 0} → A → Option A
some x = Some x

abbrev okay : {A : Type 0} → A → Result A ℕ
okay x = Ok x

pub some_is : {A : Type 0} (x y : A) → some x ≡ some y → x ≡ y
some_is x y e = cc

pub ok_is : {A : Type 0} (x y : A) → okay x ≡ okay y → x ≡ y
ok_is x y e = cc

abbrev pub then_some : {A B : Type 0} → Option A → (A → Option B) → Option B
then_some o f = parts.◌>>=◌ o f

abbrev pub then_ok : {A B : Type 0} → Result A ℕ → (A → Result B ℕ) → Result B ℕ
then_ok r f = reading.◌>>=◌ r f

pub by_some : {A B P : Type 0} (o : Option A) (f : A → Option B) (y : B) → then_some o f ≡ Some y → ((x : A) → o ≡ Some x → f x ≡ Some y → P) → P
by_some None f y e k = absurd cc
by_some (Some x) f y e k = k x refl e

pub by_made : {A B P : Type 0} (f : A → B) (o : Option (A × List ℕ)) (y : B × List ℕ) → made f o ≡ Some y → ((x : A × List ℕ) → o ≡ Some x → ◌≡◌ {A = B × List ℕ} (f x.0, x.1) y → P) → P
by_made f None y e k = absurd cc
by_made f (Some x) y e k = k x refl (some_is (f x.0, x.1) y e)

pub by_ok : {A B P : Type 0} (r : Result A ℕ) (f : A → Result B ℕ) (y : B) → then_ok r f ≡ Ok y → ((x : A) → r ≡ Ok x → f x ≡ Ok y → P) → P
by_ok (Err offset) f y e k = absurd cc
by_ok (Ok x) f y e k = k x refl e

pub by_at : {A B P : Type 0} (offset : ℕ) (o : Option A) (f : A → Result B ℕ) (y : B) → then_ok (or_at offset o) f ≡ Ok y → ((x : A) → o ≡ Some x → f x ≡ Ok y → P) → P
by_at offset None f y e k = absurd cc
by_at offset (Some x) f y e k = k x refl e

pub at_some : {A : Type 0} (offset : ℕ) (o : Option A) (x : A) → or_at offset o ≡ Ok x → o ≡ Some x
at_some offset None x e = absurd cc
at_some offset (Some y) x e = cc

pub chosen : {A P : Type 0} (b : Bool) (x y z : A) → cond b x y ≡ z → (b ≡ true → x ≡ z → P) → (b ≡ false → y ≡ z → P) → P
chosen true x y z e k j = k refl e
chosen false x y z e k j = j refl e

pub unless : {A P : Type 0} (b : Bool) (o : Option A) (y : A) → cond b None o ≡ Some y → (b ≡ false → o ≡ Some y → P) → P
unless true o y e k = absurd cc
unless false o y e k = k refl e

pub when : {A P : Type 0} (b : Bool) (o : Option A) (y : A) → cond b o None ≡ Some y → (b ≡ true → o ≡ Some y → P) → P
when true o y e k = k refl e
when false o y e k = absurd cc

pub by_utf8 : {B P : Type 0} (bytes : List ℕ) (f : List ℕ → Option B) (y : B) → then_some (utf8_of bytes) f ≡ Some y → (is_utf8 bytes ≡ true → f bytes ≡ Some y → P) → P
by_utf8 bytes f y e k = by_some (utf8_of bytes) f y e (λ text u rest. when (is_utf8 bytes) (Some bytes) text u (λ valid is. k valid (rw (some_is bytes text is) rest)))

pub by_closed : {A P : Type 0} (b : Bool) (offset : ℕ) (x y : A) → ◌≡◌ {A = Result A ℕ} (cond b (Ok x) (Err offset)) (Ok y) → (b ≡ true → x ≡ y → P) → P
by_closed true offset x y e k = k refl (ok_is x y e)
by_closed false offset x y e k = absurd cc
