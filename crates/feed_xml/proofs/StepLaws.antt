-- Steps one after the other.
use Rattle.std.proofs.Common.{◌≡◌, ℕ, Bool, true, false, cond, List, ◌++◌, ◌⊎◌, inl, inr, Result, Ok, Err, refl}
use Rattle.feed_xml.specs.declared.stop.Stop.{Stop}
use Rattle.feed_xml.specs.declared.stop.Stop.TheVariants.{More, Never}
use Rattle.feed_xml.specs.Steps.{Step, ◌>>=◌}

-- the value of a step that did not fail
pub bind_ok : {A B : Type 0} (r : Result A Stop) (f : A → Result B Stop) (y : B) → (r >>= f) ≡ Ok y → (x : A) × (r ≡ Ok x) × (f x ≡ Ok y)
bind_ok (Ok x) f y e = (x, refl, e)
bind_ok (Err d) f y e = absurd cc

abbrev done : {A : Type 0} → A → Result A Stop
done x = Ok x

pub ok_is : {A : Type 0} (x y : A) → done x ≡ done y → x ≡ y
ok_is x y e = cc

pub chosen : {A : Type 0} (b : Bool) (x y z : A) → cond b x y ≡ z → ((b ≡ true) × (x ≡ z)) ⊎ ((b ≡ false) × (y ≡ z))
chosen true x y z e = inl (refl, e)
chosen false x y z e = inr (refl, e)

-- a test that had to hold
pub guard_ok : {A : Type 0} (b : Bool) (d : Stop) (x y : A) → cond b (done x) (Err d) ≡ done y → (b ≡ true) × (x ≡ y)
guard_ok true d x y e = (refl, cc)
guard_ok false d x y e = absurd cc

-- What was read stays so when more bytes come, and what is never there never comes.
abbrev pub Stays : {A : Type 0} → List ℕ → Step A → Step A → Type 0
Stays more (Ok x) later = later ≡ Ok (x.0, x.1 ++ more)
Stays more (Err More) later = Unit {0}
Stays more (Err Never) later = later ≡ Err Never

pub stays_bind : {A B : Type 0} (more : List ℕ) (r later : Step A) (f : A × List ℕ → Step B)
    → Stays more r later → ((x : A × List ℕ) → Stays more (f x) (f (x.0, x.1 ++ more))) → Stays more (r >>= f) (later >>= f)
stays_bind more (Ok x) later f h each = rw h (each x)
stays_bind more (Err More) later f h each = tt
stays_bind more (Err Never) later f h each = rw h refl

-- the same where what follows differs too
pub stays_then : {A B : Type 0} (more : List ℕ) (r later : Step A) (f g : A × List ℕ → Step B)
    → Stays more r later → ((x : A × List ℕ) → r ≡ Ok x → Stays more (f x) (g (x.0, x.1 ++ more))) → Stays more (r >>= f) (later >>= g)
stays_then more (Ok x) later f g h each = rw h (each x refl)
stays_then more (Err More) later f g h each = tt
stays_then more (Err Never) later f g h each = rw h refl

pub stays_if : {A : Type 0} (more : List ℕ) (b : Bool) (x y z w : Step A) → Stays more x z → Stays more y w → Stays more (cond b x y) (cond b z w)
stays_if more true x y z w h k = h
stays_if more false x y z w h k = k

pub never_stays : {A : Type 0} (more : List ℕ) (r later : Step A) → Stays more r later → r ≡ Err Never → later ≡ Err Never
never_stays more (Ok x) later h e = absurd cc
never_stays more (Err More) later h e = absurd cc
never_stays more (Err Never) later h e = h
