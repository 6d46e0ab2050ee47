-- Reading from left to right, one part after the other.
use Rattle.std.specs.Prelude.{◌≡◌, ℕ, Bool, ◌==◌, List, [], ◌∷◌, Result, Ok, Err, if◌then◌else◌}
use Rattle.feed_xml.specs.declared.skim.Skim.{Skim}
use Rattle.feed_xml.specs.Skims.{next_skim, ends_skim}
use Rattle.feed_xml.specs.declared.stop.Stop.{Stop}
use Rattle.feed_xml.specs.declared.stop.Stop.TheVariants.{More, Never}

-- a part that was read and the bytes behind it, or why there is none
abbrev pub Step : Type 0 → Type 0
Step A = Result (A × List ℕ) Stop

infixl 10 ◌>>=◌
abbrev pub ◌>>=◌ : {A B : Type 0} → Result A Stop → (A → Result B Stop) → Result B Stop
(Ok x) >>= f = f x
(Err e) >>= f = Err e

-- what a function returned, seen by view, is what reading gives
abbrev pub Gives : {X Y : Type 0} → (X → Y) → Result X Stop → Result Y Stop → Type 0
Gives view (Ok x) read = read ≡ Ok (view x)
Gives view (Err e) read = read ≡ Err e

-- the longest front of bytes that pass, where one follows that does not
unfoldable pub run : (ℕ → Bool) → List ℕ → Step (List ℕ)
run passes [] = Err More
run passes (b ∷ bytes) =
    if passes b then (run passes bytes >>= λ x. Ok (b ∷ x.0, x.1)) else Ok ([], b ∷ bytes)

-- these bytes and no others
unfoldable pub literal : List ℕ → List ℕ → Step (List ℕ)
literal [] bytes = Ok ([], bytes)
literal (c ∷ mark) [] = Err More
literal (c ∷ mark) (b ∷ bytes) =
    if b == c then (literal mark bytes >>= λ x. Ok (c ∷ x.0, x.1)) else Err Never

-- what was found here, or what is found later where this is never a mark
abbrev pub here_or : Step (List ℕ) → Step (List ℕ) → Step (List ℕ)
here_or (Ok x) later = Ok ([], x.1)
here_or (Err More) later = Err More
here_or (Err Never) later = later

-- the bytes before the first mark, and those behind it
unfoldable pub until : List ℕ → List ℕ → Step (List ℕ)
until mark [] = Err More
until mark (b ∷ bytes) =
    here_or (literal mark (b ∷ bytes)) (until mark bytes >>= λ x. Ok (b ∷ x.0, x.1))

-- the bytes before the end of a DOCTYPE, and those behind it
unfoldable pub skim : Skim → List ℕ → Step (List ℕ)
skim s [] = Err More
skim s (b ∷ bytes) =
    if ends_skim s b then Ok ([], bytes)
    else (skim (next_skim s b) bytes >>= λ x. Ok (b ∷ x.0, x.1))
