-- Bytes that are written and read in pieces.
use Rattle.std.proofs.Common.{◌<◌, refl, length-append, ◌+◌, ◌-◌, ◌≤◌, ℕ, List, [], ◌++◌, Option, length, take, drop, sym, ap, ◌∙◌, arith, subst, length-drop}
use Rattle.std.proofs.Math.Seq.{take-add}
use Rattle.std.specs.Prelude.{Some, None}
use Rattle.std.specs.Io.KnownBytes.{Appends, Consumes}
use Rattle.csv_records.specs.Streams.{IsTold, TakesAtMost}
use Rattle.std.proofs.KnownBytes.{Appends-trans, Consumes-trans}
use Rattle.std.proofs.lemmas.List.{take_rest}

-- what goes on where the front stops
pub appends_more : (a b c : Option (List ℕ)) (xs : List ℕ) (at n : ℕ) → Appends a b (take at xs) → Appends b c (take n (take (length xs - at) (drop at xs))) → Appends a c (take (at + n) xs)
appends_more a b c xs at n front more =
    subst (Appends a c) (ap (λ ys. take at xs ++ take n ys) (take_rest xs at) ∙ sym (take-add at n xs)) (Appends-trans a b c _ _ front more)

pub within_more : (xs : List ℕ) (at n : ℕ) → at ≤ length xs → n ≤ length (take (length xs - at) (drop at xs)) → at + n ≤ length xs
within_more xs at n le more = let rest : n ≤ length (drop at xs) = rw take_rest at more in omega (arith, length-drop at xs)

-- there is a text that a reader may have left
pub some_told : (known : Option (List ℕ)) → (text : List ℕ) × IsTold known text × Unit {0}
some_told None = ([], tt, tt)
some_told (Some text) = (text, refl, tt)

-- a reader that gave more than a bound had more than it
pub long_told : (most : ℕ) (old new : Option (List ℕ)) (bytes : List ℕ) → Consumes old new bytes → most < length bytes → (text : List ℕ) × IsTold old text × most < length text
long_told most None new bytes gave long = (bytes, tt, long)
long_told most (Some text) None bytes gave long = absurd gave
long_told most (Some text) (Some rest) bytes gave long = (text, refl, omega (arith, ap length gave, length-append bytes rest))

-- a reader that gave bytes, and then a piece, gave both together
pub takes_more : (most : ℕ) (a b c : Option (List ℕ)) (bytes piece : List ℕ) → Consumes a b bytes → Consumes b c piece → length bytes + length piece ≤ most → TakesAtMost most a c
takes_more most a b c bytes piece first next fits = (bytes ++ piece, Consumes-trans a b c bytes piece first next, omega (arith, length-append bytes piece, fits))
