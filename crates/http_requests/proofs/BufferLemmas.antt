-- What a read behind the filled bytes of a buffer leaves at its front.
use Rattle.std.proofs.Common.{◌≡◌, ℕ, ◌+◌, ◌-◌, ◌≤◌, List, [], ◌++◌, length, take, sym, ap, subst, ◌∙◌, append-nil, append_assoc, length-append, length-take, arith}
use Rattle.std.proofs.Math.Seq.{take-append-add}
use Rattle.std.proofs.lemmas.List.{take-append-le, take-take, length-take-le}
use Rattle.std.proofs.KnownBytes.{Consumes-trans}
use Rattle.std.specs.Prelude.{Option, Some, None, IfSome}
use Rattle.std.specs.Io.KnownBytes.{Consumes, IsAtEnd}
use Rattle.csv_records.specs.Streams.{TakesAtMost}
use borrow.Rule.Slice.PartMut.{put_mid, post_of}

pub take_grown : (a k n : ℕ) (xs ys : List ℕ) → a ≤ length xs → n ≤ length ys
    → take (a + n) (put_mid a k xs ys) ≡ take a xs ++ take n ys
take_grown a k n xs ys fits within =
    let front : length (take a xs) ≡ a = length-take-le a xs fits in
    let at : take (length (take a xs) + n) (take a xs ++ (ys ++ post_of a k xs)) ≡ take a xs ++ take n (ys ++ post_of a k xs) =
    take-append-add (take a xs) (ys ++ post_of a k xs) n in
    ap (λ m. take (m + n) (put_mid a k xs ys)) (sym front) ∙ at ∙ ap (λ l. take a xs ++ l) (take-append-le n ys (post_of a k xs) within)

-- a read of no byte at the end was at the end before
pub at_end_before : (a b : Option (List ℕ)) → Consumes a b [] → IsAtEnd b → IsAtEnd a
at_end_before None b p q = tt
at_end_before (Some x) None p q = absurd p
at_end_before (Some x) (Some y) p q = p ∙ q

-- what holds of every input that begins with the bytes holds of the known one
pub known_from : (P : List ℕ → Type 0) (a b : Option (List ℕ)) (bytes : List ℕ) → Consumes a b bytes
    → ((more : List ℕ) → P (bytes ++ more)) → IfSome a P
known_from P None b bytes p each = tt
known_from P (Some x) None bytes p each = absurd p
known_from P (Some x) (Some y) bytes p each = subst P (sym p) (each y)

-- at the end the known input is these bytes
pub known_at_end : (P : List ℕ → Type 0) (a b : Option (List ℕ)) (bytes : List ℕ) → Consumes a b bytes
    → IsAtEnd b → P bytes → IfSome a P
known_at_end P None b bytes p end here = tt
known_at_end P (Some x) None bytes p end here = absurd p
known_at_end P (Some x) (Some y) bytes p end here = subst P (sym (p ∙ ap (λ l. bytes ++ l) end ∙ append-nil bytes)) here

-- so many bytes were filled, the last of them by one more read
pub takes_once : (most filled total : ℕ) (a b c : Option (List ℕ)) (before after piece : List ℕ) → Consumes a b (take filled before) → take total after ≡ take filled before ++ piece → Consumes b c piece
    → total ≤ most → TakesAtMost most a c
takes_once most filled total a b c before after piece first is next fits =
    (take total after, subst (Consumes a c) (sym is) (Consumes-trans a b c (take filled before) piece first next), omega (arith, length-take total after))

-- behind a front of n bytes that was there so many bytes were filled
pub takes_behind : (size filled n : ℕ) (a b : Option (List ℕ)) (front got bytes : List ℕ) → Consumes a b got → take filled bytes ≡ front ++ got → filled ≤ size → filled ≤ length bytes → n ≡ length front → TakesAtMost (size - n) a b
takes_behind size filled n a b front got bytes read is fits within long =
    (got, read, omega (arith, fits, long, ap length is, length-take-le filled bytes within, length-append front got))

-- the bytes that one more read filled
pub filled_more : (filled total : ℕ) (front got before lent buffer piece : List ℕ) → take filled before ≡ front ++ got → take filled lent ≡ take filled before → take total buffer ≡ take filled lent ++ piece → take total buffer ≡ front ++ (got ++ piece)
filled_more filled total front got before lent buffer piece was same is = is ∙ ap (λ l. l ++ piece) (same ∙ was) ∙ append_assoc front got piece

-- they stand in the vector that lent its bytes
pub lent_more : (total len : ℕ) (buffer rest bytes : List ℕ) → take total buffer ≡ bytes → total ≤ length buffer → total ≤ len → take total (take len (buffer ++ rest)) ≡ bytes
lent_more total len buffer rest bytes is within fits = take-take total len (buffer ++ rest) fits ∙ take-append-le total buffer rest within ∙ is
