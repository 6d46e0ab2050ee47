-- The bytes that tell the encoding, and the text behind them.
use Rattle.std.proofs.Common.{◌≡◌, ℕ, ◌≤◌, List, ◌++◌, length, take, drop, Option, Some, None, ap, ◌∙◌, arith}
use Rattle.std.specs.Prelude.{IfSome, option_map}
use Rattle.std.specs.Io.KnownBytes.{Consumes}
use Rattle.std.proofs.lemmas.List.{take-append-le, drop-append-le, length-take}
use Rattle.feed_xml.specs.declared.encodings.Encoding.{Encoding}
use Rattle.feed_xml.specs.private.Windows.{IsTold}
use Rattle.feed_xml.specs.EncodingNames.{encoding_at, text_of, IsTextOf, OfText}
use Rattle.feed_xml.specs.Encodings.{decoded}
use Rattle.feed_xml.specs.private.Decoders.{text_left}

-- enough was read
pub enough : (a b : Option (List ℕ)) (head : List ℕ) → Consumes a b head → 1024 ≤ length head → IfSome a (λ bytes. take 1024 bytes ≡ take 1024 head)
enough None b head c long = tt
enough (Some x) None head c long = absurd c
enough (Some x) (Some y) head c long = ap (take 1024) c ∙ take-append-le 1024 head y long

-- the text of all bytes is that behind the mark
whole_text : (x y head : List ℕ) (e : Encoding) (n : ℕ) → x ≡ head ++ y → take 1024 x ≡ take 1024 head → encoding_at (take 1024 head) ≡ Some (e, n) → n ≤ length head
    → text_of x ≡ Some (decoded e (drop n head ++ y))
whole_text x y head e n is front found within =
    ap (λ (l : List ℕ). option_map (λ (f : Encoding × ℕ). decoded f.0 (drop f.1 x)) (encoding_at l)) front
    ∙ ap (option_map (λ (f : Encoding × ℕ). decoded f.0 (drop f.1 x))) found
    ∙ ap (λ (l : List ℕ). Some (decoded e l)) (ap (drop n) is ∙ drop-append-le n head y within)

pub of_text : (P : List ℕ → Type 0) (a b : Option (List ℕ)) (head : List ℕ) (e : Encoding) (n : ℕ) → Consumes a b head → IfSome a (λ bytes. take 1024 bytes ≡ take 1024 head)
    → encoding_at (take 1024 head) ≡ Some (e, n) → n ≤ length head → IfSome (text_left e (drop n head) b) P → OfText P a
of_text P None b head e n c front found within p = tt
of_text P (Some x) None head e n c front found within p = absurd c
of_text P (Some x) (Some y) head e n c front found within p =
    (decoded e (drop n head ++ y), whole_text x y head e n c front found within, p)

pub is_text_of : (a b : Option (List ℕ)) (head text : List ℕ) (e : Encoding) (n : ℕ) → Consumes a b head → IfSome a (λ bytes. take 1024 bytes ≡ take 1024 head)
    → encoding_at (take 1024 head) ≡ Some (e, n) → n ≤ length head → IsTold (text_left e (drop n head) b) text → IsTextOf a text
is_text_of None b head text e n c front found within told = tt
is_text_of (Some x) None head text e n c front found within told = absurd c
is_text_of (Some x) (Some y) head text e n c front found within told = whole_text x y head e n c front found within ∙ ap (λ (l : List ℕ). Some l) told

-- the mark is within the head
pub mark_within : (n : ℕ) (front shown other head : List ℕ) → front ≡ take 1024 shown → shown ≡ head → other ≡ head → n ≤ length front → n ≤ length other
mark_within n front shown other head is same also within = omega (arith, ap length is, length-take 1024 shown, ap length same, ap length also)
