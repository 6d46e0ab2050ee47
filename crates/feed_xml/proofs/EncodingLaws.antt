-- What is read in pieces is decoded in pieces.
use Rattle.std.proofs.Common.{◌≡◌, ℕ, List, [], ◌++◌, Option, Some, None, refl, ap, ◌∙◌}
use Rattle.std.specs.Io.KnownBytes.{Consumes, IsAtEnd}
use Rattle.std.proofs.lemmas.Grind.{flat_map-append}
use Rattle.feed_xml.specs.declared.encodings.Encoding.{Encoding}
use Rattle.feed_xml.specs.declared.encodings.Encoding.TheVariants.{Utf8, Ascii, Latin1, Latin9, Windows1252}
use Rattle.feed_xml.specs.Encodings.{byte_text, decoded}
use Rattle.feed_xml.specs.private.Decoders.{decoded_rest, text_left}

decoded-append : (e : Encoding) (xs ys : List ℕ) → decoded e (xs ++ ys) ≡ decoded e xs ++ decoded e ys
decoded-append Utf8 xs ys = refl
decoded-append Ascii xs ys = flat_map-append (byte_text Ascii) xs ys
decoded-append Latin1 xs ys = flat_map-append (byte_text Latin1) xs ys
decoded-append Latin9 xs ys = flat_map-append (byte_text Latin9) xs ys
decoded-append Windows1252 xs ys = flat_map-append (byte_text Windows1252) xs ys

decoded-none : (e : Encoding) → decoded e [] ≡ []
decoded-none Utf8 = refl
decoded-none Ascii = refl
decoded-none Latin1 = refl
decoded-none Latin9 = refl
decoded-none Windows1252 = refl

-- a read of some bytes
pub read_bytes : (e : Encoding) (a b : Option (List ℕ)) (bytes : List ℕ) → Consumes a b bytes
    → Consumes (decoded_rest e a) (decoded_rest e b) (decoded e bytes)
read_bytes e None b bytes c = tt
read_bytes e (Some x) None bytes c = absurd c
read_bytes e (Some x) (Some y) bytes c = ap (decoded e) c ∙ decoded-append e bytes y

-- a read of none
pub read_none : (e : Encoding) (a b : Option (List ℕ)) (bytes : List ℕ) → bytes ≡ [] → Consumes a b bytes
    → Consumes (decoded_rest e a) (decoded_rest e b) []
read_none e None b bytes none c = tt
read_none e (Some x) None bytes none c = absurd c
read_none e (Some x) (Some y) bytes none c = ap (decoded e) (c ∙ ap (λ (l : List ℕ). l ++ y) none)

-- an end is one in each encoding
pub ends_too : (e : Encoding) (a : Option (List ℕ)) → IsAtEnd a → IsAtEnd (decoded_rest e a)
ends_too e None is = tt
ends_too e (Some x) is = ap (decoded e) is ∙ decoded-none e

-- what was read before comes first
pub begun : (e : Encoding) (head : List ℕ) (a : Option (List ℕ)) → Consumes (text_left e head a) (decoded_rest e a) (decoded e head)
begun e head None = tt
begun e head (Some x) = decoded-append e head x
