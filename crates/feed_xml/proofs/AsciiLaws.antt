-- ASCII is its own text in each encoding whose bytes are characters.
use Rattle.std.proofs.Common.{◌≡◌, ℕ, Bool, true, List, [], ◌∷◌, ◌++◌, refl, sym, ap, ◌∙◌, append_assoc}
use Rattle.std.specs.Prelude.{if◌then◌else◌, encode_utf8}
use Rattle.std.specs.List.{flat_map, list_all}
use Rattle.std.proofs.lemmas.Bool.{and_parts, ltb-true}
use Rattle.std.proofs.lemmas.Grind.{flat_map-append}
use Rattle.std.proofs.lemmas.Str.{encode_ascii}
use Rattle.feed_xml.specs.declared.encodings.Encoding.{Encoding}
use Rattle.feed_xml.specs.declared.encodings.Encoding.TheVariants.{Utf8, Ascii, Latin1, Latin9, Windows1252}
use Rattle.feed_xml.specs.Encodings.{byte_text, code_of, latin9_code, windows_code}
use Rattle.feed_xml.specs.private.NameCharacters.{is_ascii}

own_code : (e : Encoding) (b : ℕ) → is_ascii b ≡ true → code_of e b ≡ b
own_code Utf8 b h = refl
own_code Ascii b h = ap (λ (t : Bool). if t then b else 0) h
own_code Latin1 b h = refl
own_code Latin9 b h = ap (λ (t : Bool). if t then b else latin9_code b) h
own_code Windows1252 b h = ap (λ (t : Bool). if t then b else windows_code b) h

own_text : (e : Encoding) (bytes : List ℕ) → list_all is_ascii bytes ≡ true → flat_map (byte_text e) bytes ≡ bytes
own_text e [] h = refl
own_text e (b ∷ bytes) h =
    let p = and_parts (is_ascii b) (list_all is_ascii bytes) h in
    ap (λ (c : ℕ). encode_utf8 c ++ flat_map (byte_text e) bytes) (own_code e b p.0)
    ∙ ap (λ (l : List ℕ). l ++ flat_map (byte_text e) bytes) (encode_ascii b (ltb-true b 128 p.0))
    ∙ ap (λ (l : List ℕ). b ∷ l) (own_text e bytes p.1)

-- ASCII at the front of bytes goes first
pub ascii_first : (e : Encoding) (out ascii rest bytes : List ℕ) → bytes ≡ ascii ++ rest → list_all is_ascii ascii ≡ true
    → (out ++ ascii) ++ flat_map (byte_text e) rest ≡ out ++ flat_map (byte_text e) bytes
ascii_first e out ascii rest bytes is h =
    append_assoc out ascii (flat_map (byte_text e) rest)
    ∙ ap (λ (l : List ℕ). out ++ (l ++ flat_map (byte_text e) rest)) (sym (own_text e ascii h))
    ∙ ap (λ (l : List ℕ). out ++ l) (sym (flat_map-append (byte_text e) ascii rest))
    ∙ ap (λ (l : List ℕ). out ++ flat_map (byte_text e) l) (sym is)
