-- The encoding that a document says it has.
use Rattle.std.specs.Prelude.{◌≡◌, ℕ, Bool, ◌||◌, ◌==◌, codes, List, [], ◌∷◌, Option, Some, None}
use Rattle.std.specs.Prelude.{Result, Ok, ⊤, not, if◌then◌else◌, option_map, take, drop, unwrap_or}
use Rattle.std.specs.List.{filter}
use Rattle.std.specs.Option.{option_or}
use Rattle.std.specs.Result.{result_ok}
use Rattle.std.specs.Str.{bytes_eq, str_to_ascii_lowercase}
use Rattle.feed_xml.specs.declared.encodings.Encoding.{Encoding}
use Rattle.feed_xml.specs.declared.encodings.Encoding.TheVariants.{Utf8, Ascii, Latin1}
use Rattle.feed_xml.specs.declared.encodings.Encoding.TheVariants.{Latin9, Windows1252}
use Rattle.feed_xml.specs.Encodings.{decoded}
use Rattle.feed_xml.specs.declared.stop.Stop.{Stop}
use Rattle.feed_xml.specs.Grammar.{begins, declared_at}
use Rattle.feed_xml.specs.Steps.{◌>>=◌, literal}
use Rattle.feed_xml.specs.Tables.{entry}

module _ (name : List ℕ) where
  -- a name without its hyphens and low lines, in small letters
  abbrev pub plain_name : List ℕ
  plain_name = str_to_ascii_lowercase (filter (λ b. not ((b == 45) || (b == 95))) name)

  abbrev pub is_alike : List ℕ → Bool
  is_alike plain = bytes_eq plain_name plain

  -- The encoding of a name that a declaration gives whose bytes are those of ASCII. In UTF-16 they
  -- would not be: what says so there is UTF-8.
  abbrev pub encoding_of : Option Encoding
  encoding_of =
      entry (λ key. is_alike (codes key)) (("utf8", Utf8) ∷ ("utf16", Utf8) ∷ ("usascii", Ascii)
      ∷ ("ascii", Ascii) ∷ ("iso88591", Latin1) ∷ ("latin1", Latin1) ∷ ("iso885915", Latin9)
      ∷ ("windows1252", Windows1252) ∷ ("cp1252", Windows1252) ∷ [])

module _ (head : List ℕ) where
  -- the encoding in a declaration at the front
  unfoldable pub encoding_in : Result (List ℕ) Stop
  encoding_in = do
    mark ← literal (codes "<?xml") head
    version ← declared_at (codes "version") mark.1
    encoding ← declared_at (codes "encoding") version.1
    Ok encoding.0

  abbrev pub declared_name : Option (List ℕ)
  declared_name = result_ok encoding_in

  -- the encoding that is declared, and where none is, UTF-8
  abbrev pub declared : Option Encoding
  declared = encoding_of (unwrap_or declared_name (codes "utf8"))

  -- the encoding of a byte order mark at the front, and how many bytes the mark has
  abbrev pub marked : Option (Encoding × ℕ)
  marked = if begins (239 ∷ 187 ∷ 191 ∷ []) head then Some (Utf8, 3) else None

  -- a byte order mark of UTF-16 stands at the front, in one order or the other
  abbrev pub is_utf16 : Bool
  is_utf16 = begins (254 ∷ 255 ∷ []) head || begins (255 ∷ 254 ∷ []) head

  -- The encoding of a document that begins so, and how many bytes its byte order mark has: the one
  -- that the mark tells, else the one of its declaration. UTF-16 is none that is known.
  abbrev pub encoding_at : Option (Encoding × ℕ)
  encoding_at =
      if is_utf16 then None
      else option_or marked (option_map (λ encoding. (encoding, 0)) declared)

  -- the name of its encoding: that of the mark, else the one that is declared
  abbrev pub encoding_name : Option (List ℕ)
  encoding_name = if is_utf16 then Some (codes "UTF-16") else declared_name

-- The text of a document's bytes, where its encoding is known. It is told within the first 1,024
-- bytes, and the mark is no part of the text.
abbrev pub text_of : List ℕ → Option (List ℕ)
text_of bytes =
    option_map (λ found. decoded found.0 (drop found.1 bytes)) (encoding_at (take 1024 bytes))

-- a text is that of the bytes that a reader has left, where the reader tells them
abbrev pub IsTextOf : Option (List ℕ) → List ℕ → Type 0
IsTextOf None text = ⊤
IsTextOf (Some bytes) text = text_of bytes ≡ Some text

-- the bytes that a reader has left, where it tells them, are a text, and this holds of it
abbrev pub OfText : (List ℕ → Type 0) → Option (List ℕ) → Type 0
OfText P None = ⊤
OfText P (Some bytes) = (text : List ℕ) × (text_of bytes ≡ Some text) × P text

-- their encoding is none that is known, and has this name
abbrev pub IsOfUnknown : List ℕ → List ℕ → Type 0
IsOfUnknown name bytes =
    (text_of bytes ≡ None) × (encoding_name (take 1024 bytes) ≡ Some name)
