-- Encodings, and the text that bytes are in one.
use Rattle.std.specs.Prelude.{ℕ, ◌-◌, ◌==◌, nat_lt, List, [], ◌∷◌, if◌then◌else◌, encode_utf8}
use Rattle.std.specs.Prelude.{slice_index, unwrap_or}
use Rattle.std.specs.List.{flat_map}
use Rattle.feed_xml.specs.Tables.{entry}
use Rattle.feed_xml.specs.declared.encodings.Encoding.{Encoding}
use Rattle.feed_xml.specs.declared.encodings.Encoding.TheVariants.{Utf8, Ascii}
use Rattle.feed_xml.specs.declared.encodings.Encoding.TheVariants.{Latin9, Windows1252}

-- the code points of the bytes 128 to 159 of windows-1252; 0 where it has none
abbrev pub windows_codes : List ℕ
windows_codes =
    8364 ∷ 0 ∷ 8218 ∷ 402 ∷ 8222 ∷ 8230 ∷ 8224 ∷ 8225 ∷ 710 ∷ 8240 ∷ 352 ∷ 8249 ∷ 338 ∷ 0 ∷ 381 ∷ 0
    ∷ 0 ∷ 8216 ∷ 8217 ∷ 8220 ∷ 8221 ∷ 8226 ∷ 8211 ∷ 8212 ∷ 732 ∷ 8482 ∷ 353 ∷ 8250 ∷ 339 ∷ 0 ∷ 382
    ∷ 376 ∷ []

module _ (b : ℕ) where
  -- the code point of a byte of windows-1252 from 128 on
  abbrev pub windows_code : ℕ
  windows_code = if nat_lt b 160 then slice_index windows_codes (b - 128) else b

  -- the code point of a byte of ISO-8859-15, which has eight others than ISO-8859-1
  abbrev pub latin9_code : ℕ
  latin9_code =
      unwrap_or (entry (λ c. b == c) ((164, 8364) ∷ (166, 352) ∷ (168, 353) ∷ (180, 381)
      ∷ (184, 382) ∷ (188, 338) ∷ (189, 339) ∷ (190, 376) ∷ [])) b

-- The code point of a byte. One that the encoding does not have is 0, a character that no document
-- has.
abbrev pub code_of : Encoding → ℕ → ℕ
code_of Ascii b = if nat_lt b 128 then b else 0
code_of Latin9 b = if nat_lt b 128 then b else latin9_code b
code_of Windows1252 b = if nat_lt b 128 then b else windows_code b
code_of other b = b

abbrev pub byte_text : Encoding → ℕ → List ℕ
byte_text encoding b = encode_utf8 (code_of encoding b)

-- the UTF-8 of a text whose bytes these are
abbrev pub decoded : Encoding → List ℕ → List ℕ
decoded Utf8 bytes = bytes
decoded encoding bytes = flat_map (byte_text encoding) bytes
