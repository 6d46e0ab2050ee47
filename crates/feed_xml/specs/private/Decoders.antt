-- The text of bytes that are read in pieces.
use Rattle.std.specs.Prelude.{ℕ, List, Option, option_map}
use Rattle.std.specs.Io.KnownBytes.{prepend_known}
use Rattle.feed_xml.specs.declared.encodings.Encoding.{Encoding}
use Rattle.feed_xml.specs.Encodings.{decoded}

-- the UTF-8 of the bytes that a reader has left, where it tells them
abbrev pub decoded_rest : Encoding → Option (List ℕ) → Option (List ℕ)
decoded_rest encoding rest = option_map (decoded encoding) rest

-- the text of a head that was read before, and of what a reader has left
abbrev pub text_left : Encoding → List ℕ → Option (List ℕ) → Option (List ℕ)
text_left encoding head rest = decoded_rest encoding (prepend_known head rest)
