-- A token without where it lies in memory.
use Rattle.feed_xml.specs.declared.tags.Token.{Token}
use Rattle.feed_xml.specs.declared.tags.Token.TheVariants.{Reference, Opening, Bracket, CData}
use Rattle.feed_xml.specs.declared.tags.Token.TheVariants.{Comment, Instruction}
use Rattle.feed_xml.specs.declared.tags.Token.TheVariants.{Declaration, Doctype, Start, Empty, End}
use Rattle.feed_xml.specs.declared.pieces.Piece.{Piece}
use Rattle.feed_xml.specs.declared.pieces.Piece.TheVariants.{Text, Section, Markup}
use Rattle.std.specs.Prelude.{List, [], ◌∷◌, map}
use Rattle.feed_xml.specs.Grammar.{Token as Spelled, raw, reference, opening, bracket, cdata}
use Rattle.feed_xml.specs.Grammar.{comment, instruction}
use Rattle.feed_xml.specs.Grammar.{declaration, doctype, start, empty, end}

-- a token of the code, as a token of the grammar
abbrev pub token_view : Token → Spelled
token_view (Reference body) = reference body.now
token_view Opening = opening
token_view (Bracket n) = bracket n
token_view (CData n b) = cdata n b
token_view (Comment body) = comment body.now
token_view (Instruction body) = instruction body.now
token_view (Declaration body) = declaration body.now
token_view (Doctype body) = doctype body.now
token_view (Start name attributes space) = start name.now attributes space.now
token_view (Empty name attributes space) = empty name.now attributes space.now
token_view (End name space) = end name.now space.now

-- a stretch of text is a token for each of its bytes, and so is one of a section
abbrev pub piece_view : Piece → List Spelled
piece_view (Text run) = map raw run.now
piece_view (Section run) = map (cdata 0) run.now
piece_view (Markup token) = token_view token ∷ []
