-- How a conversion ends.
use Rattle.std.specs.Prelude.{◌≡◌, ℕ, List, [], Option, Result, Err}
use Rattle.feed_xml.specs.EncodingNames.{IsTextOf}
use Rattle.feed_xml.specs.Tree.{Content}
use Rattle.feed_outline.specs.Dialect.{Dialect}
use Rattle.feed_outline.specs.Faults.{Explains}
use Rattle.feed_outline.specs.Message.{IsMessage}
use Rattle.feed_outline.specs.Nodes.{nodes_in}
use Rattle.feed_conversion.specs.Conversion.{Options, conversion, vocabulary_by}
use Rattle.feed_conversion.specs.Packing.{Converted}
use Rattle.feed_conversion.specs.declared.refusal.Fault.{Fault}
use Rattle.feed_conversion.specs.declared.refusal.Fault.TheVariants as fault
use Rattle.feed_conversion.specs.declared.refusal.Refusal.{Refusal}

-- The bytes that a reader has left, where it tells them, are an ONIX message, of whose elements
-- this comes.
pub record Yields (bytes : Option (List ℕ)) (o : Options)
    (comes : Result Converted Refusal) : Type 0 where
  pub text : List ℕ
  pub dialect : Dialect
  pub inside : Content
  pub encoded : IsTextOf bytes text
  pub message : IsMessage (vocabulary_by o.terms) text dialect inside
  pub conversion : conversion o (nodes_in (vocabulary_by o.terms) dialect [] inside) ≡ comes

-- Refused: the bytes are a message, and that comes of it. Unread: what feed_outline says of such a
-- fault. Of out of memory nothing is said.
abbrev pub ExplainsFault : Option (List ℕ) → Options → Fault → Type 0
ExplainsFault bytes o (fault.Refused refusal) = Yields bytes o (Err refusal)
ExplainsFault bytes o (fault.Unread unread told) = Explains (vocabulary_by o.terms) bytes unread
ExplainsFault bytes o fault.Memory = Unit {0}
