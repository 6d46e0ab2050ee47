-- The root of a document, by its tokens.
use Rattle.std.specs.Prelude.{List, [], ◌∷◌, Option, Some, None, Result}
use Rattle.std.specs.Option.{option_or}
use Rattle.feed_xml.specs.Grammar.{Token}
use Rattle.feed_outline.specs.declared.dialect.Wrong.{Wrong}
use Rattle.feed_outline.specs.Dialect.{Dialect, dialect_of}
use Rattle.feed_outline.specs.Nodes.{Said, opens, stands, said}

-- what a tag tells as the root's
abbrev pub root_in : Said → Option (Result Dialect Wrong)
root_in (opens name attributes) = Some (dialect_of name attributes)
root_in (stands name attributes) = Some (dialect_of name attributes)
root_in other = None

-- what the first tag tells, which is that of the root
abbrev pub root_of : List Token → Option (Result Dialect Wrong)
root_of [] = None
root_of (token ∷ tokens) = option_or (root_in (said token)) (root_of tokens)
