-- What a token refuses.
use Rattle.std.specs.Prelude.{◌≡◌, false, List, [], ◌∷◌, Some, None, Err}
use Rattle.feed_xml.specs.Grammar.{Token}
use Rattle.feed_outline.specs.Nodes.{is_known}
use Rattle.feed_outline.specs.Roots.{root_of}
use Rattle.feed_outline.specs.declared.dialect.Wrong.{Wrong}

-- a token is the tag of a refused root, behind these tokens
abbrev pub RefusesRoot : Wrong → List Token → Token → Type 0
RefusesRoot wrong before token =
    (root_of before ≡ None) × (root_of (token ∷ []) ≡ Some (Err wrong))

-- a token is a reference that stands for nothing
abbrev pub RefusesReference : List Token → Token → Type 0
RefusesReference before token = is_known token ≡ false
