-- How a message is written: its kind of names and its namespace. Its root tells both.
use Rattle.std.specs.Prelude.{ℕ, Bool, false, ◌||◌, List, [], ◌∷◌, Option, Some, None, Result, Ok}
use Rattle.std.specs.Prelude.{Err, if◌then◌else◌, codes, unwrap_or, option_and_then}
use Rattle.std.specs.Option.{option_or}
use Rattle.std.specs.Str.{bytes_eq}
use Rattle.feed_xml.specs.Grammar.{Attribute}
use Rattle.feed_xml.specs.Values.{normalized_value_of}
use Rattle.feed_outline.specs.declared.names.Naming.{Naming}
use Rattle.feed_outline.specs.declared.dialect.Wrong.{Wrong}
use Rattle.feed_outline.specs.declared.dialect.Wrong.TheVariants.{Root, Release}
use Rattle.feed_outline.specs.Names.{Word, is_called_among, is_called_apart, naming_of_root}
use Rattle.feed_outline.specs.Names.{name_among, root, stranger, stranger_apart}
use Rattle.feed_outline.specs.Namespaces.{Binding, Scope, scope, bindings_of, prefix_of, local_of}
use Rattle.feed_outline.specs.Namespaces.{address_among, address_within, undeclared}
use Rattle.feed_outline.specs.Spaces.{collapsed, filled}

-- ---- the root

-- What the root says of all names below it: their kind, its namespace, and what its tag declares
pub record Dialect : Type 0 where
  pub naming : Naming
  -- the address of the namespace of the root, empty where it has none
  pub address : List ℕ
  pub bindings : List Binding

abbrev pub is_release : Option (List ℕ) → Bool
is_release None = false
is_release (Some release) = bytes_eq release (codes "3.0") || bytes_eq release (codes "3.1")

-- what a prefix stands for by the declarations of the root, if by any
abbrev pub root_address : List ℕ → List Binding → List ℕ
root_address prefix bindings = unwrap_or (address_among prefix bindings) (undeclared prefix)

abbrev pub with_naming : Option Naming → List ℕ → List Attribute → Result Dialect Wrong
with_naming None name attributes = Err (Root (local_of name))
with_naming (Some naming) name attributes =
    let release = normalized_value_of (codes "release") attributes in
    let bindings = bindings_of attributes in
    let address = root_address (prefix_of name) bindings in
    if is_release release
    then Ok (record { naming = naming; address = address; bindings = bindings })
    else Err (Release release address)

-- how a message is written whose root has this tag, or why it is none that is read: for its name,
-- or for its release, which is told with the address of its namespace
abbrev pub dialect_of : List ℕ → List Attribute → Result Dialect Wrong
dialect_of name attributes = with_naming (naming_of_root (local_of name)) name attributes

-- ---- the elements below it

-- what a prefix stands for below these elements of a message, the innermost first
abbrev pub address_of : Dialect → List Scope → List ℕ → List ℕ
address_of d around prefix =
    unwrap_or (address_within prefix around) (root_address prefix d.bindings)

-- the innermost of these elements by its reference name, else the root
abbrev pub composite_of : List Scope → List ℕ
composite_of [] = root
composite_of (s ∷ around) = s.name

-- the name of a stranger, if an element is called as one that counts, or as one whose strangers are
-- told apart
abbrev pub stranger_by : Bool → Bool → Option (List ℕ)
stranger_by is_called is_apart =
    if is_called then Some stranger else if is_apart then Some stranger_apart else None

-- The reference name of an element with this name and these declarations, where it counts: it is
-- called as one that stands in the innermost of those around it, and is in the root's namespace.
-- One that does not count is a stranger, where it is called as one that does in any namespace, kind
-- of names and case of letters.
abbrev pub counted : List Word → Dialect → List Scope → List ℕ → List Binding
    → Option (List ℕ)
counted vocabulary d around name bindings =
    let address = address_of d (scope [] bindings ∷ around) (prefix_of name) in
    option_or
    (if bytes_eq address d.address
    then name_among d.naming vocabulary (composite_of around) (local_of name) else None)
    (stranger_by (is_called_among vocabulary (composite_of around) (local_of name))
    (is_called_apart vocabulary (composite_of around) (local_of name)))

-- the attribute `dateformat` of an element, where it has a text
abbrev pub format_of : List Attribute → Option (List ℕ)
format_of attributes =
    option_and_then (λ text. filled (collapsed text))
    (normalized_value_of (codes "dateformat") attributes)
