-- The names of ONIX for Books, release 3.0 and 3.1, as far as they are read.
use Prim.Native.String.{String}
use Rattle.std.specs.Prelude.{ℕ, Bool, true, false, not, ◌&&◌, ◌||◌, List, [], ◌∷◌, Option}
use Rattle.std.specs.Prelude.{◌==◌, if◌then◌else◌, codes, map, option_map}
use Rattle.std.specs.List.{after_first, before_first, find, flat_map, list_any, slice_split}
use Rattle.std.specs.Str.{bytes_eq, str_eq_ignore_ascii_case, str_to_ascii_lowercase}
use Rattle.feed_xml.specs.Grammar.{is_filled}
use Rattle.feed_xml.specs.Tables.{entry}
use Rattle.feed_outline.specs.declared.names.Naming.{Naming}
use Rattle.feed_outline.specs.declared.names.Naming.TheVariants.{Reference, Short}

-- An element that counts: the composite that it stands in, its reference name and its short tag,
-- whether no element is a stranger for its name, and whether one that would be is told apart from
-- those
pub record Word : Type 0 where
  pub composite : List ℕ
  pub reference : List ℕ
  pub short : List ℕ
  pub is_counted_alone : Bool
  pub is_apart : Bool

-- the name of the word in a message of this kind of names
abbrev pub spelled : Naming → Word → List ℕ
spelled Reference w = w.reference
spelled Short w = w.short

-- the reference name of the first word of a composite that is spelled so
abbrev pub name_among : Naming → List Word → List ℕ → List ℕ → Option (List ℕ)
name_among naming words composite name =
    option_map (λ w. w.reference)
    (find (λ w. bytes_eq (spelled naming w) name && bytes_eq w.composite composite) words)

-- an element is called so by one of the names of a word, in whatever case of letters
abbrev pub is_called : List ℕ → Word → Bool
is_called name w =
    str_eq_ignore_ascii_case w.reference name || str_eq_ignore_ascii_case w.short name

-- an element of a composite that does not count is called as one that would, and not only be
-- counted
abbrev pub is_called_among : List Word → List ℕ → List ℕ → Bool
is_called_among words composite name =
    list_any
    (λ w. bytes_eq w.composite composite && (not w.is_counted_alone && is_called name w)) words

-- an element of a composite that does not count is called as one whose strangers are told apart
abbrev pub is_called_apart : List Word → List ℕ → List ℕ → Bool
is_called_apart words composite name =
    list_any (λ w. bytes_eq w.composite composite && (w.is_apart && is_called name w)) words

-- how the words of a vocabulary count
pub data Standing : Type 0 where
  counting : Standing
  counted_alone : Standing
  apart : Standing

abbrev pub is_counting : Standing → Bool
is_counting counting = true
is_counting standing = false

abbrev pub is_told_apart : Standing → Bool
is_told_apart apart = true
is_told_apart standing = false

-- a word of a composite, which counts so, by its reference name, and its short tag behind = where
-- that is not the name in small letters
abbrev pub word : Standing → List ℕ → List ℕ → Word
word standing composite text =
    let tag = after_first (λ b. b == 61) text in
    let reference = before_first (λ b. b == 61) text in
    let short = if is_filled tag then tag else str_to_ascii_lowercase text in
    record {
      composite = composite;
      reference = reference;
      short = short;
      is_counted_alone = not (is_counting standing);
      is_apart = is_told_apart standing;
    }

-- the words of a composite, whose name goes before theirs
abbrev pub children : Standing → List (List ℕ) → List Word
children standing [] = []
children standing (composite ∷ names) = map (word standing composite) names

-- words, by rows: of each composite its name, and then its children
abbrev pub words_of : Standing → List String → List Word
words_of standing rows =
    flat_map (λ row. children standing (slice_split (λ b. b == 32) (codes row))) rows

-- the root, by its reference name
abbrev pub root : List ℕ
root = codes "ONIXMessage"

-- a vocabulary, by rows: of each composite its name, and then its children
abbrev pub vocabulary_of : List String → List Word
vocabulary_of rows = words_of counting rows

-- the same of elements that are counted and nothing else
abbrev pub counted_alone_of : List String → List Word
counted_alone_of rows = words_of counted_alone rows

-- the same of elements whose strangers are told apart
abbrev pub apart_of : List String → List Word
apart_of rows = words_of apart rows

-- the root of a message: its name tells which kind of names it has
abbrev pub naming_of_root : List ℕ → Option Naming
naming_of_root name =
    entry (λ key. bytes_eq name (codes key))
    (("ONIXMessage", Reference) ∷ ("ONIXmessage", Short) ∷ [])

-- The name of a stranger: an element that is called as one that counts where it stands, and does
-- not count: it is in another namespace, of the other kind of names, or in another case of letters.
-- No element of ONIX is called so.
abbrev pub stranger : List ℕ
stranger = codes ":"

-- the name of one that is told apart from them
abbrev pub stranger_apart : List ℕ
stranger_apart = codes ";"
