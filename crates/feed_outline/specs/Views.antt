-- Lines and words without where they lie in memory.
use Rattle.std.specs.Prelude.{List, ◌++◌, map, option_map}
use Rattle.feed_outline.specs.declared.line.Line.{Line}
use Rattle.feed_outline.specs.declared.names.Vocabulary.{Vocabulary}
use Rattle.feed_outline.specs.declared.names.Word.{Word}
use Rattle.feed_outline.specs.declared.namespaces.Binding.{Binding}
use Rattle.feed_outline.specs.Namespaces.{Binding as Declared}
use Rattle.feed_outline.specs.Nodes.{Tag}
use Rattle.feed_outline.specs.Outline.{Line as Told}
use Rattle.feed_outline.specs.Names.{Word as Spelled}

-- the tag of a line's element
abbrev pub tag_view : Line → Tag
tag_view l = record { format = option_map (λ f. f.items) l.format }

-- a line, as its depth, its tag and its texts
abbrev pub line_view : Line → Told
line_view l = record { depth = l.depth; name = l.name.now; tag = tag_view l; text = l.text.items }

-- lines, as that
abbrev pub line_views : List Line → List Told
line_views lines = map line_view lines

-- a word, as its texts
abbrev pub word_view : Word → Spelled
word_view w =
    record {
      composite = w.composite.now;
      reference = w.reference.now;
      short = w.short.now;
      is_counted_alone = w.is_counted_alone;
      is_apart = w.is_apart;
    }

-- words, as that
abbrev pub word_views : List Word → List Spelled
word_views words = map word_view words

-- the words of a vocabulary, those of its first list before the others, and last those apart
abbrev pub vocabulary_view : Vocabulary → List Spelled
vocabulary_view v =
    word_views v.first.now ++ (word_views v.others.now ++ word_views v.apart.now)

abbrev pub binding_view : Binding → Declared
binding_view b = record { prefix = b.prefix.items; address = b.address.items }

abbrev pub binding_views : List Binding → List Declared
binding_views bindings = map binding_view bindings
