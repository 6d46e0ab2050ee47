-- What stands for an option or operand, by its name.
use Rattle.std.specs.Prelude.{Bool, false, List, Option, codes}
use Rattle.std.specs.Option.{option_map_or}
use Rattle.std.specs.Str.{bytes_eq}
use Rattle.clap.specs.Matches.{found_of}
use Rattle.clap.specs.Walk.{Row, Text, all_of, first_of, rows_of}
use Rattle.clap.specs.declared.parser.matches.ArgMatches.{ArgMatches}

-- the options and operands that clap found
abbrev pub words_in : ArgMatches → List Row
words_in m = rows_of (found_of m)

-- the text of the option or operand
abbrev pub text_in : List Row → Text → Option Text
text_in words name = first_of name words

-- the texts of the operand
abbrev pub texts_in : List Row → Text → Option (List Text)
texts_in words name = all_of name words

-- the option without a text is there
abbrev pub has_flag : List Row → Text → Bool
has_flag words name = option_map_or (λ t. bytes_eq t (codes "true")) (text_in words name) false
