use Rattle.std.proofs.Common.{◌∙◌, Bool, Option, ap, bytes_eq, codes, false}
use Rattle.std.specs.Option.{option_map_or}
use Rattle.clap.specs.Walk.{Text}
use Rattle.program_words.proofs.arguments.has_flag.Goals as goal

abbrev is_true : Option Text → Bool
is_true o = option_map_or (λ t. bytes_eq t (codes "true")) o false

pub returns-in-Some : goal.returns-in-Some
returns-in-Some c = c.eq.ensures ∙ ap is_true c.in-Some.ensures

pub returns-in-None : goal.returns-in-None
returns-in-None c = ap is_true c.in-None.ensures
