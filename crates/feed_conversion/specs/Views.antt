-- What the caller chooses, without where it lies in memory.
use Rattle.std.specs.Prelude.{option_map}
use Rattle.feed_mapping.specs.HeaderViews.{choices_view}
use Rattle.feed_conversion.specs.Conversion.{Options}
use Rattle.feed_conversion.specs.declared.options.Options.{Options as Lent}

-- what the caller chooses, as its texts and numbers
abbrev pub options_view : Lent → Options
options_view o = record {
  choices = choices_view o.choices;
  wrong = o.wrong;
  terms = option_map (λ t. t.now) o.terms;
}
