-- Words that read so read as well so where nothing is said of those of `convert`.
use Rattle.std.specs.Prelude.{⊤}
use Rattle.std.proofs.Common.{List, Option, Some, None, inl, inr}
use Rattle.clap.specs.Simple.{matches_of, subcommand_of}
use Rattle.clap.specs.Walk.{Row, Text}
use Rattle.program_words.specs.Asked.{IsAction, IsRefused, Reads, ReadsAs, ReadsOther, ReadsWords}
use Rattle.program_words.specs.CommandLine.{onixdesk}
use Rattle.program_words.specs.ConvertWords.{AsksToConvert}
use Rattle.program_words.specs.declared.convert_words.Conversion.{Conversion}
use Rattle.program_words.specs.declared.invocation.Action.{Action}
use Rattle.program_words.specs.declared.invocation.Action.TheVariants.{Convert}
use Rattle.program_words.specs.declared.invocation.Reading.{Reading}
use Rattle.program_words.specs.declared.invocation.Reading.TheVariants.{Run, Wrong}

-- nothing is said
abbrev any : List Row → Option Conversion → Type 0
any own asked = ⊤

module _ (top : List Row) where
  module _ (name : Text) (own : List Row) where
    action_any : (action : Action) → IsAction AsksToConvert top name own action → IsAction any top name own action
    action_any (Convert conversion) is = (is.0, tt, is.2)
    action_any other is = is

    refused_any : IsRefused AsksToConvert top name own → IsRefused any top name own
    refused_any (inl none) = inl none
    refused_any (inr (inl serve)) = inr (inl serve)
    refused_any (inr (inr convert)) = inr (inr (convert.0, tt))

    read_any : (read : Reading) → ReadsAs AsksToConvert top name own read → ReadsAs any top name own read
    read_any (Run asked) is = (action_any asked.action is.0, is.1)
    read_any (Wrong text) is = refused_any is
    read_any other is = is

  words_any : (command : Option (Text × List Row)) (read : Reading) → ReadsWords AsksToConvert top command read → ReadsWords any top command read
  words_any None read is = is
  words_any (Some command) read (inl apart) = inl apart
  words_any (Some command) read (inr is) = inr (is.0, read_any command.0 command.1 read is.1)

pub reads_other : (words : List Text) (read : Reading) → Reads words read → ReadsOther words read
reads_other words read (inl out) = inl out
reads_other words read (inr (inl fault)) = inr (inl fault)
reads_other words read (inr (inr is)) = inr (inr (is.0, words_any (matches_of onixdesk words) (subcommand_of onixdesk words) read is.1))
