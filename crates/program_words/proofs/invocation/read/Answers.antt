use Rattle.std.proofs.Common.{◌∙◌, List, ap, inl, inr, map, subst, subst₂, sym}
use Rattle.clap.specs.Faults.{fault_of, is_simple_and_free}
use Rattle.clap.specs.Kinds.{IsAmong}
use Rattle.clap.specs.Simple.{App, is_simple, matches_of, subcommand_of}
use Rattle.clap.specs.Values.{kind_of}
use Rattle.clap.specs.Walk.{Text}
use Rattle.program_words.specs.Asked.{ReadsWords}
use Rattle.program_words.specs.ConvertWords.{AsksToConvert}
use Rattle.program_words.proofs.CommandLemmas.{onixdesk_is_free, onixdesk_is_simple}
use Rattle.program_words.proofs.invocation.read.Goals as goal

pub returns-in-Ok-try_get_matches_from : goal.returns-in-Ok-try_get_matches_from
returns-in-Ok-try_get_matches_from c =
    let words : List Text = map (λ word. word.now) c.args.words.now in
    let is = c.in-Ok.ensures.0 in
    let gave = c.in-Ok-try_get_matches_from.ensures in
    let found = gave.matches (ap is_simple is ∙ onixdesk_is_simple) in
    let none = gave.kinds (ap is_simple_and_free is ∙ onixdesk_is_free) in
    inr (inr (
      ap (λ (a : App). fault_of a words) (sym is) ∙ none,
      subst₂ (λ top command. ReadsWords AsksToConvert top command c.matched_reading.result)
          (found.0 ∙ ap (λ (a : App). matches_of a words) is) (found.1 ∙ ap (λ (a : App). subcommand_of a words) is) c.matched_reading.ensures,
    ))

pub returns-in-Err : goal.returns-in-Err
returns-in-Err c =
    let words : List Text = map (λ word. word.now) c.args.words.now in
    let is = c.in-Ok.ensures.0 in
    let kind = kind_of c.in-Err.error in
    elim (c.in-Err.ensures.kinds (ap is_simple_and_free is ∙ onixdesk_is_free)) [
      | inl out ↦ inl (c.error_reading.ensures.memory out)
      | inr among ↦ inr (inl (
        kind,
        subst (λ (a : App). IsAmong kind (fault_of a words)) is among,
        c.error_reading.ensures.kind,
      ))
    ]
