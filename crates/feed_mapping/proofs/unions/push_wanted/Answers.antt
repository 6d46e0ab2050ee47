use Rattle.std.proofs.Common.{◌∙◌, sym}
use Rattle.feed_mapping.proofs.LetterLaws.{none_wanted}
use Rattle.feed_mapping.proofs.unions.push_wanted.Goals as goal

pub returns-else-may_be_wanted : goal.returns-else-may_be_wanted
returns-else-may_be_wanted c =
    none_wanted c.args.found.now c.args.territories.now c.args.inside c.args.first (sym c.may_be_wanted.ensures ∙ c.if-may_be_wanted.false)
