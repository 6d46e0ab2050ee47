use Rattle.std.proofs.Common.{◌≡◌, Option}
use Rattle.std.specs.Prelude.{option_map}
use denote.Bor.{Bor}
use Rattle.feed_terms.specs.declared.table.Terms.{Terms}
use Rattle.feed_conversion.specs.Conversion.{vocabulary_by}
use Rattle.feed_conversion.specs.Views.{options_view}
use Rattle.feed_conversion.proofs.conversion.convert.Goals as goal

-- the elements that count by terms that are lent
words_by : (terms same : Option (Bor Terms)) → terms ≡ same
    → vocabulary_by (option_map (λ (t : Bor Terms). t.now) terms) ≡ vocabulary_by (option_map (λ (t : Bor Terms). t.now) same)
words_by terms same is = λ i. vocabulary_by (option_map (λ (t : Bor Terms). t.now) (is i))

pub returns-in-None-clause-converted : goal.returns-in-None-clause-converted
returns-in-None-clause-converted g c =
    (c.convert_by.ensures (options_view c.args.options.now) (g.T.Target.parts c.args.target) (words_by _ _ c.in-None.is) c.new-converter.ensures).0

pub returns-in-None-clause-fault : goal.returns-in-None-clause-fault
returns-in-None-clause-fault g c =
    (c.convert_by.ensures (options_view c.args.options.now) (g.T.Target.parts c.args.target) (words_by _ _ c.in-None.is) c.new-converter.ensures).1

pub returns-in-Some-clause-converted : goal.returns-in-Some-clause-converted
returns-in-Some-clause-converted g c =
    (c.convert_by-in-Some.ensures (options_view c.args.options.now) (g.T.Target.parts c.args.target) (words_by _ _ c.in-Some.is) c.new-converter.ensures).0

pub returns-in-Some-clause-fault : goal.returns-in-Some-clause-fault
returns-in-Some-clause-fault g c =
    (c.convert_by-in-Some.ensures (options_view c.args.options.now) (g.T.Target.parts c.args.target) (words_by _ _ c.in-Some.is) c.new-converter.ensures).1
