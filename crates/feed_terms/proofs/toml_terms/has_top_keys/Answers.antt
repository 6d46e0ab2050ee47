use Rattle.std.proofs.Common.{rules, string_bytes, tests, ◌∙◌}
use Rattle.std.specs.BTreeMap.{keys}
use Rattle.std.proofs.lemmas.Iterator.Consumers.{YieldsList-from_rest}
use Rattle.std.proofs.lemmas.Iterator.Search.{all_from_yields_List}
use Rattle.price_rules.proofs.TomlTables.{keys_pass-view}
use Rattle.feed_terms.specs.TermsFile.{is_top_key}
use Rattle.feed_terms.proofs.toml_terms.has_top_keys.Goals as goal

pub returns : goal.returns
returns c =
    all_from_yields_List (λ key. is_top_key (string_bytes key)) _ _ c.all.result c.all.ensures.ran
    (YieldsList-from_rest (keys c.args.table.now) c.keys.ensures.rest) (λ x b q k. search (rules, tests))
    ∙ keys_pass-view is_top_key c.args.table.now.entries
