use Rattle.std.proofs.Common.{◌≡◌, ◌∙◌, arith}
use Rattle.std.specs.Prelude.{is_some}
use Rattle.std.specs.BTreeMap.{get_by_text}
use Rattle.std.proofs.lemmas.Map.Text.{text_keys}
use Rattle.feed_mapping.proofs.narrower.Countries.has.Goals as goal

pub returns : goal.returns
returns c = λ seen.
    let has : c.contains_key.result ≡ is_some (get_by_text c.args.self.now.seen c.args.country) = grind (arith, text_keys) in
    has ∙ seen c.args.country
