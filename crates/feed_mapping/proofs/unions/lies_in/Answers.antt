use Rattle.feed_mapping.specs.Unions.{lies_in}
use Rattle.feed_mapping.proofs.TerritorySets.{lies-from, lies-to, same-test}
use Rattle.feed_mapping.proofs.unions.lies_in.Goals as goal

pub returns : goal.returns
returns c =
    let country = c.args.country in
    let t = c.args.territory.now in
    same-test c.contains.result (lies_in country t) c.contains.ensures.0 c.contains.ensures.1 (lies-to country t) (lies-from country t)
