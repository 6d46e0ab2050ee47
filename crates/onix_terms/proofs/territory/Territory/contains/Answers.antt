use Rattle.std.proofs.lemmas.Bool.{false≢true}
use Rattle.onix_terms.proofs.territory.Territory.contains.Goals as goal

pub returns-then-has_country : goal.returns-then-has_country
returns-then-has_country c =
    let out = rw c.as_slice.ensures at (c.has_country.ensures.0 c.if-has_country.true) in
    (λ t. absurd (false≢true t), λ is_in. absurd (is_in.0 out))
