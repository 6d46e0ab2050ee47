use Rattle.feed_mapping.specs.PriceTexts.{prices_in}
use Rattle.feed_mapping.specs.Details.{context_in, price_in, supplier_id}
use Rattle.feed_mapping.specs.Outcomes.{all_records}
use Rattle.feed_mapping.specs.PriceTerms.{all_given, closed_kinds, supplier_of}
use Rattle.feed_mapping.proofs.GivenPriceLaws.{given-stands}
use Rattle.feed_mapping.proofs.laws.terms_only_add.Goals as goal

pub returns-clause-added : goal.returns-clause-added
returns-clause-added c = λ o terms preferred nodes.
    c.less_computed_is_without.ensures terms (supplier_of (supplier_id preferred nodes)) (closed_kinds (context_in o nodes) (prices_in nodes))
    (all_given (context_in o nodes) (prices_in nodes)) (all_records (price_in o nodes) (prices_in nodes))

pub returns-clause-stands : goal.returns-clause-stands
returns-clause-stands c =
    let laws = c.computed_reads_back.ensures in
    given-stands (record { writable = laws.writable; read = laws.read }) c.given_price_stands.ensures
