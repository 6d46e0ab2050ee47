use Rattle.std.proofs.Common.{refl}
use Rattle.feed_mapping.proofs.PartLaws.{products-message}
use Rattle.feed_mapping.proofs.RowLaws.{product-rows, products-joined}
use Rattle.feed_mapping.proofs.laws.records_are_products.Goals as goal

pub returns-clause-one : goal.returns-clause-one
returns-clause-one c =
    let laws = c.computed_reads_back.ensures in
    product-rows (record { writable = laws.writable; read = laws.read })

pub returns-clause-none : goal.returns-clause-none
returns-clause-none c = λ o. record { reads = refl; details = tt; utf8 = refl }

pub returns-clause-joined : goal.returns-clause-joined
returns-clause-joined c = products-joined

pub returns-clause-message : goal.returns-clause-message
returns-clause-message c = products-message c.number_reads_back.ensures.digits
