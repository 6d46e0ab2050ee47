use Rattle.std.proofs.Common.{List}
use Rattle.desk_catalogue.proofs.DoesLemmas.{did_also}
use Rattle.onix_records.specs.declared.parts.Product.{Product}
use Rattle.desk_rows.proofs.Applied.{message_applied}
use Rattle.desk_rows.proofs.applying.apply_standing.Goals as goal

pub returns-in-Message : goal.returns-in-Message
returns-in-Message g c =
    let products : List Product = c.in-Message.contents in
    did_also c.apply_message.ensures.applied (λ rows now effect one. message_applied c.args.series.now c.args.standing.now products effect rows now c.in-Message.is one)
