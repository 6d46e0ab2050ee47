use Rattle.feed_conversion.proofs.TakenLaws.{Laws, parts_are}
use Rattle.feed_conversion.proofs.laws.products_stand_in_parts.Goals as goal

pub returns : goal.returns
returns c =
    let laws : Laws = record {
      read = c.one_text.ensures.read;
      opening = c.parts_say_the_same.ensures.opening;
      rows = c.parts_say_the_same.ensures.rows;
      one = c.records_are_products.ensures.one;
      form = c.parts_say_the_same.ensures.form;
      none = c.records_are_products.ensures.none;
      joined = c.records_are_products.ensures.joined;
      message = c.records_are_products.ensures.message;
    } in
    parts_are laws
