use Rattle.std.proofs.Common.{◌≡◌, [], refl}
use Rattle.std.specs.Option.{unwrap_or}
use Rattle.onix_records.specs.Fields.{optional}
use Rattle.onix_terms.specs.Code.{code2_of}
use Rattle.feed_mapping.specs.Details.{identifier_reasons, name_reason, supplier_id, supplier_in, unpriced_in}
use Rattle.feed_mapping.specs.Elements.{text_at}
use Rattle.feed_mapping.specs.PriceViews.{reason_read}
use Rattle.feed_mapping.specs.Records.{first_some, invalid, parsed_term}
use Rattle.feed_mapping.specs.declared.notes.Wrong.TheVariants as bad
use Rattle.feed_mapping.proofs.ElementLaws.{text-or-none}
use Rattle.feed_mapping.proofs.details.field_reason.Goals as goal

pub returns : goal.returns
returns c preferred chosen =
    let nodes = c.args.elements.now in
    let below = c.elements_in-below.ensures in
    let role : reason_read c.unless.result ≡ invalid (parsed_term code2_of) bad.SupplierRole (text_at "SupplierRole" (supplier_in nodes)) =
    let text = c.text_or_empty-role.ensures in
    let read = c.parsed_code-2.ensures in
    let is = c.is_some.ensures in
    let made = c.unless.ensures in cc in
    let name : c.text_or_empty-name.result.now ≡ text_at "SupplierName" (supplier_in nodes) = let text = c.text_or_empty-name.ensures in cc in
    let identified : reason_read c.identifier_reason.result ≡ first_some (identifier_reasons (supplier_id preferred nodes) (text_at "SupplierName" (supplier_in nodes))) =
    let made = c.identifier_reason.ensures in cc in
    let named : reason_read c.name_reason.result ≡ name_reason (text_at "SupplierName" (supplier_in nodes)) = let made = c.name_reason.ensures in cc in
    let there : reason_read c.unless-2.result ≡ invalid (parsed_term code2_of) bad.Availability (text_at "ProductAvailability" nodes) =
    let text = c.text_or_empty-availability.ensures in
    let read = c.parsed_code-3.ensures in
    let is = c.is_some-2.ensures in
    let made = c.unless-2.ensures in cc in
    let unpriced : c.unwrap_or-unpriced.result.now ≡ unwrap_or (unpriced_in nodes) [] =
    let text = text-or-none c.unpriced_in.result _ c.unwrap_or-unpriced.result refl c.unwrap_or-unpriced.ensures in
    let own = c.unpriced_in.ensures in cc in
    let coded : reason_read c.unless-3.result ≡ invalid (optional (parsed_term code2_of)) bad.Unpriced (unwrap_or (unpriced_in nodes) []) =
    let read = c.parsed_code.ensures in
    let may = c.may_be_empty-is_unpriced.ensures in
    let made = c.unless-3.ensures in cc in
    let all = c.first_of.ensures in cc
