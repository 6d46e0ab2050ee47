use Rattle.desk_http.proofs.OfferDepths.{dated_depth}
use Rattle.desk_http.proofs.OfferFloats.{dated_has_none}
use Rattle.desk_http.proofs.answer_json.answer_text.Goals as goal

pub offers_text-requires-in-Calendar-clause-plain : goal.offers_text-requires-in-Calendar-clause-plain
offers_text-requires-in-Calendar-clause-plain c = dated_has_none

pub offers_text-requires-in-Calendar-clause-shallow : goal.offers_text-requires-in-Calendar-clause-shallow
offers_text-requires-in-Calendar-clause-shallow c = dated_depth
