-- No value in the JSON of an answer is a float.
use Rattle.std.proofs.Common.{◌≡◌, false, ℕ, List, refl}
use Rattle.serde_json.specs.Written.{has_float}
use Rattle.series_rules.specs.declared.answers.AgreeAnswer.{AgreeAnswer}
use Rattle.series_rules.specs.declared.answers.AgreeAnswer.TheVariants as agree
use Rattle.series_rules.specs.declared.answers.DeliveryAnswer.{DeliveryAnswer}
use Rattle.series_rules.specs.declared.answers.DeliveryAnswer.TheVariants as delivery
use Rattle.series_rules.specs.declared.answers.WaiveAnswer.{WaiveAnswer}
use Rattle.series_rules.specs.declared.answers.WaiveAnswer.TheVariants as waiver
use Rattle.series_rules.specs.declared.answers.GapReport.{GapReport}
use Rattle.series_rules.specs.declared.answers.Answer.{Answer}
use Rattle.series_rules.specs.declared.answers.Answer.TheVariants as answer
use Rattle.desk_http.specs.AnswerJson.{agreement, answer_json, delivered, gaps, missing, waiver_answer}
use Rattle.desk_http.specs.Json.{count}
use Rattle.desk_http.proofs.CatalogueFloats.{catalogue_has_none}
use Rattle.desk_http.proofs.NoFloats.{list_has_none, null_has_none}
use Rattle.desk_http.proofs.OfferFloats.{calendar_has_none, choice_has_none, price_has_none}

agreement_has_none : (name : List ℕ) (first : ℕ) (a : AgreeAnswer) → has_float (agreement name first a) ≡ false
agreement_has_none name first agree.Agreed = refl
agreement_has_none name first agree.NameTaken = refl
agreement_has_none name first (agree.SeriesTaken holder) = refl

delivered_has_none : (a : DeliveryAnswer) → has_float (delivered a) ≡ false
delivered_has_none (delivery.Malformed row) = refl
delivered_has_none delivery.Unnumbered = refl
delivered_has_none delivery.UnknownSeries = refl
delivered_has_none (delivery.BeforeFirst series n first) = refl
delivered_has_none (delivery.Waived series n) = refl
delivered_has_none (delivery.OtherContents series n) = refl
delivered_has_none (delivery.Applied series n e) = refl
delivered_has_none (delivery.Held series n next) = refl

waiver_has_none : (series : List ℕ) (n : ℕ) (a : WaiveAnswer) → has_float (waiver_answer series n a) ≡ false
waiver_has_none series n waiver.UnknownSeries = refl
waiver_has_none series n (waiver.BeforeFirst first) = refl
waiver_has_none series n waiver.Had = refl
waiver_has_none series n waiver.Waived = refl

gaps_has_none : (g : GapReport) → has_float (gaps g) ≡ false
gaps_has_none g = rw (null_has_none count (λ _. refl) g.greatest, list_has_none missing (λ _. refl) g.missing) refl

pub answer_has_none : (a : Answer) → has_float (answer_json a) ≡ false
answer_has_none (answer.Agreement name first a) = agreement_has_none name first a
answer_has_none (answer.Delivery a) = delivered_has_none a
answer_has_none (answer.Waiver series n a) = waiver_has_none series n a
answer_has_none (answer.Price isbn offers) = price_has_none isbn offers
answer_has_none (answer.Choice isbn c) = choice_has_none isbn c
answer_has_none (answer.Calendar isbn offers) = calendar_has_none isbn offers
answer_has_none answer.BadRange = refl
answer_has_none (answer.Gaps report) = gaps_has_none report
answer_has_none (answer.Catalogue series m) = catalogue_has_none series m
answer_has_none answer.UnknownSeries = refl
answer_has_none (answer.Malformed row) = refl
