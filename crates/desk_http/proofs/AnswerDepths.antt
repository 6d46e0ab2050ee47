-- How deep the JSON of an answer nests.
use Rattle.std.proofs.Common.{◌≡◌, ◌≤◌, ℕ, List, refl, arith}
use Rattle.serde_json.specs.Data.{depth}
use Rattle.series_rules.specs.declared.answers.AgreeAnswer.{AgreeAnswer}
use Rattle.series_rules.specs.declared.answers.AgreeAnswer.TheVariants as agree
use Rattle.series_rules.specs.declared.answers.DeliveryAnswer.{DeliveryAnswer}
use Rattle.series_rules.specs.declared.answers.DeliveryAnswer.TheVariants as delivery
use Rattle.series_rules.specs.declared.answers.WaiveAnswer.{WaiveAnswer}
use Rattle.series_rules.specs.declared.answers.WaiveAnswer.TheVariants as waiver
use Rattle.series_rules.specs.declared.answers.GapReport.{GapReport}
use Rattle.series_rules.specs.declared.answers.Answer.{Answer}
use Rattle.series_rules.specs.declared.answers.Answer.TheVariants as answer
use Rattle.desk_http.specs.AnswerJson.{agreement, answer_json, delivered, gaps, missing, waiver_answer}
use Rattle.desk_http.specs.Json.{count}
use Rattle.desk_http.proofs.CatalogueDepths.{catalogue_depth}
use Rattle.desk_http.proofs.Depths.{list_depth, null_depth}
use Rattle.desk_http.proofs.OfferDepths.{calendar_depth, choice_depth, price_depth}

agreement_depth : (name : List ℕ) (first : ℕ) (a : AgreeAnswer) → depth (agreement name first a) ≡ 1
agreement_depth name first agree.Agreed = refl
agreement_depth name first agree.NameTaken = refl
agreement_depth name first (agree.SeriesTaken holder) = refl

delivered_depth : (a : DeliveryAnswer) → depth (delivered a) ≡ 1
delivered_depth (delivery.Malformed row) = refl
delivered_depth delivery.Unnumbered = refl
delivered_depth delivery.UnknownSeries = refl
delivered_depth (delivery.BeforeFirst series n first) = refl
delivered_depth (delivery.Waived series n) = refl
delivered_depth (delivery.OtherContents series n) = refl
delivered_depth (delivery.Applied series n e) = refl
delivered_depth (delivery.Held series n next) = refl

waiver_depth : (series : List ℕ) (n : ℕ) (a : WaiveAnswer) → depth (waiver_answer series n a) ≡ 1
waiver_depth series n waiver.UnknownSeries = refl
waiver_depth series n (waiver.BeforeFirst first) = refl
waiver_depth series n waiver.Had = refl
waiver_depth series n waiver.Waived = refl

gaps_depth : (g : GapReport) → depth (gaps g) ≤ 3
gaps_depth g = rw (null_depth count (λ _. refl) g.greatest) (omega (arith, list_depth missing 1 (λ _. omega arith) g.missing))

pub answer_depth : (a : Answer) → depth (answer_json a) ≤ 11
answer_depth (answer.Agreement name first a) = omega (arith, agreement_depth name first a)
answer_depth (answer.Delivery a) = omega (arith, delivered_depth a)
answer_depth (answer.Waiver series n a) = omega (arith, waiver_depth series n a)
answer_depth (answer.Price isbn offers) = omega (arith, price_depth isbn offers)
answer_depth (answer.Choice isbn c) = omega (arith, choice_depth isbn c)
answer_depth (answer.Calendar isbn offers) = omega (arith, calendar_depth isbn offers)
answer_depth answer.BadRange = omega arith
answer_depth (answer.Gaps report) = omega (arith, gaps_depth report)
answer_depth (answer.Catalogue series m) = catalogue_depth series m
answer_depth answer.UnknownSeries = omega arith
answer_depth (answer.Malformed row) = omega arith
