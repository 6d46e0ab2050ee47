-- The answer to each request, after a list of requests.
use Rattle.std.specs.Prelude.{◌+◌, ◌-◌, ◌&&◌, Bool, List, [], ◌∷◌, Option, Some, None, bytes_eq, nat_eq, nat_lt, if◌then◌else◌, ℕ, length, option_map}
use Rattle.catalogue_rules.specs.Records.{ByReference}
use Rattle.onix_records.specs.Message.{message_of, bad_row}
use Rattle.onix_records.specs.SameContents.{same_contents, same_party}
use Rattle.onix_records.specs.declared.agreements.Agreement.{Agreement}
use Rattle.onix_records.specs.declared.parts.Header.{Header}
use Rattle.onix_records.specs.declared.parts.Product.{Product}
use Rattle.series_rules.specs.Agreements.{agreements_of, named, between, same_addressee}
use Rattle.series_rules.specs.Firsts.{first_at}
use Rattle.series_rules.specs.Series.{front_of, kept_of, catalogue_of}
use Rattle.series_rules.specs.declared.requests.Request.{Request}
use Rattle.series_rules.specs.Gaps.{gaps_of}
use Rattle.series_rules.specs.Offers.{offers_after}
use Rattle.series_rules.specs.PriceAnswers.{calendar_answer, chosen_by, prices_of}
use Rattle.price_rules.specs.declared.precedence.Rule.{Rule}
use Rattle.series_rules.specs.declared.requests.Request.TheVariants.{Agree, Deliver, Waive, AskPrice, AskChoice, AskCalendar, AskGaps, AskCatalogue, Malformed}
use Rattle.series_rules.specs.declared.requests.Standing.{Standing}
use Rattle.series_rules.specs.declared.requests.Standing.TheVariants as standing
use Rattle.series_rules.specs.declared.answers.AgreeAnswer.{AgreeAnswer}
use Rattle.series_rules.specs.declared.answers.AgreeAnswer.TheVariants.{Agreed, NameTaken, SeriesTaken}
use Rattle.series_rules.specs.declared.answers.DeliveryAnswer.{DeliveryAnswer}
use Rattle.series_rules.specs.declared.answers.DeliveryAnswer.TheVariants as delivery
use Rattle.series_rules.specs.declared.answers.WaiveAnswer.{WaiveAnswer}
use Rattle.series_rules.specs.declared.answers.WaiveAnswer.TheVariants as waiver
use Rattle.series_rules.specs.declared.answers.GapReport.{GapReport}
use Rattle.series_rules.specs.declared.answers.Answer.{Answer}
use Rattle.series_rules.specs.declared.answers.Answer.TheVariants as answer

-- two agreements that are equal in all parts
abbrev pub same_agreement : Agreement → Agreement → Bool
same_agreement a b =
    bytes_eq a.name b.name && same_party a.sender b.sender
    && same_addressee a.addressee b.addressee && nat_eq a.first b.first

-- what an agreement is answered, by the one that has its name and the one that has its parties
abbrev pub agree_answer_by : Agreement → Option Agreement → Option Agreement → AgreeAnswer
agree_answer_by a (Some b) other = if same_agreement b a then Agreed else NameTaken
agree_answer_by a None (Some b) = SeriesTaken b.name
agree_answer_by a None None = Agreed

-- what an agreement is answered after L: agreed, where it stands; the name is taken, the series is
-- taken by another; or agreed
abbrev pub agree_answer : List Request → Agreement → AgreeAnswer
agree_answer L a =
    agree_answer_by a (named (agreements_of L) a.name)
    (between (agreements_of L) a.sender a.addressee)

-- what a delivery is answered whose contents stand at number n, where hs stands from the first
-- number on without a gap
abbrev pub placed_answer : List Standing → List ℕ → ℕ → ℕ → DeliveryAnswer
placed_answer hs series from n =
    if nat_lt n (from + length hs) then delivery.Applied series n (kept_of hs (n - from))
    else delivery.Held series n (from + length hs)

-- the same, by what stands at the number
abbrev pub answer_against : List Standing → List ℕ → ℕ → ℕ → List Product → Option Standing
    → DeliveryAnswer
answer_against hs series from n c None = placed_answer hs series from n
answer_against hs series from n c (Some standing.Waived) = delivery.Waived series n
answer_against hs series from n c (Some (standing.Message other)) =
    if same_contents other c then placed_answer hs series from n
    else delivery.OtherContents series n

-- what a delivery with a number is answered, by the agreement of its parties. L is the list with
-- the delivery
abbrev pub delivery_answer_at : List Request → ℕ → List Product → Option Agreement → DeliveryAnswer
delivery_answer_at L n c None = delivery.UnknownSeries
delivery_answer_at L n c (Some a) =
    if nat_lt n a.first then delivery.BeforeFirst a.name n a.first
    else answer_against (front_of L a) a.name a.first n c (first_at L a.name n)

-- what a message is answered, by its number
abbrev pub message_answer_by : List Request → List Agreement → Header → List Product → Option ℕ
    → DeliveryAnswer
message_answer_by L agreements h c None = delivery.Unnumbered
message_answer_by L agreements h c (Some n) =
    delivery_answer_at L n c (between agreements h.sender h.addressee)

-- what a delivery is answered, by the message that its records are
abbrev pub delivery_answer_by : List Request → List Agreement → ℕ → Option (Header × List Product)
    → DeliveryAnswer
delivery_answer_by L agreements row None = delivery.Malformed row
delivery_answer_by L agreements row (Some m) = message_answer_by L agreements m.0 m.1 m.0.number

-- what a delivery is answered after L, the first that fits: malformed with its row, unnumbered,
-- unknown series, before the first, waived, other contents, applied with its counts, held. What
-- stands is counted with the delivery itself
abbrev pub delivery_answer : List Request → List (List (List ℕ)) → DeliveryAnswer
delivery_answer L records =
    delivery_answer_by (Deliver records ∷ L) (agreements_of L) (bad_row records)
    (message_of records)

-- what a waiver is answered, by what stands at its number
abbrev pub waived_by : Option Standing → WaiveAnswer
waived_by None = waiver.Waived
waived_by (Some standing.Waived) = waiver.Waived
waived_by (Some (standing.Message c)) = waiver.Had

-- the same, by the agreement of its name. L is the list with the waiver
abbrev pub waive_answer_at : List Request → ℕ → Option Agreement → WaiveAnswer
waive_answer_at L n None = waiver.UnknownSeries
waive_answer_at L n (Some a) =
    if nat_lt n a.first then waiver.BeforeFirst a.first else waived_by (first_at L a.name n)

-- what a waiver is answered after L, the first that fits: unknown series, before the first, a
-- message stands there, waived
abbrev pub waive_answer : List Request → List ℕ → ℕ → WaiveAnswer
waive_answer L series n = waive_answer_at (Waive series n ∷ L) n (named (agreements_of L) series)

-- the gaps of that series, or none where it is not agreed
abbrev pub gaps_answer : List Request → List ℕ → Option GapReport
gaps_answer L series = option_map (gaps_of L) (named (agreements_of L) series)

-- the answer to a question about gaps
abbrev pub gaps_or_unknown : Option GapReport → Answer
gaps_or_unknown None = answer.UnknownSeries
gaps_or_unknown (Some report) = answer.Gaps report

-- the catalogue of that series, or none where it is not agreed
abbrev pub catalogue_answer : List Request → List ℕ → Option ByReference
catalogue_answer L series = option_map (catalogue_of L) (named (agreements_of L) series)

-- the answer to a question about a catalogue
abbrev pub catalogue_or_unknown : List ℕ → Option ByReference → Answer
catalogue_or_unknown series None = answer.UnknownSeries
catalogue_or_unknown series (Some m) = answer.Catalogue series m

-- the answer to a request after L, under the rules of a precedence table
abbrev pub answer_to : List Rule → List Request → Request → Answer
answer_to rules L (Agree a) = answer.Agreement a.name a.first (agree_answer L a)
answer_to rules L (Deliver records) = answer.Delivery (delivery_answer L records)
answer_to rules L (Waive series n) = answer.Waiver series n (waive_answer L series n)
answer_to rules L (AskPrice isbn q) = answer.Price isbn (prices_of q (offers_after L isbn))
answer_to rules L (AskChoice isbn q) = answer.Choice isbn (chosen_by rules q (offers_after L isbn))
answer_to rules L (AskCalendar isbn q) = calendar_answer isbn q (offers_after L isbn)
answer_to rules L (AskGaps series) = gaps_or_unknown (gaps_answer L series)
answer_to rules L (AskCatalogue series) = catalogue_or_unknown series (catalogue_answer L series)
answer_to rules L (Malformed row) = answer.Malformed row

-- the answers to requests, each asked after L and those before it
abbrev pub answers : List Rule → List Request → List Request → List Answer
answers rules L [] = []
answers rules L (r ∷ rs) = answer_to rules L r ∷ answers rules (r ∷ L) rs

-- L and then these requests, in order
abbrev pub followed_by : List Request → List Request → List Request
followed_by L [] = L
followed_by L (r ∷ rs) = followed_by (r ∷ L) rs
