-- What comes at a number of a series, against what the tables have there.
use Rattle.std.specs.Prelude.{◌≡◌, ℕ, List, ◌∷◌, Option, Some, option_map}
use Rattle.std.specs.Option.{option_and_then}
use Rattle.desk_tables.specs.Rows.{DeskRows, applied_at, series_at}
use Rattle.onix_records.specs.declared.agreements.Agreement.{Agreement}
use Rattle.onix_records.specs.declared.effects.Effect.{Effect}
use Rattle.onix_records.specs.ContentsText.{contents_text}
use Rattle.onix_records.specs.Message.{message_of}
use Rattle.onix_records.specs.declared.parts.Header.{Header}
use Rattle.onix_records.specs.declared.parts.Product.{Product}
use Rattle.series_rules.specs.Answers.{answer_against, delivery_answer, waived_by}
use Rattle.series_rules.specs.Firsts.{first_at}
use Rattle.series_rules.specs.Series.{front_of}
use Rattle.series_rules.specs.declared.answers.DeliveryAnswer.{DeliveryAnswer}
use Rattle.series_rules.specs.declared.answers.WaiveAnswer.{WaiveAnswer}
use Rattle.series_rules.specs.declared.requests.Request.{Request}
use Rattle.series_rules.specs.declared.requests.Request.TheVariants.{Deliver}
use Rattle.series_rules.specs.declared.requests.Standing.TheVariants.{Message, Waived}
use Rattle.desk_rows.specs.Desks.{Answers}
use Rattle.desk_rows.specs.Stands.{IsFor, StandsFor, stored_text}
use Rattle.desk_rows.specs.declared.answers_at.Stored.{Stored}

-- what a row of `applied` says that it did
abbrev pub counts_at : List ℕ → ℕ → DeskRows → Option Effect
counts_at name n rows = option_map (λ (p : List ℕ × Effect). p.1) (applied_at name n rows)

-- the tables have that at a number: the text of what stands there, and what it did where it is
-- applied
abbrev pub IsStored : List ℕ → ℕ → DeskRows → Option Stored → Type 0
IsStored name n rows stored =
    (option_map (λ (s : Stored). s.text) stored ≡ stored_text name n rows)
    × (option_and_then (λ (s : Stored). s.effect) stored ≡ counts_at name n rows)

-- what was delivered is answered as the definitions say, and stands where nothing stood
abbrev pub IsDelivered : List Request → Request → Agreement → ℕ → List Product → DeliveryAnswer
    → DeskRows → Type 0
IsDelivered L r a n c answer now =
    StandsFor now (r ∷ L)
    × (answer ≡ answer_against (front_of (r ∷ L) a) a.name a.first n c (first_at (r ∷ L) a.name n))

-- so it is where that is stored already
abbrev pub AnswersAgain : List ℕ → ℕ → ℕ → Stored → List ℕ → DeliveryAnswer → Type 0
AnswersAgain name next n stored text answer =
    (rows : DeskRows) (L : List Request) (r : Request) (a : Agreement) (c : List Product)
    → StandsFor rows L
    → IsFor L r a n (Message c)
    → name ≡ a.name
    → contents_text c ≡ text
    → Some stored.text ≡ stored_text name n rows
    → stored.effect ≡ counts_at name n rows
    → series_at a.name rows ≡ Some (record { agreement = a; next = next })
    → IsDelivered L r a n c answer rows

-- so it is at any number of the series
abbrev pub DeliversAt : List ℕ → ℕ → ℕ → List Product → DeskRows → DeliveryAnswer → DeskRows
    → Type 0
DeliversAt name next n c rows answer now =
    (L : List Request) (r : Request) (a : Agreement) → StandsFor rows L
    → IsFor L r a n (Message c)
    → name ≡ a.name
    → series_at a.name rows ≡ Some (record { agreement = a; next = next })
    → IsDelivered L r a n c answer now

-- so a message with a number is, whatever its series
abbrev pub AnswersMessage : Header → ℕ → List Product → DeskRows → DeliveryAnswer → DeskRows
    → Type 0
AnswersMessage header number c rows answer now =
    (records : List (List (List ℕ))) → message_of records ≡ Some (header, c)
    → header.number ≡ Some number
    → Answers (Deliver records) (λ L. delivery_answer L records) rows answer now

-- a waiver of a number of the series is answered as the definitions say, and stands where nothing
-- stood
abbrev pub WaivesAt : List ℕ → ℕ → ℕ → DeskRows → WaiveAnswer → DeskRows → Type 0
WaivesAt name next n rows answer now =
    (L : List Request) (r : Request) (a : Agreement) → StandsFor rows L
    → IsFor L r a n Waived
    → name ≡ a.name
    → series_at a.name rows ≡ Some (record { agreement = a; next = next })
    → StandsFor now (r ∷ L) × (answer ≡ waived_by (first_at (r ∷ L) a.name n))
