-- What the statements of a request come to.
use Rattle.std.specs.Prelude.{◌≡◌, ◌+◌, ℕ, Bool, true, false, List, ◌∷◌, Option, Some, None}
use Rattle.catalogue_rules.specs.Records.{ByReference}
use Rattle.desk_catalogue.specs.Holding.{HoldsCatalogue}
use Rattle.desk_tables.specs.Rows.{DeskRows, series_at, with_applied, with_next}
use Rattle.onix_records.specs.declared.effects.Effect.{Effect}
use Rattle.onix_records.specs.declared.agreements.Agreement.{Agreement}
use Rattle.series_rules.specs.Answers.{placed_answer}
use Rattle.series_rules.specs.Series.{front_of}
use Rattle.series_rules.specs.declared.answers.DeliveryAnswer.{DeliveryAnswer}
use Rattle.series_rules.specs.declared.answers.DeliveryAnswer.TheVariants.{Applied, Held}
use Rattle.series_rules.specs.declared.requests.Request.{Request}
use Rattle.series_rules.specs.declared.requests.Standing.{Standing}
use Rattle.desk_rows.specs.Stands.{CutAt, IsAppliedAt, IsNew, StandsFor}
use Rattle.desk_rows.specs.Texts.{IsReadable, standing_text}

-- the catalogue of the series is that after h
abbrev pub Applies : List ℕ → Standing → DeskRows → Effect → DeskRows → Type 0
Applies name h rows e now =
    (m : ByReference) → HoldsCatalogue name m rows → IsAppliedAt name m h rows e now

-- h is applied at the number n, with its text and its counts e, and the series is at the number
-- after it
abbrev pub AppliesAt : List ℕ → ℕ → Standing → List ℕ → DeskRows → Effect → DeskRows → Type 0
AppliesAt name n h text rows e now =
    (mid : DeskRows) × Applies name h rows e mid
    × (now ≡ with_next name (n + 1)
    (with_applied (record { series = name; number = n; contents = text; effect = e }) mid))

-- so is what the text is read as
abbrev pub AppliesText : List ℕ → ℕ → List ℕ → DeskRows → DeskRows → Type 0
AppliesText name n text rows now =
    (h : Standing) × IsReadable h
    × (standing_text h ≡ text)
    × (e : Effect) × AppliesAt name n h text rows e now

-- the next number is applied where it is held
abbrev pub DrainsOne : List ℕ → ℕ → DeskRows → Bool → DeskRows → Type 0
DrainsOne name k rows moved now =
    (f : ℕ → Option Standing) (a : Agreement) (base : DeskRows) → CutAt f a base k rows
    → name ≡ a.name
    → ((moved ≡ true) → CutAt f a base (k + 1) now)
    × ((moved ≡ false) → CutAt f a base k now × (f k ≡ None))

-- all are applied up to the first that is not held
abbrev pub Drains : List ℕ → ℕ → DeskRows → DeskRows → Type 0
Drains name from rows now =
    (f : ℕ → Option Standing) (a : Agreement) (base : DeskRows) → CutAt f a base from rows
    → name ≡ a.name
    → (next : ℕ) × CutAt f a base next now × (f next ≡ None)

-- what is answered of what stands at a number: that it is applied, where that is what it did, or
-- that it waits for the next
abbrev pub applied_or_held : List ℕ → ℕ → ℕ → Option Effect → DeliveryAnswer
applied_or_held name next n (Some e) = Applied name n e
applied_or_held name next n None = Held name n next

-- h is put at the number n, where nothing stands, what then stands up to the first gap is applied,
-- and the answer is by the place of n
abbrev pub PutsNew : List ℕ → ℕ → ℕ → Standing → List ℕ → DeskRows → DeliveryAnswer → DeskRows
    → Type 0
PutsNew name next n h text rows answer now =
    (L : List Request) (r : Request) (a : Agreement) → StandsFor rows L
    → IsNew L r a n h
    → name ≡ a.name
    → standing_text h ≡ text
    → series_at a.name rows ≡ Some (record { agreement = a; next = next })
    → StandsFor now (r ∷ L) × (answer ≡ placed_answer (front_of (r ∷ L) a) a.name a.first n)
