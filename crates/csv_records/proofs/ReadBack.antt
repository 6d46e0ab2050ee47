-- What was written is read again.
use Rattle.std.proofs.Common.{◌≡◌, ◌+◌, ◌∷◌, ◌∙◌, [], ℕ, List, None, length, refl, sym, ap, arith, ◌≢◌, map}
use Rattle.csv.specs.Machine.{next_record}
use Rattle.csv.specs.Reading.{Reached, default_config, strip_bom, records}
use Rattle.csv.specs.Writing.{read_back}
use Rattle.csv.specs.declared.parser.State.TheVariants as st
use Rattle.csv.proofs.RoundTrip.{read-write}
use Rattle.csv_records.specs.RecordTexts.{AllFilled, records_of, records_text}
use Rattle.csv_records.proofs.RecordsAre.{all-from}

-- the records of the text of records
reached-text : (rows : List (List (List ℕ))) → Reached default_config st.StartRecord (records_text rows) (map read_back rows) st.StartRecord []
unfolding Reached records_text
reached-text [] = (refl, refl)
reached-text (r ∷ rows) = ((read_back r, st.StartRecord, records_text rows), read-write r (records_text rows), refl, reached-text rows)

none-left : next_record default_config st.StartRecord [] [] [] ≡ None
unfolding next_record
none-left = refl

pub records-of-text : (rows : List (List (List ℕ))) → records default_config (records_text rows) ≡ map read_back rows
records-of-text rows = all-from (length (records_text rows) + 1) st.StartRecord st.StartRecord (records_text rows) [] (map read_back rows) (omega arith) refl (reached-text rows) none-left

back-same : (r : List (List ℕ)) → r ≢ [] → read_back r ≡ r
back-same [] h = absurd (h refl)
back-same (x ∷ xs) h = refl

pub map-back : (rows : List (List (List ℕ))) → AllFilled rows → map read_back rows ≡ rows
map-back [] h = refl
map-back (r ∷ rows) h = rw (back-same r h.0, map-back rows h.1) refl

-- records with fields have one text each
pub one-text : (rows others : List (List (List ℕ))) → AllFilled rows → AllFilled others → records_text rows ≡ records_text others → rows ≡ others
one-text rows others f g e =
    sym (map-back rows f) ∙ sym (records-of-text rows) ∙ ap (λ (t : List ℕ). records default_config t) e ∙ records-of-text others ∙ map-back others g

-- a text that begins with no byte order mark is read as it stands
pub records-again : (rows : List (List (List ℕ))) → AllFilled rows → strip_bom (records_text rows) ≡ records_text rows → records_of (records_text rows) ≡ rows
unfolding records_of
records-again rows f e = ap (λ (t : List ℕ). records default_config t) e ∙ records-of-text rows ∙ map-back rows f
