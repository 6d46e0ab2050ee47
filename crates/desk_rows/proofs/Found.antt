-- A series that is found in the tables, and the requests that are answered by it alone.
use Rattle.std.proofs.Common.{◌≡◌, ◌<◌, ◌≤◌, ℕ, true, false, cond, List, ◌∷◌, Option, Some, None, refl, sym, ap, ◌∙◌, arith, subst}
use Rattle.std.specs.Prelude.{nat_lt, option_map}
use Rattle.std.proofs.lemmas.Bool.Decides.{nat_tests}
use Rattle.desk_tables.specs.Rows.{DeskRows, series_at, series_between}
use Rattle.desk_tables.specs.declared.series.SeriesRow.{SeriesRow}
use Rattle.onix_records.specs.ContentsText.{IsContents}
use Rattle.onix_records.specs.Message.{message_of, bad_row}
use Rattle.onix_records.specs.declared.agreements.Agreement.{Agreement}
use Rattle.onix_records.specs.declared.parts.Header.{Header}
use Rattle.onix_records.specs.declared.parts.Product.{Product}
use Rattle.onix_terms.specs.declared.party.Party.{Party}
use Rattle.series_rules.proofs.AgreementLemmas.{agreements_are_distinct, named_has_name}
use Rattle.series_rules.specs.Agreements.{agreements_of, between, named}
use Rattle.series_rules.specs.Answers.{answer_against, delivery_answer, delivery_answer_at, delivery_answer_by, message_answer_by, waive_answer, waive_answer_at, waived_by}
use Rattle.series_rules.specs.Firsts.{admitted, admitted_at, first_at}
use Rattle.series_rules.specs.Series.{front_of}
use Rattle.series_rules.specs.declared.answers.DeliveryAnswer.{DeliveryAnswer}
use Rattle.series_rules.specs.declared.answers.DeliveryAnswer.TheVariants as delivery
use Rattle.series_rules.specs.declared.answers.WaiveAnswer.{WaiveAnswer}
use Rattle.series_rules.specs.declared.answers.WaiveAnswer.TheVariants as waiver
use Rattle.series_rules.specs.declared.requests.Request.{Request}
use Rattle.series_rules.specs.declared.requests.Request.TheVariants.{Deliver, Waive}
use Rattle.series_rules.specs.declared.requests.Standing.TheVariants.{Message, Waived}
use Rattle.desk_rows.specs.Answering.{DeliversAt, WaivesAt}
use Rattle.desk_rows.specs.Desks.{Answers}
use Rattle.desk_rows.specs.Stands.{IsFor, StandsFor, series_of}
use Rattle.desk_rows.proofs.RequestRows.{stands_left}

abbrev agreement_in : SeriesRow → Agreement
agreement_in r = r.agreement

-- ---- by its name

pub named_row : (rows : DeskRows) (L : List Request) (name : List ℕ) (row : SeriesRow) → StandsFor rows L → Some row ≡ series_at name rows → named (agreements_of L) name ≡ Some row.agreement
named_row rows L name row stands e = sym (stands.by_name name) ∙ ap (option_map agreement_in) (sym e)

pub no_row : (rows : DeskRows) (L : List Request) (name : List ℕ) → StandsFor rows L → None ≡ series_at name rows → named (agreements_of L) name ≡ None
no_row rows L name stands e = sym (stands.by_name name) ∙ ap (option_map agreement_in) (sym e)

-- ---- by its sender and addressee

-- the row of the agreement of a sender and addressee, which is agreed
pub record IsRowOf (rows : DeskRows) (L : List Request) (sender : Party) (addressee : Option Party) (row : SeriesRow) : Type 0 where
  pub found : between (agreements_of L) sender addressee ≡ Some row.agreement
  pub agreed : named (agreements_of L) row.agreement.name ≡ Some row.agreement
  pub own : series_at row.agreement.name rows ≡ Some (record { agreement = row.agreement; next = row.next })

pub parties_row : (rows : DeskRows) (L : List Request) (s : Party) (d : Option Party) (row : SeriesRow) → StandsFor rows L → Some row ≡ series_between s d rows → IsRowOf rows L s d row
parties_row rows L s d row stands e = go (between (agreements_of L) s d) refl (e ∙ stands.by_parties s d)
  where
    go : (o : Option Agreement) → between (agreements_of L) s d ≡ o → Some row ≡ series_of o rows → IsRowOf rows L s d row
    go None found i = absurd cc
    go (Some a) found i =
        let agreed : named (agreements_of L) a.name ≡ Some a = (agreements_are_distinct L).by_parties s d a found in
        let both : Some row.agreement ≡ Some a = ap (option_map agreement_in) i ∙ stands.by_name a.name ∙ agreed in
        let same : row.agreement ≡ a = cc in
        record {
          found = found ∙ ap (λ (x : Agreement). Some x) (sym same);
          agreed = ap (λ (x : Agreement). named (agreements_of L) x.name) same ∙ agreed ∙ ap (λ (x : Agreement). Some x) (sym same);
          own = ap (λ (x : Agreement). series_at x.name rows) same ∙ sym i;
        }

pub no_parties : (rows : DeskRows) (L : List Request) (s : Party) (d : Option Party) → StandsFor rows L → None ≡ series_between s d rows → between (agreements_of L) s d ≡ None
no_parties rows L s d stands e = go (between (agreements_of L) s d) refl (e ∙ stands.by_parties s d)
  where
    go : (o : Option Agreement) → between (agreements_of L) s d ≡ o → None ≡ series_of o rows → o ≡ None
    go None found i = refl
    go (Some a) found i =
        let agreed : named (agreements_of L) a.name ≡ Some a = (agreements_are_distinct L).by_parties s d a found in
        let none : named (agreements_of L) a.name ≡ None = no_row rows L a.name stands i in
        absurd cc

-- ---- numbers

not_below : (n m : ℕ) → m ≤ n → nat_lt n m ≡ false
not_below n m le = grind (arith, nat_tests)

is_below : (n m : ℕ) → n < m → nat_lt n m ≡ true
is_below n m lt = grind (arith, nat_tests)

-- ---- waivers

pub waives_unknown : (rows now : DeskRows) (s : List ℕ) (n : ℕ) → now ≡ rows → None ≡ series_at s rows → Answers (Waive s n) (λ L. waive_answer L s n) rows waiver.UnknownSeries now
waives_unknown rows now s n left none L stands =
    let found = no_row rows L s stands none in
    (subst (λ d. StandsFor d (Waive s n ∷ L)) (sym left) (stands_left rows L (Waive s n) stands refl (rw found refl)), rw found refl)

pub waives_before : (rows now : DeskRows) (s : List ℕ) (n : ℕ) (row : SeriesRow) → now ≡ rows → Some row ≡ series_at s rows → n < row.agreement.first → Answers (Waive s n) (λ L. waive_answer L s n) rows (waiver.BeforeFirst row.agreement.first) now
waives_before rows now s n row left there lt L stands =
    let found = named_row rows L s row stands there in
    let low = is_below n row.agreement.first lt in
    (subst (λ d. StandsFor d (Waive s n ∷ L)) (sym left) (stands_left rows L (Waive s n) stands refl (rw (found, low) refl)), rw (found, low) refl)

pub waives_named : (rows between now : DeskRows) (s : List ℕ) (n : ℕ) (row : SeriesRow) (answer : WaiveAnswer) → between ≡ rows → Some row ≡ series_at s rows → row.agreement.first ≤ n → n < 1000000000 → WaivesAt s row.next n between answer now → Answers (Waive s n) (λ L. waive_answer L s n) rows answer now
waives_named rows between now s n row answer left there le lt done L stands =
    let found = named_row rows L s row stands there in
    let low = not_below n row.agreement.first le in
    let same : row.agreement.name ≡ s = named_has_name (agreements_of L) s row.agreement found in
    let here : WaivesAt s row.next n rows answer now = subst (λ (d : DeskRows). WaivesAt s row.next n d answer now) left done in
    let puts : admitted (agreements_of L) (Waive s n) ≡ Some (record { series = row.agreement.name; number = n; standing = Waived }) = rw (found, low) refl in
    let own : series_at row.agreement.name rows ≡ Some (record { agreement = row.agreement; next = row.next }) = ap (λ x. series_at x rows) same ∙ sym there in
    let is : IsFor L (Waive s n) row.agreement n Waived = record { agreed = ap (named (agreements_of L)) same ∙ found; left = refl; admits = puts; above = le; below = lt; readable = tt } in
    let end = here L (Waive s n) row.agreement stands is (sym same) own in
    let unfolds : waive_answer L s n ≡ waived_by (first_at (Waive s n ∷ L) row.agreement.name n) =
    ap (waive_answer_at (Waive s n ∷ L) n) found ∙ ap (λ b. cond b (waiver.BeforeFirst row.agreement.first) (waived_by (first_at (Waive s n ∷ L) row.agreement.name n))) low in
    (end.0, end.1 ∙ sym unfolds)

-- ---- deliveries

module _ (records : List (List (List ℕ))) (m : Header × List Product) (n : ℕ) (read : message_of records ≡ Some m) (number : m.0.number ≡ Some n) where
  -- what a delivery of that number to that agreement is answered
  delivery_unfolds : (L : List Request) (a : Agreement) → between (agreements_of L) m.0.sender m.0.addressee ≡ Some a → delivery_answer L records ≡ delivery_answer_at (Deliver records ∷ L) n m.1 (Some a)
  delivery_unfolds L a found =
      ap (delivery_answer_by (Deliver records ∷ L) (agreements_of L) (bad_row records)) read ∙ ap (message_answer_by (Deliver records ∷ L) (agreements_of L) m.0 m.1) number ∙ ap (delivery_answer_at (Deliver records ∷ L) n m.1) found

  admits : (L : List Request) (a : Agreement) → between (agreements_of L) m.0.sender m.0.addressee ≡ Some a → admitted (agreements_of L) (Deliver records) ≡ admitted_at (Some a) n (Message m.1)
  admits L a found = rw (read, number, found) refl

  pub delivers_unknown : (rows now : DeskRows) → now ≡ rows → None ≡ series_between m.0.sender m.0.addressee rows → Answers (Deliver records) (λ L. delivery_answer L records) rows delivery.UnknownSeries now
  delivers_unknown rows now left none L stands =
      let found = no_parties rows L m.0.sender m.0.addressee stands none in
      (subst (λ d. StandsFor d (Deliver records ∷ L)) (sym left) (stands_left rows L (Deliver records) stands refl (rw (read, number, found) refl)), rw (read, number, found) refl)

  pub delivers_before : (rows now : DeskRows) (row : SeriesRow) → now ≡ rows → Some row ≡ series_between m.0.sender m.0.addressee rows → n < row.agreement.first
      → Answers (Deliver records) (λ L. delivery_answer L records) rows (delivery.BeforeFirst row.agreement.name n row.agreement.first) now
  delivers_before rows now row left there lt L stands =
      let is = parties_row rows L m.0.sender m.0.addressee row stands there in
      let low = is_below n row.agreement.first lt in
      let before : delivery_answer_at (Deliver records ∷ L) n m.1 (Some row.agreement) ≡ delivery.BeforeFirst row.agreement.name n row.agreement.first = rw low refl in
      let nothing : admitted_at (Some row.agreement) n (Message m.1) ≡ None = rw low refl in
      (subst (λ d. StandsFor d (Deliver records ∷ L)) (sym left) (stands_left rows L (Deliver records) stands refl (admits L row.agreement is.found ∙ nothing)), sym (delivery_unfolds L row.agreement is.found ∙ before))

  pub delivers_found : (rows mid now : DeskRows) (row : SeriesRow) (answer : DeliveryAnswer) → mid ≡ rows → Some row ≡ series_between m.0.sender m.0.addressee rows → row.agreement.first ≤ n → n < 1000000000 → IsContents m.1
      → DeliversAt row.agreement.name row.next n m.1 mid answer now → Answers (Deliver records) (λ L. delivery_answer L records) rows answer now
  delivers_found rows mid now row answer left there le lt contents done L stands =
      let is = parties_row rows L m.0.sender m.0.addressee row stands there in
      let low = not_below n row.agreement.first le in
      let here : DeliversAt row.agreement.name row.next n m.1 rows answer now = subst (λ (d : DeskRows). DeliversAt row.agreement.name row.next n m.1 d answer now) left done in
      let puts : admitted (agreements_of L) (Deliver records) ≡ Some (record { series = row.agreement.name; number = n; standing = Message m.1 }) =
      admits L row.agreement is.found ∙ ap (λ b. cond b None (Some (record { series = row.agreement.name; number = n; standing = Message m.1 }))) low in
      let end = here L (Deliver records) row.agreement stands (record { agreed = is.agreed; left = refl; admits = puts; above = le; below = lt; readable = contents }) refl is.own in
      let unfolds : delivery_answer L records ≡ answer_against (front_of (Deliver records ∷ L) row.agreement) row.agreement.name row.agreement.first n m.1 (first_at (Deliver records ∷ L) row.agreement.name n) =
      delivery_unfolds L row.agreement is.found
      ∙ ap (λ b. cond b (delivery.BeforeFirst row.agreement.name n row.agreement.first) (answer_against (front_of (Deliver records ∷ L) row.agreement) row.agreement.name row.agreement.first n m.1 (first_at (Deliver records ∷ L) row.agreement.name n))) low in
      (end.0, end.1 ∙ sym unfolds)
