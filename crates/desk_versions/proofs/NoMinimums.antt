-- The tables of requests whose messages are of form 1 have no minimums.
use Rattle.std.proofs.Common.{◌≡◌, ◌+◌, ◌∷◌, ◌∙◌, [], ℕ, suc, List, true, false, cond, ◌&&◌, Option, Some, None, IfSome, refl, ap, subst, map, nat_eq, arith}
use Rattle.std.specs.Prelude.{bytes_eq, codes, nat_lt}
use Rattle.std.specs.FinMap as fin
use Rattle.std.specs.List.{AllByRecursion, list_any}
use Rattle.std.specs.Option.{option_or}
use Rattle.onix_records.proofs.RowParts.{message-meant}
use Rattle.onix_records.specs.Message.{message_of}
use Rattle.onix_records.specs.PartRows.{content_rows}
use Rattle.onix_records.specs.declared.agreements.Agreement.{Agreement}
use Rattle.onix_records.specs.declared.parts.Header.{Header}
use Rattle.onix_records.specs.declared.parts.Product.{Product}
use Rattle.catalogue_rules.specs.Records.{EachHas}
use Rattle.desk_catalogue.proofs.MinimumLemmas.{none_at_start, records_without_minimums}
use Rattle.desk_catalogue.specs.Minimums.{HasNoMinimums}
use Rattle.desk_tables.specs.RecordChanges.{has_minimums_of, is_minimum_of}
use Rattle.desk_tables.specs.declared.prices.MinimumRow.{MinimumRow}
use Rattle.desk_tables.specs.Rows.{DeskRows, version_set, with_version}
use Rattle.series_rules.proofs.AgreementLemmas.{named_has_name, same_bytes}
use Rattle.series_rules.specs.Agreements.{agreements_of, between, named}
use Rattle.series_rules.specs.Firsts.{Placement, admitted, admitted_at, admitted_message, admitted_number, first_at, put_at}
use Rattle.series_rules.specs.Series.{BeginsWith, after_all}
use Rattle.series_rules.specs.declared.requests.Request.{Request}
use Rattle.series_rules.specs.declared.requests.Request.TheVariants.{Deliver, Waive}
use Rattle.series_rules.specs.declared.requests.Standing.{Standing}
use Rattle.series_rules.specs.declared.requests.Standing.TheVariants.{Message, Waived}
use Rattle.desk_versions.specs.FirstForm.{AreOfFormOne, IsOfFormOne, VersionsAgree}
use Rattle.desk_rows.specs.Stands.{IsAppliedToGap, StandsFor}
use Rattle.desk_versions.proofs.FirstForm.{HasNoMinimum, contents_are}
use Rattle.desk_versions.proofs.FirstEntries.{StandingHasNone, none_after_all, of_products}
use Rattle.desk_versions.proofs.SetVersions.{stands_set}

-- ---- what stands

abbrev PlacementHasNone : Placement → Type 0
PlacementHasNone p = StandingHasNone p.standing

at_number : (o : Option Agreement) (n : ℕ) (h : Standing) → StandingHasNone h → IfSome (admitted_at o n h) PlacementHasNone
at_number None n h own = tt
at_number (Some a) n h own = elim (nat_lt n a.first) as (λ b. IfSome (cond b None (Some (record { series = a.name; number = n; standing = h }))) PlacementHasNone) [ true ↦ tt | false ↦ own ]

at_some_number : (o : Option Agreement) (n : Option ℕ) (h : Standing) → StandingHasNone h → IfSome (admitted_number o n h) PlacementHasNone
at_some_number o None h own = tt
at_some_number o (Some n) h own = at_number o n h own

of_message : (agreements : List Agreement) (m : Option (Header × List Product))
    → ((h : Header) (c : List Product) → m ≡ Some (h, c) → AllByRecursion HasNoMinimum (content_rows c)) → IfSome (admitted_message agreements m) PlacementHasNone
of_message agreements None own = tt
of_message agreements (Some m) own = at_some_number (between agreements m.0.sender m.0.addressee) m.0.number (Message m.1) (of_products m.1 (own m.0 m.1 refl))

of_request : (agreements : List Agreement) (r : Request) → IsOfFormOne r → IfSome (admitted agreements r) PlacementHasNone
of_request agreements (Deliver records) one =
    of_message agreements (message_of records) (λ h c e. let m = message-meant records h c e in contents_are records h c m (one h c m))
of_request agreements (Waive series number) one = at_number (named agreements series) number Waived tt
of_request agreements _ one = tt

put_there : (o : Option Placement) (series : List ℕ) (n : ℕ) → IfSome o PlacementHasNone → IfSome (put_at o series n) StandingHasNone
put_there None series n own = tt
put_there (Some p) series n own = elim (bytes_eq p.series series && nat_eq p.number n) as (λ b. IfSome (cond b (Some p.standing) None) StandingHasNone) [ true ↦ own | false ↦ tt ]

either : (o p : Option Standing) → IfSome o StandingHasNone → IfSome p StandingHasNone → IfSome (option_or o p) StandingHasNone
either None p was own = own
either (Some h) p was own = was

-- no price has a minimum in what stands at a number
firsts_have_none : (L : List Request) → AreOfFormOne L → (series : List ℕ) (n : ℕ) → IfSome (first_at L series n) StandingHasNone
firsts_have_none [] all series n = tt
firsts_have_none (r ∷ L) all series n =
    either (first_at L series n) (put_at (admitted (agreements_of L) r) series n) (firsts_have_none L all.1 series n)
    (put_there (admitted (agreements_of L) r) series n (of_request (agreements_of L) r all.0))

-- nor in what is applied
begun_have_none : (f : ℕ → Option Standing) → ((n : ℕ) → IfSome (f n) StandingHasNone) → (from : ℕ) (hs : List Standing) → BeginsWith f from hs → AllByRecursion StandingHasNone hs
begun_have_none f each from [] begins = tt
begun_have_none f each from (h ∷ hs) begins = (
  subst (λ o. IfSome o StandingHasNone) (begins 0 (omega arith)) (each (from + 0)),
  begun_have_none f each (from + 1) hs (λ k lt. let next : from + 1 + k ≡ from + suc k = omega arith in ap f next ∙ begins (suc k) (omega arith)),
)

catalogue_has_none : (L : List Request) → AreOfFormOne L → (a : Agreement) (hs : List Standing) → BeginsWith (first_at L a.name) a.first hs → EachHas HasNoMinimums (after_all fin.empty hs)
catalogue_has_none L one a hs begins = none_after_all fin.empty hs (begun_have_none (first_at L a.name) (firsts_have_none L one a.name) a.first hs begins) none_at_start

-- ---- the tables

-- where no record has a row of minimums, there is none
none_at_all : (xs : List MinimumRow) → ((series reference : List ℕ) → list_any (is_minimum_of series reference) xs ≡ false) → xs ≡ []
none_at_all [] each = refl
none_at_all (x ∷ xs) each =
    let own : is_minimum_of x.series x.reference x ≡ true = rw (same_bytes x.series, same_bytes x.reference) refl in
    absurd (let found : true ≡ false = rw own at (each x.series x.reference) in cc)

-- the version alone differs
version_back : (rows : DeskRows) → rows.meta ≡ record { item = codes "version"; amount = 2 } ∷ [] → with_version 2 (with_version 1 rows) ≡ rows
version_back rows is = let back : map (version_set 2) (map (version_set 1) rows.meta) ≡ rows.meta = rw is refl in λ i. record rows { meta = back i }

module _ (rows : DeskRows) (L : List Request) (stands : StandsFor rows L) (one : AreOfFormOne L) where
  none_of_series : (a : Agreement) → IsAppliedToGap (first_at L a.name) a rows → (reference : List ℕ) → has_minimums_of a.name reference rows ≡ false
  none_of_series a whole =
      λ reference. records_without_minimums a.name reference (after_all fin.empty whole.0) rows whole.2.catalogue
      (catalogue_has_none L one a whole.0 whole.2.begins)

  none_of_name : (name : List ℕ) (o : Option Agreement) → named (agreements_of L) name ≡ o → (reference : List ℕ) → has_minimums_of name reference rows ≡ false
  none_of_name name None found reference = records_without_minimums name reference fin.empty rows (stands.others name found).catalogue none_at_start
  none_of_name name (Some a) found reference =
      let same = named_has_name (agreements_of L) name a found in
      subst (λ s. has_minimums_of s reference rows ≡ false) same (none_of_series a (stands.series a (ap (named (agreements_of L)) same ∙ found)) reference)

  no_minimums : rows.minimums ≡ []
  no_minimums = none_at_all rows.minimums (λ series reference. none_of_name series (named (agreements_of L) series) refl reference)

pub versions_agree : VersionsAgree
versions_agree = record {
  up = λ rows L first. stands_set 2 rows 1 L first.0;
  down = λ rows L one stands. ((stands_set 1 rows 2 L stands, no_minimums rows L stands one), version_back rows stands.version);
  whole = catalogue_has_none;
}
