-- The content of the rows of a desk is one.
use Rattle.std.proofs.Common.{◌≡◌, ◌<◌, ◌≤◌, ◌⊎◌, ◌∷◌, ◌∙◌, ℕ, List, [], Option, Some, None, IfSome, inl, inr, refl, sym, ap, map, subst}
use Rattle.std.proofs.lemmas.Bool.{cases_lt}
use Rattle.std.specs.List.{AllByRecursion}
use Rattle.std.specs.Option.{option_or}
use Rattle.std.specs.Prelude.{find, option_map}
use Rattle.sqlite.specs.Effect.{Database}
use Rattle.desk_tables.specs.AgreementRows.{AppliedRow, HeldRow, applied_definition, held_definition, series_columns}
use Rattle.desk_tables.specs.Parties.{party_type, party_value}
use Rattle.desk_tables.specs.Rows.{AreFirst, DeskRows, IsAddressee, applied_at, applied_part, held_at, is_applied, is_held, is_named}
use Rattle.desk_tables.specs.TableDefinition.{values_of}
use Rattle.desk_tables.specs.declared.series.SeriesRow.{SeriesRow}
use Rattle.onix_records.specs.declared.agreements.Agreement.{Agreement}
use Rattle.onix_records.specs.declared.effects.Effect.{Effect}
use Rattle.onix_terms.specs.declared.party.Party.{Party}
use Rattle.series_rules.proofs.AgreementLemmas.{named_has_name}
use Rattle.series_rules.proofs.GapLemmas.{none_below_first}
use Rattle.series_rules.specs.Agreements.{agreements_of, named}
use Rattle.series_rules.specs.Content.{SameContent}
use Rattle.series_rules.specs.Firsts.{first_at}
use Rattle.series_rules.specs.declared.requests.Request.{Request}
use Rattle.series_rules.specs.declared.requests.Standing.{Standing}
use Rattle.desk_rows.proofs.Agreed.{none_under}
use Rattle.desk_rows.proofs.Fronts.{stored_is}
use Rattle.desk_rows.specs.Desks.{HoldsSecond}
use Rattle.desk_rows.specs.Stands.{StandsFor, stored_text}
use Rattle.desk_rows.specs.Texts.{IsReadable, TextsTellApart, standing_text}
use Rattle.desk_stops.specs.Connections.{RowsHaveOneContent}

-- ---- the rows of the same trees

-- rows with the same values are the same, where that is so of each
map_one : {A B : Type 0} (f : A → B) → ((x y : A) → f x ≡ f y → x ≡ y) → (xs ys : List A) → map f xs ≡ map f ys → xs ≡ ys
map_one f one [] [] e = refl
map_one f one [] (y ∷ ys) e = absurd cc
map_one f one (x ∷ xs) [] e = absurd cc
map_one f one (x ∷ xs) (y ∷ ys) e =
    let first : f x ≡ f y = cc in
    let others : map f xs ≡ map f ys = cc in
    let same = one x y first in
    let rest = map_one f one xs ys others in
    λ i. same i ∷ rest i

held_one : (x y : HeldRow) → values_of held_definition x ≡ values_of held_definition y → x ≡ y
held_one x y e =
    let series : x.series ≡ y.series = cc in
    let number : x.number ≡ y.number = cc in
    let contents : x.contents ≡ y.contents = cc in
    λ i. record { series = series i; number = number i; contents = contents i }

applied_one : (x y : AppliedRow) → values_of applied_definition x ≡ values_of applied_definition y → x ≡ y
applied_one x y e =
    let series : x.series ≡ y.series = cc in
    let number : x.number ≡ y.number = cc in
    let contents : x.contents ≡ y.contents = cc in
    let replaced : x.effect.replaced ≡ y.effect.replaced = cc in
    let updated : x.effect.updated ≡ y.effect.updated = cc in
    let deleted : x.effect.deleted ≡ y.effect.deleted = cc in
    let unknown : x.effect.unknown ≡ y.effect.unknown = cc in
    let ignored : x.effect.ignored ≡ y.effect.ignored = cc in
    λ i. record {
      series = series i;
      number = number i;
      contents = contents i;
      effect = record { replaced = replaced i; updated = updated i; deleted = deleted i; unknown = unknown i; ignored = ignored i };
    }

addressee_one : (p q : Option Party) → IsAddressee p → IsAddressee q → party_type p ≡ party_type q → party_value p ≡ party_value q → p ≡ q
addressee_one None None none also types values = refl
addressee_one None (Some b) none is types values = absurd (is (sym types))
addressee_one (Some a) None is none types values = absurd (is types)
addressee_one (Some a) (Some b) one two types values = λ i. Some (record { id_type = types i; id_value = values i })

series_one : (x y : SeriesRow) → IsAddressee x.agreement.addressee → IsAddressee y.agreement.addressee → series_columns x ≡ series_columns y → x ≡ y
series_one x y one two e =
    let name : x.agreement.name ≡ y.agreement.name = cc in
    let sender_type : x.agreement.sender.id_type ≡ y.agreement.sender.id_type = cc in
    let sender_value : x.agreement.sender.id_value ≡ y.agreement.sender.id_value = cc in
    let types : party_type x.agreement.addressee ≡ party_type y.agreement.addressee = cc in
    let values : party_value x.agreement.addressee ≡ party_value y.agreement.addressee = cc in
    let first : x.agreement.first ≡ y.agreement.first = cc in
    let next : x.next ≡ y.next = cc in
    let addressee = addressee_one x.agreement.addressee y.agreement.addressee one two types values in
    λ i. record {
      agreement = record {
        name = name i;
        sender = record { id_type = sender_type i; id_value = sender_value i };
        addressee = addressee i;
        first = first i;
      };
      next = next i;
    }

abbrev are_addressees : List SeriesRow → Type 0
are_addressees rows = AllByRecursion (λ (r : SeriesRow). IsAddressee r.agreement.addressee) rows

all_series_one : (xs ys : List SeriesRow) → are_addressees xs → are_addressees ys → map series_columns xs ≡ map series_columns ys → xs ≡ ys
all_series_one [] [] one two e = refl
all_series_one [] (y ∷ ys) one two e = absurd cc
all_series_one (x ∷ xs) [] one two e = absurd cc
all_series_one (x ∷ xs) (y ∷ ys) one two e =
    let first : series_columns x ≡ series_columns y = cc in
    let others : map series_columns xs ≡ map series_columns ys = cc in
    let same = series_one x y one.0 two.0 first in
    let rest = all_series_one xs ys one.1 two.1 others in
    λ i. same i ∷ rest i

first_of : (db : Database) (rows : DeskRows) → HoldsSecond db rows → AreFirst db.trees rows
first_of db rows (inl holds) = holds.tables
first_of db rows (inr holds) = holds.0.tables

-- ---- the content of rows

-- what stands is told by its text
told_one : TextsTellApart → (o p : Option Standing) → IfSome o IsReadable → IfSome p IsReadable → option_map standing_text o ≡ option_map standing_text p → o ≡ p
told_one tell None None one two e = refl
told_one tell None (Some h) one two e = absurd cc
told_one tell (Some g) None one two e = absurd cc
told_one tell (Some g) (Some h) one two e = let texts : standing_text g ≡ standing_text h = cc in ap Some (tell g h one two texts)

module _ (tell : TextsTellApart) (rows other : DeskRows) (series : rows.series ≡ other.series) (held : rows.held ≡ other.held) (applied : rows.applied ≡ other.applied) (L M : List Request) (one : StandsFor rows L) (two : StandsFor other M) where
  names : (name : List ℕ) → named (agreements_of L) name ≡ named (agreements_of M) name
  names name =
      sym (one.by_name name)
      ∙ ap (λ (xs : List SeriesRow). option_map (λ (r : SeriesRow). r.agreement) (find (is_named name) xs)) series
      ∙ two.by_name name

  stored : (s : List ℕ) (n : ℕ) → stored_text s n rows ≡ stored_text s n other
  stored s n =
      ap (λ (xs : List AppliedRow). option_or (option_map (λ (p : List ℕ × Effect). p.0) (option_map applied_part (find (is_applied s n) xs))) (held_at s n rows)) applied
      ∙ ap (λ (xs : List HeldRow). option_or (option_map (λ (p : List ℕ × Effect). p.0) (applied_at s n other)) (option_map (λ (r : HeldRow). r.contents) (find (is_held s n) xs))) held

  -- at a number of a series that is agreed
  first_there : (a : Agreement) (n : ℕ) → named (agreements_of L) a.name ≡ Some a → named (agreements_of M) a.name ≡ Some a → (n < a.first) ⊎ (a.first ≤ n) → first_at L a.name n ≡ first_at M a.name n
  first_there a n found also (inl below) = none_below_first L a found n below ∙ sym (none_below_first M a also n below)
  first_there a n found also (inr above) =
      told_one tell (first_at L a.name n) (first_at M a.name n) ((one.series a found).2.can_be_kept.readable n) ((two.series a also).2.can_be_kept.readable n)
      (sym (stored_is rows L a n one found above) ∙ stored a.name n ∙ stored_is other M a n two also above)

  firsts : (s : List ℕ) (n : ℕ) → first_at L s n ≡ first_at M s n
  firsts s n = go (named (agreements_of L) s) refl
    where
      go : (o : Option Agreement) → named (agreements_of L) s ≡ o → first_at L s n ≡ first_at M s n
      go None e = none_under L s n e ∙ sym (none_under M s n (sym (names s) ∙ e))
      go (Some a) e =
          let is : a.name ≡ s = named_has_name (agreements_of L) s a e in
          let found : named (agreements_of L) a.name ≡ Some a = ap (named (agreements_of L)) is ∙ e in
          subst (λ t. first_at L t n ≡ first_at M t n) is (first_there a n found (sym (names a.name) ∙ found) (cases_lt n a.first))

  one_content : SameContent L M
  one_content = record { agreements = names; firsts = firsts }

pub rows_have_one_content : TextsTellApart → RowsHaveOneContent
rows_have_one_content tell trees L M (db, are, (rows, holds, stands)) (db', are', (other, holds', stands')) =
    let a : AreFirst trees rows = subst (λ t. AreFirst t rows) are (first_of db rows holds) in
    let b : AreFirst trees other = subst (λ t. AreFirst t other) are' (first_of db' other holds') in
    one_content tell rows other
    (all_series_one rows.series other.series a.addressees b.addressees (sym a.series.are ∙ b.series.are))
    (map_one (values_of held_definition) held_one rows.held other.held (sym a.held.are ∙ b.held.are))
    (map_one (values_of applied_definition) applied_one rows.applied other.applied (sym a.applied.are ∙ b.applied.are))
    L M stands stands'
