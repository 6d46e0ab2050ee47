-- The rows of the tables of the version, of agreements, and of held and applied messages, as plain
-- values, and those tables as lists of columns.
use Rattle.std.specs.Prelude.{ℕ, List, [], ◌∷◌}
use Rattle.sqlite_schema.specs.declared.schema.Action.TheVariants.{NoAction}
use Rattle.sqlite_value.specs.Order.{Row}
use Rattle.onix_records.specs.declared.effects.Effect.{Effect}
use Rattle.desk_tables.specs.declared.series.SeriesRow.{SeriesRow}
use Rattle.desk_tables.specs.Parties.{party_type, party_value}
use Rattle.desk_tables.specs.TableDefinition.{ForeignKey, TableDefinition, number_column, text_column, values_of}

-- ---- meta

-- an item of the tables, as their version
pub record MetaRow : Type 0 where
  pub item : List ℕ
  pub amount : ℕ

-- an item stands once
abbrev pub meta_definition : TableDefinition MetaRow
meta_definition = record {
  name = "meta";
  columns =
      text_column "item" (λ r. r.item) ∷ number_column "amount" (λ r. r.amount)
      ∷ [];
  key = 1;
  uniques = [];
  foreign = [];
}

-- ---- series

-- an agreement, with the number that is applied next: its name stands once, and so do its parties
abbrev pub series_definition : TableDefinition SeriesRow
series_definition = record {
  name = "series";
  columns =
      text_column "name" (λ r. r.agreement.name)
      ∷ text_column "sender_type" (λ r. r.agreement.sender.id_type)
      ∷ text_column "sender_value" (λ r. r.agreement.sender.id_value)
      ∷ text_column "addressee_type" (λ r. party_type r.agreement.addressee)
      ∷ text_column "addressee_value" (λ r. party_value r.agreement.addressee)
      ∷ number_column "first_number" (λ r. r.agreement.first)
      ∷ number_column "next_number" (λ r. r.next)
      ∷ [];
  key = 1;
  uniques = (2 ∷ 3 ∷ 4 ∷ 5 ∷ []) ∷ [];
  foreign = [];
}

-- a row of `series` as the values of its columns
abbrev pub series_columns : SeriesRow → Row
series_columns = values_of series_definition

-- the rows of other tables that are of a series
abbrev pub to_series : ForeignKey
to_series = record { parent = "series"; columns = "name" ∷ []; on_delete = NoAction }

-- ---- held

-- what was delivered first at a number that is not applied
pub record HeldRow : Type 0 where
  pub series : List ℕ
  pub number : ℕ
  pub contents : List ℕ

-- a number of a series stands once
abbrev pub held_definition : TableDefinition HeldRow
held_definition = record {
  name = "held";
  columns =
      text_column "series" (λ r. r.series) ∷ number_column "number" (λ r. r.number)
      ∷ text_column "contents" (λ r. r.contents) ∷ [];
  key = 2;
  uniques = [];
  foreign = to_series ∷ [];
}

-- the row of a message that is held
abbrev pub held_row : List ℕ → ℕ → List ℕ → HeldRow
held_row series number contents = record { series = series; number = number; contents = contents }

-- ---- applied

-- what was delivered first at a number that is applied, with the counts of its effect
pub record AppliedRow : Type 0 where
  pub series : List ℕ
  pub number : ℕ
  pub contents : List ℕ
  pub effect : Effect

-- a number of a series stands once
abbrev pub applied_definition : TableDefinition AppliedRow
applied_definition = record {
  name = "applied";
  columns =
      text_column "series" (λ r. r.series)
      ∷ number_column "number" (λ r. r.number)
      ∷ text_column "contents" (λ r. r.contents)
      ∷ number_column "replaced" (λ r. r.effect.replaced)
      ∷ number_column "updated" (λ r. r.effect.updated)
      ∷ number_column "deleted" (λ r. r.effect.deleted)
      ∷ number_column "unknown" (λ r. r.effect.unknown)
      ∷ number_column "ignored" (λ r. r.effect.ignored)
      ∷ [];
  key = 2;
  uniques = [];
  foreign = to_series ∷ [];
}

-- the row of a message that is applied
abbrev pub applied_row : List ℕ → ℕ → List ℕ → Effect → AppliedRow
applied_row series number contents effect = record {
  series = series;
  number = number;
  contents = contents;
  effect = effect;
}
