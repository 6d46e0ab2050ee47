-- The tables of the desk as the schema has them, and rows as the values of their columns.
use Rattle.std.proofs.Common.{ℕ}
use Rattle.sqlite_schema.specs.declared.schema.Table.{Table}
use Rattle.sqlite_value.specs.Order.{Row}
use Rattle.desk_tables.specs.AgreementRows.{AppliedRow, HeldRow, MetaRow, applied_definition, held_definition, meta_definition, series_definition}
use Rattle.desk_tables.specs.RecordRows.{article_definition, minimum_definition, offer_definition, price_definition, record_definition}
use Rattle.desk_tables.specs.TableDefinition.{table_of, values_of}

-- each table, with its rows in that tree
abbrev pub meta_table : ℕ → Table
meta_table = table_of meta_definition

abbrev pub series_table : ℕ → Table
series_table = table_of series_definition

abbrev pub held_table : ℕ → Table
held_table = table_of held_definition

abbrev pub applied_table : ℕ → Table
applied_table = table_of applied_definition

abbrev pub record_table : ℕ → Table
record_table = table_of record_definition

abbrev pub article_table : ℕ → Table
article_table = table_of article_definition

abbrev pub offer_table : ℕ → Table
offer_table = table_of offer_definition

abbrev pub price_table : ℕ → Table
price_table = table_of price_definition

abbrev pub price_minimum_table : ℕ → Table
price_minimum_table = table_of minimum_definition

-- a row of `meta` as the values of its columns
abbrev pub meta_columns : MetaRow → Row
meta_columns = values_of meta_definition

-- a row of `held` as the values of its columns
abbrev pub held_columns : HeldRow → Row
held_columns = values_of held_definition

-- a row of `applied` as the values of its columns
abbrev pub applied_columns : AppliedRow → Row
applied_columns = values_of applied_definition
