-- A table as a list of columns, and what follows of it: its rows as values, and the table that its
-- text means.
use Prim.Native.String.{String}
use Rattle.std.specs.Prelude.{ℕ, ℤ, pos, zero, suc, ◌+◌, Bool, true, false, List, [], ◌∷◌, codes, length, map, Option, None, if◌then◌else◌}
use Rattle.sqlite_value.specs.declared.value.Value.{Value}
use Rattle.sqlite_value.specs.declared.value.Value.TheVariants.{Int, Null, Text}
use Rattle.sqlite_value.specs.declared.keys.Collation.TheVariants.{Binary}
use Rattle.sqlite_value.specs.Keys.{plain}
use Rattle.sqlite_value.specs.Order.{Row}
use Rattle.sqlite_schema.specs.declared.schema.Action.{Action}
use Rattle.sqlite_schema.specs.declared.schema.Action.TheVariants.{NoAction}
use Rattle.sqlite_schema.specs.declared.schema.Column as schema
use Rattle.sqlite_schema.specs.declared.schema.Kind.TheVariants as kind
use Rattle.sqlite_schema.specs.declared.schema.Reference.{Reference}
use Rattle.sqlite_schema.specs.declared.schema.Table.{Table}
use Rattle.sqlite.specs.Values.{or_null}

-- a column by its name, and what a row has in it: a text, a whole number, true or false, or a day
-- that may be none
pub data Column (A : Type 0) : Type 0 where
  text_column : String → (A → List ℕ) → Column A
  number_column : String → (A → ℕ) → Column A
  flag_column : String → (A → Bool) → Column A
  day_column : String → (A → Option ℤ) → Column A

-- the first columns refer to these columns of another table
pub record ForeignKey : Type 0 where
  pub parent : String
  pub columns : List String
  pub on_delete : Action

-- a table: its name, its columns in their order, how many of the first are its primary key, the
-- places of those that are a further key, counted from 1, and the tables that it refers to
pub record TableDefinition (A : Type 0) : Type 0 where
  pub name : String
  pub columns : List (Column A)
  pub key : ℕ
  pub uniques : List (List ℕ)
  pub foreign : List ForeignKey

-- ---- a row as its values

-- true is 1 and false is 0
abbrev pub bit : Bool → ℤ
bit b = if b then pos 1 else pos 0

-- what a row has in a column
abbrev pub value_in : {A : Type 0} → A → Column A → Value
value_in r (text_column name of) = Text (of r)
value_in r (number_column name of) = Int (pos (of r))
value_in r (flag_column name of) = Int (bit (of r))
value_in r (day_column name of) = or_null Int (of r)

-- the values of a row in the order of the columns
abbrev pub values_of : {A : Type 0} → TableDefinition A → A → Row
values_of d r = map (value_in r) d.columns

-- ---- the table in a schema

-- the name of a column
abbrev pub name_of : {A : Type 0} → Column A → List ℕ
name_of (text_column name of) = codes name
name_of (number_column name of) = codes name
name_of (flag_column name of) = codes name
name_of (day_column name of) = codes name

-- the names of the columns in their order
abbrev pub names_of : {A : Type 0} → TableDefinition A → List (List ℕ)
names_of d = map name_of d.columns

abbrev pub is_text : {A : Type 0} → Column A → Bool
is_text (text_column name of) = true
is_text _ = false

-- a day may be NULL, and nothing else
abbrev pub may_be_null : {A : Type 0} → Column A → Bool
may_be_null (day_column name of) = true
may_be_null _ = false

-- the column of the schema
abbrev pub schema_column : {A : Type 0} → Column A → schema.Column
schema_column c = record {
  name = name_of c;
  kind = if is_text c then kind.Text else kind.Integer;
  is_strict = true;
  not_null = if may_be_null c then false else true;
  default = Null;
  collation = Binary;
}

-- that many places from one on
abbrev pub places_from : ℕ → ℕ → List ℕ
places_from first zero = []
places_from first (suc n) = first ∷ places_from (first + 1) n

abbrev pub reference_of : ForeignKey → Reference
reference_of k = record {
  columns = places_from 1 (length k.columns);
  parent = codes k.parent;
  parent_columns = map codes k.columns;
  on_delete = k.on_delete;
  on_update = NoAction;
  is_deferred = false;
}

abbrev pub strict_table : List ℕ → ℕ → List schema.Column → List (List ℕ) → List ℕ → List Reference
    → Table
strict_table name tree columns uniques primary references = record {
  name = name;
  tree = tree;
  columns = columns;
  key = None;
  primary = primary;
  uniques = uniques;
  orders = map (λ _. plain) uniques;
  checks = [];
  references = references;
  computed = [];
  stamps = record { places = []; terms = []; formats = [] };
  is_counted = false;
}

-- the table, with its rows in that tree
abbrev pub table_of : {A : Type 0} → TableDefinition A → ℕ → Table
table_of d tree =
    strict_table (codes d.name) tree (map schema_column d.columns) (places_from 1 d.key ∷ d.uniques)
    (places_from 1 d.key) (map reference_of d.foreign)
