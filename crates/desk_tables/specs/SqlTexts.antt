-- The texts of the statements on a table, made of its definition.
use Rattle.std.specs.Prelude.{ℕ, zero, suc, ◌+◌, List, [], ◌∷◌, ◌++◌, ◌/◌, ◌%◌, codes, drop, get_or, length, map, nat_lt, take, if◌then◌else◌}
use Rattle.sqlite_schema.specs.declared.schema.Action.{Action}
use Rattle.sqlite_schema.specs.declared.schema.Action.TheVariants.{Cascade}
use Rattle.desk_tables.specs.TableDefinition.{Column, ForeignKey, TableDefinition, is_text, may_be_null, name_of, names_of}

-- texts with another between them
abbrev pub joined : List ℕ → List (List ℕ) → List ℕ
joined between [] = []
joined between (a ∷ []) = a
joined between (a ∷ b ∷ more) = a ++ between ++ joined between (b ∷ more)

-- with a comma between them
abbrev pub listed : List (List ℕ) → List ℕ
listed = joined (codes ", ")

abbrev pub in_brackets : List ℕ → List ℕ
in_brackets text = codes "(" ++ text ++ codes ")"

-- ---- CREATE TABLE

abbrev pub on_delete_text : Action → List ℕ
on_delete_text Cascade = codes " ON DELETE CASCADE"
on_delete_text _ = []

abbrev pub references_text : ForeignKey → List ℕ
references_text k =
    codes " REFERENCES " ++ codes k.parent ++ codes " "
    ++ in_brackets (listed (map codes k.columns)) ++ on_delete_text k.on_delete

-- the name and the type of a column
abbrev pub column_text : {A : Type 0} → Column A → List ℕ
column_text c =
    name_of c ++ (if is_text c then codes " TEXT" else codes " INTEGER")
    ++ (if may_be_null c then [] else codes " NOT NULL")

-- a key of one column, and a reference of one column, stand after the first
abbrev pub primary_behind : ℕ → List ℕ
primary_behind (suc zero) = codes " PRIMARY KEY"
primary_behind _ = []

abbrev pub foreign_behind : List ForeignKey → List ℕ
foreign_behind [] = []
foreign_behind (k ∷ more) = if nat_lt 1 (length k.columns) then [] else references_text k

abbrev pub column_texts : {A : Type 0} → ℕ → List ForeignKey → List (Column A) → List (List ℕ)
column_texts key foreign [] = []
column_texts key foreign (c ∷ more) =
    (column_text c ++ foreign_behind foreign ++ primary_behind key) ∷ map column_text more

-- those of more columns stand after all columns
abbrev pub primary_texts : ℕ → List (List ℕ) → List (List ℕ)
primary_texts key names =
    if nat_lt 1 key
    then (codes "PRIMARY KEY " ++ in_brackets (listed (take key names))) ∷ []
    else []

abbrev pub foreign_texts : List ForeignKey → List (List ℕ) → List (List ℕ)
foreign_texts [] names = []
foreign_texts (k ∷ more) names =
    if nat_lt 1 (length k.columns)
    then (codes "FOREIGN KEY " ++ in_brackets (listed (take (length k.columns) names))
    ++ references_text k) ∷ []
    else []

abbrev pub unique_text : List (List ℕ) → List ℕ → List ℕ
unique_text names places =
    codes "UNIQUE " ++ in_brackets (listed (map (λ place. get_or ([] ∷ names) place []) places))

-- the text that makes the table
abbrev pub create_text : {A : Type 0} → TableDefinition A → List ℕ
create_text d =
    codes "CREATE TABLE " ++ codes d.name ++ codes " "
    ++ in_brackets (listed (column_texts d.key d.foreign d.columns
    ++ map (unique_text (names_of d)) d.uniques ++ primary_texts d.key (names_of d)
    ++ foreign_texts d.foreign (names_of d))) ++ codes " STRICT"

-- ---- INSERT, SELECT and DELETE

-- the parameter of a number below 100
abbrev pub parameter_text : ℕ → List ℕ
parameter_text n =
    codes "?" ++ (if nat_lt n 10 then [] else (48 + n / 10) ∷ []) ++ (48 + n % 10) ∷ []

-- the parameters of that many columns, numbered from one on
abbrev pub parameters_from : ℕ → ℕ → List (List ℕ)
parameters_from first zero = []
parameters_from first (suc n) = parameter_text first ∷ parameters_from (first + 1) n

abbrev pub repeated : ℕ → List ℕ → List (List ℕ)
repeated zero text = []
repeated (suc n) text = text ∷ repeated n text

-- the text of an INSERT up to its values
abbrev pub into_text : {A : Type 0} → TableDefinition A → List ℕ
into_text d =
    codes "INSERT INTO " ++ codes d.name ++ codes " " ++ in_brackets (listed (names_of d))
    ++ codes " VALUES "

-- the text that puts a row
abbrev pub insert_text : {A : Type 0} → TableDefinition A → List ℕ
insert_text d = into_text d ++ in_brackets (listed (parameters_from 1 (length d.columns)))

-- the text that puts that many rows
abbrev pub insert_rows_text : {A : Type 0} → ℕ → TableDefinition A → List ℕ
insert_rows_text n d =
    into_text d
    ++ listed (repeated n (in_brackets (listed (repeated (length d.columns) (codes "?")))))

-- each of these columns is a parameter
abbrev pub equal_from : ℕ → List (List ℕ) → List (List ℕ)
equal_from first [] = []
equal_from first (name ∷ more) =
    (name ++ codes " = " ++ parameter_text first) ∷ equal_from (first + 1) more

-- no columns: all rows
abbrev pub where_text : List (List ℕ) → List ℕ
where_text [] = []
where_text (name ∷ more) = codes " WHERE " ++ joined (codes " AND ") (equal_from 1 (name ∷ more))

-- no columns: in any order
abbrev pub order_text : List (List ℕ) → List ℕ
order_text [] = []
order_text (name ∷ more) = codes " ORDER BY " ++ listed (name ∷ more)

-- the text that asks for these columns of the rows whose columns `by` are the parameters, in the
-- order of others
abbrev pub select_text : {A : Type 0} → TableDefinition A → List (List ℕ) → List (List ℕ)
    → List (List ℕ) → List ℕ
select_text d shown by order =
    codes "SELECT " ++ listed shown ++ codes " FROM " ++ codes d.name ++ where_text by
    ++ order_text order

-- the text that removes the rows whose columns `by` are the parameters
abbrev pub delete_text : {A : Type 0} → TableDefinition A → List (List ℕ) → List ℕ
delete_text d by = codes "DELETE FROM " ++ codes d.name ++ where_text by

-- the names of the columns of the primary key
abbrev pub key_of : {A : Type 0} → TableDefinition A → List (List ℕ)
key_of d = take d.key (names_of d)

-- the text that asks for all columns of the rows whose first columns of the key, so many, are the
-- parameters, in the order of the others of the key
abbrev pub rows_text : {A : Type 0} → TableDefinition A → ℕ → List ℕ
rows_text d n = select_text d (names_of d) (take n (key_of d)) (drop n (key_of d))

-- the text that removes those rows
abbrev pub delete_by_key_text : {A : Type 0} → TableDefinition A → ℕ → List ℕ
delete_by_key_text d n = delete_text d (take n (key_of d))
