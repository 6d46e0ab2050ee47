-- Which databases lack the index on articles.
use Rattle.std.proofs.Common.{◌≡◌, ◌∙◌, ap, refl, false, true}
use Rattle.sqlite_schema.specs.Names.{same_name}
use Rattle.sqlite.specs.Effect.{Database, IsDatabase}
use Rattle.sqlite_schema.specs.declared.schema.Schema.{Schema}
use Rattle.desk_tables.proofs.OneSchema.{same_indexes, same_tables}
use Rattle.desk_tables.specs.Rows.{DeskRows, Holds, HoldsFirst, HoldsUnindexed}
use Rattle.desk_tables.specs.Schema.{desk_schema, first_schema, lacks_index, unindexed_schema}

whole : lacks_index desk_schema ≡ false
unfolding same_name
whole = refl

before : lacks_index first_schema ≡ false
unfolding same_name
before = refl

lacking : lacks_index unindexed_schema ≡ true
unfolding same_name
lacking = refl

-- the desk's does not
pub second_has_index : (db : Database) (rows : DeskRows) → Holds db rows → lacks_index db.schema ≡ false
second_has_index db rows h = ap lacks_index h.schema ∙ whole

-- nor does one of version 1, which lacks a table too
pub first_lacks_more : (db : Database) (rows : DeskRows) → HoldsFirst db rows → lacks_index db.schema ≡ false
first_lacks_more db rows h = ap lacks_index h.schema ∙ before

pub unindexed_lacks_index : (db : Database) (rows : DeskRows) → HoldsUnindexed db rows → lacks_index db.schema ≡ true
unindexed_lacks_index db rows h = ap lacks_index h.schema ∙ lacking

-- a sound database with the trees of another lacks it as that does
pub lacks_again : (a b : Database) → IsDatabase a → IsDatabase b → b.trees ≡ a.trees → lacks_index b.schema ≡ lacks_index a.schema
lacks_again a b is_a is_b same = λ i. lacks_index (record a.schema { tables = same_tables a b is_a is_b same i; indexes = same_indexes a b is_a is_b same i })
