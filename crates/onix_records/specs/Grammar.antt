-- The grammar of messages: which records are a message, with which header and contents; and which a
-- message may begin with.
use Rattle.std.specs.Prelude.{ℕ, List, [], ◌∷◌, ◌++◌, ◌≡◌, ◌≤◌, ◌+◌, ◌⊎◌, ◌==◌, ⊤, Bool, true}
use Rattle.std.specs.Prelude.{false, suc, Some, map, take, length}
use Rattle.std.specs.List.{AllByRecursion}
use Rattle.onix_records.specs.PartRows.{SuppliesHaveDetails, rows_after}
use Rattle.onix_records.specs.Opening.{opening_of}
use Rattle.onix_records.specs.Row.{message_row, row_of}
use Rattle.onix_records.specs.declared.parts.Header.{Header}
use Rattle.onix_records.specs.declared.parts.Product.{Product}
use Rattle.onix_records.specs.declared.row.Form.{Form}
use Rattle.onix_records.specs.declared.row.Opening.{Opening}
use Rattle.onix_records.specs.declared.row.Row.{Row}
use Rattle.onix_records.specs.declared.row.Row.TheVariants as row

-- a message has at most so many records
abbrev pub most_records : ℕ
most_records = 20000

-- these records are a message with this header and these contents: the first is its Message row,
-- and each later one, read by itself, is the row that the contents have there
pub record IsMessage (records : List (List (List ℕ))) (h : Header) (c : List Product) : Type 0 where
  pub within : length records ≤ most_records
  pub first : List (List ℕ)
  pub rest : List (List (List ℕ))
  pub split : records ≡ first ∷ rest
  pub form : Form
  pub header : opening_of first ≡ Some (record { form = form; header = h })
  pub reads : map (row_of (record { form = form; header = h })) rest ≡ map Some (rows_after c)
  pub details : AllByRecursion SuppliesHaveDetails c

-- what may come after what
abbrev pub may_follow : Row → Row → Bool
may_follow (row.Message h) (row.Product p) = true
may_follow (row.Message h) (row.EndMessage n) = true
may_follow (row.Product p) (row.Product q) = true
may_follow (row.Product p) (row.ProductSupply s) = true
may_follow (row.Product p) (row.EndMessage n) = true
may_follow (row.ProductSupply s) (row.SupplyDetail d) = true
may_follow (row.SupplyDetail d) (row.Price p) = true
may_follow (row.SupplyDetail d) (row.SupplyDetail e) = true
may_follow (row.SupplyDetail d) (row.ProductSupply s) = true
may_follow (row.SupplyDetail d) (row.Product p) = true
may_follow (row.SupplyDetail d) (row.EndMessage n) = true
may_follow (row.Price p) (row.Price q) = true
may_follow (row.Price p) (row.SupplyDetail d) = true
may_follow (row.Price p) (row.ProductSupply s) = true
may_follow (row.Price p) (row.Product q) = true
may_follow (row.Price p) (row.EndMessage n) = true
may_follow _ _ = false

-- each row but the first may follow the one before it
abbrev pub KeepsOrder : List Row → Type 0
KeepsOrder [] = ⊤
KeepsOrder (a ∷ []) = ⊤
KeepsOrder (a ∷ b ∷ rows) = (may_follow a b ≡ true) × KeepsOrder (b ∷ rows)

-- an end says how many records come before it
abbrev pub is_counted : Row → ℕ → Bool
is_counted (row.EndMessage n) before = n == before
is_counted _ before = true

-- each end in these rows, before which there are so many, does
abbrev pub CountsAfter : ℕ → List Row → Type 0
CountsAfter before [] = ⊤
CountsAfter before (r ∷ rows) = (is_counted r before ≡ true) × CountsAfter (suc before) rows

-- records that a message may begin with: a Message row, and then rows each of which may follow the
-- one before it
pub record BeginsMessage (records : List (List (List ℕ))) : Type 0 where
  pub within : length records ≤ most_records
  pub first : List (List ℕ)
  pub rest : List (List (List ℕ))
  pub split : records ≡ first ∷ rest
  pub opening : Opening
  pub header : opening_of first ≡ Some opening
  pub rows : List Row
  pub reads : map (row_of opening) rest ≡ map Some rows
  pub order : KeepsOrder (message_row opening ∷ rows)
  pub counts : CountsAfter 1 rows

-- the last of these rows is an EndMessage
abbrev pub EndsMessage : List Row → Type 0
EndsMessage rows = (before : List Row) × (count : ℕ) × (rows ≡ before ++ row.EndMessage count ∷ [])

-- a front: no record, or records that a message may begin with
abbrev pub IsFront : List (List (List ℕ)) → Type 0
IsFront records = (records ≡ []) ⊎ BeginsMessage records

-- the number of the row at which a list of records stops being a front: one more than the length of
-- its longest prefix that is one
pub record IsBadRow (records : List (List (List ℕ))) (number : ℕ) : Type 0 where
  pub before : ℕ
  pub at : number ≡ before + 1
  pub prefix : before ≤ length records
  pub front : IsFront (take before records)
  pub longest : (n : ℕ) → n ≤ length records → IsFront (take n records) → n ≤ before
