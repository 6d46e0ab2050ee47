-- How many SupplyDetails a product has.
use Rattle.std.specs.Prelude.{ℕ, List, length}
use Rattle.std.specs.List.{sum_by}
use Rattle.onix_records.specs.declared.parts.ProductSupply.{ProductSupply}

-- the SupplyDetails of all these supplies, counted together
abbrev pub detail_count : List ProductSupply → ℕ
detail_count supplies = sum_by (λ s. length s.details) supplies
