-- What stands has one text each.
use Rattle.std.proofs.Common.{◌≡◌, ℕ, List, [], ◌∷◌, codes, arith, refl, sym, ap}
use Rattle.csv_records.specs.RecordTexts.{records_text}
use Rattle.onix_records.specs.ContentsText.{IsContents, contents_text}
use Rattle.onix_records.specs.Product.{content_records, product_records}
use Rattle.onix_records.specs.declared.parts.Product.{Product}
use Rattle.series_rules.specs.declared.requests.Standing.TheVariants.{Message, Waived}
use Rattle.desk_rows.specs.Texts.{TextsTellApart}

first_byte : List ℕ → ℕ
first_byte [] = 0
first_byte (b ∷ bs) = b

no_empty : ◌≡◌ {A = ℕ} 0 119 → ⊥
no_empty e = omega arith

no_product : ◌≡◌ {A = ℕ} 80 119 → ⊥
no_product e = omega arith

-- a text of contents is empty or begins with the P of Product
not_waived : (c : List Product) → contents_text c ≡ codes "waived" → ⊥
unfolding contents_text content_records product_records records_text first_byte
not_waived [] e = no_empty (ap first_byte e)
not_waived (p ∷ rest) e = no_product (ap first_byte e)

pub texts_tell_apart : ((c d : List Product) → IsContents c → IsContents d → contents_text c ≡ contents_text d → c ≡ d) → TextsTellApart
texts_tell_apart one (Message c) (Message d) p q e = ap Message (one c d p q e)
texts_tell_apart one (Message c) Waived p q e = absurd (not_waived c e)
texts_tell_apart one Waived (Message d) p q e = absurd (not_waived d (sym e))
texts_tell_apart one Waived Waived p q e = refl
