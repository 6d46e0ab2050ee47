-- What is at a number is told by its text: a message or a waiver.
use Rattle.std.proofs.Common.{◌≡◌, ◌∷◌, ◌∙◌, [], ℕ, List, true, false, codes, arith, sym, ap}
use Rattle.std.specs.Str.{bytes_eq}
use Rattle.std.proofs.lemmas.Slice.Eq.{bytes_eq-Decides}
use Rattle.csv_records.specs.RecordTexts.{records_text}
use Rattle.onix_records.specs.ContentsText.{contents_text}
use Rattle.onix_records.specs.Product.{content_records, product_records}
use Rattle.onix_records.specs.declared.agreements.Agreement.{Agreement}
use Rattle.onix_records.specs.declared.parts.Product.{Product}
use Rattle.series_rules.specs.declared.requests.Request.TheVariants.{Waive}
use Rattle.series_rules.specs.declared.requests.Standing.{Standing}
use Rattle.series_rules.specs.declared.requests.Standing.TheVariants.{Message, Waived}
use Rattle.series_rules.specs.Listing.{standing_text}
use Rattle.desk_export.specs.Exports.{request_for}
use Rattle.desk_export.specs.MessageRecords.{message_records}
use Rattle.desk_export.specs.RequestRecords.{request_text}

first_byte : List ℕ → ℕ
first_byte [] = 0
first_byte (b ∷ bs) = b

no_empty : ◌≡◌ {A = ℕ} 0 119 → ⊥
no_empty e = omega arith

no_product : ◌≡◌ {A = ℕ} 80 119 → ⊥
no_product e = omega arith

-- a text of contents is empty or begins with the P of Product
not_waived : (c : List Product) → contents_text c ≡ codes "waived" → ⊥
unfolding contents_text content_records product_records records_text first_byte
not_waived [] e = no_empty (ap first_byte e)
not_waived (p ∷ rest) e = no_product (ap first_byte e)

pub is_waiver : (a : Agreement) (n : ℕ) (stored text : List ℕ) → bytes_eq stored (codes "waived") ≡ true → text ≡ request_text (Waive a.name n)
    → (h : Standing) → standing_text h ≡ stored → text ≡ request_text (request_for a n h)
is_waiver a n stored text test is Waived same = is
is_waiver a n stored text test is (Message c) same = absurd (not_waived c (same ∙ (bytes_eq-Decides stored (codes "waived")).0 test))

pub is_message : (a : Agreement) (n : ℕ) (stored text : List ℕ) → bytes_eq stored (codes "waived") ≡ false → ((c : List Product) → contents_text c ≡ stored → text ≡ records_text (message_records a.sender a.addressee n c))
    → (h : Standing) → standing_text h ≡ stored → text ≡ request_text (request_for a n h)
is_message a n stored text test is (Message c) same = is c same
is_message a n stored text test is Waived same = let yes : bytes_eq stored (codes "waived") ≡ true = (bytes_eq-Decides stored (codes "waived")).1 (sym same) in absurd cc
