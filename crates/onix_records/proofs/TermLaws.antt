-- What the laws of the terms say, as one premise.
use Rattle.std.specs.Prelude.{◌≡◌, ◌<◌, ◌≤◌, ℕ, ℤ, List, Some, true, decimal, length}
use Rattle.std.specs.List.{list_all}
use Rattle.onix_terms.specs.Amount.{amount_of, amount_text}
use Rattle.onix_terms.specs.Day.{IsDayNumber, day_of, day_text}
use Rattle.onix_terms.specs.Digits.{digits_of}
use Rattle.onix_terms.specs.Quantity.{quantity_of}
use Rattle.onix_terms.specs.Territory.{countries_text, is_letter_or_space, territory_of, world_text}
use Rattle.onix_terms.specs.declared.territory.Territory.{Territory}

pub record TermLaws : Type 0 where
  pub digits : (n : ℕ) → n < 1_000_000_000 → digits_of (decimal n) ≡ Some n
  pub quantity : (n : ℕ) → 0 < n → n < 1_000_000 → quantity_of (decimal n) ≡ Some n
  pub amount : (n : ℕ) → n < 1_000_000_000_000 → amount_of (amount_text n) ≡ Some n
  pub day : (day : ℤ) → IsDayNumber day → day_of (day_text day) ≡ Some day
  pub quantity_range : (text : List ℕ) (n : ℕ) → quantity_of text ≡ Some n → (0 < n) × (n < 1_000_000)
  pub amount_range : (text : List ℕ) (n : ℕ) → amount_of text ≡ Some n → n < 1_000_000_000_000
  pub day_range : (text : List ℕ) (day : ℤ) → day_of text ≡ Some day → IsDayNumber day
  pub territory : (included regions excluded : List ℕ) (t : Territory) → territory_of included regions excluded ≡ Some t
      → territory_of (countries_text t.included) (world_text t.world) (countries_text t.excluded) ≡ Some t
  pub territory_short : (included regions excluded : List ℕ) (t : Territory) → territory_of included regions excluded ≡ Some t
      → (length (countries_text t.included) ≤ length included) × (length (countries_text t.excluded) ≤ length excluded)
  pub territory_letters : (included regions excluded : List ℕ) (t : Territory) → territory_of included regions excluded ≡ Some t
      → (list_all is_letter_or_space (countries_text t.included) ≡ true) × (list_all is_letter_or_space (countries_text t.excluded) ≡ true)
