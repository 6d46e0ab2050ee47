-- Names by the words of two lists.
use Rattle.std.proofs.Common.{◌≡◌, ◌∙◌, ℕ, Bool, false, List, ◌++◌, length, Option, Some, None, ap, refl}
use Rattle.std.specs.Prelude.{◌&&◌, ◌||◌, not, option_map}
use Rattle.std.specs.List.{find, list_any}
use Rattle.std.specs.Option.{option_or}
use Rattle.std.specs.Str.{bytes_eq}
use Rattle.std.proofs.lemmas.Bool.{false_from_ne_true}
use Rattle.std.proofs.lemmas.List.Folds.{find-append, list_any-append}
use Rattle.std.proofs.lemmas.Slice.Eq.{bytes_eq-Decides}
use Rattle.feed_outline.specs.Names.{Word, is_called, is_called_among, is_called_apart, name_among, spelled}
use Rattle.feed_outline.specs.declared.names.Naming.{Naming}

-- names of other lengths are not the same
pub other_length : (name other : List ℕ) → ¬ (length name ≡ length other) → bytes_eq name other ≡ false
other_length name other apart = false_from_ne_true (bytes_eq name other) (λ same. apart (ap length ((bytes_eq-Decides name other).0 same)))

reference_or : (a b : Option Word) → option_map (λ (w : Word). w.reference) (option_or a b) ≡ option_or (option_map (λ (w : Word). w.reference) a) (option_map (λ (w : Word). w.reference) b)
reference_or None b = refl
reference_or (Some w) b = refl

module _ (a b c : List Word) (composite name : List ℕ) where
  -- the first word that is spelled so is in the first list, else in the second, else in the third
  pub named_in_three : (naming : Naming)
      → name_among naming (a ++ (b ++ c)) composite name ≡ option_or (name_among naming a composite name) (option_or (name_among naming b composite name) (name_among naming c composite name))
  named_in_three naming =
      let is : Word → Bool = λ w. bytes_eq (spelled naming w) name && bytes_eq w.composite composite in
      ap (option_map (λ (w : Word). w.reference)) (find-append is a (b ++ c) ∙ ap (option_or (find is a)) (find-append is b c))
      ∙ reference_or (find is a) (option_or (find is b) (find is c)) ∙ ap (option_or (option_map (λ (w : Word). w.reference) (find is a))) (reference_or (find is b) (find is c))

  in_three : (is : Word → Bool) → list_any is (a ++ (b ++ c)) ≡ (list_any is a || (list_any is b || list_any is c))
  in_three is = list_any-append is a (b ++ c) ∙ ap (λ x. list_any is a || x) (list_any-append is b c)

  -- an element is called as a word of one of the lists
  pub called_in_three : is_called_among (a ++ (b ++ c)) composite name ≡ (is_called_among a composite name || (is_called_among b composite name || is_called_among c composite name))
  called_in_three = in_three (λ (w : Word). bytes_eq w.composite composite && (not w.is_counted_alone && is_called name w))

  pub apart_in_three : is_called_apart (a ++ (b ++ c)) composite name ≡ (is_called_apart a composite name || (is_called_apart b composite name || is_called_apart c composite name))
  apart_in_three = in_three (λ (w : Word). bytes_eq w.composite composite && (w.is_apart && is_called name w))
