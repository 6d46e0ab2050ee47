-- The listings of an article, among all that are in order.
use Rattle.std.proofs.Common.{◌≡◌, ℕ, List, [], ◌∷◌, Bool, true, false, cond, ◌&&◌, ◌||◌, refl, sym, ap, ◌∙◌}
use Rattle.std.specs.BTreeSet.{BTreeSet}
use Rattle.std.specs.Cmp.{alike_right, tied_itself}
use Rattle.std.specs.Cmp.Lexicographic.{slice_cmp, texts_ties}
use Rattle.std.specs.List.{AllByRecursion, list_any}
use Rattle.std.specs.List.Sorted.{IsStrictlySortedBy}
use Rattle.std.specs.Ordering.{nat_cmp, eq_by_cmp, is_eq, is_le, ordering_then}
use Rattle.std.specs.Prelude.{filter}
use Rattle.std.specs.Str.{bytes_eq}
use Rattle.std.specs.declared.cmp.Ordering.{Ordering}
use Rattle.std.specs.declared.cmp.Ordering.TheVariants.{Less, Equal, Greater}
use Rattle.std.proofs.lemmas.Cmp.{nat_list_cmp_total}
use Rattle.std.proofs.lemmas.Map.Keys.{sorted_head, sorted_tail}
use Rattle.std.proofs.lemmas.Map.Views.{any-filter_same}
use Rattle.std.proofs.lemmas.Slice.Eq.{bytes_eq-Decides}
use Rattle.catalogue_rules.specs.ArticleIndex.{is_listed}
use Rattle.catalogue_rules.specs.Listings.{listing_cmp}
use Rattle.catalogue_rules.specs.declared.listing.Listing.{Listing}

not_above : (k : List ℕ) → is_le (slice_cmp nat_cmp [] k) ≡ true
not_above [] = refl
not_above (b ∷ k) = refl

first_equal : (r s : Ordering) → is_eq (ordering_then r s) ≡ true → is_eq r ≡ true
first_equal Less s t = t
first_equal Equal s t = refl
first_equal Greater s t = t

second_equal : (r s : Ordering) → is_eq (ordering_then r s) ≡ true → is_eq s ≡ true
second_equal Less s t = cc
second_equal Equal s t = t
second_equal Greater s t = cc

or_true : (b c : Bool) → c ≡ true → (b || c) ≡ true
or_true true c h = refl
or_true false c h = h

any_weaker : {X : Type 0} (p q : X → Bool) → ((x : X) → p x ≡ true → q x ≡ true) → (xs : List X) → list_any p xs ≡ true → list_any q xs ≡ true
any_weaker p q f [] h = h
any_weaker p q f (x ∷ xs) h =
    elim (p x) as (λ b. p x ≡ b → (b || list_any p xs) ≡ true → (q x || list_any q xs) ≡ true) [
      | true ↦ λ t e. ap (λ c. c || list_any q xs) (f x t)
      | false ↦ λ t e. or_true (q x) (list_any q xs) (any_weaker p q f xs e)
    ] refl h

module _ (isbn : List ℕ) where
  -- whether a listing is of the article
  abbrev pub is_of : Listing → Bool
  is_of l = bytes_eq isbn l.isbn

  -- whether it is the least that can be of the article, or comes after that
  abbrev pub is_from : Listing → Bool
  is_from l = is_le (listing_cmp (record { isbn = isbn; reference = [] }) l) && true

  abbrev by_reference : Listing → Listing → Ordering
  by_reference x y = slice_cmp nat_cmp x.reference y.reference

  -- the listings of the article with which a list begins
  abbrev pub at_first : List Listing → List Listing
  at_first [] = []
  at_first (l ∷ ls) = cond (is_of l) (l ∷ at_first ls) []

  -- what comes after a later article is of none but later ones
  later : (l x : Listing) → slice_cmp nat_cmp isbn l.isbn ≡ Less → listing_cmp l x ≡ Less → slice_cmp nat_cmp isbn x.isbn ≡ Less
  later l x before h = go (slice_cmp nat_cmp l.isbn x.isbn) refl h
    where
      go : (r : Ordering) → slice_cmp nat_cmp l.isbn x.isbn ≡ r → ordering_then r (by_reference l x) ≡ Less → slice_cmp nat_cmp isbn x.isbn ≡ Less
      go Less e h = nat_list_cmp_total.trans isbn l.isbn x.isbn before e
      go Equal e h = sym (alike_right nat_list_cmp_total l.isbn x.isbn isbn e) ∙ before
      go Greater e h = cc

  none_after : (l : Listing) (ls : List Listing) → slice_cmp nat_cmp isbn l.isbn ≡ Less → AllByRecursion (λ x. listing_cmp l x ≡ Less) ls → filter is_of ls ≡ []
  none_after l [] before after = refl
  none_after l (x ∷ ls) before after =
      ap (λ b. cond b (x ∷ filter is_of ls) (filter is_of ls)) (texts_ties isbn x.isbn ∙ ap is_eq (later l x before after.0))
      ∙ none_after l ls before after.1

  module _ (l : Listing) (ls : List Listing) (sorted : IsStrictlySortedBy listing_cmp (l ∷ ls)) (rest : at_first (filter is_from ls) ≡ filter is_of ls) where
    is_of_test : (r : Ordering) → slice_cmp nat_cmp isbn l.isbn ≡ r → is_of l ≡ is_eq r
    is_of_test r e = texts_ties isbn l.isbn ∙ ap is_eq e

    walked_from : (r : Ordering) → slice_cmp nat_cmp isbn l.isbn ≡ r
        → at_first (filter is_from (l ∷ ls)) ≡ at_first (cond (is_le (ordering_then r (slice_cmp nat_cmp [] l.reference)) && true) (l ∷ filter is_from ls) (filter is_from ls))
    walked_from r e = ap (λ q. at_first (cond (is_le (ordering_then q (slice_cmp nat_cmp [] l.reference)) && true) (l ∷ filter is_from ls) (filter is_from ls))) e

    all_of : (r : Ordering) → slice_cmp nat_cmp isbn l.isbn ≡ r → filter is_of (l ∷ ls) ≡ cond (is_eq r) (l ∷ filter is_of ls) (filter is_of ls)
    all_of r e = ap (λ b. cond b (l ∷ filter is_of ls) (filter is_of ls)) (is_of_test r e)

    with_first : (r : Ordering) → slice_cmp nat_cmp isbn l.isbn ≡ r → at_first (filter is_from (l ∷ ls)) ≡ filter is_of (l ∷ ls)
    with_first Less e =
        walked_from Less e
        ∙ ap (λ b. cond b (l ∷ at_first (filter is_from ls)) []) (is_of_test Less e)
        ∙ sym (none_after l ls e (sorted_head listing_cmp l ls sorted))
        ∙ sym (all_of Less e)
    with_first Equal e =
        walked_from Equal e
        ∙ ap (λ b. at_first (cond (b && true) (l ∷ filter is_from ls) (filter is_from ls))) (not_above l.reference)
        ∙ ap (λ b. cond b (l ∷ at_first (filter is_from ls)) []) (is_of_test Equal e)
        ∙ ap (λ xs. l ∷ xs) rest
        ∙ sym (all_of Equal e)
    with_first Greater e = walked_from Greater e ∙ rest ∙ sym (all_of Greater e)

  -- a walk from the least one on meets all of the article before any other
  pub from_first : (ls : List Listing) → IsStrictlySortedBy listing_cmp ls → at_first (filter is_from ls) ≡ filter is_of ls
  from_first [] sorted = refl
  from_first (l ∷ ls) sorted = with_first l ls sorted (from_first ls (sorted_tail listing_cmp l ls sorted)) (slice_cmp nat_cmp isbn l.isbn) refl

  one_article : (l x : Listing) → is_of l ≡ true → is_of x ≡ true → slice_cmp nat_cmp l.isbn x.isbn ≡ Equal
  one_article l x t u = ap (slice_cmp nat_cmp l.isbn) (sym ((bytes_eq-Decides isbn x.isbn).0 u) ∙ (bytes_eq-Decides isbn l.isbn).0 t) ∙ tied_itself nat_list_cmp_total l.isbn

  referenced_later : (l : Listing) (ls : List Listing) → is_of l ≡ true → AllByRecursion (λ x. listing_cmp l x ≡ Less) ls → AllByRecursion (λ x. by_reference l x ≡ Less) (filter is_of ls)
  referenced_later l [] t after = tt
  referenced_later l (x ∷ ls) t after = go (referenced_later l ls t after.1) (is_of x) refl
    where
      go : AllByRecursion (λ x. by_reference l x ≡ Less) (filter is_of ls) → (b : Bool) → is_of x ≡ b → AllByRecursion (λ x. by_reference l x ≡ Less) (cond b (x ∷ filter is_of ls) (filter is_of ls))
      go more true u = (sym (ap (λ r. ordering_then r (by_reference l x)) (one_article l x t u)) ∙ after.0, more)
      go more false u = more

  with_later : (l : Listing) (ls : List Listing) → (b : Bool) → (b ≡ true → AllByRecursion (λ x. by_reference l x ≡ Less) (filter is_of ls)) → IsStrictlySortedBy by_reference (filter is_of ls)
      → IsStrictlySortedBy by_reference (cond b (l ∷ filter is_of ls) (filter is_of ls))
  unfolding IsStrictlySortedBy
  with_later l ls true first more = (first refl, more)
  with_later l ls false first more = more

  -- they are in order of reference
  pub in_order : (ls : List Listing) → IsStrictlySortedBy listing_cmp ls → IsStrictlySortedBy by_reference (filter is_of ls)
  unfolding IsStrictlySortedBy
  in_order [] sorted = tt
  in_order (l ∷ ls) sorted = with_later l ls (is_of l) (λ t. referenced_later l ls t sorted.0) (in_order ls sorted.1)

  -- and have each reference that is listed there
  pub among : (listings : BTreeSet Listing) (k : List ℕ) → is_listed listings isbn k ≡ true → list_any (λ l. eq_by_cmp (slice_cmp nat_cmp) k l.reference) (filter is_of listings.keys) ≡ true
  among listings k h =
      any_weaker (λ l. is_eq (ordering_then (slice_cmp nat_cmp isbn l.isbn) (slice_cmp nat_cmp k l.reference))) (λ l. eq_by_cmp (slice_cmp nat_cmp) k l.reference) (λ l t. second_equal _ _ t) (filter is_of listings.keys)
      (any-filter_same (λ l. is_eq (ordering_then (slice_cmp nat_cmp isbn l.isbn) (slice_cmp nat_cmp k l.reference))) is_of true (λ l t. texts_ties isbn l.isbn ∙ first_equal _ _ t) listings.keys ∙ h)
