-- Lemmas on the offers of an article over all agreed series.
use Rattle.std.proofs.Common.{◌≡◌, ℕ, List, [], ◌∷◌, Some, cond, refl, sym, ap, ◌∙◌}
use Rattle.std.specs.Prelude.{bytes_eq}
use Rattle.std.specs.Cmp.Lexicographic.{slice_cmp}
use Rattle.std.specs.FinMap as fin
use Rattle.std.specs.FinMap.{FinMap, entries, find, get-from_entries, nat_cmp-IsAntisymmetric, same_map, slice_cmp-IsAntisymmetric}
use Rattle.std.specs.List.{flat_map}
use Rattle.std.specs.Ordering.{nat_cmp, eq_by_cmp}
use Rattle.std.proofs.lemmas.Cmp.{nat_list_cmp_total, eq_by_cmp_equiv}
use Rattle.std.proofs.lemmas.Map.Text.{is_eq-slice_cmp}
use Rattle.catalogue_rules.specs.Offers.{offers_in}
use Rattle.onix_records.specs.declared.agreements.Agreement.{Agreement}
use Rattle.series_rules.specs.Agreements.{agreements_of, named}
use Rattle.series_rules.specs.Content.{SameContent}
use Rattle.series_rules.specs.Offers.{with_names, by_name, series_offers, offers_after}
use Rattle.series_rules.specs.Series.{after_all}
use Rattle.series_rules.specs.declared.requests.Request.{Request}
use Rattle.series_rules.proofs.FrontLemmas.{front_same}

-- two maps that answer alike are equal
pub equal_maps : {X : Type 0} (m n : FinMap (slice_cmp nat_cmp) X) → ((q : List ℕ) → fin.get m q ≡ fin.get n q) → m ≡ n
equal_maps m n alike = same_map nat_list_cmp_total (slice_cmp-IsAntisymmetric nat_cmp-IsAntisymmetric) m n alike

-- two texts are equal bytes where the order of bytes ties them
pub same_test : (k q : List ℕ) → eq_by_cmp (slice_cmp nat_cmp) q k ≡ bytes_eq k q
same_test k q = (eq_by_cmp_equiv nat_list_cmp_total).symm q k ∙ is_eq-slice_cmp k q

-- the first entry of a name has the agreement of that name
pub find_named : (agreements : List Agreement) (name : List ℕ) → find (slice_cmp nat_cmp) name (with_names agreements) ≡ named agreements name
find_named [] name = refl
find_named (a ∷ as') name = ap (λ b. cond b (Some a) (find (slice_cmp nat_cmp) name (with_names as'))) (same_test a.name name) ∙ ap (cond (bytes_eq a.name name) (Some a)) (find_named as' name)

-- the map answers with the agreement of a name
pub get-by_name : (agreements : List Agreement) (name : List ℕ) → fin.get (by_name agreements) name ≡ named agreements name
get-by_name agreements name = get-from_entries nat_list_cmp_total (with_names agreements) name ∙ find_named agreements name

same_by_name : (L M : List Request) → SameContent L M → by_name (agreements_of L) ≡ by_name (agreements_of M)
same_by_name L M same = equal_maps _ _ (λ name. get-by_name (agreements_of L) name ∙ same.agreements name ∙ sym (get-by_name (agreements_of M) name))

same_offers_of : (L M : List Request) → SameContent L M → (isbn : List ℕ) (es : List (List ℕ × Agreement)) → flat_map (series_offers L isbn) es ≡ flat_map (series_offers M isbn) es
same_offers_of L M same isbn es = λ i. flat_map (λ e. offers_in e.0 (after_all fin.empty (front_same L M e.1 same i)) isbn) es

-- lists that come to the same have the same offers
pub same_offers : (L M : List Request) → SameContent L M → (isbn : List ℕ) → offers_after L isbn ≡ offers_after M isbn
same_offers L M same isbn =
    same_offers_of L M same isbn (entries (by_name (agreements_of L)))
    ∙ ap (λ m. flat_map (series_offers M isbn) (entries m)) (same_by_name L M same)
