-- Codes put in their places stand in order.
use Rattle.std.proofs.Common.{Ordering, Less, Equal, Greater, ◌≡◌, ◌<◌, ℕ, List, [], ◌∷◌, Bool, true, false, Option, Some, None, refl, ap, ◌∙◌, arith, length}
use Rattle.std.specs.Prelude.{◌||◌, IsTrue, fold, option_map, if◌then◌else◌}
use Rattle.std.specs.Cmp.Lexicographic.{slice_cmp}
use Rattle.std.specs.List.{AllByRecursion}
use Rattle.std.specs.Ordering.{is_eq, is_lt, nat_cmp, ordering_reverse}
use Rattle.std.specs.Str.{bytes_eq}
use Rattle.std.proofs.lemmas.Cmp.{nat_list_cmp_total}
use Rattle.std.proofs.lemmas.List.Elements.{All-from_recursion}
use Rattle.std.proofs.lemmas.List.Kept.{AllPairs-cons}
use Rattle.std.proofs.lemmas.Map.Text.{is_eq-slice_cmp}
use Rattle.std.proofs.lemmas.Option.{same_Some}
use Rattle.onix_terms.specs.Options.{◌>>=◌}
use Rattle.onix_terms.specs.Territory.{comes_before, with_code, in_order, IsInOrder, nonempty, codes_in, countries_of, world_of, territory_of}
use Rattle.onix_terms.specs.declared.territory.Territory.{Territory}

pub is-less : (o : Ordering) → is_lt o ≡ true → o ≡ Less
is-less Less e = refl
is-less Equal e = cc
is-less Greater e = cc

neither : (o back : Ordering) → is_eq o ≡ false → is_lt o ≡ false → back ≡ ordering_reverse o → is_lt back ≡ true
neither Less back other after e = cc
neither Equal back other after e = cc
neither Greater back other after e = ap is_lt e

total : (x y : List ℕ) → bytes_eq x y ≡ false → comes_before x y ≡ false → comes_before y x ≡ true
total x y other after = neither (slice_cmp nat_cmp x y) (slice_cmp nat_cmp y x) (is_eq-slice_cmp x y ∙ other) after (nat_list_cmp_total.antisymm y x)

trans : (x y z : List ℕ) → comes_before x y ≡ true → comes_before y z ≡ true → comes_before x z ≡ true
trans x y z first second = ap is_lt (nat_list_cmp_total.trans x y z (is-less _ first) (is-less _ second))

-- the code comes before each of these
abbrev pub IsBefore : List ℕ → List (List ℕ) → Type 0
IsBefore x codes = AllByRecursion (λ y. comes_before x y ≡ true) codes

before-more : (x y : List ℕ) → comes_before x y ≡ true → (codes : List (List ℕ)) → IsBefore y codes → IsBefore x codes
before-more x y first [] all = tt
before-more x y first (z ∷ codes) all = (trans x y z first all.0, before-more x y first codes all.1)

-- each code comes before all after it
abbrev pub Rises : List (List ℕ) → Type 0
Rises [] = Unit {0}
Rises (x ∷ xs) = IsBefore x xs × Rises xs

-- what with_code makes of a list, by its two tests
abbrev pub placed : Bool → Bool → List ℕ → List ℕ → List (List ℕ) → List (List ℕ) → List (List ℕ)
placed same before code x xs rest = if same then x ∷ xs else if before then code ∷ x ∷ xs else x ∷ rest

all-placed : (P : List ℕ → Type 0) (code : List ℕ) → P code → (same before : Bool) (x : List ℕ) (xs rest : List (List ℕ)) → P x → AllByRecursion P xs → AllByRecursion P rest →
    AllByRecursion P (placed same before code x xs rest)
all-placed P code first true before x xs rest here all more = (here, all)
all-placed P code first false true x xs rest here all more = (first, (here, all))
all-placed P code first false false x xs rest here all more = (here, more)

-- what holds of the codes and of one more holds of them all
pub all-with : (P : List ℕ → Type 0) (code : List ℕ) → P code → (codes : List (List ℕ)) → AllByRecursion P codes → AllByRecursion P (with_code codes code)
unfolding with_code
all-with P code first [] all = (first, tt)
all-with P code first (x ∷ xs) all =
    all-placed P code first (bytes_eq code x) (comes_before code x) x xs (with_code xs code) all.0 all.1 (all-with P code first xs all.1)

pub all-fold : (P : List ℕ → Type 0) (more codes : List (List ℕ)) → AllByRecursion P more → AllByRecursion P codes → AllByRecursion P (fold with_code codes more)
all-fold P [] codes all old = old
all-fold P (code ∷ more) codes all old = all-fold P more (with_code codes code) all.1 (all-with P code all.0 codes old)

rises-placed : (same before : Bool) (code x : List ℕ) (xs rest : List (List ℕ)) → (before ≡ true → comes_before code x ≡ true) → IsBefore x xs → Rises xs → (same ≡ false → before ≡ false → IsBefore x rest) → Rises rest →
    Rises (placed same before code x xs rest)
rises-placed true before code x xs rest first here all last more = (here, all)
rises-placed false true code x xs rest first here all last more = ((first refl, before-more code x (first refl) xs here), (here, all))
rises-placed false false code x xs rest first here all last more = (last refl refl, more)

rises-with : (code : List ℕ) (codes : List (List ℕ)) → Rises codes → Rises (with_code codes code)
unfolding with_code
rises-with code [] all = (tt, tt)
rises-with code (x ∷ xs) all =
    rises-placed (bytes_eq code x) (comes_before code x) code x xs (with_code xs code) (λ e. e) all.0 all.1
    (λ other after. all-with (λ y. comes_before x y ≡ true) code (total code x other after) xs all.0) (rises-with code xs all.1)

rises-fold : (more codes : List (List ℕ)) → Rises codes → Rises (fold with_code codes more)
rises-fold [] codes all = all
rises-fold (code ∷ more) codes all = rises-fold more (with_code codes code) (rises-with code codes all)

rises-all : (codes : List (List ℕ)) → Rises codes → IsInOrder codes
rises-all [] all = λ i j d less short. absurd (omega arith)
rises-all (x ∷ xs) all = AllPairs-cons (λ a b. IsTrue (comes_before a b)) x xs (All-from_recursion (λ y. IsTrue (comes_before x y)) xs all.0) (rises-all xs all.1)

kept : (codes others : List (List ℕ)) → nonempty codes ≡ Some others → (codes ≡ others) × (0 < length others)
kept [] others e = cc
kept (x ∷ xs) others e = rw (← same_Some (x ∷ xs) others e) (refl, omega arith)

-- the countries of a field that is not empty are its codes in order
pub from-codes : (o : Option (List (List ℕ))) (found : List (List ℕ)) → (option_map in_order o >>= nonempty) ≡ Some found →
    (codes : List (List ℕ)) × (o ≡ Some codes) × (in_order codes ≡ found) × (0 < length found)
from-codes None found e = cc
from-codes (Some codes) found e = let k = kept (in_order codes) found e in (codes, refl, k.0, k.1)

pub countries-rise : (text : List ℕ) (found : List (List ℕ)) → countries_of text ≡ Some found → Rises found
countries-rise [] found e = rw (← same_Some [] found e) tt
countries-rise (b ∷ bs) found e = let (codes, _, order, _) = from-codes (codes_in (b ∷ bs)) found e in rw (← order) (rises-fold codes [] tt)

-- what the fields of a territory are
pub record HasFields (i : Option (List (List ℕ))) (w : Option Bool) (e : Option (List (List ℕ))) (none : Bool) (t : Territory) : Type 0 where
  pub region : Bool
  pub included_is : i ≡ Some t.included
  pub region_is : w ≡ Some region
  pub excluded_is : e ≡ Some t.excluded
  pub world_is : t.world ≡ (region || none)

pub has-fields : (i : Option (List (List ℕ))) (w : Option Bool) (e : Option (List (List ℕ))) (none : Bool) (t : Territory) →
    (i >>= (λ included. w >>= (λ world. e >>= (λ excluded. Some (record { included = included; world = world || none; excluded = excluded }))))) ≡ Some t → HasFields i w e none t
has-fields None w e none t is = cc
has-fields (Some i) None e none t is = cc
has-fields (Some i) (Some w) None none t is = cc
has-fields (Some i) (Some w) (Some e) none t is =
    rw (← same_Some _ t is) (record { region = w; included_is = refl; region_is = refl; excluded_is = refl; world_is = refl })

pub territory-in_order : (included regions excluded : List ℕ) (t : Territory) → territory_of included regions excluded ≡ Some t → IsInOrder t.included × IsInOrder t.excluded
territory-in_order included regions excluded t is =
    let f = has-fields (countries_of included) (world_of regions) (countries_of excluded) _ t is in
    (rises-all t.included (countries-rise included t.included f.included_is), rises-all t.excluded (countries-rise excluded t.excluded f.excluded_is))
