-- The countries of a field are read again from their text, which is no longer than the field, and a territory from its three texts.
use Rattle.std.proofs.Common.{Greater, ◌≡◌, ℕ, ◌<◌, ◌≤◌, ◌+◌, ◌*◌, ◌∙◌, List, [], ◌∷◌, ◌++◌, Bool, true, false, Option, Some, None, refl, sym, ap, append_assoc, arith, length}
use Rattle.std.specs.Prelude.{◌&&◌, ◌||◌, ◌==◌, fold, option_map, if◌then◌else◌, codes}
use Rattle.std.specs.List.{AllByRecursion, list_all}
use Rattle.std.specs.Char.{is_ascii_uppercase}
use Rattle.std.specs.Str.{bytes_eq}
use Rattle.std.specs.Cmp.Lexicographic.{slice_cmp}
use Rattle.std.specs.Ordering.{is_eq, is_lt, nat_cmp, ordering_reverse}
use Rattle.std.proofs.lemmas.Bool.{and_from, and_parts, or_left, or_right, true≢false}
use Rattle.std.proofs.lemmas.Bool.Decides.{nat_tests}
use Rattle.std.proofs.lemmas.List.{append-nil}
use Rattle.std.proofs.lemmas.Cmp.{nat_list_cmp_total}
use Rattle.std.proofs.lemmas.Map.Text.{is_eq-slice_cmp}
use Rattle.std.proofs.lemmas.Option.{cond_some, same_Some}
use Rattle.onix_terms.specs.Options.{◌>>=◌}
use Rattle.onix_terms.specs.Territory.{comes_before, with_code, in_order, nonempty, ends_code, codes_in, countries_of, countries_text, is_letter_or_space, world_of, world_text, territory_of}
use Rattle.onix_terms.specs.declared.territory.Territory.{Territory}
use Rattle.onix_terms.proofs.CodeOrder.{IsBefore, Rises, all-fold, countries-rise, from-codes, has-fields, is-less, placed}

-- two letters A to Z
record IsCode (code : List ℕ) : Type 0 where
  first : ℕ
  second : ℕ
  is : code ≡ first ∷ second ∷ []
  letters : (is_ascii_uppercase first && is_ascii_uppercase second) ≡ true

-- ---- what is found in a text

-- codes, with room for a space between each two, and for one more where the text does not begin with a code, and no bytes but letters and spaces
record Found (text : List ℕ) (found : List (List ℕ)) : Type 0 where
  all : AllByRecursion IsCode found
  room : 3 * length found ≤ length text + 1
  behind : ends_code text ≡ true → 3 * length found ≤ length text
  plain : list_all is_letter_or_space text ≡ true

found-nothing : (text : List ℕ) (found : List (List ℕ)) → list_all is_letter_or_space text ≡ true → (Some []) ≡ Some found → Found text found
found-nothing text found plain e = rw (← same_Some [] found e) (record { all = tt; room = omega arith; behind = λ end. omega arith; plain = plain })

found-by : (a b : ℕ) (rest : List ℕ) (space good : Bool) (after more : Option (List (List ℕ))) → (a == 32) ≡ space → (is_ascii_uppercase a && is_ascii_uppercase b && ends_code rest) ≡ good →
    ((cs : List (List ℕ)) → after ≡ Some cs → Found (b ∷ rest) cs) → ((cs : List (List ℕ)) → more ≡ Some cs → Found rest cs) →
    (found : List (List ℕ)) → (if space then after else if good then option_map (λ cs. (a ∷ b ∷ []) ∷ cs) more else None) ≡ Some found → Found (a ∷ b ∷ rest) found
found-by a b rest true good after more s g past next found e =
    let f = past found e in
    let room = f.room in
    record { all = f.all; room = omega (arith, room); behind = λ end. omega (arith, room); plain = and_from _ _ (or_right _ _ s) f.plain }
found-by a b rest false true after None s g past next found e = cc
found-by a b rest false true after (Some cs) s g past next found e =
    let f = next cs refl in
    let code = and_parts (is_ascii_uppercase a && is_ascii_uppercase b) (ends_code rest) g in
    let letters = and_parts (is_ascii_uppercase a) (is_ascii_uppercase b) code.0 in
    let room = f.behind code.1 in
    rw (← same_Some ((a ∷ b ∷ []) ∷ cs) found e) (record {
      all = (record { first = a; second = b; is = refl; letters = code.0 }, f.all);
      room = omega (arith, room);
      behind = λ end. absurd (true≢false (sym end ∙ s));
      plain = and_from _ _ (or_left _ (a == 32) letters.0) (and_from _ _ (or_left _ (b == 32) letters.1) f.plain);
    })
found-by a b rest false false after more s g past next found e = cc

codes-found : (text : List ℕ) (found : List (List ℕ)) → codes_in text ≡ Some found → Found text found
unfolding codes_in
codes-found [] found e = found-nothing [] found refl e
codes-found (a ∷ []) found e = let space = cond_some (a == 32) [] found e in found-nothing (a ∷ []) found (and_from _ _ (or_right _ _ space.0) refl) (ap Some space.1)
codes-found (a ∷ b ∷ rest) found e = found-by a b rest _ _ (codes_in (b ∷ rest)) (codes_in rest) refl refl (codes-found (b ∷ rest)) (codes-found rest) found e

-- ---- putting in order makes no codes

length-placed : (same before : Bool) (code x : List ℕ) (xs rest : List (List ℕ)) → length rest ≤ length xs + 1 → length (placed same before code x xs rest) ≤ length xs + 2
length-placed true before code x xs rest few = omega arith
length-placed false true code x xs rest few = omega arith
length-placed false false code x xs rest few = omega (arith, few)

length-with : (code : List ℕ) (found : List (List ℕ)) → length (with_code found code) ≤ length found + 1
unfolding with_code
length-with code [] = omega arith
length-with code (x ∷ xs) = let few = length-placed (bytes_eq code x) (comes_before code x) code x xs (with_code xs code) (length-with code xs) in omega (arith, few)

length-fold : (more found : List (List ℕ)) → length (fold with_code found more) ≤ length found + length more
length-fold [] found = omega arith
length-fold (code ∷ more) found =
    let first = length-with code found in
    let rest = length-fold more (with_code found code) in
    omega (arith, first, rest)

-- ---- codes in order stay as they are

before-at : (x : List ℕ) (found : List (List ℕ)) (code : List ℕ) (more : List (List ℕ)) → IsBefore x (found ++ code ∷ more) → comes_before x code ≡ true
before-at x [] code more all = all.0
before-at x (y ∷ found) code more all = before-at x found code more all.1

last-of : (same before : Bool) (code x : List ℕ) (xs rest : List (List ℕ)) → same ≡ false → before ≡ false → placed same before code x xs rest ≡ x ∷ rest
last-of same before code x xs rest other after = rw (other, after) refl

-- a code after all others goes to the end
with-last : (found : List (List ℕ)) (code : List ℕ) (more : List (List ℕ)) → Rises (found ++ code ∷ more) → with_code found code ≡ found ++ code ∷ []
unfolding with_code
with-last [] code more rise = refl
with-last (x ∷ xs) code more rise =
    let first = is-less _ (before-at x xs code more rise.0) in
    let behind : slice_cmp nat_cmp code x ≡ Greater = nat_list_cmp_total.antisymm code x ∙ ap ordering_reverse first in
    last-of (bytes_eq code x) (comes_before code x) code x xs (with_code xs code) (sym (is_eq-slice_cmp code x) ∙ ap is_eq behind) (ap is_lt behind) ∙ ap (λ l. x ∷ l) (with-last xs code more rise.1)

fold-in_order : (found more : List (List ℕ)) → Rises (found ++ more) → fold with_code found more ≡ found ++ more
fold-in_order found [] rise = sym (append-nil found)
fold-in_order found (code ∷ more) rise =
    let next = append_assoc found (code ∷ []) more in
    ap (λ l. fold with_code l more) (with-last found code more rise) ∙ fold-in_order (found ++ code ∷ []) more (rw next rise) ∙ next

-- ---- the text of codes has those codes

after-space : (text : List ℕ) → codes_in (32 ∷ text) ≡ codes_in text
unfolding codes_in
after-space [] = refl
after-space (b ∷ text) = refl

good-head : (space good : Bool) (after more : Option (List (List ℕ))) → space ≡ false → good ≡ true → (if space then after else if good then more else None) ≡ more
good-head space good after more none yes-good = rw (none, yes-good) refl

first-code : (a b : ℕ) (rest : List ℕ) → (is_ascii_uppercase a && is_ascii_uppercase b) ≡ true → ends_code rest ≡ true → codes_in (a ∷ b ∷ rest) ≡ option_map (λ cs. (a ∷ b ∷ []) ∷ cs) (codes_in rest)
unfolding codes_in
first-code a b rest letters ends =
    let parts = and_parts (is_ascii_uppercase a) (is_ascii_uppercase b) letters in
    let none : (a == 32) ≡ false = grind (arith, nat_tests, parts.0) in
    let good : (is_ascii_uppercase a && is_ascii_uppercase b && ends_code rest) ≡ true = and_from _ _ letters ends in
    good-head (a == 32) _ (codes_in (b ∷ rest)) (option_map (λ cs. (a ∷ b ∷ []) ∷ cs) (codes_in rest)) none good

no-codes : codes_in [] ≡ Some []
unfolding codes_in
no-codes = refl

codes-text : (found : List (List ℕ)) → AllByRecursion IsCode found → codes_in (countries_text found) ≡ Some found
codes-text [] all = no-codes
codes-text (c ∷ []) all =
    let k = all.0 in
    ap codes_in k.is ∙ first-code k.first k.second [] k.letters refl ∙ ap (option_map (λ cs. (k.first ∷ k.second ∷ []) ∷ cs)) no-codes ∙ ap (λ x. Some (x ∷ [])) (sym k.is)
codes-text (c ∷ d ∷ cs) all =
    let k = all.0 in
    let rest = countries_text (d ∷ cs) in
    ap (λ x. codes_in (x ++ 32 ∷ rest)) k.is ∙ first-code k.first k.second (32 ∷ rest) k.letters refl
    ∙ ap (option_map (λ x. (k.first ∷ k.second ∷ []) ∷ x)) (after-space rest ∙ codes-text (d ∷ cs) all.1) ∙ ap (λ x. Some (x ∷ d ∷ cs)) (sym k.is)

length-text : (c : List ℕ) (cs : List (List ℕ)) → AllByRecursion IsCode (c ∷ cs) → length (countries_text (c ∷ cs)) ≡ 3 * length cs + 2
length-text c [] all = ap length all.0.is
length-text c (d ∷ cs) all = ap (λ x. length (x ++ 32 ∷ countries_text (d ∷ cs))) all.0.is ∙ (let more = length-text d cs all.1 in omega (arith, more))

-- ---- the text of the countries that were read

pub record Countries (text : List ℕ) (found : List (List ℕ)) : Type 0 where
  pub reads : countries_of (countries_text found) ≡ Some found
  pub short : length (countries_text found) ≤ length text
  pub plain : list_all is_letter_or_space (countries_text found) ≡ true
  some : 0 < length text → 0 < length (countries_text found)

field-read : (text c : List ℕ) (cs : List (List ℕ)) → 0 < length text → codes_in text ≡ Some (c ∷ cs) → in_order (c ∷ cs) ≡ c ∷ cs → countries_of text ≡ Some (c ∷ cs)
field-read [] c cs some is order = absurd (omega (arith, some))
field-read (b ∷ bs) c cs some is order = ap (λ o. option_map in_order o >>= nonempty) is ∙ ap nonempty order

written : (text : List ℕ) (found : List (List ℕ)) → 0 < length found → AllByRecursion IsCode found → 3 * length found ≤ length text + 1 → Rises found → Countries text found
written text [] some all room rise = absurd (omega (arith, some))
written text (c ∷ cs) some all room rise =
    let is = codes-text (c ∷ cs) all in
    let size = length-text c cs all in
    record {
      reads = field-read (countries_text (c ∷ cs)) c cs (omega (arith, size)) is (fold-in_order [] (c ∷ cs) rise);
      short = omega (arith, size, room);
      plain = (codes-found (countries_text (c ∷ cs)) (c ∷ cs) is).plain;
      some = λ less. omega (arith, size);
    }

countries-back : (text : List ℕ) (found : List (List ℕ)) → countries_of text ≡ Some found → Countries text found
countries-back [] found e = rw (← same_Some [] found e) (record { reads = refl; short = omega arith; plain = refl; some = λ less. less })
countries-back (b ∷ bs) found e =
    let (codes, are, order, some) = from-codes (codes_in (b ∷ bs)) found e in
    let f = codes-found (b ∷ bs) codes are in
    let few = length-fold codes [] in
    let same : length (fold with_code [] codes) ≡ length found = ap length order in
    let room = f.room in
    written (b ∷ bs) found some (rw (← order) (all-fold IsCode codes [] f.all tt)) (omega (arith, few, same, room)) (countries-rise (b ∷ bs) found e)

-- ---- a territory

rejoined : (i : Option (List (List ℕ))) (w : Option Bool) (e : Option (List (List ℕ))) (none : Bool) (t : Territory) →
    i ≡ Some t.included → w ≡ Some t.world → e ≡ Some t.excluded → (t.world || none) ≡ t.world →
    (i >>= (λ included. w >>= (λ world. e >>= (λ excluded. Some (record { included = included; world = world || none; excluded = excluded }))))) ≡ Some t
rejoined i w e none t a b c d = rw (a, b, c) (ap (λ v. Some (record { included = t.included; world = v; excluded = t.excluded })) d)

world-back : (world : Bool) → world_of (world_text world) ≡ Some world
world-back true = refl
world-back false = refl

region-none : (regions : List ℕ) → world_of regions ≡ Some false → (length regions == 0) ≡ true
region-none [] e = refl
region-none (b ∷ bs) e = absurd (true≢false (cond_some (bytes_eq (b ∷ bs) (codes "WORLD")) true false e).1)

-- a territory that is not the world includes a country by name
stays : (world region : Bool) (included regions : List ℕ) (found : List (List ℕ)) → Countries included found → world_of regions ≡ Some region → world ≡ (region || ((length included == 0) && (length regions == 0))) →
    (world || ((length (countries_text found) == 0) && (length (world_text world) == 0))) ≡ world
stays true region included regions found c w is = refl
stays false true included regions found c w is = cc
stays false false included regions found c w is =
    let none = region-none regions w in
    let less : 0 < length included = grind (arith, nat_tests, is, none) in
    let long = c.some less in
    grind (arith, nat_tests, long)

pub record Back (included regions excluded : List ℕ) (t : Territory) : Type 0 where
  pub reads : territory_of (countries_text t.included) (world_text t.world) (countries_text t.excluded) ≡ Some t
  pub included_text : Countries included t.included
  pub excluded_text : Countries excluded t.excluded

pub territory-back : (included regions excluded : List ℕ) (t : Territory) → territory_of included regions excluded ≡ Some t → Back included regions excluded t
territory-back included regions excluded t is =
    let f = has-fields (countries_of included) (world_of regions) (countries_of excluded) _ t is in
    let i = countries-back included t.included f.included_is in
    let e = countries-back excluded t.excluded f.excluded_is in
    record {
      reads = rejoined (countries_of (countries_text t.included)) (world_of (world_text t.world)) (countries_of (countries_text t.excluded)) _ t
          i.reads (world-back t.world) e.reads (stays t.world f.region included regions t.included i f.region_is f.world_is);
      included_text = i;
      excluded_text = e;
    }
