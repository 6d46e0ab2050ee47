use Rattle.std.proofs.Common.{◌≡◌, ◌++◌, ◌∷◌, ◌+◌, ◌<◌, ◌≤◌, ◌∙◌, [], ℕ, List, true, false, length, take, drop, get_or, insert, refl, sym, ap, is_lt, add-one, append_assoc, take-suc, drop-cons, take-append-drop, take_all}
use Rattle.std.proofs.lemmas.List.{drop_all}
use Rattle.std.specs.Str.{bytes_eq}
use Rattle.onix_terms.specs.Territory.{comes_before, with_code}
use Rattle.onix_terms.proofs.countries.add_code.Goals as goal

at_none : (code : List ℕ) → with_code [] code ≡ code ∷ []
unfolding with_code
at_none code = refl

at_same : (x : List ℕ) (xs : List (List ℕ)) (code : List ℕ) → bytes_eq code x ≡ true → with_code (x ∷ xs) code ≡ x ∷ xs
unfolding with_code
at_same x xs code same = rw same refl

at_later : (x : List ℕ) (xs : List (List ℕ)) (code : List ℕ) → bytes_eq code x ≡ false → comes_before code x ≡ true → with_code (x ∷ xs) code ≡ code ∷ x ∷ xs
unfolding with_code
at_later x xs code differs before = rw (differs, before) refl

at_earlier : (x : List ℕ) (xs : List (List ℕ)) (code : List ℕ) → bytes_eq code x ≡ false → comes_before code x ≡ false → with_code (x ∷ xs) code ≡ x ∷ with_code xs code
unfolding with_code
at_earlier x xs code differs before = rw (differs, before) refl

-- the codes from a place on
from_here : (codes : List (List ℕ)) (i : ℕ) (other : List ℕ) → i < length codes → other ≡ get_or codes i other → drop i codes ≡ other ∷ drop (i + 1) codes
from_here codes i other inside is = drop-cons codes i other inside ∙ rw (add-one, ← is) refl

-- what the codes become by a code that is at a place
stays : (codes : List (List ℕ)) (i : ℕ) (code other : List ℕ) → i < length codes → other ≡ get_or codes i other → bytes_eq code other ≡ true →
    take i codes ++ with_code (drop i codes) code ≡ codes
stays codes i code other inside is same =
    let here = from_here codes i other inside is in
    ap (λ xs. take i codes ++ xs) (ap (λ xs. with_code xs code) here ∙ at_same other (drop (i + 1) codes) code same ∙ sym here) ∙ take-append-drop i codes

-- and by one that comes before what stands there
goes_in : (codes : List (List ℕ)) (i : ℕ) (code other : List ℕ) → i < length codes → other ≡ get_or codes i other → bytes_eq code other ≡ false → comes_before code other ≡ true →
    take i codes ++ with_code (drop i codes) code ≡ insert codes i code
goes_in codes i code other inside is differs before =
    let here = from_here codes i other inside is in
    ap (λ xs. take i codes ++ xs) (ap (λ xs. with_code xs code) here ∙ at_later other (drop (i + 1) codes) code differs before ∙ ap (λ xs. code ∷ xs) (sym here))

-- and by one that comes after it
goes_on : (codes : List (List ℕ)) (i : ℕ) (code other : List ℕ) → i < length codes → other ≡ get_or codes i other → bytes_eq code other ≡ false → comes_before code other ≡ false →
    take (i + 1) codes ++ with_code (drop (i + 1) codes) code ≡ take i codes ++ with_code (drop i codes) code
goes_on codes i code other inside is differs before =
    let here = from_here codes i other inside is in
    let up_to : take (i + 1) codes ≡ take i codes ++ (other ∷ []) = rw (add-one, take-suc codes i other inside, ← is) refl in
    rw (up_to, append_assoc) (ap (λ xs. take i codes ++ xs) (sym (ap (λ xs. with_code xs code) here ∙ at_earlier other (drop (i + 1) codes) code differs before)))

-- and by one that comes after all
goes_last : (codes : List (List ℕ)) (i : ℕ) (code : List ℕ) → length codes ≤ i → take i codes ++ with_code (drop i codes) code ≡ codes ++ code ∷ []
goes_last codes i code past = rw (take_all i codes past, drop_all i codes past, at_none) refl

pub loop-i-init : goal.loop-i-init
loop-i-init c = (refl, refl)

pub returns-then-eq : goal.returns-then-eq
returns-then-eq c =
    let codes = c.loop-i.invariant.0 in
    let inside = rw c.as_slice-i-end.ensures at c.loop-i-test.true in
    let is = rw (c.as_slice.ensures, codes) at c.index-as_slice-i.is in
    codes ∙ sym (stays c.args.codes c.loop-i.i c.args.code c.index-as_slice-i.result inside is (sym c.if-eq.ensures)) ∙ c.loop-i.invariant.1

pub returns-then-is_lt : goal.returns-then-is_lt
returns-then-is_lt c =
    let codes = c.loop-i.invariant.0 in
    let inside = rw c.as_slice-i-end.ensures at c.loop-i-test.true in
    let is = rw (c.as_slice.ensures, codes) at c.index-as_slice-i.is in
    let before = ap is_lt (sym c.cmp.ensures) ∙ sym c.if-is_lt.ensures in
    c.in_ok-insert.ensures.ok ∙ ap (λ xs. insert xs c.loop-i.i c.args.code) codes
    ∙ sym (goes_in c.args.codes c.loop-i.i c.args.code c.index-as_slice-i.result inside is (sym c.if-eq.ensures) before) ∙ c.loop-i.invariant.1

pub loop-i-preserved : goal.loop-i-preserved
loop-i-preserved c =
    let codes = c.loop-i.invariant.0 in
    let inside = rw c.as_slice-i-end.ensures at c.loop-i-test.true in
    let is = rw (c.as_slice.ensures, codes) at c.index-as_slice-i.is in
    let before = ap is_lt (sym c.cmp.ensures) ∙ sym c.if-is_lt.ensures in
    (codes, goes_on c.args.codes c.loop-i.i c.args.code c.index-as_slice-i.result inside is (sym c.if-eq.ensures) before ∙ c.loop-i.invariant.1)

pub returns : goal.returns
returns c =
    let past = rw c.as_slice-i-end.ensures at c.loop-i-test.false in
    c.in_ok-push.ensures.ok ∙ ap (λ xs. xs ++ c.args.code ∷ []) c.loop-i.invariant.0
    ∙ sym (goes_last c.args.codes c.loop-i.i c.args.code past) ∙ c.loop-i.invariant.1
