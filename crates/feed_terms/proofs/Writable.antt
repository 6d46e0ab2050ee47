-- What terms compute of a price of the feed can be written.
use Rattle.std.proofs.Common.{◌≡◌, ◌<◌, ◌≤◌, ◌+◌, ◌*◌, ◌/◌, ◌%◌, ◌∙◌, ℕ, List, [], ◌∷◌, ◌++◌, Bool, true, false, cond, not, Option, Some, None, Result, Ok, Err, filter, find, fold, map, max, min, length, refl, sym, ap, subst, arith}
use Rattle.std.specs.List.{AllByRecursion, list_any}
use Rattle.std.specs.Prelude.{◌==◌, codes, is_some, nat_lt, if◌then◌else◌}
use Rattle.std.proofs.lemmas.Bool.Decides.{nat_tests}
use Rattle.std.proofs.lemmas.Option.{same_Some}
use Rattle.std.specs.Str.{bytes_eq}
use Rattle.toml.specs.Data.{Data, Items, Members, as_str, as_table, get_member, item, no_items}
use Rattle.toml.specs.Parse.{parse_document}
use Rattle.onix_terms.specs.Code.{code2_of, currency_of}
use Rattle.onix_terms.specs.Options.{◌>>=◌}
use Rattle.onix_terms.proofs.ReadBack.{fixed-itself}
use Rattle.onix_records.proofs.FrontRows.{bind-some}
use Rattle.price_rules.specs.RulesFile.{keys_pass}
use Rattle.feed_terms.specs.Amounts.{net_amount, rounded}
use Rattle.feed_terms.specs.Computed.{all_computed, computed_by, computed_with, discounts_of, least_of_each, tax_of, with_least}
use Rattle.feed_terms.specs.Fits.{fits, fitting}
use Rattle.feed_terms.specs.Laws.{HasCodes, IsInRange, IsOfRange, IsWritable}
use Rattle.feed_terms.specs.TermsFile.{any_percent, array_at, codes_at, is_discount, is_term_key, net_of, optional_at, rate_of, scheme_at, table_of, term_behind, term_in, term_of, terms_behind, terms_of, text_at, top_items, typed_of, types_behind, with_term}
use Rattle.feed_terms.specs.WithTerms.{computed_of, left_of, written_of}
use Rattle.feed_terms.specs.declared.computed.ComputedPrice.{ComputedPrice}
use Rattle.feed_terms.specs.declared.price.Discount.{Discount}
use Rattle.feed_terms.specs.declared.price.GivenPrice.{GivenPrice}
use Rattle.feed_terms.specs.declared.term.Rate.{Rate}
use Rattle.feed_terms.specs.declared.term.Rate.TheVariants.{Feed, Fixed}
use Rattle.feed_terms.specs.declared.term.Term.{Term}
use Rattle.feed_terms.specs.declared.term.TermsFault.{TermsFault}
use Rattle.feed_terms.proofs.ComputedAmounts.{net_amount-le}

-- ---- one computed price

whole : (amount r : ℕ) (b : Bool) → cond b (10 * (amount / 10)) (10 * r) % 10 ≡ 0
whole amount r true = omega arith
whole amount r false = omega arith

min-whole : (a b : ℕ) (t : Bool) → nat_lt a b ≡ t → a % 10 ≡ 0 → b % 10 ≡ 0 → min a b % 10 ≡ 0
min-whole a b true e f g = let less : min a b ≡ a = grind (arith, nat_tests) in ap (λ n. n % 10) less ∙ f
min-whole a b false e f g = let more : min a b ≡ b = grind (arith, nat_tests) in ap (λ n. n % 10) more ∙ g

module _ (term : Term) (given : GivenPrice) (code : code2_of term.net ≡ Some term.net) (range : IsInRange given) where
  computed-writable : (d : Discount) → IsOfRange d.quantity → IsWritable (computed_with term given d)
  computed-writable d q = record {
    code = code;
    below = omega (arith, net_amount-le given.price.amount (tax_of term.tax given.tax) d.percent, range.below);
    whole = whole given.price.amount (rounded given.price.amount (tax_of term.tax given.tax) d.percent) (nat_lt given.price.amount (10 * rounded given.price.amount (tax_of term.tax given.tax) d.percent));
    some = omega (arith, range.minimum.0, q.0);
    small = omega (arith, range.minimum.1, q.1);
  }

  all-computed : (ds : List Discount) → AllByRecursion (λ d. IsOfRange d.quantity) ds → AllByRecursion IsWritable (map (computed_with term given) ds)
  all-computed [] all = tt
  all-computed (d ∷ ds) all = (computed-writable d all.0, all-computed ds all.1)

  discounts-range : (rate : Rate) → AllByRecursion (λ d. IsOfRange d.quantity) (discounts_of rate given.discounts)
  discounts-range (Fixed percent) = ((omega arith, omega arith), tt)
  discounts-range Feed = range.discounts

least-writable : (first c : ComputedPrice) → IsWritable first → IsWritable c → IsWritable (record first { amount = min first.amount c.amount })
least-writable first c f g = record {
  code = f.code;
  below = omega (arith, f.below);
  whole = min-whole first.amount c.amount (nat_lt first.amount c.amount) refl f.whole g.whole;
  some = f.some;
  small = f.small;
}

with-writable : (found : List ComputedPrice) (c : ComputedPrice) → AllByRecursion IsWritable found → IsWritable c → AllByRecursion IsWritable (with_least found c)
with-writable [] c all here = (here, tt)
with-writable (first ∷ rest) c all here =
    elim (first.minimum == c.minimum) as (λ b. AllByRecursion IsWritable (cond b (record first { amount = min first.amount c.amount } ∷ rest) (first ∷ with_least rest c))) [
      | true ↦ (least-writable first c all.0 here, all.1)
      | false ↦ (all.0, with-writable rest c all.1 here)
    ]

fold-writable : (found cs : List ComputedPrice) → AllByRecursion IsWritable found → AllByRecursion IsWritable cs → AllByRecursion IsWritable (fold with_least found cs)
fold-writable found [] all more = all
fold-writable found (c ∷ cs) all more = fold-writable (with_least found c) cs (with-writable found c all more.0) more.1

-- ---- those of a table

kept : (test : ComputedPrice → Bool) (cs : List ComputedPrice) → AllByRecursion IsWritable cs → AllByRecursion IsWritable (filter test cs)
kept test [] all = tt
kept test (c ∷ cs) all =
    elim (test c) as (λ b. AllByRecursion IsWritable (cond b (c ∷ filter test cs) (filter test cs))) [
      | true ↦ (all.0, kept test cs all.1)
      | false ↦ kept test cs all.1
    ]

by-writable : (given : GivenPrice) → IsInRange given → (test : Term → Bool) (terms : List Term) → HasCodes terms → AllByRecursion IsWritable (computed_by (find test terms) given)
by-writable given range test [] codes = tt
by-writable given range test (term ∷ terms) codes =
    elim (test term) as (λ b. AllByRecursion IsWritable (computed_by (cond b (Some term) (find test terms)) given)) [
      | true ↦ fold-writable [] (all_computed term given) tt (all-computed term given codes.0 range (discounts_of term.percent given.discounts) (discounts-range term given codes.0 range term.percent))
      | false ↦ by-writable given range test terms codes.1
    ]

pub written-writable : (terms : List Term) (supplier : Option (List ℕ)) (held : GivenPrice → ComputedPrice → Bool) (given : GivenPrice) → HasCodes terms → IsInRange given
    → AllByRecursion IsWritable (written_of terms supplier held given)
written-writable terms supplier held given codes range =
    kept (λ c. not (c.amount == 0)) (left_of terms supplier held given) (kept (λ c. not (held given c)) (computed_of terms supplier held given) (by-writable given range (fits supplier given) terms codes))

-- ---- the types of net prices of a table

cond-some : {A : Type 0} (b : Bool) (x : Option A) (y : A) → cond b None x ≡ Some y → x ≡ Some y
cond-some true x y e = cc e
cond-some false x y e = e

then-some : {A : Type 0} (b : Bool) (x : Option A) (y : A) → cond b x None ≡ Some y → x ≡ Some y
then-some true x y e = e
then-some false x y e = cc e

net-code : (types : List (List ℕ)) (text net : List ℕ) → net_of types text ≡ Some net → code2_of net ≡ Some net
net-code types text net e =
    let (found, is, kept) = bind-some (code2_of text) _ net e in
    let same : found ≡ net = same_Some found net (cond-some (list_any (bytes_eq found) types) (Some found) net kept) in
    let own : text ≡ found = fixed-itself _ 2 text found is in
    ap code2_of (sym (own ∙ same)) ∙ is ∙ ap (λ x. Some x) same

text-code : (types : List (List ℕ)) (value : Option Data) (net : List ℕ) → text_at (net_of types) value ≡ Some net → code2_of net ≡ Some net
text-code types value net e =
    let (text, is, read) = bind-some (value >>= as_str) (net_of types) net e in net-code types text net read

in-code : (members : Members) (term : Term) → term_in members ≡ Some term → code2_of term.net ≡ Some term.net
in-code members term e =
    let f = then-some (keys_pass is_term_key members) _ term e in
    let (types, _, f1) = bind-some (array_at (types_behind []) (get_member (codes "types") members)) _ term f in
    let (asked, _, f2) = bind-some (codes_at (get_member (codes "codes") members)) _ term f1 in
    let (scheme, _, f3) = bind-some (scheme_at (is_some asked) (get_member (codes "scheme") members)) _ term f2 in
    let (supplier, _, f4) = bind-some (optional_at typed_of (get_member (codes "supplier") members)) _ term f3 in
    let (currency, _, f5) = bind-some (optional_at currency_of (get_member (codes "currency") members)) _ term f4 in
    let (net, is, f6) = bind-some (text_at (net_of types) (get_member (codes "net") members)) _ term f5 in
    let (percent, _, f7) = bind-some (text_at (rate_of is_discount) (get_member (codes "percent") members)) _ term f6 in
    let (tax, _, f8) = bind-some (optional_at (rate_of any_percent) (get_member (codes "tax") members)) _ term f7 in
    let same : net ≡ term.net = ap (λ (t : Term). t.net) (same_Some _ term f8) in
    subst (λ n. code2_of n ≡ Some n) same (text-code types (get_member (codes "net") members) net is)

term-code : (value : Data) (term : Term) → term_of value ≡ Some term → code2_of term.net ≡ Some term.net
unfolding term_of
term-code value term e = let (members, _, is) = bind-some (as_table value) term_in term e in in-code members term is

all-more : (found : List Term) (term : Term) → HasCodes found → code2_of term.net ≡ Some term.net → HasCodes (found ++ term ∷ [])
all-more [] term all is = (is, tt)
all-more (t ∷ found) term all is = (all.0, all-more found term all.1 is)

behind-codes : (found : List Term) (items : Items) (terms : List Term) → HasCodes found → terms_behind found items ≡ Ok terms → HasCodes terms
behind-codes found no_items terms all e = let same : found ≡ terms = cc in subst HasCodes same all
behind-codes found (item value rest) terms all e = go (λ term. behind-codes (found ++ term ∷ []) rest terms) (term_behind (length found) value) refl e
  where
    go : ((term : Term) → HasCodes (found ++ term ∷ []) → terms_behind (found ++ term ∷ []) rest ≡ Ok terms → HasCodes terms) → (o : Option Term) → term_behind (length found) value ≡ o → with_term (length found + 1) o (λ term. terms_behind (found ++ term ∷ []) rest) ≡ Ok terms → HasCodes terms
    go more None is e = cc e
    go more (Some term) is e =
        more term (all-more found term all (term-code value term (then-some (nat_lt (length found) 1_000) (term_of value) term is))) e

pub table-codes : (text : List ℕ) (terms : List Term) → table_of text ≡ Ok terms → HasCodes terms
unfolding table_of
table-codes text terms e = go (parse_document text >>= top_items) e
  where
    go : (o : Option Items) → terms_of o ≡ Ok terms → HasCodes terms
    go None e = cc e
    go (Some items) e = behind-codes [] items terms tt e
