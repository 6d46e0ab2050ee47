-- A price of the feed that holds stands before all that is computed.
use Rattle.std.proofs.Common.{◌≡◌, ◌<◌, ℕ, ℤ, List, [], ◌∷◌, ◌++◌, Bool, true, false, cond, not, ◌&&◌, ◌||◌, ◌⊎◌, inl, inr, Option, Some, None, map, refl, sym, subst, arith, ◌∙◌}
use Rattle.std.specs.List.{All, AllByRecursion, Contains, filter, flat_map, list_any}
use Rattle.std.specs.Prelude.{nat_lt, ◌==◌}
use Rattle.std.specs.Str.{bytes_eq}
use Rattle.std.proofs.lemmas.Bool.Decides.{Decides-eqb, Decides-ltb}
use Rattle.std.proofs.lemmas.Int.{ints}
use Rattle.std.proofs.lemmas.List.Elements.{All-append, All-contains, All-from_recursion, All-nil, Contains-append_left, Contains-append_right, recursion_from_All}
use Rattle.std.proofs.lemmas.Slice.Eq.{bytes_eq-Decides}
use Rattle.onix_terms.specs.declared.territory.Territory.{Territory}
use Rattle.onix_records.specs.declared.parts.Price.{Price}
use Rattle.price_rules.specs.Current.{is_later}
use Rattle.price_rules.specs.Price.{Holds, IsCurrent, IsLater, Outranks}
use Rattle.price_rules.specs.declared.offer.Offer.{Offer}
use Rattle.price_rules.specs.declared.offer.PriceQuery.{PriceQuery}
use Rattle.price_rules.proofs.CurrentPrice.{later_apart}
use Rattle.price_rules.proofs.Members.{first_in, in_cons, not_in_none}
use Rattle.feed_terms.specs.HeldBack.{is_barred, is_closed, is_held_back, is_no_higher, is_of_kind}
use Rattle.feed_terms.specs.WithTerms.{left_of, price_of_computed, prices_with, written_of, computed_of}
use Rattle.feed_terms.specs.declared.computed.ComputedPrice.{ComputedPrice}
use Rattle.feed_terms.specs.declared.price.GivenPrice.{GivenPrice}
use Rattle.feed_terms.specs.declared.price.Kind.{Kind}
use Rattle.feed_terms.specs.declared.term.Term.{Term}

-- ---- tests

or_right : (a b : Bool) → (a || b) ≡ false → b ≡ false
or_right true b e = cc
or_right false b e = e

or_left : (a b : Bool) → (a || b) ≡ false → a ≡ false
or_left true b e = cc
or_left false b e = refl

and_right : (a b : Bool) → a ≡ true → (a && b) ≡ false → b ≡ false
and_right true b t e = e
and_right false b t e = cc

both_true : (a b : Bool) → a ≡ true → b ≡ true → (a && b) ≡ true
both_true true b t e = e
both_true false b t e = cc

not_false : (b : Bool) → not b ≡ false → b ≡ true
not_false true e = refl
not_false false e = cc

not_true : (b : Bool) → not b ≡ true → b ≡ false
not_true true e = cc
not_true false e = refl

-- no item of a list passes
none_passes : {X : Type 0} (test : X → Bool) (xs : List X) → list_any test xs ≡ false → AllByRecursion (λ x. test x ≡ false) xs
none_passes test [] e = tt
none_passes test (x ∷ xs) e = (or_left (test x) (list_any test xs) e, none_passes test xs (or_right (test x) (list_any test xs) e))

-- each that a filter keeps passes
kept_pass : {X : Type 0} (test : X → Bool) (P : X → Type 0) → ((x : X) → test x ≡ true → P x) → (xs : List X) → AllByRecursion P (filter test xs)
kept_pass test P f [] = tt
kept_pass {X} test P f (x ∷ xs) = go (kept_pass test P f xs) (test x) refl
  where
    go : AllByRecursion P (filter test xs) → (b : Bool) → test x ≡ b → AllByRecursion P (cond b (x ∷ filter test xs) (filter test xs))
    go more true e = (f x e, more)
    go more false e = more

-- what holds of each holds of each that a filter keeps
kept_all : {X : Type 0} (test : X → Bool) (P : X → Type 0) (xs : List X) → AllByRecursion P xs → AllByRecursion P (filter test xs)
kept_all test P [] all = tt
kept_all {X} test P (x ∷ xs) all = go (kept_all test P xs all.1) (test x)
  where
    go : AllByRecursion P (filter test xs) → (b : Bool) → AllByRecursion P (cond b (x ∷ filter test xs) (filter test xs))
    go more true = (all.0, more)
    go more false = more

map_all : {X Y : Type 0} (f : X → Y) (P : Y → Type 0) (xs : List X) → AllByRecursion (λ x. P (f x)) xs → AllByRecursion P (map f xs)
map_all f P [] all = tt
map_all f P (x ∷ xs) all = (all.0, map_all f P xs all.1)

weaker : {X : Type 0} (P Q : X → Type 0) → ((x : X) → P x → Q x) → (xs : List X) → AllByRecursion P xs → AllByRecursion Q xs
weaker P Q f [] all = tt
weaker P Q f (x ∷ xs) all = (f x all.0, weaker P Q f xs all.1)

-- ---- days

is_later_true : (a b : Option ℤ) → is_later a b ≡ true → IsLater a b
is_later_true None b e = cc
is_later_true (Some a) None e = tt
is_later_true (Some a) (Some b) e = grind (arith, ints)

later_once : (a b : Option ℤ) → IsLater a b → IsLater b a → ⊥
later_once None b h k = h
later_once (Some a) None h k = k
later_once (Some a) (Some b) h k = grind (arith, ints)

-- ---- a computed price against one of the feed

module _ (p : Price) (price : Price) (c : ComputedPrice) where
  not_beaten : is_no_higher p.minimum p.from c.minimum price.from ≡ false → Outranks (price_of_computed price c) p → ⊥
  not_beaten e (inl greater) =
      let less = or_left (nat_lt p.minimum c.minimum) _ e in
      let yes : nat_lt p.minimum c.minimum ≡ true = (Decides-ltb p.minimum c.minimum).1 greater in
      cc
  not_beaten e (inr (same, next)) =
      let rest = or_right (nat_lt p.minimum c.minimum) _ e in
      let equal : (p.minimum == c.minimum) ≡ true = (Decides-eqb p.minimum c.minimum).1 (sym same) in
      let later = is_later_true p.from price.from (not_false _ (and_right (p.minimum == c.minimum) _ equal rest)) in
      by_next later next
    where
      by_next : IsLater p.from price.from → IsLater price.from p.from ⊎ ((price.from ≡ p.from) × (c.amount < p.amount)) → ⊥
      by_next later (inl back) = later_once p.from price.from later back
      by_next later (inr (alike, amount)) = later_apart p.from price.from (sym alike) later

  -- it does not outrank a price of the feed that holds, unless that holds it back
  pub beaten : (market : Territory) (q : PriceQuery) → Holds market q p → (is_of_kind c.price_type price.currency p && is_no_higher p.minimum p.from c.minimum price.from) ≡ false
      → Holds market q (price_of_computed price c) → Outranks (price_of_computed price c) p → ⊥
  beaten market q holds free computed outranks =
      let one_type : c.price_type ≡ p.price_type = computed.same_type ∙ sym holds.same_type in
      let one_currency : price.currency ≡ p.currency = computed.same_currency ∙ sym holds.same_currency in
      let kind = both_true (bytes_eq c.price_type p.price_type) (bytes_eq price.currency p.currency) ((bytes_eq-Decides c.price_type p.price_type).1 one_type) ((bytes_eq-Decides price.currency p.currency).1 one_currency) in
      not_beaten (and_right (is_of_kind c.price_type price.currency p) _ kind free) outranks

-- ---- the prices of an offer

module _ (terms : List Term) (supplier : Option (List ℕ)) (closed : List Kind) (all : List GivenPrice) where
  abbrev written : GivenPrice → List ComputedPrice
  written g = written_of terms supplier (is_held_back terms supplier all closed) g

  -- the prices of some Prices, with what is computed
  abbrev with_computed : GivenPrice → List Price
  with_computed g = g.price ∷ map (price_of_computed g.price) (written g)

  -- each Price is there with the terms
  stays : (given : List GivenPrice) (p : Price) → Contains (map (λ g. g.price) given) p → Contains (flat_map with_computed given) p
  stays [] p h = absurd (not_in_none p h)
  stays (g ∷ given) p h =
      by_place (stays given p) (in_cons g.price (map (λ g. g.price) given) p h)
    where
      by_place : (Contains (map (λ g. g.price) given) p → Contains (flat_map with_computed given) p) → (g.price ≡ p) ⊎ Contains (map (λ g. g.price) given) p
          → Contains (with_computed g ++ flat_map with_computed given) p
      by_place later (inl e) = Contains-append_left (with_computed g) (flat_map with_computed given) p (subst (Contains (with_computed g)) e (first_in g.price (map (price_of_computed g.price) (written g))))
      by_place later (inr more) = Contains-append_right (with_computed g) (flat_map with_computed given) p (later more)

  module _ (market : Territory) (q : PriceQuery) (p : Price) (holds : Holds market q p) (there : Contains (map (λ g. g.price) all) p) where
    abbrev Beats : Price → Type 0
    Beats y = Holds market q y → Outranks y p → ⊥

    -- what is not held back is higher than no Price
    of_left : (g : GivenPrice) (c : ComputedPrice) → not (is_held_back terms supplier all closed g c) ≡ true → Beats (price_of_computed g.price c)
    of_left g c left =
        let no_price = or_right (is_closed c.price_type g.price.currency closed) _ (or_right (is_barred terms supplier all g) _ (not_true _ left)) in
        let test = λ (r : Price). is_of_kind c.price_type g.price.currency r && is_no_higher r.minimum r.from c.minimum g.price.from in
        let none = map_all (λ (x : GivenPrice). x.price) (λ r. test r ≡ false) all (none_passes (λ (x : GivenPrice). test x.price) all no_price) in
        beaten p g.price c market q holds (All-contains (λ r. test r ≡ false) _ p (All-from_recursion (λ r. test r ≡ false) _ none) there)

    of_written : (g : GivenPrice) → AllByRecursion Beats (map (price_of_computed g.price) (written g))
    of_written g =
        map_all (price_of_computed g.price) Beats (written g)
        (kept_all (λ c. not (c.amount == 0)) (λ c. Beats (price_of_computed g.price c)) (left_of terms supplier (is_held_back terms supplier all closed) g)
        (kept_pass (λ c. not (is_held_back terms supplier all closed g c)) (λ c. Beats (price_of_computed g.price c)) (of_left g) (computed_of terms supplier (is_held_back terms supplier all closed) g)))

    none_beats : (given : List GivenPrice) → AllByRecursion Beats (map (λ g. g.price) given) → All Beats (flat_map with_computed given)
    none_beats [] each = All-nil Beats
    none_beats (g ∷ given) each =
        All-append Beats (with_computed g) (flat_map with_computed given) (All-from_recursion Beats (with_computed g) (each.0, of_written g)) (none_beats given each.1)

pub given_stands : (terms : List Term) (supplier : Option (List ℕ)) (closed : List Kind) (given : List GivenPrice) (offer : Offer) (q : PriceQuery) (amount : ℕ) → offer.prices ≡ map (λ g. g.price) given
    → IsCurrent offer q (Some amount) → IsCurrent (record offer { prices = prices_with terms supplier (is_held_back terms supplier given closed) given }) q (Some amount)
given_stands terms supplier closed given offer q amount same (p, is, (there, holds, best)) =
    let Unbeaten : Price → Type 0 = λ y. Holds offer.market q y → Outranks y p → ⊥ in
    let here = subst (λ ps. Contains ps p) same there in
    let each = recursion_from_All Unbeaten (map (λ g. g.price) given) (subst (All Unbeaten) same best) in
    (p, is, (stays terms supplier closed given given p here, holds, none_beats terms supplier closed given offer.market q p holds here given each))
