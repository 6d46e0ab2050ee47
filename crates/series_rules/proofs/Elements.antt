-- Elements of lists, and lists in order, by recursion.
use Rattle.std.proofs.Common.{◌≡◌, ◌+◌, ◌-◌, ◌<◌, ◌≤◌, ℕ, zero, suc, List, [], ◌∷◌, ◌++◌, ◌⊎◌, Some, inl, inr, refl, sym, ap, ◌∙◌, subst, arith, map}
use Rattle.std.specs.Prelude.{All, AllPairs, Contains, slice_get}
use Rattle.std.specs.List.{enumerate_from, flat_map}
use Rattle.std.proofs.lemmas.List.Elements.{All-cons, All-nil}
use Rattle.std.proofs.lemmas.List.Kept.{AllPairs-cons}

-- x is one of the elements
abbrev pub In : {X : Type 0} → X → List X → Type 0
In x [] = ⊥
In x (y ∷ ys) = (y ≡ x) ⊎ In x ys

-- R holds of each element and each later one
abbrev pub Ordered : {X : Type 0} → (X → X → Type 0) → List X → Type 0
Ordered R [] = Unit {0}
Ordered {X} R (x ∷ xs) = ((y : X) → In y xs → R x y) × Ordered R xs

module _ {X : Type 0} where
  pub in_contained : (xs : List X) (x : X) → Contains xs x → In x xs
  in_contained [] x (k, few, is) = absurd (omega (arith, few))
  in_contained (y ∷ ys) x (zero, few, is) = inl is
  in_contained (y ∷ ys) x (suc k, few, is) = inr (in_contained ys x (k, omega (arith, few), is))

  pub contains_in : (xs : List X) (x : X) → In x xs → Contains xs x
  contains_in [] x m = absurd m
  contains_in (y ∷ ys) x (inl is) = (zero, omega arith, is)
  contains_in (y ∷ ys) x (inr m) = let c = contains_in ys x m in (suc c.0, omega (arith, c.1), c.2)

  all_in : (P : X → Type 0) (xs : List X) → ((y : X) → In y xs → P y) → All P xs
  all_in P [] h = All-nil P
  all_in P (x ∷ xs) h = All-cons P x xs (h x (inl refl)) (all_in P xs (λ y m. h y (inr m)))

  pub pairs_ordered : (R : X → X → Type 0) (xs : List X) → Ordered R xs → AllPairs R xs
  pairs_ordered R [] h = λ i j d lt few. absurd (omega (arith, few))
  pairs_ordered R (x ∷ xs) h = AllPairs-cons R x xs (all_in (R x) xs h.0) (pairs_ordered R xs h.1)

  in_append : (xs ys : List X) (x : X) → In x (xs ++ ys) → In x xs ⊎ In x ys
  in_append [] ys x m = inr m
  in_append (z ∷ xs) ys x (inl is) = inl (inl is)
  in_append (z ∷ xs) ys x (inr m) = further (in_append xs ys x m)
    where
      further : In x xs ⊎ In x ys → In x (z ∷ xs) ⊎ In x ys
      further (inl l) = inl (inr l)
      further (inr r) = inr r

  in_left : (xs ys : List X) (x : X) → In x xs → In x (xs ++ ys)
  in_left [] ys x m = absurd m
  in_left (z ∷ xs) ys x (inl is) = inl is
  in_left (z ∷ xs) ys x (inr m) = inr (in_left xs ys x m)

  in_right : (xs ys : List X) (x : X) → In x ys → In x (xs ++ ys)
  in_right [] ys x m = m
  in_right (z ∷ xs) ys x m = inr (in_right xs ys x m)

  ordered_append : (R : X → X → Type 0) (xs ys : List X) → Ordered R xs → Ordered R ys → ((x y : X) → In x xs → In y ys → R x y) → Ordered R (xs ++ ys)
  ordered_append R [] ys h g across = g
  ordered_append R (x ∷ xs) ys h g across = (
    λ y m. first y (in_append xs ys y m),
    ordered_append R xs ys h.1 g (λ z y m n. across z y (inr m) n),
  )
    where
      first : (y : X) → In y xs ⊎ In y ys → R x y
      first y (inl m) = h.0 y m
      first y (inr m) = across x y (inl refl) m

module _ {X A : Type 0} (f : X → List A) where
  pub in_flat_map : (xs : List X) (a : A) → In a (flat_map f xs) → (x : X) × In x xs × In a (f x)
  in_flat_map [] a m = absurd m
  in_flat_map (x ∷ xs) a m = go (in_flat_map xs a) (in_append (f x) (flat_map f xs) a m)
    where
      go : (In a (flat_map f xs) → (z : X) × In z xs × In a (f z)) → In a (f x) ⊎ In a (flat_map f xs) → (z : X) × In z (x ∷ xs) × In a (f z)
      go rest (inl l) = (x, inl refl, l)
      go rest (inr r) = let there = rest r in (there.0, inr there.1, there.2)

  pub flat_map_in : (xs : List X) (x : X) (a : A) → In x xs → In a (f x) → In a (flat_map f xs)
  flat_map_in [] x a m n = absurd m
  flat_map_in (z ∷ xs) x a (inl is) n = in_left (f z) (flat_map f xs) a (subst (λ y. In a (f y)) (sym is) n)
  flat_map_in (z ∷ xs) x a (inr m) n = in_right (f z) (flat_map f xs) a (flat_map_in xs x a m n)

  -- each piece is in order, and of two elements of the list so are their pieces
  pub ordered_flat_map : (Q : X → X → Type 0) (R : A → A → Type 0) (xs : List X) → Ordered Q xs → ((x : X) → Ordered R (f x)) → ((x y : X) → Q x y → (a b : A) → In a (f x) → In b (f y) → R a b) → Ordered R (flat_map f xs)
  ordered_flat_map Q R [] h each across = tt
  ordered_flat_map Q R (x ∷ xs) h each across =
      ordered_append R (f x) (flat_map f xs) (each x) (ordered_flat_map Q R xs h.1 each across)
      (λ a b m n. let there = in_flat_map xs b n in across x there.0 (h.0 there.0 there.1) a b m there.2)

module _ {X A : Type 0} (f : X → A) where
  pub in_map : (xs : List X) (a : A) → In a (map f xs) → (x : X) × In x xs × (f x ≡ a)
  in_map [] a m = absurd m
  in_map (x ∷ xs) a (inl is) = (x, inl refl, is)
  in_map (x ∷ xs) a (inr m) = let there = in_map xs a m in (there.0, inr there.1, there.2)

  pub map_in : (xs : List X) (x : X) → In x xs → In (f x) (map f xs)
  map_in [] x m = absurd m
  map_in (z ∷ xs) x (inl is) = inl (ap f is)
  map_in (z ∷ xs) x (inr m) = inr (map_in xs x m)

  pub ordered_map : (Q : X → X → Type 0) (R : A → A → Type 0) (xs : List X) → Ordered Q xs → ((x y : X) → Q x y → R (f x) (f y)) → Ordered R (map f xs)
  ordered_map Q R [] h along = tt
  ordered_map Q R (x ∷ xs) h along = (
    λ a m. let there = in_map xs a m in subst (R (f x)) there.2 (along x there.0 (h.0 there.0 there.1)),
    ordered_map Q R xs h.1 along,
  )

-- elements with their numbers, from n on
module _ {X : Type 0} where
  pub in_enumerate : (n : ℕ) (xs : List X) (p : ℕ × X) → In p (enumerate_from n xs) → (n ≤ p.0) × (slice_get xs (p.0 - n) ≡ Some p.1)
  in_enumerate n [] p m = absurd m
  in_enumerate n (x ∷ xs) p (inl is) =
      let Numbered : ℕ × X → Type 0 = λ q. (n ≤ q.0) × (slice_get (x ∷ xs) (q.0 - n) ≡ Some q.1) in
      let none : n - n ≡ zero = omega arith in
      subst Numbered is (omega arith, ap (slice_get (x ∷ xs)) none)
  in_enumerate n (x ∷ xs) p (inr m) =
      let there = in_enumerate (n + 1) xs p m in
      let one : p.0 - n ≡ suc (p.0 - (n + 1)) = omega (arith, there.0) in
      (omega (arith, there.0), ap (slice_get (x ∷ xs)) one ∙ there.1)

  pub enumerate_in : (n : ℕ) (xs : List X) (k : ℕ) (x : X) → n ≤ k → slice_get xs (k - n) ≡ Some x → In (k, x) (enumerate_from n xs)
  enumerate_in n [] k x le is = absurd cc
  enumerate_in n (y ∷ ys) k x le is = by (enumerate_in (n + 1) ys k x) (k - n) refl is
    where
      same : (a b : X) → Some a ≡ Some b → a ≡ b
      same a b e = cc

      by : (n + 1 ≤ k → slice_get ys (k - (n + 1)) ≡ Some x → In (k, x) (enumerate_from (n + 1) ys)) → (j : ℕ) → k - n ≡ j → slice_get (y ∷ ys) j ≡ Some x → In (k, x) (enumerate_from n (y ∷ ys))
      by rest zero here e = let number : n ≡ k = omega (arith, le, here) in let element = same y x e in inl (λ i. (number i, element i))
      by rest (suc j) further e = inr (rest (omega (arith, le, further)) (let less : k - (n + 1) ≡ j = omega (arith, further) in ap (slice_get ys) less ∙ e))

  pub ordered_enumerate : (n : ℕ) (xs : List X) → Ordered (λ (p q : ℕ × X). p.0 < q.0) (enumerate_from n xs)
  ordered_enumerate n [] = tt
  ordered_enumerate n (x ∷ xs) = (λ q m. let there = in_enumerate (n + 1) xs q m in omega (arith, there.0), ordered_enumerate (n + 1) xs)
