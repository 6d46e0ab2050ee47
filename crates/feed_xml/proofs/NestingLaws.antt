-- Elements in one another, and the text in them.
use Rattle.std.proofs.Common.{◌≡◌, ℕ, suc, Bool, true, false, eqb, List, [], ◌∷◌, length, take, map, Some, None, refl, sym, ap, arith}
use Rattle.std.specs.Prelude.{◌&&◌}
use Rattle.std.specs.List.{list_all}
use Rattle.std.proofs.lemmas.Bool.{and_parts, ne_eqb}
use Rattle.feed_xml.specs.declared.nesting.Nesting.{Nesting}
use Rattle.feed_xml.specs.Grammar.{is_space, raw}
use Rattle.feed_xml.specs.Stacks.{names}
use Rattle.feed_xml.specs.private.Places.{is_nothing, nests}

pub length-names : (starts bytes : List ℕ) → length (names starts bytes) ≡ length starts
length-names [] bytes = refl
length-names (start ∷ starts) bytes = ap suc (length-names starts (take start bytes))

pub nothing_is : (xs : List (List ℕ)) → is_nothing xs ≡ eqb (length xs) 0
nothing_is [] = refl
nothing_is (x ∷ xs) = sym (ne_eqb (suc (length xs)) 0 (λ e. absurd (omega (arith, e))))

pub inside_text : (p : Nesting) (run : List ℕ) → is_nothing p.names ≡ false → nests p (map raw run) ≡ Some p
inside_text p [] h = refl
inside_text p (b ∷ run) h = rw h (inside_text p run h)

pub outside_space : (p : Nesting) (run : List ℕ) → list_all is_space run ≡ true → nests p (map raw run) ≡ Some p
outside_space p [] all = refl
outside_space p (b ∷ run) all =
    let parts = and_parts (is_space b) (list_all is_space run) all in
    go (is_nothing p.names) refl parts.0 (outside_space p run parts.1)
  where
    go : (t : Bool) → is_nothing p.names ≡ t → is_space b ≡ true → nests p (map raw run) ≡ Some p → nests p (map raw (b ∷ run)) ≡ Some p
    go true e s k = rw (e, s) k
    go false e s k = rw e k

pub outside_text : (p : Nesting) (run : List ℕ) → is_nothing p.names ≡ true → list_all is_space run ≡ false → nests p (map raw run) ≡ None
outside_text p [] h all = absurd cc
outside_text p (b ∷ run) h all = go (λ k. outside_text p run h k) (is_space b) refl all
  where
    go : (list_all is_space run ≡ false → nests p (map raw run) ≡ None) → (t : Bool) → is_space b ≡ t → (t && list_all is_space run) ≡ false → nests p (map raw (b ∷ run)) ≡ None
    go rest true e k = rw (h, e) (rest k)
    go rest false e k = rw (h, e) refl
