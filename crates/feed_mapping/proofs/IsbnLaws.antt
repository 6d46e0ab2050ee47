-- The thirteen digits that are left of a value.
use Rattle.std.proofs.Common.{◌≡◌, ℕ, List, [], ◌∷◌, Bool, true, false, map, refl, sym, ap, ◌∙◌}
use Rattle.std.specs.Prelude.{◌==◌, ◌&&◌, length}
use Rattle.std.specs.Char.{is_ascii_digit}
use Rattle.std.specs.List.{list_all}
use Rattle.std.specs.Str.{is_utf8}
use Rattle.std.proofs.lemmas.Bool.{and_parts}
use Rattle.feed_mapping.specs.Products.{digit_byte, is_thirteen, thirteen_of, without_marks}

digits-same : (cs : List ℕ) → list_all is_ascii_digit cs ≡ true → map digit_byte cs ≡ cs
digits-same [] all = refl
digits-same (c ∷ cs) all =
    let p = and_parts (is_ascii_digit c) (list_all is_ascii_digit cs) all in
    let one : digit_byte c ≡ c = rw p.0 refl in
    ap (λ (d : ℕ). d ∷ map digit_byte cs) one ∙ ap (λ (ds : List ℕ). c ∷ ds) (digits-same cs p.1)

all-digits : (cs : List ℕ) → is_thirteen cs ≡ true → list_all is_ascii_digit cs ≡ true
all-digits cs is = go ((length cs == 13) && list_all is_ascii_digit cs) refl is
  where
    go : (b : Bool) → ((length cs == 13) && list_all is_ascii_digit cs) ≡ b → is_thirteen cs ≡ true → list_all is_ascii_digit cs ≡ true
    go true e f = (and_parts (length cs == 13) (list_all is_ascii_digit cs) e).1
    go false e f = let no = rw e at f in absurd cc

pub thirteen-written : (value cs : List ℕ) → is_utf8 value ≡ true → cs ≡ without_marks value → is_thirteen cs ≡ true → thirteen_of value ≡ map digit_byte cs
thirteen-written value cs utf8 marks is =
    let left : is_thirteen (without_marks value) ≡ true = ap is_thirteen (sym marks) ∙ is in
    let both : thirteen_of value ≡ without_marks value = rw (utf8, left) refl in
    both ∙ sym marks ∙ sym (digits-same cs (all-digits cs is))
