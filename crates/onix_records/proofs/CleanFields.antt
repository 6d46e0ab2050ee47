-- Fields are clean if none is too long and their bytes, one after the other, have no control character.
use Rattle.std.proofs.Common.{◌≡◌, ◌∷◌, ◌∙◌, [], ℕ, Bool, List, Bor, true, false, ap, refl, sym, length, map}
use Rattle.std.specs.Prelude.{◌&&◌, nat_le, not}
use Rattle.std.specs.List.{flat_map, list_all}
use Rattle.std.proofs.lemmas.List.Folds.{list_all-append, list_all-map}
use Rattle.onix_records.specs.Fields.{is_clean, is_control}

abbrev pub is_short : List ℕ → Bool
is_short f = nat_le (length f) 1024

abbrev pub is_plain : ℕ → Bool
is_plain b = not (is_control b)

exchange : (a b c d : Bool) → ((a && b) && (c && d)) ≡ ((a && c) && (b && d))
exchange true true c d = refl
exchange true false true d = refl
exchange true false false d = refl
exchange false b c d = refl

clean-parts : (fs : List (List ℕ)) → list_all is_clean fs ≡ (list_all is_short fs && list_all is_plain (flat_map (λ f. f) fs))
clean-parts [] = refl
clean-parts (f ∷ fs) =
    ap (λ (b : Bool). (is_short f && list_all is_plain f) && b) (clean-parts fs)
    ∙ exchange (is_short f) (list_all is_plain f) (list_all is_short fs) (list_all is_plain (flat_map (λ f. f) fs))
    ∙ ap (λ (b : Bool). (is_short f && list_all is_short fs) && b) (sym (list_all-append is_plain f (flat_map (λ f. f) fs)))

-- a record whose fields lie in a list, and whose bytes lie in another
pub record-clean : (from : List (List ℕ)) (items slice : List (Bor (List ℕ))) (bytes : List ℕ) (short plain : Bool)
    → map (λ f. f.now) items ≡ from → slice ≡ items → bytes ≡ flat_map (λ f. f) from
    → short ≡ list_all (λ f. is_short f.now) slice → plain ≡ list_all is_plain bytes → list_all is_clean from ≡ (short && plain)
record-clean from items slice bytes short plain filled same all is_short_is is_plain_is =
    let fields : list_all is_short from ≡ short = ap (list_all is_short) (sym filled) ∙ list_all-map is_short (λ f. f.now) items ∙ ap (list_all (λ f. is_short f.now)) (sym same) ∙ sym is_short_is in
    let walked : list_all is_plain (flat_map (λ f. f) from) ≡ plain = ap (list_all is_plain) (sym all) ∙ sym is_plain_is in
    clean-parts from ∙ ap (λ (b : Bool). b && list_all is_plain (flat_map (λ f. f) from)) fields ∙ ap (λ (b : Bool). short && b) walked

-- one field that is too long
pub record-long : (from : List (List ℕ)) (items slice : List (Bor (List ℕ))) → map (λ f. f.now) items ≡ from → slice ≡ items → false ≡ list_all (λ f. is_short f.now) slice → list_all is_clean from ≡ false
record-long from items slice filled same long = record-clean from items slice (flat_map (λ f. f) from) false (list_all is_plain (flat_map (λ f. f) from)) filled same refl long refl
