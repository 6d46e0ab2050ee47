use Rattle.std.proofs.Common.{◌≡◌, ◌<◌, ◌-◌, ◌∙◌, ℕ, List, [], ◌∷◌, Option, Some, length, take, drop, map, refl, ap, subst, arith}
use Rattle.std.specs.Prelude.{Vec, option_map}
use Rattle.std.specs.declared.alloc.Global.{Global}
use Rattle.std.proofs.lemmas.List.{length-drop, take_all}
use Rattle.onix_terms.specs.Territory.{words_of}
use Rattle.feed_mapping.specs.Regions.{IsRenamed, countries_written, country_code}
use Rattle.feed_mapping.proofs.WordLaws.{spaced-joined}
use Rattle.feed_mapping.proofs.regions.countries_written.Goals as goal

behind-is : (text codes : List ℕ) → IsRenamed (Some codes) text → drop 1 codes ≡ countries_written text
behind-is text codes (named, is) = rw named (ap (drop 1) is ∙ spaced-joined (map country_code (words_of text)))

told : (renamed : Option (Vec ℕ Global)) (codes : Vec ℕ Global) (text : List ℕ) → renamed ≡ Some codes → IsRenamed (option_map (λ (v : Vec ℕ Global). v.items) renamed) text
    → drop 1 codes.items ≡ countries_written text
told renamed codes text some is = behind-is text codes.items (subst (λ (r : Option (Vec ℕ Global)). IsRenamed (option_map (λ (v : Vec ℕ Global). v.items) r) text) some is)

nothing-behind : (s : List ℕ) → length s < 1 → [] ≡ drop 1 s
nothing-behind [] short = refl
nothing-behind (b ∷ s) short = absurd (omega (arith, short))

all-behind : (s : List ℕ) → take (length s - 1) (drop 1 s) ≡ drop 1 s
all-behind s = take_all (length s - 1) (drop 1 s) (omega (arith, length-drop 1 s))

pub returns-in-empty : goal.returns-in-empty
returns-in-empty c is =
    nothing-behind c.as_slice.result.now c.in-empty.len_below ∙ ap (drop 1) c.as_slice.ensures.value ∙ told c.args.renamed.now c.in-Some.codes c.args.text.now c.in-Some.is is

pub returns-in-len1-up : goal.returns-in-len1-up
returns-in-len1-up c is =
    all-behind c.as_slice.result.now ∙ ap (drop 1) c.as_slice.ensures.value ∙ told c.args.renamed.now c.in-Some.codes c.args.text.now c.in-Some.is is
