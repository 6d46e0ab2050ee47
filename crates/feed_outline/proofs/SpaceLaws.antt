-- Words that are pushed one after the other are the words of the text.
use Rattle.std.proofs.Common.{◌≡◌, ◌∙◌, ℕ, Bool, true, false, List, [], ◌∷◌, ◌++◌, drop, refl, sym, ap}
use Rattle.std.specs.List.{filter, flat_map, slice_split}
use Rattle.std.proofs.lemmas.List.Concat.{flat_map-cons}
use Rattle.feed_xml.specs.Grammar.{is_filled, is_space}
use Rattle.feed_outline.specs.Spaces.{collapsed}
use Rattle.feed_outline.specs.private.Growing.{words}

abbrev behind_space : List ℕ → List ℕ
behind_space word = 32 ∷ word

abbrev spaced : List (List ℕ) → List ℕ
spaced parts = flat_map behind_space (filter is_filled parts)

first_of : List (List ℕ) → List ℕ
first_of [] = []
first_of (part ∷ parts) = part

others_of : List (List ℕ) → List (List ℕ)
others_of [] = []
others_of (part ∷ parts) = parts

record Told (text : List ℕ) : Type 0 where
  apart : words true true text ≡ spaced (slice_split is_space text)
  within : words true false text ≡ first_of (slice_split is_space text) ++ spaced (others_of (slice_split is_space text))
  front : (waits : Bool) → words false waits text ≡ drop 1 (spaced (slice_split is_space text))

told : (text : List ℕ) → Told text
unfolding first_of others_of
told [] = record { apart = refl; within = refl; front = λ waits. refl }
told (b ∷ text) = go (is_space b) refl (told text) (slice_split is_space text) refl
  where
    go : (s : Bool) → is_space b ≡ s → Told text → (parts : List (List ℕ)) → slice_split is_space text ≡ parts → Told (b ∷ text)
    go true is t parts split = record {
      apart = rw is t.apart;
      within = rw is t.apart;
      front = λ waits. rw is (t.front true);
    }
    go false is t [] split =
        let rest : words true false text ≡ [] = t.within ∙ ap (λ l. first_of l ++ spaced (others_of l)) split in
        record {
          apart = rw (is, split, rest) refl;
          within = rw (is, split, rest) refl;
          front = λ waits. rw (is, split, rest) refl;
        }
    go false is t (part ∷ parts) split =
        let rest : words true false text ≡ part ++ spaced parts = t.within ∙ ap (λ l. first_of l ++ spaced (others_of l)) split in
        let all : spaced ((b ∷ part) ∷ parts) ≡ 32 ∷ b ∷ (part ++ spaced parts) = flat_map-cons behind_space (b ∷ part) (filter is_filled parts) in
        record {
          apart = rw (is, split, rest) (sym all);
          within = rw (is, split, rest) refl;
          front = λ waits. rw (is, split, rest) (sym (ap (drop 1) all));
        }

pub collapsed_is : (text : List ℕ) → words false false text ≡ collapsed text
unfolding collapsed
collapsed_is text = (told text).front false
