-- A run over FILEs, one after the other.
use Rattle.std.proofs.Common.{◌≡◌, ◌≢◌, ◌<◌, ◌++◌, ◌∷◌, ◌∙◌, ℕ, zero, suc, List, [], Option, refl, sym, ap, subst, arith, append-nil, append_assoc, length, map, drop}
use Rattle.std.specs.Borrow.{Bor}
use Rattle.std.specs.Prelude.{codes, max, slice_index_or, true}
use Rattle.std.specs.List.{concat}
use Rattle.std.proofs.lemmas.List.{map-append}
use Rattle.std.proofs.lemmas.List.Folds.{concat-append}
use Rattle.std.proofs.lemmas.List.Sums.{fold-append}
use Rattle.program_files.specs.Holdings.{Holdings}
use Rattle.program_files.specs.Names.{is_packed}
use Rattle.feed_files.specs.Ends.{Asking, FileEnd, IsEnd, StaysPacked, status_of}
use Rattle.feed_files.specs.Runs.{AreEnds, outputs, status_of_all}

-- the names from one on
pub names_from : (files : List (Bor (List ℕ))) (i : ℕ) (other : Bor (List ℕ)) → i < length files
    → drop i (map (λ (f : Bor (List ℕ)). f.now) files) ≡ (slice_index_or files i other).now ∷ drop (suc i) (map (λ (f : Bor (List ℕ)). f.now) files)
names_from [] i other within = absurd (omega arith)
names_from (x ∷ xs) zero other within = refl
names_from (x ∷ xs) (suc i) other within = names_from xs i other (omega (arith, within))

-- no name is left behind the last
pub none_left : (names : List (List ℕ)) → drop (length names) names ≡ []
none_left [] = refl
none_left (n ∷ ns) = none_left ns

pub outputs_more : (ends : List FileEnd) (e : FileEnd) → outputs (ends ++ e ∷ []) ≡ outputs ends ++ e.output
outputs_more ends e =
    ap concat (map-append (λ (f : FileEnd). f.output) ends (e ∷ []))
    ∙ concat-append (map (λ (f : FileEnd). f.output) ends) (e.output ∷ [])
    ∙ ap (λ o. outputs ends ++ o) (append-nil e.output)

pub status_more : (ends : List FileEnd) (e : FileEnd) → status_of_all (ends ++ e ∷ []) ≡ max (status_of_all ends) (status_of e.ended)
status_more ends e = fold-append (λ status (f : FileEnd). max status (status_of f.ended)) 0 ends (e ∷ [])

-- what ends come to behind others
abbrev pub Continues : Asking → Option (List ℕ) → Holdings → List (List ℕ) → Option (List ℕ) → Holdings → List (List ℕ) → List FileEnd → Type 0
Continues a told before names left mid rest ends =
    (more : List FileEnd) (after : Holdings) → AreEnds a left mid after rest more → AreEnds a told before after names (ends ++ more)

-- one FILE more
pub continues_more : (a : Asking) (told : Option (List ℕ)) (before : Holdings) (names : List (List ℕ)) (left : Option (List ℕ)) (mid : Holdings) (rest : List (List ℕ))
    (ends : List FileEnd) (name : List ℕ) (others : List (List ℕ)) (bytes still : Option (List ℕ)) (e : FileEnd)
    → Continues a told before names left mid rest ends → rest ≡ name ∷ others
    → (name ≡ codes "-" → bytes ≡ left) → (name ≢ codes "-" → (still ≡ left) × (bytes ≡ mid name)) → (is_packed name ≡ true → StaysPacked e.ended) → e.before ≡ mid → IsEnd a name bytes e
    → Continues a told before names still e.after others (ends ++ e ∷ [])
continues_more a told before names left mid rest ends name others bytes still e so_far is input other packed was ended more after are =
    let one : AreEnds a left mid after (name ∷ others) (e ∷ more) = (bytes, still, input, other, packed, was, ended, are) in
    subst (AreEnds a told before after names) (sym (append_assoc ends (e ∷ []) more))
    (so_far (e ∷ more) after (subst (λ r. AreEnds a left mid after r (e ∷ more)) (sym is) one))

-- behind the last FILE all have ended
pub all_ended : (a : Asking) (told : Option (List ℕ)) (before : Holdings) (names : List (List ℕ)) (left : Option (List ℕ)) (after : Holdings) (i : ℕ) (ends : List FileEnd) → i ≡ length names
    → Continues a told before names left after (drop i names) ends → AreEnds a told before after names ends
all_ended a told before names left after i ends at_end so_far =
    let none : drop i names ≡ [] = ap (λ k. drop k names) at_end ∙ none_left names in
    subst (AreEnds a told before after names) (append-nil ends) (so_far [] after (subst (λ rest. AreEnds a left after after rest []) (sym none) refl))
