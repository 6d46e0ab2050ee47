-- What is kept of a message until the whole FILE was read.
use Rattle.std.proofs.Common.{◌≡◌, ◌≤◌, ◌+◌, ◌++◌, ℕ, List, [], ◌∷◌, Some, true, refl, sym, ap, ◌∙◌, arith, length, length-append, append-nil, append_assoc}
use Rattle.std.specs.Prelude.{nat_le}
use Rattle.std.specs.List.{concat, fold}
use Rattle.std.proofs.lemmas.Bool.Decides.{nat_tests}
use Rattle.csv_records.specs.RecordTexts.{limit}
use Rattle.program_files.specs.Texts.{with_text}
use Rattle.feed_files.specs.Ends.{AreTold}

told_one : (before t : List ℕ) → length before + length t ≤ limit → with_text (Some before) t ≡ Some (before ++ t)
told_one before t fits =
    let is : nat_le (length before + length t) limit ≡ true = grind (arith, nat_tests) in
    rw is refl

-- texts that are together no longer than the largest message are all told
all_in_memory : (texts : List (List ℕ)) (before : List ℕ) → length before + length (concat texts) ≤ limit
    → fold with_text (Some before) texts ≡ Some (before ++ concat texts)
all_in_memory [] before fits = sym (ap Some (append-nil before))
all_in_memory (t ∷ ts) before fits =
    let whole = length-append t (concat ts) in
    let longer = length-append before t in
    let small : length before + length t ≤ limit = omega (arith, fits, whole) in
    let rest : length (before ++ t) + length (concat ts) ≤ limit = omega (arith, fits, whole, longer) in
    ap (λ b. fold with_text b ts) (told_one before t small) ∙ all_in_memory ts (before ++ t) rest ∙ ap Some (append_assoc before t (concat ts))

pub all_told : (texts : List (List ℕ)) → AreTold texts → fold with_text (Some []) texts ≡ Some (concat texts)
all_told texts fits = let small : length {A = ℕ} [] + length (concat texts) ≤ limit = omega (arith, fits) in all_in_memory texts [] small
