-- Texts of parts that are kept and written.
use Rattle.std.proofs.Common.{◌≡◌, ◌+◌, ◌++◌, ◌∙◌, ℕ, List, Option, Some, None, Bool, true, false, Result, Ok, Err, refl, sym, ap, subst, append_assoc, length}
use Rattle.std.specs.Prelude.{◌&&◌, IsErr, OnOk, is_some, nat_le, not}
use Rattle.std.specs.Io.KnownBytes.{Consumes}
use Rattle.csv_records.specs.RecordTexts.{limit}
use Rattle.program_files.specs.Texts.{IsWritten, told_texts, with_text}

-- a text that has room in memory is kept there
pub kept_in_memory : {F : Type 0} (first after : List ℕ) (rest : Option F) (more : List ℕ) (has : Bool)
    → has ≡ (not (is_some rest) && nat_le (length first + length more) limit) → has ≡ true → after ≡ first ++ more
    → told_texts after rest ≡ with_text (told_texts first rest) more
kept_in_memory first after (Some file) more has is room longer = let none : false ≡ true = sym is ∙ room in absurd cc
kept_in_memory first after None more has is room longer =
    let fits : nat_le (length first + length more) limit ≡ true = sym is ∙ room in rw fits (ap Some longer)

-- a text that has none is kept in a file
pub kept_in_file : {F : Type 0} (first : List ℕ) (rest left : Option F) (more : List ℕ) (has : Bool)
    → has ≡ (not (is_some rest) && nat_le (length first + length more) limit) → has ≡ false → is_some left ≡ true
    → told_texts first left ≡ with_text (told_texts first rest) more
kept_in_file first rest None more has is full some = absurd cc
kept_in_file first None (Some file) more has is full some =
    let large : nat_le (length first + length more) limit ≡ false = sym is ∙ full in rw large refl
kept_in_file first (Some was) (Some file) more has is full some = refl

-- what follows with `Ok`
pub on_ok : {A E P Q : Type 0} (r : Result A E) → (P → Q) → OnOk r P → OnOk r Q
on_ok (Ok v) f is = f is
on_ok (Err e) f is = tt

-- a first part was written, and of the next one a part
pub copied_part : {E : Type 0} (old mid new : Option (List ℕ)) (written chunk part : List ℕ) (e : E) → Consumes old mid written → Consumes mid new chunk
    → IsWritten {E = E} (Some chunk) (Err e) part → IsWritten {E = E} old (Err e) (written ++ part)
copied_part None mid new written chunk part e so_far read front = tt
copied_part (Some all) (Some rest) (Some last) written chunk part e so_far read front = (
  front.0 ++ last,
  append_assoc written part (front.0 ++ last)
      ∙ ap (λ r. written ++ r) (sym (append_assoc part front.0 last) ∙ ap (λ c. c ++ last) front.1 ∙ sym read) ∙ sym so_far,
)
copied_part (Some all) (Some rest) None written chunk part e so_far read front = absurd read
copied_part (Some all) None new written chunk part e so_far read front = absurd so_far

-- what is so with each error
pub with_error : {E : Type 0} (old : Option (List ℕ)) (r : Result (Unit {0}) E) (written : List ℕ) → IsErr r
    → ((e : E) → IsWritten {E = E} old (Err e) written) → IsWritten old r written
with_error old (Ok u) written is each = let none : false ≡ true = is in absurd cc
with_error old (Err e) written is each = each e
