-- What comes of a desk, of which a first part is written.
use Rattle.std.proofs.Common.{◌≡◌, ◌++◌, ◌∙◌, ℕ, Bool, List, [], Option, None, Some, Ok, ap, append_assoc, length, subst, sym}
use Rattle.std.specs.Io.KnownBytes.{Consumes}
use Rattle.csv_records.specs.Streams.{IsTold}
use Rattle.desk_texts.specs.Requests.{HasRecords, requests_of}
use Rattle.program_commands.specs.Sending.{SendFits, TakesAnswers, WritesCame}

-- what was taken begins what comes
came_of : (was now : Option (List ℕ)) (bytes : List ℕ) → Consumes was now bytes → (rest : List ℕ) × IsTold was (bytes ++ rest)
came_of None now bytes took = ([], tt)
came_of (Some xs) None bytes took = absurd took
came_of (Some xs) (Some ys) bytes took = (ys, took)

-- all of it is written
pub wrote_came : (was now : Option (List ℕ)) (written : List ℕ → Type 0) (bytes : List ℕ) → Consumes was now bytes → written bytes → WritesCame was written
wrote_came was now written bytes took wrote = let came = came_of was now bytes took in (bytes, came.0, came.1, wrote)

told_part : (was : Option (List ℕ)) (bytes part rest chunk ys : List ℕ) → part ++ rest ≡ chunk → IsTold was ((bytes ++ chunk) ++ ys) → IsTold was ((bytes ++ part) ++ (rest ++ ys))
told_part None bytes part rest chunk ys is told = tt
told_part (Some xs) bytes part rest chunk ys is told =
    told
    ∙ ap (λ c. (bytes ++ c) ++ ys) (sym is)
    ∙ append_assoc bytes (part ++ rest) ys
    ∙ ap (λ t. bytes ++ t) (append_assoc part rest ys)
    ∙ sym (append_assoc bytes part (rest ++ ys))

-- a first part of the last piece of it is written
pub wrote_part : (was now : Option (List ℕ)) (written : List ℕ → Type 0) (bytes chunk part rest : List ℕ) → Consumes was now (bytes ++ chunk) → part ++ rest ≡ chunk → written (bytes ++ part) → WritesCame was written
wrote_part was now written bytes chunk part rest took is wrote =
    let came = came_of was now (bytes ++ chunk) took in (bytes ++ part, rest ++ came.0, told_part was bytes part rest chunk came.0 is came.1, wrote)

-- ---- the answers to the batch of a text

-- all of them came
pub sent_whole : (F : Type 0) (text : List ℕ) (asked : ℕ) (sent : Option (List ℕ) → Type 0) (unsent : Type 0) (came : Option (List ℕ)) (written : List ℕ → Type 0) (refused : Bool) → HasRecords text → asked ≡ length (requests_of text) → sent came
    → TakesAnswers asked came written (Ok refused) → SendFits {F = F} text sent unsent written (Ok refused)
sent_whole F text asked sent unsent came written refused has is was takes = (has, came, was, subst (λ n. TakesAnswers n came written (Ok refused)) is takes)
