-- The texts of messages, and how large they are.
use Rattle.std.proofs.Common.{◌≡◌, ℕ, ◌+◌, List, [], ◌∷◌, ◌++◌, length, length-append, sym, ap, ◌∙◌, arith}
use Rattle.std.specs.Prelude.{◌&&◌, nat_le}
use Rattle.std.proofs.lemmas.Grind.{flat_map-append}
use Rattle.csv_records.specs.RecordTexts.{limit, records_text}
use Rattle.onix_records.specs.Grammar.{most_records}
use Rattle.feed_conversion.specs.Messages.{closing_record, fits, message, message_text}
use Rattle.feed_conversion.specs.private.Stages.{end_text, has_room}

pub text_append : (xs ys : List (List (List ℕ))) → records_text (xs ++ ys) ≡ records_text xs ++ records_text ys
unfolding records_text
text_append xs ys = flat_map-append _ xs ys

-- the text of one more record at the front
pub text_first : (first : List (List ℕ)) (records : List (List (List ℕ))) → records_text (first ∷ records) ≡ records_text (first ∷ []) ++ records_text records
text_first first records = text_append (first ∷ []) records

-- a part with its end is the message
pub closed : (first : List (List ℕ)) (records : List (List (List ℕ))) → records_text (first ∷ records) ++ end_text (1 + length records) ≡ message_text first records
closed first records = sym (text_append (first ∷ records) (closing_record (1 + length records) ∷ []))

-- more records at the end
pub grown : (first : List (List ℕ)) (begun records : List (List (List ℕ))) → records_text (first ∷ (begun ++ records)) ≡ records_text (first ∷ begun) ++ records_text records
grown first begun records = text_append (first ∷ begun) records

counted : (begun records : List (List (List ℕ))) → 1 + length (begun ++ records) ≡ 1 + length begun + length records
counted begun records = omega (arith, length-append begun records)

size_is : (first : List (List ℕ)) (begun records : List (List (List ℕ)))
    → length (message_text first (begun ++ records))
    ≡ length (records_text (first ∷ begun)) + length (records_text records) + length (end_text (1 + length begun + length records))
size_is first begun records =
    ap length (sym (closed first (begun ++ records)) ∙ ap (λ (t : List ℕ). t ++ end_text (1 + length (begun ++ records))) (grown first begun records))
    ∙ length-append (records_text (first ∷ begun) ++ records_text records) (end_text (1 + length (begun ++ records)))
    ∙ ap (λ (k : ℕ). k + length (end_text (1 + length (begun ++ records)))) (length-append (records_text (first ∷ begun)) (records_text records))
    ∙ ap (λ (k : ℕ). length (records_text (first ∷ begun)) + length (records_text records) + length (end_text k)) (counted begun records)

count_is : (first : List (List ℕ)) (begun records : List (List (List ℕ))) → length (message first (begun ++ records)) ≡ 1 + length begun + length records + 1
count_is first begun records =
    omega (arith, length-append begun records, length-append (begun ++ records) (closing_record (1 + length (begun ++ records)) ∷ []))

-- a part has room for records exactly where it is a message within bounds with them
pub room : (first : List (List ℕ)) (begun records : List (List (List ℕ)))
    → has_room (1 + length begun) (length (records_text (first ∷ begun))) (length records) (length (records_text records)) ≡ fits first (begun ++ records)
unfolding fits has_room
room first begun records =
    ap (λ (k : ℕ). nat_le k most_records && nat_le (length (records_text (first ∷ begun)) + length (records_text records) + length (end_text (1 + length begun + length records))) limit)
    (sym (count_is first begun records))
    ∙ ap (λ (k : ℕ). nat_le (length (message first (begun ++ records))) most_records && nat_le k limit) (sym (size_is first begun records))
