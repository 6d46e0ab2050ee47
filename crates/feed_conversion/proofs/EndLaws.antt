-- The text of the record that ends a message is short.
use Rattle.std.proofs.Common.{◌≡◌, ◌<◌, ◌≤◌, ℕ, ◌+◌, ◌*◌, Bool, true, false, ◌==◌, List, [], ◌∷◌, ◌++◌, length, length-append, refl, arith}
use Rattle.std.specs.Prelude.{codes, decimal}
use Rattle.std.proofs.lemmas.Fmt.{length-decimal-le}
use Rattle.csv.specs.Writing.{by_style, default_writer, escaped, field_text, fields_text, is_blank, needs_quotes, quoted}
use Rattle.csv.specs.declared.writer.WriterBuilder.{WriterBuilder}
use Rattle.csv_records.specs.RecordTexts.{records_text}
use Rattle.feed_conversion.specs.private.Stages.{end_text}

-- with each quote doubled a field has at most twice its bytes
escaped_within : (cfg : WriterBuilder) (field : List ℕ) → length (escaped cfg field) ≤ 2 * length field
unfolding escaped
escaped_within cfg [] = omega arith
escaped_within cfg (b ∷ rest) = go (b == cfg.quote) refl (escaped_within cfg rest)
  where
    go : (is : Bool) → (b == cfg.quote) ≡ is → length (escaped cfg rest) ≤ 2 * length rest → length (escaped cfg (b ∷ rest)) ≤ 2 * length (b ∷ rest)
    go true e more = rw e (omega arith)
    go false e more = rw e (omega arith)

-- and two more where it stands between quotes
field_within : (cfg : WriterBuilder) (field : List ℕ) → length (field_text cfg field) ≤ 2 * length field + 2
field_within cfg field = go (by_style cfg.style (needs_quotes cfg field)) refl
  where
    within : length (quoted cfg field) ≤ 2 * length field + 2
    within = omega (arith, escaped_within cfg field, length-append (escaped cfg field) (cfg.quote ∷ []))

    go : (needs : Bool) → by_style cfg.style (needs_quotes cfg field) ≡ needs → length (field_text cfg field) ≤ 2 * length field + 2
    go true e = rw e within
    go false e = rw e (omega arith)

-- a record of two fields has a comma between them, and a line feed behind them
lengths : (f g : List ℕ) → length (((f ++ (44 ∷ (g ++ []))) ++ (10 ∷ [])) ++ []) ≡ length f + length g + 2
lengths f g = simp length-append (omega arith)

two_within : (a b : List ℕ) → length (records_text ((a ∷ b ∷ []) ∷ [])) ≤ 2 * length a + 2 * length b + 6
unfolding records_text is_blank fields_text
two_within a b =
    let is : length (records_text ((a ∷ b ∷ []) ∷ [])) ≡ length (field_text default_writer a) + length (field_text default_writer b) + 2 = lengths _ _ in
    omega (arith, field_within default_writer a, field_within default_writer b)

-- the record that ends a message, behind fewer than 20,000
pub end_within : (n : ℕ) → n < 20000 → length (end_text n) ≤ 36
end_within n lt =
    omega (arith, two_within (codes "EndMessage") (decimal n), length-decimal-le 5 n (omega arith) (omega arith) (omega arith))
