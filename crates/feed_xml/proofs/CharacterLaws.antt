-- The characters of a name, as a loop reads them.
use Rattle.std.proofs.Common.{◌≡◌, ℕ, zero, suc, ◌+◌, ◌-◌, ◌*◌, ◌<◌, ◌≤◌, Bool, true, false, List, [], ◌∷◌, length, take, drop, get_or, refl, sym, ap, ◌∙◌, arith}
use Rattle.std.proofs.lemmas.Bool.{agree_below_at, and_from, and_parts, ltb-true}
use Rattle.std.proofs.lemmas.List.{take_all}
use Rattle.std.specs.Prelude.{◌&&◌}
use Rattle.std.specs.List.{list_all}
use Rattle.std.specs.Str.{chars, chars_after, continuation_len, lead_bits}
use Rattle.feed_xml.specs.Characters.{starts_name_char, is_name_char, are_of_name}
use Rattle.feed_xml.specs.Grammar.{begins_name, is_name_byte, starts_name}
use Rattle.feed_xml.specs.private.NameCharacters.{are_left, are_named, is_ascii, passes}

others_are : (cs : List ℕ) → are_left false cs ≡ list_all is_name_char cs
others_are [] = refl
others_are (c ∷ cs) = ap (λ (b : Bool). is_name_char c && b) (others_are cs)

first_is : (cs : List ℕ) → are_left true cs ≡ are_of_name cs
first_is [] = refl
first_is (c ∷ cs) = ap (λ (b : Bool). starts_name_char c && b) (others_are cs)

pub named_is : (bytes : List ℕ) → are_named bytes ≡ are_of_name (chars bytes)
unfolding chars
named_is [] = refl
named_is (b ∷ bytes) = first_is (chars_after (continuation_len b) (lead_bits b) bytes)

-- the next byte of a character that has begun
pub one_more : (left value bits : ℕ) (bytes : List ℕ) → 0 < left → 1 ≤ length bytes → bits ≡ get_or bytes 0 0 - 128
    → chars_after (left - 1) (value * 64 + bits) (take (length bytes - 1) (drop 1 bytes)) ≡ chars_after left value bytes
one_more zero value bits bytes some long is = absurd (omega (arith, some))
one_more (suc n) value bits [] some long is = absurd (omega (arith, long))
one_more (suc n) value bits (b ∷ bytes) some long is =
    let tail : take (length (b ∷ bytes) - 1) bytes ≡ bytes = take_all (length (b ∷ bytes) - 1) bytes (omega arith) in
    let less : suc n - 1 ≡ n = omega arith in
    rw (is, tail, less) refl

-- ---- names of ASCII

ascii_left : (first : Bool) (value : ℕ) (bytes : List ℕ) → passes first value ≡ true → list_all is_ascii bytes ≡ true → list_all is_name_byte bytes ≡ true → are_left first (chars_after 0 value bytes) ≡ true
ascii_left first value [] p small names = and_from (passes first value) true p refl
ascii_left first value (b ∷ bytes) p small names =
    let one : is_ascii b ≡ true = (and_parts (is_ascii b) (list_all is_ascii bytes) small).0 in
    let rest = and_parts (is_name_byte b) (list_all is_name_byte bytes) names in
    let char : is_name_char b ≡ true = sym (agree_below_at is_name_byte is_name_char 128 b refl (ltb-true b 128 one)) ∙ rest.0 in
    rw one (and_from (passes first value) (are_left false (chars_after 0 b bytes)) p (ascii_left false b bytes char (and_parts (is_ascii b) (list_all is_ascii bytes) small).1 rest.1))

pub ascii_name : (bytes : List ℕ) → list_all is_ascii bytes ≡ true → begins_name bytes ≡ true → list_all is_name_byte bytes ≡ true → are_of_name (chars bytes) ≡ true
ascii_name [] small begins names = absurd cc
ascii_name (b ∷ bytes) small begins names =
    let one : is_ascii b ≡ true = (and_parts (is_ascii b) (list_all is_ascii bytes) small).0 in
    let char : starts_name_char b ≡ true = sym (agree_below_at starts_name starts_name_char 128 b refl (ltb-true b 128 one)) ∙ begins in
    let named : are_named (b ∷ bytes) ≡ true =
    rw one (ascii_left true b bytes char (and_parts (is_ascii b) (list_all is_ascii bytes) small).1 (and_parts (is_name_byte b) (list_all is_name_byte bytes) names).1) in
    sym (named_is (b ∷ bytes)) ∙ named
