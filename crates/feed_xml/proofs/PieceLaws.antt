-- What a reader of one token says of the bytes.
use Rattle.std.proofs.Common.{◌≡◌, ℕ, ◌<◌, true, List, [], ◌∷◌, ◌++◌, length, map, Option, Some, None, Ok, Err, refl, sym, ap, ◌∙◌, append-nil, length-append, arith}
use Rattle.std.specs.List.{list_all, flat_map}
use Rattle.std.proofs.lemmas.Bool.{and_parts}
use Rattle.std.proofs.lemmas.List.Concat.{flat_map-cons}
use Rattle.feed_xml.specs.declared.stop.Stop.{Stop}
use Rattle.feed_xml.specs.declared.stop.Stop.TheVariants.{More, Never}
use Rattle.feed_xml.specs.Grammar.{is_plain, is_unbracketed, Token, raw, reference, opening, bracket, cdata, comment, instruction, declaration, doctype, start, empty, end, spelling, is_token}
use Rattle.feed_xml.specs.Reading.{outside_at, section_at, token_at}
use Rattle.feed_xml.specs.Sections.{AreIn}
use Rattle.feed_xml.specs.Pieces.{Begins, Explains}
use Rattle.feed_xml.proofs.StepLaws.{never_stays}
use Rattle.feed_xml.proofs.TokenLaws.{token_takes, token_again, token_stays}

-- each token has a byte at least
pub spelling_filled : (token : Token) → 0 < length (spelling token)
spelling_filled (raw b) = omega arith
spelling_filled (reference body) = omega arith
spelling_filled opening = omega arith
spelling_filled (bracket n) = omega arith
spelling_filled (cdata n b) = omega arith
spelling_filled (comment body) = omega arith
spelling_filled (instruction body) = omega arith
spelling_filled (declaration body) = omega arith
spelling_filled (doctype body) = omega arith
spelling_filled (start name attributes space) = omega arith
spelling_filled (empty name attributes space) = omega arith
spelling_filled (end name space) = omega arith

token_begins : (section : Option ℕ) (bytes rest : List ℕ) (token : Token) → token_at section bytes ≡ Ok (token, rest) → Begins section bytes (token ∷ []) rest
token_begins section bytes rest token e =
    let t = token_takes section bytes (token, rest) e in
    record {
      spelled = t.0 ∙ ap (λ (l : List ℕ). l ++ rest) (sym (append-nil (spelling token)) ∙ sym (flat_map-cons spelling token []));
      each = rw t.1 refl;
      within = (t.2, tt);
      some = omega (arith, ap length t.0, length-append (spelling token) rest, spelling_filled token);
    }

pub outside_begins : (bytes rest : List ℕ) (token : Token) → outside_at bytes ≡ Ok (token, rest) → Begins None bytes (token ∷ []) rest
unfolding token_at
outside_begins bytes rest token e = token_begins None bytes rest token e

pub section_begins : (n : ℕ) (bytes rest : List ℕ) (token : Token) → section_at n bytes ≡ Ok (token, rest) → Begins (Some n) bytes (token ∷ []) rest
unfolding token_at
section_begins n bytes rest token e = token_begins (Some n) bytes rest token e

-- ---- stretches

pub raws : (run : List ℕ) → flat_map spelling (map raw run) ≡ run
raws [] = refl
raws (b ∷ run) = flat_map-cons spelling (raw b) (map raw run) ∙ ap (λ (l : List ℕ). b ∷ l) (raws run)

plain_tokens : (run : List ℕ) → list_all is_plain run ≡ true → list_all is_token (map raw run) ≡ true
plain_tokens [] h = refl
plain_tokens (b ∷ run) h =
    let p = and_parts (is_plain b) (list_all is_plain run) h in
    rw (p.0, plain_tokens run p.1) refl

plain_within : (run : List ℕ) → AreIn None (map raw run)
plain_within [] = tt
plain_within (b ∷ run) = (refl, plain_within run)

pub text_begins : (bytes run rest : List ℕ) → bytes ≡ run ++ rest → list_all is_plain run ≡ true → length rest < length bytes → Begins None bytes (map raw run) rest
text_begins bytes run rest whole each some = record {
  spelled = whole ∙ ap (λ (l : List ℕ). l ++ rest) (sym (raws run));
  each = plain_tokens run each;
  within = plain_within run;
  some = some;
}

pub section_bytes : (run : List ℕ) → flat_map spelling (map (cdata 0) run) ≡ run
section_bytes [] = refl
section_bytes (b ∷ run) = flat_map-cons spelling (cdata 0 b) (map (cdata 0) run) ∙ ap (λ (l : List ℕ). b ∷ l) (section_bytes run)

section_tokens : (run : List ℕ) → list_all is_unbracketed run ≡ true → list_all is_token (map (cdata 0) run) ≡ true
section_tokens [] h = refl
section_tokens (b ∷ run) h =
    let p = and_parts (is_unbracketed b) (list_all is_unbracketed run) h in
    rw (p.0, section_tokens run p.1) refl

section_within : (run : List ℕ) → AreIn (Some 0) (map (cdata 0) run)
section_within [] = tt
section_within (b ∷ run) = (refl, section_within run)

-- in a section behind no closing bracket
pub stretch_begins : (n : ℕ) (bytes run rest : List ℕ) → n ≡ 0 → bytes ≡ run ++ rest → list_all is_unbracketed run ≡ true → length rest < length bytes → Begins (Some n) bytes (map (cdata 0) run) rest
stretch_begins n bytes run rest none whole each some = record {
  spelled = whole ∙ ap (λ (l : List ℕ). l ++ rest) (sym (section_bytes run));
  each = section_tokens run each;
  within = rw none (section_within run);
  some = some;
}

-- ---- where there is no token

fails : (section : Option ℕ) (e : Stop) (bytes : List ℕ) → token_at section bytes ≡ Err e → Explains section e bytes
fails section More bytes h = λ token rest is around spelled.
    let again : token_at section bytes ≡ Ok (token, rest) =
    ap (token_at section) spelled ∙ ap (λ (s : Option ℕ). token_at s (spelling token ++ rest)) (sym around) ∙ token_again token rest is in
    absurd cc
fails section Never bytes h = λ more token rest is around spelled.
    let again : token_at section (bytes ++ more) ≡ Ok (token, rest) =
    ap (token_at section) spelled ∙ ap (λ (s : Option ℕ). token_at s (spelling token ++ rest)) (sym around) ∙ token_again token rest is in
    let never : token_at section (bytes ++ more) ≡ Err Never = never_stays more (token_at section bytes) (token_at section (bytes ++ more)) (token_stays section bytes more) h in
    absurd cc

pub outside_fails : (e : Stop) (bytes : List ℕ) → outside_at bytes ≡ Err e → Explains None e bytes
unfolding token_at
outside_fails e bytes h = fails None e bytes h

pub section_fails : (n : ℕ) (e : Stop) (bytes : List ℕ) → section_at n bytes ≡ Err e → Explains (Some n) e bytes
unfolding token_at
section_fails n e bytes h = fails (Some n) e bytes h
