-- Bytes can be followed from character to character exactly where they are a text.
use Rattle.std.proofs.Common.{◌≡◌, ℕ, zero, suc, ◌+◌, ◌-◌, ◌*◌, ◌/◌, ◌%◌, ◌<◌, ◌≤◌, ◌⊎◌, inl, inr, Bool, true, false, cond, List, [], ◌∷◌, ◌++◌, length, Option, Some, None, refl, sym, ap, ◌∙◌, length-append, arith}
use Rattle.std.specs.Prelude.{◌&&◌, ◌||◌, option_and_then}
use lib.Utf8.{encode}
use Rattle.std.specs.List.{list_all}
use Rattle.std.specs.Str.{encode_utf8_all}
use lib.Dec.{ltb, leb}
use Rattle.std.proofs.lemmas.Bool.Decides.{nat_tests}
use Rattle.std.proofs.lemmas.Bool.{and_parts, ltb-true, ltb-false, leb-true, leb-false, lt-ltb, le-ltb, le-leb, lt-leb}
use Rattle.std.proofs.lemmas.Str.{encode_ascii, length-encode, len_utf8_bounds}
use Rattle.feed_xml.specs.declared.texts.Part.{Part}
use Rattle.feed_xml.specs.declared.texts.Part.TheVariants.{Whole, One, Two, Three}
use Rattle.feed_xml.specs.Characters.{is_char}
use Rattle.feed_xml.specs.Texts.{IsText, next_part, follow}

pub follow-append : (p : Part) (xs ys : List ℕ) → follow p (xs ++ ys) ≡ option_and_then (λ q. follow q ys) (follow p xs)
follow-append p [] ys = refl
follow-append p (b ∷ xs) ys = go (λ q. follow-append q xs ys) (next_part p b)
  where
    go : ((q : Part) → follow q (xs ++ ys) ≡ option_and_then (λ r. follow r ys) (follow q xs)) → (o : Option Part)
        → option_and_then (λ q. follow q (xs ++ ys)) o ≡ option_and_then (λ q. follow q ys) (option_and_then (λ q. follow q xs) o)
    go each (Some q) = each q
    go each None = refl

-- ---- a character is followed to its end

or_false : (s t : Bool) → s ≡ false → t ≡ false → (s || t) ≡ false
or_false s t h k = rw (h, k) refl

-- a byte that goes on with a character
goes_on : (bits : ℕ) → bits < 64 → (ltb (128 + bits) 128 || leb 192 (128 + bits)) ≡ false
goes_on bits h = or_false (ltb (128 + bits) 128) (leb 192 (128 + bits)) (le-ltb (128 + bits) 128 (omega arith)) (lt-leb 192 (128 + bits) (omega arith))

last_byte : (value least bits : ℕ) (rest : List ℕ) → bits < 64 → least ≤ value * 64 + bits → is_char (value * 64 + bits) ≡ true
    → follow (One value least) ((128 + bits) ∷ rest) ≡ follow Whole rest
last_byte value least bits rest small enough char =
    let same : 128 + bits - 128 ≡ bits = omega arith in
    rw (goes_on bits small, same, le-leb least (value * 64 + bits) enough, char) refl

second_byte : (value least bits : ℕ) (rest : List ℕ) → bits < 64 → follow (Two value least) ((128 + bits) ∷ rest) ≡ follow (One (value * 64 + bits) least) rest
second_byte value least bits rest small =
    let same : 128 + bits - 128 ≡ bits = omega arith in
    rw (goes_on bits small, same) refl

third_byte : (value bits : ℕ) (rest : List ℕ) → bits < 64 → follow (Three value) ((128 + bits) ∷ rest) ≡ follow (Two (value * 64 + bits) 65536) rest
third_byte value bits rest small =
    let same : 128 + bits - 128 ≡ bits = omega arith in
    rw (goes_on bits small, same) refl

of_one : (c : ℕ) (rest : List ℕ) → c < 128 → is_char c ≡ true → follow Whole (c ∷ rest) ≡ follow Whole rest
of_one c rest small char = rw (lt-ltb c 128 small, char) refl

of_two : (c : ℕ) (rest : List ℕ) → 128 ≤ c → c < 2048 → is_char c ≡ true → follow Whole ((192 + c / 64) ∷ (128 + c % 64) ∷ rest) ≡ follow Whole rest
of_two c rest more less char =
    let lead = 192 + c / 64 in
    let same : lead - 192 ≡ c / 64 = omega arith in
    let first : follow Whole (lead ∷ (128 + c % 64) ∷ rest) ≡ follow (One (c / 64) 128) ((128 + c % 64) ∷ rest) =
    rw (le-ltb lead 128 (omega arith), le-ltb lead 192 (omega arith), lt-ltb lead 224 (omega arith), same) refl in
    let code : c / 64 * 64 + c % 64 ≡ c = omega arith in
    first ∙ last_byte (c / 64) 128 (c % 64) rest (omega arith) (omega (arith, code)) (ap is_char code ∙ char)

of_three : (c : ℕ) (rest : List ℕ) → 2048 ≤ c → c < 65536 → is_char c ≡ true → follow Whole ((224 + c / 4096) ∷ (128 + c / 64 % 64) ∷ (128 + c % 64) ∷ rest) ≡ follow Whole rest
of_three c rest more less char =
    let lead = 224 + c / 4096 in
    let same : lead - 224 ≡ c / 4096 = omega arith in
    let others = (128 + c / 64 % 64) ∷ (128 + c % 64) ∷ rest in
    let first : follow Whole (lead ∷ others) ≡ follow (Two (c / 4096) 2048) others =
    rw (le-ltb lead 128 (omega arith), le-ltb lead 192 (omega arith), le-ltb lead 224 (omega arith), lt-ltb lead 240 (omega arith), same) refl in
    let high : c / 4096 * 64 + c / 64 % 64 ≡ c / 64 = omega arith in
    let code : c / 64 * 64 + c % 64 ≡ c = omega arith in
    first ∙ second_byte (c / 4096) 2048 (c / 64 % 64) ((128 + c % 64) ∷ rest) (omega arith) ∙ ap (λ (v : ℕ). follow (One v 2048) ((128 + c % 64) ∷ rest)) high
    ∙ last_byte (c / 64) 2048 (c % 64) rest (omega arith) (omega (arith, code)) (ap is_char code ∙ char)

of_four : (c : ℕ) (rest : List ℕ) → 65536 ≤ c → c < 1114112 → is_char c ≡ true
    → follow Whole ((240 + c / 262144) ∷ (128 + c / 4096 % 64) ∷ (128 + c / 64 % 64) ∷ (128 + c % 64) ∷ rest) ≡ follow Whole rest
of_four c rest more less char =
    let lead = 240 + c / 262144 in
    let same : lead - 240 ≡ c / 262144 = omega arith in
    let others = (128 + c / 4096 % 64) ∷ (128 + c / 64 % 64) ∷ (128 + c % 64) ∷ rest in
    let first : follow Whole (lead ∷ others) ≡ follow (Three (c / 262144)) others =
    rw (le-ltb lead 128 (omega arith), le-ltb lead 192 (omega arith), le-ltb lead 224 (omega arith), le-ltb lead 240 (omega arith), lt-ltb lead 248 (omega arith), same) refl in
    let higher : c / 262144 * 64 + c / 4096 % 64 ≡ c / 4096 = omega arith in
    let high : c / 4096 * 64 + c / 64 % 64 ≡ c / 64 = omega arith in
    let code : c / 64 * 64 + c % 64 ≡ c = omega arith in
    first ∙ third_byte (c / 262144) (c / 4096 % 64) ((128 + c / 64 % 64) ∷ (128 + c % 64) ∷ rest) (omega arith)
    ∙ ap (λ (v : ℕ). follow (Two v 65536) ((128 + c / 64 % 64) ∷ (128 + c % 64) ∷ rest)) higher
    ∙ second_byte (c / 4096) 65536 (c / 64 % 64) ((128 + c % 64) ∷ rest) (omega arith) ∙ ap (λ (v : ℕ). follow (One v 65536) ((128 + c % 64) ∷ rest)) high
    ∙ last_byte (c / 64) 65536 (c % 64) rest (omega arith) (omega (arith, code)) (ap is_char code ∙ char)

-- a character of a document is no greater than the greatest
char_bound : (c : ℕ) → is_char c ≡ true → c < 1114112
char_bound c h = grind (arith, nat_tests)

char_follows : (c : ℕ) (rest : List ℕ) → is_char c ≡ true → follow Whole (encode c ++ rest) ≡ follow Whole rest
unfolding encode
char_follows c rest h = go (ltb c 128) (ltb c 2048) (ltb c 65536) refl refl refl
  where
    go : (one two three : Bool) → ltb c 128 ≡ one → ltb c 2048 ≡ two → ltb c 65536 ≡ three → follow Whole (encode c ++ rest) ≡ follow Whole rest
    go true two three e f g = rw e (of_one c rest (ltb-true c 128 e) h)
    go false true three e f g = rw (e, f) (of_two c rest (ltb-false c 128 e) (ltb-true c 2048 f) h)
    go false false true e f g = rw (e, f, g) (of_three c rest (ltb-false c 2048 f) (ltb-true c 65536 g) h)
    go false false false e f g = rw (e, f, g) (of_four c rest (ltb-false c 65536 g) (char_bound c h) h)

chars_follow : (cs : List ℕ) → list_all is_char cs ≡ true → follow Whole (encode_utf8_all cs) ≡ Some Whole
chars_follow [] h = refl
chars_follow (c ∷ cs) h =
    let parts = and_parts (is_char c) (list_all is_char cs) h in
    char_follows c (encode_utf8_all cs) parts.0 ∙ chars_follow cs parts.1

pub text_follows : (bytes : List ℕ) → IsText bytes → follow Whole bytes ≡ Some Whole
text_follows bytes t = ap (follow Whole) (sym t.2) ∙ chars_follow t.0 t.1

-- ---- and back

pick : (t : Bool) (x y : Option Part) (f : Part → Option Part) (q : Part) → option_and_then f (cond t x y) ≡ Some q
    → ((t ≡ true) × (option_and_then f x ≡ Some q)) ⊎ ((t ≡ false) × (option_and_then f y ≡ Some q))
pick true x y f q h = inl (refl, h)
pick false x y f q h = inr (refl, h)

-- where the test fails there is nothing
must : (t : Bool) (x : Option Part) (f : Part → Option Part) (q : Part) → option_and_then f (cond t x None) ≡ Some q → (t ≡ true) × (option_and_then f x ≡ Some q)
must true x f q h = (refl, h)
must false x f q h = absurd cc

must_not : (t : Bool) (x : Option Part) (f : Part → Option Part) (q : Part) → option_and_then f (cond t None x) ≡ Some q → (t ≡ false) × (option_and_then f x ≡ Some q)
must_not true x f q h = absurd cc
must_not false x f q h = (refl, h)

or_parts : (s t : Bool) → (s || t) ≡ false → (s ≡ false) × (t ≡ false)
or_parts false false h = (refl, refl)
or_parts false true h = absurd cc
or_parts true t h = absurd cc

is_within : (b : ℕ) → (ltb b 128 || leb 192 b) ≡ false → (128 ≤ b) × (b < 192)
is_within b h =
    let p = or_parts (ltb b 128) (leb 192 b) h in
    (ltb-false b 128 p.0, leb-false 192 b p.1)

record Last (value least : ℕ) (bytes : List ℕ) : Type 0 where
  byte : ℕ
  rest : List ℕ
  is : bytes ≡ byte ∷ rest
  above : 128 ≤ byte
  below : byte < 192
  enough : least ≤ value * 64 + (byte - 128)
  char : is_char (value * 64 + (byte - 128)) ≡ true
  further : follow Whole rest ≡ Some Whole

last_of : (value least : ℕ) (bytes : List ℕ) → follow (One value least) bytes ≡ Some Whole → Last value least bytes
last_of value least [] h = absurd cc
last_of value least (b ∷ bytes) h =
    let code = value * 64 + (b - 128) in
    let p = must_not (ltb b 128 || leb 192 b) (cond (leb least code && is_char code) (Some Whole) None) (λ next. follow next bytes) Whole h in
    let g = must (leb least code && is_char code) (Some Whole) (λ next. follow next bytes) Whole p.1 in
    let w = is_within b p.0 in
    let both = and_parts (leb least code) (is_char code) g.0 in
    record { byte = b; rest = bytes; is = refl; above = w.0; below = w.1; enough = leb-true least code both.0; char = both.1; further = g.1 }

record More (F : ℕ → Part) (value : ℕ) (bytes : List ℕ) : Type 0 where
  byte : ℕ
  rest : List ℕ
  is : bytes ≡ byte ∷ rest
  above : 128 ≤ byte
  below : byte < 192
  further : follow (F (value * 64 + (byte - 128))) rest ≡ Some Whole

abbrev one_left : ℕ → ℕ → Part
one_left least value = One value least

abbrev two_left : ℕ → Part
two_left value = Two value 65536

second_of : (value least : ℕ) (bytes : List ℕ) → follow (Two value least) bytes ≡ Some Whole → More (one_left least) value bytes
second_of value least [] h = absurd cc
second_of value least (b ∷ bytes) h =
    let p = must_not (ltb b 128 || leb 192 b) (Some (One (value * 64 + (b - 128)) least)) (λ next. follow next bytes) Whole h in
    let w = is_within b p.0 in
    record { byte = b; rest = bytes; is = refl; above = w.0; below = w.1; further = p.1 }

third_of : (value : ℕ) (bytes : List ℕ) → follow (Three value) bytes ≡ Some Whole → More two_left value bytes
third_of value [] h = absurd cc
third_of value (b ∷ bytes) h =
    let p = must_not (ltb b 128 || leb 192 b) (Some (Two (value * 64 + (b - 128)) 65536)) (λ next. follow next bytes) Whole h in
    let w = is_within b p.0 in
    record { byte = b; rest = bytes; is = refl; above = w.0; below = w.1; further = p.1 }

-- the character that the bytes begin with
record First (bytes : List ℕ) : Type 0 where
  code : ℕ
  rest : List ℕ
  spelled : bytes ≡ encode code ++ rest
  char : is_char code ≡ true
  further : follow Whole rest ≡ Some Whole

encoded_two : (b d c : ℕ) → 192 ≤ b → b < 224 → 128 ≤ d → d < 192 → c ≡ (b - 192) * 64 + (d - 128) → 128 ≤ c → encode c ≡ b ∷ d ∷ []
unfolding encode
encoded_two b d c b1 b2 d1 d2 is enough =
    let less : c < 2048 = omega (arith, is) in
    let first : 192 + c / 64 ≡ b = omega (arith, is) in
    let second : 128 + c % 64 ≡ d = omega (arith, is) in
    rw (le-ltb c 128 enough, lt-ltb c 2048 less, first, second) refl

encoded_three : (b d e c : ℕ) → 224 ≤ b → b < 240 → 128 ≤ d → d < 192 → 128 ≤ e → e < 192 → c ≡ ((b - 224) * 64 + (d - 128)) * 64 + (e - 128) → 2048 ≤ c → encode c ≡ b ∷ d ∷ e ∷ []
unfolding encode
encoded_three b d e c b1 b2 d1 d2 e1 e2 is enough =
    let less : c < 65536 = omega (arith, is) in
    let first : 224 + c / 4096 ≡ b = omega (arith, is) in
    let second : 128 + c / 64 % 64 ≡ d = omega (arith, is) in
    let third : 128 + c % 64 ≡ e = omega (arith, is) in
    rw (le-ltb c 128 (omega (arith, enough)), le-ltb c 2048 enough, lt-ltb c 65536 less, first, second, third) refl

encoded_four : (b d e g c : ℕ) → 240 ≤ b → b < 248 → 128 ≤ d → d < 192 → 128 ≤ e → e < 192 → 128 ≤ g → g < 192
    → c ≡ (((b - 240) * 64 + (d - 128)) * 64 + (e - 128)) * 64 + (g - 128) → 65536 ≤ c → encode c ≡ b ∷ d ∷ e ∷ g ∷ []
unfolding encode
encoded_four b d e g c b1 b2 d1 d2 e1 e2 g1 g2 is enough =
    let first : 240 + c / 262144 ≡ b = omega (arith, is) in
    let second : 128 + c / 4096 % 64 ≡ d = omega (arith, is) in
    let third : 128 + c / 64 % 64 ≡ e = omega (arith, is) in
    let fourth : 128 + c % 64 ≡ g = omega (arith, is) in
    rw (le-ltb c 128 (omega (arith, enough)), le-ltb c 2048 (omega (arith, enough)), le-ltb c 65536 enough, first, second, third, fourth) refl

two_bytes : (b : ℕ) (bytes : List ℕ) → 192 ≤ b → b < 224 → follow (One (b - 192) 128) bytes ≡ Some Whole → First (b ∷ bytes)
two_bytes b bytes more less h =
    let l = last_of (b - 192) 128 bytes h in
    let code = (b - 192) * 64 + (l.byte - 128) in
    record {
      code = code;
      rest = l.rest;
      spelled = ap (λ (k : List ℕ). b ∷ k) l.is ∙ ap (λ (k : List ℕ). k ++ l.rest) (sym (encoded_two b l.byte code more less l.above l.below refl l.enough));
      char = l.char;
      further = l.further;
    }

three_bytes : (b : ℕ) (bytes : List ℕ) → 224 ≤ b → b < 240 → follow (Two (b - 224) 2048) bytes ≡ Some Whole → First (b ∷ bytes)
three_bytes b bytes more less h =
    let m = second_of (b - 224) 2048 bytes h in
    let value = (b - 224) * 64 + (m.byte - 128) in
    let l = last_of value 2048 m.rest m.further in
    let code = value * 64 + (l.byte - 128) in
    record {
      code = code;
      rest = l.rest;
      spelled = ap (λ (k : List ℕ). b ∷ k) (m.is ∙ ap (λ (k : List ℕ). m.byte ∷ k) l.is) ∙ ap (λ (k : List ℕ). k ++ l.rest) (sym (encoded_three b m.byte l.byte code more less m.above m.below l.above l.below refl l.enough));
      char = l.char;
      further = l.further;
    }

four_bytes : (b : ℕ) (bytes : List ℕ) → 240 ≤ b → b < 248 → follow (Three (b - 240)) bytes ≡ Some Whole → First (b ∷ bytes)
four_bytes b bytes more less h =
    let n = third_of (b - 240) bytes h in
    let high = (b - 240) * 64 + (n.byte - 128) in
    let m = second_of high 65536 n.rest n.further in
    let value = high * 64 + (m.byte - 128) in
    let l = last_of value 65536 m.rest m.further in
    let code = value * 64 + (l.byte - 128) in
    record {
      code = code;
      rest = l.rest;
      spelled =
          ap (λ (k : List ℕ). b ∷ k) (n.is ∙ ap (λ (k : List ℕ). n.byte ∷ k) (m.is ∙ ap (λ (k : List ℕ). m.byte ∷ k) l.is))
          ∙ ap (λ (k : List ℕ). k ++ l.rest) (sym (encoded_four b n.byte m.byte l.byte code more less n.above n.below m.above m.below l.above l.below refl l.enough));
      char = l.char;
      further = l.further;
    }

abbrev from_240 : ℕ → Option Part
from_240 b = cond (ltb b 248) (Some (Three (b - 240))) None

abbrev from_224 : ℕ → Option Part
from_224 b = cond (ltb b 240) (Some (Two (b - 224) 2048)) (from_240 b)

abbrev from_192 : ℕ → Option Part
from_192 b = cond (ltb b 224) (Some (One (b - 192) 128)) (from_224 b)

first_of : (b : ℕ) (bytes : List ℕ) → follow Whole (b ∷ bytes) ≡ Some Whole → First (b ∷ bytes)
first_of b bytes h =
    let f = λ (next : Part). follow next bytes in
    elim (pick (ltb b 128) (cond (is_char b) (Some Whole) None) (cond (ltb b 192) None (from_192 b)) f Whole h) [
      | inl k ↦
          let g = must (is_char b) (Some Whole) f Whole k.1 in
          record { code = b; rest = bytes; spelled = ap (λ (l : List ℕ). l ++ bytes) (sym (encode_ascii b (ltb-true b 128 k.0))); char = g.0; further = g.1 }
      | inr k ↦
          let p = must_not (ltb b 192) (from_192 b) f Whole k.1 in
          elim (pick (ltb b 224) (Some (One (b - 192) 128)) (from_224 b) f Whole p.1) [
            | inl m ↦ two_bytes b bytes (ltb-false b 192 p.0) (ltb-true b 224 m.0) m.1
            | inr m ↦
                elim (pick (ltb b 240) (Some (Two (b - 224) 2048)) (from_240 b) f Whole m.1) [
                  | inl n ↦ three_bytes b bytes (ltb-false b 224 m.0) (ltb-true b 240 n.0) n.1
                  | inr n ↦
                      let q = must (ltb b 248) (Some (Three (b - 240))) f Whole n.1 in
                      four_bytes b bytes (ltb-false b 240 n.0) (ltb-true b 248 q.0) q.1
                ]
          ]
    ]

text_within : (n : ℕ) (bytes : List ℕ) → length bytes < n → follow Whole bytes ≡ Some Whole → IsText bytes
text_within zero bytes short h = absurd (omega (arith, short))
text_within (suc n) [] short h = ([], refl, refl)
text_within (suc n) (b ∷ bytes) short h =
    let first = first_of b bytes h in
    let size : length (b ∷ bytes) ≡ length (encode first.code) + length first.rest = ap length first.spelled ∙ length-append (encode first.code) first.rest in
    let others = text_within n first.rest (omega (arith, size, short, length-encode first.code, (len_utf8_bounds first.code).0)) first.further in
    (first.code ∷ others.0, rw (first.char, others.1) refl, ap (λ (l : List ℕ). encode first.code ++ l) others.2 ∙ sym first.spelled)

pub text_is : (bytes : List ℕ) → follow Whole bytes ≡ Some Whole → IsText bytes
text_is bytes h = text_within (suc (length bytes)) bytes (omega arith) h
