-- Texts of country codes, one code more at a time.
use Rattle.std.proofs.Common.{◌≡◌, ℕ, ◌<◌, ◌+◌, ◌∙◌, List, [], ◌∷◌, ◌++◌, get_or, take, length, refl, sym, ap, append_assoc, arith}
use Rattle.std.proofs.lemmas.List.{take_more, length-take-le}
use Rattle.onix_terms.specs.Territory.{countries_text}

text-push : (codes : List (List ℕ)) (code : List ℕ) → 0 < length codes → countries_text (codes ++ code ∷ []) ≡ countries_text codes ++ 32 ∷ code
text-push [] code some = absurd (omega (arith, some))
text-push (x ∷ []) code some = refl
text-push (x ∷ y ∷ codes) code some =
    ap (λ t. x ++ 32 ∷ t) (text-push (y ∷ codes) code (omega arith)) ∙ sym (append_assoc x (32 ∷ countries_text (y ∷ codes)) (32 ∷ code))

one-more : (codes : List (List ℕ)) (i : ℕ) (code : List ℕ) → i < length codes → code ≡ get_or codes i code → take (i + 1) codes ≡ take i codes ++ code ∷ []
one-more codes i code short is = take_more codes i code short ∙ ap (λ c. take i codes ++ c ∷ []) (sym is)

-- a code after others
pub text-more : (codes : List (List ℕ)) (i : ℕ) (code before between after : List ℕ) → i < length codes → code ≡ get_or codes i code → 0 < i →
    before ≡ countries_text (take i codes) → between ≡ before ++ 32 ∷ [] → after ≡ between ++ code → after ≡ countries_text (take (i + 1) codes)
text-more codes i code before between after short is some b e a =
    let long : length (take i codes) ≡ i = length-take-le i codes (omega arith) in
    let end : countries_text (take (i + 1) codes) ≡ countries_text (take i codes) ++ 32 ∷ code =
    ap countries_text (one-more codes i code short is) ∙ text-push (take i codes) code (omega (arith, long)) in
    a ∙ ap (λ t. t ++ code) e ∙ append_assoc before (32 ∷ []) code ∙ ap (λ t. t ++ 32 ∷ code) b ∙ sym end

-- the first code
pub text-first : (codes : List (List ℕ)) (i : ℕ) (code before after : List ℕ) → i < length codes → code ≡ get_or codes i code → i ≡ 0 →
    before ≡ countries_text (take i codes) → after ≡ before ++ code → after ≡ countries_text (take (i + 1) codes)
text-first codes i code before after short is none b a =
    let nothing : take i codes ≡ [] = ap (λ k. take k codes) none in
    let end : countries_text (take (i + 1) codes) ≡ code = ap countries_text (one-more codes i code short is ∙ ap (λ t. t ++ code ∷ []) nothing) in
    a ∙ ap (λ t. t ++ code) (b ∙ ap countries_text nothing) ∙ sym end
