-- A reference in a list of names is found where it begins.
use Rattle.std.proofs.Common.{◌≡◌, ◌∙◌, ℕ, ◌-◌, ◌<◌, ◌≤◌, Bool, true, false, cond, eqb, List, [], ◌∷◌, ◌++◌, length, take, drop, None, Result, Ok, Err, refl, sym, ap, append_assoc, length-append, arith}
use Rattle.feed_xml.specs.declared.stop.Stop.{Stop}
use Rattle.feed_xml.specs.declared.stop.Stop.TheVariants.{More, Never}
use Rattle.feed_xml.specs.References.{listed}
use Rattle.feed_xml.specs.private.References.{past_reference, word, word_of}
use Rattle.feed_xml.specs.Steps.{Step, ◌>>=◌, here_or, literal, until}
use Rattle.feed_xml.proofs.PartLaws.{literal_again, literal_takes, until_takes}
use Rattle.feed_xml.proofs.Runs.{rest_is}
use Rattle.feed_xml.proofs.StepLaws.{bind_ok}

abbrev mark_of : List ℕ → List ℕ
mark_of name = 38 ∷ (name ++ 59 ∷ [])

-- what a reference to the name begins with
begins_past : (name bytes rest : List ℕ) → past_reference name bytes ≡ Ok rest → bytes ≡ mark_of name ++ rest
unfolding past_reference
begins_past name bytes rest e =
    let a = bind_ok (literal (38 ∷ []) bytes) (λ mark. literal name mark.1 >>= λ body. literal (59 ∷ []) body.1 >>= λ close. Ok close.1) rest e in
    let b = bind_ok (literal name a.0.1) (λ body. literal (59 ∷ []) body.1 >>= λ close. Ok close.1) rest a.2 in
    let c = bind_ok (literal (59 ∷ []) b.0.1) (λ close. Ok close.1) rest b.2 in
    let first = (literal_takes (38 ∷ []) bytes a.0 a.1).0 in
    let second = (literal_takes name a.0.1 b.0 b.1).0 in
    let third = (literal_takes (59 ∷ []) b.0.1 c.0 c.1).0 in
    let last : c.0.1 ≡ rest = same c.0.1 rest c.2 in
    first ∙ ap (λ (l : List ℕ). 38 ∷ l) (second ∙ ap (λ (l : List ℕ). name ++ l) (third ∙ ap (λ (l : List ℕ). 59 ∷ l) last) ∙ sym (append_assoc name (59 ∷ []) rest))
  where
    done : List ℕ → Result (List ℕ) Stop
    done x = Ok x

    same : (x y : List ℕ) → done x ≡ done y → x ≡ y
    same x y h = cc

past_again : (name rest : List ℕ) → past_reference name (mark_of name ++ rest) ≡ Ok rest
unfolding past_reference literal
past_again name rest =
    ap (λ (l : List ℕ). literal name l >>= λ body. literal (59 ∷ []) body.1 >>= λ close. Ok close.1) (append_assoc name (59 ∷ []) rest)
    ∙ rw (literal_again name (59 ∷ rest)) refl

-- where it is, it is the first mark
pub found_here : (name bytes rest : List ℕ) → past_reference name bytes ≡ Ok rest → word_of (listed name bytes) ≡ word rest
unfolding listed until
found_here name bytes rest e =
    ap (λ (l : List ℕ). word_of (listed name l)) (begins_past name bytes rest e) ∙ rw (literal_again (mark_of name) rest) refl

-- a text that ends within the mark is shorter
literal_less : (mark bytes : List ℕ) → literal mark bytes ≡ Err More → length bytes < length mark
unfolding literal
literal_less [] bytes e = absurd cc
literal_less (c ∷ mark) [] e = omega arith
literal_less (c ∷ mark) (b ∷ bytes) e = go (eqb b c) (literal mark bytes) (literal_less mark bytes) refl e
  where
    put : List ℕ × List ℕ → Step (List ℕ)
    put x = Ok (c ∷ x.0, x.1)

    go : (t : Bool) (r : Step (List ℕ)) → (literal mark bytes ≡ Err More → length bytes < length mark) → literal mark bytes ≡ r
        → cond t (r >>= λ x. put x) (Err Never) ≡ Err More → length (b ∷ bytes) < length (c ∷ mark)
    go false r less is h = absurd cc
    go true (Ok x) less is h = absurd cc
    go true (Err Never) less is h = absurd cc
    go true (Err More) less is h = omega (arith, less is)

-- where it is not, it is further on
pub found_later : (name tail : List ℕ) (b : ℕ) (stop : Stop) → past_reference name (b ∷ tail) ≡ Err stop → word_of (listed name tail) ≡ word_of (listed name (b ∷ tail))
unfolding listed until
found_later name tail b stop e = go (literal (mark_of name) (b ∷ tail)) refl (until (mark_of name) tail) refl
  where
    short : {A : Type 0} (x : List ℕ × List ℕ) → length (b ∷ tail) < length (mark_of name) → until (mark_of name) tail ≡ Ok x → A
    short x less is =
        let t = (until_takes (mark_of name) tail x is).0 in
        absurd (omega (arith, less, ap length t, length-append x.0 (mark_of name ++ x.1), length-append (mark_of name) x.1))

    stays : (x : List ℕ × List ℕ) → literal (mark_of name) (b ∷ tail) ≡ Ok x → ⊥
    stays x is =
        let t = (literal_takes (mark_of name) (b ∷ tail) x is).0 in
        cc (sym e ∙ ap (past_reference name) t ∙ past_again name x.1)

    put : List ℕ × List ℕ → Step (List ℕ)
    put x = Ok (b ∷ x.0, x.1)

    Same : Step (List ℕ) → Step (List ℕ) → Type 0
    Same r u = word_of (u >>= λ found. until (32 ∷ []) found.1) ≡ word_of (here_or r (u >>= put) >>= λ found. until (32 ∷ []) found.1)

    go : (r : Step (List ℕ)) → literal (mark_of name) (b ∷ tail) ≡ r → (u : Step (List ℕ)) → until (mark_of name) tail ≡ u → Same r u
    go (Ok x) is u at = absurd (stays x is)
    go (Err Never) is (Ok y) at = refl
    go (Err Never) is (Err f) at = refl
    go (Err More) is (Ok y) at = short y (literal_less (mark_of name) (b ∷ tail) is) at
    go (Err More) is (Err f) at = refl

pub found_past : (name rest : List ℕ) (stop : Stop) → 1 ≤ length rest → past_reference name rest ≡ Err stop
    → word_of (listed name (take (length rest - 1) (drop 1 rest))) ≡ word_of (listed name rest)
found_past name [] stop le e = absurd (omega (arith, le))
found_past name (b ∷ tail) stop le e = ap (λ (l : List ℕ). word_of (listed name l)) (rest_is (b ∷ tail) 1) ∙ found_later name tail b stop e

pub never_found : (name rest : List ℕ) → length rest < 1 → word_of (listed name rest) ≡ None
unfolding listed until
never_found name [] lt = refl
never_found name (b ∷ tail) lt = absurd (omega (arith, lt))
