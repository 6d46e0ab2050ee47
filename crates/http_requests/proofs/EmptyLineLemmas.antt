-- An empty line that was read stays there whatever bytes follow.
use Rattle.std.proofs.Common.{◌≡◌, ℕ, ◌+◌, ◌-◌, ◌<◌, ◌≤◌, Bool, true, false, ◌||◌, inl, inr, List, [], ◌∷◌, ◌++◌, length, take, refl, sym, ap, ◌∙◌, arith, nat_eq, nat_lt, length-append}
use Rattle.std.specs.List.{list_any, starts_with}
use Rattle.std.specs.Cmp.Lexicographic.{pointwise}
use Rattle.std.proofs.lemmas.Bool.{false≢true, and_parts, and_from, or_cases, eqb-true, le-ltb, lt-ltb}
use Rattle.std.proofs.Math.Seq.{take-append-add, take-append_seam}
use Rattle.http_requests.specs.declared.refusal.Refusal.TheVariants.{BadHead}
use Rattle.http_requests.specs.Head.{skip_line_ends, begins_empty_line, has_empty_line, refusal_of, refusal_of_full, head_limit}

or_left : (x y : Bool) → x ≡ true → (x || y) ≡ true
or_left x y e = rw e refl

or_right : (x y : Bool) → y ≡ true → (x || y) ≡ true
or_right true y e = refl
or_right false y e = e

pointwise-append : (needle xs more : List ℕ) → pointwise nat_eq needle (take (length needle) xs) ≡ true
    → pointwise nat_eq needle (take (length needle) (xs ++ more)) ≡ true
pointwise-append [] xs more h = refl
pointwise-append (n ∷ needle) [] more h = absurd (false≢true h)
pointwise-append (n ∷ needle) (x ∷ xs) more h =
    let both = and_parts (nat_eq n x) (pointwise nat_eq needle (take (length needle) xs)) h in
    and_from (nat_eq n x) (pointwise nat_eq needle (take (length needle) (xs ++ more))) both.0 (pointwise-append needle xs more both.1)

begins-append : (bytes more : List ℕ) → begins_empty_line bytes ≡ true → begins_empty_line (bytes ++ more) ≡ true
begins-append bytes more h =
    elim (or_cases (starts_with nat_eq bytes (10 ∷ 10 ∷ [])) (starts_with nat_eq bytes (10 ∷ 13 ∷ 10 ∷ [])) h) [
      | inl a ↦ or_left _ _ (pointwise-append (10 ∷ 10 ∷ []) bytes more a)
      | inr b ↦ or_right (starts_with nat_eq (bytes ++ more) (10 ∷ 10 ∷ [])) _ (pointwise-append (10 ∷ 13 ∷ 10 ∷ []) bytes more b)
    ]

pub has_empty_line-append : (bytes more : List ℕ) → has_empty_line bytes ≡ true → has_empty_line (bytes ++ more) ≡ true
has_empty_line-append [] more h = absurd (false≢true h)
has_empty_line-append (b ∷ bytes) more h =
    elim (or_cases (begins_empty_line (b ∷ bytes)) (has_empty_line bytes) h) [
      | inl a ↦ or_left (begins_empty_line (b ∷ bytes ++ more)) (has_empty_line (bytes ++ more)) (begins-append (b ∷ bytes) more a)
      | inr r ↦ or_right (begins_empty_line (b ∷ bytes ++ more)) (has_empty_line (bytes ++ more)) (has_empty_line-append bytes more r)
    ]

begins_with_lf : (b : ℕ) (bytes : List ℕ) → begins_empty_line (b ∷ bytes) ≡ true → nat_eq b 10 ≡ true
begins_with_lf b bytes h =
    elim (or_cases (starts_with nat_eq (b ∷ bytes) (10 ∷ 10 ∷ [])) (starts_with nat_eq (b ∷ bytes) (10 ∷ 13 ∷ 10 ∷ [])) h) [
      | inl x ↦ rw (← eqb-true 10 b (and_parts (nat_eq 10 b) _ x).0) refl
      | inr x ↦ rw (← eqb-true 10 b (and_parts (nat_eq 10 b) _ x).0) refl
    ]

pub empty_line_has_lf : (bytes : List ℕ) → has_empty_line bytes ≡ true → list_any (λ b. nat_eq b 10) bytes ≡ true
empty_line_has_lf [] h = absurd (false≢true h)
empty_line_has_lf (b ∷ bytes) h =
    elim (or_cases (begins_empty_line (b ∷ bytes)) (has_empty_line bytes) h) [
      | inl a ↦ or_left _ _ (begins_with_lf b bytes a)
      | inr r ↦ or_right (nat_eq b 10) _ (empty_line_has_lf bytes r)
    ]

pub skip-append : (bytes more : List ℕ) → has_empty_line (skip_line_ends bytes) ≡ true
    → skip_line_ends (bytes ++ more) ≡ skip_line_ends bytes ++ more
skip-append [] more h = absurd (false≢true h)
skip-append (b ∷ bytes) more h = by_test (nat_eq b 13 || nat_eq b 10) refl (skip-append bytes more)
  where
    by_test : (t : Bool) → (nat_eq b 13 || nat_eq b 10) ≡ t
        → (has_empty_line (skip_line_ends bytes) ≡ true → skip_line_ends (bytes ++ more) ≡ skip_line_ends bytes ++ more)
        → skip_line_ends (b ∷ bytes ++ more) ≡ skip_line_ends (b ∷ bytes) ++ more
    by_test true e rest = rw e (rest (rw e at h))
    by_test false e rest = rw e refl

first_bytes : (n : ℕ) (bytes more : List ℕ) → length bytes ≤ n → take n (bytes ++ more) ≡ bytes ++ take (n - length bytes) more
first_bytes n bytes more fits =
    let sum : n ≡ length bytes + (n - length bytes) = omega arith in
    ap (λ m. take m (bytes ++ more)) sum ∙ take-append-add bytes more (n - length bytes)

full_refusal : (bytes more : List ℕ) → has_empty_line (skip_line_ends bytes) ≡ true
    → refusal_of_full (skip_line_ends (bytes ++ more)) ≡ BadHead
full_refusal bytes more h =
    let text = skip_line_ends bytes ++ more in
    let empty : has_empty_line text ≡ true = has_empty_line-append (skip_line_ends bytes) more h in
    let lf : list_any (λ b. nat_eq b 10) text ≡ true = empty_line_has_lf text empty in
    ap refusal_of_full (skip-append bytes more h) ∙ chosen text lf empty
  where
    chosen : (text : List ℕ) → list_any (λ b. nat_eq b 10) text ≡ true → has_empty_line text ≡ true → refusal_of_full text ≡ BadHead
    chosen text lf empty = rw (lf, empty) refl

-- where an empty line was read within the limit, the refusal is decided
pub refusal_decided : (bytes more : List ℕ) → length bytes ≤ head_limit → has_empty_line (skip_line_ends bytes) ≡ true
    → refusal_of (bytes ++ more) ≡ BadHead
unfolding refusal_of
refusal_decided bytes more fits h = by_test (nat_lt (length (bytes ++ more)) head_limit) refl
  where
    by_test : (t : Bool) → nat_lt (length (bytes ++ more)) head_limit ≡ t → refusal_of (bytes ++ more) ≡ BadHead
    by_test true e = rw e refl
    by_test false e = rw e (ap (λ l. refusal_of_full (skip_line_ends l)) (first_bytes head_limit bytes more fits)
        ∙ full_refusal bytes (take (head_limit - length bytes) more) h)

pub refusal_short : (bytes : List ℕ) → length bytes < head_limit → refusal_of bytes ≡ BadHead
unfolding refusal_of
refusal_short bytes short = rw (lt-ltb (length bytes) head_limit short) refl

pub refusal_full : (bytes more : List ℕ) → length bytes ≡ head_limit
    → refusal_of (bytes ++ more) ≡ refusal_of_full (skip_line_ends bytes)
unfolding refusal_of
refusal_full bytes more full =
    let long : head_limit ≤ length (bytes ++ more) = omega (arith, length-append bytes more) in
    let front : take head_limit (bytes ++ more) ≡ bytes =
    ap (λ n. take n (bytes ++ more)) (sym full) ∙ take-append_seam bytes more in
    rw (le-ltb (length (bytes ++ more)) head_limit long) (ap (λ l. refusal_of_full (skip_line_ends l)) front)
