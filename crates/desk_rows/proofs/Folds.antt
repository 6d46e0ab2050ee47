-- What stands from the first number on, and one more.
use Rattle.std.proofs.Common.{◌≡◌, ◌+◌, ◌<◌, ◌≤◌, ◌++◌, ℕ, zero, suc, List, [], ◌∷◌, Option, Some, None, length, length-append, refl, sym, ap, ◌∙◌, arith, ◌⊎◌, inl, inr}
use Rattle.std.specs.Prelude.{slice_get, option_map}
use Rattle.std.specs.FinMap as fin
use Rattle.std.proofs.Math.Seq.{take-append_seam}
use Rattle.std.proofs.lemmas.Bool.{cases_eq, cases_lt}
use Rattle.onix_records.specs.declared.effects.Effect.{Effect}
use Rattle.series_rules.proofs.FrontLemmas.{kept_front, slice_get_front}
use Rattle.series_rules.specs.Series.{BeginsWith, after_all, effect_of_standing, kept_of}
use Rattle.series_rules.specs.declared.requests.Standing.{Standing}
use Rattle.desk_rows.specs.Stands.{applied_of}
use Rattle.desk_rows.specs.Texts.{standing_text}

pub get_last : (hs : List Standing) (h : Standing) → slice_get (hs ++ h ∷ []) (length hs) ≡ Some h
get_last [] h = refl
get_last (x ∷ hs) h = get_last hs h

pub get_beyond : (hs : List Standing) (k : ℕ) → length hs ≤ k → slice_get hs k ≡ None
get_beyond [] k le = refl
get_beyond (x ∷ hs) zero le = absurd (omega arith)
get_beyond (x ∷ hs) (suc k) le = get_beyond hs k (omega arith)

pub get_some : (hs : List Standing) (k : ℕ) → k < length hs → (h : Standing) × (slice_get hs k ≡ Some h)
get_some [] k lt = absurd (omega arith)
get_some (h ∷ hs) zero lt = (h, refl)
get_some (h ∷ hs) (suc k) lt = get_some hs k (omega arith)

-- what the last of them did
pub kept_last : (hs : List Standing) (h : Standing) → kept_of (hs ++ h ∷ []) (length hs) ≡ effect_of_standing (after_all fin.empty hs) h
kept_last hs h = rw (take-append_seam hs (h ∷ []), get_last hs h) refl

abbrev row_of : Standing → Effect → List ℕ × Effect
row_of h e = (standing_text h, e)

pub applied_last : (hs : List Standing) (h : Standing) → applied_of (hs ++ h ∷ []) (length hs) ≡ Some (standing_text h, effect_of_standing (after_all fin.empty hs) h)
applied_last hs h =
    ap (option_map {U = List ℕ × Effect} (λ g. row_of g (kept_of (hs ++ h ∷ []) (length hs)))) (get_last hs h) ∙ ap (λ e. Some (standing_text h, e)) (kept_last hs h)

pub applied_front : (hs : List Standing) (h : Standing) (j : ℕ) → ¬ (j ≡ length hs) → applied_of (hs ++ h ∷ []) j ≡ applied_of hs j
applied_front hs h j other = go (cases_lt j (length hs))
  where
    go : (j < length hs) ⊎ (length hs ≤ j) → applied_of (hs ++ h ∷ []) j ≡ applied_of hs j
    go (inl lt) =
        ap (option_map {U = List ℕ × Effect} (λ g. row_of g (kept_of (hs ++ h ∷ []) j))) (slice_get_front hs (h ∷ []) j lt)
        ∙ ap (λ e. option_map {U = List ℕ × Effect} (λ g. row_of g e) (slice_get hs j)) (kept_front hs (h ∷ []) j lt)
    go (inr le) =
        let far : length (hs ++ h ∷ []) ≤ j = let n = length-append hs (h ∷ []) in omega (arith, other) in
        ap (option_map {U = List ℕ × Effect} (λ g. row_of g (kept_of (hs ++ h ∷ []) j))) (get_beyond (hs ++ h ∷ []) j far)
        ∙ sym (ap (option_map {U = List ℕ × Effect} (λ g. row_of g (kept_of hs j))) (get_beyond hs j le))

-- one more at the number behind them
pub front_more : (f g : ℕ → Option Standing) (from : ℕ) (hs : List Standing) (k : ℕ) (h : Standing) → k ≡ from + length hs → BeginsWith f from hs → g k ≡ Some h → ((n : ℕ) → ¬ (n ≡ k) → g n ≡ f n) → BeginsWith g from (hs ++ h ∷ [])
front_more f g from hs k h ends was there same = λ j lt. go j lt (cases_eq j (length hs))
  where
    go : (j : ℕ) → j < length (hs ++ h ∷ []) → (j ≡ length hs) ⊎ (¬ (j ≡ length hs)) → g (from + j) ≡ slice_get (hs ++ h ∷ []) j
    go j lt (inl last) = let at : from + j ≡ k = omega arith in ap g at ∙ there ∙ sym (get_last hs h) ∙ ap (slice_get (hs ++ h ∷ [])) (sym last)
    go j lt (inr other) =
        let n = length-append hs (h ∷ []) in
        let below : j < length hs = omega (arith, other) in
        same (from + j) (λ i. omega arith) ∙ was j below ∙ sym (slice_get_front hs (h ∷ []) j below)
