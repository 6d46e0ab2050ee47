-- Whether a field is there, by its only value.
use Rattle.std.proofs.Common.{◌≡◌, ℕ, List, [], ◌∷◌, true, false, refl, sym, ap, ◌∙◌, arith, length, nat_lt, Some, None, Ok, Err}
use Rattle.std.proofs.lemmas.Bool.{lt-ltb}
use Rattle.std.specs.Prelude.{Option, Result, IfErr, IfOk, option_map}
use Rattle.std.specs.Borrow.{Bor}
use Rattle.http_requests.specs.declared.refusal.Refusal.{Refusal}
use Rattle.http_requests.specs.Fields.{at_most_one, size_by}
use Rattle.http_requests.specs.Steps.{◌>>=◌}

pub none_there : (why : Refusal) (values : List (List ℕ)) → at_most_one why values ≡ Ok None → nat_lt 0 (length values) ≡ false
none_there why [] e = refl
none_there why (v ∷ []) e = absurd (cc)
none_there why (v ∷ w ∷ values) e = absurd (cc)

pub one_there : (why : Refusal) (values : List (List ℕ)) (v : List ℕ) → at_most_one why values ≡ Ok (Some v) → nat_lt 0 (length values) ≡ true
one_there why [] v e = absurd (cc)
one_there why (w ∷ values) v e = lt-ltb 0 (length (w ∷ values)) (omega arith)

-- the size by the only value that was found
pub size_found : (found : Result (Option (Bor (List ℕ))) Refusal) (only : Result (Option (List ℕ)) Refusal) (size : Result ℕ Refusal)
    → IfOk found (λ o. only ≡ Ok (option_map (λ v. v.now) o)) → IfErr found (λ why. only ≡ Err why)
    → IfOk found (λ o. size ≡ size_by (option_map (λ v. v.now) o)) → IfErr found (λ why. size ≡ Err why)
    → size ≡ (only >>= size_by)
size_found (Ok o) only size one more this that = this ∙ ap (λ x. x >>= size_by) (sym one)
size_found (Err e) only size one more this that = that ∙ ap (λ x. x >>= size_by) (sym more)
