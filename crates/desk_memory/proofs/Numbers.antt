-- What stands at the numbers of a series, with one more.
use Rattle.std.proofs.Common.{◌≡◌, ℕ, Bool, true, false, List, Option, Some, None, refl, sym, ap, ◌∙◌, arith, cond, nat_eq}
use Rattle.std.specs.Ordering.{nat_cmp}
use Rattle.std.specs.BTreeMap.{is_at}
use Rattle.std.specs.Option.{option_or}
use Rattle.std.proofs.lemmas.Bool.Decides.{nat_tests}
use Rattle.desk_memory.proofs.EqualContents.{same_contents_itself}
use Rattle.onix_records.specs.declared.parts.Product.{Product}
use Rattle.series_rules.specs.Answers.{answer_against, placed_answer}
use Rattle.desk_memory.specs.Stands.{with_standing}
use Rattle.series_rules.specs.declared.requests.Standing.{Standing}
use Rattle.series_rules.specs.declared.requests.Standing.TheVariants.{Message}
use Rattle.desk_memory.proofs.OptionsOr.{or_none}
use Rattle.desk_memory.proofs.Walks.{at_test}

-- what was put where nothing stood and then taken out again leaves what stood
pub taken_back : (f g h : ℕ → Option Standing) (n : ℕ) (x : Standing) → f n ≡ None → ((k : ℕ) → g k ≡ cond (is_at (nat_cmp n) k) (Some x) (f k)) → ((k : ℕ) → h k ≡ cond (nat_eq n k) None (g k)) → (k : ℕ) → h k ≡ f k
taken_back f g h n x none put taken k = go (nat_eq n k) refl
  where
    go : (b : Bool) → nat_eq n k ≡ b → h k ≡ f k
    go true e = let same : n ≡ k = grind (arith, nat_tests) in taken k ∙ ap (λ b. cond b None (g k)) e ∙ sym none ∙ ap f same
    go false e = taken k ∙ ap (λ b. cond b None (g k)) e ∙ put k ∙ ap (λ b. cond b (Some x) (f k)) (at_test n k ∙ e)

-- it stands where nothing stood
pub stands_there : (f : ℕ → Option Standing) (n : ℕ) (x : Standing) → f n ≡ None → with_standing f n x n ≡ Some x
stands_there f n x none = let same : nat_eq n n ≡ true = grind (arith, nat_tests) in rw (none, same) refl

-- one more at a number that has something changes nothing
pub stands_still : (f : ℕ → Option Standing) (n : ℕ) (h x : Standing) → f n ≡ Some h → (k : ℕ) → f k ≡ with_standing f n x k
stands_still f n h x there k = go (nat_eq n k) refl
  where
    go : (b : Bool) → nat_eq n k ≡ b → f k ≡ option_or (f k) (cond b (Some x) None)
    go true e = let same : k ≡ n = grind (arith, nat_tests) in let here : f k ≡ Some h = ap f same ∙ there in rw here refl
    go false e = sym (or_none (f k))

-- a delivery is against itself where nothing stood
pub against_itself : (hs : List Standing) (s : List ℕ) (from n : ℕ) (c : List Product) (o : Option Standing) → o ≡ Some (Message c) → answer_against hs s from n c o ≡ placed_answer hs s from n
against_itself hs s from n c o e = ap (answer_against hs s from n c) e ∙ rw (same_contents_itself c) refl
