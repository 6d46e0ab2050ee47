-- The fault of a list of rules is at its first bad item.
use Rattle.std.proofs.Common.{◌≡◌, ◌↔◌, ℕ, zero, suc, ◌+◌, ◌<◌, ◌≤◌, Bool, true, false, nat_le, if◌then◌else◌, List, Option, Some, None, Result, Ok, Err, ◌⊎◌, inl, inr, refl, sym, subst, ap, arith}
use Rattle.std.proofs.lemmas.Bool.Decides.{nat_tests}
use Rattle.toml.specs.Data.{Data, Items, get_item, item, no_items}
use Rattle.price_rules.specs.RulesFile.{IsBadItem, rule_before, rule_of, rules_from}
use Rattle.price_rules.specs.declared.precedence.PrecedenceFault.{PrecedenceFault}
use Rattle.price_rules.specs.declared.precedence.PrecedenceFault.TheVariants as fault
use Rattle.price_rules.specs.declared.precedence.Rule.{Rule}
use Rattle.price_rules.proofs.CurrentPrice.{nat_le_decides}

-- the item at this number is bad, where the first one is at number n
abbrev IsBadFrom : ℕ → Items → ℕ → Type 0
IsBadFrom n items number =
    (k : ℕ) × (value : Data) × (number ≡ n + k) × (get_item k items ≡ Some value) × ((1_000 < number) ⊎ (rule_of value ≡ None))

-- the rule of a value at number n
abbrev rule_at : ℕ → Data → Option Rule
rule_at n value = if nat_le n 1_000 then rule_of value else None

past_limit : (n : ℕ) → nat_le n 1_000 ≡ false → 1_000 < n
past_limit n e = grind (arith, nat_tests)

none_at : (n : ℕ) (value : Data) (b : Bool) → nat_le n 1_000 ≡ b → rule_at n value ≡ None → (1_000 < n) ⊎ (rule_of value ≡ None)
none_at n value true e h = inr (rw e at h)
none_at n value false e h = inl (past_limit n e)

some_at : (n : ℕ) (value : Data) (rule : Rule) (b : Bool) → nat_le n 1_000 ≡ b → rule_at n value ≡ Some rule → (1_000 < n) ⊎ (rule_of value ≡ None) → ⊥
some_at n value rule true e h (inl lt) = let le = (nat_le_decides n 1_000).0 e in absurd (omega arith)
some_at n value rule true e h (inr none) = let some = rw e at h in cc
some_at n value rule false e h bad = let some = rw e at h in cc

rest_fault : (n m : ℕ) (rule : Rule) (rest : Result (List Rule) PrecedenceFault) → rule_before n (Some rule) rest ≡ Err (fault.BadRule m) → rest ≡ Err (fault.BadRule m)
rest_fault n m rule (Ok rules) h = cc
rest_fault n m rule (Err e) h = h

same_number : (n m : ℕ) → ◌≡◌ {A = Result (List Rule) PrecedenceFault} (Err (fault.BadRule n)) (Err (fault.BadRule m)) → n ≡ m
same_number n m h = cc

later : (n : ℕ) (value : Data) (rest : Items) (m : ℕ) → IsBadFrom (n + 1) rest m → IsBadFrom n (item value rest) m
later n value rest m h = (suc h.0, h.1, omega (arith, h.2), h.3, h.4)

first_is : (n : ℕ) (value : Data) (rest : Items) → rule_at n value ≡ None → IsBadFrom n (item value rest) n
first_is n value rest e = (0, value, omega arith, refl, none_at n value (nat_le n 1_000) refl e)

earlier : (n : ℕ) (value : Data) (rest : Items) (rule : Rule) (m : ℕ) → rule_at n value ≡ Some rule → IsBadFrom n (item value rest) m → IsBadFrom (n + 1) rest m
earlier n value rest rule m e (zero, v, number, at, bad) =
    let same : value ≡ v = cc in
    let here : n ≡ m = omega arith in
    absurd (some_at n value rule (nat_le n 1_000) refl e
    (subst (λ d. (1_000 < n) ⊎ (rule_of d ≡ None)) (sym same) (subst (λ z. (1_000 < z) ⊎ (rule_of v ≡ None)) (sym here) bad)))
earlier n value rest rule m e (suc k, v, number, at, bad) = (k, v, omega arith, at, bad)

from_fault_at : (n : ℕ) (value : Data) (rest : Items) (m : ℕ) (head : Option Rule) → rule_at n value ≡ head
    → (rules_from (n + 1) rest ≡ Err (fault.BadRule m) → IsBadFrom (n + 1) rest m × ((other : ℕ) → IsBadFrom (n + 1) rest other → m ≤ other))
    → rule_before n head (rules_from (n + 1) rest) ≡ Err (fault.BadRule m)
    → IsBadFrom n (item value rest) m × ((other : ℕ) → IsBadFrom n (item value rest) other → m ≤ other)
from_fault_at n value rest m None e more h =
    let here : n ≡ m = same_number n m h in
    (subst (IsBadFrom n (item value rest)) here (first_is n value rest e), λ other bad. let up = bad.2 in omega arith)
from_fault_at n value rest m (Some rule) e more h =
    let r = more (rest_fault n m rule (rules_from (n + 1) rest) h) in
    (later n value rest m r.0, λ other bad. r.1 other (earlier n value rest rule other e bad))

from_fault : (n : ℕ) (items : Items) (m : ℕ) → rules_from n items ≡ Err (fault.BadRule m)
    → IsBadFrom n items m × ((other : ℕ) → IsBadFrom n items other → m ≤ other)
from_fault n no_items m h = cc
from_fault n (item value rest) m h = from_fault_at n value rest m (rule_at n value) refl (from_fault (n + 1) rest m) h

onto_fault_at : (n : ℕ) (value : Data) (rest : Items) (m : ℕ) (head : Option Rule) → rule_at n value ≡ head
    → (IsBadFrom (n + 1) rest m → ((other : ℕ) → IsBadFrom (n + 1) rest other → m ≤ other) → rules_from (n + 1) rest ≡ Err (fault.BadRule m))
    → IsBadFrom n (item value rest) m → ((other : ℕ) → IsBadFrom n (item value rest) other → m ≤ other)
    → rule_before n head (rules_from (n + 1) rest) ≡ Err (fault.BadRule m)
onto_fault_at n value rest m None e more h least =
    let up = h.2 in
    let down = least n (first_is n value rest e) in
    let here : n ≡ m = omega arith in
    ap (λ z. Err (fault.BadRule z)) here
onto_fault_at n value rest m (Some rule) e more h least =
    let faulty = more (earlier n value rest rule m e h) (λ other bad. least other (later n value rest other bad)) in
    rw faulty

onto_fault : (n : ℕ) (items : Items) (m : ℕ) → IsBadFrom n items m → ((other : ℕ) → IsBadFrom n items other → m ≤ other) → rules_from n items ≡ Err (fault.BadRule m)
onto_fault n no_items m h least = let at = h.3 in cc
onto_fault n (item value rest) m h least = onto_fault_at n value rest m (rule_at n value) refl (onto_fault (n + 1) rest m) h least

pub bad_rule_first : (items : Items) (number : ℕ) → (rules_from 1 items ≡ Err (fault.BadRule number)) ↔ (IsBadItem items number × ((other : ℕ) → IsBadItem items other → number ≤ other))
bad_rule_first items number = (λ h. from_fault 1 items number h, λ h. onto_fault 1 items number h.0 h.1)
