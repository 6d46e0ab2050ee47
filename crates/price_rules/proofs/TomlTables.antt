-- The keys and items of a TOML table, as the reader of rules goes over them.
use Rattle.std.proofs.Common.{◌≡◌, ℕ, ◌+◌, ◌<◌, ◌≤◌, List, [], ◌∷◌, ◌++◌, length, get_or, drop, Bool, true, false, ◌&&◌, nat_le, Option, Some, None, Result, Ok, Err, string_bytes, refl, sym, ap, arith, append_assoc}
use Rattle.std.specs.List.{list_all}
use Rattle.std.specs.Map.{keys_of}
use Rattle.std.proofs.lemmas.List.{append-nil, drop_all}
use Rattle.toml.specs.Data.{Data, as_array}
use Rattle.toml.specs.declared.value.Value.{Value}
use Rattle.toml.specs.View.{items_view, members_view, view}
use Rattle.toml.proofs.Views.{Entry, items_view-drop}
use Rattle.onix_terms.specs.Options.{◌>>=◌}
use Rattle.onix_terms.specs.Territory.{nonempty}
use Rattle.price_rules.specs.RulesFile.{code_of, codes_at, codes_of, keys_pass, rule_before, rule_of, rules_from}
use Rattle.price_rules.specs.declared.precedence.PrecedenceFault.{PrecedenceFault}
use Rattle.price_rules.specs.declared.precedence.PrecedenceFault.TheVariants as fault
use Rattle.price_rules.specs.declared.precedence.Rule.{Rule}
use Rattle.price_rules.proofs.CurrentPrice.{nat_le_decides}

pub keys_pass-view : (passes : List ℕ → Bool) (es : List Entry) → list_all (λ key. passes (string_bytes key)) (keys_of es) ≡ keys_pass passes (members_view es)
keys_pass-view passes [] = refl
keys_pass-view passes (e ∷ es) = ap (λ b. passes (string_bytes e.0) && b) (keys_pass-view passes es)

-- the codes found so far, before those of the rest
abbrev pub codes_before : List (List ℕ) → Option (List (List ℕ)) → Option (List (List ℕ))
codes_before found None = None
codes_before found (Some rest) = Some (found ++ rest)

-- no codes found so far
pub codes_first : (rest : Option (List (List ℕ))) → rest ≡ codes_before [] rest
codes_first None = refl
codes_first (Some rest) = refl

codes_shift : (found : List (List ℕ)) (code : List ℕ) (rest : Option (List (List ℕ)))
    → codes_before found (rest >>= λ more. Some (code ∷ more)) ≡ codes_before (found ++ code ∷ []) rest
codes_shift found code None = refl
codes_shift found code (Some rest) = ap (λ xs. Some xs) (sym (append_assoc found (code ∷ []) rest))

-- one more value that is a code
pub codes_more : (found : List (List ℕ)) (values : List Value) (i : ℕ) (value : Value) (code : List ℕ) → i < length values → value ≡ get_or values i value → code_of (view value) ≡ Some code
    → codes_before found (codes_of (items_view (drop i values))) ≡ codes_before (found ++ code ∷ []) (codes_of (items_view (drop (i + 1) values)))
codes_more found values i value code l at e =
    rw (items_view-drop values i value l, ← at, e) (codes_shift found code (codes_of (items_view (drop (i + 1) values))))

-- a value that is none
pub codes_end : (found : List (List ℕ)) (values : List Value) (i : ℕ) (value : Value) → i < length values → value ≡ get_or values i value → code_of (view value) ≡ None
    → codes_before found (codes_of (items_view (drop i values))) ≡ None
codes_end found values i value l at e = rw (items_view-drop values i value l, ← at, e)

-- all values were codes
pub codes_all : (found : List (List ℕ)) (values : List Value) (i : ℕ) → length values ≤ i → codes_before found (codes_of (items_view (drop i values))) ≡ Some found
codes_all found values i l = rw (drop_all i values l) (ap (λ xs. Some xs) (append-nil found))

nonempty_more : (code : List ℕ) (rest : Option (List (List ℕ))) → ((rest >>= λ more. Some (code ∷ more)) >>= nonempty) ≡ (rest >>= λ more. Some (code ∷ more))
nonempty_more code None = refl
nonempty_more code (Some more) = refl

nonempty_first : (code : Option (List ℕ)) (rest : Option (List (List ℕ)))
    → ((code >>= λ first. rest >>= λ more. Some (first ∷ more)) >>= nonempty) ≡ (code >>= λ first. rest >>= λ more. Some (first ∷ more))
nonempty_first None rest = refl
nonempty_first (Some code) rest = nonempty_more code rest

-- codes of values, of which there are some, are not empty
pub codes_nonempty : (values : List Value) → 0 < length values → (codes_of (items_view values) >>= nonempty) ≡ codes_of (items_view values)
codes_nonempty [] l = absurd (omega arith)
codes_nonempty (value ∷ rest) l = nonempty_first (code_of (view value)) (codes_of (items_view rest))

-- the rules so far, before those of the rest
abbrev pub rules_before : List Rule → Result (List Rule) PrecedenceFault → Result (List Rule) PrecedenceFault
rules_before rules (Ok rest) = Ok (rules ++ rest)
rules_before rules (Err e) = Err e

-- no rules so far
pub rules_first : (rest : Result (List Rule) PrecedenceFault) → rest ≡ rules_before [] rest
rules_first (Ok rest) = refl
rules_first (Err e) = refl

rules_shift : (rules : List Rule) (number : ℕ) (rule : Rule) (rest : Result (List Rule) PrecedenceFault)
    → rules_before rules (rule_before number (Some rule) rest) ≡ rules_before (rules ++ rule ∷ []) rest
rules_shift rules number rule (Ok rest) = ap (λ xs. Ok xs) (sym (append_assoc rules (rule ∷ []) rest))
rules_shift rules number rule (Err e) = refl

-- one more item that is a rule
pub rules_more : (rules : List Rule) (values : List Value) (i number : ℕ) (value : Value) (rule : Rule) → i < length values → value ≡ get_or values i value → number ≤ 1_000 → rule_of (view value) ≡ Some rule
    → rules_before rules (rules_from number (items_view (drop i values))) ≡ rules_before (rules ++ rule ∷ []) (rules_from (number + 1) (items_view (drop (i + 1) values)))
rules_more rules values i number value rule l at few e =
    rw (items_view-drop values i value l, ← at, (nat_le_decides number 1_000).1 few, e) (rules_shift rules number rule (rules_from (number + 1) (items_view (drop (i + 1) values))))

-- an item that is none
pub rules_wrong : (rules : List Rule) (values : List Value) (i number : ℕ) (value : Value) → i < length values → value ≡ get_or values i value → number ≤ 1_000 → rule_of (view value) ≡ None
    → rules_before rules (rules_from number (items_view (drop i values))) ≡ Err (fault.BadRule number)
rules_wrong rules values i number value l at few e =
    rw (items_view-drop values i value l, ← at, (nat_le_decides number 1_000).1 few, e)

past_limit : (number : ℕ) (b : Bool) → nat_le number 1_000 ≡ b → 1_000 < number → b ≡ false
past_limit number true e l = let le = (nat_le_decides number 1_000).0 e in absurd (omega arith)
past_limit number false e l = refl

-- an item past the last number
pub rules_past : (rules : List Rule) (values : List Value) (i number : ℕ) (value : Value) → i < length values → 1_000 < number
    → rules_before rules (rules_from number (items_view (drop i values))) ≡ Err (fault.BadRule number)
rules_past rules values i number value l past =
    rw (items_view-drop values i value l, past_limit number (nat_le number 1_000) refl past)

-- all items were rules
pub rules_all : (rules : List Rule) (values : List Value) (i number : ℕ) → length values ≤ i → rules_before rules (rules_from number (items_view (drop i values))) ≡ Ok rules
rules_all rules values i number l = rw (drop_all i values l) (ap (λ xs. Ok xs) (append-nil rules))

-- the codes of an array of values, of which there are some
pub codes_at_array : (member : Option Data) (value : Data) (values : List Value) → Some value ≡ member → Some (items_view values) ≡ as_array value → 0 < length values
    → codes_of (items_view values) ≡ codes_at member
codes_at_array member value values at is l = rw (← at, ← is) (sym (codes_nonempty values l))
