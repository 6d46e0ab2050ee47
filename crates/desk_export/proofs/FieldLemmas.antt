-- What the fields of a record say of what was read from them.
use Rattle.std.proofs.Common.{◌≡◌, ◌∷◌, [], ℕ, List, true, Option, Some, None, refl, sym, ap}
use Rattle.std.specs.Prelude.{◌<◌, decimal, option_map}
use Rattle.std.specs.List.{list_all}
use Rattle.std.proofs.lemmas.Bool.{and_parts}
use Rattle.std.proofs.lemmas.Option.{cond_some, same_Some}
use Rattle.onix_terms.specs.Code.{code2_of}
use Rattle.onix_terms.specs.Number.{number_of}
use Rattle.onix_terms.specs.Digits.{digits_of}
use Rattle.onix_terms.specs.Options.{◌>>=◌, nonempty}
use Rattle.onix_terms.specs.declared.party.Party.{Party}
use Rattle.onix_records.specs.Fields.{is_clean, optional, optional_party, party_fields, party_of}
use Rattle.onix_records.proofs.FrontRows.{bind-some}

-- what the laws of numbers say
pub record NumberLaws : Type 0 where
  pub digits : (n : ℕ) → n < 1_000_000_000 → digits_of (decimal n) ≡ Some n
  pub number : (n : ℕ) → 0 < n → n < 1_000_000_000 → number_of (decimal n) ≡ Some n
  pub range : (text : List ℕ) (n : ℕ) → number_of text ≡ Some n → (0 < n) × (n < 1_000_000_000)

pub bind-at : {A B : Type 0} (o : Option A) (x : A) (f : A → Option B) → o ≡ Some x → (o >>= f) ≡ f x
bind-at o x f e = ap (λ t. t >>= f) e

pub mapped-some : {A B : Type 0} (f : A → B) (o : Option A) (y : B) → option_map f o ≡ Some y → (x : A) × (o ≡ Some x) × (f x ≡ y)
mapped-some f None y e = cc e
mapped-some f (Some x) y e = (x, refl, same_Some (f x) y e)

pub clean-parts : (field : List ℕ) (fields : List (List ℕ)) → list_all is_clean (field ∷ fields) ≡ true → (is_clean field ≡ true) × (list_all is_clean fields ≡ true)
clean-parts field fields e = and_parts (is_clean field) (list_all is_clean fields) e

pub optional-some : {A : Type 0} (term : List ℕ → Option A) (text : List ℕ) (found : A) → term [] ≡ None → term text ≡ Some found → optional term text ≡ Some (Some found)
optional-some term [] found none e = cc (none, e)
optional-some term (b ∷ bs) found none e = ap (option_map Some) e

code2-same : (text code : List ℕ) → code2_of text ≡ Some code → text ≡ code
code2-same text code e = (cond_some _ text code e).1

nonempty-same : (text found : List ℕ) → nonempty text ≡ Some found → text ≡ found
nonempty-same [] found e = cc e
nonempty-same (b ∷ bs) found e = same_Some (b ∷ bs) found e

-- the type and the value of a party are the fields that it was read from
pub party-same : (id_type id_value : List ℕ) (p : Party) → party_of id_type id_value ≡ Some p → (p.id_type ≡ id_type) × (p.id_value ≡ id_value)
party-same id_type id_value p e =
    let (t, reads_t, f) = bind-some (code2_of id_type) _ p e in
    let (v, reads_v, g) = bind-some (nonempty id_value) _ p f in
    let same = same_Some _ p g in
    let a = code2-same id_type t reads_t in
    let b = nonempty-same id_value v reads_v in
    rw (← same) (sym a, sym b)

party-some : (id_type id_value : List ℕ) (p : Option Party) → option_map Some (party_of id_type id_value) ≡ Some p → party_fields p ≡ id_type ∷ id_value ∷ []
party-some id_type id_value p e =
    let (x, reads, same) = mapped-some Some (party_of id_type id_value) p e in
    let is = party-same id_type id_value x reads in
    rw (← same) (cc (is.0, is.1))

pub party-fields : (id_type id_value : List ℕ) (p : Option Party) → optional_party id_type id_value ≡ Some p → party_fields p ≡ id_type ∷ id_value ∷ []
party-fields [] [] p e = rw (← same_Some None p e) refl
party-fields [] (b ∷ bs) p e = party-some [] (b ∷ bs) p e
party-fields (a ∷ as_) id_value p e = party-some (a ∷ as_) id_value p e
