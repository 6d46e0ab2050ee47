use Rattle.std.proofs.Common.{◌≡◌, ◌∷◌, ◌∙◌, ◌||◌, [], Bool, ℕ, List, Some, None, true, false, ap, codes, sym, refl}
use Rattle.std.specs.Str.{bytes_eq}
use Rattle.csv.specs.Records.{field_at}
use Rattle.desk_texts.specs.Records.{begins_with}
use Rattle.program_commands.proofs.sending.is_refusal.Goals as goal

begins-nothing : (fields : List (List ℕ)) → field_at fields 0 ≡ None → false ≡ begins_with ("refused" ∷ []) fields
unfolding field_at
begins-nothing [] e = refl
begins-nothing (name ∷ more) e = cc e

or-none : (a : Bool) → a ≡ (a || false)
or-none true = refl
or-none false = refl

begins-by : (fields : List (List ℕ)) (name : List ℕ) → field_at fields 0 ≡ Some name → bytes_eq name (codes "refused") ≡ begins_with ("refused" ∷ []) fields
unfolding field_at
begins-by [] name e = cc e
begins-by (first ∷ more) name e = ap (λ n. bytes_eq n (codes "refused")) (some-is (sym e)) ∙ or-none (bytes_eq first (codes "refused"))
  where
    some-is : Some name ≡ Some first → name ≡ first
    some-is q = cc q

pub returns-in-None : goal.returns-in-None
returns-in-None c = begins-nothing _ (sym c.in-None.ensures.value)

pub returns-in-Some : goal.returns-in-Some
returns-in-Some c = c.eq.ensures ∙ begins-by _ c.in-Some.name.now (sym c.in-Some.ensures.value)
