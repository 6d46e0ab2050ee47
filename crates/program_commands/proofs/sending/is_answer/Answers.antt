use Rattle.std.proofs.Common.{◌≡◌, ◌∷◌, ◌∙◌, [], ℕ, List, Some, None, false, ap, sym, refl}
use Rattle.csv.specs.Records.{field_at}
use Rattle.desk_texts.specs.Records.{begins_with, is_one_of}
use Rattle.program_commands.specs.Sending.{answer_names}
use Rattle.program_commands.proofs.sending.is_answer.Goals as goal

begins-nothing : (fields : List (List ℕ)) → field_at fields 0 ≡ None → false ≡ begins_with answer_names fields
unfolding field_at
begins-nothing [] e = refl
begins-nothing (name ∷ more) e = cc e

begins-by : (fields : List (List ℕ)) (name : List ℕ) → field_at fields 0 ≡ Some name → is_one_of answer_names name ≡ begins_with answer_names fields
unfolding field_at
begins-by [] name e = cc e
begins-by (first ∷ more) name e = ap (is_one_of answer_names) (some-is (sym e))
  where
    some-is : Some name ≡ Some first → name ≡ first
    some-is q = cc q

pub returns-in-None : goal.returns-in-None
returns-in-None c = begins-nothing _ (sym c.in-None.ensures.value)

pub returns-in-Some : goal.returns-in-Some
returns-in-Some c = c.is_answer_name.ensures ∙ begins-by _ c.in-Some.name.now (sym c.in-Some.ensures.value)
