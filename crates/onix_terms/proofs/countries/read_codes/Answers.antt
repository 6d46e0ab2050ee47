use Rattle.std.proofs.Common.{◌≡◌, [], ℕ, List, Option, Some, None, ◌∷◌, refl, ◌∙◌, sym}
use Rattle.std.specs.Prelude.{fold, option_map}
use Rattle.onix_terms.specs.Territory.{codes_in, with_code}
use Rattle.onix_terms.proofs.countries.read_codes.Goals as goal

nothing : codes_in [] ≡ Some []
unfolding codes_in
nothing = refl

one-more : (codes : List (List ℕ)) (code : List ℕ) (o : Option (List (List ℕ))) → option_map (λ more. fold with_code codes more) (option_map (λ cs. code ∷ cs) o) ≡ option_map (λ more. fold with_code (with_code codes code) more) o
one-more codes code None = refl
one-more codes code (Some cs) = refl

pub loop-codes-init : goal.loop-codes-init
loop-codes-init c = rw c.new-codes.ensures refl

none-left : (codes : List (List ℕ)) (rest : List ℕ) → rest ≡ [] → option_map (λ more. fold with_code codes more) (codes_in rest) ≡ Some codes
unfolding codes_in
none-left codes rest e = rw e refl

pub returns-in-Nothing : goal.returns-in-Nothing
returns-in-Nothing c = sym c.loop-codes.invariant ∙ none-left c.loop-codes.codes c.loop-codes.rest.now c.in-Nothing.ensures
