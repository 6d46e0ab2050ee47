-- What a list of requests leaves for the requests after it.
use Rattle.std.specs.Prelude.{List, ℕ, ◌≡◌}
use Rattle.std.proofs.Common.{◌∙◌}
use Rattle.series_rules.specs.Agreements.{agreements_of, named}
use Rattle.series_rules.specs.Firsts.{first_at}
use Rattle.series_rules.specs.declared.requests.Request.{Request}

-- two lists of requests come to the same: the same agreement under each name, and the same at each
-- number of each series
pub record SameContent (L M : List Request) : Type 0 where
  pub agreements : (name : List ℕ) → named (agreements_of L) name ≡ named (agreements_of M) name
  pub firsts : (series : List ℕ) (number : ℕ) → first_at L series number ≡ first_at M series number

pub same_trans : (L M K : List Request) → SameContent L M → SameContent M K → SameContent L K
same_trans L M K one two = record {
  agreements = λ name. one.agreements name ∙ two.agreements name;
  firsts = λ series number. one.firsts series number ∙ two.firsts series number;
}
