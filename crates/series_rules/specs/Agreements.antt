-- The agreements that a list of requests comes to. A list of requests has its latest request
-- first, so that `r ∷ L` is L and then r.
use Rattle.std.specs.Prelude.{◌≡◌, ◌≢◌, AllPairs, Bool, ◌||◌, ◌&&◌, List, [], ◌∷◌, ◌++◌, Option, Some, bytes_eq, find, is_some, if◌then◌else◌, ℕ}
use Rattle.std.specs.Option.{option_eq}
use Rattle.onix_terms.specs.declared.party.Party.{Party}
use Rattle.onix_records.specs.SameContents.{same_party}
use Rattle.onix_records.specs.declared.agreements.Agreement.{Agreement}
use Rattle.series_rules.specs.declared.requests.Request.{Request}
use Rattle.series_rules.specs.declared.requests.Request.TheVariants.{Agree}

-- two addressees that are the same party, or both none
abbrev pub same_addressee : Option Party → Option Party → Bool
same_addressee p q = option_eq same_party p q

-- the agreement has that name
abbrev pub has_name : List ℕ → Agreement → Bool
has_name name a = bytes_eq a.name name

-- the agreement has that sender and that addressee
abbrev pub has_parties : Party → Option Party → Agreement → Bool
has_parties sender addressee a = same_party a.sender sender && same_addressee a.addressee addressee

-- the agreement of that name
abbrev pub named : List Agreement → List ℕ → Option Agreement
named agreements name = find (has_name name) agreements

-- the agreement of that sender and addressee
abbrev pub between : List Agreement → Party → Option Party → Option Agreement
between agreements sender addressee = find (has_parties sender addressee) agreements

-- some agreement has the name of this one, or has its sender and addressee
abbrev pub clashes : List Agreement → Agreement → Bool
clashes agreements a =
    is_some (named agreements a.name) || is_some (between agreements a.sender a.addressee)

-- the agreements with one more at the end, unless it clashes
abbrev pub with_agreement : List Agreement → Agreement → List Agreement
with_agreement agreements a = if clashes agreements a then agreements else agreements ++ a ∷ []

-- the agreements that stand after a list of requests, the earliest first: each that was asked for,
-- unless it clashes with one before it
abbrev pub agreements_of : List Request → List Agreement
agreements_of [] = []
agreements_of (Agree a ∷ L) = with_agreement (agreements_of L) a
agreements_of (_ ∷ L) = agreements_of L

-- what is found by its name is found by its sender and addressee too, and the other way round
pub record AreDistinct (agreements : List Agreement) : Type 0 where
  pub by_name : (name : List ℕ) (a : Agreement) → named agreements name ≡ Some a
      → between agreements a.sender a.addressee ≡ Some a
  pub by_parties : (sender : Party) (addressee : Option Party) (a : Agreement)
      → between agreements sender addressee ≡ Some a → named agreements a.name ≡ Some a

-- no two of the agreements have a name in common, nor a sender and addressee
pub record NoTwoClash (agreements : List Agreement) : Type 0 where
  pub by_name : AllPairs (λ a b. a.name ≢ b.name) agreements
  pub by_parties : AllPairs (λ a b. a.sender ≡ b.sender → a.addressee ≢ b.addressee) agreements
