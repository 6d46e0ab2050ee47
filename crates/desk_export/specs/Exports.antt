-- The requests that make a desk again: what stands after a list of requests, asked for anew.
use Rattle.std.specs.Prelude.{ℕ, List, [], ◌∷◌, ◌≡◌, Option, Some, None}
use Rattle.std.specs.FinMap.{entries}
use Rattle.std.specs.List.{flat_map, range_with_len}
use Rattle.onix_terms.specs.declared.party.Party.{Party}
use Rattle.desk_export.specs.MessageRecords.{message_records}
use Rattle.onix_records.specs.declared.agreements.Agreement.{Agreement}
use Rattle.price_rules.specs.declared.precedence.Rule.{Rule}
use Rattle.series_rules.specs.Agreements.{agreements_of, between}
use Rattle.series_rules.specs.Answers.{answers, followed_by}
use Rattle.series_rules.specs.Content.{SameContent}
use Rattle.series_rules.specs.Firsts.{first_at}
use Rattle.series_rules.specs.Gaps.{greatest_of, numbers_up_to}
use Rattle.series_rules.specs.Offers.{by_name}
use Rattle.series_rules.specs.declared.requests.Request.{Request}
use Rattle.series_rules.specs.declared.requests.Request.TheVariants.{Agree, Deliver, Waive}
use Rattle.series_rules.specs.declared.requests.Standing.{Standing}
use Rattle.series_rules.specs.declared.requests.Standing.TheVariants.{Message, Waived}

-- what puts this at a number of an agreed series: a message of its own parties, or a waiver
abbrev pub request_for : Agreement → ℕ → Standing → Request
request_for a n (Message c) = Deliver (message_records a.sender a.addressee n c)
request_for a n Waived = Waive a.name n

-- the same, where something stands
abbrev pub requests_at : Agreement → ℕ → Option Standing → List Request
requests_at a n None = []
requests_at a n (Some h) = request_for a n h ∷ []

-- what puts anew what is at so many numbers of an agreed series, from one on
abbrev pub requests_from : List Request → Agreement → ℕ → ℕ → List Request
requests_from L a from len =
    flat_map (λ n. requests_at a n (first_at L a.name n)) (range_with_len from len)

-- the requests of an agreed series: its agreement, and then what is at each number, in order
abbrev pub series_requests : List Request → Agreement → List Request
series_requests L a =
    Agree a ∷ requests_from L a a.first (numbers_up_to a.first (greatest_of L a.name))

-- the requests of all agreed series, in order of name, the earliest first
abbrev pub export_of : List Request → List Request
export_of L = flat_map (λ s. series_requests L s.1) (entries (by_name (agreements_of L)))

-- the list of requests that they are, with its latest first as ever
abbrev pub exported : List Request → List Request
exported L = followed_by [] (export_of L)

-- what is exported of a list comes to the same as the list, so that the same agreement is between
-- two parties, and all requests after it are answered alike; lists that come to the same have one
-- export
pub record ExportIsTrue : Type 0 where
  pub same : (L : List Request) → SameContent L (exported L)
  pub parties : (L : List Request) (sender : Party) (addressee : Option Party)
      → between (agreements_of L) sender addressee
      ≡ between (agreements_of (exported L)) sender addressee
  pub further : (rules : List Rule) (L rs : List Request)
      → answers rules L rs ≡ answers rules (exported L) rs
  pub one : (L M : List Request) → SameContent L M → export_of L ≡ export_of M
