-- What stands at each number of each series after a list of requests: what the earliest request
-- put there that may put something there.
use Rattle.std.specs.Prelude.{◌&&◌, List, [], ◌∷◌, Option, Some, None, bytes_eq, nat_eq, nat_lt, if◌then◌else◌, ℕ}
use Rattle.std.specs.Option.{option_or}
use Rattle.onix_records.specs.Message.{message_of}
use Rattle.onix_records.specs.declared.agreements.Agreement.{Agreement}
use Rattle.onix_records.specs.declared.parts.Header.{Header}
use Rattle.onix_records.specs.declared.parts.Product.{Product}
use Rattle.series_rules.specs.Agreements.{agreements_of, named, between}
use Rattle.series_rules.specs.declared.requests.Request.{Request}
use Rattle.series_rules.specs.declared.requests.Request.TheVariants.{Deliver, Waive}
use Rattle.series_rules.specs.declared.requests.Standing.{Standing}
use Rattle.series_rules.specs.declared.requests.Standing.TheVariants.{Message, Waived}

-- what a request puts at a number of a series
pub record Placement : Type 0 where
  pub series : List ℕ
  pub number : ℕ
  pub standing : Standing

-- it may stand at that number of the agreed series, unless the number is below the agreed first
abbrev pub admitted_at : Option Agreement → ℕ → Standing → Option Placement
admitted_at None n standing = None
admitted_at (Some a) n standing =
    if nat_lt n a.first then None
    else Some (record { series = a.name; number = n; standing = standing })

-- a message without a number stands nowhere
abbrev pub admitted_number : Option Agreement → Option ℕ → Standing → Option Placement
admitted_number a None standing = None
admitted_number a (Some n) standing = admitted_at a n standing

-- a message stands in the series that its sender and addressee agreed
abbrev pub admitted_message : List Agreement → Option (Header × List Product) → Option Placement
admitted_message agreements None = None
admitted_message agreements (Some m) =
    admitted_number (between agreements m.0.sender m.0.addressee) m.0.number (Message m.1)

-- what a request may put at a number of a series, where these agreements stand: a message with a
-- number its contents, a waiver its mark, at a number of an agreed series that is not below its
-- first
abbrev pub admitted : List Agreement → Request → Option Placement
admitted agreements (Deliver records) = admitted_message agreements (message_of records)
admitted agreements (Waive series number) = admitted_at (named agreements series) number Waived
admitted agreements _ = None

-- what it puts at that number of that series
abbrev pub placed_at : Placement → List ℕ → ℕ → Option Standing
placed_at f series number =
    if bytes_eq f.series series && nat_eq f.number number then Some f.standing else None

-- the same, where there may be nothing to put
abbrev pub put_at : Option Placement → List ℕ → ℕ → Option Standing
put_at None series number = None
put_at (Some f) series number = placed_at f series number

-- what stands at that number of that series: what an earlier request put there, or else what the
-- last one may put there
abbrev pub first_at : List Request → List ℕ → ℕ → Option Standing
first_at [] series number = None
first_at (r ∷ L) series number =
    option_or (first_at L series number) (put_at (admitted (agreements_of L) r) series number)
