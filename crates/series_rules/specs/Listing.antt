-- What stands after a list of requests, as a desk lists it.
use Rattle.std.specs.Prelude.{ℕ, List, Option, map, option_map, codes}
use Rattle.std.specs.FinMap.{entries}
use Rattle.onix_records.specs.declared.agreements.Agreement.{Agreement}
use Rattle.onix_records.specs.ContentsText.{contents_text}
use Rattle.series_rules.specs.Agreements.{agreements_of}
use Rattle.series_rules.specs.Firsts.{first_at}
use Rattle.series_rules.specs.Offers.{by_name}
use Rattle.series_rules.specs.declared.requests.Request.{Request}
use Rattle.series_rules.specs.declared.requests.Standing.{Standing}
use Rattle.series_rules.specs.declared.requests.Standing.TheVariants.{Message, Waived}

-- the text of what stands at a number: that of the contents of a message, or for a waiver a word
-- that is the text of no contents
abbrev pub standing_text : Standing → List ℕ
standing_text (Message c) = contents_text c
standing_text Waived = codes "waived"

-- the agreements that stand, in the order of the bytes of their names
abbrev pub agreements_by_name : List Request → List Agreement
agreements_by_name L = map (λ e. e.1) (entries (by_name (agreements_of L)))

-- the text of what stands at a number of a series
abbrev pub text_after : List ℕ → ℕ → List Request → Option (List ℕ)
text_after series n L = option_map standing_text (first_at L series n)
