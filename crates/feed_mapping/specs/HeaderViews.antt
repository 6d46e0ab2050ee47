-- What is read of a Header, without where it lies in memory.
use Rattle.std.specs.Prelude.{◌≡◌, Option, Some, None, Result, Ok, Err, option_map}
use Rattle.std.specs.Result.{result_map_both}
use Rattle.feed_mapping.specs.Header.{Choices as Chosen, Heading as Said}
use Rattle.feed_mapping.specs.Parties.{Pair as Told}
use Rattle.feed_mapping.specs.PartyViews.{pair_view}
use Rattle.feed_mapping.specs.declared.header.Choices.{Choices}
use Rattle.feed_mapping.specs.declared.header.Heading.{Heading}
use Rattle.feed_mapping.specs.declared.header.HeaderFault.{HeaderFault}
use Rattle.feed_mapping.specs.declared.header.HeaderFault.TheVariants as fault
use Rattle.feed_mapping.specs.declared.parties.Pair.{Pair}
use Rattle.feed_mapping.specs.declared.header.HeaderRefusal.{HeaderRefusal}
use Rattle.feed_mapping.specs.declared.header.HeaderRefusal.TheVariants.{Malformed}
use Rattle.onix_records.specs.declared.row.Opening.{Opening}

-- what the caller chooses, as its texts and numbers
abbrev pub choices_view : Choices → Chosen
choices_view c = record {
  parts = c.parts;
  number = c.number;
  offset = c.offset;
  sender = option_map pair_view c.sender;
  addressee = option_map pair_view c.addressee;
  supplier = option_map pair_view c.supplier;
  id_type = c.id_type.now;
}

abbrev pub pair_read : Result Pair HeaderRefusal → Result Told HeaderRefusal
pair_read r = result_map_both pair_view (λ e. e) r

abbrev pub heading_view : Heading → Said
heading_view h =
    record {
      sender = pair_view h.sender;
      addressee = pair_view h.addressee;
      number = h.number;
      opening = h.opening;
    }

-- a call gave what the desk reads, or refused what it does not read, unless memory ran out
abbrev pub IsOpening : Result Opening HeaderFault → Option Opening → Type 0
IsOpening (Ok o) read = read ≡ Some o
IsOpening (Err (fault.Refused e)) read = (e ≡ Malformed) × (read ≡ None)
IsOpening (Err fault.Memory) read = Unit {0}

-- a call gave the heading, or the reason of the refusal, unless memory ran out
abbrev pub IsHeading : Result Heading HeaderFault → Result Said HeaderRefusal → Type 0
IsHeading (Ok h) told = told ≡ Ok (heading_view h)
IsHeading (Err (fault.Refused e)) told = told ≡ Err e
IsHeading (Err fault.Memory) told = Unit {0}
