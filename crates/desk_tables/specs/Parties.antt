-- An identifier of a party as two columns.
use Rattle.std.specs.Prelude.{ℕ, List, [], Option, None, Some}
use Rattle.onix_terms.specs.declared.party.Party.{Party}

-- both are empty if there is none
abbrev pub party_type : Option Party → List ℕ
party_type None = []
party_type (Some party) = party.id_type

-- the value beside it
abbrev pub party_value : Option Party → List ℕ
party_value None = []
party_value (Some party) = party.id_value
