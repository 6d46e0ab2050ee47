-- Pairs without where they lie in memory.
use Rattle.feed_mapping.specs.declared.parties.Pair.{Pair}
use Rattle.feed_mapping.specs.Parties.{Pair as Told, pair}

-- a pair, as its two texts
abbrev pub pair_view : Pair → Told
pair_view p = pair p.id_type.now p.id_value.now
