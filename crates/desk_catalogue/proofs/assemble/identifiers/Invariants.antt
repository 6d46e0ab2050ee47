use Rattle.std.proofs.Common.{◌≡◌, map, take}
use Rattle.desk_catalogue.specs.Assembly.{identifier_of}
use Rattle.desk_catalogue.proofs.assemble.identifiers.Given as goal

abbrev pub invariant-loop-row : goal.invariant-loop-row
invariant-loop-row l = l.ids ≡ map identifier_of (take l.row-index l.rows)
