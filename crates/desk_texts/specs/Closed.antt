-- Cutting records into pieces.
use Rattle.std.specs.Prelude.{List, [], ◌∷◌}
use Rattle.desk_texts.specs.Records.{Records}

-- a piece that is done, if it has a record
abbrev pub closed : Records → List Records
closed [] = []
closed (row ∷ more) = (row ∷ more) ∷ []
