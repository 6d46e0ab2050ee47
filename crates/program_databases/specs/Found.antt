-- What is found of a database file and of its log, before they are opened.
use Rattle.std.specs.Prelude.{◌≡◌, ◌⊎◌, ◌<◌, Result, IsErrAnd, IsOkAnd}
use Rattle.std.specs.Fs.{metadata_len}
use Rattle.std.specs.IoError.{error_kind}
use Rattle.std.specs.declared.fs.attrs.Metadata.{Metadata}
use Rattle.std.specs.declared.io.ErrorKind.TheVariants.{NotFound}
use Rattle.std.specs.declared.io.Error.{Error}
use Rattle.desk_versions.specs.declared.opening.Creation.{Creation}
use Rattle.desk_versions.specs.declared.opening.Creation.TheVariants.{Anywhere, InEmpty, Never}
use Rattle.program_desks.specs.declared.kept_desks.Creation as kept_type
use Rattle.program_desks.specs.declared.kept_desks.Creation.TheVariants as kept

-- the databases in which a desk is created, by the files in which one is made
abbrev pub store_creation : kept_type.Creation → Creation
store_creation kept.Anywhere = Anywhere
store_creation kept.InEmpty = InEmpty
store_creation kept.Never = Never

-- there is no such file
abbrev pub IsMissing : Result Metadata Error → Type 0
IsMissing found = IsErrAnd found (λ error. error_kind error ≡ NotFound)

-- a file has no byte
abbrev pub IsEmpty : Result Metadata Error → Type 0
IsEmpty found = IsOkAnd found (λ file. metadata_len file ≡ 0)

-- a file is missing where a desk is created in no new file, or has no byte where none is created
abbrev pub IsRefused : Creation → Result Metadata Error → Type 0
IsRefused Anywhere found = ⊥
IsRefused InEmpty found = IsMissing found
IsRefused Never found = IsMissing found ⊎ IsEmpty found

-- a file has one byte, and nothing of a log lies beside it. The making of a database, which begins
-- with one byte, writes into the log before
abbrev pub IsStray : Result Metadata Error → Result Metadata Error → Type 0
IsStray found log =
    IsOkAnd found (λ file. metadata_len file ≡ 1)
    × ¬ (IsOkAnd log (λ beside. 0 < metadata_len beside))
