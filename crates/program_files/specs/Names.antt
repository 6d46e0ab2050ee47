-- Names of files.
use Rattle.std.specs.Prelude.{ℕ, zero, suc, ◌-◌, ◌++◌, Bool, List, ◌∷◌, [], ◌==◌, ◌&&◌, ◌||◌, if◌then◌else◌}
use Rattle.std.specs.Prelude.{codes, drop, length, map, max, nat_lt, take}
use Rattle.std.specs.List.{after_last, before_last, repeat, suffix_len}
use Rattle.std.specs.Char.{to_ascii_lowercase}
use Rattle.std.specs.Fmt.{decimal}
use Rattle.std.specs.Str.{bytes_eq}

abbrev pub is_slash : ℕ → Bool
is_slash byte = byte == 47

abbrev pub is_point : ℕ → Bool
is_point byte = byte == 46

-- a path without the slashes behind it
abbrev pub without_slashes : List ℕ → List ℕ
without_slashes path = take (length path - suffix_len is_slash path) path

-- its last part
abbrev pub last_part : List ℕ → List ℕ
last_part path = after_last is_slash (without_slashes path)

-- a name has an extension: behind its last point and before that stands something
abbrev pub has_extension : List ℕ → Bool
has_extension name = nat_lt 0 (length (before_last is_point name))
    && nat_lt 0 (length (after_last is_point name))

-- a name without its last extension
abbrev pub without_extension : List ℕ → List ℕ
without_extension name = if has_extension name then before_last is_point name else name

-- the NAME of the messages of a FILE, of which `-` is standard input
abbrev pub name_of : List ℕ → List ℕ
name_of file =
    if bytes_eq file (codes "-") then codes "message" else without_extension (last_part file)

-- a path ends so, in capital letters or small ones
abbrev pub ends_so : List ℕ → List ℕ → Bool
ends_so path ending =
    bytes_eq (map to_ascii_lowercase (drop (length path - length ending) path)) ending

-- a FILE is packed by its name: it ends in `.gz` or `.zip`
abbrev pub is_packed : List ℕ → Bool
is_packed file =
    ends_so (without_slashes file) (codes ".gz") || ends_so (without_slashes file) (codes ".zip")

-- a number in so many digits at least
abbrev pub padded : ℕ → ℕ → List ℕ
padded width number = repeat (width - length (decimal number)) (48 ∷ []) ++ decimal number

-- how many digits the numbers of so many parts have in names: two, or as many as the greatest has
abbrev pub digit_count : ℕ → ℕ
digit_count parts = max 2 (length (decimal parts))

-- what stands in a name for one part of several
abbrev pub part_mark : ℕ → ℕ → List ℕ
part_mark part parts =
    if nat_lt 1 parts then codes ".part-" ++ padded (digit_count parts) part else []

-- the name of the file of a part, which is the only one of its message or one of several
abbrev pub part_name : List ℕ → ℕ → ℕ → List ℕ
part_name name part parts = name ++ part_mark part parts ++ codes ".csv"

-- whether a folder ends in a slash
abbrev pub ends_in_slash : List ℕ → Bool
ends_in_slash folder = nat_lt 0 (suffix_len is_slash folder)

-- the path of a file in a folder, of which `.` is the one that the program runs in
abbrev pub path_in : List ℕ → List ℕ → List ℕ
path_in folder name =
    if bytes_eq folder (codes ".") then name
    else if ends_in_slash folder then folder ++ name else folder ++ 47 ∷ name

-- the paths of the first so many parts of a message of this NAME, in a folder
abbrev pub part_paths : List ℕ → List ℕ → ℕ → ℕ → List (List ℕ)
part_paths folder name parts zero = []
part_paths folder name parts (suc number) =
    part_paths folder name parts number
    ++ path_in folder (part_name name (suc number) parts) ∷ []
