-- What the words of the command `convert` ask for.
use Rattle.std.specs.Prelude.{◌≡◌, ◌≢◌, ◌<◌, ◌≤◌, ℕ, List, [], ◌∷◌, Bool, true, false, Option, Some, None, ◌&&◌, ◌==◌, if◌then◌else◌, codes, count_by, is_some, length, map, nat_lt, option_map, unwrap_or}
use Rattle.std.specs.Char.{is_ascii_digit}
use Rattle.std.specs.Option.{option_map_or}
use Rattle.std.specs.Str.{bytes_eq}
use Rattle.clap.specs.Walk.{Row, Text}
use Rattle.onix_terms.specs.Code.{code2_of}
use Rattle.onix_terms.specs.Digits.{digits_of}
use Rattle.onix_terms.specs.Number.{number_of}
use Rattle.onix_records.specs.Fields.{is_clean}
use Rattle.feed_mapping.specs.Parties.{Pair, pair}
use Rattle.feed_conversion.specs.Conversion.{Options}
use Rattle.feed_conversion.specs.Views.{options_view}
use Rattle.feed_conversion.specs.declared.options.Allowed.{Allowed}
use Rattle.feed_conversion.specs.declared.options.Allowed.TheVariants.{AllWrong, FewWrong, NoWrong}
use Rattle.program_words.specs.Words.{text_in, texts_in}
use Rattle.program_words.specs.declared.convert_words.BadWords.{BadWords}
use Rattle.program_words.specs.declared.convert_words.BadWords.TheVariants as bad
use Rattle.program_words.specs.declared.convert_words.Conversion.{Conversion}
use Rattle.program_words.specs.declared.convert_words.OptionName.{OptionName}
use Rattle.program_words.specs.declared.convert_words.OptionName.TheVariants as named

-- What is asked: how each message is converted, the folder that takes the messages, the file of the
-- shop's terms, and the names of the FILEs
pub record Asked : Type 0 where
  pub options : Options
  pub folder : Option (List ℕ)
  pub terms : Option (List ℕ)
  pub files : List (List ℕ)

-- what is asked, without where it lies in memory
abbrev pub asked_view : Conversion → Asked
asked_view c = record {
  options = options_view c.options;
  folder = option_map (λ name. name.now) c.folder;
  terms = option_map (λ name. name.now) c.terms;
  files = map (λ name. name.now) c.files.items;
}

-- a value of an identifier is not empty, and may be a field
abbrev pub is_value : List ℕ → Bool
is_value text = nat_lt 0 (length text) && is_clean text

-- the identifier that a word TYPE,VALUE is, whose type is two digits
abbrev pub identifier_of : List ℕ → Option Pair
identifier_of (first ∷ second ∷ comma ∷ value) =
    if is_ascii_digit first && is_ascii_digit second && (comma == 44) && is_value value
    then Some (pair (first ∷ second ∷ []) value) else None
identifier_of other = None

-- of how many wrong products a message is taken, by its word
abbrev pub allowed_of : List ℕ → Option Allowed
allowed_of word =
    if bytes_eq word (codes "none") then Some NoWrong
    else if bytes_eq word (codes "few") then Some FewWrong
    else if bytes_eq word (codes "all") then Some AllWrong
    else None

-- what the word of an option is read as, or the default where it has none
abbrev pub word_or : {A : Type 0} → (List ℕ → Option A) → A → List Row → List ℕ
    → Option A
word_or read default own name = option_map_or read (text_in own name) (Some default)

-- what the word of an option is read as, if it has one
abbrev pub word_as : {A : Type 0} → (List ℕ → Option A) → List Row → List ℕ
    → Option (Option A)
word_as read = word_or (λ word. option_map Some (read word)) None

-- the FILEs that are named, or standard input
abbrev pub files_named : List Row → List (List ℕ)
files_named own = unwrap_or (texts_in own (codes "file")) (codes "-" ∷ [])

-- how each message is converted, by the options and operands: each word is read by its rule, and
-- has its default; the terms are those of a file, which is not read yet
abbrev pub AreOptions : List Row → Options → Type 0
AreOptions own o =
    (word_or digits_of 1 own (codes "parts") ≡ Some o.choices.parts)
    × (word_as number_of own (codes "number") ≡ Some o.choices.number)
    × (word_or digits_of 0 own (codes "number-offset") ≡ Some o.choices.offset)
    × (word_as identifier_of own (codes "sender") ≡ Some o.choices.sender)
    × (word_as identifier_of own (codes "addressee") ≡ Some o.choices.addressee)
    × (word_as identifier_of own (codes "supplier") ≡ Some o.choices.supplier)
    × (word_or code2_of (codes "06") own (codes "id-type") ≡ Some o.choices.id_type)
    × (word_or allowed_of FewWrong own (codes "wrong") ≡ Some o.wrong)
    × (o.terms ≡ None)

-- how many FILEs are standard input
abbrev pub inputs_in : List Text → ℕ
inputs_in files = count_by (λ name. bytes_eq name (codes "-")) files

-- a number is given, and how many are added to that of the message
abbrev pub has_two_numbers : List Row → Bool
has_two_numbers own =
    is_some (text_in own (codes "number")) && is_some (text_in own (codes "number-offset"))

-- several FILEs need a folder, no number is for all of them, and standard input is read once
abbrev pub AreForFiles : Asked → Type 0
AreForFiles a =
    (inputs_in a.files ≤ 1)
    × (1 < length a.files → (is_some a.folder ≡ true) × (a.options.choices.number ≡ None))

-- What the options and operands ask for.
abbrev pub AsksFor : List Row → Asked → Type 0
AsksFor own a =
    AreOptions own a.options
    × (a.folder ≡ text_in own (codes "folder"))
    × (a.terms ≡ text_in own (codes "terms"))
    × (a.files ≡ files_named own)
    × (has_two_numbers own ≡ false)
    × AreForFiles a

-- this is the word of an option, and it is not read
abbrev pub IsUnread : {A : Type 0} → (List ℕ → Option A) → List Row → List ℕ → List ℕ
    → Type 0
IsUnread read own name word = (text_in own name ≡ Some word) × (read word ≡ None)

-- this is the word of that option, and breaks its rule
abbrev pub IsWrongWord : List Row → OptionName → List ℕ → Type 0
IsWrongWord own named.Parts word = IsUnread digits_of own (codes "parts") word
IsWrongWord own named.Number word = IsUnread number_of own (codes "number") word
IsWrongWord own named.NumberOffset word = IsUnread digits_of own (codes "number-offset") word
IsWrongWord own named.Sender word = IsUnread identifier_of own (codes "sender") word
IsWrongWord own named.Addressee word = IsUnread identifier_of own (codes "addressee") word
IsWrongWord own named.Supplier word = IsUnread identifier_of own (codes "supplier") word
IsWrongWord own named.IdType word = IsUnread code2_of own (codes "id-type") word
IsWrongWord own named.Wrong word = IsUnread allowed_of own (codes "wrong") word

-- words are refused for the word of that option, which is such
abbrev pub IsOf : OptionName → (List ℕ → Type 0) → BadWords → Type 0
IsOf option such (bad.Value told word) = (told ≡ option) × such word.now
IsOf option such other = ⊥

-- Why words ask for nothing: one breaks its rule, they name two numbers or are not for several
-- FILEs; or memory ran out.
abbrev pub AsksNothing : List Row → BadWords → Type 0
AsksNothing own (bad.Value option word) = IsWrongWord own option word.now
AsksNothing own bad.TwoNumbers = has_two_numbers own ≡ true
AsksNothing own bad.NoFolder =
    (1 < length (files_named own)) × (text_in own (codes "folder") ≡ None)
AsksNothing own bad.OneNumber =
    (1 < length (files_named own)) × (is_some (text_in own (codes "number")) ≡ true)
AsksNothing own bad.OneInput = 1 < inputs_in (files_named own)
AsksNothing own bad.Memory = Unit {0}

-- they ask for nothing, and not for want of memory
abbrev pub IsBroken : List Row → BadWords → Type 0
IsBroken own told = AsksNothing own told × (told ≢ bad.Memory)

-- what they ask for; none: they are refused
abbrev pub AsksToConvert : List Row → Option Conversion → Type 0
AsksToConvert own (Some conversion) = AsksFor own (asked_view conversion)
AsksToConvert own None = (bad : BadWords) × IsBroken own bad
