-- What the lines on standard error say.
use Rattle.std.specs.Prelude.{ℕ, Bool, ◌==◌, ◌++◌, List, if◌then◌else◌}
use Rattle.std.specs.Prelude.{chars, codes, length, nat_eq, nat_lt, take}
use Rattle.std.specs.Str.Lossy.{utf8_lossy}
use Rattle.std.specs.List.{after_first, before_first, position_or_len}
use Rattle.std.specs.Str.{bytes_eq}
use Rattle.feed_files.specs.declared.reasons.Fate.{Fate}
use Rattle.feed_files.specs.declared.reasons.Fate.TheVariants as fate
use Rattle.watched_output.specs.Shown.{shown}

-- so many bytes of a text at most
abbrev pub front_of : ℕ → List ℕ → List ℕ
front_of most text = if nat_lt most (length text) then take most text else text

-- what stands in a feed, or that nothing stands there
abbrev pub value_text : List ℕ → List ℕ
value_text value =
    if nat_eq (length value) 0 then codes "missing"
    else shown 100 (chars (utf8_lossy (front_of 404 value)))

abbrev pub is_star : ℕ → Bool
is_star b = b == 42

-- words, with what the feed has in the place of their star
abbrev pub filled : List ℕ → List ℕ → List ℕ
filled words value =
    if nat_lt (position_or_len is_star words) (length words)
    then before_first is_star words ++ value_text value ++ after_first is_star words
    else words

-- what becomes of an element of a name
abbrev pub fate_words : Fate → List ℕ → List ℕ
fate_words fate.Emptied name = codes " emptied: "
fate_words fate.Lost name = codes " left out: "
fate_words fate.LeftOut name =
    if bytes_eq name (codes "Territory") then codes " without " else codes " left out: "
fate_words _ name = codes " "

-- the same, and why
abbrev pub fate_text : Fate → List ℕ → List ℕ → List ℕ → List ℕ
fate_text fate name words value = value_text name ++ fate_words fate name ++ filled words value
