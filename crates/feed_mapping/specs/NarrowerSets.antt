-- What is known of countries that are gathered, each once.
use Rattle.std.specs.Prelude.{◌≡◌, ℕ, List, is_some}
use Rattle.std.specs.BTreeMap.{get_by_text}
use Rattle.std.specs.List.{list_any}
use Rattle.std.specs.Str.{bytes_eq}
use Rattle.feed_mapping.specs.declared.narrower.Countries.{Countries}

-- those that were seen are those that were found
abbrev pub AreSeen : Countries → Type 0
AreSeen c =
    (text : List ℕ) → is_some (get_by_text c.seen text) ≡ list_any (bytes_eq text) c.found
