-- The terms that the text of a table has.
use Rattle.std.specs.Prelude.{ℕ, ◌+◌, ◌==◌, List, [], ◌∷◌, ◌++◌, Bool, true, ◌&&◌, ◌||◌, not}
use Rattle.std.specs.Prelude.{Option, Some, None, Result, Ok, Err, nat_le, nat_lt, length, codes}
use Rattle.std.specs.Prelude.{is_some, option_map, ◌≡◌, ◌⊎◌, if◌then◌else◌}
use Rattle.std.specs.Char.{is_ascii_digit}
use Rattle.std.specs.List.{list_any}
use Rattle.std.specs.Str.{bytes_eq}
use Rattle.toml.specs.Data.{Data, Items, Members, as_array, as_str, as_table, get_member}
use Rattle.toml.specs.Data.{item, no_items}
use Rattle.toml.specs.Parse.{parse_document}
use Rattle.onix_terms.specs.Code.{code2_of, currency_of}
use Rattle.onix_terms.specs.Options.{◌>>=◌}
use Rattle.onix_records.specs.Fields.{is_clean}
use Rattle.price_rules.specs.RulesFile.{code_of, items_at, keys_pass}
use Rattle.feed_terms.specs.Percents.{percent_of}
use Rattle.feed_terms.specs.declared.term.Rate.{Rate}
use Rattle.feed_terms.specs.declared.term.Rate.TheVariants.{Feed, Fixed}
use Rattle.feed_terms.specs.declared.term.Term.{Term}
use Rattle.feed_terms.specs.declared.term.TermsFault.{TermsFault}
use Rattle.feed_terms.specs.declared.term.TermsFault.TheVariants as fault

-- ---- texts

-- whether no space stands at the end or behind another space; a first one stands behind one, too,
-- if that is so
abbrev pub is_spaced_behind : Bool → List ℕ → Bool
is_spaced_behind behind_space [] = not behind_space
is_spaced_behind behind_space (b ∷ text) =
    not (behind_space && (b == 32)) && is_spaced_behind (b == 32) text

-- whether a text is not empty and has no space at its ends, nor two in a row
abbrev pub is_spaced : List ℕ → Bool
is_spaced text = is_spaced_behind true text

-- a value with its type: two digits, a comma and a text that is a field of the desk, as a feed has
-- it
abbrev pub typed_of : List ℕ → Option (List ℕ)
typed_of (tens ∷ ones ∷ comma ∷ value) =
    if is_ascii_digit tens && is_ascii_digit ones && (comma == 44) && is_clean value
    && is_spaced value
    then Some (tens ∷ ones ∷ comma ∷ value) else None
typed_of _ = None

-- a percent, where it is one that may be, or that it stands in the feed
abbrev pub rate_of : (ℕ → Bool) → List ℕ → Option Rate
rate_of may_be text =
    if bytes_eq text (codes "feed") then Some Feed else (do
      percent ← percent_of text
      if may_be percent then Some (Fixed percent) else None)

-- a discount is one of 100 percent at most
abbrev pub is_discount : ℕ → Bool
is_discount percent = nat_le percent 10_000

abbrev pub any_percent : ℕ → Bool
any_percent percent = true

-- ---- what stands at a key

-- what is read of the text of a key
abbrev pub text_at : {A : Type 0} → (List ℕ → Option A) → Option Data → Option A
text_at read value = value >>= as_str >>= read

-- the same, where the key may be absent
abbrev pub optional_at : {A : Type 0} → (List ℕ → Option A) → Option Data → Option (Option A)
optional_at read None = Some None
optional_at read (Some value) = option_map (λ a. Some a) (as_str value >>= read)

-- types behind these, each two digits, none twice
abbrev pub types_behind : List (List ℕ) → Items → Option (List (List ℕ))
types_behind found no_items = Some found
types_behind found (item value rest) = do
  code ← code_of value
  if list_any (bytes_eq code) found then None else types_behind (found ++ code ∷ []) rest

-- the discount code that a value is
abbrev pub typed_in : Data → Option (List ℕ)
typed_in value = as_str value >>= typed_of

-- discount codes behind these
abbrev pub typed_behind : List (List ℕ) → Items → Option (List (List ℕ))
typed_behind found no_items = Some found
typed_behind found (item value rest) = do
  code ← typed_in value
  typed_behind (found ++ code ∷ []) rest

-- items, of which there is one or more
abbrev pub some_items : Items → Option Items
some_items no_items = None
some_items (item value rest) = Some (item value rest)

-- an array of one or more, read so
abbrev pub array_at : {A : Type 0} → (Items → Option (List A)) → Option Data → Option (List A)
array_at read value = value >>= as_array >>= some_items >>= read

-- the discount codes of a term, which may be absent
abbrev pub codes_at : Option Data → Option (Option (List (List ℕ)))
codes_at None = Some None
codes_at (Some value) = option_map (λ found. Some found) (array_at (typed_behind []) (Some value))

-- the name of a scheme, as a feed has it
abbrev pub scheme_of : List ℕ → Option (List ℕ)
scheme_of text = if is_clean text && is_spaced text then Some text else None

-- the scheme that a value is
abbrev pub scheme_in : Data → Option (List ℕ)
scheme_in value = as_str value >>= scheme_of

-- the scheme of the codes of a term, which may be absent, and stands where codes do
abbrev pub scheme_at : Bool → Option Data → Option (Option (List ℕ))
scheme_at has_codes None = Some None
scheme_at has_codes (Some value) =
    if has_codes then option_map (λ found. Some found) (scheme_in value) else None

-- a type of net prices, which is none of these
abbrev pub net_of : List (List ℕ) → List ℕ → Option (List ℕ)
net_of types text = do
  net ← code2_of text
  if list_any (bytes_eq net) types then None else Some net

-- ---- terms

-- the only key that the top-level table may have
abbrev pub is_top_key : List ℕ → Bool
is_top_key key = bytes_eq key (codes "term")

-- the keys that a term may have
abbrev pub is_term_key : List ℕ → Bool
is_term_key key =
    bytes_eq key (codes "types") || bytes_eq key (codes "codes") || bytes_eq key (codes "scheme")
    || bytes_eq key (codes "supplier") || bytes_eq key (codes "currency")
    || bytes_eq key (codes "net") || bytes_eq key (codes "percent") || bytes_eq key (codes "tax")

-- the term that the members of a table are: types, a type of net prices and a discount; codes, a
-- supplier, a currency and a tax or none; and nothing else
abbrev pub term_in : Members → Option Term
term_in members =
    if keys_pass is_term_key members then (do
      types ← array_at (types_behind []) (get_member (codes "types") members)
      asked ← codes_at (get_member (codes "codes") members)
      scheme ← scheme_at (is_some asked) (get_member (codes "scheme") members)
      supplier ← optional_at typed_of (get_member (codes "supplier") members)
      currency ← optional_at currency_of (get_member (codes "currency") members)
      net ← text_at (net_of types) (get_member (codes "net") members)
      percent ← text_at (rate_of is_discount) (get_member (codes "percent") members)
      tax ← optional_at (rate_of any_percent) (get_member (codes "tax") members)
      Some (record {
        types = types;
        codes = asked;
        scheme = scheme;
        supplier = supplier;
        currency = currency;
        net = net;
        percent = percent;
        tax = tax;
      }))
    else None

-- the term that a value is
unfoldable pub term_of : Data → Option Term
term_of value = as_table value >>= term_in

-- the term that an item is, behind so many others, of which there are fewer than 1,000
abbrev pub term_behind : ℕ → Data → Option Term
term_behind before value = if nat_lt before 1_000 then term_of value else None

-- what is read with a term, or that the item of this number is none
abbrev pub with_term : ℕ → Option Term → (Term → Result (List Term) TermsFault)
    → Result (List Term) TermsFault
with_term number None read = Err (fault.BadTerm number)
with_term number (Some term) read = read term

-- the terms of items behind these, or the first fault
abbrev pub terms_behind : List Term → Items → Result (List Term) TermsFault
terms_behind found no_items = Ok found
terms_behind found (item value rest) =
    with_term (length found + 1) (term_behind (length found) value)
    (λ term. terms_behind (found ++ term ∷ []) rest)

-- the items of the array `term` of a top-level table that holds nothing else
abbrev pub top_items : Members → Option Items
top_items members =
    if keys_pass is_top_key members then items_at (get_member (codes "term") members) else None

-- the terms of the items, if there are such
abbrev pub terms_of : Option Items → Result (List Term) TermsFault
terms_of None = Err fault.NotToml
terms_of (Some items) = terms_behind [] items

-- the terms that a text of a table has, or why it has none
unfoldable pub table_of : List ℕ → Result (List Term) TermsFault
table_of text = terms_of (parse_document text >>= top_items)

-- a call failed as reading does, or where memory ran out
abbrev pub Explains : Result (List Term) TermsFault → TermsFault → Type 0
Explains read e = (e ≡ fault.Memory) ⊎ (read ≡ Err e)
