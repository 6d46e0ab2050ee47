-- The row Message, with which a message begins: its form and its header.
use Rattle.std.specs.Prelude.{ℕ, List, [], ◌∷◌, Option, Some, None, if◌then◌else◌, codes}
use Rattle.std.specs.List.{list_all}
use Rattle.std.specs.Str.{bytes_eq}
use Rattle.onix_terms.specs.Code.{code2_of, currency_of}
use Rattle.onix_terms.specs.Digits.{digits_of}
use Rattle.onix_terms.specs.Number.{number_of}
use Rattle.onix_terms.specs.Options.{◌>>=◌}
use Rattle.onix_records.specs.Fields.{is_clean, optional, optional_party, party_of}
use Rattle.onix_records.specs.declared.row.Form.{Form}
use Rattle.onix_records.specs.declared.row.Form.TheVariants as form
use Rattle.onix_records.specs.declared.row.Opening.{Opening}

-- form 1 or form 2
abbrev pub form_of : List ℕ → Option Form
form_of text =
    if bytes_eq text (codes "1") then Some form.One
    else if bytes_eq text (codes "2") then Some form.Two
    else None

-- what the ten fields after the name say
unfoldable pub opening_from : List ℕ → List ℕ → List ℕ → List ℕ → List ℕ → List ℕ → List ℕ → List ℕ
    → List ℕ → List ℕ → Option Opening
opening_from version sender_type sender_value to_type to_value number repeat sent price_type
    currency =
    do
      form ← form_of version
      sender ← party_of sender_type sender_value
      addressee ← optional_party to_type to_value
      n ← optional number_of number
      r ← optional digits_of repeat
      t ← optional code2_of price_type
      c ← optional currency_of currency
      Some (record {
        form = form;
        header = record {
          sender = sender;
          addressee = addressee;
          number = n;
          repeat = r;
          sent = sent;
          default_type = t;
          default_currency = c;
        };
      })

-- what the fields after the name say, of which there are ten
unfoldable pub opening_fields : List (List ℕ) → Option Opening
opening_fields (version ∷ sender_type ∷ sender_value ∷ to_type ∷ to_value ∷ number ∷ repeat ∷ sent
    ∷ price_type ∷ currency ∷ []) =
    opening_from version sender_type sender_value to_type to_value number repeat sent price_type
    currency
opening_fields _ = None

-- what a record says, if it is a Message row
unfoldable pub opening_of : List (List ℕ) → Option Opening
opening_of [] = None
opening_of (name ∷ fields) =
    if list_all is_clean (name ∷ fields)
    then (if bytes_eq name (codes "Message") then opening_fields fields else None)
    else None
