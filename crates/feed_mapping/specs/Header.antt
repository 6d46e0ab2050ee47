-- The Header: what the first record of each part of the message says, or why the message is
-- refused.
use Rattle.std.specs.Prelude.{ℕ, Bool, ◌+◌, ◌-◌, ◌*◌, ◌==◌, List, [], ◌∷◌, Option, Some, None, if◌then◌else◌}
use Rattle.std.specs.Prelude.{find, is_some}
use Rattle.std.specs.Prelude.{Result, Ok, Err, codes, decimal, option_map}
use Rattle.std.specs.List.{list_all, list_any}
use Rattle.std.specs.Option.{ok_or, option_map_or}
use Rattle.std.specs.Str.{is_utf8}
use Rattle.feed_outline.specs.Nodes.{Nodes, no_nodes}
use Rattle.onix_records.specs.Opening.{opening_of}
use Rattle.onix_records.specs.declared.row.Opening.{Opening}
use Rattle.onix_terms.specs.Digits.{digits_of}
use Rattle.onix_terms.specs.Number.{number_from, number_of}
use Rattle.feed_mapping.specs.Elements.{Composite, below_at, each_at, first, some_at, text_at}
use Rattle.feed_mapping.specs.Identifiers.{chosen, identifiers_in}
use Rattle.feed_mapping.specs.Parties.{Pair, is_whole, pair, same_pair}
use Rattle.feed_mapping.specs.Records.{Fields, parsed_term}
use Rattle.feed_mapping.specs.declared.header.HeaderRefusal.{HeaderRefusal}
use Rattle.feed_mapping.specs.declared.header.HeaderRefusal.TheVariants as why

-- What the caller chooses: in how many parts the message is written, a number in place of the
-- Header's or what is added to that one, the sender of a Header that names none, which of several
-- addressees is meant, the supplier whose SupplyDetails alone count, if one is named, and the type
-- of identifier that is preferred.
pub record Choices : Type 0 where
  pub parts : ℕ
  pub number : Option ℕ
  pub offset : ℕ
  pub sender : Option Pair
  pub addressee : Option Pair
  pub supplier : Option Pair
  pub id_type : List ℕ

infixl 10 ◌>>=◌
-- what f makes of a value, if there is one
abbrev pub ◌>>=◌ : {A B : Type 0} → Result A HeaderRefusal → (A → Result B HeaderRefusal)
    → Result B HeaderRefusal
(Err e) >>= f = Err e
(Ok x) >>= f = f x

-- an identifier that is written has both a type and a value
abbrev pub if_whole : Pair → Result Pair HeaderRefusal
if_whole i = if is_whole i then Ok i else Err why.Malformed

-- ---- sender

-- what the caller gives, else what the Header says
abbrev pub given_or : {A : Type 0} → Option A → Result A HeaderRefusal → Result A HeaderRefusal
given_or (Some given) own = Ok given
given_or None own = own

module _ (c : Choices) where
  -- the type and the value of the sender: where the Header has a whole identifier, or the caller
  -- gives none, the one that is chosen
  abbrev pub sender_in : Nodes → Result Pair HeaderRefusal
  sender_in nodes =
      let ids = identifiers_in (codes "SenderIdentifier") (codes "SenderIDType")
      (below_at "Sender" nodes) in
      let named = option_map_or if_whole (chosen c.id_type ids) (Err why.NoSender) in
      if list_any is_whole ids then named else given_or c.sender named

-- ---- addressee

-- the identifiers of an addressee
abbrev pub addressee_ids : Nodes → List Pair
addressee_ids nodes =
    identifiers_in (codes "AddresseeIdentifier") (codes "AddresseeIDType") nodes

-- the first addressee that has this identifier
abbrev pub meant : Pair → List Composite → Result Nodes HeaderRefusal
meant p addressees =
    let found = find (λ a. list_any (same_pair p) (addressee_ids a.below)) addressees in
    ok_or (option_map (λ a. a.below) found) why.NoSuchAddressee

-- one of them has an identifier
abbrev pub are_identified : List Composite → Bool
are_identified addressees = list_any (λ a. is_some (first (addressee_ids a.below))) addressees

-- of several addressees the one that the caller means
abbrev pub picked : Option Pair → List Composite → Result Nodes HeaderRefusal
picked None several = Err why.SeveralAddressees
picked (Some p) several = meant p several

-- what stands in the addressee: of one it is that, of several the one that the caller means, unless
-- none has an identifier: then they are as one without
abbrev pub addressee_in : Option Pair → List Composite → Result Nodes HeaderRefusal
addressee_in p [] = Ok no_nodes
addressee_in p (a ∷ []) = Ok a.below
addressee_in p several = if are_identified several then picked p several else Ok no_nodes

-- the type and the value of the addressee, both empty where there is none
abbrev pub addressee_pair : Choices → Nodes → Result Pair HeaderRefusal
addressee_pair c nodes = do
  below ← addressee_in c.addressee (each_at "Addressee" nodes)
  option_map_or if_whole (chosen c.id_type (addressee_ids below)) (Ok (pair [] []))

-- ---- number

-- a text behind its leading zeros
abbrev pub behind_zeros : List ℕ → List ℕ
behind_zeros [] = []
behind_zeros (b ∷ text) = if b == 48 then behind_zeros text else b ∷ text

-- the number of the Header with what is added to it
abbrev pub added : ℕ → Option (List ℕ) → Result ℕ HeaderRefusal
added offset None = Err why.NoNumber
added offset (Some text) = do
  n ← ok_or (parsed_term number_of (behind_zeros text)) why.WrongNumber
  ok_or (number_from (n + offset)) why.NumberTooGreat

-- the message of this number has so many parts, and the last of them this number: so the first has
-- the one that follows those of the message before
abbrev pub first_number : ℕ → ℕ → Result ℕ HeaderRefusal
first_number parts n = do
  last ← ok_or (number_from (n * parts)) why.LastNumberTooGreat
  Ok (last - parts + 1)

-- the number of the first part, by the one that the caller gives, else that of the Header
abbrev pub number_in : Choices → Nodes → Result ℕ HeaderRefusal
number_in c nodes = do
  n ← given_or c.number (added c.offset (some_at "MessageNumber" nodes))
  first_number c.parts n

-- ---- the record

-- the MessageRepeat: one that is not 1 to 9 digits is as absent, since it decides nothing
abbrev pub repeat_in : Nodes → List ℕ
repeat_in nodes =
    let text = text_at "MessageRepeat" nodes in
    if is_some (parsed_term digits_of text) then text else []

-- the fields behind the name of the record with which a part of this number begins, in form 2, each
-- as it stands
abbrev pub message_fields : Pair → Pair → List ℕ → Nodes → Fields
message_fields sender addressee number nodes =
    codes "2" ∷ sender.id_type ∷ sender.id_value ∷ addressee.id_type ∷ addressee.id_value ∷ number
    ∷ repeat_in nodes ∷ text_at "SentDateTime" nodes
    ∷ text_at "DefaultPriceType" nodes ∷ text_at "DefaultCurrencyCode" nodes ∷ []

-- what the desk reads of the record Message with these fields
abbrev pub parsed_opening : Fields → Option Opening
parsed_opening fields =
    if list_all is_utf8 fields then opening_of (codes "Message" ∷ fields) else None

-- what a Header says: who sends the message and to whom, the number of its first part, and what the
-- first record says to the desk
pub record Heading : Type 0 where
  pub sender : Pair
  pub addressee : Pair
  pub number : ℕ
  pub opening : Opening

-- The Heading of a Header, where the desk would not call its record malformed
abbrev pub heading_in : Choices → Nodes → Result Heading HeaderRefusal
heading_in c nodes = do
  sender ← sender_in c nodes
  addressee ← addressee_pair c nodes
  number ← number_in c nodes
  opening ← ok_or
      (parsed_opening (message_fields sender addressee (decimal number) nodes)) why.Malformed
  Ok (record { sender = sender; addressee = addressee; number = number; opening = opening })
