-- What private functions say of the members of an object that are terms: under which key each
-- stands, and which JSON it is.
use Rattle.std.specs.Prelude.{ℕ, List, [], ◌∷◌}
use Rattle.serde_json.specs.Data.{Data, Members, boolean, put, string}
use Rattle.desk_http.specs.CatalogueJson.{identifier, party}
use Rattle.desk_http.specs.Json.{amount, count, day, list_of, or_null}
use Rattle.desk_http.specs.declared.member.Member.{Member}
use Rattle.desk_http.specs.declared.member.Member.TheVariants as a

-- the key that a member stands under
abbrev pub key_of : Member → List ℕ
key_of (a.Text key _) = key.now
key_of (a.Number key _) = key.now
key_of (a.Count key _) = key.now
key_of (a.Boolean key _) = key.now
key_of (a.OptionalNumber key _) = key.now
key_of (a.Amount key _) = key.now
key_of (a.OptionalAmount key _) = key.now
key_of (a.Day key _) = key.now
key_of (a.OptionalDay key _) = key.now
key_of (a.OptionalCode key _) = key.now
key_of (a.OptionalParty key _) = key.now
key_of (a.Countries key _) = key.now
key_of (a.Identifiers key _) = key.now

-- the JSON of a member's term
abbrev pub value_of : Member → Data
value_of (a.Text _ text) = string text.now
value_of (a.Number _ n) = count n
value_of (a.Count _ n) = count n
value_of (a.Boolean _ b) = boolean b
value_of (a.OptionalNumber _ n) = or_null count n.now
value_of (a.Amount _ x) = amount x.now
value_of (a.OptionalAmount _ x) = or_null amount x.now
value_of (a.Day _ d) = day d.now
value_of (a.OptionalDay _ d) = or_null day d.now
value_of (a.OptionalCode _ code) = or_null string code.now
value_of (a.OptionalParty _ p) = or_null party p.now
value_of (a.Countries _ countries) = list_of string countries.now
value_of (a.Identifiers _ ids) = list_of identifier ids.now

-- the members, with each of these put under its key
abbrev pub put_all : List Member → Members → Members
put_all [] ms = ms
put_all (m ∷ more) ms = put_all more (put (key_of m) (value_of m) ms)
