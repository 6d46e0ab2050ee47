-- What the paths of the desk name.
use Rattle.std.specs.Prelude.{◌≡◌, ℕ, List, [], ◌++◌, codes, ⊤}
use Rattle.desk_http.specs.declared.routes.Route.{Route}
use Rattle.desk_http.specs.declared.routes.Route.TheVariants as r
use Rattle.desk_http.specs.Paths.{IsSegment}

-- a place, with the variable part of its path
pub data Place : Type 0 where
  messages : Place
  price choice calendar gaps catalogue : List ℕ → Place

-- the path of a place
abbrev pub path_text : Place → List ℕ
path_text messages = codes "/messages"
path_text (price isbn) = codes "/articles/" ++ (isbn ++ codes "/price")
path_text (choice isbn) = codes "/articles/" ++ (isbn ++ codes "/choice")
path_text (calendar isbn) = codes "/articles/" ++ (isbn ++ codes "/calendar")
path_text (gaps name) = codes "/series/" ++ (name ++ codes "/gaps")
path_text (catalogue name) = codes "/series/" ++ (name ++ codes "/catalogue")

-- the part in a place's path is one segment that is not empty
abbrev pub HasSegment : Place → Type 0
HasSegment messages = ⊤
HasSegment (price isbn) = IsSegment isbn
HasSegment (choice isbn) = IsSegment isbn
HasSegment (calendar isbn) = IsSegment isbn
HasSegment (gaps name) = IsSegment name
HasSegment (catalogue name) = IsSegment name

-- the path is that of the place
pub record IsPathOf (path : List ℕ) (place : Place) : Type 0 where
  pub text : path ≡ path_text place
  pub segment : HasSegment place

-- the route to a place
abbrev pub route_of : Place → Route
route_of messages = r.Messages
route_of (price isbn) = r.Price
route_of (choice isbn) = r.Choice
route_of (calendar isbn) = r.Calendar
route_of (gaps name) = r.Gaps
route_of (catalogue name) = r.Catalogue

-- the variable part of a place's path
abbrev pub part_of : Place → List ℕ
part_of messages = []
part_of (price isbn) = isbn
part_of (choice isbn) = isbn
part_of (calendar isbn) = isbn
part_of (gaps name) = name
part_of (catalogue name) = name

-- the key of a place
abbrev pub key_of_place : Place → ℕ
key_of_place messages = 3
key_of_place (price isbn) = 2
key_of_place (choice isbn) = 1
key_of_place (calendar isbn) = 0
key_of_place (gaps name) = 5
key_of_place (catalogue name) = 4

-- the path is that of a place with this key
unfoldable pub PlaceAt : List ℕ → ℕ → Type 0
PlaceAt path k = (place : Place) × IsPathOf path place × (key_of_place place ≡ k)
