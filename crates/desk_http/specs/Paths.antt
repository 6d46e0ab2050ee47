-- The paths of the desk: where each leads.
use Rattle.std.specs.Prelude.{◌≡◌, ◌≢◌, ◌<◌, ℕ, List, [], ◌++◌, length, All, Option, Some, None, codes}
use Rattle.desk_http.specs.declared.routes.Route.{Route}
use Rattle.desk_http.specs.declared.routes.Route.TheVariants as r

-- the path to a route, by its variable part
abbrev pub path_text : Route → List ℕ → List ℕ
path_text r.Messages part = codes "/messages"
path_text r.Price isbn = codes "/articles/" ++ (isbn ++ codes "/price")
path_text r.Choice isbn = codes "/articles/" ++ (isbn ++ codes "/choice")
path_text r.Calendar isbn = codes "/articles/" ++ (isbn ++ codes "/calendar")
path_text r.Gaps name = codes "/series/" ++ (name ++ codes "/gaps")
path_text r.Catalogue name = codes "/series/" ++ (name ++ codes "/catalogue")

-- one segment that is not empty
pub record IsSegment (part : List ℕ) : Type 0 where
  pub some : 0 < length part
  pub no_slash : All (λ b. b ≢ 47) part

-- the variable part is one segment, which only the path of messages has not
abbrev pub HasPart : Route → List ℕ → Type 0
HasPart r.Messages part = part ≡ []
HasPart _ part = IsSegment part

module _ (path : List ℕ) where
  -- the path is that of the route, with this variable part
  abbrev pub IsPathOf : Route → List ℕ → Type 0
  IsPathOf route part = (path ≡ path_text route part) × HasPart route part

  -- the path is that of this route with this variable part, or of none
  abbrev pub LeadsTo : Option Route → List ℕ → Type 0
  LeadsTo (Some route) part = IsPathOf route part
  LeadsTo None part = (route : Route) (other : List ℕ) → ¬ (IsPathOf route other)
