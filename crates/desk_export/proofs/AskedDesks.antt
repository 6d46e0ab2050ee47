-- Questions to a desk, one after the other.
use Rattle.std.proofs.Common.{◌≡◌, List, ℕ, Result}
use Rattle.std.specs.Prelude.{⊤}
use Rattle.series_rules.specs.Views.{DeskKind, View}
use Rattle.series_rules.specs.declared.requests.Request.{Request}
use Rattle.desk_export.specs.Asking.{IsAsked}
use Rattle.desk_export.specs.Exporting.{IsTaken, Takes}

module _ {k : DeskKind} {old new : View k} where
  -- so much less is so too
  pub asked_as : {P Q : List Request → Type 0} → IsAsked old new P → ((L : List Request) → P L → Q L) → IsAsked old new Q
  asked_as one less = record { premise = one.premise; left = one.left; stays = one.stays; so = λ L stands sound. less L (one.so L stands sound) }

  -- a list asks
  pub asked_list : {A F T : Type 0} {takes part : T → T → List ℕ → Type 0} {texts : List Request → List (List ℕ)} {from to : T} {Q : List Request → Type 0} (r : Result A F)
      → IsTaken takes part (λ L. ⊤) texts old new from to r → ((L : List Request) → Takes takes part from to (texts L) r → Q L) → IsAsked old new Q
  asked_list r exported means = record { premise = exported.premise; left = exported.left; stays = exported.stays; so = λ L stands sound. means L (exported.taken L stands sound tt) }
