-- What a crash leaves of a file that was just opened.
use Rattle.std.proofs.Common.{◌≡◌, ◌⊎◌, ℕ, Bool, List, [], ◌∷◌, cond, inl, inr, subst}
use Rattle.sqlite_disk.specs.Events.{Event, replay, settled}
use Rattle.sqlite_disk.specs.History.{MayLeave}

-- what a crash may leave of a file that held `start`, after these calls
abbrev Leaves : Bool → List ℕ → List Event → List ℕ → Type 0
Leaves mixes start history c = let m = replay start history in MayLeave mixes m.seen m.synced m.steps c

one_of : (start c : List ℕ) → (c ≡ start) ⊎ (c ≡ start) → c ≡ start
one_of start c (inl is) = is
one_of start c (inr is) = is

-- a file that was settled, since when nothing has happened, is left as it was
pub left_fresh : (mixes : Bool) (log db : List ℕ) (is_log was : Bool) (history : List Event) (key : ℕ) → is_log ≡ was → history ≡ settled key ∷ []
    → (c : List ℕ) → Leaves mixes (cond is_log log db) history c → c ≡ cond was log db
left_fresh mixes log db is_log was history key is fresh c may =
    one_of (cond was log db) c (subst (λ h. Leaves mixes (cond was log db) h c) fresh (subst (λ b. Leaves mixes (cond b log db) history c) is may))
