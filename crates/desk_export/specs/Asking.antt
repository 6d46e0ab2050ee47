-- A desk that is only asked.
use Rattle.std.specs.Prelude.{List}
use Rattle.series_rules.specs.Views.{DeskKind, Stays, View}
use Rattle.series_rules.specs.declared.requests.Request.{Request}

-- A desk was asked questions alone: it stands for what it did, and nothing changed. After each list
-- for which it stood, this is so
pub record IsAsked {k : DeskKind} (old new : View k) (IsSo : List Request → Type 0) : Type 0 where
  pub premise : new.sound → old.sound
  pub left : (L : List Request) → old.stands_for L → new.sound → new.stands_for L
  pub stays : new.sound → Stays old new
  pub so : (L : List Request) → old.stands_for L → new.sound → IsSo L
