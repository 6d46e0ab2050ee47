-- How a command ends that lists what a desk in two files holds.
use Rattle.std.proofs.Common.{◌⊎◌, ℕ, List, inl, inr}
use Rattle.series_rules.specs.Views.{DeskKind, LeavesOnly, View}
use Rattle.series_rules.specs.declared.requests.Request.{Request}
use Rattle.desk_export.specs.Asking.{IsAsked}
use Rattle.program_words.specs.declared.invocation.Listing.{Listing}
use Rattle.program_desks.specs.DeskFiles.{LeavesAs, OpensAs, SeenAs}
use Rattle.program_run.specs.ListingEnds.{ListingEnds}

-- what only asked a desk only asked that from which it came and what came of it
module _ {k : DeskKind} (old first last new : View k) (IsSo : List Request → Type 0) (opens : OpensAs old first) (leaves : LeavesAs last new) (asked : IsAsked first last IsSo) where
  module _ (sound : new.sound) where
    ended : last.sound
    ended = leaves.premise sound

    opened : first.sound
    opened = asked.premise ended

    stood : (L : List Request) → old.stands_for L → last.stands_for L
    stood L held = asked.left L (opens.stands opened L held) ended

    left_before : (x : k.Left) → new.may_leave x → old.may_leave x
    left_before x may = opens.all x (λ L held. by L held (leaves.left sound))
      where
        by : (L : List Request) → old.stands_for L → ((y : k.Left) → new.may_leave y → last.may_leave y) ⊎ ((M : List Request) → last.stands_for M → LeavesOnly new M) → k.comes_to x L
        by L held (inl no_more) = opens.alone opened L held x ((asked.stays ended x).1 (no_more x may))
        by L held (inr alone) = alone L (stood L held) x may

  asked_between : IsAsked old new IsSo
  asked_between = record {
    premise = λ sound. opens.premise (opened sound);
    left = λ L held sound. leaves.stands sound L (stood sound L held);
    stays = λ sound x. (λ held. leaves.holds sound x ((asked.stays (ended sound) x).0 (opens.holds (opened sound) x held)), λ may. left_before sound x may);
    so = λ L held sound. asked.so L (opens.stands (opened sound) L held) (ended sound);
  }

-- what only asked a desk did so however that is seen
module _ {D : Type 0} (j k : DeskKind) (first : D → View j) (second : D → View k) (same : SeenAs first second) (old new : D) (IsSo : List Request → Type 0) where
  pub asked_seen : IsAsked (first old) (first new) IsSo → IsAsked (second old) (second new) IsSo
  asked_seen asked = record {
    premise = λ sound. (same.sound old).0 (asked.premise ((same.sound new).1 sound));
    left = λ L held sound. (same.stands new L).0 (asked.left L ((same.stands old L).1 held) ((same.sound new).1 sound));
    stays = λ sound x. (
      λ held. (same.holds new x).0 ((asked.stays ((same.sound new).1 sound) (same.to x)).0 ((same.holds old x).1 held)),
      λ may. (same.may_leave old x).0 ((asked.stays ((same.sound new).1 sound) (same.to x)).1 ((same.may_leave new x).1 may)),
    );
    so = λ L held sound. asked.so L ((same.stands old L).1 held) ((same.sound new).1 sound);
  }

-- a listing that ended over a desk ended so over its files
pub listing_between : {k : DeskKind} (written : List ℕ → Type 0) (listing : Listing) (old first last new : View k) (status : ℕ) → OpensAs old first → LeavesAs last new
    → ListingEnds written listing first last status → ListingEnds written listing old new status
listing_between written listing old first last new status opens leaves end = (asked_between old first last new _ opens leaves end.0, end.1)
