-- What is seen of the files of desks that are opened by their names.
use Rattle.std.specs.Prelude.{◌⊎◌, ◌↔◌, ℕ, List}
use Rattle.onix_records.specs.declared.faults.StoreFault.{StoreFault}
use Rattle.series_rules.specs.Content.{SameContent}
use Rattle.series_rules.specs.Views.{DeskKind, LeavesOnly, View}
use Rattle.series_rules.specs.declared.requests.Request.{Request}
use Rattle.program_desks.specs.declared.kept_desks.Creation.{Creation}
use Rattle.program_desks.specs.declared.kept_desks.Migration.{Migration}

-- What is seen of files, by a desk of this kind. K: what opens them by a name. C: files that were
-- closed. U: what is left of a desk whose files could not be closed. N: what is left where no desk
-- was opened
pub record DeskFiles (K : Type 0) (k : DeskKind) (C U N : Type 0) : Type 1 where
  -- those of a name, before they are opened, which they are only if this is sound, and a desk may
  -- be made in such files or is in them
  pub found : K → List ℕ → Creation → View k
  pub closed : C → View k
  -- they hold that thing and nothing else, and so do all that a crash leaves of them
  pub hold_alone : C → k.Left → Type 0
  pub unclosed : U → View k
  -- of those of a name is left what they held or, whole, what an opening makes of that
  pub spared : K → List ℕ → Creation → N → Type 0
  -- those of a name hold a desk of these requests, of whatever version can be brought to this one
  pub of_any_version : K → List ℕ → List Request → Type 0
  -- what those of a name held was brought to the present version, and is in these
  pub migrated : K → List ℕ → Creation → Migration → C → Type 0
  -- of those of a name is left what they held or, whole, what bringing them there makes of that
  pub unmigrated : K → List ℕ → Creation → N → Type 0

-- A desk was opened of what is seen so: it stands for each list of that, and a crash then leaves
-- only what comes to it.
pub record OpensAs {k : DeskKind} (found desk : View k) : Type 0 where
  pub premise : desk.sound → found.sound
  pub stands : desk.sound → (L : List Request) → found.stands_for L → desk.stands_for L
  pub alone : desk.sound → (L : List Request) → found.stands_for L → LeavesOnly desk L
  -- what comes to each of its lists a crash may have left before
  pub all : (x : k.Left) → ((L : List Request) → found.stands_for L → k.comes_to x L)
      → found.may_leave x
  pub holds : desk.sound → (x : k.Left) → found.holds x → desk.holds x

-- A desk is left as what is seen so: that stands for each list of the desk, and a crash leaves
-- nothing more of it, or only what comes to that list.
pub record LeavesAs {k : DeskKind} (desk last : View k) : Type 0 where
  pub premise : last.sound → desk.sound
  pub stands : last.sound → (L : List Request) → desk.stands_for L → last.stands_for L
  pub left : last.sound → ((x : k.Left) → last.may_leave x → desk.may_leave x)
      ⊎ ((L : List Request) → desk.stands_for L → LeavesOnly last L)
  pub holds : last.sound → (x : k.Left) → desk.holds x → last.holds x

-- The same is seen of desks in two ways, of which the second tells what a crash may leave by more
-- or other than the first does.
pub record SeenAs {D : Type 0} {j k : DeskKind} (first : D → View j) (second : D → View k)
    : Type 0 where
  pub to : k.Left → j.Left
  pub comes_to : (x : k.Left) (L : List Request) → j.comes_to (to x) L → k.comes_to x L
  pub may_give : (f : StoreFault) → j.may_give f → k.may_give f
  pub sound : (desk : D) → (first desk).sound ↔ (second desk).sound
  pub stands : (desk : D) (L : List Request)
      → (first desk).stands_for L ↔ (second desk).stands_for L
  pub may_leave : (desk : D) (x : k.Left)
      → (first desk).may_leave (to x) ↔ (second desk).may_leave x
  pub holds : (desk : D) (x : k.Left) → (first desk).holds (to x) ↔ (second desk).holds x

-- what is seen in one way
pub one_way : {D : Type 0} {k : DeskKind} (seen : D → View k) → SeenAs seen seen
one_way seen = record {
  to = λ x. x;
  comes_to = λ x L comes. comes;
  may_give = λ f may. may;
  sound = λ desk. (λ is. is, λ is. is);
  stands = λ desk L. (λ is. is, λ is. is);
  may_leave = λ desk x. (λ is. is, λ is. is);
  holds = λ desk x. (λ is. is, λ is. is);
}

module _ {K : Type 0} {k : DeskKind} {C U N : Type 0} (files : DeskFiles K k C U N) where
  -- closed files hold one thing, and all that a crash leaves of them holds that
  abbrev pub LastsAlone : C → Type 0
  LastsAlone closed = (files.closed closed).sound → (x : k.Left) × files.hold_alone closed x

  -- lists of requests that the files of a name hold, which may be opened, come to the same
  abbrev pub HoldOneContent : Type 0
  HoldOneContent = (databases : K) (name : List ℕ) (creation : Creation)
      → (files.found databases name creation).sound → (L M : List Request)
      → (files.found databases name creation).stands_for L
      → (files.found databases name creation).stands_for M → SameContent L M

  -- What the files of a name held was brought to the present version: they hold each list of
  -- requests that they held.
  pub record IsMigrated (databases : K) (name : List ℕ) (creation : Creation) (answer : Migration)
      (closed : C) : Type 0 where
    pub requests : (files.closed closed).sound → (L : List Request)
        → files.of_any_version databases name L → (files.closed closed).stands_for L
    pub alone : LastsAlone closed
    pub made : (files.closed closed).sound → files.migrated databases name creation answer closed
