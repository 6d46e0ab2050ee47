-- Lists of requests that come to the same are stood for alike.
use Rattle.std.proofs.Common.{◌≡◌, ◌+◌, ℕ, Option, IfSome, List, length, sym, ap, ◌∙◌, subst}
use Rattle.std.specs.Prelude.{option_map}
use Rattle.sqlite.specs.Effect.{Database}
use Rattle.desk_tables.specs.Rows.{DeskRows}
use Rattle.onix_records.specs.declared.agreements.Agreement.{Agreement}
use Rattle.series_rules.proofs.AgreementLemmas.{agreements_are_distinct, between_by_name}
use Rattle.series_rules.specs.Agreements.{agreements_of}
use Rattle.series_rules.specs.Content.{SameContent}
use Rattle.series_rules.specs.Firsts.{first_at}
use Rattle.series_rules.specs.declared.requests.Request.{Request}
use Rattle.series_rules.specs.declared.requests.Standing.{Standing}
use Rattle.sqlite_trees.specs.Tree.{Trees}
use Rattle.desk_rows.specs.Desks.{AreRowsOf, HoldsRequests}
use Rattle.desk_rows.specs.Stands.{SeriesStands, StandsFor, IsAppliedToGap, series_of}
use Rattle.desk_rows.specs.Texts.{CanBeKept, IsReadable, standing_text}

-- ---- what stands, told of another function

pub kept_same : (f g : ℕ → Option Standing) → ((n : ℕ) → g n ≡ f n) → CanBeKept f → CanBeKept g
kept_same f g same kept = record {
  readable = λ n. subst (λ o. IfSome o IsReadable) (sym (same n)) (kept.readable n);
  small = λ n le. same n ∙ kept.small n le;
}

stands_same : (f g : ℕ → Option Standing) (a : Agreement) (hs : List Standing) (rows : DeskRows)
    → ((n : ℕ) → g n ≡ f n) → SeriesStands f a hs rows → SeriesStands g a hs rows
stands_same f g a hs rows same s = record {
  can_be_kept = kept_same f g same s.can_be_kept;
  begins = λ j lt. same (a.first + j) ∙ s.begins j lt;
  row = s.row;
  applied = s.applied;
  none_applied = s.none_applied;
  held = λ n le. s.held n le ∙ ap (option_map standing_text) (sym (same n));
  none_held = s.none_held;
  catalogue = s.catalogue;
}

pub applied_to_gap_same : (f g : ℕ → Option Standing) (a : Agreement) (rows : DeskRows)
    → ((n : ℕ) → g n ≡ f n) → IsAppliedToGap f a rows → IsAppliedToGap g a rows
applied_to_gap_same f g a rows same w =
    (w.0, same (a.first + length w.0) ∙ w.1, stands_same f g a w.0 rows same w.2)

-- ---- the tables

-- lists that come to the same are stood for alike
pub stands_by_content : (rows : DeskRows) (L M : List Request) → SameContent L M → StandsFor rows L
    → StandsFor rows M
stands_by_content rows L M same stands = record {
  version = stands.version;
  by_name = λ s. stands.by_name s ∙ same.agreements s;
  by_parties =
      λ x y. stands.by_parties x y
      ∙ ap (λ o. series_of o rows)
      (between_by_name (agreements_of L) (agreements_of M) (agreements_are_distinct L)
      (agreements_are_distinct M) same.agreements x y);
  series =
      λ a found. applied_to_gap_same (first_at L a.name) (first_at M a.name) a rows
      (λ n. sym (same.firsts a.name n)) (stands.series a (same.agreements a.name ∙ found));
  others = λ s none. stands.others s (same.agreements s ∙ none);
}

holds_by_content : (db : Database) (L M : List Request) → SameContent L M → HoldsRequests db L
    → HoldsRequests db M
holds_by_content db L M same held = (held.0, held.1, stands_by_content held.0 L M same held.2)

-- so it is with trees
pub rows_by_content : (trees : Trees) (L M : List Request) → SameContent L M → AreRowsOf trees L
    → AreRowsOf trees M
rows_by_content trees L M same (db, are, (rows, held, stands)) =
    (db, are, (rows, held, stands_by_content rows L M same stands))

-- so it is with what is shown and what was committed, while a connection is open
pub keeps_by_content : (is_open outside : Type 0) (now committed : Database) (L M : List Request)
    → SameContent L M → (is_open → outside × HoldsRequests now L × HoldsRequests committed L)
    → is_open → outside × HoldsRequests now M × HoldsRequests committed M
keeps_by_content is_open outside now committed L M same keeps =
    λ up. let kept = keeps up in
    (kept.0, holds_by_content now L M same kept.1, holds_by_content committed L M same kept.2)
