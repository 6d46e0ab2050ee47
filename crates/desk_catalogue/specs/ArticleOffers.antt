-- What is answered of the offers of an article where the tables hold all catalogues.
use Rattle.std.specs.Prelude.{◌≡◌, ℕ, List}
use Rattle.std.specs.FinMap.{entries}
use Rattle.std.specs.List.{flat_map}
use Rattle.catalogue_rules.specs.Offers.{offers_in}
use Rattle.desk_tables.specs.ArticleAnswers.{AreOffersOfArticle}
use Rattle.desk_tables.specs.Rows.{DeskRows}
use Rattle.price_rules.specs.declared.offer.Offer.{Offer}
use Rattle.desk_catalogue.specs.Holding.{ByName, HoldsCatalogues}

-- the offers of an article in the tables are those of the catalogues, in order of the names of the
-- series
abbrev pub HeldOffersAreAnswered : Type 0
HeldOffersAreAnswered = (isbn : List ℕ) (catalogues : ByName) (rows : DeskRows)
    (offers : List Offer) → HoldsCatalogues catalogues rows → AreOffersOfArticle isbn rows offers
    → offers ≡ flat_map (λ e. offers_in e.0 e.1 isbn) (entries catalogues)
