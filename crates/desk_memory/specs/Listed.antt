-- The articles of what stands at the first numbers of a series.
use Rattle.std.specs.Prelude.{◌≡◌, ◌≤◌, ◌+◌, ℕ, List, length, take}
use Rattle.std.specs.FinMap as map
use Rattle.catalogue_rules.specs.ArticleIndex.{IsIndexOf}
use Rattle.series_rules.specs.Series.{after_all}
use Rattle.desk_memory.specs.declared.articles.Articles.{Articles}
use Rattle.series_rules.specs.declared.requests.Standing.{Standing}

-- the articles of the first so many of hs are listed: an index of the catalogue of these
pub record IsListed (from : ℕ) (hs : List Standing) (articles : Articles) : Type 0 where
  pub count : ℕ
  pub within : count ≤ length hs
  pub next : articles.next ≡ from + count
  pub index : IsIndexOf articles.index (after_all map.empty (take count hs))
