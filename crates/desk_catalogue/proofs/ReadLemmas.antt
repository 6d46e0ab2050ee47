-- What the rows that were read of one record say of its entry.
use Rattle.std.proofs.Common.{◌≡◌, ◌==◌, ℕ, ◌+◌, ◌<◌, not, arith, List, [], ◌∷◌, ◌++◌, length, get_or, take, map, Option, Some, None, Result, Ok, Err, IfOk, IsTrue, Bool, true, refl, sym, ap, subst, ◌∙◌, false}
use Rattle.std.specs.List.{AllZip, enumerate_from, flat_map, All}
use Rattle.std.specs.Option.{is_some}
use Rattle.std.proofs.lemmas.Bool.Decides.{nat_tests}
use Rattle.onix_records.specs.declared.faults.StoreFault.{StoreFault}
use Rattle.onix_records.specs.declared.parts.Price.{Price}
use Rattle.onix_records.specs.declared.parts.Product.{Product}
use Rattle.onix_records.specs.declared.parts.ProductIdentifier.{ProductIdentifier}
use Rattle.onix_records.specs.declared.parts.ProductSupply.{ProductSupply}
use Rattle.catalogue_rules.specs.declared.entry.Entry.{Entry}
use Rattle.desk_tables.specs.ArticleAnswers.{AreArticlesOf, AreOfferRowsOf}
use Rattle.desk_tables.specs.Rows.{DeskRows}
use Rattle.desk_tables.specs.declared.articles.ArticleRow.{ArticleRow}
use Rattle.desk_tables.specs.declared.offers.OfferRow as typed
use Rattle.desk_tables.specs.declared.records.RecordRow.{RecordRow}
use Rattle.desk_catalogue.specs.EntryRows.{SuppliedDetail, article_rows, ids_of, offer_rows_of, offer_price_row, offer_price_rows, supplied_details, supplies_of, offer_row_of}
use Rattle.desk_catalogue.proofs.HeldLemmas.{held_articles, held_offer_rows}
use Rattle.desk_catalogue.proofs.HeldPriceLemmas.{held_prices}
use Rattle.desk_catalogue.specs.Holding.{HoldsEntry}
use Rattle.desk_catalogue.specs.Storable.{IsStorable}
use Rattle.desk_catalogue.specs.ReadRows.{AreReadAs, Finds, HasIdentifierRows, HasPricesOf, HasSupplyRows, HoldsSupplies, IsReadAs, TellsIdentifiers}
use Rattle.desk_catalogue.specs.declared.record_rows.FoundRecord.TheVariants.{Present}
use Rattle.desk_catalogue.proofs.Additions.{take_push}
use Rattle.std.proofs.lemmas.List.Elements.{All-map}
use Rattle.desk_tables.specs.RecordChanges.{has_minimums_of}

zip_push : {A B : Type 0} (R : A → B → Type 0) (xs : List A) (ys : List B) (x : A) (y : B) → AllZip R xs ys → R x y → AllZip R (xs ++ x ∷ []) (ys ++ y ∷ [])
zip_push R [] [] x y all here = (here, tt)
zip_push R [] (z ∷ ys) x y all here = absurd all
zip_push R (z ∷ xs) [] x y all here = absurd all
zip_push R (a ∷ xs) (b ∷ ys) x y all here = (all.0, zip_push R xs ys x y all.1 here)

-- the prices of one more offer
pub prices_read : (offers : List typed.OfferRow) (i : ℕ) (x : typed.OfferRow) (prices : List (List Price)) (own : List Price) (rows between : DeskRows) → i < length offers → x ≡ get_or offers i x
    → between ≡ rows → AllZip (HasPricesOf rows) (take i offers) prices → HasPricesOf between x own → AllZip (HasPricesOf rows) (take (i + 1) offers) (prices ++ own ∷ [])
prices_read offers i x prices own rows between low is same so_far here =
    subst (λ l. AllZip (HasPricesOf rows) l (prices ++ own ∷ [])) (sym (take_push offers i x low is)) (zip_push (HasPricesOf rows) (take i offers) prices x own so_far (subst (λ (d : DeskRows). HasPricesOf d x own) same here))

-- the rows that were read of a record
pub record AreReadOf (row : RecordRow) (rows : DeskRows) (articles : List ArticleRow) (offers : List typed.OfferRow) (prices : List (List Price)) : Type 0 where
  pub articles_are : AreArticlesOf row.series row.reference rows articles
  pub offers_are : AreOfferRowsOf rows row offers
  pub prices_are : AllZip (HasPricesOf rows) offers prices

-- the prices of a record that is held
pub prices_of_held : (s r : List ℕ) (o : Option Entry) (rows : DeskRows) (offers : List typed.OfferRow) (prices : List (List Price)) → HoldsEntry s r o rows → offers ≡ offer_rows_of s r (supplies_of o) → AllZip (HasPricesOf rows) offers prices
    → prices ≡ map (λ (d : SuppliedDetail). d.detail.prices) (supplied_details (supplies_of o))
prices_of_held s r o rows offers prices held are all = held_prices s r o rows prices held (subst (λ l. AllZip (HasPricesOf rows) l prices) are all)

-- the entry that was made of them is that of the record
pub entry_read : (row : RecordRow) (rows after : DeskRows) (articles : List ArticleRow) (offers : List typed.OfferRow) (prices : List (List Price)) (r : Result Entry StoreFault) → after ≡ rows → AreReadOf row rows articles offers prices
    → ((series reference : List ℕ) (e : Entry) → IsStorable e → articles ≡ article_rows series reference e.ids → offers ≡ offer_rows_of series reference e.supplies
    → prices ≡ map (λ (d : SuppliedDetail). d.detail.prices) (supplied_details e.supplies) → IfOk r (λ x. x ≡ e))
    → IfOk r (λ x. (after ≡ rows) × ((e : Entry) → HoldsEntry row.series row.reference (Some e) rows → x ≡ e))
entry_read row rows after articles offers prices (Err fault) same read makes = tt
entry_read row rows after articles offers prices (Ok x) same read makes = (
  same,
  λ e held.
      let are = held_offer_rows row.series row.reference (Some e) rows offers held read.offers_are in
      makes row.series row.reference e held.storable (held_articles row.series row.reference (Some e) rows articles held read.articles_are) are (prices_of_held row.series row.reference (Some e) rows offers prices held are read.prices_are),
)

no_ids : (s r : List ℕ) (ids : List ProductIdentifier) → article_rows s r ids ≡ [] → ids ≡ []
no_ids s r [] e = refl
no_ids s r (x ∷ ids) e = absurd cc

is_zero : (n : ℕ) → (n == 0) ≡ true → n ≡ 0
is_zero n e = grind (arith, nat_tests)

pub none_of : {A : Type 0} (xs : List A) → (length xs == 0) ≡ true → xs ≡ []
none_of [] e = refl
none_of (x ∷ xs) e = let zero = is_zero (length (x ∷ xs)) e in absurd (omega arith)

pub some_of : {A : Type 0} (xs : List A) → (length xs == 0) ≡ false → xs ≡ [] → ⊥
some_of [] e none = cc
some_of (x ∷ xs) e none = cc

-- a record is there where it has identifiers
pub record_told : (row : RecordRow) (rows : DeskRows) (got : List ArticleRow) (lacks : Bool) → AreArticlesOf row.series row.reference rows got → (lacks ≡ true → got ≡ []) → (lacks ≡ false → got ≡ [] → ⊥)
    → (o : Option Entry) → HoldsEntry row.series row.reference o rows → is_some o ≡ not lacks
record_told row rows got true are none some None held = refl
record_told row rows got true are none some (Some e) held =
    absurd (held.storable.0 (no_ids row.series row.reference e.ids (sym (held_articles row.series row.reference (Some e) rows got held are) ∙ none refl)))
record_told row rows got false are none some None held = absurd (some refl (held_articles row.series row.reference None rows got held are))
record_told row rows got false are none some (Some e) held = refl

-- and these are those that were wanted or not
pub identifiers_told : (row : RecordRow) (ids : List ProductIdentifier) (rows : DeskRows) (got wanted : List ArticleRow) (b : Bool) → AreArticlesOf row.series row.reference rows got → wanted ≡ article_rows row.series row.reference ids → (IsTrue b → got ≡ wanted)
    → (o : Option Entry) → HoldsEntry row.series row.reference o rows → Some b ≡ Some true → HasIdentifierRows row ids (ids_of o)
identifiers_told row ids rows got wanted b are is same o held told = sym (held_articles row.series row.reference o rows got held are) ∙ same (yes b told) ∙ is
  where
    yes : (d : Bool) → Some d ≡ Some true → IsTrue d
    yes true e = refl
    yes false e = absurd cc

-- with its supplies that is what is found of it
pub record_found : (row : RecordRow) (p : Product) (rows : DeskRows) (told : Option Bool) (same_ids same_supplies : Bool) → TellsIdentifiers row p.ids rows told → told ≡ Some same_ids
    → (same_supplies ≡ true → (o : Option Entry) → HoldsEntry row.series row.reference o rows → HasSupplyRows row p.supplies (supplies_of o)) → Finds row p rows (Present same_ids same_supplies)
record_found row p rows told same_ids same_supplies tells is supplies o held = record {
  there = (tells o held).0 ∙ ap is_some is;
  same_identifiers = λ yes. (tells o held).1 (is ∙ ap (λ (b : Bool). Some b) yes);
  same_supplies = λ yes. supplies yes o held;
}

-- SupplyDetails with the same prices have the same rows of prices
same_price_rows : (s r : List ℕ) (k : ℕ) (xs ys : List SuppliedDetail) → map (λ (d : SuppliedDetail). d.detail.prices) xs ≡ map (λ (d : SuppliedDetail). d.detail.prices) ys
    → flat_map (offer_price_rows s r) (enumerate_from k xs) ≡ flat_map (offer_price_rows s r) (enumerate_from k ys)
same_price_rows s r k [] [] e = refl
same_price_rows s r k [] (y ∷ ys) e = absurd cc
same_price_rows s r k (x ∷ xs) [] e = absurd cc
same_price_rows s r k (x ∷ xs) (y ∷ ys) e =
    let here : x.detail.prices ≡ y.detail.prices = cc in
    let later : map (λ (d : SuppliedDetail). d.detail.prices) xs ≡ map (λ (d : SuppliedDetail). d.detail.prices) ys = cc in
    ap (λ l. map (offer_price_row s r k) (enumerate_from 1 l) ++ flat_map (offer_price_rows s r) (enumerate_from (k + 1) xs)) here
    ∙ ap (λ l. map (offer_price_row s r k) (enumerate_from 1 y.detail.prices) ++ l) (same_price_rows s r (k + 1) xs ys later)

-- one of the offers is of a record without minimums, where they are read so
pub one_read_as : (with_minimums : Bool) (offers : List typed.OfferRow) (i : ℕ) (x : typed.OfferRow) (rows : DeskRows) → i < length offers → x ≡ get_or offers i x → AreReadAs with_minimums offers rows
    → with_minimums ≡ false → has_minimums_of x.series x.reference rows ≡ false
one_read_as with_minimums offers i x rows low is reads without = subst (λ (d : typed.OfferRow). has_minimums_of d.series d.reference rows ≡ false) (sym is) (reads without i x low)

-- prices that are read with their minimums
pub read_whole : (offers : List typed.OfferRow) (rows : DeskRows) → AreReadAs true offers rows
read_whole offers rows without = absurd cc

-- those of a record that is held are all of that record
all_read_as : (with_minimums : Bool) (row : RecordRow) (o : Option Entry) (rows : DeskRows) (offers : List typed.OfferRow) → offers ≡ offer_rows_of row.series row.reference (supplies_of o) → IsReadAs with_minimums row rows → AreReadAs with_minimums offers rows
all_read_as with_minimums row o rows offers are reads = λ without.
    let Lacks : typed.OfferRow → Type 0 = λ d. has_minimums_of d.series d.reference rows ≡ false in
    subst (λ (l : List typed.OfferRow). All Lacks l) (sym are) (All-map Lacks (offer_row_of row.series row.reference) (enumerate_from 1 (supplied_details (supplies_of o))) (λ i d low. reads without))

-- the supplies of the record are those that were wanted
pub supplies_held : (with_minimums : Bool) (row : RecordRow) (supplies : List ProductSupply) (rows : DeskRows) (got wanted : List typed.OfferRow) (prices : List (List Price)) (b : Bool) → AreOfferRowsOf rows row got → wanted ≡ offer_rows_of row.series row.reference supplies
    → got ≡ wanted → (AreReadAs with_minimums got rows → AllZip (HasPricesOf rows) got prices) → (IsTrue b → prices ≡ map (λ (d : SuppliedDetail). d.detail.prices) (supplied_details supplies)) → IsReadAs with_minimums row rows → HoldsSupplies row supplies rows b
supplies_held with_minimums row supplies rows got wanted prices b are is same all priced reads = λ o held true.
    let s = row.series in
    let r = row.reference in
    let own = held_offer_rows s r o rows got held are in
    let each = all (all_read_as with_minimums row o rows got own reads) in
    record { offers = sym own ∙ same ∙ is; prices = same_price_rows s r 1 (supplied_details (supplies_of o)) (supplied_details supplies) (sym (prices_of_held s r o rows got prices held own each) ∙ priced true) }
