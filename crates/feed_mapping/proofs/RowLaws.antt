-- The records that are made of a Product are its rows.
use Rattle.std.proofs.Common.{◌≡◌, ℕ, List, [], ◌∷◌, ◌++◌, Bool, true, false, Option, Some, None, map, length, refl, sym, ap, ◌∙◌, subst}
use Rattle.std.specs.Prelude.{◌==◌, ◌&&◌, ◌||◌, not, if◌then◌else◌, option_map, codes, is_some}
use Rattle.std.specs.List.{AllByRecursion, flat_map, list_all}
use Rattle.std.specs.Option.{option_map_or, option_or, unwrap_or}
use Rattle.std.specs.Str.{bytes_eq, is_utf8}
use Rattle.std.proofs.lemmas.Bool.{and_from, and_parts}
use Rattle.std.proofs.lemmas.List.{append-nil}
use Rattle.std.proofs.lemmas.List.Concat.{flat_map-append}
use Rattle.std.proofs.lemmas.Option.{cond_some, same_Some}
use Rattle.std.specs.Char.{is_ascii, is_ascii_digit}
use Rattle.onix_records.proofs.CleanTexts.{code2-clean}
use Rattle.onix_terms.specs.Options.{nonempty}
use Rattle.feed_mapping.specs.declared.notes.Wrong.{Wrong}
use Rattle.feed_xml.specs.Grammar.{is_filled}
use Rattle.feed_outline.specs.Nodes.{Nodes}
use Rattle.onix_records.specs.Detail.{detail_of}
use Rattle.onix_records.specs.Fields.{is_clean, territory_fields}
use Rattle.onix_records.specs.PartRows.{HasDetails, SuppliesHaveDetails, detail_rows, product_rows, supply_rows}
use Rattle.onix_records.specs.Product.{pairs_of, product_of}
use Rattle.onix_records.specs.Row.{row_of}
use Rattle.onix_records.specs.Supply.{supply_of}
use Rattle.onix_records.specs.declared.parts.Price.{Price}
use Rattle.onix_records.specs.declared.parts.Product.{Product}
use Rattle.onix_records.specs.declared.parts.ProductIdentifier.{ProductIdentifier}
use Rattle.onix_records.specs.declared.parts.ProductSupply.{ProductSupply}
use Rattle.onix_records.specs.declared.parts.SupplyDetail.{SupplyDetail}
use Rattle.onix_records.specs.declared.row.Opening.{Opening}
use Rattle.onix_records.specs.declared.row.Row.TheVariants as row
use Rattle.onix_records.proofs.Bare.{detail-bare, product-bare, supply-bare}
use Rattle.onix_records.proofs.FrontRows.{bind-some}
use Rattle.onix_terms.specs.Code.{code2_of}
use Rattle.onix_terms.specs.Territory.{countries_text, territory_of, world_text}
use Rattle.onix_terms.specs.declared.territory.Territory.{Territory}
use Rattle.feed_mapping.specs.PriceTexts.{prices_in}
use Rattle.feed_mapping.specs.Details.{context_in, detail_fields, priced_records, supplier_id, detail_reasons, detail_reason, field_reason, old_supply}
use Rattle.feed_mapping.specs.Elements.{Composite, each_at, first}
use Rattle.feed_mapping.specs.Markets.{early_market_reasons, first_kept, kept_area, kept_fields, kept_outcome, market_reason, markets_outcome, supply_record, territories_of, union_fields}
use Rattle.feed_mapping.proofs.MarketLaws.{joined_outcome}
use Rattle.feed_mapping.specs.Notes.{Reason, foreign, wrong}
use Rattle.feed_mapping.specs.Outcomes.{Outcome, all_records, left_out, nothing, outcome_reason, outcome_records, written_unless}
use Rattle.feed_mapping.specs.ProductRecords.{is_alone, notification_written, variants, smaller_variants, fate_by, records_by, supplies_in, why_emptied}
use Rattle.feed_mapping.specs.Products.{dropping, identifier_reason, identifiers_in, is_code, is_there, notification_in, or_reference, own_reason, pair_reason, product_record, reference_in, right_pair, right_pairs, type_of, value_of, value_written}
use Rattle.feed_mapping.specs.Parties.{Pair}
use Rattle.feed_mapping.specs.Records.{clean, first_some, if_empty, is_field, parsed, parsed_term, unless, invalid}
use Rattle.feed_mapping.specs.Rows.{AreOf, AreProducts, MayCompute, references_of}
use Rattle.feed_mapping.specs.SupplyChoices.{SupplyChoices}
use Rattle.feed_mapping.specs.Supplies.{detail_in, detailed_outcome, details_in, supplies_reason, supply_in, supply_markets, supply_outcome}
use Rattle.feed_mapping.specs.declared.notes.Foreign.TheVariants as other
use Rattle.feed_mapping.specs.Territories.{Area, area_fields, area_in, area_reason, area_reasons, market_of}
use Rattle.feed_mapping.specs.Unions.{union}
use Rattle.feed_mapping.specs.declared.notes.Wrong.TheVariants as bad
use Rattle.feed_mapping.proofs.Utf8Laws.{ascii-field, empty-fields, named-utf8, territory-utf8, utf8-joined}
use Rattle.feed_terms.specs.HeldBack.{is_held_back}
use Rattle.feed_terms.specs.declared.term.Term.{Term}
use Rattle.feed_mapping.specs.PriceTerms.{all_given, closed_kinds, supplier_of}
use Rattle.feed_mapping.proofs.ComputedRows.{TermLaws, all-with}
use Rattle.feed_mapping.proofs.PriceRows.{ArePrices, Reads, Records, as-rows, both, clean-read, cond-then, detail-row, is-there, map-joined, mapped, no-rows, one-first, or-none, prices-rows, product-row, said-read, supply-row, taken}

-- ---- SupplyDetails

-- records are the rows of SupplyDetails
abbrev AreDetails : Opening → Records → Type 0
AreDetails o records = (ds : List SupplyDetail) × Reads o records (flat_map detail_rows ds)

one-detail : (o : Opening) (fields : List (List ℕ)) (d : SupplyDetail) (ps : List Price) (prices : Records) → list_all is_clean fields ≡ true → list_all is_utf8 fields ≡ true → detail_of fields ≡ Some d
    → Reads o prices (map row.Price ps) → Reads o ((codes "SupplyDetail" ∷ fields) ∷ prices) (flat_map detail_rows (record d { prices = ps } ∷ []))
one-detail o fields d ps prices all utf8 is reads =
    let first : row_of o (codes "SupplyDetail" ∷ fields) ≡ Some (row.SupplyDetail (record d { prices = [] })) =
    detail-row o fields d all is ∙ ap (λ (k : List Price). Some (row.SupplyDetail (record d { prices = k }))) (detail-bare fields d is) in
    as-rows o _ (detail_rows (record d { prices = ps })) _ (sym (append-nil (detail_rows (record d { prices = ps }))))
    (one-first o (codes "SupplyDetail" ∷ fields) (row.SupplyDetail (record d { prices = [] })) prices (map row.Price ps) first (named-utf8 (codes "SupplyDetail") fields refl utf8) reads)

-- the records of the Prices of a SupplyDetail
priced-rows : TermLaws → (o : Opening) (choices : SupplyChoices) (nodes : Nodes) → MayCompute o choices.terms → ArePrices o (priced_records o choices.terms choices.preferred nodes)
priced-rows laws o choices nodes may = go choices.terms may
  where
    go : (terms : Option (List Term)) → MayCompute o terms → ArePrices o (priced_records o terms choices.preferred nodes)
    go None may = prices-rows (context_in o nodes) (prices_in nodes)
    go (Some terms) (two, coded) = (
      _,
      all-with laws (context_in o nodes) two terms coded (supplier_of (supplier_id choices.preferred nodes))
          (is_held_back terms (supplier_of (supplier_id choices.preferred nodes)) (all_given (context_in o nodes) (prices_in nodes)) (closed_kinds (context_in o nodes) (prices_in nodes))) (prices_in nodes),
    )

detail-rows : TermLaws → (o : Opening) (choices : SupplyChoices) (nodes : Nodes) → MayCompute o choices.terms → (notes : List Reason) (kind : Option Reason) → detail_reason choices.preferred nodes ≡ kind
    → AreDetails o (outcome_records (written_unless kind ((codes "SupplyDetail" ∷ detail_fields choices.preferred nodes) ∷ priced_records o choices.terms choices.preferred nodes) notes))
detail-rows laws o choices nodes may notes (Some kind) e = ([], no-rows o)
detail-rows laws o choices nodes may notes None e =
    let fields = detail_fields choices.preferred nodes in
    let none = or-none (option_map (wrong bad.OldElement) (old_supply nodes)) (field_reason choices.preferred nodes) e in
    let (d, read) = taken (parsed detail_of fields) (unwrap_or (first_some (detail_reasons choices.preferred nodes)) (wrong bad.SupplyDetail [])) none in
    let s = said-read detail_of fields d read in
    let (ps, prices) = priced-rows laws o choices nodes may in (
      record d { prices = ps } ∷ [],
      one-detail o fields d ps (priced_records o choices.terms choices.preferred nodes) s.clean s.utf8 s.is prices,
    )

details-rows : TermLaws → (o : Opening) (choices : SupplyChoices) → MayCompute o choices.terms → (cs : List Composite) → AreDetails o (all_records (detail_in o choices) cs)
details-rows laws o choices may [] = ([], no-rows o)
details-rows laws o choices may (c ∷ cs) =
    let (ds, e) = detail-rows laws o choices c.below may _ (detail_reason choices.preferred c.below) refl in
    let (es, f) = details-rows laws o choices may cs in (
      ds ++ es,
      as-rows o _ (flat_map detail_rows ds ++ flat_map detail_rows es) (flat_map detail_rows (ds ++ es)) (sym (flat_map-append detail_rows ds es))
          (both o (outcome_records (detail_in o choices c)) (all_records (detail_in o choices) cs) (flat_map detail_rows ds) (flat_map detail_rows es) e f),
    )

-- ---- the Markets of a ProductSupply

-- a record that is a bare row of a ProductSupply
record IsSupply (o : Opening) (fields : List (List ℕ)) : Type 0 where
  pub supply : ProductSupply
  pub row : row_of o fields ≡ Some (row.ProductSupply supply)
  pub bare : supply.details ≡ []
  pub utf8 : list_all is_utf8 fields ≡ true

supply-is : (o : Opening) (fields : List (List ℕ)) (s : ProductSupply) → list_all is_clean fields ≡ true → list_all is_utf8 fields ≡ true → supply_of fields ≡ Some s → IsSupply o (supply_record fields)
supply-is o fields s all utf8 is = record {
  supply = s;
  row = supply-row o fields s all is;
  bare = supply-bare fields s is;
  utf8 = named-utf8 (codes "ProductSupply") fields refl utf8;
}

stands-row : (o : Opening) (a : Area) (s : ProductSupply) → market_of a ≡ Some s → IsSupply o (supply_record (area_fields a))
stands-row o a s e = let r = said-read supply_of (area_fields a) s e in supply-is o (area_fields a) s r.clean r.utf8 r.is

union-row : (o : Opening) (t : Territory) (fields : List (List ℕ)) → union_fields t ≡ Some fields → IsSupply o (supply_record fields)
union-row o t fields e =
    let (s, read, same) = mapped (clean supply_of (territory_fields t)) (λ s. territory_fields t) fields e in
    let (all, is) = clean-read supply_of (territory_fields t) s read in
    let (u, of, made) = bind-some (territory_of (countries_text t.included) (world_text t.world) (countries_text t.excluded)) _ s is in
    subst (λ (k : List (List ℕ)). IsSupply o (supply_record k)) same (supply-is o (territory_fields t) s all (territory-utf8 t u of) is)

joined-row : (o : Opening) (a : Area) (s : ProductSupply) → market_of a ≡ Some s → (t : Option Territory) (fields : List (List ℕ)) → option_map_or union_fields t (Some (area_fields a)) ≡ Some fields
    → IsSupply o (supply_record fields)
joined-row o a s held None fields e = subst (λ (k : List (List ℕ)). IsSupply o (supply_record k)) (same_Some _ fields e) (stands-row o a s held)
joined-row o a s held (Some t) fields e = union-row o t fields e

held-row : (o : Opening) (a : Area) (s : ProductSupply) → market_of a ≡ Some s → (ts : List Territory) (fields : List (List ℕ)) → kept_fields a ts ≡ Some fields → IsSupply o (supply_record fields)
held-row o a s held ts fields e = go (length ts == 1) e
  where
    go : (one : Bool) → (if one then Some (area_fields a) else option_map_or union_fields (union ts) (Some (area_fields a))) ≡ Some fields → IsSupply o (supply_record fields)
    go true f = subst (λ (k : List (List ℕ)). IsSupply o (supply_record k)) (same_Some _ fields f) (stands-row o a s held)
    go false f = joined-row o a s held (union ts) fields f

-- the desk takes the first Market that is not left out
held-market : (ms : List Composite) (a : Area) → first_some (map kept_area ms) ≡ Some a → (s : ProductSupply) × (market_of a ≡ Some s)
held-market [] a e = cc e
held-market (m ∷ ms) a e = go (market_reason (area_in m.below)) refl (held-market ms a)
  where
    own : Area
    own = area_in m.below

    go : (r : Option Reason) → market_reason own ≡ r → (first_some (map kept_area ms) ≡ Some a → (s : ProductSupply) × (market_of a ≡ Some s)) → (s : ProductSupply) × (market_of a ≡ Some s)
    go None is later =
        let now : Some own ≡ Some a = rw is at e in
        let none = or-none (first_some (early_market_reasons own)) (area_reason own) is in
        subst (λ (k : Area). (s : ProductSupply) × (market_of k ≡ Some s)) (same_Some own a now)
        (taken (market_of own) (unwrap_or (first_some (area_reasons own)) (wrong bad.Territory [])) none)
    go (Some reason) is later = let now : first_some (map kept_area ms) ≡ Some a = rw is at e in later now

-- one record that is a supply's
abbrev AreMarkets : Opening → Outcome → Type 0
AreMarkets o markets = (fields : List (List ℕ)) × (outcome_records markets ≡ fields ∷ []) × IsSupply o fields

joined-markets : (o : Opening) (made : Option (List (List ℕ))) (notes : List Reason) → ((fields : List (List ℕ)) → made ≡ Some fields → IsSupply o (supply_record fields))
    → outcome_reason (joined_outcome made notes) ≡ None → AreMarkets o (joined_outcome made notes)
joined-markets o None notes each e = cc e
joined-markets o (Some fields) notes each e = (supply_record fields, refl, each fields refl)

held-markets : (o : Opening) (ms : List Composite) (foreign : Bool) (notes : List Reason) (first : Option Area) → first_kept ms ≡ first → outcome_reason (kept_outcome first (territories_of ms) foreign notes) ≡ None
    → AreMarkets o (kept_outcome first (territories_of ms) foreign notes)
held-markets o ms foreign notes None is e = cc e
held-markets o ms foreign notes (Some a) is e =
    let (s, held) = held-market ms a is in
    joined-markets o (kept_fields a (territories_of ms)) notes (λ fields made. held-row o a s held (territories_of ms) fields made) e

world-supply : (s : ProductSupply) × (supply_of ([] ∷ [] ∷ [] ∷ []) ≡ Some s)
world-supply = (record { market = record { included = []; world = true; excluded = [] }; details = [] }, refl)

markets-rows : (o : Opening) (ms : List Composite) → outcome_reason (markets_outcome ms) ≡ None → AreMarkets o (markets_outcome ms)
markets-rows o [] e = let (s, is) = world-supply in (supply_record ([] ∷ [] ∷ [] ∷ []), refl, supply-is o ([] ∷ [] ∷ [] ∷ []) s refl empty-fields is)
markets-rows o (m ∷ ms) e = held-markets o (m ∷ ms) _ _ (first_kept (m ∷ ms)) refl e

-- ---- ProductSupplys

-- records that are the rows of supplies, each of which has a SupplyDetail
record AreSupplies (o : Opening) (records : Records) : Type 0 where
  pub supplies : List ProductSupply
  pub reads : Reads o records (flat_map supply_rows supplies)
  pub details : AllByRecursion HasDetails supplies

no-supplies : (o : Opening) → AreSupplies o []
no-supplies o = record { supplies = []; reads = no-rows o; details = tt }

one-supply : (o : Opening) (fields : List (List ℕ)) → IsSupply o fields → (ds : List SupplyDetail) (below : Records) → (ds ≡ [] → ⊥) → Reads o below (flat_map detail_rows ds) → AreSupplies o (fields ∷ below)
one-supply o fields s ds below some reads =
    let first : row_of o fields ≡ Some (row.ProductSupply (record s.supply { details = [] })) = s.row ∙ ap (λ (k : List SupplyDetail). Some (row.ProductSupply (record s.supply { details = k }))) s.bare in record {
      supplies = record s.supply { details = ds } ∷ [];
      reads = as-rows o _ (supply_rows (record s.supply { details = ds })) _ (sym (append-nil (supply_rows (record s.supply { details = ds }))))
          (one-first o fields (row.ProductSupply (record s.supply { details = [] })) below (flat_map detail_rows ds) first s.utf8 reads);
      details = (some, tt);
    }

never-empty : (o : Opening) (fields : List (List ℕ)) (records : Records) (ds : List SupplyDetail) → Reads o (fields ∷ records) (flat_map detail_rows ds) → ds ≡ [] → ⊥
never-empty o fields records [] reads none = let are = reads.are in cc are
never-empty o fields records (d ∷ ds) reads none = cc none

detailed-rows : TermLaws → (o : Opening) (choices : SupplyChoices) → MayCompute o choices.terms → (nodes : Nodes) (notes : List Reason) (kind : Option Reason) → outcome_reason (supply_markets nodes) ≡ kind
    → (below : Records) → all_records (detail_in o choices) (details_in choices nodes) ≡ below
    → AreSupplies o (outcome_records (written_unless (first_some (kind ∷ if_empty below (Some (wrong bad.NoDetailLeft [])) ∷ [])) (outcome_records (supply_markets nodes) ++ below) notes))
detailed-rows laws o choices may nodes notes (Some kind) m below d = no-supplies o
detailed-rows laws o choices may nodes notes None m [] d = no-supplies o
detailed-rows laws o choices may nodes notes None m (detail ∷ below) d =
    let (fields, same, is) = markets-rows o (each_at "Market" nodes) m in
    let (ds, reads) = subst (λ (k : Records). AreDetails o k) d (details-rows laws o choices may (details_in choices nodes)) in
    subst (λ (k : Records). AreSupplies o (k ++ (detail ∷ below))) (sym same)
    (one-supply o fields is ds (detail ∷ below) (never-empty o detail below ds reads) reads)

supply-rows : TermLaws → (o : Opening) (choices : SupplyChoices) → MayCompute o choices.terms → (nodes : Nodes) → AreSupplies o (outcome_records (supply_outcome o choices nodes))
supply-rows laws o choices may nodes = go (is_some (first (details_in choices nodes))) (is_some (first (each_at "SupplyDetail" nodes)))
  where
    go : (counts is_there : Bool) → AreSupplies o (outcome_records
        (if counts then detailed_outcome o choices nodes else if is_there then nothing else left_out (foreign other.NoSupplyDetail [])))
    go true is_there = detailed-rows laws o choices may nodes _ (outcome_reason (supply_markets nodes)) refl (all_records (detail_in o choices) (details_in choices nodes)) refl
    go false true = no-supplies o
    go false false = no-supplies o

all-joined : {A : Type 0} (P : A → Type 0) (xs ys : List A) → AllByRecursion P xs → AllByRecursion P ys → AllByRecursion P (xs ++ ys)
all-joined P [] ys f g = g
all-joined P (x ∷ xs) ys f g = (f.0, all-joined P xs ys f.1 g)

supplies-rows : TermLaws → (o : Opening) (choices : SupplyChoices) → MayCompute o choices.terms → (cs : List Composite) → AreSupplies o (all_records (supply_in o choices) cs)
supplies-rows laws o choices may [] = no-supplies o
supplies-rows laws o choices may (c ∷ cs) =
    let s = supply-rows laws o choices may c.below in
    let t = supplies-rows laws o choices may cs in record {
      supplies = s.supplies ++ t.supplies;
      reads = as-rows o _ (flat_map supply_rows s.supplies ++ flat_map supply_rows t.supplies) (flat_map supply_rows (s.supplies ++ t.supplies)) (sym (flat_map-append supply_rows s.supplies t.supplies))
          (both o (outcome_records (supply_in o choices c)) (all_records (supply_in o choices) cs) (flat_map supply_rows s.supplies) (flat_map supply_rows t.supplies) s.reads t.reads);
      details = all-joined HasDetails s.supplies t.supplies s.details t.details;
    }

-- ---- the record of a Product

-- a text that the desk takes as a field
record IsField (text : List ℕ) : Type 0 where
  pub filled : is_filled text ≡ true
  pub utf8 : is_utf8 text ≡ true
  pub clean : is_clean text ≡ true

field-is : (text : List ℕ) → is_field text ≡ true → IsField text
field-is text e =
    let p = and_parts (is_filled text) (is_utf8 text && is_clean text) e in
    let q = and_parts (is_utf8 text) (is_clean text) p.1 in
    record { filled = p.0; utf8 = q.0; clean = q.1 }

-- a code of two digits
record IsCode (text : List ℕ) : Type 0 where
  pub utf8 : is_utf8 text ≡ true
  pub code : code2_of text ≡ Some text

-- types and values that the desk takes
record ArePairs (pairs : List (List ℕ)) : Type 0 where
  pub ids : List ProductIdentifier
  pub are : pairs_of pairs ≡ Some ids
  pub utf8 : list_all is_utf8 pairs ≡ true
  pub clean : list_all is_clean pairs ≡ true

code-is : (text : List ℕ) → is_some (parsed_term code2_of text) ≡ true → IsCode text
code-is text e =
    let (y, is) = is-there (parsed_term code2_of text) e in
    let (u, f) = cond-then (is_utf8 text) (code2_of text) y is in
    let (t, same) = cond_some ((length text == 2) && list_all is_ascii_digit text) text y f in
    record { utf8 = u; code = f ∙ ap Some (sym same) }

ascii-code : (text : List ℕ) → list_all is_ascii text ≡ true → code2_of text ≡ Some text → IsCode text
ascii-code text plain is = record { utf8 = ascii-field text plain; code = is }

-- of a product that is written without supplies
dropping-code : (notification : List ℕ) → IsCode (dropping notification)
dropping-code n = go (is_code n) refl (bytes_eq n (codes "04"))
  where
    go : (a : Bool) → is_code n ≡ a → (b : Bool) → IsCode (if not a || b then codes "03" else n)
    go true is true = ascii-code (codes "03") refl refl
    go true is false = code-is n is
    go false is b = ascii-code (codes "03") refl refl

-- ---- identifiers

unless-none : (holds : Bool) (kind : Wrong) (text : List ℕ) → unless holds kind text ≡ None → holds ≡ true
unless-none true kind text e = refl
unless-none false kind text e = cc e

both-none : {A : Type 0} (x y : Option A) → option_or x (option_or y None) ≡ None → (x ≡ None) × (y ≡ None)
both-none None None e = (refl, refl)
both-none None (Some b) e = cc e
both-none (Some a) y e = cc e

filled-some : (text : List ℕ) → is_filled text ≡ true → nonempty text ≡ Some text
filled-some [] e = cc e
filled-some (b ∷ bs) e = refl

one-pair : (kind value : List ℕ) (rest : List (List ℕ)) → IsCode kind → IsField value → ArePairs rest → ArePairs (kind ∷ value ∷ rest)
unfolding pairs_of
one-pair kind value rest c f r = record {
  ids = record { id_type = kind; id_value = value } ∷ r.ids;
  are = rw (c.code, filled-some value f.filled, r.are) refl;
  utf8 = and_from (is_utf8 kind) (is_utf8 value && list_all is_utf8 rest) c.utf8 (and_from (is_utf8 value) (list_all is_utf8 rest) f.utf8 r.utf8);
  clean = and_from (is_clean kind) (is_clean value && list_all is_clean rest) (code2-clean kind kind c.code) (and_from (is_clean value) (list_all is_clean rest) f.clean r.clean);
}

no-pairs : ArePairs []
unfolding pairs_of
no-pairs = record { ids = []; are = refl; utf8 = refl; clean = refl }

pair-right : (kind written stands : List ℕ) → pair_reason kind written stands ≡ None → (rest : List (List ℕ)) → ArePairs rest → ArePairs (kind ∷ written ∷ rest)
pair-right kind written stands e rest r =
    let (a, b) = both-none (invalid (parsed_term code2_of) bad.IdentifierType kind) (unless (is_field written) bad.IdentifierValue stands) e in
    one-pair kind written rest (code-is kind (unless-none (is_some (parsed_term code2_of kind)) bad.IdentifierType kind a)) (field-is written (unless-none (is_field written) bad.IdentifierValue stands b)) r

right-is : (c : Composite) (there : Bool) (reason : Option Reason) → is_there c ≡ there → identifier_reason c ≡ reason → (rest : List (List ℕ)) → ArePairs rest
    → ArePairs (option_map_or (λ reason. []) reason (if is_there c then type_of c ∷ value_written c ∷ [] else []) ++ rest)
right-is c there (Some reason) t e rest r = r
right-is c true None t e rest r =
    let none : pair_reason (type_of c) (value_written c) (value_of c) ≡ None = rw t at e in
    rw t (pair-right (type_of c) (value_written c) (value_of c) none rest r)
right-is c false None t e rest r = rw t r

right-pairs : (cs : List Composite) → ArePairs (flat_map right_pair cs)
right-pairs [] = no-pairs
right-pairs (c ∷ cs) = right-is c (is_there c) (identifier_reason c) refl refl (flat_map right_pair cs) (right-pairs cs)

-- with the reference in place of none
record ArePairsOf (pairs : List (List ℕ)) : Type 0 where
  pub kind : List ℕ
  pub rest : List (List ℕ)
  pub same : pairs ≡ kind ∷ rest
  pub all : ArePairs (kind ∷ rest)

or-pairs : (reference : List ℕ) (pairs : List (List ℕ)) → IsField reference → ArePairs pairs → ArePairsOf (or_reference reference pairs)
or-pairs reference [] f p = record {
  kind = codes "01";
  rest = reference ∷ [];
  same = refl;
  all = one-pair (codes "01") reference [] (ascii-code (codes "01") refl refl) f no-pairs;
}
or-pairs reference (kind ∷ rest) f p = record { kind = kind; rest = rest; same = refl; all = p }

product-is : (reference notification kind : List ℕ) (rest : List (List ℕ)) (ids : List ProductIdentifier) → IsField reference → IsCode notification → pairs_of (kind ∷ rest) ≡ Some ids
    → product_of (reference ∷ notification ∷ kind ∷ rest) ≡ Some (record { reference = reference; notification = notification; ids = ids; supplies = [] })
unfolding product_of
product-is reference notification kind rest ids f c are = rw (filled-some reference f.filled, c.code, are) refl

-- ---- a Product

one-product : (o : Opening) (fields : List (List ℕ)) (q : Product) (ss : List ProductSupply) (below : Records) → list_all is_clean fields ≡ true → list_all is_utf8 fields ≡ true → product_of fields ≡ Some q
    → Reads o below (flat_map supply_rows ss) → Reads o ((codes "Product" ∷ fields) ∷ below) (flat_map product_rows (record q { supplies = ss } ∷ []))
one-product o fields q ss below all utf8 is reads =
    let first : row_of o (codes "Product" ∷ fields) ≡ Some (row.Product (record q { supplies = [] })) =
    product-row o fields q all is ∙ ap (λ (k : List ProductSupply). Some (row.Product (record q { supplies = k }))) (product-bare fields q is) in
    as-rows o _ (product_rows (record q { supplies = ss })) _ (sym (append-nil (product_rows (record q { supplies = ss }))))
    (one-first o (codes "Product" ∷ fields) (row.Product (record q { supplies = [] })) below (flat_map supply_rows ss) first (named-utf8 (codes "Product") fields refl utf8) reads)

standing-rows : (o : Opening) (nodes : Nodes) → IsField (reference_in nodes) → (notification : List ℕ) → IsCode notification → (pairs : List (List ℕ)) → ArePairs pairs
    → (below : Records) → AreSupplies o below → AreOf o (product_record notification pairs nodes ∷ below) (reference_in nodes ∷ [])
standing-rows o nodes f n c pairs p below s =
    let reference = reference_in nodes in
    let k = or-pairs reference pairs f p in
    let fields = reference ∷ n ∷ k.kind ∷ k.rest in
    let q : Product = record { reference = reference; notification = n; ids = k.all.ids; supplies = [] } in
    let clean : list_all is_clean fields ≡ true = and_from (is_clean reference) _ f.clean (and_from (is_clean n) _ (code2-clean n n c.code) k.all.clean) in
    let utf8 : list_all is_utf8 fields ≡ true = and_from (is_utf8 reference) _ f.utf8 (and_from (is_utf8 n) _ c.utf8 k.all.utf8) in
    let reads = one-product o fields q s.supplies below clean utf8 (product-is reference n k.kind k.rest k.all.ids f c k.all.are) s.reads in
    subst (λ (ps : List (List ℕ)). AreOf o ((codes "Product" ∷ reference ∷ n ∷ ps) ∷ below) (reference ∷ [])) (sym k.same)
    (record q { supplies = s.supplies } ∷ [], refl, record { reads = reads.are; details = (s.details, tt); utf8 = reads.utf8 })

emptied-rows : (o : Opening) (nodes : Nodes) → IsField (reference_in nodes) → (pairs : List (List ℕ)) → ArePairs pairs
    → AreOf o (product_record (dropping (notification_in nodes)) pairs nodes ∷ []) (reference_in nodes ∷ [])
emptied-rows o nodes f pairs p = standing-rows o nodes f (dropping (notification_in nodes)) (dropping-code (notification_in nodes)) pairs p [] (no-supplies o)

own-code : (supplier : Option Pair) (nodes : Nodes) → own_reason supplier nodes ≡ None → IsCode (notification_in nodes)
own-code supplier nodes e = go (invalid (parsed_term code2_of) bad.NotificationType (notification_in nodes)) refl e
  where
    go : (r : Option Reason) → invalid (parsed_term code2_of) bad.NotificationType (notification_in nodes) ≡ r → own_reason supplier nodes ≡ None → IsCode (notification_in nodes)
    go None is f = code-is (notification_in nodes) (unless-none (is_some (parsed_term code2_of (notification_in nodes))) bad.NotificationType (notification_in nodes) is)
    go (Some r) is f = let no = rw is at f in cc no

written-code : (supplier : Option Pair) (nodes : Nodes) → own_reason supplier nodes ≡ None → IsCode (notification_written supplier nodes)
written-code supplier nodes e = go (is_alone supplier nodes)
  where
    go : (drops : Bool) → IsCode (if drops then dropping (notification_in nodes) else notification_in nodes)
    go true = dropping-code (notification_in nodes)
    go false = own-code supplier nodes e

former-none : {A : Type 0} (x y : Option A) → option_or x y ≡ None → x ≡ None
former-none None y e = refl
former-none (Some x) y e = cc e

own-rows : TermLaws → (o : Opening) (choices : SupplyChoices) → MayCompute o choices.terms → (nodes : Nodes) → IsField (reference_in nodes) → (kind : Option Reason) → why_emptied o choices nodes ≡ kind
    → AreOf o (records_by o choices kind nodes) (reference_in nodes ∷ [])
own-rows laws o choices may nodes f (Some kind) e = emptied-rows o nodes f (right_pairs nodes) (right-pairs (identifiers_in nodes))
own-rows laws o choices may nodes f None e =
    let own = former-none (own_reason choices.supplier nodes) (supplies_reason o choices (supplies_in nodes)) e in
    standing-rows o nodes f (notification_written choices.supplier nodes) (written-code choices.supplier nodes own) (right_pairs nodes) (right-pairs (identifiers_in nodes)) (all_records (supply_in o choices) (supplies_in nodes))
    (supplies-rows laws o choices may (supplies_in nodes))

-- no products of no records
none-rows : (o : Opening) → AreOf o [] []
none-rows o = ([], refl, record { reads = refl; details = tt; utf8 = refl })

-- the records of each form of a Product are the rows of a product of its reference
pub product-rows : TermLaws → (o : Opening) (choices : SupplyChoices) (nodes : Nodes) → MayCompute o choices.terms → AllByRecursion (λ f. AreOf o f.records (references_of nodes)) (variants o choices nodes)
product-rows laws o choices nodes may = go (is_field (reference_in nodes)) refl
  where
    whole : IsField (reference_in nodes) → AreOf o (records_by o choices (why_emptied o choices nodes) nodes) (reference_in nodes ∷ [])
    whole f = own-rows laws o choices may nodes f (why_emptied o choices nodes) refl

    standing : IsField (reference_in nodes) → (kind : Option Reason) (notes : List Reason) → AllByRecursion (λ f. AreOf o f.records (reference_in nodes ∷ [])) (smaller_variants (fate_by kind) notes nodes)
    standing f None notes = (emptied-rows o nodes f [] no-pairs, tt)
    standing f (Some kind) notes = (emptied-rows o nodes f [] no-pairs, tt)

    go : (stands : Bool) → is_field (reference_in nodes) ≡ stands → AllByRecursion (λ f. AreOf o f.records (references_of nodes)) (variants o choices nodes)
    go true e =
        let f = field-is (reference_in nodes) e in
        let names : references_of nodes ≡ reference_in nodes ∷ [] = rw e refl in
        subst (λ (rs : List (List ℕ)). AllByRecursion (λ f. AreOf o f.records rs) (variants o choices nodes)) (sym names)
        (rw e (whole f, standing f (why_emptied o choices nodes) _))
    go false e =
        let names : references_of nodes ≡ [] = rw e refl in
        subst (λ (rs : List (List ℕ)). AllByRecursion (λ f. AreOf o f.records rs) (variants o choices nodes)) (sym names) (rw e (none-rows o, tt))

-- products one after the other
pub products-joined : (o : Opening) (a b : Records) (c d : List Product) → AreProducts o a c → AreProducts o b d → AreProducts o (a ++ b) (c ++ d)
products-joined o a b c d f g = record {
  reads = map-joined o a b (flat_map product_rows c) (flat_map product_rows d) f.reads g.reads ∙ ap (map Some) (sym (flat_map-append product_rows c d));
  details = all-joined SuppliesHaveDetails c d f.details g.details;
  utf8 = utf8-joined a b f.utf8 g.utf8;
}
