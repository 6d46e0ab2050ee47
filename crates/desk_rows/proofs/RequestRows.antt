-- The tables after one more request.
use Rattle.std.proofs.Common.{◌≡◌, ◌+◌, ◌-◌, ◌<◌, ◌≤◌, ℕ, Bool, true, false, List, [], ◌∷◌, ◌++◌, Option, Some, None, IfSome, length, length-append, refl, sym, ap, ◌∙◌, arith, subst, ◌⊎◌, inl, inr}
use Rattle.std.specs.Prelude.{option_map, bytes_eq, nat_lt}
use Rattle.std.specs.FinMap as fin
use Rattle.std.proofs.lemmas.Bool.{cases_eq, cases_lt}
use Rattle.std.proofs.lemmas.Bool.Decides.{nat_tests}
use Rattle.std.proofs.lemmas.Slice.Eq.{bytes_eq-Decides}
use Rattle.catalogue_rules.specs.Records.{ByReference}
use Rattle.desk_catalogue.specs.Holding.{HoldsCatalogue}
use Rattle.desk_tables.specs.Rows.{DeskRows, series_at, held_at, with_held}
use Rattle.onix_records.specs.declared.effects.Effect.{Effect}
use Rattle.desk_tables.specs.declared.series.SeriesRow.{SeriesRow}
use Rattle.onix_records.specs.declared.agreements.Agreement.{Agreement}
use Rattle.series_rules.specs.Agreements.{agreements_of, named, between}
use Rattle.series_rules.specs.Answers.{placed_answer}
use Rattle.series_rules.proofs.FirstLemmas.{first_left, first_other, first_there}
use Rattle.series_rules.specs.Firsts.{Placement, admitted, first_at}
use Rattle.series_rules.proofs.FrontLemmas.{front_goes_on, front_is, kept_front}
use Rattle.series_rules.specs.Series.{after_all, front_of, kept_of}
use Rattle.series_rules.specs.declared.answers.DeliveryAnswer.TheVariants.{Applied}
use Rattle.series_rules.specs.declared.requests.Request.{Request}
use Rattle.series_rules.specs.declared.requests.Standing.{Standing}
use Rattle.desk_rows.specs.Stands.{SeriesStands, SameElsewhere, CutAt, IsAppliedToGap, IsAppliedAt, HasNothing, StandsFor, IsFor, IsNew, agreement_at, series_of}
use Rattle.desk_rows.specs.ContentLemmas.{stands_by_content, applied_to_gap_same}
use Rattle.desk_rows.specs.Texts.{CanBeKept, IsReadable, standing_text}
use Rattle.desk_rows.proofs.CatalogueRows.{catalogue_kept}
use Rattle.desk_rows.proofs.Folds.{front_more, get_some, kept_last}
use Rattle.desk_rows.proofs.Lookups.{same_bytes, held_put, held_other, parties_kept}
use Rattle.desk_rows.proofs.Steps.{stepped, step_stands, step_elsewhere}

-- names are equal or not
pub cases_name : (s t : List ℕ) → (s ≡ t) ⊎ (¬ (s ≡ t))
cases_name s t = go (bytes_eq s t) refl
  where
    go : (b : Bool) → bytes_eq s t ≡ b → (s ≡ t) ⊎ (¬ (s ≡ t))
    go true e = inl ((bytes_eq-Decides s t).0 e)
    go false e = inr (λ i. let yes : bytes_eq s t ≡ true = ap (bytes_eq s) (sym i) ∙ same_bytes s in absurd cc)

-- ---- what stands, told of other rows

stands_elsewhere : (f : ℕ → Option Standing) (b : Agreement) (hs : List Standing) (s : List ℕ) (rows now : DeskRows) → ¬ (b.name ≡ s) → SameElsewhere s rows now → SeriesStands f b hs rows → SeriesStands f b hs now
stands_elsewhere f b hs s rows now other same w = record {
  can_be_kept = w.can_be_kept;
  begins = w.begins;
  row = same.series b.name other ∙ w.row;
  applied = λ j. same.applied b.name (b.first + j) other ∙ w.applied j;
  none_applied = λ n lt. same.applied b.name n other ∙ w.none_applied n lt;
  held = λ n le. same.held b.name n other ∙ w.held n le;
  none_held = λ n lt. same.held b.name n other ∙ w.none_held n lt;
  catalogue = same.catalogues b.name _ other w.catalogue;
}

bare_elsewhere : (t s : List ℕ) (rows now : DeskRows) → ¬ (t ≡ s) → SameElsewhere s rows now → HasNothing t rows → HasNothing t now
bare_elsewhere t s rows now other same bare = record {
  held = λ n. same.held t n other ∙ bare.held n;
  applied = λ n. same.applied t n other ∙ bare.applied n;
  catalogue = same.catalogues t _ other bare.catalogue;
}

-- a request that puts nothing anywhere and leaves the agreements
pub stands_left : (rows : DeskRows) (L : List Request) (r : Request) → StandsFor rows L → agreements_of (r ∷ L) ≡ agreements_of L → admitted (agreements_of L) r ≡ None → StandsFor rows (r ∷ L)
stands_left rows L r stands left nothing = stands_by_content rows L (r ∷ L) (record {
  agreements = λ s. ap (λ as'. named as' s) (sym left);
  firsts = λ s n. sym (first_left L r nothing s n);
}) stands

-- ---- what the request puts

abbrev puts : Agreement → ℕ → Standing → Placement
puts a n h = record { series = a.name; number = n; standing = h }

pub new_there : (L : List Request) (r : Request) (a : Agreement) (n : ℕ) (h : Standing) → IsNew L r a n h → first_at (r ∷ L) a.name n ≡ Some h
new_there L r a n h new = first_there L r (puts a n h) new.0.admits new.1

new_other : (L : List Request) (r : Request) (a : Agreement) (n : ℕ) (h : Standing) → IsFor L r a n h → (m : ℕ) → ¬ (m ≡ n) → first_at (r ∷ L) a.name m ≡ first_at L a.name m
new_other L r a n h is m other = first_other L r (puts a n h) is.admits a.name m (λ i. other (sym i.1))

new_elsewhere : (L : List Request) (r : Request) (a : Agreement) (n : ℕ) (h : Standing) → IsFor L r a n h → (t : List ℕ) → ¬ (t ≡ a.name) → (m : ℕ) → first_at (r ∷ L) t m ≡ first_at L t m
new_elsewhere L r a n h is t other m = first_other L r (puts a n h) is.admits t m (λ i. other (sym i.0))

pub now_agreed : (L : List Request) (r : Request) (a : Agreement) (n : ℕ) (h : Standing) → IsFor L r a n h → named (agreements_of (r ∷ L)) a.name ≡ Some a
now_agreed L r a n h is = ap (λ as'. named as' a.name) is.left ∙ is.agreed

new_kept : (L : List Request) (r : Request) (a : Agreement) (n : ℕ) (h : Standing) → IsNew L r a n h → CanBeKept (first_at L a.name) → CanBeKept (first_at (r ∷ L) a.name)
new_kept L r a n h new kept = record {
  readable = λ m. readable m (cases_eq m n);
  small = λ m le. small m le (cases_eq m n);
}
  where
    readable : (m : ℕ) → (m ≡ n) ⊎ (¬ (m ≡ n)) → IfSome (first_at (r ∷ L) a.name m) IsReadable
    readable m (inl at) = subst (λ o. IfSome o IsReadable) (sym (ap (first_at (r ∷ L) a.name) at ∙ new_there L r a n h new)) new.0.readable
    readable m (inr other) = subst (λ o. IfSome o IsReadable) (sym (new_other L r a n h new.0 m other)) (kept.readable m)

    small : (m : ℕ) → 1000000000 ≤ m → (m ≡ n) ⊎ (¬ (m ≡ n)) → first_at (r ∷ L) a.name m ≡ None
    small m le (inl at) = absurd (let lt = new.0.below in omega arith)
    small m le (inr other) = new_other L r a n h new.0 m other ∙ kept.small m le

-- a number where nothing stands lies at the next number or above it
beyond : (f : ℕ → Option Standing) (a : Agreement) (hs : List Standing) (rows : DeskRows) (n : ℕ) → SeriesStands f a hs rows → a.first ≤ n → f n ≡ None → a.first + length hs ≤ n
beyond f a hs rows n was above none = go (cases_lt (n - a.first) (length hs))
  where
    go : (n - a.first < length hs) ⊎ (length hs ≤ n - a.first) → a.first + length hs ≤ n
    go (inl lt) =
        let some = get_some hs (n - a.first) lt in
        let at : a.first + (n - a.first) ≡ n = omega arith in
        let found : f n ≡ Some some.0 = ap f (sym at) ∙ was.begins (n - a.first) lt ∙ some.1 in
        absurd cc
    go (inr le) = omega arith

-- ---- put above the next number

module _ (f g : ℕ → Option Standing) (a : Agreement) (hs : List Standing) (rows : DeskRows) (n : ℕ) (h : Standing) (was : SeriesStands f a hs rows) (above : a.first ≤ n) (none : f n ≡ None) (there : g n ≡ Some h) (other : (m : ℕ) → ¬ (m ≡ n) → g m ≡ f m) (kept : CanBeKept g) where
  abbrev put : DeskRows
  put = with_held (record { series = a.name; number = n; contents = standing_text h }) rows

  put_held_at : (m : ℕ) → a.first + length hs ≤ m → held_at a.name m put ≡ option_map standing_text (g m)
  put_held_at m le = go (cases_eq m n)
    where
      go : (m ≡ n) ⊎ (¬ (m ≡ n)) → held_at a.name m put ≡ option_map standing_text (g m)
      go (inl same) =
          ap (λ i. held_at a.name i put) same
          ∙ held_put a.name n (standing_text h) rows (was.held n (beyond f a hs rows n was above none) ∙ ap (option_map standing_text) none)
          ∙ sym (ap (λ i. option_map standing_text (g i)) same ∙ ap (option_map standing_text) there)
      go (inr o) = held_other a.name a.name n m (standing_text h) rows (inr o) ∙ was.held m le ∙ ap (option_map standing_text) (sym (other m o))

  put_stands : SeriesStands g a hs put
  put_stands = record {
    can_be_kept = kept;
    begins = λ j lt. let b = beyond f a hs rows n was above none in other (a.first + j) (λ i. omega arith) ∙ was.begins j lt;
    row = was.row;
    applied = was.applied;
    none_applied = was.none_applied;
    held = put_held_at;
    none_held = λ m lt. let b = beyond f a hs rows n was above none in held_other a.name a.name n m (standing_text h) rows (inr (λ i. omega arith)) ∙ was.none_held m lt;
    catalogue = catalogue_kept a.name _ rows put (record { records = refl; articles = refl; offers = refl; prices = refl; minimums = refl }) was.catalogue;
  }

  put_elsewhere : SameElsewhere a.name rows put
  put_elsewhere = record {
    meta = refl;
    parties = parties_kept rows put refl;
    series = λ t o. refl;
    held = λ t m o. held_other a.name t n m (standing_text h) rows (inl o);
    applied = λ t m o. refl;
    catalogues = λ t m o held. catalogue_kept t m rows put (record { records = refl; articles = refl; offers = refl; prices = refl; minimums = refl }) held;
  }

-- ---- the tables once nothing stands at the number where they are cut

pub cut_stands : (rows now : DeskRows) (L : List Request) (r : Request) (a : Agreement) (n k : ℕ) (h : Standing) → StandsFor rows L → IsFor L r a n h → CutAt (first_at (r ∷ L) a.name) a rows k now → first_at (r ∷ L) a.name k ≡ None → StandsFor now (r ∷ L)
cut_stands rows now L r a n k h stands is cut ends = record {
  version = cut.elsewhere.meta ∙ stands.version;
  by_name = λ s. name_of s (cases_name s a.name);
  by_parties = λ x y. cut.elsewhere.parties x y (between (agreements_of (r ∷ L)) x y) (stands.by_parties x y ∙ ap (λ as'. series_of (between as' x y) rows) (sym is.left));
  series = λ b found. whole_of b (ap (λ as'. named as' b.name) (sym is.left) ∙ found) (cases_name b.name a.name);
  others = λ s none. bare_elsewhere s a.name rows now (λ i. agreed_somewhere s i (ap (λ as'. named as' s) (sym is.left) ∙ none)) cut.elsewhere (stands.others s (ap (λ as'. named as' s) (sym is.left) ∙ none));
}
  where
    agreed_somewhere : (s : List ℕ) → s ≡ a.name → named (agreements_of L) s ≡ None → ⊥
    agreed_somewhere s i none = let e : named (agreements_of L) a.name ≡ None = ap (named (agreements_of L)) (sym i) ∙ none in let found = is.agreed in absurd cc

    name_of : (s : List ℕ) → (s ≡ a.name) ⊎ (¬ (s ≡ a.name)) → agreement_at s now ≡ named (agreements_of (r ∷ L)) s
    name_of s (inl i) =
        ap (λ t. agreement_at t now) i ∙ ap (option_map (λ (x : SeriesRow). x.agreement)) cut.stands.row
        ∙ sym (ap (named (agreements_of (r ∷ L))) i ∙ ap (λ as'. named as' a.name) is.left ∙ is.agreed)
    name_of s (inr o) = ap (option_map (λ (x : SeriesRow). x.agreement)) (cut.elsewhere.series s o) ∙ stands.by_name s ∙ ap (λ as'. named as' s) (sym is.left)

    whole_of : (b : Agreement) → named (agreements_of L) b.name ≡ Some b → (b.name ≡ a.name) ⊎ (¬ (b.name ≡ a.name)) → IsAppliedToGap (first_at (r ∷ L) b.name) b now
    whole_of b found (inl i) =
        let one : a ≡ b = let e : named (agreements_of L) a.name ≡ Some b = ap (named (agreements_of L)) (sym i) ∙ found in let own = is.agreed in cc in
        subst (λ c. IsAppliedToGap (first_at (r ∷ L) c.name) c now) one (cut.hs, ap (first_at (r ∷ L) a.name) (sym cut.ends) ∙ ends, cut.stands)
    whole_of b found (inr o) =
        let w = stands.series b found in
        applied_to_gap_same (first_at L b.name) (first_at (r ∷ L) b.name) b now (new_elsewhere L r a n h is b.name o) (w.0, w.1, stands_elsewhere (first_at L b.name) b w.0 a.name rows now o cut.elsewhere w.2)

-- ---- the number in the row of a series

pub same_next : (a : Agreement) (j k : ℕ) (o : Option SeriesRow) → o ≡ Some (record { agreement = a; next = j }) → o ≡ Some (record { agreement = a; next = k }) → k ≡ j
same_next a j k o e i = let both : Some (record { agreement = a; next = k }) ≡ Some (record { agreement = a; next = j }) = sym i ∙ e in ap next_in both
  where
    next_in : Option SeriesRow → ℕ
    next_in None = 0
    next_in (Some r) = r.next

-- it is put above the next number
pub held_stands : (rows : DeskRows) (L : List Request) (r : Request) (a : Agreement) (n k : ℕ) (h : Standing) → StandsFor rows L → IsNew L r a n h → series_at a.name rows ≡ Some (record { agreement = a; next = k }) → ¬ (n ≡ k)
    → StandsFor (with_held (record { series = a.name; number = n; contents = standing_text h }) rows) (r ∷ L)
held_stands rows L r a n k h stands new row other =
    let w = stands.series a new.0.agreed in
    let at : k ≡ a.first + length w.0 = same_next a (a.first + length w.0) k _ w.2.row row in
    let apart : (m : ℕ) → ¬ (m ≡ n) → first_at (r ∷ L) a.name m ≡ first_at L a.name m = new_other L r a n h new.0 in
    let kept = new_kept L r a n h new w.2.can_be_kept in
    let there = new_there L r a n h new in
    cut_stands rows _ L r a n (a.first + length w.0) h stands new.0
    (record {
      hs = w.0;
      ends = refl;
      stands = put_stands (first_at L a.name) (first_at (r ∷ L) a.name) a w.0 rows n h w.2 new.0.above new.1 there apart kept;
      elsewhere = put_elsewhere (first_at L a.name) (first_at (r ∷ L) a.name) a w.0 rows n h w.2 new.0.above new.1 there apart kept;
    })
    (apart (a.first + length w.0) (λ i. other (sym i ∙ sym at)) ∙ w.1)

-- it is applied at the next number
pub applied_cut : (rows mid : DeskRows) (L : List Request) (r : Request) (a : Agreement) (k : ℕ) (h : Standing) (e : Effect) → StandsFor rows L → IsNew L r a k h → series_at a.name rows ≡ Some (record { agreement = a; next = k })
    → ((m : ByReference) → HoldsCatalogue a.name m rows → IsAppliedAt a.name m h rows e mid) → CutAt (first_at (r ∷ L) a.name) a rows (k + 1) (stepped a.name k (standing_text h) e mid)
applied_cut rows mid L r a k h e stands new row applies =
    let w = stands.series a new.0.agreed in
    let at : k ≡ a.first + length w.0 = same_next a (a.first + length w.0) k _ w.2.row row in
    let apart : (m : ℕ) → ¬ (m ≡ k) → first_at (r ∷ L) a.name m ≡ first_at L a.name m = new_other L r a k h new.0 in
    let kept = new_kept L r a k h new w.2.can_be_kept in
    let there = new_there L r a k h new in
    let done = applies (after_all fin.empty w.0) w.2.catalogue in
    record {
      hs = w.0 ++ h ∷ [];
      ends = let n = length-append w.0 (h ∷ []) in omega arith;
      stands = step_stands (first_at L a.name) (first_at (r ∷ L) a.name) a w.0 k h e rows mid at w.2 new.1 there apart kept done;
      elsewhere = step_elsewhere (first_at L a.name) (first_at (r ∷ L) a.name) a w.0 k h e rows mid at w.2 new.1 there apart kept done;
    }

-- ---- its place

-- where nothing stands is the next number or one above it
pub new_above : (rows : DeskRows) (L : List Request) (r : Request) (a : Agreement) (n k : ℕ) (h : Standing) → StandsFor rows L → IsNew L r a n h → series_at a.name rows ≡ Some (record { agreement = a; next = k }) → k ≤ n
new_above rows L r a n k h stands new row =
    let w = stands.series a new.0.agreed in
    let at : k ≡ a.first + length w.0 = same_next a (a.first + length w.0) k _ w.2.row row in
    let le = beyond (first_at L a.name) a w.0 rows n w.2 new.0.above new.1 in
    omega arith

-- what is put at the next number is answered as applied, with what it did
pub placed_new : (rows mid : DeskRows) (L : List Request) (r : Request) (a : Agreement) (k : ℕ) (h : Standing) (e : Effect) → StandsFor rows L → IsNew L r a k h → series_at a.name rows ≡ Some (record { agreement = a; next = k })
    → ((m : ByReference) → HoldsCatalogue a.name m rows → IsAppliedAt a.name m h rows e mid) → Applied a.name k e ≡ placed_answer (front_of (r ∷ L) a) a.name a.first k
placed_new rows mid L r a k h e stands new row applies =
    let w = stands.series a new.0.agreed in
    let at : k ≡ a.first + length w.0 = same_next a (a.first + length w.0) k _ w.2.row row in
    let apart : (m : ℕ) → ¬ (m ≡ k) → first_at (r ∷ L) a.name m ≡ first_at L a.name m = new_other L r a k h new.0 in
    let done = applies (after_all fin.empty w.0) w.2.catalogue in
    let begins = front_more (first_at L a.name) (first_at (r ∷ L) a.name) a.first w.0 k h at w.2.begins (new_there L r a k h new) apart in
    let goes_on = front_goes_on (first_at (r ∷ L) a.name) a.first (front_of (r ∷ L) a) (w.0 ++ h ∷ []) (front_is (r ∷ L) a.name a.first) begins in
    let n = length-append w.0 (h ∷ []) in
    let m = length-append (w.0 ++ h ∷ []) goes_on.0 in
    let whole : length (front_of (r ∷ L) a) ≡ length ((w.0 ++ h ∷ []) ++ goes_on.0) = ap length goes_on.1 in
    let lt : nat_lt k (a.first + length (front_of (r ∷ L) a)) ≡ true = grind (arith, nat_tests) in
    let place : k - a.first ≡ length w.0 = omega arith in
    let kept : kept_of (front_of (r ∷ L) a) (k - a.first) ≡ e =
    ap (kept_of (front_of (r ∷ L) a)) place ∙ ap (λ hs. kept_of hs (length w.0)) goes_on.1 ∙ kept_front (w.0 ++ h ∷ []) goes_on.0 (length w.0) (omega arith) ∙ kept_last w.0 h ∙ sym done.counts in
    rw lt (ap (Applied a.name k) (sym kept))
