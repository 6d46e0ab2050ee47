-- Agreements in the tables.
use Rattle.std.proofs.Common.{◌≡◌, ◌+◌, ◌++◌, ◌||◌, ℕ, Bool, true, false, cond, List, [], ◌∷◌, Option, Some, None, IfSome, refl, sym, ap, ◌∙◌, arith, subst}
use Rattle.std.specs.Prelude.{bytes_eq, find, is_some, nat_lt, option_map}
use Rattle.std.specs.Option.{option_or}
use Rattle.std.proofs.lemmas.List.Folds.{find-append}
use Rattle.desk_tables.specs.Rows.{DeskRows, has_parties, is_named, series_at, series_between, with_series}
use Rattle.desk_tables.specs.declared.series.SeriesRow.{SeriesRow}
use Rattle.onix_records.specs.declared.agreements.Agreement.{Agreement}
use Rattle.onix_terms.specs.declared.party.Party.{Party}
use Rattle.series_rules.proofs.AgreementLemmas.{agreements_are_distinct}
use Rattle.series_rules.specs.Agreements.{agreements_of, between, clashes, has_name, named}
use Rattle.series_rules.specs.Agreements as agreed
use Rattle.series_rules.specs.Answers.{agree_answer, agree_answer_by, same_agreement}
use Rattle.series_rules.proofs.FirstLemmas.{first_left}
use Rattle.series_rules.specs.Firsts.{admitted, admitted_at, admitted_message, admitted_number, first_at, put_at}
use Rattle.series_rules.specs.declared.answers.AgreeAnswer.{AgreeAnswer}
use Rattle.series_rules.specs.declared.answers.AgreeAnswer.TheVariants.{Agreed, NameTaken, SeriesTaken}
use Rattle.series_rules.specs.declared.requests.Request.{Request}
use Rattle.series_rules.specs.declared.requests.Request.TheVariants.{Agree, Deliver, Waive, AskGaps, AskCatalogue, AskPrice, AskChoice, AskCalendar, Malformed}
use Rattle.series_rules.specs.declared.requests.Standing.{Standing}
use Rattle.series_rules.specs.declared.requests.Standing.TheVariants.{Message, Waived}
use Rattle.onix_records.specs.Message.{message_of}
use Rattle.onix_records.specs.declared.parts.Header.{Header}
use Rattle.onix_records.specs.declared.parts.Product.{Product}
use Rattle.desk_rows.specs.ContentLemmas.{applied_to_gap_same}
use Rattle.desk_rows.specs.Desks.{Answers}
use Rattle.desk_rows.specs.Stands.{StandsFor, IsAppliedToGap, HasNothing, agreement_at, series_of}
use Rattle.desk_rows.specs.Texts.{IsReadable, standing_text}
use Rattle.desk_rows.proofs.CatalogueRows.{KeepsCatalogues, catalogue_kept}
use Rattle.desk_rows.proofs.Found.{named_row, no_parties, no_row, parties_row}
use Rattle.desk_rows.proofs.Lookups.{other_bytes, same_bytes}
use Rattle.desk_rows.proofs.RequestRows.{stands_left}

or_none : {A : Type 0} (o : Option A) → option_or o None ≡ o
or_none None = refl
or_none (Some x) = refl

-- ---- nothing stands under a name that is not agreed

find_has : (p : Agreement → Bool) (as' : List Agreement) (a : Agreement) → find p as' ≡ Some a → (b : Agreement) × (find (has_name a.name) as' ≡ Some b)
find_has p [] a e = absurd cc
find_has p (x ∷ as') a e = go (p x) (bytes_eq x.name a.name) refl e (find_has p as' a)
  where
    go : (c d : Bool) → bytes_eq x.name a.name ≡ d → cond c (Some x) (find p as') ≡ Some a → (find p as' ≡ Some a → (b : Agreement) × (find (has_name a.name) as' ≡ Some b)) → (b : Agreement) × (cond d (Some x) (find (has_name a.name) as') ≡ Some b)
    go c true i e ih = (x, refl)
    go true false i e ih = absurd (let same : x ≡ a = cc in let t : bytes_eq x.name a.name ≡ true = ap (λ (y : Agreement). bytes_eq y.name a.name) same ∙ same_bytes a.name in cc)
    go false false i e ih = ih e

-- what a request puts at a number stands under an agreed name
put_agreed : (as' : List Agreement) (p : Agreement → Bool) (n : ℕ) (h : Standing) (s : List ℕ) (m : ℕ) → named as' s ≡ None → (o : Option Agreement) → find p as' ≡ o → put_at (admitted_at o n h) s m ≡ None
put_agreed as' p n h s m none None e = refl
put_agreed as' p n h s m none (Some a) e = go (nat_lt n a.first)
  where
    other : bytes_eq a.name s ≡ false
    other = other_bytes a.name s (λ i. let has = find_has p as' a e in let f : named as' s ≡ Some has.0 = ap (named as') (sym i) ∙ has.1 in absurd cc)

    go : (b : Bool) → put_at (cond b None (Some (record { series = a.name; number = n; standing = h }))) s m ≡ None
    go true = refl
    go false = rw other refl

put_none : (as' : List Agreement) (r : Request) (s : List ℕ) (m : ℕ) → named as' s ≡ None → put_at (admitted as' r) s m ≡ None
put_none as' (Agree a) s m none = refl
put_none as' (Deliver records) s m none = read (message_of records)
  where
    numbered : (x : Header × List Product) (n : Option ℕ) → put_at (admitted_number (between as' x.0.sender x.0.addressee) n (Message x.1)) s m ≡ None
    numbered x None = refl
    numbered x (Some n) = put_agreed as' (agreed.has_parties x.0.sender x.0.addressee) n (Message x.1) s m none (between as' x.0.sender x.0.addressee) refl

    read : (x : Option (Header × List Product)) → put_at (admitted_message as' x) s m ≡ None
    read None = refl
    read (Some x) = numbered x x.0.number
put_none as' (Waive series n) s m none = put_agreed as' (has_name series) n Waived s m none (named as' series) refl
put_none as' (AskGaps series) s m none = refl
put_none as' (AskCatalogue series) s m none = refl
put_none as' (AskPrice x y) s m none = refl
put_none as' (AskChoice x y) s m none = refl
put_none as' (AskCalendar x y) s m none = refl
put_none as' (Malformed row) s m none = refl

none_before : (L : List Request) (r : Request) (s : List ℕ) → named (agreements_of (r ∷ L)) s ≡ None → named (agreements_of L) s ≡ None
none_before L (Agree b) s e = go (clashes (agreements_of L) b) e
  where
    back : (o : Option Agreement) → option_or o (find (has_name s) (b ∷ [])) ≡ None → o ≡ None
    back None i = refl
    back (Some c) i = absurd cc

    go : (t : Bool) → named (cond t (agreements_of L) (agreements_of L ++ b ∷ [])) s ≡ None → named (agreements_of L) s ≡ None
    go true i = i
    go false i = back (named (agreements_of L) s) (sym (find-append (has_name s) (agreements_of L) (b ∷ [])) ∙ i)
none_before L (Deliver x) s e = e
none_before L (Waive x y) s e = e
none_before L (AskGaps x) s e = e
none_before L (AskCatalogue x) s e = e
none_before L (AskPrice x y) s e = e
none_before L (AskChoice x y) s e = e
none_before L (AskCalendar x y) s e = e
none_before L (Malformed x) s e = e

pub none_under : (L : List Request) (s : List ℕ) (n : ℕ) → named (agreements_of L) s ≡ None → first_at L s n ≡ None
none_under [] s n e = refl
none_under (r ∷ L) s n e =
    let before = none_before L r s e in
    ap (λ o. option_or o (put_at (admitted (agreements_of L) r) s n)) (none_under L s n before) ∙ put_none (agreements_of L) r s n before

-- ---- agreements that change nothing

clashing : (L : List Request) (a : Agreement) → clashes (agreements_of L) a ≡ true → agreements_of (Agree a ∷ L) ≡ agreements_of L
clashing L a e = rw e refl

pub agrees_named : (rows now : DeskRows) (a : Agreement) (row : SeriesRow) (x : AgreeAnswer) → now ≡ rows → Some row ≡ series_at a.name rows → x ≡ cond (same_agreement row.agreement a) Agreed NameTaken → Answers (Agree a) (λ L. agree_answer L a) rows x now
agrees_named rows now a row x left there is L stands =
    let found = named_row rows L a.name row stands there in (
      subst (λ d. StandsFor d (Agree a ∷ L)) (sym left) (stands_left rows L (Agree a) stands (clashing L a (ap (λ o. is_some o || is_some (between (agreements_of L) a.sender a.addressee)) found)) refl),
      is ∙ ap (λ o. agree_answer_by a o (between (agreements_of L) a.sender a.addressee)) (sym found),
    )

pub agrees_taken : (rows now : DeskRows) (a : Agreement) (row : SeriesRow) → now ≡ rows → None ≡ series_at a.name rows → Some row ≡ series_between a.sender a.addressee rows → Answers (Agree a) (λ L. agree_answer L a) rows (SeriesTaken row.agreement.name) now
agrees_taken rows now a row left none there L stands =
    let no_name = no_row rows L a.name stands none in
    let found = (parties_row rows L a.sender a.addressee row stands there).found in (
      subst (λ d. StandsFor d (Agree a ∷ L)) (sym left) (stands_left rows L (Agree a) stands (clashing L a (ap (λ o. is_some o || is_some (between (agreements_of L) a.sender a.addressee)) no_name ∙ ap is_some found)) refl),
      ap (agree_answer_by a None) (sym found) ∙ ap (λ o. agree_answer_by a o (between (agreements_of L) a.sender a.addressee)) (sym no_name),
    )

-- ---- a new series

module _ (rows : DeskRows) (L : List Request) (a : Agreement) (stands : StandsFor rows L) (no_name : named (agreements_of L) a.name ≡ None) (no_between : between (agreements_of L) a.sender a.addressee ≡ None) where
  abbrev own : SeriesRow
  own = record { agreement = a; next = a.first }

  abbrev pub after : DeskRows
  after = with_series a rows

  added : agreements_of (Agree a ∷ L) ≡ agreements_of L ++ a ∷ []
  added = ap (λ b. cond b (agreements_of L) (agreements_of L ++ a ∷ [])) (ap (λ o. is_some o || is_some (between (agreements_of L) a.sender a.addressee)) no_name ∙ ap is_some no_between)

  now_named : (s : List ℕ) → named (agreements_of (Agree a ∷ L)) s ≡ option_or (named (agreements_of L) s) (find (has_name s) (a ∷ []))
  now_named s = ap (λ as'. named as' s) added ∙ find-append (has_name s) (agreements_of L) (a ∷ [])

  now_between : (p : Party) (q : Option Party) → between (agreements_of (Agree a ∷ L)) p q ≡ option_or (between (agreements_of L) p q) (find (agreed.has_parties p q) (a ∷ []))
  now_between p q = ap (λ as'. between as' p q) added ∙ find-append (agreed.has_parties p q) (agreements_of L) (a ∷ [])

  now_row : (s : List ℕ) → series_at s after ≡ option_or (series_at s rows) (find (is_named s) (own ∷ []))
  now_row s = find-append (is_named s) rows.series (own ∷ [])

  abbrev row_agreement : SeriesRow → Agreement
  row_agreement r = r.agreement

  or_map : (o : Option SeriesRow) (s : List ℕ) → option_map row_agreement (option_or o (find (is_named s) (own ∷ []))) ≡ option_or (option_map row_agreement o) (find (has_name s) (a ∷ []))
  or_map None s = elim (bytes_eq a.name s) as (λ b. option_map row_agreement (cond b (Some own) None) ≡ cond b (Some a) None) [ true ↦ refl | false ↦ refl ]
  or_map (Some r) s = refl

  names : (s : List ℕ) → agreement_at s after ≡ named (agreements_of (Agree a ∷ L)) s
  names s = ap (option_map row_agreement) (now_row s) ∙ or_map (series_at s rows) s ∙ ap (λ o. option_or o (find (has_name s) (a ∷ []))) (stands.by_name s) ∙ sym (now_named s)

  no_own : series_at a.name rows ≡ None
  no_own = go (series_at a.name rows) (stands.by_name a.name ∙ no_name)
    where
      go : (o : Option SeriesRow) → option_map row_agreement o ≡ None → o ≡ None
      go None e = refl
      go (Some r) e = absurd cc

  own_row : series_at a.name after ≡ Some own
  own_row = now_row a.name ∙ ap (λ o. option_or o (find (is_named a.name) (own ∷ []))) no_own ∙ rw (same_bytes a.name) refl

  old_row : (s : List ℕ) (r : SeriesRow) → series_at s rows ≡ Some r → series_at s after ≡ Some r
  old_row s r e = now_row s ∙ ap (λ o. option_or o (find (is_named s) (own ∷ []))) e

  parties : (p : Party) (q : Option Party) → series_between p q after ≡ series_of (between (agreements_of (Agree a ∷ L)) p q) after
  parties p q = find-append (has_parties p q) rows.series (own ∷ []) ∙ go (between (agreements_of L) p q) refl ∙ sym (ap (λ o. series_of o after) (now_between p q))
    where
      last : (b : Bool) → cond b (Some own) None ≡ series_of (cond b (Some a) None) after
      last true = sym own_row
      last false = refl

      go : (o : Option Agreement) → between (agreements_of L) p q ≡ o → option_or (series_between p q rows) (find (has_parties p q) (own ∷ [])) ≡ series_of (option_or (between (agreements_of L) p q) (find (agreed.has_parties p q) (a ∷ []))) after
      go None e =
          ap (λ o. option_or o (find (has_parties p q) (own ∷ []))) (stands.by_parties p q ∙ ap (λ o. series_of o rows) e)
          ∙ last (agreed.has_parties p q a)
          ∙ sym (ap (λ o. series_of (option_or o (find (agreed.has_parties p q) (a ∷ []))) after) e)
      go (Some b) e =
          let is_agreed : named (agreements_of L) b.name ≡ Some b = (agreements_are_distinct L).by_parties p q b e in
          let w = stands.series b is_agreed in
          ap (λ o. option_or o (find (has_parties p q) (own ∷ []))) (stands.by_parties p q ∙ ap (λ o. series_of o rows) e ∙ w.2.row)
          ∙ sym (old_row b.name _ w.2.row)
          ∙ sym (ap (λ o. series_of (option_or o (find (agreed.has_parties p q) (a ∷ []))) after) e)

  keeps : KeepsCatalogues rows after
  keeps = record { records = refl; articles = refl; offers = refl; prices = refl; minimums = refl }

  same : (s : List ℕ) (n : ℕ) → first_at (Agree a ∷ L) s n ≡ first_at L s n
  same s n = first_left L (Agree a) refl s n

  lacks : (n : ℕ) → first_at (Agree a ∷ L) a.name n ≡ None
  lacks n = same a.name n ∙ none_under L a.name n no_name

  own_whole : IsAppliedToGap (first_at (Agree a ∷ L) a.name) a after
  own_whole =
      let bare = stands.others a.name no_name in
      let zero : a.first ≡ a.first + 0 = omega arith in (
        [],
        lacks (a.first + 0),
        record {
          can_be_kept = record { readable = λ n. subst (λ o. IfSome o IsReadable) (sym (lacks n)) tt; small = λ n le. lacks n };
          begins = λ j lt. absurd (omega arith);
          row = own_row ∙ ap (λ n. Some (record { agreement = a; next = n })) zero;
          applied = λ j. bare.applied (a.first + j);
          none_applied = λ n lt. bare.applied n;
          held = λ n le. bare.held n ∙ sym (ap (option_map standing_text) (lacks n));
          none_held = λ n lt. bare.held n;
          catalogue = catalogue_kept a.name _ rows after keeps bare.catalogue;
        },
      )

  old_whole : (b : Agreement) → named (agreements_of L) b.name ≡ Some b → IsAppliedToGap (first_at (Agree a ∷ L) b.name) b after
  old_whole b found =
      let w = stands.series b found in
      applied_to_gap_same (first_at L b.name) (first_at (Agree a ∷ L) b.name) b after (same b.name) (
        w.0,
        w.1,
        record {
          can_be_kept = w.2.can_be_kept;
          begins = w.2.begins;
          row = old_row b.name _ w.2.row;
          applied = w.2.applied;
          none_applied = w.2.none_applied;
          held = w.2.held;
          none_held = w.2.none_held;
          catalogue = catalogue_kept b.name _ rows after keeps w.2.catalogue;
        },
      )

  whole_of : (b : Agreement) → (o : Option Agreement) → named (agreements_of L) b.name ≡ o → named (agreements_of (Agree a ∷ L)) b.name ≡ Some b → IsAppliedToGap (first_at (Agree a ∷ L) b.name) b after
  whole_of b (Some d) e found =
      let still : named (agreements_of (Agree a ∷ L)) b.name ≡ Some d = now_named b.name ∙ ap (λ o. option_or o (find (has_name b.name) (a ∷ []))) e in
      let one : Some d ≡ Some b = sym still ∙ found in
      old_whole b (e ∙ one)
  whole_of b None e found = go (bytes_eq a.name b.name) refl
    where
      last : find (has_name b.name) (a ∷ []) ≡ Some b
      last = sym (now_named b.name ∙ ap (λ o. option_or o (find (has_name b.name) (a ∷ []))) e) ∙ found

      go : (t : Bool) → bytes_eq a.name b.name ≡ t → IsAppliedToGap (first_at (Agree a ∷ L) b.name) b after
      go true i = let it : Some a ≡ Some b = ap (λ t. cond t (Some a) None) (sym i) ∙ last in let one : a ≡ b = cc in subst (λ c. IsAppliedToGap (first_at (Agree a ∷ L) c.name) c after) one own_whole
      go false i = absurd (let none : Some b ≡ None = sym last ∙ ap (λ t. cond t (Some a) None) i in cc)

  others : (s : List ℕ) → named (agreements_of (Agree a ∷ L)) s ≡ None → HasNothing s after
  others s none =
      let bare = stands.others s (none_before L (Agree a) s none) in
      record { held = bare.held; applied = bare.applied; catalogue = catalogue_kept s _ rows after keeps bare.catalogue }

  pub agreed_stands : StandsFor after (Agree a ∷ L)
  agreed_stands = record { version = stands.version; by_name = names; by_parties = parties; series = λ b found. whole_of b (named (agreements_of L) b.name) refl found; others = others }

pub agrees_new : (rows now : DeskRows) (a : Agreement) → now ≡ with_series a rows → None ≡ series_at a.name rows → None ≡ series_between a.sender a.addressee rows → Answers (Agree a) (λ L. agree_answer L a) rows Agreed now
agrees_new rows now a put none free L stands =
    let no_name = no_row rows L a.name stands none in
    let no_between = no_parties rows L a.sender a.addressee stands free in (
      subst (λ d. StandsFor d (Agree a ∷ L)) (sym put) (agreed_stands rows L a stands no_name no_between),
      ap (agree_answer_by a None) (sym no_between) ∙ ap (λ o. agree_answer_by a o (between (agreements_of L) a.sender a.addressee)) (sym no_name),
    )
