-- Series in order of name, and one more in its place.
use Rattle.std.proofs.Common.{◌≡◌, ◌+◌, ◌<◌, ◌≤◌, ℕ, zero, suc, Bool, true, false, T, List, [], ◌∷◌, ◌++◌, Option, Some, None, length, get_or, refl, sym, ap, ◌∙◌, arith, cond, not, ◌&&◌}
use Rattle.std.specs.Prelude.{bytes_eq, find, insert, nat_lt, position}
use Rattle.desk_memory.specs.KeptSeries.{stands_at}
use Rattle.std.specs.Cmp.Lexicographic.{slice_cmp}
use Rattle.std.specs.FinMap as fin
use Rattle.std.specs.FinMap.{entries, entries-from_sorted, from_sorted, get-from_sorted, put}
use Rattle.std.specs.FinMap.Entries.{below_all, is_sorted-put}
use Rattle.std.specs.List.{flat_map, position_or_len}
use Rattle.std.specs.Option.{option_or, unwrap_or}
use Rattle.std.specs.Ordering.{nat_cmp, is_lt, is_eq}
use Rattle.std.specs.declared.cmp.Ordering.{Ordering}
use Rattle.std.specs.declared.cmp.Ordering.TheVariants.{Less, Equal, Greater}
use Rattle.std.proofs.lemmas.Bool.Decides.{nat_tests}
use Rattle.std.proofs.lemmas.Cmp.{nat_list_cmp_total}
use Rattle.std.proofs.lemmas.List.{flat_map_more, map_push}
use Rattle.std.proofs.lemmas.List.Folds.{find-append}
use Rattle.std.proofs.lemmas.List.Sums.{prefix_len-le-length}
use Rattle.std.proofs.lemmas.Map.Text.{is_eq-slice_cmp}
use Rattle.std.proofs.lemmas.Option.{none-some}
use Rattle.std.proofs.lemmas.Slice.Eq.{bytes_eq-Decides}
use Rattle.onix_terms.specs.declared.party.Party.{Party}
use Rattle.onix_records.specs.declared.agreements.Agreement.{Agreement}
use Rattle.price_rules.specs.declared.offer.Offer.{Offer}
use Rattle.series_rules.specs.Agreements.{agreements_of, named, between, has_name, has_parties}
use Rattle.series_rules.specs.Offers.{with_names, by_name}
use Rattle.desk_memory.specs.Stands.{StandsFor, AreInOrder, kept_agreements, number_of_series, place_in_order, series_named, standing_of}
use Rattle.series_rules.specs.declared.requests.Request.{Request}
use Rattle.desk_memory.specs.declared.series.Series.{Series}
use Rattle.series_rules.proofs.AgreementLemmas.{same_bytes, parties_are}
use Rattle.desk_memory.proofs.Kept.{FirstAt, push_agreements, push_standing}
use Rattle.series_rules.proofs.OfferLemmas.{equal_maps, find_named, get-by_name}
use Rattle.desk_memory.proofs.OptionsOr.{or_none}

place_or_end : (place end : ℕ) → place ≤ end → (b : Bool) → nat_lt place end ≡ b → unwrap_or (cond b (Some place) None) end ≡ place
place_or_end place end le true e = refl
place_or_end place end le false e = grind (arith, nat_tests)

-- the place of the first that passes, or else the end
pub position_or_end : (p : Series → Bool) (kept : List Series) → unwrap_or (position p kept) (length kept) ≡ position_or_len p kept
position_or_end p kept = place_or_end (position_or_len p kept) (length kept) (prefix_len-le-length (λ s. not (p s)) kept) (nat_lt (position_or_len p kept) (length kept)) refl

-- a place in order is none behind the end
pub place_within : (kept : List Series) (name : List ℕ) → place_in_order kept name ≤ length kept
place_within kept name = prefix_len-le-length (λ s. not (is_lt (slice_cmp nat_cmp name s.agreement.name))) kept

-- where none before passed, a search finds one more as well at its place as at the end
find_inserted : {X : Type 0} (q : X → Bool) (xs : List X) (i : ℕ) (t : X) → (q t ≡ true → find q xs ≡ None) → find q (insert xs i t) ≡ find q (xs ++ t ∷ [])
find_inserted q xs zero t none = go (q t) refl ∙ sym (find-append q xs (t ∷ []))
  where
    go : (b : Bool) → q t ≡ b → cond (q t) (Some t) (find q xs) ≡ option_or (find q xs) (cond (q t) (Some t) None)
    go true e = rw (e, none e) refl
    go false e = rw e (sym (or_none (find q xs)))
find_inserted q [] (suc i) t none = refl
find_inserted q (x ∷ xs) (suc i) t none = go (λ rest. find_inserted q xs i t rest) (q x) refl
  where
    go : ((q t ≡ true → find q xs ≡ None) → find q (insert xs i t) ≡ find q (xs ++ t ∷ [])) → (b : Bool) → q x ≡ b → find q (x ∷ insert xs i t) ≡ find q (x ∷ xs ++ t ∷ [])
    go ih true e = rw e refl
    go ih false e = rw e (ih (λ passes. sym (ap (λ b. cond b (Some x) (find q xs)) e) ∙ none passes))

-- the first agreement of that name, as a map finds it
abbrev named_first : List Series → List ℕ → Option Agreement
named_first kept name = fin.find (slice_cmp nat_cmp) name (with_names (kept_agreements kept))

abbrev PutInOrder : List Series → Series → Type 0
PutInOrder kept t = with_names (kept_agreements (insert kept (place_in_order kept t.agreement.name) t)) ≡ put (slice_cmp nat_cmp) t.agreement.name t.agreement (with_names (kept_agreements kept))

-- a series of a new name, put before the first of a later name, is in its place
put_in_order : (kept : List Series) (t : Series) → named_first kept t.agreement.name ≡ None → PutInOrder kept t
put_in_order [] t none = refl
put_in_order (x ∷ xs) t none = go (λ rest. put_in_order xs t rest) (slice_cmp nat_cmp t.agreement.name x.agreement.name) refl
  where
    other : (r : Ordering) → slice_cmp nat_cmp t.agreement.name x.agreement.name ≡ r → cond (is_eq r) (Some x.agreement) (named_first xs t.agreement.name) ≡ None
    other r e = sym (ap (λ r. cond (is_eq r) (Some x.agreement) (named_first xs t.agreement.name)) e) ∙ none

    go : (named_first xs t.agreement.name ≡ None → PutInOrder xs t) → (r : Ordering) → slice_cmp nat_cmp t.agreement.name x.agreement.name ≡ r → PutInOrder (x ∷ xs) t
    go ih Less e = rw e refl
    go ih Equal e = absurd (none-some x.agreement (sym (other Equal e)))
    go ih Greater e =
        let next : 1 + place_in_order xs t.agreement.name ≡ suc (place_in_order xs t.agreement.name) = omega arith in
        rw e (ap (λ n. with_names (kept_agreements (insert (x ∷ xs) n t))) next ∙ ap (λ es. (x.agreement.name, x.agreement) ∷ es) (ih (other Greater e)))

first : (a b : Bool) → T (a && b) → T a
first true b p = tt
first false b p = p

second : (a b : Bool) → T (a && b) → T b
second true b p = p
second false b p = absurd p

less : (r : Ordering) → T (is_lt r) → is_eq r ≡ false
less Less h = refl
less Equal h = absurd h
less Greater h = absurd h

-- a name below those of a list is none of them
other_name : (k : List ℕ) (kept : List Series) (i : ℕ) (s : Series) → T (below_all (slice_cmp nat_cmp) k (with_names (kept_agreements kept))) → i < length kept → s ≡ get_or kept i s → bytes_eq k s.agreement.name ≡ false
other_name k [] i s below lt is = absurd (omega arith)
other_name k (x ∷ xs) zero s below lt is = ap (λ (y : Series). bytes_eq k y.agreement.name) is ∙ sym (is_eq-slice_cmp k x.agreement.name) ∙ less _ (first _ _ below)
other_name k (x ∷ xs) (suc i) s below lt is = other_name k xs i s (second _ _ below) (omega arith) is

-- each stands first under its own name
pub first_in_order : (kept : List Series) → AreInOrder kept → (i : ℕ) (s : Series) → i < length kept → s ≡ get_or kept i s → FirstAt (λ x. has_name s.agreement.name x.agreement) kept i s
first_in_order [] rising i s lt is = absurd (omega arith)
first_in_order (x ∷ xs) rising zero s lt is = (ap (λ (y : Series). bytes_eq y.agreement.name s.agreement.name) (sym is) ∙ same_bytes s.agreement.name, sym is)
first_in_order (x ∷ xs) rising (suc i) s lt is = (other_name x.agreement.name xs i s (first _ _ rising) (omega arith) is, first_in_order xs (second _ _ rising) i s (omega arith) is)

-- and with one more in its place they are in order
pub still_in_order : (kept : List Series) (t : Series) → AreInOrder kept → named (kept_agreements kept) t.agreement.name ≡ None → AreInOrder (insert kept (place_in_order kept t.agreement.name) t)
still_in_order kept t rising none =
    rw (put_in_order kept t (find_named (kept_agreements kept) t.agreement.name ∙ none))
    (is_sorted-put (slice_cmp nat_cmp) nat_list_cmp_total t.agreement.name t.agreement (with_names (kept_agreements kept)) rising)

-- what is found in a list with one more at a place

insert_agreements : (kept : List Series) (i : ℕ) (t : Series) → kept_agreements (insert kept i t) ≡ insert (kept_agreements kept) i t.agreement
insert_agreements kept zero t = refl
insert_agreements [] (suc i) t = refl
insert_agreements (x ∷ xs) (suc i) t = ap (λ as'. x.agreement ∷ as') (insert_agreements xs i t)

pub named_inserted : (kept : List Series) (i : ℕ) (t : Series) → named (kept_agreements kept) t.agreement.name ≡ None → (name : List ℕ) → named (kept_agreements (insert kept i t)) name ≡ named (kept_agreements kept ++ t.agreement ∷ []) name
named_inserted kept i t none name =
    ap (λ as'. named as' name) (insert_agreements kept i t)
    ∙ find_inserted (has_name name) (kept_agreements kept) i t.agreement (λ passes. ap (named (kept_agreements kept)) (sym ((bytes_eq-Decides t.agreement.name name).0 passes)) ∙ none)

pub between_inserted : (kept : List Series) (i : ℕ) (t : Series) → between (kept_agreements kept) t.agreement.sender t.agreement.addressee ≡ None → (s : Party) (d : Option Party) → between (kept_agreements (insert kept i t)) s d ≡ between (kept_agreements kept ++ t.agreement ∷ []) s d
between_inserted kept i t none s d =
    ap (λ as'. between as' s d) (insert_agreements kept i t)
    ∙ find_inserted (has_parties s d) (kept_agreements kept) i t.agreement (λ passes. let own = parties_are s d t.agreement passes in ap (λ p. between (kept_agreements kept) p d) (sym own.0) ∙ ap (between (kept_agreements kept) t.agreement.sender) (sym own.1) ∙ none)

-- a new series in any place has nothing
pub insert_standing : (kept : List Series) (i : ℕ) (t : Series) → series_named kept t.agreement.name ≡ None → ((n : ℕ) → stands_at t.numbers n ≡ None) → (name : List ℕ) (n : ℕ) → standing_of (insert kept i t) name n ≡ standing_of kept name n
insert_standing kept i t none nothing name n =
    ap (λ o. number_of_series o n) (find_inserted (λ s. has_name name s.agreement) kept i t (λ passes. ap (series_named kept) (sym ((bytes_eq-Decides t.agreement.name name).0 passes)) ∙ none))
    ∙ push_standing kept t nothing name n

-- the entries by name are the kept agreements
pub entries_in_order : (kept : List Series) (L : List Request) → StandsFor kept L → entries (by_name (agreements_of L)) ≡ with_names (kept_agreements kept)
entries_in_order kept L stands =
    ap entries (equal_maps (by_name (agreements_of L)) (from_sorted (with_names (kept_agreements kept)))
    (λ name. get-by_name (agreements_of L) name ∙ sym (stands.agreed name) ∙ sym (find_named (kept_agreements kept) name) ∙ sym (get-from_sorted (slice_cmp nat_cmp) (with_names (kept_agreements kept)) name stands.in_order)))
    ∙ entries-from_sorted (slice_cmp nat_cmp) (with_names (kept_agreements kept)) stands.in_order

-- the offers of the series that are kept, one more at the end
pub offers_more : (f : List ℕ × Agreement → List Offer) (kept : List Series) (s : Series) → flat_map f (with_names (kept_agreements (kept ++ s ∷ []))) ≡ flat_map f (with_names (kept_agreements kept)) ++ f (s.agreement.name, s.agreement)
offers_more f kept s =
    ap (λ as'. flat_map f (with_names as')) (push_agreements kept s)
    ∙ ap (flat_map f) (map_push (λ (a : Agreement). (a.name, a)) (kept_agreements kept) s.agreement)
    ∙ sym (flat_map_more f [] (with_names (kept_agreements kept)) (s.agreement.name, s.agreement))
