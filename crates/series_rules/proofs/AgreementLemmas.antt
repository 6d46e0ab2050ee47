-- Lemmas on agreements: what is found by its name, and by its sender and addressee.
use Rattle.std.proofs.Common.{◌≡◌, ◌≢◌, ◌<◌, ℕ, Bool, true, false, List, [], ◌∷◌, ◌++◌, Option, Some, None, length, get_or, refl, sym, ap, ◌∙◌, cond, ◌&&◌, arith}
use Rattle.std.specs.Prelude.{All, bytes_eq, find}
use Rattle.std.specs.Option.{option_or}
use Rattle.std.proofs.lemmas.Slice.Eq.{bytes_eq-Decides}
use Rattle.std.proofs.lemmas.List.Elements.{All-cons, All-get_or, All-nil}
use Rattle.std.proofs.lemmas.List.Folds.{find-append}
use Rattle.std.proofs.lemmas.List.Quantifiers.{all_pairs_push}
use Rattle.std.proofs.lemmas.Option.{cond_some}
use Rattle.onix_terms.specs.declared.party.Party.{Party}
use Rattle.onix_terms.specs.Plain.{option-decides}
use Rattle.onix_records.specs.SameContents.{same_party, same_party-Decides}
use Rattle.onix_records.specs.declared.agreements.Agreement.{Agreement}
use Rattle.series_rules.specs.Agreements.{same_addressee, has_name, has_parties, named, between, clashes, with_agreement, agreements_of, AreDistinct, NoTwoClash}
use Rattle.series_rules.specs.declared.requests.Request.{Request}
use Rattle.series_rules.specs.declared.requests.Request.TheVariants.{Agree, Deliver, Waive, AskGaps, AskCatalogue, AskPrice, AskChoice, AskCalendar, Malformed}

pub same_bytes : (xs : List ℕ) → bytes_eq xs xs ≡ true
same_bytes xs = (bytes_eq-Decides xs xs).1 refl

both : (a b : Bool) → (a && b) ≡ true → (a ≡ true) × (b ≡ true)
both true b e = (refl, e)
both false b e = absurd cc

party_is : (p q : Party) → same_party p q ≡ true → p ≡ q
party_is p q e = (same_party-Decides p q).0 e

addressee_is : (p q : Option Party) → same_addressee p q ≡ true → p ≡ q
addressee_is p q e = (option-decides same_party-Decides p q).0 e

pub same_party_itself : (p : Party) → same_party p p ≡ true
same_party_itself p = (same_party-Decides p p).1 refl

pub same_addressee_itself : (p : Option Party) → same_addressee p p ≡ true
same_addressee_itself p = (option-decides same_party-Decides p p).1 refl

has_own_parties : (a : Agreement) → has_parties a.sender a.addressee a ≡ true
has_own_parties a = rw (same_party_itself a.sender, same_addressee_itself a.addressee) refl

-- what is found passes the test
found_passes : (p : Agreement → Bool) (xs : List Agreement) (a : Agreement) → find p xs ≡ Some a → p a ≡ true
found_passes p [] a e = absurd cc
found_passes p (x ∷ xs) a e = go (λ rest. found_passes p xs a rest) (p x) refl e
  where
    go : (find p xs ≡ Some a → p a ≡ true) → (b : Bool) → p x ≡ b → cond b (Some x) (find p xs) ≡ Some a → p a ≡ true
    go ih true t e = let same : x ≡ a = cc in ap p (sym same) ∙ t
    go ih false t e = ih e

pub named_has_name : (as' : List Agreement) (name : List ℕ) (a : Agreement) → named as' name ≡ Some a → a.name ≡ name
named_has_name as' name a e = (bytes_eq-Decides a.name name).0 (found_passes (has_name name) as' a e)

pub parties_are : (s : Party) (d : Option Party) (a : Agreement) → has_parties s d a ≡ true → (a.sender ≡ s) × (a.addressee ≡ d)
parties_are s d a e = let parts = both (same_party a.sender s) (same_addressee a.addressee d) e in (party_is a.sender s parts.0, addressee_is a.addressee d parts.1)

pub between_has_parties : (as' : List Agreement) (s : Party) (d : Option Party) (a : Agreement) → between as' s d ≡ Some a → (a.sender ≡ s) × (a.addressee ≡ d)
between_has_parties as' s d a e = parties_are s d a (found_passes (has_parties s d) as' a e)

-- one more at the end
find_more : (p : Agreement → Bool) (xs : List Agreement) (b : Agreement) (o : Option Agreement) → find p xs ≡ o → find p (xs ++ b ∷ []) ≡ option_or o (cond (p b) (Some b) None)
find_more p xs b o e = find-append p xs (b ∷ []) ∙ ap (λ x. option_or x (cond (p b) (Some b) None)) e

-- what is found in a list with one more was found before, or is the last where nothing was found before
found_more : (p q : Agreement → Bool) (xs : List Agreement) (b a : Agreement) → find p (xs ++ b ∷ []) ≡ Some a → (find p xs ≡ Some a → find q xs ≡ Some a) → (b ≡ a → find q xs ≡ None) → q a ≡ true → find q (xs ++ b ∷ []) ≡ Some a
found_more p q xs b a e was is_last passes = go (find p xs) refl
  where
    go : (o : Option Agreement) → find p xs ≡ o → find q (xs ++ b ∷ []) ≡ Some a
    go (Some x) found =
        let same : Some x ≡ Some a = sym (find_more p xs b (Some x) found) ∙ e in
        find_more q xs b (Some a) (was (found ∙ same))
    go None found =
        let last = cond_some (p b) b a (sym (find_more p xs b None found) ∙ e) in
        find_more q xs b None (is_last last.1) ∙ ap (λ x. cond (q x) (Some x) None) last.1 ∙ ap (λ t. cond t (Some a) None) passes

distinct_more : (as' : List Agreement) (b : Agreement) → AreDistinct as' → named as' b.name ≡ None → between as' b.sender b.addressee ≡ None → AreDistinct (as' ++ b ∷ [])
distinct_more as' b distinct no_name no_parties = record {
  by_name = λ name a e. found_more (has_name name) (has_parties a.sender a.addressee) as' b a e (distinct.by_name name a)
      (λ same. ap (λ (x : Agreement). between as' x.sender x.addressee) (sym same) ∙ no_parties) (has_own_parties a);
  by_parties = λ s d a e. found_more (has_parties s d) (has_name a.name) as' b a e (distinct.by_parties s d a)
      (λ same. ap (λ (x : Agreement). named as' x.name) (sym same) ∙ no_name) (same_bytes a.name);
}

pub distinct_with : (as' : List Agreement) (b : Agreement) → AreDistinct as' → AreDistinct (with_agreement as' b)
distinct_with as' b distinct = go (named as' b.name) refl (between as' b.sender b.addressee) refl
  where
    go : (o : Option Agreement) → named as' b.name ≡ o → (u : Option Agreement) → between as' b.sender b.addressee ≡ u → AreDistinct (with_agreement as' b)
    go (Some x) e u e' = rw e distinct
    go None e (Some x) e' = rw (e, e') distinct
    go None e None e' = rw (e, e') (distinct_more as' b distinct e e')

-- agreements that are found alike are apart alike
pub distinct_alike : (as' bs : List Agreement) → ((name : List ℕ) → named as' name ≡ named bs name) → ((s : Party) (d : Option Party) → between as' s d ≡ between bs s d) → AreDistinct bs → AreDistinct as'
distinct_alike as' bs same parties distinct = record {
  by_name = λ name a e. parties a.sender a.addressee ∙ distinct.by_name name a (sym (same name) ∙ e);
  by_parties = λ s d a e. same a.name ∙ distinct.by_parties s d a (sym (parties s d) ∙ e);
}

-- the agreements that stand are apart
pub agreements_are_distinct : (L : List Request) → AreDistinct (agreements_of L)
agreements_are_distinct [] = record { by_name = λ name a e. absurd cc; by_parties = λ s d a e. absurd cc }
agreements_are_distinct (Agree b ∷ L) = distinct_with (agreements_of L) b (agreements_are_distinct L)
agreements_are_distinct (Deliver x ∷ L) = agreements_are_distinct L
agreements_are_distinct (Waive x y ∷ L) = agreements_are_distinct L
agreements_are_distinct (AskGaps x ∷ L) = agreements_are_distinct L
agreements_are_distinct (AskCatalogue x ∷ L) = agreements_are_distinct L
agreements_are_distinct (AskPrice x y ∷ L) = agreements_are_distinct L
agreements_are_distinct (AskChoice x y ∷ L) = agreements_are_distinct L
agreements_are_distinct (AskCalendar x1 x2 ∷ L) = agreements_are_distinct L
agreements_are_distinct (Malformed x ∷ L) = agreements_are_distinct L

-- where none is found, each fails the test
none_passes : (p : Agreement → Bool) (xs : List Agreement) → find p xs ≡ None → All (λ x. p x ≡ false) xs
none_passes p [] e = All-nil (λ x. p x ≡ false)
none_passes p (x ∷ xs) e = go (λ rest. none_passes p xs rest) (p x) refl e
  where
    go : (find p xs ≡ None → All (λ y. p y ≡ false) xs) → (b : Bool) → p x ≡ b → cond b (Some x) (find p xs) ≡ None → All (λ y. p y ≡ false) (x ∷ xs)
    go ih true t e = absurd cc
    go ih false t e = All-cons (λ y. p y ≡ false) x xs t (ih e)

fails_at : (p : Agreement → Bool) (xs : List Agreement) (k : ℕ) (d : Agreement) → k < length xs → find p xs ≡ None → p (get_or xs k d) ≡ false
fails_at p xs k d below none = All-get_or (λ x. p x ≡ false) xs k d below (none_passes p xs none)

other_name : (a b : Agreement) → has_name b.name a ≡ false → a.name ≢ b.name
other_name a b fails same = let passes : has_name b.name a ≡ true = (bytes_eq-Decides a.name b.name).1 same in absurd cc

other_parties : (a b : Agreement) → has_parties b.sender b.addressee a ≡ false → a.sender ≡ b.sender → a.addressee ≢ b.addressee
other_parties a b fails sender addressee =
    let passes : has_parties b.sender b.addressee a ≡ true = ap (λ p. has_parties p b.addressee a) (sym sender) ∙ ap (λ q. has_parties a.sender q a) (sym addressee) ∙ has_own_parties a in
    absurd cc

no_more_clash : (as' : List Agreement) (b : Agreement) → NoTwoClash as' → named as' b.name ≡ None → between as' b.sender b.addressee ≡ None → NoTwoClash (as' ++ b ∷ [])
no_more_clash as' b apart no_name no_parties = record {
  by_name = all_pairs_push (λ x y. x.name ≢ y.name) as' b apart.by_name
      (λ k d below. other_name (get_or as' k d) b (fails_at (has_name b.name) as' k d below no_name));
  by_parties = all_pairs_push (λ x y. x.sender ≡ y.sender → x.addressee ≢ y.addressee) as' b apart.by_parties
      (λ k d below. other_parties (get_or as' k d) b (fails_at (has_parties b.sender b.addressee) as' k d below no_parties));
}

none_clash_with : (as' : List Agreement) (b : Agreement) → NoTwoClash as' → NoTwoClash (with_agreement as' b)
none_clash_with as' b apart = go (named as' b.name) refl (between as' b.sender b.addressee) refl
  where
    go : (o : Option Agreement) → named as' b.name ≡ o → (u : Option Agreement) → between as' b.sender b.addressee ≡ u → NoTwoClash (with_agreement as' b)
    go (Some x) e u e' = rw e apart
    go None e (Some x) e' = rw (e, e') apart
    go None e None e' = rw (e, e') (no_more_clash as' b apart e e')

-- no two of the agreements that stand clash
pub no_two_clash : (L : List Request) → NoTwoClash (agreements_of L)
no_two_clash [] = record { by_name = λ i j d before below. absurd (omega arith); by_parties = λ i j d before below. absurd (omega arith) }
no_two_clash (Agree b ∷ L) = none_clash_with (agreements_of L) b (no_two_clash L)
no_two_clash (Deliver x ∷ L) = no_two_clash L
no_two_clash (Waive x y ∷ L) = no_two_clash L
no_two_clash (AskGaps x ∷ L) = no_two_clash L
no_two_clash (AskCatalogue x ∷ L) = no_two_clash L
no_two_clash (AskPrice x y ∷ L) = no_two_clash L
no_two_clash (AskChoice x y ∷ L) = no_two_clash L
no_two_clash (AskCalendar x1 x2 ∷ L) = no_two_clash L
no_two_clash (Malformed x ∷ L) = no_two_clash L

-- what one finds by its parties, the other finds too, where both find the same by each name
found_too : (as' bs : List Agreement) → AreDistinct as' → AreDistinct bs → ((name : List ℕ) → named as' name ≡ named bs name) → (s : Party) (d : Option Party) (a : Agreement) → between as' s d ≡ Some a → between bs s d ≡ Some a
found_too as' bs distinct other same s d a e =
    let parties = between_has_parties as' s d a e in
    ap (λ p. between bs p d) (sym parties.0) ∙ ap (between bs a.sender) (sym parties.1) ∙ other.by_name a.name a (sym (same a.name) ∙ distinct.by_parties s d a e)

-- agreements that are the same by each name are the same by each sender and addressee
pub between_by_name : (as' bs : List Agreement) → AreDistinct as' → AreDistinct bs → ((name : List ℕ) → named as' name ≡ named bs name) → (s : Party) (d : Option Party) → between as' s d ≡ between bs s d
between_by_name as' bs distinct other same s d = go (between as' s d) refl (between bs s d) refl
  where
    go : (o : Option Agreement) → between as' s d ≡ o → (u : Option Agreement) → between bs s d ≡ u → o ≡ u
    go (Some a) e u e' = sym (found_too as' bs distinct other same s d a e) ∙ e'
    go None e (Some a) e' = sym e ∙ found_too bs as' other distinct (λ name. sym (same name)) s d a e'
    go None e None e' = refl

-- one more agreement, by look-ups
pub named_with : (as' bs : List Agreement) (b : Agreement) → clashes as' b ≡ clashes bs b → ((name : List ℕ) → named as' name ≡ named bs name) → (name : List ℕ) → named (with_agreement as' b) name ≡ named (with_agreement bs b) name
named_with as' bs b clash same name =
    ap (λ t. named (cond t as' (as' ++ b ∷ [])) name) clash
    ∙ elim (clashes bs b) as (λ t. named (cond t as' (as' ++ b ∷ [])) name ≡ named (cond t bs (bs ++ b ∷ [])) name) [
      | true ↦ same name
      | false ↦ find-append (has_name name) as' (b ∷ []) ∙ ap (λ o. option_or o (find (has_name name) (b ∷ []))) (same name) ∙ sym (find-append (has_name name) bs (b ∷ []))
    ]

-- what is agreed stays
pub named_stays : (L : List Request) (r : Request) (s : List ℕ) (a : Agreement) → named (agreements_of L) s ≡ Some a → named (agreements_of (r ∷ L)) s ≡ Some a
named_stays L (Agree b) s a e =
    elim (clashes (agreements_of L) b) as (λ t. named (cond t (agreements_of L) (agreements_of L ++ b ∷ [])) s ≡ Some a) [
      | true ↦ e
      | false ↦ find-append (has_name s) (agreements_of L) (b ∷ []) ∙ ap (λ o. option_or o (find (has_name s) (b ∷ []))) e
    ]
named_stays L _ s a e = e
