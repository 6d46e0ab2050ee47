-- What the desk in memory stands for after a request.
use Rattle.std.proofs.Common.{◌+◌, ◌≡◌, ◌<◌, ◌≤◌, ◌&&◌, ◌||◌, ℕ, Bool, true, false, List, [], ◌∷◌, ◌++◌, Option, Some, None, length, refl, sym, ap, ◌∙◌, arith, subst, nat_eq, cond}
use Rattle.std.specs.Prelude.{bytes_eq, insert, is_some, nat_lt}
use Rattle.std.specs.FinMap as map
use Rattle.std.specs.Option.{option_or}
use Rattle.std.proofs.Math.ListN.{set}
use Rattle.std.proofs.lemmas.Slice.Eq.{bytes_eq-Decides}
use Rattle.std.proofs.lemmas.Bool.Decides.{nat_tests}
use Rattle.catalogue_rules.specs.Records.{ByReference}
use Rattle.onix_terms.specs.declared.party.Party.{Party}
use Rattle.onix_records.specs.Message.{message_of, bad_row}
use Rattle.onix_records.specs.declared.parts.Product.{Product}
use Rattle.onix_records.specs.declared.parts.Header.{Header}
use Rattle.onix_records.specs.declared.agreements.Agreement.{Agreement}
use Rattle.series_rules.specs.Agreements.{agreements_of, named, between, has_name, has_parties, clashes, with_agreement}
use Rattle.series_rules.specs.Firsts.{first_at, put_at, admitted, admitted_at}
use Rattle.series_rules.specs.Series.{front_of, next_of, IsFront, after_all}
use Rattle.series_rules.specs.Gaps.{IsGreatest, greatest_of, report_by}
use Rattle.series_rules.specs.declared.answers.GapReport.{GapReport}
use Rattle.series_rules.proofs.GapLemmas.{greatest_is, greatest_same, report_by_same}
use Rattle.desk_memory.specs.Stands.{kept_agreements, place_in_order, series_named, standing_of, with_standing, StandsFor}
use Rattle.series_rules.specs.Answers.{same_agreement, agree_answer, agree_answer_by, answer_against, delivery_answer_at, message_answer_by, delivery_answer_by, delivery_answer, waived_by, waive_answer_at, waive_answer, gaps_answer, catalogue_answer}
use Rattle.desk_memory.specs.KeptSeries.{stands_at}
use Rattle.desk_memory.specs.declared.series.Series.{Series}
use Rattle.series_rules.specs.declared.requests.Request.{Request}
use Rattle.series_rules.specs.declared.requests.Request.TheVariants.{Agree, Deliver, Waive}
use Rattle.series_rules.specs.declared.requests.Standing.{Standing}
use Rattle.series_rules.specs.declared.requests.Standing.TheVariants.{Message, Waived}
use Rattle.series_rules.specs.declared.answers.AgreeAnswer.{AgreeAnswer}
use Rattle.series_rules.specs.declared.answers.AgreeAnswer.TheVariants.{Agreed, NameTaken, SeriesTaken}
use Rattle.series_rules.specs.declared.answers.DeliveryAnswer.{DeliveryAnswer}
use Rattle.series_rules.specs.declared.answers.DeliveryAnswer.TheVariants as delivery
use Rattle.series_rules.specs.declared.answers.WaiveAnswer.{WaiveAnswer}
use Rattle.series_rules.specs.declared.answers.WaiveAnswer.TheVariants as waiver
use Rattle.series_rules.proofs.AgreementLemmas.{agreements_are_distinct, distinct_alike, distinct_with, between_by_name, named_with, named_has_name}
use Rattle.series_rules.proofs.FirstLemmas.{first_left}
use Rattle.series_rules.proofs.FrontLemmas.{front_is, is_front_same}
use Rattle.desk_memory.proofs.Kept.{FirstAt, first_found, own_place, named_kept, between_kept, set_agreements, set_standing}
use Rattle.desk_memory.proofs.OptionsOr.{or_none}
use Rattle.desk_memory.proofs.InOrder.{named_inserted, between_inserted, insert_standing, still_in_order}

-- the agreements found by their parties are the definition's
pub parties_stand : (kept : List Series) (L : List Request) → StandsFor kept L → (s : Party) (d : Option Party) → between (kept_agreements kept) s d ≡ between (agreements_of L) s d
parties_stand kept L stands = between_by_name (kept_agreements kept) (agreements_of L) stands.distinct (agreements_are_distinct L) stands.agreed

-- a request that puts nothing anywhere and leaves the agreements
pub stands_without : (kept : List Series) (L : List Request) (r : Request) → StandsFor kept L → agreements_of (r ∷ L) ≡ agreements_of L → admitted (agreements_of L) r ≡ None → StandsFor kept (r ∷ L)
stands_without kept L r stands same nothing = record {
  agreed = λ name. stands.agreed name ∙ ap (λ as'. named as' name) (sym same);
  distinct = stands.distinct;
  in_order = stands.in_order;
  firsts = λ s n. stands.firsts s n ∙ sym (first_left L r nothing s n);
}

-- agreements

clashing : (as' : List Agreement) (a : Agreement) → clashes as' a ≡ true → with_agreement as' a ≡ as'
clashing as' a e = rw e refl

pub agree_named : (kept : List Series) (L : List Request) (a : Agreement) (s : Series) (i : ℕ) (x : AgreeAnswer) → StandsFor kept L → FirstAt (λ x. has_name a.name x.agreement) kept i s → x ≡ cond (same_agreement s.agreement a) Agreed NameTaken → (x ≡ agree_answer L a) × StandsFor kept (Agree a ∷ L)
agree_named kept L a s i x stands first is =
    let found : named (agreements_of L) a.name ≡ Some s.agreement = sym (stands.agreed a.name) ∙ named_kept kept a.name (Some s) (first_found (λ x. has_name a.name x.agreement) kept i s first) in (
      is ∙ ap (λ o. agree_answer_by a o (between (agreements_of L) a.sender a.addressee)) (sym found),
      stands_without kept L (Agree a) stands (clashing (agreements_of L) a (ap (λ o. is_some o || is_some (between (agreements_of L) a.sender a.addressee)) found)) refl,
    )

pub agree_taken : (kept : List Series) (L : List Request) (a : Agreement) (s : Series) (i : ℕ) → StandsFor kept L → series_named kept a.name ≡ None → FirstAt (λ x. has_parties a.sender a.addressee x.agreement) kept i s → (SeriesTaken s.agreement.name ≡ agree_answer L a) × StandsFor kept (Agree a ∷ L)
agree_taken kept L a s i stands none first =
    let no_name : named (agreements_of L) a.name ≡ None = sym (stands.agreed a.name) ∙ named_kept kept a.name None none in
    let found : between (agreements_of L) a.sender a.addressee ≡ Some s.agreement = sym (parties_stand kept L stands a.sender a.addressee) ∙ between_kept kept a.sender a.addressee (Some s) (first_found (λ x. has_parties a.sender a.addressee x.agreement) kept i s first) in (
      ap (agree_answer_by a None) (sym found) ∙ ap (λ o. agree_answer_by a o (between (agreements_of L) a.sender a.addressee)) (sym no_name),
      stands_without kept L (Agree a) stands (clashing (agreements_of L) a (ap (λ o. is_some o || is_some (between (agreements_of L) a.sender a.addressee)) no_name ∙ ap is_some found)) refl,
    )

-- a new series in its place
agree_own : (kept : List Series) (L : List Request) (t : Series) → StandsFor kept L → series_named kept t.agreement.name ≡ None → between (kept_agreements kept) t.agreement.sender t.agreement.addressee ≡ None → ((n : ℕ) → stands_at t.numbers n ≡ None) → (Agreed ≡ agree_answer L t.agreement) × StandsFor (insert kept (place_in_order kept t.agreement.name) t) (Agree t.agreement ∷ L)
agree_own kept L t stands none no_parties nothing =
    let a = t.agreement in
    let as' = kept_agreements kept in
    let at = place_in_order kept a.name in
    let own : named as' a.name ≡ None = named_kept kept a.name None none in
    let no_name : named (agreements_of L) a.name ≡ None = sym (stands.agreed a.name) ∙ own in
    let no_between : between (agreements_of L) a.sender a.addressee ≡ None = sym (parties_stand kept L stands a.sender a.addressee) ∙ no_parties in
    let free : clashes as' a ≡ false = ap (λ o. is_some o || is_some (between as' a.sender a.addressee)) own ∙ ap is_some no_parties in
    let free' : clashes (agreements_of L) a ≡ false = ap (λ o. is_some o || is_some (between (agreements_of L) a.sender a.addressee)) no_name ∙ ap is_some no_between in
    let more : as' ++ a ∷ [] ≡ with_agreement as' a = sym (ap (λ c. cond c as' (as' ++ a ∷ [])) free) in
    let names : (name : List ℕ) → named (kept_agreements (insert kept at t)) name ≡ named (with_agreement as' a) name = λ name. named_inserted kept at t own name ∙ ap (λ bs. named bs name) more in
    let parties : (s : Party) (d : Option Party) → between (kept_agreements (insert kept at t)) s d ≡ between (with_agreement as' a) s d = λ s d. between_inserted kept at t no_parties s d ∙ ap (λ bs. between bs s d) more in (
      ap (agree_answer_by a None) (sym no_between) ∙ ap (λ o. agree_answer_by a o (between (agreements_of L) a.sender a.addressee)) (sym no_name),
      record {
        agreed = λ name. names name ∙ named_with as' (agreements_of L) a (free ∙ sym free') stands.agreed name;
        distinct = distinct_alike (kept_agreements (insert kept at t)) (with_agreement as' a) names parties (distinct_with as' a stands.distinct);
        in_order = still_in_order kept t stands.in_order own;
        firsts = λ s n. insert_standing kept at t none nothing s n ∙ stands.firsts s n ∙ sym (or_none (first_at L s n));
      },
    )

pub agree_new : (kept : List Series) (L : List Request) (a : Agreement) (t : Series) → StandsFor kept L → series_named kept a.name ≡ None → between (kept_agreements kept) a.sender a.addressee ≡ None → t.agreement ≡ a → ((n : ℕ) → stands_at t.numbers n ≡ None) → (Agreed ≡ agree_answer L a) × StandsFor (insert kept (place_in_order kept a.name) t) (Agree a ∷ L)
agree_new kept L a t stands none no_parties is nothing =
    subst (λ b. (series_named kept b.name ≡ None) → (between (kept_agreements kept) b.sender b.addressee ≡ None) → (Agreed ≡ agree_answer L b) × StandsFor (insert kept (place_in_order kept b.name) t) (Agree b ∷ L)) is
    (λ no_name no_between. agree_own kept L t stands no_name no_between nothing) none no_parties

-- a series whose numbers changed

-- what stood under its own name
own_standing : (kept : List Series) (i : ℕ) (s : Series) → FirstAt (λ x. has_name s.agreement.name x.agreement) kept i s → (n : ℕ) → standing_of kept s.agreement.name n ≡ stands_at s.numbers n
own_standing kept i s first n = rw (first_found (λ x. has_name s.agreement.name x.agreement) kept i s first) refl

-- its numbers are as before
pub stands_again : (kept : List Series) (L : List Request) (i : ℕ) (s t : Series) → StandsFor kept L → FirstAt (λ x. has_name s.agreement.name x.agreement) kept i s → t.agreement ≡ s.agreement → ((n : ℕ) → stands_at t.numbers n ≡ stands_at s.numbers n) → StandsFor (set kept i t) L
stands_again kept L i s t stands first same again = record {
  agreed = λ name. ap (λ as'. named as' name) agreements ∙ stands.agreed name;
  distinct = rw agreements stands.distinct;
  in_order = rw agreements stands.in_order;
  firsts = λ name n. set_standing kept i s t first same name n ∙ go name n (bytes_eq s.agreement.name name) refl ∙ stands.firsts name n;
}
  where
    agreements : kept_agreements (set kept i t) ≡ kept_agreements kept
    agreements = set_agreements (λ x. has_name s.agreement.name x.agreement) kept i s t first same

    go : (name : List ℕ) (n : ℕ) (b : Bool) → bytes_eq s.agreement.name name ≡ b → cond b (stands_at t.numbers n) (standing_of kept name n) ≡ standing_of kept name n
    go name n true e = again n ∙ sym (own_standing kept i s first n) ∙ ap (λ x. standing_of kept x n) ((bytes_eq-Decides s.agreement.name name).0 e)
    go name n false e = refl

-- they have one more, which the request may put there
pub stands_with : (kept : List Series) (L : List Request) (r : Request) (i : ℕ) (s t : Series) (n : ℕ) (h : Standing) → StandsFor kept L → FirstAt (λ x. has_name s.agreement.name x.agreement) kept i s → t.agreement ≡ s.agreement → ((k : ℕ) → stands_at t.numbers k ≡ with_standing (stands_at s.numbers) n h k) → agreements_of (r ∷ L) ≡ agreements_of L → admitted (agreements_of L) r ≡ Some (record { series = s.agreement.name; number = n; standing = h }) → StandsFor (set kept i t) (r ∷ L)
stands_with kept L r i s t n h stands first same more left adm = record {
  agreed = λ name. ap (λ as'. named as' name) agreements ∙ stands.agreed name ∙ ap (λ as'. named as' name) (sym left);
  distinct = rw agreements stands.distinct;
  in_order = rw agreements stands.in_order;
  firsts = λ name k. set_standing kept i s t first same name k ∙ go name k (bytes_eq s.agreement.name name) refl ∙ ap (λ p. option_or (first_at L name k) (put_at p name k)) (sym adm);
}
  where
    agreements : kept_agreements (set kept i t) ≡ kept_agreements kept
    agreements = set_agreements (λ x. has_name s.agreement.name x.agreement) kept i s t first same

    go : (name : List ℕ) (k : ℕ) (b : Bool) → bytes_eq s.agreement.name name ≡ b → cond b (stands_at t.numbers k) (standing_of kept name k) ≡ option_or (first_at L name k) (cond (bytes_eq s.agreement.name name && nat_eq n k) (Some h) None)
    go name k true e =
        let there : stands_at s.numbers k ≡ first_at L name k = sym (own_standing kept i s first k) ∙ ap (λ x. standing_of kept x k) ((bytes_eq-Decides s.agreement.name name).0 e) ∙ stands.firsts name k in
        more k ∙ ap (λ o. option_or o (cond (nat_eq n k) (Some h) None)) there ∙ ap (λ b. option_or (first_at L name k) (cond (b && nat_eq n k) (Some h) None)) (sym e)
    go name k false e = stands.firsts name k ∙ sym (or_none (first_at L name k)) ∙ ap (λ b. option_or (first_at L name k) (cond (b && nat_eq n k) (Some h) None)) (sym e)

-- what stands at the numbers of a kept series is the definition's
series_stands : (kept : List Series) (L : List Request) (i : ℕ) (s : Series) → StandsFor kept L → FirstAt (λ x. has_name s.agreement.name x.agreement) kept i s → (n : ℕ) → stands_at s.numbers n ≡ first_at L s.agreement.name n
series_stands kept L i s stands first n = sym (own_standing kept i s first n) ∙ stands.firsts s.agreement.name n

-- the front of a kept series is the definition's
pub kept_front_is : (kept : List Series) (L : List Request) (i : ℕ) (s : Series) → StandsFor kept L → FirstAt (λ x. has_name s.agreement.name x.agreement) kept i s → IsFront (stands_at s.numbers) s.agreement.first (front_of L s.agreement)
kept_front_is kept L i s stands first = is_front_same (stands_at s.numbers) (first_at L s.agreement.name) (series_stands kept L i s stands first) s.agreement.first _ (front_is L s.agreement.name s.agreement.first)

not_below : (n m : ℕ) → m ≤ n → nat_lt n m ≡ false
not_below n m le = grind (arith, nat_tests)

is_below : (n m : ℕ) → n < m → nat_lt n m ≡ true
is_below n m lt = grind (arith, nat_tests)

-- deliveries

pub delivered_unknown : (kept : List Series) (L : List Request) (records : List (List (List ℕ))) (m : Header × List Product) (n : ℕ) → StandsFor kept L → message_of records ≡ Some m → m.0.number ≡ Some n → between (kept_agreements kept) m.0.sender m.0.addressee ≡ None → (delivery.UnknownSeries ≡ delivery_answer L records) × StandsFor kept (Deliver records ∷ L)
delivered_unknown kept L records m n stands read number none =
    let found : between (agreements_of L) m.0.sender m.0.addressee ≡ None = sym (parties_stand kept L stands m.0.sender m.0.addressee) ∙ none in
    (rw (read, number, found) refl, stands_without kept L (Deliver records) stands refl (rw (read, number, found) refl))

delivery_found : (kept : List Series) (L : List Request) (m : Header × List Product) (i : ℕ) (s : Series) → StandsFor kept L → FirstAt (λ x. has_parties m.0.sender m.0.addressee x.agreement) kept i s → between (agreements_of L) m.0.sender m.0.addressee ≡ Some s.agreement
delivery_found kept L m i s stands first =
    sym (parties_stand kept L stands m.0.sender m.0.addressee) ∙ between_kept kept m.0.sender m.0.addressee (Some s) (first_found (λ x. has_parties m.0.sender m.0.addressee x.agreement) kept i s first)

-- what a delivery of that number to that agreement is answered
delivery_unfolds : (L : List Request) (records : List (List (List ℕ))) (m : Header × List Product) (n : ℕ) (a : Agreement) → message_of records ≡ Some m → m.0.number ≡ Some n → between (agreements_of L) m.0.sender m.0.addressee ≡ Some a → delivery_answer L records ≡ delivery_answer_at (Deliver records ∷ L) n m.1 (Some a)
delivery_unfolds L records m n a read number found =
    ap (delivery_answer_by (Deliver records ∷ L) (agreements_of L) (bad_row records)) read ∙ ap (message_answer_by (Deliver records ∷ L) (agreements_of L) m.0 m.1) number ∙ ap (delivery_answer_at (Deliver records ∷ L) n m.1) found

admits : (L : List Request) (records : List (List (List ℕ))) (m : Header × List Product) (n : ℕ) (a : Agreement) → message_of records ≡ Some m → m.0.number ≡ Some n → between (agreements_of L) m.0.sender m.0.addressee ≡ Some a → admitted (agreements_of L) (Deliver records) ≡ admitted_at (Some a) n (Message m.1)
admits L records m n a read number found = rw (read, number, found) refl

pub delivered_before : (kept : List Series) (L : List Request) (records : List (List (List ℕ))) (m : Header × List Product) (n i : ℕ) (s : Series) → StandsFor kept L → message_of records ≡ Some m → m.0.number ≡ Some n → FirstAt (λ x. has_parties m.0.sender m.0.addressee x.agreement) kept i s → n < s.agreement.first → (delivery.BeforeFirst s.agreement.name n s.agreement.first ≡ delivery_answer L records) × StandsFor kept (Deliver records ∷ L)
delivered_before kept L records m n i s stands read number first lt =
    let found = delivery_found kept L m i s stands first in
    let low = is_below n s.agreement.first lt in
    let before : delivery_answer_at (Deliver records ∷ L) n m.1 (Some s.agreement) ≡ delivery.BeforeFirst s.agreement.name n s.agreement.first = rw low refl in
    let nothing : admitted_at (Some s.agreement) n (Message m.1) ≡ None = rw low refl in (
      sym (delivery_unfolds L records m n s.agreement read number found ∙ before),
      stands_without kept L (Deliver records) stands refl (admits L records m n s.agreement read number found ∙ nothing),
    )

pub delivered_at : (kept : List Series) (L : List Request) (records : List (List (List ℕ))) (m : Header × List Product) (n i : ℕ) (s t : Series) (x : DeliveryAnswer) → StandsFor kept L → message_of records ≡ Some m → m.0.number ≡ Some n → FirstAt (λ x. has_parties m.0.sender m.0.addressee x.agreement) kept i s → s.agreement.first ≤ n → t.agreement ≡ s.agreement → ((k : ℕ) → stands_at t.numbers k ≡ with_standing (stands_at s.numbers) n (Message m.1) k) → ((hs : List Standing) → IsFront (stands_at t.numbers) s.agreement.first hs → x ≡ answer_against hs s.agreement.name s.agreement.first n m.1 (stands_at t.numbers n)) → (x ≡ delivery_answer L records) × StandsFor (set kept i t) (Deliver records ∷ L)
delivered_at kept L records m n i s t x stands read number parties le same more answer =
    let found = delivery_found kept L m i s stands parties in
    let low = not_below n s.agreement.first le in
    let first = own_place kept stands.distinct m.0.sender m.0.addressee i s parties in
    let adm : admitted (agreements_of L) (Deliver records) ≡ Some (record { series = s.agreement.name; number = n; standing = Message m.1 }) = admits L records m n s.agreement read number found ∙ ap (λ b. cond b None (Some (record { series = s.agreement.name; number = n; standing = Message m.1 }))) low in
    let after = stands_with kept L (Deliver records) i s t n (Message m.1) stands first same more refl adm in
    let now : (k : ℕ) → stands_at t.numbers k ≡ first_at (Deliver records ∷ L) s.agreement.name k = λ k. stands_now kept i s t first same k ∙ after.firsts s.agreement.name k in
    let said = answer (front_of (Deliver records ∷ L) s.agreement) (is_front_same (stands_at t.numbers) (first_at (Deliver records ∷ L) s.agreement.name) now s.agreement.first _ (front_is (Deliver records ∷ L) s.agreement.name s.agreement.first)) in (
      said ∙ ap (answer_against (front_of (Deliver records ∷ L) s.agreement) s.agreement.name s.agreement.first n m.1) (now n)
          ∙ sym (delivery_unfolds L records m n s.agreement read number found ∙ ap (λ b. cond b (delivery.BeforeFirst s.agreement.name n s.agreement.first) (answer_against (front_of (Deliver records ∷ L) s.agreement) s.agreement.name s.agreement.first n m.1 (first_at (Deliver records ∷ L) s.agreement.name n))) low),
      after,
    )
  where
    stands_now : (kept : List Series) (i : ℕ) (s t : Series) → FirstAt (λ x. has_name s.agreement.name x.agreement) kept i s → t.agreement ≡ s.agreement → (k : ℕ) → stands_at t.numbers k ≡ standing_of (set kept i t) s.agreement.name k
    stands_now kept i s t first same k = sym (set_standing kept i s t first same s.agreement.name k ∙ ap (λ b. cond b (stands_at t.numbers k) (standing_of kept s.agreement.name k)) ((bytes_eq-Decides s.agreement.name s.agreement.name).1 refl))

-- waivers

waiver_found : (kept : List Series) (L : List Request) (name : List ℕ) (i : ℕ) (s : Series) → StandsFor kept L → FirstAt (λ x. has_name name x.agreement) kept i s → named (agreements_of L) name ≡ Some s.agreement
waiver_found kept L name i s stands first = sym (stands.agreed name) ∙ named_kept kept name (Some s) (first_found (λ x. has_name name x.agreement) kept i s first)

-- it stands first under its own name
pub named_place : (kept : List Series) (name : List ℕ) (i : ℕ) (s : Series) → FirstAt (λ x. has_name name x.agreement) kept i s → FirstAt (λ x. has_name s.agreement.name x.agreement) kept i s
named_place kept name i s first =
    let same : s.agreement.name ≡ name = named_has_name (kept_agreements kept) name s.agreement (named_kept kept name (Some s) (first_found (λ x. has_name name x.agreement) kept i s first)) in
    subst (λ x. FirstAt (λ y. has_name x y.agreement) kept i s) (sym same) first

pub waived_unknown : (kept : List Series) (L : List Request) (name : List ℕ) (n : ℕ) → StandsFor kept L → series_named kept name ≡ None → (waiver.UnknownSeries ≡ waive_answer L name n) × StandsFor kept (Waive name n ∷ L)
waived_unknown kept L name n stands none =
    let found : named (agreements_of L) name ≡ None = sym (stands.agreed name) ∙ named_kept kept name None none in
    (rw found refl, stands_without kept L (Waive name n) stands refl (rw found refl))

pub waived_before : (kept : List Series) (L : List Request) (name : List ℕ) (n i : ℕ) (s : Series) → StandsFor kept L → FirstAt (λ x. has_name name x.agreement) kept i s → n < s.agreement.first → (waiver.BeforeFirst s.agreement.first ≡ waive_answer L name n) × StandsFor kept (Waive name n ∷ L)
waived_before kept L name n i s stands first lt =
    let found = waiver_found kept L name i s stands first in
    let low = is_below n s.agreement.first lt in
    (rw (found, low) refl, stands_without kept L (Waive name n) stands refl (rw (found, low) refl))

pub waived_at : (kept : List Series) (L : List Request) (name : List ℕ) (n i : ℕ) (s t : Series) (x : WaiveAnswer) → StandsFor kept L → FirstAt (λ x. has_name name x.agreement) kept i s → s.agreement.first ≤ n → t.agreement ≡ s.agreement → ((k : ℕ) → stands_at t.numbers k ≡ with_standing (stands_at s.numbers) n Waived k) → x ≡ waived_by (stands_at t.numbers n) → (x ≡ waive_answer L name n) × StandsFor (set kept i t) (Waive name n ∷ L)
waived_at kept L name n i s t x stands place le same more answer =
    let found = waiver_found kept L name i s stands place in
    let low = not_below n s.agreement.first le in
    let first = named_place kept name i s place in
    let adm : admitted (agreements_of L) (Waive name n) ≡ Some (record { series = s.agreement.name; number = n; standing = Waived }) = rw (found, low) refl in
    let after = stands_with kept L (Waive name n) i s t n Waived stands first same more refl adm in
    let there : stands_at t.numbers n ≡ first_at (Waive name n ∷ L) s.agreement.name n =
    more n ∙ ap (λ o. option_or o (cond (nat_eq n n) (Some Waived) None)) (series_stands kept L i s stands first n) ∙ own_put (first_at L s.agreement.name n) ∙ ap (λ p. option_or (first_at L s.agreement.name n) (put_at p s.agreement.name n)) (sym adm) in
    let unfolds : waive_answer L name n ≡ waived_by (first_at (Waive name n ∷ L) s.agreement.name n) =
    ap (waive_answer_at (Waive name n ∷ L) n) found ∙ ap (λ b. cond b (waiver.BeforeFirst s.agreement.first) (waived_by (first_at (Waive name n ∷ L) s.agreement.name n))) low in
    (answer ∙ ap waived_by there ∙ sym unfolds, after)
  where
    own_put : (o : Option Standing) → option_or o (cond (nat_eq n n) (Some Waived) None) ≡ option_or o (cond (bytes_eq s.agreement.name s.agreement.name && nat_eq n n) (Some Waived) None)
    own_put o = ap (λ b. option_or o (cond (b && nat_eq n n) (Some Waived) None)) (sym ((bytes_eq-Decides s.agreement.name s.agreement.name).1 refl))

-- questions

pub no_catalogue : (kept : List Series) (L : List Request) (name : List ℕ) → StandsFor kept L → series_named kept name ≡ None → None ≡ catalogue_answer L name
no_catalogue kept L name stands none =
    let found : named (agreements_of L) name ≡ None = sym (stands.agreed name) ∙ named_kept kept name None none in
    rw found refl

pub catalogue_stands : (kept : List Series) (L : List Request) (name : List ℕ) (i : ℕ) (s : Series) (m : ByReference) → StandsFor kept L → FirstAt (λ x. has_name name x.agreement) kept i s → ((hs : List Standing) → IsFront (stands_at s.numbers) s.agreement.first hs → m ≡ after_all map.empty hs) → Some m ≡ catalogue_answer L name
catalogue_stands kept L name i s m stands first folded =
    let found = waiver_found kept L name i s stands first in
    rw found (ap Some (folded (front_of L s.agreement) (kept_front_is kept L i s stands (named_place kept name i s first))))

pub no_gaps : (kept : List Series) (L : List Request) (name : List ℕ) → StandsFor kept L → series_named kept name ≡ None → None ≡ gaps_answer L name
no_gaps kept L name stands none =
    let found : named (agreements_of L) name ≡ None = sym (stands.agreed name) ∙ named_kept kept name None none in
    rw found refl

pub gaps_stand : (kept : List Series) (L : List Request) (name : List ℕ) (i : ℕ) (s : Series) (report : GapReport) → StandsFor kept L → FirstAt (λ x. has_name name x.agreement) kept i s → ((hs : List Standing) (greatest : Option ℕ) → IsFront (stands_at s.numbers) s.agreement.first hs → IsGreatest (stands_at s.numbers) greatest → report ≡ report_by s.agreement.name (stands_at s.numbers) s.agreement.first (s.agreement.first + length hs) greatest) → Some report ≡ gaps_answer L name
gaps_stand kept L name i s report stands first is =
    let found = waiver_found kept L name i s stands first in
    let own = named_place kept name i s first in
    let same = series_stands kept L i s stands own in
    let greatest = greatest_same (first_at L s.agreement.name) (stands_at s.numbers) same (greatest_of L s.agreement.name) (greatest_is L s.agreement.name) in
    rw found (ap Some (is (front_of L s.agreement) (greatest_of L s.agreement.name) (kept_front_is kept L i s stands own) greatest
    ∙ report_by_same s.agreement.name (stands_at s.numbers) (first_at L s.agreement.name) same s.agreement.first (next_of L s.agreement) (greatest_of L s.agreement.name)))
