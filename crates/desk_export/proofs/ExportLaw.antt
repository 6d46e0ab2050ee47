-- What is exported of a list of requests comes to the same as the list.
use Rattle.std.proofs.Common.{◌≡◌, ◌+◌, ◌<◌, ◌≤◌, ℕ, zero, suc, Bool, true, false, List, [], ◌∷◌, ◌++◌, Option, Some, None, refl, sym, ap, ◌∙◌, subst, arith, add-zero, cond, ◌&&◌, nat_eq, ◌⊎◌, inl, inr, map, append_assoc}
use Rattle.std.specs.Prelude.{bytes_eq, find, nat_lt}
use Rattle.std.specs.FinMap as fin
use Rattle.std.specs.FinMap.{entries, get-entries}
use Rattle.std.specs.Cmp.Lexicographic.{slice_cmp}
use Rattle.std.specs.List.{flat_map, range_with_len}
use Rattle.std.specs.Option.{option_or}
use Rattle.std.specs.Ordering.{is_eq, nat_cmp}
use Rattle.std.proofs.lemmas.Bool.{cases_lt}
use Rattle.std.proofs.lemmas.Bool.Decides.{nat_tests}
use Rattle.std.proofs.lemmas.List.Folds.{find-append}
use Rattle.std.proofs.lemmas.Slice.Eq.{bytes_eq-Decides}
use Rattle.onix_terms.specs.declared.party.Party.{Party}
use Rattle.onix_records.specs.Message.{message_of}
use Rattle.desk_export.specs.MessageRecords.{message_records, numbered_header}
use Rattle.onix_records.specs.declared.agreements.Agreement.{Agreement}
use Rattle.onix_records.specs.declared.parts.Header.{Header}
use Rattle.onix_records.specs.declared.parts.Product.{Product}
use Rattle.price_rules.specs.declared.precedence.Rule.{Rule}
use Rattle.series_rules.proofs.AgreementLemmas.{agreements_are_distinct, between_by_name, between_has_parties, named_has_name, named_stays, parties_are}
use Rattle.series_rules.specs.Agreements.{agreements_of, between, has_name, has_parties, named, with_agreement}
use Rattle.series_rules.specs.Answers.{answer_to, answers, followed_by}
use Rattle.series_rules.specs.Content.{SameContent}
use Rattle.desk_export.specs.Exports.{ExportIsTrue, export_of, exported, request_for, requests_at, requests_from, series_requests}
use Rattle.series_rules.proofs.FirstLemmas.{first_left, first_other, first_there}
use Rattle.series_rules.specs.Firsts.{Placement, admitted, admitted_at, admitted_message, admitted_number, first_at, put_at}
use Rattle.series_rules.proofs.GapLemmas.{greatest_is, greatest_unique, none_below_first}
use Rattle.series_rules.specs.Gaps.{IsGreatest, greatest_of, numbers_up_to}
use Rattle.series_rules.specs.OfferLaws.{AreInOrder}
use Rattle.series_rules.proofs.OfferLemmas.{equal_maps, find_named, get-by_name, same_test}
use Rattle.series_rules.specs.Offers.{by_name, with_names}
use Rattle.series_rules.specs.declared.requests.Request.{Request}
use Rattle.series_rules.specs.declared.requests.Request.TheVariants.{Agree, Deliver, Waive, AskPrice, AskChoice, AskCalendar, AskGaps, AskCatalogue, Malformed}
use Rattle.series_rules.specs.declared.requests.Standing.{Standing}
use Rattle.series_rules.specs.declared.requests.Standing.TheVariants.{Message, Waived}
use Rattle.series_rules.proofs.Elements.{In, Ordered}
use Rattle.series_rules.proofs.LawProofs.{by_content_alone}
use Rattle.desk_export.proofs.MapEntries.{get_in, ordered_entries}

-- what the law of messages that are written anew says
abbrev pub ReadsBack : Type 0
ReadsBack =
    (records : List (List (List ℕ))) (h : Header) (c : List Product) (n : ℕ) → message_of records ≡ Some (h, c) → h.number ≡ Some n
    → message_of (message_records h.sender h.addressee n c) ≡ Some (numbered_header h.sender h.addressee n, c)

-- ---- where a message stands, its records came with the parties of the series

record Came (L : List Request) (s : List ℕ) (n : ℕ) (c : List Product) : Type 0 where
  records : List (List (List ℕ))
  header : Header
  is_message : message_of records ≡ Some (header, c)
  numbered : header.number ≡ Some n
  agreement : Agreement
  agreed : named (agreements_of L) s ≡ Some agreement
  sender : agreement.sender ≡ header.sender
  addressee : agreement.addressee ≡ header.addressee

pub record Put (o : Option Agreement) (k : ℕ) (h : Standing) (s : List ℕ) (n : ℕ) (g : Standing) : Type 0 where
  pub agreement : Agreement
  pub found : o ≡ Some agreement
  pub name : agreement.name ≡ s
  pub number : k ≡ n
  pub standing : h ≡ g

pub put_some : (o : Option Agreement) (k : ℕ) (h : Standing) (s : List ℕ) (n : ℕ) (g : Standing) → put_at (admitted_at o k h) s n ≡ Some g → Put o k h s n g
put_some None k h s n g e = absurd cc
put_some (Some a) k h s n g e = by (nat_lt k a.first) e
  where
    at : (t : Bool) → bytes_eq a.name s ≡ t → (u : Bool) → nat_eq k n ≡ u → cond (t && u) (Some h) None ≡ Some g → Put (Some a) k h s n g
    at true same true number is = record {
      agreement = a;
      found = refl;
      name = (bytes_eq-Decides a.name s).0 same;
      number = grind (arith, nat_tests);
      standing = cc;
    }
    at true same false number is = absurd cc
    at false same u number is = absurd cc

    by : (b : Bool) → put_at (cond b None (Some (record { series = a.name; number = k; standing = h }))) s n ≡ Some g → Put (Some a) k h s n g
    by true is = absurd cc
    by false is = at (bytes_eq a.name s) refl (nat_eq k n) refl is

numbered_some : (o : Option Agreement) (k : Option ℕ) (h : Standing) (s : List ℕ) (n : ℕ) (g : Standing) → put_at (admitted_number o k h) s n ≡ Some g → (k ≡ Some n) × Put o n h s n g
numbered_some o None h s n g e = absurd cc
numbered_some o (Some k) h s n g e =
    let p = put_some o k h s n g e in
    (ap Some p.number, record { agreement = p.agreement; found = p.found; name = p.name; number = refl; standing = p.standing })

message_came : (L : List Request) (records : List (List (List ℕ))) (s : List ℕ) (n : ℕ) (c : List Product) → (m : Option (Header × List Product)) → message_of records ≡ m
    → put_at (admitted_message (agreements_of L) m) s n ≡ Some (Message c) → Came L s n c
message_came L records s n c None is e = absurd cc
message_came L records s n c (Some m) is e =
    let found = numbered_some (between (agreements_of L) m.0.sender m.0.addressee) m.0.number (Message m.1) s n (Message c) e in
    let p = found.1 in
    let contents : m.1 ≡ c = let same : Message m.1 ≡ Message c = p.standing in cc in
    let parties = between_has_parties (agreements_of L) m.0.sender m.0.addressee p.agreement p.found in
    record {
      records = records;
      header = m.0;
      is_message = is ∙ ap (λ (x : List Product). Some (m.0, x)) contents;
      numbered = found.0;
      agreement = p.agreement;
      agreed = ap (named (agreements_of L)) (sym p.name) ∙ (agreements_are_distinct L).by_parties m.0.sender m.0.addressee p.agreement p.found;
      sender = parties.0;
      addressee = parties.1;
    }

no_waiver : (o : Option Agreement) (k : ℕ) (s : List ℕ) (n : ℕ) (c : List Product) → put_at (admitted_at o k Waived) s n ≡ Some (Message c) → ⊥
no_waiver o k s n c e = let same : Waived ≡ Message c = (put_some o k Waived s n (Message c) e).standing in absurd cc

put_came : (L : List Request) (r : Request) (s : List ℕ) (n : ℕ) (c : List Product) → put_at (admitted (agreements_of L) r) s n ≡ Some (Message c) → Came L s n c
put_came L (Deliver records) s n c e = message_came L records s n c (message_of records) refl e
put_came L (Waive series k) s n c e = absurd (no_waiver (named (agreements_of L) series) k s n c e)
put_came L (Agree b) s n c e = absurd cc
put_came L (AskPrice x y) s n c e = absurd cc
put_came L (AskChoice x y) s n c e = absurd cc
put_came L (AskCalendar x y) s n c e = absurd cc
put_came L (AskGaps x) s n c e = absurd cc
put_came L (AskCatalogue x) s n c e = absurd cc
put_came L (Malformed x) s n c e = absurd cc

came_before : (L : List Request) (r : Request) (s : List ℕ) (n : ℕ) (c : List Product) → Came L s n c → Came (r ∷ L) s n c
came_before L r s n c k = record {
  records = k.records;
  header = k.header;
  is_message = k.is_message;
  numbered = k.numbered;
  agreement = k.agreement;
  agreed = named_stays L r s k.agreement k.agreed;
  sender = k.sender;
  addressee = k.addressee;
}

came : (L : List Request) (s : List ℕ) (n : ℕ) (c : List Product) → first_at L s n ≡ Some (Message c) → Came L s n c
came [] s n c e = absurd cc
came (r ∷ L) s n c e = by (λ is. came L s n c is) (first_at L s n) refl e
  where
    by : (first_at L s n ≡ Some (Message c) → Came L s n c) → (o : Option Standing) → first_at L s n ≡ o → option_or o (put_at (admitted (agreements_of L) r) s n) ≡ Some (Message c) → Came (r ∷ L) s n c
    by earlier (Some h) is e = came_before L r s n c (earlier (is ∙ e))
    by earlier None is e = came_before L r s n c (put_came L r s n c e)

-- ---- what stands, stands in an agreed series

put_named : (L : List Request) (r : Request) (s : List ℕ) (n : ℕ) (g : Standing) → put_at (admitted (agreements_of L) r) s n ≡ Some g → (a : Agreement) × (named (agreements_of L) s ≡ Some a)
put_named L (Deliver records) s n g e = by (message_of records) e
  where
    by : (m : Option (Header × List Product)) → put_at (admitted_message (agreements_of L) m) s n ≡ Some g → (a : Agreement) × (named (agreements_of L) s ≡ Some a)
    by None is = absurd cc
    by (Some m) is =
        let p = (numbered_some (between (agreements_of L) m.0.sender m.0.addressee) m.0.number (Message m.1) s n g is).1 in
        (p.agreement, ap (named (agreements_of L)) (sym p.name) ∙ (agreements_are_distinct L).by_parties m.0.sender m.0.addressee p.agreement p.found)
put_named L (Waive series k) s n g e =
    let p = put_some (named (agreements_of L) series) k Waived s n g e in
    (p.agreement, ap (named (agreements_of L)) (sym p.name ∙ named_has_name (agreements_of L) series p.agreement p.found) ∙ p.found)
put_named L (Agree b) s n g e = absurd cc
put_named L (AskPrice x y) s n g e = absurd cc
put_named L (AskChoice x y) s n g e = absurd cc
put_named L (AskCalendar x y) s n g e = absurd cc
put_named L (AskGaps x) s n g e = absurd cc
put_named L (AskCatalogue x) s n g e = absurd cc
put_named L (Malformed x) s n g e = absurd cc

pub stands_named : (L : List Request) (s : List ℕ) (n : ℕ) (g : Standing) → first_at L s n ≡ Some g → (a : Agreement) × (named (agreements_of L) s ≡ Some a)
stands_named [] s n g e = absurd cc
stands_named (r ∷ L) s n g e = by (λ h is. stands_named L s n h is) (first_at L s n) refl e
  where
    by : ((h : Standing) → first_at L s n ≡ Some h → (a : Agreement) × (named (agreements_of L) s ≡ Some a)) → (o : Option Standing) → first_at L s n ≡ o
        → option_or o (put_at (admitted (agreements_of L) r) s n) ≡ Some g → (a : Agreement) × (named (agreements_of (r ∷ L)) s ≡ Some a)
    by earlier (Some h) is e = let a = earlier h is in (a.0, named_stays L r s a.0 a.1)
    by earlier None is e = let a = put_named L r s n g e in (a.0, named_stays L r s a.0 a.1)

none_under : (L : List Request) (s : List ℕ) (n : ℕ) → named (agreements_of L) s ≡ None → first_at L s n ≡ None
none_under L s n none = by (first_at L s n) refl
  where
    by : (o : Option Standing) → first_at L s n ≡ o → o ≡ None
    by None e = refl
    by (Some g) e = let a = stands_named L s n g e in let both = sym none ∙ a.1 in absurd cc

-- so it is read again from the records that are written of it
pub read_again : ReadsBack → (L : List Request) (a : Agreement) (n : ℕ) (c : List Product) → named (agreements_of L) a.name ≡ Some a → first_at L a.name n ≡ Some (Message c)
    → message_of (message_records a.sender a.addressee n c) ≡ Some (numbered_header a.sender a.addressee n, c)
read_again law L a n c own e =
    let k = came L a.name n c e in
    let same : a ≡ k.agreement = let both : Some a ≡ Some k.agreement = sym own ∙ k.agreed in cc in
    let sender : k.header.sender ≡ a.sender = sym k.sender ∙ ap (λ (x : Agreement). x.sender) (sym same) in
    let addressee : k.header.addressee ≡ a.addressee = sym k.addressee ∙ ap (λ (x : Agreement). x.addressee) (sym same) in
    subst (λ (p : Party × Option Party). message_of (message_records p.0 p.1 n c) ≡ Some (numbered_header p.0 p.1 n, c)) (λ i. (sender i, addressee i))
    (law k.records k.header c n k.is_message k.numbered)

-- ---- one series

module _ (law : ReadsBack) (L : List Request) (a : Agreement) (own : named (agreements_of L) a.name ≡ Some a) where
  -- M has what M0 has, but in the series what stands below this number
  record Filled (M0 : List Request) (from : ℕ) (M : List Request) : Type 0 where
    agreements : agreements_of M ≡ agreements_of M0
    others : (s : List ℕ) (n : ℕ) → (a.name ≡ s → ⊥) → first_at M s n ≡ first_at M0 s n
    below : (n : ℕ) → n < from → first_at M a.name n ≡ first_at L a.name n
    above : (n : ℕ) → from ≤ n → first_at M a.name n ≡ None

  admits_at : (from : ℕ) (h : Standing) (o : Option Agreement) → a.first ≤ from → o ≡ Some a → admitted_at o from h ≡ Some (record { series = a.name; number = from; standing = h })
  admits_at from h o low is =
      let not_below : nat_lt from a.first ≡ false = grind (arith, nat_tests) in
      ap (λ (x : Option Agreement). admitted_at x from h) is
      ∙ ap (λ b. cond b None (Some (record { series = a.name; number = from; standing = h }))) not_below

  pub admits : (as' : List Agreement) (from : ℕ) (h : Standing) → a.first ≤ from → named as' a.name ≡ Some a → between as' a.sender a.addressee ≡ Some a → first_at L a.name from ≡ Some h
      → admitted as' (request_for a from h) ≡ Some (record { series = a.name; number = from; standing = h })
  admits as' from Waived low by_name by_parties stands = admits_at from Waived (named as' a.name) low by_name
  admits as' from (Message c) low by_name by_parties stands =
      ap (admitted_message as') (read_again law L a from c own stands)
      ∙ admits_at from (Message c) (between as' a.sender a.addressee) low by_parties

  pub agrees_not : (M : List Request) (n : ℕ) (h : Standing) → agreements_of (request_for a n h ∷ M) ≡ agreements_of M
  agrees_not M n (Message c) = refl
  agrees_not M n Waived = refl

  module _ (M0 : List Request) (by_name : named (agreements_of M0) a.name ≡ Some a) (by_parties : between (agreements_of M0) a.sender a.addressee ≡ Some a) where
    -- nothing is at the number
    nothing : (from : ℕ) (M : List Request) → Filled M0 from M → first_at L a.name from ≡ None → Filled M0 (from + 1) M
    nothing from M f none = record {
      agreements = f.agreements;
      others = f.others;
      below = λ n lt. here n (cases_lt n from) lt;
      above = λ n le. f.above n (omega arith);
    }
      where
        here : (n : ℕ) → (n < from) ⊎ (from ≤ n) → n < from + 1 → first_at M a.name n ≡ first_at L a.name n
        here n (inl lt) _ = f.below n lt
        here n (inr le) lt = let same : from ≡ n = omega arith in f.above n le ∙ sym none ∙ ap (first_at L a.name) same

    -- something stands there
    something : (from : ℕ) (M : List Request) (h : Standing) → a.first ≤ from → Filled M0 from M → first_at L a.name from ≡ Some h → Filled M0 (from + 1) (request_for a from h ∷ M)
    something from M h low f stands = record {
      agreements = agrees_not M from h ∙ f.agreements;
      others = λ s n other. first_other M r p puts s n (λ same. other same.0) ∙ f.others s n other;
      below = λ n lt. here n (cases_lt n from) lt;
      above = λ n le. first_other M r p puts a.name n (λ same. let number = same.1 in absurd (omega arith)) ∙ f.above n (omega arith);
    }
      where
        r : Request
        r = request_for a from h

        p : Placement
        p = record { series = a.name; number = from; standing = h }

        puts : admitted (agreements_of M) (request_for a from h) ≡ Some (record { series = a.name; number = from; standing = h })
        puts = admits (agreements_of M) from h low (ap (λ x. named x a.name) f.agreements ∙ by_name) (ap (λ x. between x a.sender a.addressee) f.agreements ∙ by_parties) stands

        here : (n : ℕ) → (n < from) ⊎ (from ≤ n) → n < from + 1 → first_at (request_for a from h ∷ M) a.name n ≡ first_at L a.name n
        here n (inl lt) _ = first_other M r p puts a.name n (λ same. let number = same.1 in absurd (omega arith)) ∙ f.below n lt
        here n (inr le) lt =
            let same : from ≡ n = omega arith in
            ap (first_at (request_for a from h ∷ M) a.name) (sym same)
            ∙ first_there M r p puts (f.above from (omega arith))
            ∙ sym stands
            ∙ ap (first_at L a.name) same

    fill : (len from : ℕ) (M : List Request) → a.first ≤ from → Filled M0 from M → Filled M0 (from + len) (followed_by M (requests_from L a from len))
    fill zero from M low f = rw add-zero f
    fill (suc len) from M low f =
        let further : from + suc len ≡ from + 1 + len = omega arith in
        subst (λ n. Filled M0 n (followed_by M (requests_from L a from (suc len)))) (sym further)
        (by (λ N g. fill len (from + 1) N (omega arith) g) (first_at L a.name from) refl)
      where
        by : ((N : List Request) → Filled M0 (from + 1) N → Filled M0 (from + 1 + len) (followed_by N (requests_from L a (from + 1) len))) → (o : Option Standing) → first_at L a.name from ≡ o
            → Filled M0 (from + 1 + len) (followed_by M (requests_at a from o ++ requests_from L a (from + 1) len))
        by rest None is = rest M (nothing from M f is)
        by rest (Some h) is = rest (request_for a from h ∷ M) (something from M h low f is)

-- ---- all series

-- what stands in an agreed series
abbrev among : Option Agreement → Option Standing → Option Standing
among None o = None
among (Some a) o = o

-- M has these agreements, and what stands in their series
record Made (L : List Request) (done : List Agreement) (M : List Request) : Type 0 where
  agreements : agreements_of M ≡ done
  firsts : (s : List ℕ) (n : ℕ) → first_at M s n ≡ among (named done s) (first_at L s n)

-- nothing stands from there on
pub none_after : (f : ℕ → Option Standing) (from : ℕ) (g : Option ℕ) → IsGreatest f g → (n : ℕ) → from + numbers_up_to from g ≤ n → f n ≡ None
none_after f from None is n le = is n
none_after f from (Some g) is n le = is.1 n (omega (arith, le))

module _ (law : ReadsBack) (L : List Request) where
  series_made : (done : List Agreement) (M : List Request) (a : Agreement) → Made L done M → named (agreements_of L) a.name ≡ Some a → named done a.name ≡ None → between done a.sender a.addressee ≡ None
      → Made L (done ++ a ∷ []) (followed_by M (series_requests L a))
  series_made done M a made own no_name no_parties = record { agreements = agreements_of_all; firsts = λ s n. by s n (bytes_eq a.name s) refl }
    where
      M0 : List Request
      M0 = Agree a ∷ M

      agreements_now : agreements_of (Agree a ∷ M) ≡ done ++ a ∷ []
      agreements_now = ap (λ x. with_agreement x a) made.agreements ∙ rw (no_name, no_parties) refl

      stood : (s : List ℕ) (n : ℕ) → first_at (Agree a ∷ M) s n ≡ among (named done s) (first_at L s n)
      stood s n = first_left M (Agree a) refl s n ∙ made.firsts s n

      none_stood : (n : ℕ) → first_at (Agree a ∷ M) a.name n ≡ None
      none_stood n = stood a.name n ∙ ap (λ o. among o (first_at L a.name n)) no_name

      named_more : (s : List ℕ) → named (done ++ a ∷ []) s ≡ option_or (named done s) (cond (bytes_eq a.name s) (Some a) None)
      named_more s = find-append (has_name s) done (a ∷ [])

      is_named : named (agreements_of (Agree a ∷ M)) a.name ≡ Some a
      is_named =
          ap (λ x. named x a.name) agreements_now ∙ named_more a.name
          ∙ ap (λ o. option_or o (cond (bytes_eq a.name a.name) (Some a) None)) no_name
          ∙ ap (λ b. cond b (Some a) None) ((bytes_eq-Decides a.name a.name).1 refl)

      len : ℕ
      len = numbers_up_to a.first (greatest_of L a.name)

      begun : Filled law L a own (Agree a ∷ M) a.first (Agree a ∷ M)
      begun = record {
        agreements = refl;
        others = λ s n other. refl;
        below = λ n lt. none_stood n ∙ sym (none_below_first L a own n lt);
        above = λ n le. none_stood n;
      }

      filled : Filled law L a own (Agree a ∷ M) (a.first + numbers_up_to a.first (greatest_of L a.name)) (followed_by M (series_requests L a))
      filled = fill law L a own (Agree a ∷ M) is_named ((agreements_are_distinct (Agree a ∷ M)).by_name a.name a is_named) len a.first (Agree a ∷ M) (omega arith) begun

      agreements_of_all : agreements_of (followed_by M (series_requests L a)) ≡ done ++ a ∷ []
      agreements_of_all = filled.agreements ∙ agreements_now

      own_series : (n : ℕ) → (n < a.first + len) ⊎ (a.first + len ≤ n) → first_at (followed_by M (series_requests L a)) a.name n ≡ first_at L a.name n
      own_series n (inl lt) = filled.below n lt
      own_series n (inr le) = filled.above n le ∙ sym (none_after (first_at L a.name) a.first (greatest_of L a.name) (greatest_is L a.name) n le)

      by : (s : List ℕ) (n : ℕ) (b : Bool) → bytes_eq a.name s ≡ b → first_at (followed_by M (series_requests L a)) s n ≡ among (named (done ++ a ∷ []) s) (first_at L s n)
      by s n true e =
          let name : a.name ≡ s = (bytes_eq-Decides a.name s).0 e in
          let found : named (done ++ a ∷ []) s ≡ Some a = ap (named (done ++ a ∷ [])) (sym name) ∙ ap (λ x. named x a.name) (sym agreements_now) ∙ is_named in
          ap (λ x. first_at (followed_by M (series_requests L a)) x n) (sym name)
          ∙ own_series n (cases_lt n (a.first + len))
          ∙ ap (λ x. first_at L x n) name
          ∙ ap (λ o. among o (first_at L s n)) (sym found)
      by s n false e =
          let other : a.name ≡ s → ⊥ = λ same. let is = (bytes_eq-Decides a.name s).1 same in absurd cc in
          let found : named (done ++ a ∷ []) s ≡ named done s = named_more s ∙ ap (λ b. option_or (named done s) (cond b (Some a) None)) e ∙ or_none (named done s) in
          filled.others s n other ∙ stood s n ∙ ap (λ o. among o (first_at L s n)) (sym found)
        where
          or_none : (o : Option Agreement) → option_or o None ≡ o
          or_none None = refl
          or_none (Some x) = refl

-- ---- the agreements in order of name

abbrev pub agreement_of : List ℕ × Agreement → Agreement
agreement_of e = e.1

pub followed_append : (M xs ys : List Request) → followed_by M (xs ++ ys) ≡ followed_by (followed_by M xs) ys
followed_append M [] ys = refl
followed_append M (x ∷ xs) ys = followed_append (x ∷ M) xs ys

find_none : (p : Agreement → Bool) (xs : List Agreement) → ((x : Agreement) → In x xs → p x ≡ false) → find p xs ≡ None
find_none p [] fails = refl
find_none p (x ∷ xs) fails = ap (λ b. cond b (Some x) (find p xs)) (fails x (inl refl)) ∙ find_none p xs (λ y m. fails y (inr m))

not_true : (b : Bool) → (b ≡ true → ⊥) → b ≡ false
not_true true not = absurd (not refl)
not_true false not = refl

differ : (x y : List ℕ) → AreInOrder x y → x ≡ y → ⊥
differ x y before same =
    let tied : bytes_eq y x ≡ false = sym (same_test y x) ∙ ap is_eq before in
    let equal : bytes_eq y x ≡ true = (bytes_eq-Decides y x).1 (sym same) in
    absurd cc

in_more : (xs : List Agreement) (a x : Agreement) → In x (xs ++ a ∷ []) → In x xs ⊎ (a ≡ x)
in_more [] a x (inl same) = inr same
in_more [] a x (inr m) = absurd m
in_more (y ∷ xs) a x (inl same) = inl (inl same)
in_more (y ∷ xs) a x (inr m) = later (in_more xs a x m)
  where
    later : In x xs ⊎ (a ≡ x) → In x (y ∷ xs) ⊎ (a ≡ x)
    later (inl n) = inl (inr n)
    later (inr same) = inr same

module _ (law : ReadsBack) (L : List Request) where
  -- each is the agreement of its name
  abbrev pub AllAgreed : List (List ℕ × Agreement) → Type 0
  AllAgreed es = (e : List ℕ × Agreement) → In e es → named (agreements_of L) e.0 ≡ Some e.1

  -- those that are made stand before those that are not
  record Before (done : List Agreement) (es : List (List ℕ × Agreement)) : Type 0 where
    agreed : (d : Agreement) → In d done → named (agreements_of L) d.name ≡ Some d
    before : (d : Agreement) → In d done → (e : List ℕ × Agreement) → In e es → AreInOrder d.name e.0

  apart : (done : List Agreement) (e : List ℕ × Agreement) (es : List (List ℕ × Agreement)) → Before done (e ∷ es) → named (agreements_of L) e.0 ≡ Some e.1 → (d : Agreement) → In d done → d.name ≡ e.1.name → ⊥
  apart done e es b is d m same = differ d.name e.0 (b.before d m e (inl refl)) (same ∙ named_has_name (agreements_of L) e.0 e.1 is)

  own_name : (e : List ℕ × Agreement) → named (agreements_of L) e.0 ≡ Some e.1 → named (agreements_of L) e.1.name ≡ Some e.1
  own_name e is = ap (named (agreements_of L)) (named_has_name (agreements_of L) e.0 e.1 is) ∙ is

  no_name : (done : List Agreement) (e : List ℕ × Agreement) (es : List (List ℕ × Agreement)) → Before done (e ∷ es) → named (agreements_of L) e.0 ≡ Some e.1 → named done e.1.name ≡ None
  no_name done e es b is = find_none (has_name e.1.name) done (λ d m. not_true (has_name e.1.name d) (λ passes. apart done e es b is d m ((bytes_eq-Decides d.name e.1.name).0 passes)))

  no_parties : (done : List Agreement) (e : List ℕ × Agreement) (es : List (List ℕ × Agreement)) → Before done (e ∷ es) → named (agreements_of L) e.0 ≡ Some e.1 → between done e.1.sender e.1.addressee ≡ None
  no_parties done e es b is = find_none (has_parties e.1.sender e.1.addressee) done (λ d m. not_true (has_parties e.1.sender e.1.addressee d) (fails d m))
    where
      fails : (d : Agreement) → In d done → has_parties e.1.sender e.1.addressee d ≡ true → ⊥
      fails d m passes =
          let distinct = agreements_are_distinct L in
          let parties = parties_are e.1.sender e.1.addressee d passes in
          let one : between (agreements_of L) e.1.sender e.1.addressee ≡ Some d =
          ap (λ s. between (agreements_of L) s e.1.addressee) (sym parties.0) ∙ ap (between (agreements_of L) d.sender) (sym parties.1) ∙ distinct.by_name d.name d (b.agreed d m) in
          let other : between (agreements_of L) e.1.sender e.1.addressee ≡ Some e.1 = distinct.by_name e.0 e.1 is in
          let same : d ≡ e.1 = let both : Some d ≡ Some e.1 = sym one ∙ other in cc in
          apart done e es b is d m (ap (λ (x : Agreement). x.name) same)

  more_before : (done : List Agreement) (e : List ℕ × Agreement) (es : List (List ℕ × Agreement)) → Before done (e ∷ es) → named (agreements_of L) e.0 ≡ Some e.1 → ((d : List ℕ × Agreement) → In d es → AreInOrder e.0 d.0) → Before (done ++ e.1 ∷ []) es
  more_before done e es b is order = record {
    agreed = λ d m. agreed_by d (in_more done e.1 d m);
    before = λ d m f n. before_by d f n (in_more done e.1 d m);
  }
    where
      agreed_by : (d : Agreement) → In d done ⊎ (e.1 ≡ d) → named (agreements_of L) d.name ≡ Some d
      agreed_by d (inl m) = b.agreed d m
      agreed_by d (inr same) = subst (λ (x : Agreement). named (agreements_of L) x.name ≡ Some x) same (own_name e is)

      before_by : (d : Agreement) (f : List ℕ × Agreement) → In f es → In d done ⊎ (e.1 ≡ d) → AreInOrder d.name f.0
      before_by d f n (inl m) = b.before d m f (inr n)
      before_by d f n (inr same) =
          let name : e.0 ≡ d.name = sym (named_has_name (agreements_of L) e.0 e.1 is) ∙ ap (λ (x : Agreement). x.name) same in
          subst (λ x. AreInOrder x f.0) name (order f n)

  all_made : (es : List (List ℕ × Agreement)) (done : List Agreement) (M : List Request) → Made L done M → Before done es → AllAgreed es → Ordered (λ (d e : List ℕ × Agreement). AreInOrder d.0 e.0) es
      → Made L (done ++ map agreement_of es) (followed_by M (flat_map (λ s. series_requests L s.1) es))
  all_made [] done M made b agreed order = subst (λ x. Made L x M) (sym (append_nil done)) made
    where
      append_nil : (xs : List Agreement) → xs ++ [] ≡ xs
      append_nil [] = refl
      append_nil (x ∷ xs) = ap (λ t. x ∷ t) (append_nil xs)
  all_made (e ∷ es) done M made b agreed order =
      let is = agreed e (inl refl) in
      let one = series_made law L done M e.1 made (own_name e is) (no_name done e es b is) (no_parties done e es b is) in
      let rest = all_made es (done ++ e.1 ∷ []) (followed_by M (series_requests L e.1)) one (more_before done e es b is order.0) (λ f m. agreed f (inr m)) order.1 in
      subst (λ x. Made L x (followed_by M (flat_map (λ s. series_requests L s.1) (e ∷ es)))) (append_assoc done (e.1 ∷ []) (map agreement_of es))
      (subst (Made L ((done ++ e.1 ∷ []) ++ map agreement_of es)) (sym (followed_append M (series_requests L e.1) (flat_map (λ s. series_requests L s.1) es))) rest)

  pub agreed_entries : AllAgreed (entries (by_name (agreements_of L)))
  agreed_entries e m = sym (get-by_name (agreements_of L) e.0) ∙ get_in (by_name (agreements_of L)) e.0 e.1 m

  export_made : Made L (map agreement_of (entries (by_name (agreements_of L)))) (exported L)
  export_made =
      all_made (entries (by_name (agreements_of L))) [] [] (record { agreements = refl; firsts = λ s n. refl })
      (record { agreed = λ d m. absurd m; before = λ d m. absurd m })
      agreed_entries
      (ordered_entries (by_name (agreements_of L)))

  -- the entries are the agreements with their names
  names_again : (es : List (List ℕ × Agreement)) → AllAgreed es → with_names (map agreement_of es) ≡ es
  names_again [] agreed = refl
  names_again (e ∷ es) agreed =
      let name = named_has_name (agreements_of L) e.0 e.1 (agreed e (inl refl)) in
      λ i. (name i, e.1) ∷ names_again es (λ f m. agreed f (inr m)) i

  pub found_alike : (name : List ℕ) → named (map agreement_of (entries (by_name (agreements_of L)))) name ≡ named (agreements_of L) name
  found_alike name =
      sym (find_named (map agreement_of (entries (by_name (agreements_of L)))) name)
      ∙ ap (fin.find (slice_cmp nat_cmp) name) (names_again (entries (by_name (agreements_of L))) agreed_entries)
      ∙ sym (get-entries (by_name (agreements_of L)) name)
      ∙ get-by_name (agreements_of L) name

  stands_among : (s : List ℕ) (n : ℕ) (o : Option Agreement) → named (agreements_of L) s ≡ o → first_at L s n ≡ among o (first_at L s n)
  stands_among s n (Some a) is = refl
  stands_among s n None is = none_under L s n is

  export_same : SameContent L (exported L)
  export_same =
      let made = export_made in
      record {
        agreements = λ name. sym (ap (λ x. named x name) made.agreements ∙ found_alike name);
        firsts = λ s n. stands_among s n (named (agreements_of L) s) refl ∙ ap (λ o. among o (first_at L s n)) (sym (found_alike s)) ∙ sym (made.firsts s n);
      }

-- ---- one export

greatest_alike : (L M : List Request) → SameContent L M → (s : List ℕ) → greatest_of L s ≡ greatest_of M s
greatest_alike L M same s =
    greatest_unique (first_at M s) (greatest_of L s) (greatest_of M s)
    (subst (λ f. IsGreatest f (greatest_of L s)) (λ i n. same.firsts s n i) (greatest_is L s))
    (greatest_is M s)

series_alike : (L M : List Request) → SameContent L M → (a : Agreement) → series_requests L a ≡ series_requests M a
series_alike L M same a =
    (λ i. Agree a ∷ flat_map (λ n. requests_at a n (same.firsts a.name n i)) (range_with_len a.first (numbers_up_to a.first (greatest_of L a.name))))
    ∙ ap (λ g. Agree a ∷ requests_from M a a.first (numbers_up_to a.first g)) (greatest_alike L M same a.name)

same_map : (L M : List Request) → SameContent L M → by_name (agreements_of L) ≡ by_name (agreements_of M)
same_map L M same = equal_maps _ _ (λ name. get-by_name (agreements_of L) name ∙ same.agreements name ∙ sym (get-by_name (agreements_of M) name))

one_export : (L M : List Request) → SameContent L M → export_of L ≡ export_of M
one_export L M same =
    (λ i. flat_map (λ s. series_alike L M same s.1 i) (entries (by_name (agreements_of L))))
    ∙ ap (λ m. flat_map (λ s. series_requests M s.1) (entries m)) (same_map L M same)

-- ---- what follows

answers_alike : (rules : List Rule) (L M rs : List Request) → SameContent L M → answers rules L rs ≡ answers rules M rs
answers_alike rules L M [] same = refl
answers_alike rules L M (r ∷ rs) same =
    let (answer, more) = by_content_alone rules L M r same in
    ap (λ a. a ∷ answers rules (r ∷ L) rs) answer ∙ ap (λ as'. answer_to rules M r ∷ as') (answers_alike rules (r ∷ L) (r ∷ M) rs more)

pub export_is_true : ReadsBack → ExportIsTrue
export_is_true law = record {
  same = λ L. export_same law L;
  parties = λ L. between_by_name (agreements_of L) (agreements_of (exported L)) (agreements_are_distinct L) (agreements_are_distinct (exported L)) (export_same law L).agreements;
  further = λ rules L rs. answers_alike rules L (exported L) rs (export_same law L);
  one = one_export;
}
