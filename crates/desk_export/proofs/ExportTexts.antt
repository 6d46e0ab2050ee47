-- The text of an export is read as the requests of the export.
use Rattle.std.proofs.Common.{◌≡◌, ◌∷◌, ◌++◌, ◌∙◌, [], ℕ, List, Bool, true, false, Option, Some, None, refl, sym, subst, ap, map, cond, ◌&&◌, nat_eq, not, arith, length, inl, inr}
use Rattle.std.specs.Prelude.{bytes_eq, find, nat_lt}
use Rattle.std.specs.FinMap.{entries}
use Rattle.std.specs.List.{AllByRecursion, flat_map, list_all, range_with_len}
use Rattle.std.specs.Option.{option_or}
use Rattle.std.proofs.lemmas.Bool.{and_from}
use Rattle.std.proofs.lemmas.Bool.Decides.{nat_tests}
use Rattle.std.proofs.lemmas.List.Folds.{list_all-append}
use Rattle.std.proofs.lemmas.Slice.Eq.{bytes_eq-Decides}
use Rattle.csv.specs.Reading.{strip_bom}
use Rattle.csv_records.specs.RecordTexts.{AllFilled, records_text}
use Rattle.onix_records.specs.ContentsText.{end_record}
use Rattle.onix_records.specs.Detail.{detail_records}
use Rattle.onix_records.specs.Message.{message_of}
use Rattle.desk_export.specs.MessageRecords.{message_record, message_records}
use Rattle.onix_records.specs.Price.{price_record}
use Rattle.onix_records.specs.Product.{content_records, product_records}
use Rattle.onix_records.specs.Supply.{supplies_records, supply_records}
use Rattle.onix_records.specs.declared.agreements.Agreement.{Agreement}
use Rattle.onix_records.specs.declared.parts.Header.{Header}
use Rattle.onix_records.specs.declared.parts.Price.{Price}
use Rattle.onix_records.specs.declared.parts.Product.{Product}
use Rattle.onix_records.specs.declared.parts.ProductSupply.{ProductSupply}
use Rattle.onix_records.specs.declared.parts.SupplyDetail.{SupplyDetail}
use Rattle.series_rules.proofs.Elements.{In}
use Rattle.desk_export.proofs.FilledRecords.{ReadLaw, filled_append, filled_contents, strip_first}
use Rattle.desk_export.proofs.MapEntries.{get_in}
use Rattle.series_rules.proofs.AgreementLemmas.{named_has_name}
use Rattle.series_rules.specs.Agreements.{agreements_of, between, clashes, has_name, named}
use Rattle.series_rules.specs.Answers.{followed_by}
use Rattle.series_rules.specs.Content.{SameContent}
use Rattle.desk_export.specs.Exports.{ExportIsTrue, export_of, requests_at, series_requests}
use Rattle.series_rules.specs.Firsts.{admitted, admitted_at, admitted_message, admitted_number, first_at, put_at}
use Rattle.series_rules.specs.Gaps.{greatest_of, numbers_up_to}
use Rattle.series_rules.proofs.OfferLemmas.{get-by_name}
use Rattle.series_rules.specs.Offers.{by_name}
use Rattle.series_rules.specs.declared.requests.Request.{Request}
use Rattle.series_rules.specs.declared.requests.Request.TheVariants.{Agree, Deliver, Waive, AskPrice, AskChoice, AskCalendar, AskGaps, AskCatalogue, Malformed}
use Rattle.series_rules.specs.declared.requests.Standing.{Standing}
use Rattle.series_rules.specs.declared.requests.Standing.TheVariants.{Message, Waived}
use Rattle.desk_texts.specs.Requests.{requests_of}
use Rattle.desk_texts.specs.Pieces.{pieces, request_names}
use Rattle.desk_texts.specs.Records.{begins_with}
use Rattle.desk_texts.specs.RequestRows.{alone, request_of}
use Rattle.desk_export.specs.RequestRecords.{agree_record, request_records, waive_record}
use Rattle.desk_export.specs.RequestTexts.{after_batches, CanBeWritten, ExportIsRead, batch_text}
use Rattle.desk_texts.proofs.PieceLists.{cut_behind, starts_anew}

abbrev Record : Type 0
Record = List (List ℕ)

-- ---- requests whose records are one piece, which is the request

record IsPiece (r : Request) : Type 0 where
  first : Record
  more : List Record
  split : request_records r ≡ first ∷ more
  begins : begins_with request_names first ≡ true
  one : list_all (λ x. not (begins_with request_names x)) more ≡ true
  again : request_of (first ∷ more) ≡ r
  filled : AllFilled (first ∷ more)
  unmarked : (rest : List Record) → strip_bom (records_text ((first ∷ more) ++ rest)) ≡ records_text ((first ∷ more) ++ rest)

abbrev AllPieces : List Request → Type 0
AllPieces rs = AllByRecursion IsPiece rs

anew : (rs : List Request) → AllPieces rs → starts_anew (flat_map request_records rs) ≡ true
anew [] all = refl
anew (r ∷ rs) all = ap (λ (x : List Record). starts_anew (x ++ flat_map request_records rs)) all.0.split ∙ all.0.begins

read_pieces : (rs : List Request) → AllPieces rs → map request_of (pieces (flat_map request_records rs)) ≡ rs
unfolding pieces
read_pieces [] all = refl
read_pieces (r ∷ rs) all =
    let p = all.0 in
    let rest = flat_map request_records rs in
    let cut : pieces ((p.first ∷ p.more) ++ rest) ≡ (p.first ∷ p.more) ∷ pieces rest = cut_behind (p.first ∷ p.more) rest p.one (anew rs all.1) in
    ap (λ (x : List Record). map request_of (pieces (x ++ rest))) p.split
    ∙ ap (map request_of) cut
    ∙ ap (λ x. x ∷ map request_of (pieces rest)) p.again
    ∙ ap (λ xs. r ∷ xs) (read_pieces rs all.1)

all_filled : (rs : List Request) → AllPieces rs → AllFilled (flat_map request_records rs)
all_filled [] all = tt
all_filled (r ∷ rs) all = rw all.0.split (filled_append (all.0.first ∷ all.0.more) (flat_map request_records rs) all.0.filled (all_filled rs all.1))

pieces_append : (xs ys : List Request) → AllPieces xs → AllPieces ys → AllPieces (xs ++ ys)
pieces_append [] ys h g = g
pieces_append (x ∷ xs) ys h g = (h.0, pieces_append xs ys h.1 g)

-- ---- a message is one piece

abbrev is_plain : Record → Bool
is_plain r = not (begins_with request_names r)

all_flat : {X : Type 0} (f : X → List Record) → ((x : X) → list_all is_plain (f x) ≡ true) → (xs : List X) → list_all is_plain (flat_map f xs) ≡ true
all_flat f each [] = refl
all_flat f each (x ∷ xs) = list_all-append is_plain (f x) (flat_map f xs) ∙ and_from _ _ (each x) (all_flat f each xs)

plain_prices : (ps : List Price) → list_all is_plain (map price_record ps) ≡ true
plain_prices [] = refl
plain_prices (p ∷ ps) = plain_prices ps

plain_detail : (d : SupplyDetail) → list_all is_plain (detail_records d) ≡ true
unfolding detail_records
plain_detail d = plain_prices d.prices

plain_supply : (s : ProductSupply) → list_all is_plain (supply_records s) ≡ true
unfolding supply_records
plain_supply s = all_flat detail_records plain_detail s.details

plain_product : (p : Product) → list_all is_plain (product_records p) ≡ true
unfolding product_records supplies_records
plain_product p = all_flat supply_records plain_supply p.supplies

plain_contents : (c : List Product) → list_all is_plain (content_records c) ≡ true
unfolding content_records
plain_contents c = all_flat product_records plain_product c

message_piece : (a : Agreement) (n : ℕ) (c : List Product) → IsPiece (Deliver (message_records a.sender a.addressee n c))
unfolding message_records records_text strip_bom
message_piece a n c =
    let first = message_record a.sender a.addressee n in
    let end : List Record = end_record (length (first ∷ content_records c)) ∷ [] in
    record {
      first = first;
      more = content_records c ++ end;
      split = refl;
      begins = refl;
      one = list_all-append is_plain (content_records c) end ∙ and_from _ _ (plain_contents c) refl;
      again = refl;
      filled = (λ e. absurd cc, filled_append (content_records c) end (filled_contents c) (λ e. absurd cc, tt));
      unmarked = λ rest. strip_first 77 _ refl;
    }

-- ---- an agreement and a waiver are one record each

agree_piece : (a : Agreement) → CanBeWritten (Agree a) → IsPiece (Agree a)
unfolding records_text strip_bom
agree_piece a can = record {
  first = agree_record a;
  more = [];
  split = refl;
  begins = refl;
  one = refl;
  again = ap (λ (o : Option Request). alone o []) can;
  filled = (λ e. absurd cc, tt);
  unmarked = λ rest. strip_first 65 _ refl;
}

waive_piece : (s : List ℕ) (n : ℕ) → CanBeWritten (Waive s n) → IsPiece (Waive s n)
unfolding records_text strip_bom
waive_piece s n can = record {
  first = waive_record s n;
  more = [];
  split = refl;
  begins = refl;
  one = refl;
  again = ap (λ (o : Option Request). alone o []) can;
  filled = (λ e. absurd cc, tt);
  unmarked = λ rest. strip_first 87 _ refl;
}

-- ---- the agreements that stand were asked for

abbrev AllAgree : List Agreement → Type 0
AllAgree as' = AllByRecursion (λ a. CanBeWritten (Agree a)) as'

agree_more : (as' : List Agreement) (b : Agreement) → AllAgree as' → CanBeWritten (Agree b) → AllAgree (as' ++ b ∷ [])
agree_more [] b all can = (can, tt)
agree_more (a ∷ as') b all can = (all.0, agree_more as' b all.1 can)

agree_with : (as' : List Agreement) (b : Agreement) (t : Bool) → AllAgree as' → CanBeWritten (Agree b) → AllAgree (cond t as' (as' ++ b ∷ []))
agree_with as' b true all can = all
agree_with as' b false all can = agree_more as' b all can

all_agree : (L : List Request) → AllByRecursion CanBeWritten L → AllAgree (agreements_of L)
all_agree [] can = tt
all_agree (Agree b ∷ L) can = agree_with (agreements_of L) b (clashes (agreements_of L) b) (all_agree L can.1) can.0
all_agree (Deliver x ∷ L) can = all_agree L can.1
all_agree (Waive x y ∷ L) can = all_agree L can.1
all_agree (AskPrice x y ∷ L) can = all_agree L can.1
all_agree (AskChoice x y ∷ L) can = all_agree L can.1
all_agree (AskCalendar x y ∷ L) can = all_agree L can.1
all_agree (AskGaps x ∷ L) can = all_agree L can.1
all_agree (AskCatalogue x ∷ L) can = all_agree L can.1
all_agree (Malformed x ∷ L) can = all_agree L can.1

found_agree : (p : Agreement → Bool) (as' : List Agreement) → AllAgree as' → (a : Agreement) → find p as' ≡ Some a → CanBeWritten (Agree a)
found_agree p [] all a e = absurd cc
found_agree p (b ∷ as') all a e = by (found_agree p as' all.1 a) (p b) e
  where
    by : (find p as' ≡ Some a → CanBeWritten (Agree a)) → (t : Bool) → cond t (Some b) (find p as') ≡ Some a → CanBeWritten (Agree a)
    by rest true is = let same : b ≡ a = cc in rw (sym same) all.0
    by rest false is = rest is

-- ---- the waivers that stand were asked for

waived_at : (o : Option Agreement) (k : ℕ) (h : Standing) (s : List ℕ) (n : ℕ) → put_at (admitted_at o k h) s n ≡ Some Waived → (a : Agreement) × (o ≡ Some a) × (a.name ≡ s) × (k ≡ n) × (h ≡ Waived)
waived_at None k h s n e = absurd cc
waived_at (Some a) k h s n e = by (nat_lt k a.first) e
  where
    at : (t : Bool) → bytes_eq a.name s ≡ t → (u : Bool) → nat_eq k n ≡ u → cond (t && u) (Some h) None ≡ Some Waived → (b : Agreement) × (Some a ≡ Some b) × (b.name ≡ s) × (k ≡ n) × (h ≡ Waived)
    at true same true number is = (a, refl, (bytes_eq-Decides a.name s).0 same, grind (arith, nat_tests), cc)
    at true same false number is = absurd cc
    at false same u number is = absurd cc

    by : (b : Bool) → put_at (cond b None (Some (record { series = a.name; number = k; standing = h }))) s n ≡ Some Waived → (b : Agreement) × (Some a ≡ Some b) × (b.name ≡ s) × (k ≡ n) × (h ≡ Waived)
    by true is = absurd cc
    by false is = at (bytes_eq a.name s) refl (nat_eq k n) refl is

no_message : (as' : List Agreement) (m : Option (Header × List Product)) (s : List ℕ) (n : ℕ) → put_at (admitted_message as' m) s n ≡ Some Waived → ⊥
no_message as' None s n e = absurd cc
no_message as' (Some m) s n e = by m.0.number e
  where
    by : (k : Option ℕ) → put_at (admitted_number (between as' m.0.sender m.0.addressee) k (Message m.1)) s n ≡ Some Waived → ⊥
    by None is = absurd cc
    by (Some k) is = let same : Message m.1 ≡ Waived = (waived_at (between as' m.0.sender m.0.addressee) k (Message m.1) s n is).4 in absurd cc

waiver_put : (L : List Request) (r : Request) (s : List ℕ) (n : ℕ) → CanBeWritten r → put_at (admitted (agreements_of L) r) s n ≡ Some Waived → CanBeWritten (Waive s n)
waiver_put L (Deliver records) s n can e = absurd (no_message (agreements_of L) (message_of records) s n e)
waiver_put L (Waive series k) s n can e =
    let p = waived_at (named (agreements_of L) series) k Waived s n e in
    let name : series ≡ s = sym (named_has_name (agreements_of L) series p.0 p.1) ∙ p.2 in
    let number : k ≡ n = p.3 in
    rw (sym name, sym number) can
waiver_put L (Agree b) s n can e = absurd cc
waiver_put L (AskPrice x y) s n can e = absurd cc
waiver_put L (AskChoice x y) s n can e = absurd cc
waiver_put L (AskCalendar x y) s n can e = absurd cc
waiver_put L (AskGaps x) s n can e = absurd cc
waiver_put L (AskCatalogue x) s n can e = absurd cc
waiver_put L (Malformed x) s n can e = absurd cc

waiver_came : (L : List Request) → AllByRecursion CanBeWritten L → (s : List ℕ) (n : ℕ) → first_at L s n ≡ Some Waived → CanBeWritten (Waive s n)
waiver_came [] can s n e = absurd cc
waiver_came (r ∷ L) can s n e = by (λ is. waiver_came L can.1 s n is) (first_at L s n) refl e
  where
    by : (first_at L s n ≡ Some Waived → CanBeWritten (Waive s n)) → (o : Option Standing) → first_at L s n ≡ o → option_or o (put_at (admitted (agreements_of L) r) s n) ≡ Some Waived → CanBeWritten (Waive s n)
    by earlier (Some h) is e = earlier (is ∙ e)
    by earlier None is e = waiver_put L r s n can.0 e

-- ---- the export

module _ (L : List Request) (can : AllByRecursion CanBeWritten L) where
  at_pieces : (a : Agreement) (n : ℕ) (o : Option Standing) → first_at L a.name n ≡ o → AllPieces (requests_at a n o)
  at_pieces a n None is = tt
  at_pieces a n (Some (Message c)) is = (message_piece a n c, tt)
  at_pieces a n (Some Waived) is = (waive_piece a.name n (waiver_came L can a.name n is), tt)

  from_pieces : (a : Agreement) (ns : List ℕ) → AllPieces (flat_map (λ n. requests_at a n (first_at L a.name n)) ns)
  from_pieces a [] = tt
  from_pieces a (n ∷ ns) = pieces_append (requests_at a n (first_at L a.name n)) _ (at_pieces a n (first_at L a.name n) refl) (from_pieces a ns)

  series_pieces : (a : Agreement) → CanBeWritten (Agree a) → AllPieces (series_requests L a)
  series_pieces a agree = (agree_piece a agree, from_pieces a (range_with_len a.first (numbers_up_to a.first (greatest_of L a.name))))

  all_pieces : (es : List (List ℕ × Agreement)) → AllByRecursion (λ (e : List ℕ × Agreement). CanBeWritten (Agree e.1)) es → AllPieces (flat_map (λ s. series_requests L s.1) es)
  all_pieces [] agree = tt
  all_pieces (e ∷ es) agree = pieces_append (series_requests L e.1) _ (series_pieces e.1 agree.0) (all_pieces es agree.1)

  entries_agree : (es : List (List ℕ × Agreement)) → ((e : List ℕ × Agreement) → In e es → In e (entries (by_name (agreements_of L)))) → AllByRecursion (λ (e : List ℕ × Agreement). CanBeWritten (Agree e.1)) es
  entries_agree [] within = tt
  entries_agree (e ∷ es) within =
      let is : named (agreements_of L) e.0 ≡ Some e.1 = sym (get-by_name (agreements_of L) e.0) ∙ get_in (by_name (agreements_of L)) e.0 e.1 (within e (inl refl)) in
      (found_agree (has_name e.0) (agreements_of L) (all_agree L can) e.1 is, entries_agree es (λ f m. within f (inr m)))

no_mark : (rs : List Request) → AllPieces rs → strip_bom (records_text (flat_map request_records rs)) ≡ records_text (flat_map request_records rs)
unfolding records_text strip_bom
no_mark [] all = refl
no_mark (r ∷ rs) all =
    subst (λ x. strip_bom (records_text (x ++ flat_map request_records rs)) ≡ records_text (x ++ flat_map request_records rs)) (sym all.0.split) (all.0.unmarked (flat_map request_records rs))

-- a text of such requests is read as these
text_read : ReadLaw → (rs : List Request) → AllPieces rs → requests_of (batch_text rs) ≡ rs
unfolding batch_text requests_of
text_read law rs all =
    ap (λ x. map request_of (pieces x)) (law (flat_map request_records rs) (all_filled rs all) (no_mark rs all))
    ∙ read_pieces rs all

followed_append : (M xs ys : List Request) → followed_by M (xs ++ ys) ≡ followed_by (followed_by M xs) ys
followed_append M [] ys = refl
followed_append M (x ∷ xs) ys = followed_append (x ∷ M) xs ys

pieces_split : (xs ys : List Request) → AllPieces (xs ++ ys) → AllPieces xs × AllPieces ys
pieces_split [] ys all = (tt, all)
pieces_split (x ∷ xs) ys all = let rest = pieces_split xs ys all.1 in ((all.0, rest.0), rest.1)

-- the texts of parts, asked one after the other, are the whole
parts_read : ReadLaw → (M : List Request) (parts : List (List Request)) → AllPieces (flat_map (λ part. part) parts) → after_batches M (map batch_text parts) ≡ followed_by M (flat_map (λ part. part) parts)
parts_read law M [] all = refl
parts_read law M (part ∷ parts) all =
    let split = pieces_split part (flat_map (λ x. x) parts) all in
    ap (λ rs. after_batches (followed_by M rs) (map batch_text parts)) (text_read law part split.0)
    ∙ parts_read law (followed_by M part) parts split.1
    ∙ sym (followed_append M part (flat_map (λ x. x) parts))

export_pieces : (L : List Request) → AllByRecursion CanBeWritten L → AllPieces (export_of L)
export_pieces L can = let es = entries (by_name (agreements_of L)) in all_pieces L can es (entries_agree L can es (λ e m. m))

pub export_is_read : ReadLaw → ExportIsTrue → ExportIsRead
export_is_read law true_ = record {
  read = λ L can. text_read law (export_of L) (export_pieces L can);
  made = λ L can. subst (λ rs. SameContent L (followed_by [] rs)) (sym (text_read law (export_of L) (export_pieces L can))) (true_.same L);
  parts = λ L can parts whole.
      subst (SameContent L) (ap (followed_by []) (sym whole) ∙ sym (parts_read law [] parts (subst AllPieces (sym whole) (export_pieces L can)))) (true_.same L);
}
