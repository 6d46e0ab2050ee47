-- Texts that are taken, and steps of an export, one after the other.
use Rattle.std.proofs.Common.{◌≡◌, ◌≤◌, ◌<◌, ◌+◌, ◌-◌, ◌++◌, ℕ, zero, suc, Bool, true, false, cond, ◌&&◌, List, [], ◌∷◌, Option, Some, None, Result, Ok, Err, OnOk, inl, inr, refl, sym, ap, ◌∙◌, subst, length, take, get_or, arith, append_assoc, append-nil}
use Rattle.std.specs.Prelude.{nat_lt, option_map, slice_get, ⊤}
use Rattle.std.proofs.lemmas.Option.{same_Some}
use Rattle.onix_terms.specs.Number.{number_from}
use Rattle.std.specs.FinMap.{entries}
use Rattle.std.specs.List.{flat_map}
use Rattle.std.proofs.lemmas.Grind.{flat_map-append}
use Rattle.std.proofs.lemmas.List.{map-append}
use Rattle.csv_records.proofs.CutFacts.{take-get}
use Rattle.onix_records.specs.declared.agreements.Agreement.{Agreement}
use Rattle.series_rules.proofs.AgreementLemmas.{named_has_name}
use Rattle.series_rules.proofs.Elements.{In, in_map}
use Rattle.series_rules.proofs.OfferLemmas.{get-by_name}
use Rattle.series_rules.specs.Agreements.{agreements_of, named}
use Rattle.series_rules.specs.Answers.{gaps_answer}
use Rattle.series_rules.specs.Firsts.{first_at}
use Rattle.series_rules.specs.Gaps.{AreRangesFrom, IsInRanges, IsUpTo, gaps_of, greatest_of, numbers_up_to}
use Rattle.series_rules.specs.Laws.{GapsAreTrue}
use Rattle.series_rules.specs.Offers.{by_name}
use Rattle.series_rules.specs.Views.{AsksOnly, DeskKind, Stays, View}
use Rattle.series_rules.specs.declared.answers.GapReport.{GapReport}
use Rattle.series_rules.specs.declared.requests.Request.{Request}
use Rattle.series_rules.specs.declared.requests.Request.TheVariants.{Agree}
use Rattle.series_rules.specs.Listing.{agreements_by_name}
use Rattle.desk_export.specs.Exporting.{IsTaken, Takes, TakesAll, TakesSome, end_after, requests_between, texts_of}
use Rattle.desk_export.specs.Exports.{requests_at, requests_from, series_requests}
use Rattle.desk_export.specs.RequestRecords.{request_text}
use Rattle.desk_export.proofs.MapEntries.{get_in}
use Rattle.onix_records.specs.declared.faults.StoreFault.{StoreFault}

-- what a call takes that ends without a fault
abbrev pub IsDone : {T : Type 0} {k : DeskKind} → (takes part : T → T → List ℕ → Type 0)
    → (List Request → List (List ℕ)) → View k → View k → T → T → Type 0
IsDone takes part texts old new from to =
    IsTaken {A = ⊤} {F = ⊤} takes part (λ L. ⊤) texts old new from to (Ok tt)

-- ---- texts

module _ {T : Type 0} (takes part : T → T → List ℕ → Type 0) where
  takes_then : (a b c : T) (ts us : List (List ℕ)) → TakesAll takes a b ts → TakesAll takes b c us → TakesAll takes a c (ts ++ us)
  takes_then a b c [] us none more = subst (λ x. TakesAll takes x c us) none more
  takes_then a b c (t ∷ ts) us (mid, first, rest) more = (mid, first, takes_then mid b c ts us rest more)

  some_then : (a b c : T) (ts us : List (List ℕ)) → TakesAll takes a b ts → TakesSome takes part b c us → TakesSome takes part a c (ts ++ us)
  some_then a b c [] us none more = subst (λ x. TakesSome takes part x c us) none more
  some_then a b c (t ∷ ts) us (mid, first, rest) more = inr (inr (mid, first, some_then mid b c ts us rest more))

  next_taken : {A F : Type 0} (a b c : T) (ts us : List (List ℕ)) (r : Result A F) → TakesAll takes a b ts → Takes takes part b c us r → Takes takes part a c (ts ++ us) r
  next_taken a b c ts us (Ok x) before more = takes_then a b c ts us before more
  next_taken a b c ts us (Err e) before more = some_then a b c ts us before more

  -- none of them
  none_taken : (a : T) (ts : List (List ℕ)) → TakesSome takes part a a ts
  none_taken a [] = refl
  none_taken a (t ∷ ts) = inl refl

  -- and others after them
  some_more : (a b : T) (ts us : List (List ℕ)) → TakesSome takes part a b ts → TakesSome takes part a b (ts ++ us)
  some_more a b [] us none = subst (λ x. TakesSome takes part a x us) (sym none) (none_taken a us)
  some_more a b (t ∷ ts) us (inl none) = inl none
  some_more a b (t ∷ ts) us (inr (inl one)) = inr (inl one)
  some_more a b (t ∷ ts) us (inr (inr (mid, first, rest))) = inr (inr (mid, first, some_more mid b ts us rest))

pub texts_append : (xs ys : List Request) → texts_of (xs ++ ys) ≡ texts_of xs ++ texts_of ys
texts_append xs ys = map-append request_text xs ys

-- the texts of requests that are those of two lists
pub texts_joined : (all xs ys : List Request) → all ≡ xs ++ ys → texts_of all ≡ texts_of xs ++ texts_of ys
texts_joined all xs ys e = ap texts_of e ∙ texts_append xs ys

-- ---- steps

pub stays_then : {k : DeskKind} (old mid new : View k) → Stays old mid → Stays mid new → Stays old new
stays_then old mid new one two = λ x. (λ held. (two x).0 ((one x).0 held), λ may. (one x).1 ((two x).1 may))

module _ {T : Type 0} {k : DeskKind} {takes part : T → T → List ℕ → Type 0} where
  -- one step after another
  pub exported_then : {A B F G : Type 0} {IsSo IsNext IsAll : List Request → Type 0} {some more all : List Request → List (List ℕ)} {old mid new : View k} {from between to : T} (a : A) (r : Result B G)
      → IsTaken {A = A} {F = F} takes part IsSo some old mid from between (Ok a) → IsTaken takes part IsNext more mid new between to r
      → ((L : List Request) → old.stands_for L → mid.sound → IsAll L → IsSo L × IsNext L × (all L ≡ some L ++ more L))
      → IsTaken takes part IsAll all old new from to r
  exported_then {some = some} {more = more} {all = all} {old = old} {mid = mid} {new = new} {from = from} {between = between} {to = to} a r one two join = record {
    premise = λ sound. one.premise (two.premise sound);
    left = λ L stands sound. two.left L (one.left L stands (two.premise sound)) sound;
    stays = λ sound. stays_then old mid new (one.stays (two.premise sound)) (two.stays sound);
    taken = λ L stands sound is.
        let early = two.premise sound in
        let j = join L stands early is in
        subst (λ texts. Takes takes part from to texts r) (sym j.2)
        (next_taken takes part from between to (some L) (more L) r (one.taken L stands early j.0) (two.taken L (one.left L stands early) sound j.1));
  }

  -- a fault, before others of all the texts
  pub stopped_in : {A B C F G : Type 0} {IsSo IsNext IsAll : List Request → Type 0} {some more all : List Request → List (List ℕ)} {old mid new : View k} {from between to : T} (a : A) (e : G)
      → IsTaken {A = A} {F = F} takes part IsSo some old mid from between (Ok a) → IsTaken {A = B} takes part IsNext more mid new between to (Err e)
      → ((L : List Request) → old.stands_for L → mid.sound → IsAll L → IsSo L × IsNext L × ((rest : List (List ℕ)) × (all L ≡ some L ++ (more L ++ rest))))
      → IsTaken {A = C} {F = G} takes part IsAll all old new from to (Err e)
  stopped_in {some = some} {more = more} {old = old} {mid = mid} {new = new} {from = from} {between = between} {to = to} a e one two join = record {
    premise = λ sound. one.premise (two.premise sound);
    left = λ L stands sound. two.left L (one.left L stands (two.premise sound)) sound;
    stays = λ sound. stays_then old mid new (one.stays (two.premise sound)) (two.stays sound);
    taken = λ L stands sound is.
        let early = two.premise sound in
        let j = join L stands early is in
        subst (TakesSome takes part from to) (sym j.2.1)
        (some_then takes part from between to (some L) (more L ++ j.2.0) (one.taken L stands early j.0)
        (some_more takes part between to (more L) j.2.0 (two.taken L (one.left L stands early) sound j.1)));
  }

  -- nothing was taken
  pub not_taken : {A F : Type 0} {IsSo : List Request → Type 0} {texts : List Request → List (List ℕ)} (v : View k) (t : T) (e : F) → IsTaken {A = A} takes part IsSo texts v v t t (Err e)
  not_taken {texts = texts} v t e = record {
    premise = λ sound. sound;
    left = λ L stands sound. stands;
    stays = λ sound x. (λ held. held, λ may. may);
    taken = λ L stands sound is. none_taken takes part t (texts L);
  }

  -- nothing was taken of what a desk was asked for
  pub not_told : {A B G : Type 0} {answer : List Request → B} {IsSo : List Request → Type 0} {texts : List Request → List (List ℕ)} {old new : View k} {t : T} {r : Result B StoreFault} (e : G)
      → AsksOnly answer old new r → IsTaken {A = A} takes part IsSo texts old new t t (Err e)
  not_told {texts = texts} {t = t} e tells = record {
    premise = tells.premise;
    left = tells.left;
    stays = tells.stays;
    taken = λ L stands sound is. none_taken takes part t (texts L);
  }

-- nothing was done yet
pub nothing_done : {T : Type 0} {k : DeskKind} (takes part : T → T → List ℕ → Type 0) (v : View k) (t : T) → IsDone takes part (λ L. []) v v t t
nothing_done takes part v t = record { premise = λ sound. sound; left = λ L stands sound. stands; stays = λ sound x. (λ held. held, λ may. may); taken = λ L stands sound is. refl }

-- what was done is done, whatever was answered
module _ {T : Type 0} {k : DeskKind} {takes part : T → T → List ℕ → Type 0} where
  pub same_done : {A B F G : Type 0} {IsSo : List Request → Type 0} {some : List Request → List (List ℕ)} {old new : View k} {from to : T} (a : A) (b : B)
      → IsTaken {A = A} {F = F} takes part IsSo some old new from to (Ok a) → IsTaken {A = B} {F = G} takes part IsSo some old new from to (Ok b)
  same_done a b one = record { premise = one.premise; left = one.left; stays = one.stays; taken = λ L stands sound is. one.taken L stands sound is }

  -- the same texts in other words
  pub exported_as : {A F : Type 0} {IsSo IsAll : List Request → Type 0} {some all : List Request → List (List ℕ)} {old new : View k} {from to : T} (r : Result A F)
      → IsTaken takes part IsSo some old new from to r → ((L : List Request) → IsAll L → IsSo L × (all L ≡ some L)) → IsTaken takes part IsAll all old new from to r
  exported_as {from = from} {to = to} r one same = record {
    premise = one.premise;
    left = one.left;
    stays = one.stays;
    taken = λ L stands sound is. let j = same L is in subst (λ texts. Takes takes part from to texts r) (sym j.1) (one.taken L stands sound j.0);
  }

-- ---- numbers in a row

pub from_split : (L : List Request) (a : Agreement) (from m k : ℕ) → requests_from L a from (m + k) ≡ requests_from L a from m ++ requests_from L a (from + m) k
from_split L a from zero k =
    let size : zero + k ≡ k = omega arith in
    let same : from + zero ≡ from = omega arith in
    ap (requests_from L a from) size ∙ ap (λ n. requests_from L a n k) (sym same)
from_split L a from (suc m) k =
    let size : suc m + k ≡ suc (m + k) = omega arith in
    let same : from + 1 + m ≡ from + suc m = omega arith in
    let here = requests_at a from (first_at L a.name from) in
    ap (requests_from L a from) size
    ∙ ap (λ rs. here ++ rs) (from_split L a (from + 1) m k ∙ ap (λ n. requests_from L a (from + 1) m ++ requests_from L a n k) same)
    ∙ sym (append_assoc here (requests_from L a (from + 1) m) (requests_from L a (from + suc m) k))

-- one number more
pub from_more : (L : List Request) (a : Agreement) (from n : ℕ) → from ≤ n → requests_from L a from (n + 1 - from) ≡ requests_from L a from (n - from) ++ requests_at a n (first_at L a.name n)
from_more L a from n le =
    let size : n + 1 - from ≡ (n - from) + 1 = omega (arith, le) in
    let place : from + (n - from) ≡ n = omega (arith, le) in
    ap (requests_from L a from) size ∙ from_split L a from (n - from) 1
    ∙ ap (λ m. requests_from L a from (n - from) ++ requests_from L a m 1) place
    ∙ ap (λ rs. requests_from L a from (n - from) ++ rs) (append-nil (requests_at a n (first_at L a.name n)))

-- a number that was made of it
pub number_is : (m n : ℕ) → Some m ≡ number_from n → m ≡ n
number_is m n e = by (nat_lt 0 n && nat_lt n 1000000000) e
  where
    by : (b : Bool) → Some m ≡ cond b (Some n) None → m ≡ n
    by true e = same_Some m n e
    by false e = absurd cc

pub number_more : (L : List Request) (a : Agreement) (from n m : ℕ) → from ≤ n → m ≡ n → requests_from L a from (n + 1 - from) ≡ requests_from L a from (n - from) ++ requests_at a m (first_at L a.name m)
number_more L a from n m le is = from_more L a from n le ∙ ap (λ k. requests_from L a from (n - from) ++ requests_at a k (first_at L a.name k)) (sym is)

-- the texts of some requests between those of others
pub between : (all before here behind : List Request) → all ≡ (before ++ here) ++ behind → (rest : List (List ℕ)) × (texts_of all ≡ texts_of before ++ (texts_of here ++ rest))
between all before here behind are = (
  texts_of behind,
  ap texts_of are
      ∙ texts_append (before ++ here) behind
      ∙ ap (λ ts. ts ++ texts_of behind) (texts_append before here)
      ∙ append_assoc (texts_of before) (texts_of here) (texts_of behind),
)

-- the requests at one number, between those before it and those after it
pub range_around : (L : List Request) (a : Agreement) (from n end m : ℕ) → from ≤ n → n < end → m ≡ n
    → (rest : List (List ℕ)) × (texts_of (requests_from L a from (end - from)) ≡ texts_of (requests_from L a from (n - from)) ++ (texts_of (requests_at a m (first_at L a.name m)) ++ rest))
range_around L a from n end m le lt is =
    let size : (n + 1 - from) + (end - (n + 1)) ≡ end - from = omega (arith, le, lt) in
    let behind = requests_from L a (from + (n + 1 - from)) (end - (n + 1)) in
    between _ (requests_from L a from (n - from)) (requests_at a m (first_at L a.name m)) behind
    (ap (requests_from L a from) (sym size) ∙ from_split L a from (n + 1 - from) (end - (n + 1)) ∙ ap (λ rs. rs ++ behind) (number_more L a from n m le is))

nothing_from : (L : List Request) (a : Agreement) (from len : ℕ) → ((n : ℕ) → from ≤ n → n < from + len → first_at L a.name n ≡ None) → requests_from L a from len ≡ []
nothing_from L a from zero none = refl
nothing_from L a from (suc len) none =
    ap (λ o. requests_at a from o ++ requests_from L a (from + 1) len) (none from (omega arith) (omega arith))
    ∙ nothing_from L a (from + 1) len (λ n le lt. none n (omega (arith, le)) (omega (arith, lt)))

-- ---- without what is missing

ranges_lower : (n m : ℕ) (ps : List (ℕ × ℕ)) → m ≤ n → AreRangesFrom n ps → AreRangesFrom m ps
ranges_lower n m [] le order = tt
ranges_lower n m (p ∷ ps) le order = (omega (arith, le, order.0), order.1, order.2)

between_is : (L : List Request) (a : Agreement) (end from : ℕ) (ps : List (ℕ × ℕ)) → AreRangesFrom from ps → ((n : ℕ) → IsInRanges n ps → (n < end) × (first_at L a.name n ≡ None)) → requests_between L a from ps end ≡ requests_from L a from (end - from)
between_is L a end from [] order within = refl
between_is L a end from (p ∷ ps) order within =
    let low : from ≤ p.0 = order.0 in
    let up : p.0 ≤ p.1 = order.1 in
    let self : p.1 ≤ p.1 = omega arith in
    let high : p.1 < end = (within p.1 (inl (up, self))).0 in
    let behind = p.1 + 1 in
    let rest = between_is L a end (p.1 + 1) ps (ranges_lower (p.1 + 2) (p.1 + 1) ps (omega arith) order.2) (λ n m. within n (inr m)) in
    let none = nothing_from L a p.0 (p.1 + 1 - p.0) (λ n le lt. (within n (inl (le, omega (arith, up, lt)))).1) in
    let size : (p.0 - from) + (end - p.0) ≡ end - from = omega (arith, low, up, high) in
    let place : from + (p.0 - from) ≡ p.0 = omega (arith, low) in
    let size2 : (p.1 + 1 - p.0) + (end - (p.1 + 1)) ≡ end - p.0 = omega (arith, up, high) in
    let place2 : p.0 + (p.1 + 1 - p.0) ≡ p.1 + 1 = omega (arith, up) in
    let middle : requests_from L a p.0 (end - p.0) ≡ requests_from L a (p.1 + 1) (end - (p.1 + 1)) =
    ap (requests_from L a p.0) (sym size2) ∙ from_split L a p.0 (p.1 + 1 - p.0) (end - (p.1 + 1))
    ∙ ap (λ rs. rs ++ requests_from L a (p.0 + (p.1 + 1 - p.0)) (end - (p.1 + 1))) none
    ∙ ap (λ n. requests_from L a n (end - (p.1 + 1))) place2 in
    ap (λ rs. requests_from L a from (p.0 - from) ++ rs) (rest ∙ sym middle)
    ∙ ap (λ n. requests_from L a from (p.0 - from) ++ requests_from L a n (end - p.0)) (sym place)
    ∙ sym (from_split L a from (p.0 - from) (end - p.0))
    ∙ ap (requests_from L a from) size

up_to_end : (first n : ℕ) (g : Option ℕ) → IsUpTo n g → n < end_after first g
up_to_end first n None is = absurd is
up_to_end first n (Some g) is = omega (arith, is)

up_to_size : (first : ℕ) (g : Option ℕ) → end_after first g - first ≡ numbers_up_to first g
up_to_size first None = omega arith
up_to_size first (Some g) = refl

-- what stands in a series is what stands without what its report says to be missing
pub held_are : GapsAreTrue → (L : List Request) (a : Agreement) (report : GapReport) → report ≡ gaps_of L a
    → requests_between L a report.first report.missing (end_after report.first report.greatest) ≡ requests_from L a a.first (numbers_up_to a.first (greatest_of L a.name))
held_are true_ L a report is =
    let t = true_ L a in
    ap (λ (r : GapReport). requests_between L a r.first r.missing (end_after r.first r.greatest)) is
    ∙ between_is L a (end_after a.first (greatest_of L a.name)) a.first (gaps_of L a).missing t.in_order
    (λ n m. let only = t.only_lacking n m in (up_to_end a.first n (greatest_of L a.name) only.1, only.2))
    ∙ ap (requests_from L a a.first) (up_to_size a.first (greatest_of L a.name))

-- the numbers before one more range
pub held_more : (L : List Request) (a : Agreement) (from end first last : ℕ) (p : ℕ × ℕ) (ps rest : List (ℕ × ℕ)) (some all : List Request)
    → all ≡ some ++ requests_between L a from ps end → ps ≡ p ∷ rest → first ≡ p.0 → last ≡ p.1 → all ≡ (some ++ requests_from L a from (first - from)) ++ requests_between L a (last + 1) rest end
held_more L a from end first last p ps rest some all split is begins ends =
    split
    ∙ ap (λ qs. some ++ requests_between L a from qs end) is
    ∙ ap (λ n. some ++ (requests_from L a from (n - from) ++ requests_between L a (p.1 + 1) rest end)) (sym begins)
    ∙ ap (λ n. some ++ (requests_from L a from (first - from) ++ requests_between L a (n + 1) rest end)) (sym ends)
    ∙ sym (append_assoc some (requests_from L a from (first - from)) (requests_between L a (last + 1) rest end))

-- ---- one series

pub report_is : (L : List Request) (a : Agreement) (report : GapReport) → named (agreements_of L) a.name ≡ Some a → Some report ≡ gaps_answer L a.name → report ≡ gaps_of L a
report_is L a report agreed told = let both : Some report ≡ Some (gaps_of L a) = told ∙ ap (option_map (gaps_of L)) agreed in cc

module _ {T : Type 0} {k : DeskKind} {takes part : T → T → List ℕ → Type 0} where
  pub series_exported : {A F : Type 0} {old mid new : View k} {from between to : T} (true_ : GapsAreTrue) (a : Agreement) (report : GapReport) (r : Result A F)
      → AsksOnly (λ L. gaps_answer L a.name) old mid (Ok (Some report)) → TakesAll takes from between (request_text (Agree a) ∷ [])
      → IsTaken takes part (λ L. ⊤) (λ L. texts_of (requests_between L a report.first report.missing (end_after report.first report.greatest))) mid new between to r
      → IsTaken takes part (λ L. named (agreements_of L) a.name ≡ Some a) (λ L. texts_of (series_requests L a)) old new from to r
  series_exported {old = old} {mid = mid} {new = new} {from = from} {between = between} {to = to} true_ a report r tells agreement held = record {
    premise = λ sound. tells.premise (held.premise sound);
    left = λ L stands sound. held.left L (tells.left L stands (held.premise sound)) sound;
    stays = λ sound. stays_then old mid new (tells.stays (held.premise sound)) (held.stays sound);
    taken = λ L stands sound agreed.
        let early = held.premise sound in
        let is = report_is L a report agreed (tells.ok L stands early) in
        let whole = held_are true_ L a report is in
        next_taken takes part from between to (request_text (Agree a) ∷ []) (texts_of (requests_from L a a.first (numbers_up_to a.first (greatest_of L a.name)))) r agreement
        (subst (λ rs. Takes takes part between to (texts_of rs) r) whole (held.taken L (tells.left L stands early) sound tt));
  }

  -- an agreement was not taken, before what stands in its series
  pub agreement_stopped : {A F : Type 0} {old mid : View k} {from to : T} {r : Result (Option GapReport) StoreFault} (a : Agreement) (e : F)
      → AsksOnly (λ L. gaps_answer L a.name) old mid r → TakesSome takes part from to (request_text (Agree a) ∷ [])
      → IsTaken {A = A} takes part (λ L. named (agreements_of L) a.name ≡ Some a) (λ L. texts_of (series_requests L a)) old mid from to (Err e)
  agreement_stopped {from = from} {to = to} a e tells some = record {
    premise = tells.premise;
    left = tells.left;
    stays = tells.stays;
    taken = λ L stands sound agreed. some_more takes part from to (request_text (Agree a) ∷ []) (texts_of (requests_from L a a.first (numbers_up_to a.first (greatest_of L a.name)))) some;
  }

-- ---- all series

pub got_at : {X : Type 0} (xs : List X) (i : ℕ) (x : X) → x ≡ get_or xs i x → i < length xs → slice_get xs i ≡ Some x
got_at [] i x e lt = absurd (omega (arith, lt))
got_at (y ∷ ys) zero x e lt = ap Some (sym e)
got_at (y ∷ ys) (suc i) x e lt = got_at ys i x e (omega (arith, lt))

got_in : {X : Type 0} (xs : List X) (i : ℕ) (x : X) → slice_get xs i ≡ Some x → In x xs
got_in [] i x e = absurd cc
got_in (y ∷ ys) zero x e = let same : y ≡ x = cc in inl same
got_in (y ∷ ys) (suc i) x e = inr (got_in ys i x e)

pub listed_named : (L : List Request) (i : ℕ) (a : Agreement) → slice_get (agreements_by_name L) i ≡ Some a → named (agreements_of L) a.name ≡ Some a
listed_named L i a e =
    let there = in_map (λ (e : List ℕ × Agreement). e.1) (entries (by_name (agreements_of L))) a (got_in (agreements_by_name L) i a e) in
    let x = there.0 in
    let found : named (agreements_of L) x.0 ≡ Some x.1 = sym (get-by_name (agreements_of L) x.0) ∙ get_in (by_name (agreements_of L)) x.0 x.1 there.1 in
    let own : named (agreements_of L) x.1.name ≡ Some x.1 = ap (named (agreements_of L)) (named_has_name (agreements_of L) x.0 x.1 found) ∙ found in
    subst (λ (b : Agreement). named (agreements_of L) b.name ≡ Some b) there.2 own

texts_more : (each : Agreement → List (List ℕ)) (i : ℕ) (a : Agreement) (as' : List Agreement) → slice_get as' i ≡ Some a → flat_map each (take (i + 1) as') ≡ flat_map each (take i as') ++ each a
texts_more each i a as' at =
    ap (flat_map each) (take-get as' i a at)
    ∙ flat_map-append each (take i as') (a ∷ [])
    ∙ ap (λ texts. flat_map each (take i as') ++ texts) (append-nil (each a))

-- what is listed of one, between what is of those before it and of those after it
texts_around : (each : Agreement → List (List ℕ)) (i : ℕ) (a : Agreement) (as' : List Agreement) → slice_get as' i ≡ Some a
    → (rest : List (List ℕ)) × (flat_map each as' ≡ flat_map each (take i as') ++ (each a ++ rest))
texts_around each i a [] e = absurd cc
texts_around each zero a (b ∷ bs) e = let same : b ≡ a = cc in (flat_map each bs, ap (λ x. each x ++ flat_map each bs) same)
texts_around each (suc i) a (b ∷ bs) e =
    let behind = texts_around each i a bs e in
    (behind.0, ap (λ texts. each b ++ texts) behind.1 ∙ sym (append_assoc (each b) (flat_map each (take i bs)) (each a ++ behind.0)))

pub take_whole : {X : Type 0} (xs : List X) (n : ℕ) → length xs ≤ n → take n xs ≡ xs
take_whole [] zero le = refl
take_whole [] (suc n) le = refl
take_whole (x ∷ xs) zero le = absurd (omega (arith, le))
take_whole (x ∷ xs) (suc n) le = ap (λ l. x ∷ l) (take_whole xs n (omega (arith, le)))

module _ {T : Type 0} {k : DeskKind} {takes part : T → T → List ℕ → Type 0} (each : List Request → Agreement → List (List ℕ)) where
  -- one series more
  pub more_listed : {A B C F G H : Type 0} {old mid new : View k} {from between to : T} (agreements : List Agreement) (i : ℕ) (a : Agreement) (x : A) (y : B) (z : C)
      → IsTaken {A = A} {F = F} takes part (λ L. ⊤) (λ L. flat_map (each L) (take i (agreements_by_name L))) old mid from between (Ok x)
      → ((L : List Request) → old.stands_for L → mid.sound → agreements ≡ agreements_by_name L)
      → IsTaken {A = B} {F = G} takes part (λ L. named (agreements_of L) a.name ≡ Some a) (λ L. each L a) mid new between to (Ok y)
      → slice_get agreements i ≡ Some a
      → IsTaken {A = C} {F = H} takes part (λ L. ⊤) (λ L. flat_map (each L) (take (i + 1) (agreements_by_name L))) old new from to (Ok z)
  more_listed agreements i a x y z so_far listed step at =
      exported_then x (Ok z) so_far (same_done y z step) (λ L stands sound is.
      let there : slice_get (agreements_by_name L) i ≡ Some a = ap (λ as'. slice_get as' i) (sym (listed L stands sound)) ∙ at in
      (tt, listed_named L i a there, texts_more (each L) i a (agreements_by_name L) there))

  -- a fault in one of them
  pub series_stopped : {A B C F G : Type 0} {old mid new : View k} {from between to : T} (agreements : List Agreement) (i : ℕ) (a : Agreement) (x : A) (e : G)
      → IsTaken {A = A} {F = F} takes part (λ L. ⊤) (λ L. flat_map (each L) (take i (agreements_by_name L))) old mid from between (Ok x)
      → ((L : List Request) → old.stands_for L → mid.sound → agreements ≡ agreements_by_name L)
      → IsTaken {A = B} takes part (λ L. named (agreements_of L) a.name ≡ Some a) (λ L. each L a) mid new between to (Err e)
      → slice_get agreements i ≡ Some a
      → IsTaken {A = C} takes part (λ L. ⊤) (λ L. flat_map (each L) (agreements_by_name L)) old new from to (Err e)
  series_stopped agreements i a x e so_far listed step at =
      stopped_in x e so_far step (λ L stands sound is.
      let there : slice_get (agreements_by_name L) i ≡ Some a = ap (λ as'. slice_get as' i) (sym (listed L stands sound)) ∙ at in
      (tt, listed_named L i a there, texts_around (each L) i a (agreements_by_name L) there))

  -- all of them
  pub all_listed : {A B F G : Type 0} {old new : View k} {from to : T} (agreements : List Agreement) (i : ℕ) (x : A) (y : B)
      → IsTaken {A = A} {F = F} takes part (λ L. ⊤) (λ L. flat_map (each L) (take i (agreements_by_name L))) old new from to (Ok x)
      → ((L : List Request) → old.stands_for L → new.sound → agreements ≡ agreements_by_name L)
      → length agreements ≤ i
      → IsTaken {A = B} {F = G} takes part (λ L. ⊤) (λ L. flat_map (each L) (agreements_by_name L)) old new from to (Ok y)
  all_listed {from = from} {to = to} agreements i x y done listed le = record {
    premise = done.premise;
    left = done.left;
    stays = done.stays;
    taken = λ L stands sound is.
        let whole : take i (agreements_by_name L) ≡ agreements_by_name L = ap (take i) (sym (listed L stands sound)) ∙ take_whole agreements i le ∙ listed L stands sound in
        subst (TakesAll takes from to) (ap (flat_map (each L)) whole) (done.taken L stands sound tt);
  }

module _ {T : Type 0} {k : DeskKind} {takes part : T → T → List ℕ → Type 0} where
  -- a text was handed on, and no desk asked
  pub one_taken : {A F : Type 0} {IsSo : List Request → Type 0} (desk : View k) {from to : T} (text : List ℕ) (r : Result A F)
      → Takes takes part from to (text ∷ []) r → IsTaken takes part IsSo (λ L. text ∷ []) desk desk from to r
  one_taken desk text r one = record {
    premise = λ sound. sound;
    left = λ L stands sound. stands;
    stays = λ sound x. (λ held. held, λ may. may);
    taken = λ L stands sound is. one;
  }

  -- what a desk tells was handed on
  pub told_taken : {A B F : Type 0} {answer : List Request → B} {IsSo : List Request → Type 0} {old new : View k} {from to : T} (text : List Request → List ℕ) (b : B) (r : Result A F)
      → AsksOnly answer old new (Ok b) → ((L : List Request) → IsSo L → b ≡ answer L → Takes takes part from to (text L ∷ []) r)
      → IsTaken takes part IsSo (λ L. text L ∷ []) old new from to r
  told_taken text b r tells one = record {
    premise = tells.premise;
    left = tells.left;
    stays = tells.stays;
    taken = λ L stands sound is. one L is (tells.ok L stands sound);
  }
