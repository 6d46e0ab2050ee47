-- Which days the lists of break days have, and that the current price is steady between them.
use Rattle.std.proofs.Common.{◌≡◌, ◌↔◌, ℕ, ◌*◌, ◌≤◌, ℤ, pos, ◌+ℤ◌, ◌≤ℤ◌, ◌<ℤ◌, List, [], ◌∷◌, ◌++◌, length, get_or, Option, Some, None, ◌⊎◌, inl, inr, ⊎_elim, sym, refl, subst, ap, arith, length-append}
use Rattle.std.specs.List.{Contains, flat_map}
use Rattle.std.proofs.lemmas.List.Elements.{Contains-append_left, Contains-append_right, Contains-append_cases, Contains-push, Contains-get_or}
use Rattle.std.proofs.lemmas.Int.{ints, by_lt_z}
use Rattle.price_rules.specs.Order.{IsBest}
use Rattle.price_rules.specs.Price.{Holds, HasBegun, HasNotEnded, Outranks, IsCurrent}
use Rattle.price_rules.specs.Current.{current}
use Rattle.price_rules.proofs.Members.{first_in, in_cons, in_one, not_in_none, rest_in}
use Rattle.price_rules.proofs.CurrentPrice.{current_exact, current_is}
use Rattle.price_rules.specs.Calendar.{on_day}
use Rattle.price_rules.specs.Breaks.{Breaks, IsBreakDays, IsSteady, within, begins_within, ends_within, breaks_of}
use Rattle.onix_records.specs.declared.parts.Price.{Price}
use Rattle.price_rules.specs.declared.offer.Offer.{Offer}
use Rattle.price_rules.specs.declared.offer.CalendarQuery.{CalendarQuery}

pub few_within : (from to day : ℤ) → length (within from to day) ≤ 1
few_within from to day = grind arith

few_begins : (from to : ℤ) (d : Option ℤ) → length (begins_within from to d) ≤ 1
few_begins from to None = omega arith
few_begins from to (Some day) = few_within from to day

few_ends : (from to : ℤ) (d : Option ℤ) → length (ends_within from to d) ≤ 1
few_ends from to None = omega arith
few_ends from to (Some day) = few_within from to (day +ℤ pos 1)

pub few_breaks : (from to : ℤ) (ps : List Price) → length (flat_map (breaks_of from to) ps) ≤ 2 * length ps
few_breaks from to [] = omega arith
few_breaks from to (p ∷ ps) =
    let a = few_begins from to p.from in
    let b = few_ends from to p.until in
    let c = few_breaks from to ps in
    omega (arith, length-append (begins_within from to p.from ++ ends_within from to p.until) (flat_map (breaks_of from to) ps), length-append (begins_within from to p.from) (ends_within from to p.until))

within_is : (from to day : ℤ) → from <ℤ day → day ≤ℤ to → within from to day ≡ day ∷ []
within_is from to day h k = grind (arith, ints)

within_before : (from to day : ℤ) → day ≤ℤ from → within from to day ≡ []
within_before from to day h = grind (arith, ints)

within_after : (from to day : ℤ) → to <ℤ day → within from to day ≡ []
within_after from to day h = grind (arith, ints)

abbrev IsWithin : ℤ → ℤ → ℤ → Type 0
IsWithin from to d = (from <ℤ d) × (d ≤ℤ to)

from_within : (from to day d : ℤ) → Contains (within from to day) d → (day ≡ d) × IsWithin from to day
from_within from to day d h =
    by_lt_z from day
    (λ a. by_lt_z to day
    (λ b. absurd (not_in_none d (subst (λ xs. Contains xs d) (within_after from to day b) h)))
    (λ b. (in_one day d (subst (λ xs. Contains xs d) (within_is from to day a b) h), (a, b))))
    (λ a. absurd (not_in_none d (subst (λ xs. Contains xs d) (within_before from to day a) h)))

onto_within : (from to day : ℤ) → IsWithin from to day → Contains (within from to day) day
onto_within from to day h = subst (λ xs. Contains xs day) (sym (within_is from to day h.0 h.1)) (Contains-push [] day)

abbrev BreaksAt : Option ℤ → Option ℤ → ℤ → Type 0
BreaksAt begin until day = (begin ≡ Some day) ⊎ ((last : ℤ) × (until ≡ Some last) × (day ≡ last +ℤ pos 1))

from_begins : (from to d : ℤ) (o : Option ℤ) → Contains (begins_within from to o) d → (o ≡ Some d) × IsWithin from to d
from_begins from to d None h = absurd (not_in_none d h)
from_begins from to d (Some day) h =
    let r = from_within from to day d h in
    (ap (λ z. Some z) r.0, subst (IsWithin from to) r.0 r.1)

from_ends : (from to d : ℤ) (o : Option ℤ) → Contains (ends_within from to o) d → ((last : ℤ) × (o ≡ Some last) × (d ≡ last +ℤ pos 1)) × IsWithin from to d
from_ends from to d None h = absurd (not_in_none d h)
from_ends from to d (Some day) h =
    let r = from_within from to (day +ℤ pos 1) d h in
    ((day, refl, sym r.0), subst (IsWithin from to) r.0 r.1)

onto_begins : (from to d : ℤ) (o : Option ℤ) → IsWithin from to d → o ≡ Some d → Contains (begins_within from to o) d
onto_begins from to d o w e = subst (λ a. Contains (begins_within from to a) d) (sym e) (onto_within from to d w)

onto_ends : (from to d last : ℤ) (o : Option ℤ) → IsWithin from to d → o ≡ Some last → d ≡ last +ℤ pos 1 → Contains (ends_within from to o) d
onto_ends from to d last o w e k =
    subst (λ a. Contains (ends_within from to a) d) (sym e) (subst (λ z. Contains (within from to z) d) k (onto_within from to d w))

more_breaks : (p : Price) (ps : List Price) (d : ℤ) → Breaks ps d → Breaks (p ∷ ps) d
more_breaks p ps d h = (h.0, rest_in p ps h.0 h.1, h.2)

pub from_gathered : (from to d : ℤ) (ps : List Price) → Contains (flat_map (breaks_of from to) ps) d → IsWithin from to d × Breaks ps d
from_gathered from to d [] h = absurd (not_in_none d h)
from_gathered from to d (p ∷ ps) h =
    ⊎_elim
    (λ a. ⊎_elim
    (λ b. let r = from_begins from to d p.from b in (r.1, (p, first_in p ps, inl r.0)))
    (λ b. let r = from_ends from to d p.until b in (r.1, (p, first_in p ps, inr r.0)))
    (Contains-append_cases (begins_within from to p.from) (ends_within from to p.until) d a))
    (λ a. let r = from_gathered from to d ps a in (r.0, more_breaks p ps d r.1))
    (Contains-append_cases (breaks_of from to p) (flat_map (breaks_of from to) ps) d h)

onto_one : (from to d : ℤ) (p : Price) → IsWithin from to d → BreaksAt p.from p.until d → Contains (breaks_of from to p) d
onto_one from to d p w h =
    ⊎_elim
    (λ a. Contains-append_left (begins_within from to p.from) (ends_within from to p.until) d (onto_begins from to d p.from w a))
    (λ a. Contains-append_right (begins_within from to p.from) (ends_within from to p.until) d (onto_ends from to d a.0 p.until w a.1 a.2))
    h

pub onto_gathered : (from to d : ℤ) (ps : List Price) → IsWithin from to d → Breaks ps d → Contains (flat_map (breaks_of from to) ps) d
onto_gathered from to d [] w h = absurd (not_in_none h.0 h.1)
onto_gathered from to d (p ∷ ps) w h =
    ⊎_elim
    (λ a. Contains-append_left (breaks_of from to p) (flat_map (breaks_of from to) ps) d (onto_one from to d p w (subst (λ r. BreaksAt r.from r.until d) (sym a) h.2)))
    (λ a. Contains-append_right (breaks_of from to p) (flat_map (breaks_of from to) ps) d (onto_gathered from to d ps w (h.0, a, h.2)))
    (in_cons p ps h.0 h.1)

-- the days of the whole list, and of one with the same days
pub each_of : (from to : ℤ) (ps : List Price) (days : List ℤ) → ((d : ℤ) → Contains days d ↔ Contains (from ∷ flat_map (breaks_of from to) ps) d)
    → (d : ℤ) → Contains days d ↔ ((d ≡ from) ⊎ ((from <ℤ d) × (d ≤ℤ to) × Breaks ps d))
each_of from to ps days same d = (
  λ h. ⊎_elim (λ e. inl (sym e)) (λ g. let r = from_gathered from to d ps g in inr (r.0.0, r.0.1, r.1)) (in_cons from (flat_map (breaks_of from to) ps) d ((same d).0 h)),
  λ h. (same d).1 (⊎_elim
      (λ e. subst (λ z. Contains (from ∷ flat_map (breaks_of from to) ps) z) (sym e) (first_in from (flat_map (breaks_of from to) ps)))
      (λ k. rest_in from (flat_map (breaks_of from to) ps) d (onto_gathered from to d ps (k.0, k.1) k.2)) h),
)

-- no price begins, or ended on the day before, after the first day and up to the second
abbrev NoneBreaks : List Price → ℤ → ℤ → Type 0
NoneBreaks ps first day = (other : ℤ) → first <ℤ other → other ≤ℤ day → Breaks ps other → ⊥

begun_back : (first day : ℤ) (o : Option ℤ) → ((z : ℤ) → o ≡ Some z → first <ℤ z → z ≤ℤ day → ⊥) → HasBegun o day → HasBegun o first
begun_back first day None n h = tt
begun_back first day (Some z) n h = by_lt_z first z (λ lt. absurd (n z refl lt h)) (λ ge. ge)

begun_on : (first day : ℤ) (o : Option ℤ) → first ≤ℤ day → HasBegun o first → HasBegun o day
begun_on first day None l h = tt
begun_on first day (Some z) l h = omega (arith, ints)

ended_on : (first day : ℤ) (o : Option ℤ) → ((z : ℤ) → o ≡ Some z → first <ℤ (z +ℤ pos 1) → (z +ℤ pos 1) ≤ℤ day → ⊥) → HasNotEnded o first → HasNotEnded o day
ended_on first day None n h = tt
ended_on first day (Some z) n h = by_lt_z z day (λ lt. absurd (n z refl (omega (arith, ints)) (omega (arith, ints)))) (λ ge. ge)

ended_back : (first day : ℤ) (o : Option ℤ) → first ≤ℤ day → HasNotEnded o day → HasNotEnded o first
ended_back first day None l h = tt
ended_back first day (Some z) l h = omega (arith, ints)

holds_on : (o : Offer) (q : CalendarQuery) (first day : ℤ) → first ≤ℤ day → NoneBreaks o.prices first day → (p : Price) → Contains o.prices p → Holds o.market (on_day q first) p → Holds o.market (on_day q day) p
holds_on o q first day l n p m h = record {
  same_type = h.same_type;
  same_currency = h.same_currency;
  in_market = h.in_market;
  in_territory = h.in_territory;
  begun = begun_on first day p.from l h.begun;
  not_ended = ended_on first day p.until (λ z e a b. n (z +ℤ pos 1) a b (p, m, inr (z, e, refl))) h.not_ended;
  enough = h.enough;
}

holds_back : (o : Offer) (q : CalendarQuery) (first day : ℤ) → first ≤ℤ day → NoneBreaks o.prices first day → (p : Price) → Contains o.prices p → Holds o.market (on_day q day) p → Holds o.market (on_day q first) p
holds_back o q first day l n p m h = record {
  same_type = h.same_type;
  same_currency = h.same_currency;
  in_market = h.in_market;
  in_territory = h.in_territory;
  begun = begun_back first day p.from (λ z e a b. n z a b (p, m, inl e)) h.begun;
  not_ended = ended_back first day p.until l h.not_ended;
  enough = h.enough;
}

best_same : {X : Type 0} (P Q : X → Type 0) (B : X → X → Type 0) (xs : List X) (o : Option X) → ((x : X) → Contains xs x → P x → Q x) → ((x : X) → Contains xs x → Q x → P x) → IsBest P B xs o → IsBest Q B xs o
best_same P Q B xs None f g h = λ k d l q. h k d l (g (get_or xs k d) (Contains-get_or xs k d l) q)
best_same P Q B xs (Some x) f g h = (h.0, f x h.0 h.1, λ k d l q. h.2 k d l (g (get_or xs k d) (Contains-get_or xs k d l) q))

current_on : (o : Offer) (q : CalendarQuery) (first day : ℤ) → first ≤ℤ day → NoneBreaks o.prices first day → (a : Option ℕ) → IsCurrent o (on_day q first) a → IsCurrent o (on_day q day) a
current_on o q first day l n None h = best_same (Holds o.market (on_day q first)) (Holds o.market (on_day q day)) Outranks o.prices None (holds_on o q first day l n) (holds_back o q first day l n) h
current_on o q first day l n (Some a) h = (h.0, h.1, best_same (Holds o.market (on_day q first)) (Holds o.market (on_day q day)) Outranks o.prices (Some h.0) (holds_on o q first day l n) (holds_back o q first day l n) h.2)

pub steady_of : (o : Offer) (from to : ℤ) (days : List ℤ) → IsBreakDays o from to days → IsSteady o to days
steady_of o from to days b first day m l t next q =
    let start : from ≤ℤ first = ⊎_elim (λ e. omega (arith, ints)) (λ k. omega (arith, ints)) ((b.each first).0 m) in
    sym ((current_exact o (on_day q day) (current o (on_day q first))).0 (current_on o q first day l
    (λ other lt le k. let f : day <ℤ other = next other ((b.each other).1 (inr (omega (arith, ints), omega (arith, ints), k))) lt in absurd (omega (arith, ints)))
    (current o (on_day q first)) (current_is o (on_day q first))))
