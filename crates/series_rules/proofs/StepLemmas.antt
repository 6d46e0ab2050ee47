-- What follows of a trace, for every list that the desk stood for.
use Rattle.std.proofs.Common.{◌≡◌, ◌⊎◌, ◌||◌, zero, suc, Bool, true, false, List, [], ◌∷◌, Ok, Err, inl, inr, refl, sym, subst, arith, cond}
use Rattle.std.specs.Prelude.{All, Contains, IfErr, Result, is_err}
use Rattle.std.proofs.lemmas.List.Elements.{All-nil, All-cons, All-head, All-tail}
use Rattle.onix_records.specs.declared.faults.StoreFault.{StoreFault}
use Rattle.price_rules.specs.declared.precedence.Rule.{Rule}
use Rattle.series_rules.proofs.LawProofs.{by_content_alone}
use Rattle.series_rules.proofs.Questions.{unchanged}
use Rattle.series_rules.proofs.TraceLemmas.{trace_premise}
use Rattle.series_rules.specs.Answers.{answer_to}
use Rattle.series_rules.specs.Changes.{changes, is_question}
use Rattle.series_rules.specs.Content.{SameContent, same_trans}
use Rattle.series_rules.specs.Steps.{Asked, ChangeNothing, Follows, HasAll, Step, TracesLead, has_change, in_doubt, with_answered}
use Rattle.series_rules.specs.Views.{Asks, DeskKind, IsFaultOf, Stays, View}
use Rattle.series_rules.specs.declared.answers.Answer.{Answer}
use Rattle.series_rules.specs.declared.requests.Request.{Request}

same_refl : (L : List Request) → SameContent L L
same_refl L = record { agreements = λ name. refl; firsts = λ series number. refl }

or_left : (a b : Bool) → (a || b) ≡ false → a ≡ false
or_left false b is = refl
or_left true b is = is

or_right : (a b : Bool) → (a || b) ≡ false → b ≡ false
or_right false b is = is
or_right true b is = absurd cc

or_false : (a b : Bool) → a ≡ false → b ≡ false → (a || b) ≡ false
or_false false b one two = two
or_false true b one two = absurd cc

-- where no answer changed something, the list with the answered requests comes to the same
pub unchanged_all : (L : List Request) (steps : List Step) → has_change L steps ≡ false → SameContent L (with_answered L steps)
unchanged_all L [] is = same_refl L
unchanged_all L ((r, Ok a) ∷ steps) is =
    same_trans L (r ∷ L) (with_answered (r ∷ L) steps) (unchanged L r (or_left (changes L r) (has_change (r ∷ L) steps) is))
    (unchanged_all (r ∷ L) steps (or_right (changes L r) (has_change (r ∷ L) steps) is))
unchanged_all L ((r, Err f) ∷ steps) is = unchanged_all L steps is

-- one place further
further : (xs : List Request) (q r : Request) → Contains xs r → Contains (q ∷ xs) r
further xs q r (k, few, is) = (suc k, omega (arith, few), is)

module _ (k : DeskKind) (rules : List Rule) where
  -- one more in doubt, or none of them
  pub more_doubted : (kept doubted : List Request) (r : Request) (b : Bool) (x : k.Left) → HasAll k kept doubted x → HasAll k kept (cond b doubted (r ∷ doubted)) x
  more_doubted kept doubted r true x is = is
  more_doubted kept doubted r false x (inl is) = inl is
  more_doubted kept doubted r false x (inr (q, among, is)) = inr (q, further doubted r q among, is)

  -- the request that had the fault, behind which nothing changed
  first_doubted : (L : List Request) (r : Request) (steps : List Step) (b : Bool) → b ≡ false → has_change L steps ≡ false → (x : k.Left) → k.comes_to x (r ∷ L)
      → HasAll k (with_answered L steps) (cond b (in_doubt L steps) (r ∷ in_doubt L steps)) x
  first_doubted L r steps true none is x came = absurd cc
  first_doubted L r steps false none is x came =
      inr (r, (zero, omega arith, refl), k.by_content x (r ∷ L) (r ∷ with_answered L steps) (by_content_alone rules L (with_answered L steps) r (unchanged_all L steps is)).1 came)

module _ {D : Type 0} {k : DeskKind} (seen : D → View k) (rules : List Rule) where
  answered_left : (L : List Request) (r : Request) (a : Answer) (steps : List Step) (old next : D) → (seen old).stands_for L → (seen next).sound → Asks r (λ M. answer_to rules M r) (seen old) (seen next) (Ok a)
      → (x : k.Left) → has_change (r ∷ L) steps ≡ false → (seen next).may_leave x
      → HasAll k (with_answered (r ∷ L) steps) (in_doubt (r ∷ L) steps) x ⊎ (((changes L r || has_change (r ∷ L) steps) ≡ false) × (seen old).may_leave x)
  answered_left L r a steps old next stands sound asked x same may = by (changes L r) refl
    where
      came : k.comes_to x (r ∷ L) → k.comes_to x (with_answered (r ∷ L) steps)
      came is = k.by_content x (r ∷ L) (with_answered (r ∷ L) steps) (unchanged_all (r ∷ L) steps same) is

      went : changes L r ≡ false → (seen old).may_leave x ⊎ ((is_question r ≡ false) × k.comes_to x (r ∷ L)) → HasAll k (with_answered (r ∷ L) steps) (in_doubt (r ∷ L) steps) x ⊎ (((changes L r || has_change (r ∷ L) steps) ≡ false) × (seen old).may_leave x)
      went same_now (inl before) = inr (or_false (changes L r) (has_change (r ∷ L) steps) same_now same, before)
      went same_now (inr with_it) = inl (inl (came with_it.1))

      by : (b : Bool) → changes L r ≡ b → HasAll k (with_answered (r ∷ L) steps) (in_doubt (r ∷ L) steps) x ⊎ (((changes L r || has_change (r ∷ L) steps) ≡ false) × (seen old).may_leave x)
      by true did = inl (inl (came (asked.changed L stands sound did x may)))
      by false same_now = went same_now (asked.crash L stands sound x may)

  faulted_left : (L : List Request) (r : Request) (f : StoreFault) (steps : List Step) (old next : D) → (seen old).stands_for L → (seen next).sound → Asks {A = Answer} r (λ M. answer_to rules M r) (seen old) (seen next) (Err f)
      → (x : k.Left) → has_change L steps ≡ false → (seen next).may_leave x
      → HasAll k (with_answered L steps) (in_doubt L ((r, Err f) ∷ steps)) x ⊎ ((has_change L steps ≡ false) × (seen old).may_leave x)
  faulted_left L r f steps old next stands sound asked x same may = went (asked.crash L stands sound x may)
    where
      went : (seen old).may_leave x ⊎ ((is_question r ≡ false) × k.comes_to x (r ∷ L)) → HasAll k (with_answered L steps) (in_doubt L ((r, Err f) ∷ steps)) x ⊎ ((has_change L steps ≡ false) × (seen old).may_leave x)
      went (inl before) = inr (same, before)
      went (inr with_it) = inl (first_doubted k rules L r steps (has_change L steps || is_question r) (or_false (has_change L steps) (is_question r) same with_it.0) same x with_it.1)

  -- of every list
  pub follows : (steps : List Step) (old new : D) → Asked seen rules old new steps → (L : List Request) → (seen old).stands_for L → (seen new).sound → Follows rules L steps (seen old) (seen new)
  follows [] old new same L stands sound = record {
    answers = tt;
    stands = subst (λ d. (seen d).stands_for L) (sym same) stands;
    left = λ x may. inr (refl, subst (λ d. (seen d).may_leave x) same may);
  }
  follows ((r, Ok a) ∷ steps) old new (next, asked, rest) L stands sound =
      let mid = trace_premise seen rules steps next new rest sound in
      let done = asked.ok L stands mid in
      let then = follows steps next new rest (r ∷ L) done.1 sound in
      record {
        answers = (done.0, then.answers);
        stands = then.stands;
        left = λ x may. go mid x (then.left x may);
      }
    where
      go : (seen next).sound → (x : k.Left) → HasAll k (with_answered (r ∷ L) steps) (in_doubt (r ∷ L) steps) x ⊎ ((has_change (r ∷ L) steps ≡ false) × (seen next).may_leave x)
          → HasAll k (with_answered (r ∷ L) steps) (in_doubt (r ∷ L) steps) x ⊎ (((changes L r || has_change (r ∷ L) steps) ≡ false) × (seen old).may_leave x)
      go mid x (inl has) = inl has
      go mid x (inr left) = answered_left L r a steps old next stands mid asked x left.0 left.1
  follows ((r, Err f) ∷ steps) old new (next, asked, rest) L stands sound =
      let mid = trace_premise seen rules steps next new rest sound in
      let then = follows steps next new rest L (asked.err L stands mid) sound in
      record {
        answers = then.answers;
        stands = then.stands;
        left = λ x may. go mid x (then.left x may);
      }
    where
      go : (seen next).sound → (x : k.Left) → HasAll k (with_answered L steps) (in_doubt L steps) x ⊎ ((has_change L steps ≡ false) × (seen next).may_leave x)
          → HasAll k (with_answered L steps) (in_doubt L ((r, Err f) ∷ steps)) x ⊎ ((has_change L steps ≡ false) × (seen old).may_leave x)
      go mid x (inl has) = inl (more_doubted k rules (with_answered L steps) (in_doubt L steps) r (has_change L steps || is_question r) x has)
      go mid x (inr left) = faulted_left L r f steps old next stands mid asked x left.0 left.1

  stays : (steps : List Step) (old new : D) → Asked seen rules old new steps → All (λ s. is_question s.0 ≡ true) steps → (seen new).sound → Stays (seen old) (seen new)
  stays [] old new same are sound = subst (λ d. Stays (seen old) (seen d)) (sym same) (λ x. (λ held. held, λ may. may))
  stays (s ∷ steps) old new (next, asked, rest) are sound =
      let first = asked.question (All-head (λ s. is_question s.0 ≡ true) s steps are) (trace_premise seen rules steps next new rest sound) in
      let then = stays steps next new rest (All-tail (λ s. is_question s.0 ≡ true) s steps are) sound in
      λ x. (λ held. (then x).0 ((first x).0 held), λ may. (first x).1 ((then x).1 may))

  -- one step that changes nothing
  holds_one : (r : Request) (o : Result Answer StoreFault) (old next : D) → Asks r (λ L. answer_to rules L r) (seen old) (seen next) o → (seen next).sound → (is_question r ≡ true) ⊎ (is_err o ≡ true) → (x : k.Left) → (seen old).holds x → (seen next).holds x
  holds_one r o old next asked sound (inl asks) x is = (asked.question asks sound x).0 is
  holds_one r (Ok a) old next asked sound (inr failed) x is = absurd cc
  holds_one r (Err f) old next asked sound (inr failed) x is = asked.undone sound x is

  held : (steps : List Step) (old new : D) → Asked seen rules old new steps → ChangeNothing steps → (seen new).sound → (x : k.Left) → (seen old).holds x → (seen new).holds x
  held [] old new same are sound x is = subst (λ d. (seen d).holds x) (sym same) is
  held (s ∷ steps) old new (next, asked, rest) are sound x is =
      let unchanging : Step → Type 0 = λ s. (is_question s.0 ≡ true) ⊎ (is_err s.1 ≡ true) in
      held steps next new rest (All-tail unchanging s steps are) sound x
      (holds_one s.0 s.1 old next asked (trace_premise seen rules steps next new rest sound) (All-head unchanging s steps are) x is)

  faults : (steps : List Step) (old new : D) → Asked seen rules old new steps → All (λ s. IfErr s.1 (IsFaultOf k)) steps
  faults [] old new same = All-nil (λ (s : Step). IfErr s.1 (IsFaultOf k))
  faults (s ∷ steps) old new (next, asked, rest) = All-cons (λ (s : Step). IfErr s.1 (IsFaultOf k)) s steps asked.fault (faults steps next new rest)

  pub traces_lead : TracesLead seen rules
  traces_lead = λ steps old new trace. record {
    premise = trace_premise seen rules steps old new trace;
    follows = follows steps old new trace;
    questions = λ are sound x may. (stays steps old new trace are sound x).1 may;
    held = held steps old new trace;
    faults = faults steps old new trace;
  }
