-- A DOCTYPE: what is read is spelled so, what is spelled so is read, and both stay.
use Rattle.std.proofs.Common.{◌≡◌, ℕ, ◌+◌, ◌<◌, ◌≤◌, Bool, true, false, List, [], ◌∷◌, ◌++◌, length, get_or, take, drop, inl, inr, Ok, Err, refl, sym, ap, subst, ◌∙◌, add-one, drop-cons}
use Rattle.std.specs.Prelude.{not}
use Rattle.std.proofs.lemmas.Bool.{and_parts, eqb-true}
use Rattle.std.proofs.lemmas.List.{append-nil, take_more, drop_all}
use Rattle.feed_xml.specs.declared.skim.Skim.{Skim}
use Rattle.feed_xml.specs.declared.skim.Skim.TheVariants.{Outside, Quoted, Inside, InsideQuoted, Opened, Exclaimed, Dashed, Comment, CommentDash, CommentDashes, Instruction, InstructionMark}
use Rattle.feed_xml.specs.declared.stop.Stop.TheVariants.{More}
use Rattle.feed_xml.specs.Skims.{next_skim, ends_skim, is_outside, is_skimmed}
use Rattle.feed_xml.specs.Steps.{Step, ◌>>=◌, skim}
use Rattle.feed_xml.proofs.StepLaws.{bind_ok, ok_is, chosen, Stays, stays_bind, stays_if}
use Rattle.feed_xml.proofs.Runs.{with_front, regroup, no_front}

-- only outside is there an end, and it is a >
end_is : (s : Skim) (b : ℕ) → ends_skim s b ≡ true → (b ≡ 62) × (is_outside s ≡ true)
end_is Outside b h = (eqb-true b 62 h, refl)
end_is (Quoted q) b h = absurd cc
end_is Inside b h = absurd cc
end_is (InsideQuoted q) b h = absurd cc
end_is Opened b h = absurd cc
end_is Exclaimed b h = absurd cc
end_is Dashed b h = absurd cc
end_is Comment b h = absurd cc
end_is CommentDash b h = absurd cc
end_is CommentDashes b h = absurd cc
end_is Instruction b h = absurd cc
end_is InstructionMark b h = absurd cc

ends_there : (s : Skim) → is_outside s ≡ true → ends_skim s 62 ≡ true
ends_there Outside h = refl
ends_there (Quoted q) h = absurd cc
ends_there Inside h = absurd cc
ends_there (InsideQuoted q) h = absurd cc
ends_there Opened h = absurd cc
ends_there Exclaimed h = absurd cc
ends_there Dashed h = absurd cc
ends_there Comment h = absurd cc
ends_there CommentDash h = absurd cc
ends_there CommentDashes h = absurd cc
ends_there Instruction h = absurd cc
ends_there InstructionMark h = absurd cc

was_false : (b : Bool) → not b ≡ true → b ≡ false
was_false true h = absurd cc
was_false false h = refl

pub skim_takes : (s : Skim) (bytes : List ℕ) (x : List ℕ × List ℕ) → skim s bytes ≡ Ok x → (bytes ≡ x.0 ++ 62 ∷ x.1) × (is_skimmed s x.0 ≡ true)
unfolding skim
skim_takes s [] x e = absurd cc
skim_takes s (b ∷ bytes) x e =
    elim (chosen (ends_skim s b) (Ok ([], bytes)) (skim (next_skim s b) bytes >>= λ y. Ok (b ∷ y.0, y.1)) (Ok x) e) [
      | inl h ↦
          let made : List ℕ × List ℕ = ([], bytes) in
          let end_mark = end_is s b h.0 in
          subst (λ (y : List ℕ × List ℕ). (b ∷ bytes ≡ y.0 ++ 62 ∷ y.1) × (is_skimmed s y.0 ≡ true)) (ok_is made x h.1) (ap (λ (c : ℕ). c ∷ bytes) end_mark.0, end_mark.1)
      | inr h ↦
          let a = bind_ok (skim (next_skim s b) bytes) (λ y. Ok (b ∷ y.0, y.1)) x h.1 in
          let t = skim_takes (next_skim s b) bytes a.0 a.1 in
          let made : List ℕ × List ℕ = (b ∷ a.0.0, a.0.1) in
          subst (λ (y : List ℕ × List ℕ). (b ∷ bytes ≡ y.0 ++ 62 ∷ y.1) × (is_skimmed s y.0 ≡ true)) (ok_is made x a.2)
          (ap (λ (l : List ℕ). b ∷ l) t.0, rw (h.0, t.1) refl)
    ]

pub skim_again : (s : Skim) (text rest : List ℕ) → is_skimmed s text ≡ true → skim s (text ++ 62 ∷ rest) ≡ Ok (text, rest)
unfolding skim
skim_again s [] rest h = rw (ends_there s h) refl
skim_again s (b ∷ text) rest h =
    let parts = and_parts (not (ends_skim s b)) (is_skimmed (next_skim s b) text) h in
    rw (was_false (ends_skim s b) parts.0, skim_again (next_skim s b) text rest parts.1) refl

pub skim_stays : (s : Skim) (bytes more : List ℕ) → Stays more (skim s bytes) (skim s (bytes ++ more))
unfolding skim
skim_stays s [] more = tt
skim_stays s (b ∷ bytes) more =
    stays_if more (ends_skim s b) (Ok ([], bytes)) (skim (next_skim s b) bytes >>= λ y. Ok (b ∷ y.0, y.1)) (Ok ([], bytes ++ more)) (skim (next_skim s b) (bytes ++ more) >>= λ y. Ok (b ∷ y.0, y.1)) refl
    (stays_bind more (skim (next_skim s b) bytes) (skim (next_skim s b) (bytes ++ more)) (λ y. Ok (b ∷ y.0, y.1)) (skim_stays (next_skim s b) bytes more) (λ y. refl))

-- ---- as a loop reads it

pub skim_init : (bytes : List ℕ) → with_front (take 0 bytes) (skim Outside (drop 0 bytes)) ≡ skim Outside bytes
skim_init bytes = no_front (skim Outside bytes)

pub skim_more : (s : Skim) (bytes : List ℕ) (at : ℕ) (total : Step (List ℕ)) → at < length bytes → ends_skim s (get_or bytes at 0) ≡ false
    → with_front (take at bytes) (skim s (drop at bytes)) ≡ total
    → with_front (take (at + 1) bytes) (skim (next_skim s (get_or bytes at 0)) (drop (at + 1) bytes)) ≡ total
unfolding skim
skim_more s bytes at total lt goes so_far =
    let front : take (at + 1) bytes ≡ take at bytes ++ get_or bytes at 0 ∷ [] = take_more bytes at 0 lt in
    let rest : drop at bytes ≡ get_or bytes at 0 ∷ drop (at + 1) bytes = rw add-one (drop-cons bytes at 0 lt) in
    let one : with_front (take at bytes) (skim s (drop at bytes)) ≡ with_front (take (at + 1) bytes) (skim (next_skim s (get_or bytes at 0)) (drop (at + 1) bytes)) =
    rw (rest, goes, front) (regroup (take at bytes) (get_or bytes at 0) (skim (next_skim s (get_or bytes at 0)) (drop (at + 1) bytes))) in
    sym one ∙ so_far

pub skim_done : (s : Skim) (bytes : List ℕ) (at : ℕ) (total : Step (List ℕ)) → at < length bytes → ends_skim s (get_or bytes at 0) ≡ true
    → with_front (take at bytes) (skim s (drop at bytes)) ≡ total → total ≡ Ok (take at bytes, drop (at + 1) bytes)
unfolding skim
skim_done s bytes at total lt stops so_far =
    let rest : drop at bytes ≡ get_or bytes at 0 ∷ drop (at + 1) bytes = rw add-one (drop-cons bytes at 0 lt) in
    let one : skim s (drop at bytes) ≡ Ok ([], drop (at + 1) bytes) = rw (rest, stops) refl in
    sym so_far ∙ rw (one, append-nil) refl

pub skim_end : (s : Skim) (bytes : List ℕ) (at : ℕ) (total : Step (List ℕ)) → length bytes ≤ at
    → with_front (take at bytes) (skim s (drop at bytes)) ≡ total → total ≡ Err More
unfolding skim
skim_end s bytes at total le so_far =
    let one : with_front (take at bytes) (skim s (drop at bytes)) ≡ Err More = rw (drop_all at bytes le) refl in
    sym so_far ∙ one
