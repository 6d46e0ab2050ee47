-- What a read of a record does to the records that a reader has left.
use Rattle.std.proofs.Common.{Bor, ◌≡◌, ◌+◌, ◌∷◌, ◌∙◌, [], ℕ, suc, List, Option, Some, None, length, refl, ap, arith, true, false, inl}
use Rattle.std.specs.Prelude.{IsSome}
use Rattle.csv.specs.Machine.{Read, ends_at_end, next_record}
use Rattle.csv.specs.Reading.{NextIs, ReadRecord, ReadsNext, default_config, records_from, took_first}
use Rattle.csv.specs.declared.parser.State.{State}
use Rattle.csv.specs.declared.reader.Reader.{Reader}
use Rattle.csv_records.specs.ReaderStage.{IsBetween, bytes_left, records_after}
use Rattle.csv_records.proofs.RecordsAre.{bounds-agree, next-leaves, next-shorter, none-at-end}

-- a bound of the form that computes
one-more : (s : State) (xs : List ℕ) → ends_at_end s ≡ false → records_after s (Some xs) ≡ records_from default_config (suc (length xs)) s xs
one-more s xs ended = bounds-agree (length xs + 1) (suc (length xs)) s xs (omega arith) (omega arith) ended

next-found : (s s2 : State) (xs ys : List ℕ) (f : List (List ℕ)) (o : Option Read) → ends_at_end s ≡ false → next_record default_config s [] [] xs ≡ o → NextIs o true f s2 ys
    → (ends_at_end s2 ≡ false) × (records_after s (Some xs) ≡ f ∷ records_after s2 (Some ys))
unfolding records_from
next-found s s2 xs ys f None ended e r = cc r
next-found s s2 [] ys f (Some p) ended e r = cc (none-at-end s ended, e)
next-found s s2 (c ∷ xs) ys f (Some p) ended e r =
    let left = next-leaves s [] [] (c ∷ xs) p e in
    let less = next-shorter s c xs p e in
    let rest = bounds-agree (length (c ∷ xs)) (length p.2 + 1) p.1 p.2 (omega (arith, less)) (omega arith) left.0 in
    rw (r.1, r.2, r.3) (left.0, one-more s (c ∷ xs) ended ∙ rw e (ap (λ (more : List (List (List ℕ))). p.0 ∷ more) rest))

source-found : (s s2 : State) (o k : Option (List ℕ)) (f : List (List ℕ)) → IsSome o → ends_at_end s ≡ false → ReadsNext default_config s o k true f s2
    → IsSome k × (ends_at_end s2 ≡ false) × (records_after s o ≡ f ∷ records_after s2 k)
source-found s s2 None k f known ended r = cc known
source-found s s2 (Some xs) None f known ended r = absurd r
source-found s s2 (Some xs) (Some ys) f known ended r =
    let g = next-found s s2 xs ys f (next_record default_config s [] [] xs) ended refl r in
    (refl, g.0, g.1)

-- a read that found a record took the first of those that were left
pub read-found : (a b : Reader (Bor (List ℕ))) (f : List (List ℕ)) → IsBetween a → ReadRecord (λ text. Some text.now) a b true f → took_first b ≡ true
    → IsBetween b × (records_after a.state (bytes_left a) ≡ f ∷ records_after b.state (bytes_left b))
read-found a b f h r first =
    let g = source-found a.state b.state (bytes_left a) _ f h.known h.ended (rw h.config at r.0) in
    (record { trim = r.3 ∙ h.trim; ready = inl first; config = r.2 ∙ h.config; known = rw r.1 g.0; ended = g.1 }, rw r.1 g.2)

next-ended : (s s2 : State) (xs ys : List ℕ) (f : List (List ℕ)) (o : Option Read) → ends_at_end s ≡ false → next_record default_config s [] [] xs ≡ o → NextIs o false f s2 ys
    → records_after s (Some xs) ≡ []
unfolding records_from
next-ended s s2 xs ys f None ended e r = one-more s xs ended ∙ rw e refl
next-ended s s2 xs ys f (Some p) ended e r = cc r.0

source-ended : (s s2 : State) (o k : Option (List ℕ)) (f : List (List ℕ)) → ends_at_end s ≡ false → ReadsNext default_config s o k false f s2 → records_after s o ≡ []
source-ended s s2 None k f ended r = refl
source-ended s s2 (Some xs) None f ended r = absurd r
source-ended s s2 (Some xs) (Some ys) f ended r = next-ended s s2 xs ys f (next_record default_config s [] [] xs) ended refl r

-- a read that found none left none behind
pub read-ended : (a b : Reader (Bor (List ℕ))) (f : List (List ℕ)) → IsBetween a → ReadRecord (λ text. Some text.now) a b false f
    → records_after a.state (bytes_left a) ≡ []
read-ended a b f h r = source-ended a.state b.state (bytes_left a) _ f h.ended (rw h.config at r.0)
