-- A run of bytes that pass, as a loop reads it.
use Rattle.std.proofs.Common.{◌≡◌, ℕ, ◌+◌, ◌<◌, ◌≤◌, Bool, true, false, ◌-◌, ◌≢◌, List, [], ◌∷◌, ◌++◌, length, get_or, take, drop, Ok, Err, refl, sym, ap, ◌∙◌, append_assoc, add-one, arith, drop-cons}
use Rattle.std.proofs.lemmas.List.{append-nil, take_more, drop_all, take_all, length-drop}
use Rattle.std.proofs.lemmas.Bool.{and_parts, eq-eqb, ne_eqb}
use Rattle.std.specs.List.{list_all}
use Rattle.feed_xml.specs.declared.classes.Kind.{Kind}
use Rattle.feed_xml.specs.Grammar.{is_filled}
use Rattle.feed_xml.specs.Kinds.{passes, first_passes}
use Rattle.feed_xml.specs.declared.stop.Stop.TheVariants.{More, Never}
use Rattle.feed_xml.specs.Steps.{Step, ◌>>=◌, run, literal, until}

-- what was read before, and what is still read
abbrev pub with_front : List ℕ → Step (List ℕ) → Step (List ℕ)
with_front front read = read >>= λ x. Ok (front ++ x.0, x.1)

pub regroup : (front : List ℕ) (b : ℕ) (read : Step (List ℕ)) → with_front front (read >>= λ x. Ok (b ∷ x.0, x.1)) ≡ with_front (front ++ b ∷ []) read
regroup front b (Ok x) = ap (λ (bs : List ℕ). Ok (bs, x.1)) (simp append_assoc)
regroup front b (Err f) = refl

pub no_front : (read : Step (List ℕ)) → with_front [] read ≡ read
no_front (Ok x) = refl
no_front (Err f) = refl

-- A run ends before the first byte that does not pass.
pub run_split : (kind : Kind) (front rest : List ℕ) → list_all (passes kind) front ≡ true → first_passes kind rest ≡ false → is_filled rest ≡ true
    → run (passes kind) (front ++ rest) ≡ Ok (front, rest)
unfolding run
run_split kind [] [] each ends some = absurd cc
run_split kind [] (b ∷ rest) each ends some = rw ends refl
run_split kind (c ∷ front) rest each ends some =
    let t = and_parts (passes kind c) (list_all (passes kind) front) each in
    rw (t.0, run_split kind front rest t.1 ends some) refl

pub run_short : (p : ℕ → Bool) (front rest : List ℕ) → list_all p front ≡ true → is_filled rest ≡ false → run p (front ++ rest) ≡ Err More
unfolding run
run_short p [] [] each none = refl
run_short p [] (b ∷ rest) each none = absurd cc
run_short p (c ∷ front) rest each none =
    let t = and_parts (p c) (list_all p front) each in
    rw (t.0, run_short p front rest t.1 none) refl

-- a slice from a place on is all of what is left
pub rest_is : (bytes : List ℕ) (at : ℕ) → take (length bytes - at) (drop at bytes) ≡ drop at bytes
rest_is bytes at = take_all (length bytes - at) (drop at bytes) (omega (arith, length-drop at bytes))

pub literal_init : (mark bytes : List ℕ) → with_front (take 0 mark) (literal (drop 0 mark) (drop 0 bytes)) ≡ literal mark bytes
literal_init mark bytes = no_front (literal mark bytes)

pub literal_more : (mark bytes : List ℕ) (at : ℕ) → at < length mark → at < length bytes → get_or bytes at 0 ≡ get_or mark at 0
    → with_front (take at mark) (literal (drop at mark) (drop at bytes)) ≡ literal mark bytes
    → with_front (take (at + 1) mark) (literal (drop (at + 1) mark) (drop (at + 1) bytes)) ≡ literal mark bytes
unfolding literal
literal_more mark bytes at lt inside same so_far =
    let front : take (at + 1) mark ≡ take at mark ++ get_or mark at 0 ∷ [] = take_more mark at 0 lt in
    let left : drop at mark ≡ get_or mark at 0 ∷ drop (at + 1) mark = rw add-one (drop-cons mark at 0 lt) in
    let rest : drop at bytes ≡ get_or bytes at 0 ∷ drop (at + 1) bytes = rw add-one (drop-cons bytes at 0 inside) in
    let one : with_front (take at mark) (literal (drop at mark) (drop at bytes)) ≡ with_front (take (at + 1) mark) (literal (drop (at + 1) mark) (drop (at + 1) bytes)) =
    rw (left, rest, eq-eqb (get_or bytes at 0) (get_or mark at 0) same, front) (regroup (take at mark) (get_or mark at 0) (literal (drop (at + 1) mark) (drop (at + 1) bytes))) in
    sym one ∙ so_far

pub literal_never : (mark bytes : List ℕ) (at : ℕ) → at < length mark → at < length bytes → get_or bytes at 0 ≢ get_or mark at 0
    → with_front (take at mark) (literal (drop at mark) (drop at bytes)) ≡ literal mark bytes → literal mark bytes ≡ Err Never
unfolding literal
literal_never mark bytes at lt inside other so_far =
    let left : drop at mark ≡ get_or mark at 0 ∷ drop (at + 1) mark = rw add-one (drop-cons mark at 0 lt) in
    let rest : drop at bytes ≡ get_or bytes at 0 ∷ drop (at + 1) bytes = rw add-one (drop-cons bytes at 0 inside) in
    let one : with_front (take at mark) (literal (drop at mark) (drop at bytes)) ≡ Err Never = rw (left, rest, ne_eqb (get_or bytes at 0) (get_or mark at 0) other) refl in
    sym so_far ∙ one

pub literal_short : (mark bytes : List ℕ) (at : ℕ) → at < length mark → length bytes ≤ at
    → with_front (take at mark) (literal (drop at mark) (drop at bytes)) ≡ literal mark bytes → literal mark bytes ≡ Err More
unfolding literal
literal_short mark bytes at lt le so_far =
    let left : drop at mark ≡ get_or mark at 0 ∷ drop (at + 1) mark = rw add-one (drop-cons mark at 0 lt) in
    let one : with_front (take at mark) (literal (drop at mark) (drop at bytes)) ≡ Err More = rw (left, drop_all at bytes le) refl in
    sym so_far ∙ one

pub literal_done : (mark bytes : List ℕ) (at : ℕ) → length mark ≤ at
    → with_front (take at mark) (literal (drop at mark) (drop at bytes)) ≡ literal mark bytes
    → literal mark bytes ≡ Ok (mark, take (length bytes - at) (drop at bytes))
unfolding literal
literal_done mark bytes at le so_far =
    let one : with_front (take at mark) (literal (drop at mark) (drop at bytes)) ≡ Ok (mark, drop at bytes) =
    rw (drop_all at mark le, take_all at mark le, append-nil mark) refl in
    rw rest_is (sym so_far ∙ one)

pub until_init : (mark bytes : List ℕ) → with_front (take 0 bytes) (until mark (drop 0 bytes)) ≡ until mark bytes
until_init mark bytes = no_front (until mark bytes)

pub until_more : (mark bytes : List ℕ) (at : ℕ) → at < length bytes → literal mark (drop at bytes) ≡ Err Never
    → with_front (take at bytes) (until mark (drop at bytes)) ≡ until mark bytes
    → with_front (take (at + 1) bytes) (until mark (drop (at + 1) bytes)) ≡ until mark bytes
unfolding until
until_more mark bytes at lt none so_far =
    let front : take (at + 1) bytes ≡ take at bytes ++ get_or bytes at 0 ∷ [] = take_more bytes at 0 lt in
    let rest : drop at bytes ≡ get_or bytes at 0 ∷ drop (at + 1) bytes = rw add-one (drop-cons bytes at 0 lt) in
    let one : with_front (take at bytes) (until mark (drop at bytes)) ≡ with_front (take (at + 1) bytes) (until mark (drop (at + 1) bytes)) =
    rw (rest, rw rest at none, front) (regroup (take at bytes) (get_or bytes at 0) (until mark (drop (at + 1) bytes))) in
    sym one ∙ so_far

pub until_found : (mark bytes : List ℕ) (at : ℕ) (x : List ℕ × List ℕ) → at < length bytes → literal mark (drop at bytes) ≡ Ok x
    → with_front (take at bytes) (until mark (drop at bytes)) ≡ until mark bytes → until mark bytes ≡ Ok (take at bytes, x.1)
unfolding until
until_found mark bytes at x lt found so_far =
    let rest : drop at bytes ≡ get_or bytes at 0 ∷ drop (at + 1) bytes = rw add-one (drop-cons bytes at 0 lt) in
    let one : until mark (drop at bytes) ≡ Ok ([], x.1) = rw (rest, rw rest at found) refl in
    sym so_far ∙ rw (one, append-nil) refl

pub until_short : (mark bytes : List ℕ) (at : ℕ) → at < length bytes → literal mark (drop at bytes) ≡ Err More
    → with_front (take at bytes) (until mark (drop at bytes)) ≡ until mark bytes → until mark bytes ≡ Err More
unfolding until
until_short mark bytes at lt short so_far =
    let rest : drop at bytes ≡ get_or bytes at 0 ∷ drop (at + 1) bytes = rw add-one (drop-cons bytes at 0 lt) in
    let one : with_front (take at bytes) (until mark (drop at bytes)) ≡ Err More = rw (rest, rw rest at short) refl in
    sym so_far ∙ one

pub until_end : (mark bytes : List ℕ) (at : ℕ) → length bytes ≤ at
    → with_front (take at bytes) (until mark (drop at bytes)) ≡ until mark bytes → until mark bytes ≡ Err More
unfolding until
until_end mark bytes at le so_far =
    let one : with_front (take at bytes) (until mark (drop at bytes)) ≡ Err More = rw (drop_all at bytes le) refl in
    sym so_far ∙ one
