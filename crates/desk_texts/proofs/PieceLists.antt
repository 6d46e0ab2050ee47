-- Records that are one piece, in front of others.
use Rattle.std.proofs.Common.{arith, length, ◌≡◌, Bool, true, false, ℕ, List, [], ◌∷◌, ◌++◌, refl, ap, sym, ◌∙◌, not, append-nil, append_assoc}
use Rattle.std.specs.List.{list_all}
use Rattle.std.specs.Prelude.{if◌then◌else◌, ◌&&◌}
use Rattle.std.proofs.lemmas.List.Folds.{list_all-append}
use Rattle.desk_texts.specs.Pieces.{are_request, in_front, pieces, request_names}
use Rattle.desk_texts.specs.Records.{begins_with}
use Rattle.desk_texts.specs.Closed.{closed}

-- no record but the first begins a request
abbrev pub is_one_piece : List (List (List ℕ)) → Bool
is_one_piece [] = true
is_one_piece (row ∷ more) = list_all (λ r. not (begins_with request_names r)) more

-- nothing, or records of which the first begins a request
abbrev pub starts_anew : List (List (List ℕ)) → Bool
starts_anew [] = true
starts_anew (row ∷ more) = begins_with request_names row

-- the first piece begins with the first record
pub record FirstPiece (row : List (List ℕ)) (rest : List (List (List ℕ))) : Type 0 where
  pub more : List (List (List ℕ))
  pub others : List (List (List (List ℕ)))
  pub is : pieces (row ∷ rest) ≡ (row ∷ more) ∷ others

joined_or_not : (row : List (List ℕ)) (piece : List (List (List ℕ))) (others : List (List (List (List ℕ)))) (b : Bool) →
    (p : List (List (List ℕ))) × (os : List (List (List (List ℕ)))) × ((if b then (row ∷ []) ∷ piece ∷ others else (row ∷ piece) ∷ others) ≡ (row ∷ p) ∷ os)
joined_or_not row piece others true = ([], piece ∷ others, refl)
joined_or_not row piece others false = (piece, others, refl)

in_front_first : (row : List (List ℕ)) (ps : List (List (List (List ℕ)))) →
    (p : List (List (List ℕ))) × (os : List (List (List (List ℕ)))) × (in_front row ps ≡ (row ∷ p) ∷ os)
in_front_first row [] = ([], [], refl)
in_front_first row (piece ∷ others) = joined_or_not row piece others (are_request piece)

first_piece : (row : List (List ℕ)) (rest : List (List (List ℕ))) → FirstPiece row rest
unfolding pieces
first_piece row rest = let f = in_front_first row (pieces rest) in record { more = f.0; others = f.1; is = f.2 }

-- a record before others of which the first begins a request is a piece of its own
alone : (row : List (List ℕ)) (rest : List (List (List ℕ))) → starts_anew rest ≡ true → in_front row (pieces rest) ≡ (row ∷ []) ∷ pieces rest
unfolding pieces
alone row [] anew = refl
alone row (next ∷ rest) anew =
    let f = first_piece next rest in
    ap (in_front row) f.is
    ∙ ap (λ b. if b then (row ∷ []) ∷ (next ∷ f.more) ∷ f.others else (row ∷ next ∷ f.more) ∷ f.others) anew
    ∙ ap (λ ps. (row ∷ []) ∷ ps) (sym f.is)

not_first : (b c : Bool) → (not b && c) ≡ true → (b ≡ false) × (c ≡ true)
not_first true c h = cc
not_first false c h = (refl, h)

-- records that are one piece, before others of which the first begins a request
pub cut_behind : (piece rest : List (List (List ℕ))) → is_one_piece piece ≡ true → starts_anew rest ≡ true → pieces (piece ++ rest) ≡ closed piece ++ pieces rest
unfolding pieces
cut_behind [] rest whole anew = refl
cut_behind (row ∷ []) rest whole anew = alone row rest anew
cut_behind (row ∷ next ∷ more) rest whole anew =
    let split = not_first (begins_with request_names next) (list_all (λ r. not (begins_with request_names r)) more) whole in
    ap (in_front row) (cut_behind (next ∷ more) rest split.1 anew)
    ∙ ap (λ b. if b then (row ∷ []) ∷ (next ∷ more) ∷ pieces rest else (row ∷ next ∷ more) ∷ pieces rest) split.0

-- one more record that begins no request
pub one_piece_more : (piece : List (List (List ℕ))) (row : List (List ℕ)) → is_one_piece piece ≡ true → begins_with request_names row ≡ false → is_one_piece (piece ++ row ∷ []) ≡ true
one_piece_more [] row whole plain = refl
one_piece_more (first ∷ more) row whole plain =
    list_all-append (λ r. not (begins_with request_names r)) more (row ∷ [])
    ∙ ap (λ b. b && (not (begins_with request_names row) && true)) whole
    ∙ ap (λ b. not b && true) plain

-- the record that comes next begins a piece
pub next_begins : (cut all : List (List (List (List ℕ)))) (piece rest : List (List (List ℕ))) (row : List (List ℕ)) →
    is_one_piece piece ≡ true → begins_with request_names row ≡ true → cut ++ pieces (piece ++ row ∷ rest) ≡ all → (cut ++ closed piece) ++ pieces (row ∷ rest) ≡ all
next_begins cut all piece rest row whole begins all_is =
    append_assoc cut (closed piece) (pieces (row ∷ rest))
    ∙ ap (λ ps. cut ++ ps) (sym (cut_behind piece (row ∷ rest) whole begins))
    ∙ all_is

-- the record that comes next joins the piece
pub next_joins : (cut all : List (List (List (List ℕ)))) (piece rest : List (List (List ℕ))) (row : List (List ℕ)) →
    cut ++ pieces (piece ++ row ∷ rest) ≡ all → cut ++ pieces ((piece ++ row ∷ []) ++ rest) ≡ all
next_joins cut all piece rest row all_is = ap (λ rows. cut ++ pieces rows) (append_assoc piece (row ∷ []) rest) ∙ all_is

-- no record is left
pub none_next : (cut all : List (List (List (List ℕ)))) (piece rest : List (List (List ℕ))) →
    is_one_piece piece ≡ true → length rest ≡ 0 → cut ++ pieces (piece ++ rest) ≡ all → cut ++ closed piece ≡ all
unfolding pieces
none_next cut all piece [] whole none all_is =
    ap (λ ps. cut ++ ps) (sym (append-nil (closed piece)) ∙ sym (cut_behind piece [] whole refl)) ∙ all_is
none_next cut all piece (row ∷ rest) whole none all_is = absurd (omega arith)
