-- The text of data that is sound reads as the data, and lists and objects of sound data are sound.
use Rattle.std.proofs.Common.{◌≡◌, ◌∙◌, ◌++◌, ◌∷◌, ◌≤◌, ℕ, true, false, suc, max, All, List, [], Some, ap, ap₂, append-nil, append_assoc, arith, refl, subst, sym}
use Rattle.std.specs.Prelude.{Err, Ok, OnOk, Result, codes, if◌then◌else◌, is_ok, map, option_and_then}
use Rattle.json.specs.Print.{quoted}
use Rattle.std.proofs.lemmas.List.Concat.{flat_map-append}
use Rattle.std.proofs.lemmas.List.Elements.{All-head, All-tail}
use Rattle.json.specs.Json as json
use Rattle.json.specs.Lex.{tokens}
use Rattle.json.specs.Tree as tree
use Rattle.json.proofs.Numbered.{document-HasNumbers}
use Rattle.json.proofs.Printed.Tokens.{tokens-print}
use Rattle.json.proofs.Printed.Trees.{ArePrintable-json_tokens, value-json_tokens}
use Rattle.serde_json.specs.Data.{Data, null, boolean, number, string, array, object, Items, no_items, item, Members, no_members, member, depth, items_depth, members_depth}
use Rattle.serde_json.specs.Read.{max_depth, of_items, of_json, read}
use Rattle.serde_json.specs.View.{items_of}
use Rattle.serde_json.specs.Written.{IsInOrder, compact_text, has_float, items_outline, items_text, members_outline, outline}
use Rattle.serde_json.proofs.Texts.{print-outline, tokens_from_order}
use Rattle.desk_http.specs.private.Sound.{IsSound, later_texts, offers_json}

-- its outline nests as deep
mutual
  outline_depth : (d : Data) → tree.depth (outline d) ≡ depth d
  outline_depth null = refl
  outline_depth (boolean b) = refl
  outline_depth (number n) = refl
  outline_depth (string s) = refl
  outline_depth (array ds) = ap suc (items_outline_depth ds)
  outline_depth (object ms) = ap suc (members_outline_depth ms)

  items_outline_depth : (ds : Items) → tree.items_depth (items_outline ds) ≡ items_depth ds
  items_outline_depth no_items = refl
  items_outline_depth (item d ds) = ap₂ max (outline_depth d) (items_outline_depth ds)

  members_outline_depth : (ms : Members) → tree.members_depth (members_outline ms) ≡ members_depth ms
  members_outline_depth no_members = refl
  members_outline_depth (member k d ms) = ap₂ max (outline_depth d) (members_outline_depth ms)

-- tokens that are those of the outline are read as it
parsed : (d : Data) (text : List ℕ) (n : ℕ) → tokens text ≡ tree.json_tokens (outline d) → depth d ≤ n
    → option_and_then (λ p. json.if_last p.0 p.1) (json.value n (tokens text)) ≡ Some (outline d)
parsed d text n are shallow =
    ap (option_and_then (λ p. json.if_last p.0 p.1))
    (ap (json.value n) (are ∙ sym (append-nil (tree.json_tokens (outline d))))
    ∙ value-json_tokens (outline d) n [] (subst (λ m. m ≤ n) (sym (outline_depth d)) shallow))

-- data that was read of its text
pub sound_of : (d : Data) (text : List ℕ) → IsInOrder text d → has_float d ≡ false → depth d ≤ max_depth → read text ≡ Some d → IsSound d
sound_of d text order whole shallow reads =
    let are = tokens_from_order text d order whole in (
      document-HasNumbers text (outline d) (parsed d text json.max_depth are (omega (arith, shallow))),
      sym (ap (option_and_then of_json) (parsed d text max_depth are shallow)) ∙ reads,
    )

-- sound data is read of its text
pub sound_reads : (d : Data) → IsSound d → depth d ≤ max_depth → read (compact_text d) ≡ Some d
sound_reads d sound shallow =
    let are = ap tokens (sym (print-outline d)) ∙ tokens-print (tree.json_tokens (outline d)) (ArePrintable-json_tokens (outline d) sound.0) in
    ap (option_and_then of_json) (parsed d (compact_text d) max_depth are shallow) ∙ sound.1

-- a list of sound data
pub list_sound : {A : Type 0} (f : A → Data) (xs : List A) → All (λ x. IsSound (f x)) xs
    → tree.ItemsHaveNumbers (items_outline (items_of (map f xs))) × (of_items (items_outline (items_of (map f xs))) ≡ Some (items_of (map f xs)))
list_sound f [] all = (tt, refl)
list_sound f (x ∷ xs) all =
    let first = All-head (λ y. IsSound (f y)) x xs all in
    let rest = list_sound f xs (All-tail (λ y. IsSound (f y)) x xs all) in
    ((first.0, rest.0), rw (first.1, rest.1) refl)

-- an answer with a list of sound data
pub offers_sound : {A : Type 0} (f : A → Data) (answer isbn : List ℕ) (xs : List A) → All (λ x. IsSound (f x)) xs → IsSound (offers_json answer isbn (array (items_of (map f xs))))
offers_sound f answer isbn xs all =
    let list = list_sound f xs all in
    ((tt, (tt, (list.0, tt))), rw list.1 refl)

-- one item more
pub one_more_text : {A : Type 0} (f : A → Data) (xs : List A) (x : A) → later_texts f (xs ++ x ∷ []) ≡ later_texts f xs ++ 44 ∷ compact_text (f x)
one_more_text f xs x = flat_map-append (λ y. 44 ∷ compact_text (f y)) xs (x ∷ []) ∙ ap (λ t. later_texts f xs ++ 44 ∷ t) (append-nil (compact_text (f x)))

-- the text of items behind the first
pub later_items : {A : Type 0} (f : A → Data) (xs : List A) → items_text true (items_of (map f xs)) ≡ later_texts f xs ++ 93 ∷ []
later_items f [] = refl
later_items f (x ∷ xs) = ap (λ t. 44 ∷ (compact_text (f x) ++ t)) (later_items f xs) ∙ ap (λ t. 44 ∷ t) (sym (append_assoc (compact_text (f x)) (later_texts f xs) (93 ∷ [])))

pub on_ok : {T E : Type 0} (r : Result T E) {P : Type 0} → P → OnOk r P
on_ok (Ok x) p = p
on_ok (Err e) p = tt

pub on_ok_bytes : {T E : Type 0} (r : Result T E) (new old more want : List ℕ) → new ≡ (if is_ok r then old ++ more else old) → old ++ more ≡ want → OnOk r (new ≡ want)
on_ok_bytes (Ok x) new old more want is all = is ∙ all
on_ok_bytes (Err e) new old more want is all = tt

shape : (q a r i s items : List ℕ) → (((((((([] ++ (123 ∷ (q ++ 58 ∷ []))) ++ a) ++ (44 ∷ (r ++ 58 ∷ []))) ++ i) ++ (44 ∷ (s ++ 58 ∷ []))) ++ 91 ∷ []) ++ items) ++ 125 ∷ [])
    ≡ 123 ∷ (q ++ 58 ∷ (a ++ 44 ∷ (r ++ 58 ∷ (i ++ 44 ∷ (s ++ 58 ∷ 91 ∷ (items ++ 125 ∷ []))))))
shape q a r i s items = simp append_assoc

-- the text of an answer that is written piece by piece
pub offers_written : (answer isbn : List ℕ) (offers : Items) (t u v w x y z l all : List ℕ) → t ≡ [] → u ≡ t ++ (123 ∷ (quoted (codes "answer") ++ 58 ∷ [])) → v ≡ u ++ quoted answer
    → w ≡ v ++ (44 ∷ (quoted (codes "isbn") ++ 58 ∷ [])) → x ≡ w ++ quoted isbn → y ≡ x ++ (44 ∷ (quoted (codes "offers") ++ 58 ∷ [])) → z ≡ y ++ 91 ∷ [] → l ≡ z ++ items_text false offers
    → all ≡ l ++ 125 ∷ [] → all ≡ compact_text (offers_json answer isbn (array offers))
offers_written answer isbn offers t u v w x y z l all a b c d e f g h i =
    let key : List ℕ → List ℕ = λ k. quoted k ++ 58 ∷ [] in
    let w_is = d ∙ ap (λ s. s ++ (44 ∷ key (codes "isbn"))) (c ∙ ap (λ s. s ++ quoted answer) (b ∙ ap (λ s. s ++ (123 ∷ key (codes "answer"))) a)) in
    let z_is = g ∙ ap (λ s. s ++ 91 ∷ []) (f ∙ ap (λ s. s ++ (44 ∷ key (codes "offers"))) (e ∙ ap (λ s. s ++ quoted isbn) w_is)) in
    i ∙ ap (λ s. s ++ 125 ∷ []) (h ∙ ap (λ s. s ++ items_text false offers) z_is)
    ∙ shape (quoted (codes "answer")) (quoted answer) (quoted (codes "isbn")) (quoted isbn) (quoted (codes "offers")) (items_text false offers)
