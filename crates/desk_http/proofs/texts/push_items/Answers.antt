use Rattle.std.proofs.Common.{◌≡◌, ◌∙◌, ◌++◌, ◌∷◌, ◌+◌, [], All, add-one, ap, append_assoc, arith, length, subst, sym, take}
use Rattle.std.proofs.Math.Seq.{take-length, take-suc}
use Rattle.std.proofs.lemmas.List.Elements.{All-push}
use Rattle.std.specs.String.{string_bytes}
use Rattle.serde_json.specs.View.{items_of}
use Rattle.serde_json.specs.Written.{compact_text, items_text}
use Rattle.std.specs.Prelude.{false, map}
use Rattle.desk_http.specs.private.Sound.{IsSound, later_texts}
use Rattle.desk_http.proofs.Sound.{later_items, on_ok_bytes, one_more_text}
use Rattle.desk_http.proofs.texts.push_items.Goals as goal

pub loop-item-preserved : goal.loop-item-preserved
loop-item-preserved g c =
    let f = g.T.ToJson.json_of in
    let rest = c.in-Some.rest.now in
    let i = c.loop-item.item-index in
    let x = c.item-item.result in
    let old = string_bytes c.push_item.new.text in
    let more : take (i + 1) rest ≡ take i rest ++ x ∷ [] =
    ap (λ n. take n rest) (add-one i) ∙ take-suc rest i x c.loop-item-test.true ∙ ap (λ y. take i rest ++ y ∷ []) (sym c.item-item.is) in
    let pushed = c.in_ok-push_item-2.ensures in (
      pushed.text ∙ ap (λ t. t ++ (44 ∷ compact_text (f x))) c.loop-item.invariant.0 ∙ append_assoc old (later_texts f (take i rest)) (44 ∷ compact_text (f x))
          ∙ ap (λ t. old ++ t) (sym (one_more_text f (take i rest) x)) ∙ ap (λ l. old ++ later_texts f l) (sym more),
      subst (All (λ y. IsSound (f y))) (sym more) (All-push (λ y. IsSound (f y)) (take i rest) x c.loop-item.invariant.1 pushed.sound),
    )

pub returns-clause-text : goal.returns-clause-text
returns-clause-text g c =
    let f = g.T.ToJson.json_of in
    let before = string_bytes c.args.text.now in
    let first = compact_text (f c.in-Some.first.now) in
    let rest = c.in-Some.rest.now in
    let later = later_texts f rest in
    let at_end : c.loop-item.item-index ≡ length rest = omega (arith, c.loop-item.auto.item-index-end, c.loop-item-test.false) in
    let whole : take c.loop-item.item-index rest ≡ rest = ap (λ n. take n rest) at_end ∙ take-length rest in
    let text : string_bytes c.loop-item.text ≡ (before ++ first) ++ later =
    c.loop-item.invariant.0 ∙ ap (λ l. string_bytes c.push_item.new.text ++ later_texts f l) whole ∙ ap (λ t. t ++ later) c.in_ok-push_item.ensures.text in
    let want = before ++ items_text false (items_of (map f c.args.items.now)) in
    on_ok_bytes c.push_str-2.result (string_bytes c.push_str-2.new.self) (string_bytes c.loop-item.text) (93 ∷ []) want c.push_str-2.ensures.bytes
    (ap (λ t. t ++ 93 ∷ []) text ∙ append_assoc (before ++ first) later (93 ∷ []) ∙ append_assoc before first (later ++ 93 ∷ []) ∙ ap (λ t. before ++ (first ++ t)) (sym (later_items f rest))
    ∙ ap (λ l. before ++ items_text false (items_of (map f l))) (sym c.in-Some.ensures.cases.0))
