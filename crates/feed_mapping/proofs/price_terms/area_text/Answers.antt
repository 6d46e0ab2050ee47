use Rattle.std.proofs.Common.{◌≡◌, ◌+◌, ◌∙◌, ℕ, List, [], ◌∷◌, ◌++◌, drop, ap, sym, append_assoc}
use Rattle.feed_mapping.specs.PriceTerms.{area_text}
use Rattle.feed_mapping.specs.Records.{Fields}
use Rattle.feed_mapping.proofs.ElementLaws.{from-item}
use Rattle.feed_mapping.proofs.price_terms.area_text.Goals as goal

one-field : (text field rest : List ℕ) → ((text ++ field) ++ 44 ∷ []) ++ rest ≡ text ++ ((field ++ 44 ∷ []) ++ rest)
one-field text field rest = ap (λ (k : List ℕ). k ++ rest) (append_assoc text field (44 ∷ [])) ∙ append_assoc text (field ++ 44 ∷ []) rest

pub loop-place-preserved : goal.loop-place-preserved
loop-place-preserved c =
    let fields = c.args.fields.now in
    let place = c.loop-place.place in
    let text = c.loop-place.text in
    let field = c.at.result.now in
    let rest = area_text (drop (place + 1) fields) in
    ap (λ (k : List ℕ). k ++ rest) (c.in_ok-push_str-2.ensures.ok ∙ ap (λ (k : List ℕ). k ++ 44 ∷ []) c.in_ok-push_str.ensures.ok)
    ∙ one-field text field rest ∙ ap (λ (fs : Fields). text ++ area_text fs) (sym (from-item fields place field c.at.ensures)) ∙ c.loop-place.invariant
