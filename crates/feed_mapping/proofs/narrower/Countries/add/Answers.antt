use Rattle.std.proofs.Common.{◌≡◌, ◌||◌, ◌∷◌, ◌∙◌, [], true, false, refl, ap, sym, arith}
use Rattle.std.specs.Prelude.{is_some}
use Rattle.std.specs.BTreeMap.{get_by_text}
use Rattle.std.specs.List.{list_any}
use Rattle.std.specs.Str.{bytes_eq}
use Rattle.std.proofs.lemmas.List.Folds.{list_any-append}
use Rattle.std.proofs.lemmas.Map.Text.{text_keys}
use Rattle.feed_mapping.proofs.ElementLaws.{or-false}
use Rattle.feed_mapping.proofs.narrower.Countries.add.Goals as goal

pub returns-then-has-clause-found : goal.returns-then-has-clause-found
returns-then-has-clause-found c = λ seen.
    let is : list_any (bytes_eq c.args.country) c.args.self.now.found ≡ true = let has = c.has.ensures seen in cc in
    rw is refl

pub returns-clause-found : goal.returns-clause-found
returns-clause-found c = λ seen.
    let is : list_any (bytes_eq c.args.country) c.args.self.now.found ≡ false = let has = c.has.ensures seen in cc in
    rw is c.in_ok-push.ensures.ok

pub returns-clause-seen : goal.returns-clause-seen
returns-clause-seen c = λ seen text.
    let found = c.args.self.now.found in
    let country = c.args.country in
    let put : is_some (get_by_text c.insert.new.self text) ≡ (is_some (get_by_text c.args.self.now.seen text) || bytes_eq text country) = grind (arith, text_keys) in
    put ∙ ap (λ b. b || bytes_eq text country) (seen text)
    ∙ ap (λ b. list_any (bytes_eq text) found || b) (sym (or-false (bytes_eq text country)))
    ∙ sym (list_any-append (bytes_eq text) found (country ∷ []))
    ∙ ap (list_any (bytes_eq text)) (sym c.in_ok-push.ensures.ok)
