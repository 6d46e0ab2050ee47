use Rattle.std.proofs.Common.{ℕ, List, ◌∙◌, ap}
use Rattle.std.specs.Str.{bytes_eq}
use Rattle.onix_message.proofs.contents.has_text.Goals as goal

pub returns : goal.returns
returns c = c.eq.ensures ∙ ap (λ (t : List ℕ). bytes_eq t c.args.text.now) (c.as_str.ensures.value ∙ c.in_ok-own.ensures)
