use Rattle.std.proofs.lemmas.Str.{IsUtf8-append}
use Rattle.onix_terms.proofs.text.Text.push_str.Goals as goal

pub invariant_of-self-2 : goal.invariant_of-self-2
invariant_of-self-2 c = rw (c.in_ok-extend_from_slice.ensures.ok, c.as_bytes.ensures.value) (IsUtf8-append _ _ c.self.invariant c.utf8.more)
