use Rattle.std.proofs.Common.{◌≡◌, drop}
use Rattle.feed_terms.specs.TermsFile.{is_spaced, is_spaced_behind}
use Rattle.feed_terms.proofs.toml_terms.is_spaced.Given as goal

abbrev pub invariant-loop-byte : goal.invariant-loop-byte
invariant-loop-byte l = is_spaced l.text ≡ is_spaced_behind l.behind_space (drop l.byte-index l.text)
