use Rattle.std.proofs.Common.{◌≡◌, ◌++◌, take}
use Rattle.std.specs.Prelude.{string_bytes}
use Rattle.watched_output.specs.Shown.{shown_chars}
use Rattle.watched_output.proofs.shown_texts.push_chars.Given as goal

abbrev pub invariant-loop-c : goal.invariant-loop-c
invariant-loop-c l =
    string_bytes l.line ≡ string_bytes l.initial.line ++ shown_chars (take l.c-index l.characters)
