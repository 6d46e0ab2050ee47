use Rattle.std.proofs.Common.{◌≡◌, List, ℕ, drop, length, map, not, nat_eq}
use Rattle.std.specs.Prelude.{All}
use Rattle.std.specs.Io.KnownBytes.{Appends}
use Rattle.series_rules.specs.Steps.{Asked, Step}
use Rattle.desk_texts.specs.Requests.{HasRecords}
use Rattle.desk_batch.specs.Talks.{Talk, ended, refusals_in}
use Rattle.program_commands.specs.Deliveries.{delivery_of}
use Rattle.program_commands.proofs.InputLemmas.{AreFollowed, names_of}
use Rattle.program_commands.proofs.deliver.deliver_files.Given as goal

-- the files so far had texts that were delivered
abbrev pub invariant-loop-name : goal.invariant-loop-name
invariant-loop-name g l = record {
  texts : List (List ℕ);
  counted : length texts ≡ l.name-index;
  follow : AreFollowed (g.F.NamedFiles.holds l.files) (g.R.Read.remaining l.fn.streams.input) (g.R.Read.remaining l.streams.input) (names_of l.fn.names) (names_of (drop l.name-index l.fn.names)) texts;
  have : All HasRecords texts;
  steps : List Step;
  text : List ℕ;
  talk : Talk (map delivery_of texts) steps text ended;
  asked : Asked g.D.Desk.seen l.precedence l.fn.desk l.desk steps;
  wrote : Appends (g.W.Write.contents l.fn.streams.output) (g.W.Write.contents l.streams.output) text;
  refused : l.has_refusal ≡ not (nat_eq (refusals_in steps) 0);
}
