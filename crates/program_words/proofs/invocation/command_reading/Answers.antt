use Rattle.std.proofs.Common.{codes, refl, sym}
use Rattle.program_words.specs.Words.{words_in}
use Rattle.program_words.proofs.invocation.command_reading.Goals as goal

pub returns-in-Some : goal.returns-in-Some
returns-in-Some c = c.send_reading.ensures (words_in c.args.matches.now) (words_in c.args.words.now) (sym c.in-Some.ensures)

pub returns-in-agreements : goal.returns-in-agreements
returns-in-agreements c = rw c.in-agreements.is (c.listing_reading.ensures (codes "agreements") (words_in c.args.words.now) refl (sym c.in_default.ensures))

pub returns-in-batch : goal.returns-in-batch
returns-in-batch c = rw c.in-batch.is (c.task_reading.ensures (codes "batch") (words_in c.args.words.now) refl (sym c.in_default.ensures))

pub returns-in-export : goal.returns-in-export
returns-in-export c = rw c.in-export.is (c.listing_reading-in-export.ensures (codes "export") (words_in c.args.words.now) refl (sym c.in_default.ensures))

pub returns-in-check : goal.returns-in-check
returns-in-check c = rw c.in-check.is (c.check_reading.ensures (words_in c.args.matches.now) (sym c.in_default.ensures))

pub returns-in-convert : goal.returns-in-convert
returns-in-convert c = rw c.in-convert.is (c.convert_reading.ensures (words_in c.args.matches.now) (sym c.in_default.ensures))

pub returns-in-deliver : goal.returns-in-deliver
returns-in-deliver c = rw c.in-deliver.is (c.deliver_reading.ensures (sym c.in_default.ensures))

pub returns-in-gaps : goal.returns-in-gaps
returns-in-gaps c = rw c.in-gaps.is (c.gaps_reading.ensures (sym c.in_default.ensures))

pub returns-in-migrate : goal.returns-in-migrate
returns-in-migrate c = rw c.in-migrate.is (c.migrate_reading.ensures (words_in c.args.words.now) (sym c.in_default.ensures))

pub returns-in-rules : goal.returns-in-rules
returns-in-rules c = rw c.in-rules.is (c.rules_reading.ensures (words_in c.args.matches.now) (sym c.in_default.ensures))

pub returns-in-serve : goal.returns-in-serve
returns-in-serve c = rw c.in-serve.is (c.serve_reading.ensures (sym c.in_default.ensures))

pub returns-in-terms : goal.returns-in-terms
returns-in-terms c = rw c.in-terms.is (c.terms_reading.ensures (words_in c.args.matches.now) (sym c.in_default.ensures))
