use Rattle.desk_memory.specs.contracts.desk.MemoryDeskDesk.TheImpl.{ghosts}
use Rattle.program_run.proofs.KindLemmas.{kinds}
use Rattle.program_run.proofs.program.run.Goals as goal

pub returns-clause-batch : goal.returns-clause-batch
returns-clause-batch g c = (kinds ghosts.seen g.K.KeepsDesks.files g.F.NamedFiles.holds g.F.NamedFiles.lacks_folder g.W.Write.contents g.R.Read.remaining c.args.databases c.args.machine.now c.run_words.new.machine c.run_words.result g.O.OpenDesks.sends c.args.words.now c.run_words.ensures.end).batch

pub returns-clause-deliver : goal.returns-clause-deliver
returns-clause-deliver g c = (kinds ghosts.seen g.K.KeepsDesks.files g.F.NamedFiles.holds g.F.NamedFiles.lacks_folder g.W.Write.contents g.R.Read.remaining c.args.databases c.args.machine.now c.run_words.new.machine c.run_words.result g.O.OpenDesks.sends c.args.words.now c.run_words.ensures.end).deliver

pub returns-clause-gaps : goal.returns-clause-gaps
returns-clause-gaps g c = (kinds ghosts.seen g.K.KeepsDesks.files g.F.NamedFiles.holds g.F.NamedFiles.lacks_folder g.W.Write.contents g.R.Read.remaining c.args.databases c.args.machine.now c.run_words.new.machine c.run_words.result g.O.OpenDesks.sends c.args.words.now c.run_words.ensures.end).gaps

pub returns-clause-serve : goal.returns-clause-serve
returns-clause-serve g c = (kinds ghosts.seen g.K.KeepsDesks.files g.F.NamedFiles.holds g.F.NamedFiles.lacks_folder g.W.Write.contents g.R.Read.remaining c.args.databases c.args.machine.now c.run_words.new.machine c.run_words.result g.O.OpenDesks.sends c.args.words.now c.run_words.ensures.end).serve

pub returns-clause-list : goal.returns-clause-list
returns-clause-list g c = (kinds ghosts.seen g.K.KeepsDesks.files g.F.NamedFiles.holds g.F.NamedFiles.lacks_folder g.W.Write.contents g.R.Read.remaining c.args.databases c.args.machine.now c.run_words.new.machine c.run_words.result g.O.OpenDesks.sends c.args.words.now c.run_words.ensures.end).list

pub returns-clause-migrate : goal.returns-clause-migrate
returns-clause-migrate g c = (kinds ghosts.seen g.K.KeepsDesks.files g.F.NamedFiles.holds g.F.NamedFiles.lacks_folder g.W.Write.contents g.R.Read.remaining c.args.databases c.args.machine.now c.run_words.new.machine c.run_words.result g.O.OpenDesks.sends c.args.words.now c.run_words.ensures.end).migrate

pub returns-clause-send : goal.returns-clause-send
returns-clause-send g c = (kinds ghosts.seen g.K.KeepsDesks.files g.F.NamedFiles.holds g.F.NamedFiles.lacks_folder g.W.Write.contents g.R.Read.remaining c.args.databases c.args.machine.now c.run_words.new.machine c.run_words.result g.O.OpenDesks.sends c.args.words.now c.run_words.ensures.end).send

pub returns-clause-convert : goal.returns-clause-convert
returns-clause-convert g c = (kinds ghosts.seen g.K.KeepsDesks.files g.F.NamedFiles.holds g.F.NamedFiles.lacks_folder g.W.Write.contents g.R.Read.remaining c.args.databases c.args.machine.now c.run_words.new.machine c.run_words.result g.O.OpenDesks.sends c.args.words.now c.run_words.ensures.end).convert

pub returns-clause-check : goal.returns-clause-check
returns-clause-check g c = (kinds ghosts.seen g.K.KeepsDesks.files g.F.NamedFiles.holds g.F.NamedFiles.lacks_folder g.W.Write.contents g.R.Read.remaining c.args.databases c.args.machine.now c.run_words.new.machine c.run_words.result g.O.OpenDesks.sends c.args.words.now c.run_words.ensures.end).check
