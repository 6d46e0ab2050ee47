use Rattle.program_words.proofs.invocation.task_reading.Goals as goal

pub returns-in-Some : goal.returns-in-Some
returns-in-Some c = λ name own is none. ((is, c.in-Some.ensures, none), c.text_in.ensures)

pub returns-in-None : goal.returns-in-None
returns-in-None c = λ name own is none. ((is, c.in-None.ensures, none), c.text_in-in-None.ensures)
