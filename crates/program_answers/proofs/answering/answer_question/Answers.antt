-- Of answer_question: what each question is answered with is what its own function says.
use Rattle.program_answers.proofs.answering.answer_question.Goals as goal

pub returns-in-Bound-clause-does : goal.returns-in-Bound-clause-does
returns-in-Bound-clause-does g c err = rw c.in-Bound.is (c.say_bound.ensures.does err)

pub returns-in-Report-clause-does : goal.returns-in-Report-clause-does
returns-in-Report-clause-does g c err = rw c.in-Report.is (c.say_report.ensures.does err)

pub returns-in-Walk-clause-does : goal.returns-in-Walk-clause-does
returns-in-Walk-clause-does g c err = rw c.in-Walk.is (c.say_walk.ensures.does err)

pub returns-in-Waits-clause-does : goal.returns-in-Waits-clause-does
returns-in-Waits-clause-does g c err = rw c.in-Waits.is (c.say_waits.ensures.does err)

pub returns-in-Table-clause-does : goal.returns-in-Table-clause-does
returns-in-Table-clause-does g c err = rw c.in-Table.is (c.say_table.ensures.does err)

pub returns-in-Size-clause-does : goal.returns-in-Size-clause-does
returns-in-Size-clause-does g c err = rw c.in-Size.is (c.say_size.ensures.does err)

pub returns-in-Graph-clause-does : goal.returns-in-Graph-clause-does
returns-in-Graph-clause-does g c err = rw c.in-Graph.is (c.say_graph.ensures.does err)

pub returns-in-Outline-clause-does : goal.returns-in-Outline-clause-does
returns-in-Outline-clause-does g c err = rw c.in-Outline.is (c.say_outline.ensures.does err)

pub returns-in-Draw-clause-does : goal.returns-in-Draw-clause-does
returns-in-Draw-clause-does g c err = rw c.in-Draw.is (c.say_picture.ensures.does err)

pub returns-in-Ceiling-clause-does : goal.returns-in-Ceiling-clause-does
returns-in-Ceiling-clause-does g c err = rw c.in-Ceiling.is (c.say_ceiling.ensures.does err)
