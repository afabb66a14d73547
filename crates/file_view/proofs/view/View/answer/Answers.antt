-- What FLUSH does is said of the file.
use Rattle.file_view.proofs.view.View.answer.Goals as goal

pub returns-in-Flush-clause-done : goal.returns-in-Flush-clause-done
returns-in-Flush-clause-done g c = rw c.in-Flush.is c.answer_flush.ensures.done
