-- `text::put_run` meets its contract: the rows, and then the outcome.
use Rattle.model.specs.Answer.{run_text}
use Rattle.printing.proofs.Pieces.{put_then, put_printed}
use Rattle.text.proofs.put_run.Goals as goal

pub returns : goal.returns
unfolding run_text
returns c = put_printed (put_then c.put_rows-end.ensures.put c.put_outcome.ensures)
