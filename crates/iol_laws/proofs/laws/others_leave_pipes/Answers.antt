use Rattle.iol_laws.proofs.Streams.OtherPipes.{others_pipe, others_unread, others_written}
use Rattle.iol_laws.proofs.laws.others_leave_pipes.Goals as goal

pub returns : goal.returns
returns c = record { pipe = others_pipe; unread = others_unread; written = others_written }
