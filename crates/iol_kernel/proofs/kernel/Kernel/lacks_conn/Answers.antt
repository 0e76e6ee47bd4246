use Rattle.std.proofs.Common.{sym}
use Rattle.iol_kernel.specs.Kernel.{state_of}
use Rattle.iol_kernel.proofs.Connections.OneConnection.{conn_there}
use Rattle.iol_kernel.proofs.kernel.Kernel.lacks_conn.Goals as goal

pub returns-in-Some : goal.returns-in-Some
returns-in-Some c = λ f. sym (conn_there f (state_of c.args.self.now) c.args.conn _ c.in-Some.ensures)
