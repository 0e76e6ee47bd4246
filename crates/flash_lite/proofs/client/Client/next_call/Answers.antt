use Rattle.std.proofs.Common.{subst}
use Rattle.flash_laws.specs.Client.{Client}
use Rattle.flash_laws.specs.Conn as conn
use Rattle.flash_lite.proofs.Responses.Clients.{ready_alone}
use Rattle.flash_lite.proofs.client.Client.next_call.Goals as goal

pub returns-in_err-call-in-None-clause-ready : goal.returns-in_err-call-in-None-clause-ready
returns-in_err-call-in-None-clause-ready c =
    ready_alone c.args.self.now
    (subst (λ (s : Client). conn.Readies s.conn s.conn) c.self.view_is c.next_call.ensures.ready)

pub returns-in_ok-call-in-None-clause-ready : goal.returns-in_ok-call-in-None-clause-ready
returns-in_ok-call-in-None-clause-ready c =
    ready_alone c.args.self.now
    (subst (λ (s : Client). conn.Readies s.conn s.conn) c.self.view_is c.next_call.ensures.ready)
