use Rattle.flash_laws.proofs.Conn.Holdings.{keeps_nothing}
use Rattle.flash_laws.proofs.laws.keeping_law.Goals as goal

pub returns : goal.returns
returns c =
    keeps_nothing c.aggregates_come_and_go.ensures c.calls_serve_their_domain.ensures
    c.file_calls_serve_their_domain.ensures
