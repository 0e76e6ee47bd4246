use Rattle.iol_reactor.proofs.Served.{all_none}
use Rattle.iol_reactor.proofs.places.Places.new.Goals as goal

pub invariant_of-result : goal.invariant_of-result
invariant_of-result g c =
    record {
      followed = all_none g.P.Process.turns g.V.Service.starts g.V.Service.frames _ g.S.Socket.supplied
          g.S.Socket.accepted _ _ _ c.requires;
    }
