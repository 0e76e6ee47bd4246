-- Sharing: examples on a layout, whose texts are the addresses of the bytes.
use Rattle.std.proofs.Common.{◌≡◌, [], ◌∷◌, ◌++◌, refl}
use Rattle.iol_core.specs.Text.{labelled}
use Rattle.iol_core.specs.State.{State, new_domain, domain, pool, text, file, content, pipe_at, conn_at, with_domain}
use Rattle.iol_core.specs.State.{with_pipe, with_conn, with_content}
use Rattle.iol_core.specs.Run.{called}
use Rattle.iol_core.specs.SharingCalls.{LaysOut}
use Rattle.iol_core.specs.declared.events.Call.TheVariants as call
use Rattle.iol_core.specs.declared.events.Event.TheVariants as event
use Rattle.iol_core.specs.declared.events.Reply.TheVariants as reply
use Rattle.iol_core.proofs.Examples.World.{caller, world}

-- aggregate 1 is at the addresses 7 and 8, aggregate 2 at the address 3
abbrev layout : State
layout =
    record world {
      domains = record caller { aggs = (1, labelled 1 (7 ∷ 8 ∷ [])) ∷ (2, labelled 2 (3 ∷ [])) ∷ [] }
          ∷ new_domain ∷ [];
    }

-- the joined aggregate is at the addresses of its two parts, and the part cut out keeps its address
shared_places :
    LaysOut layout (event.Call 1 (call.AggJoin 1 2)) (reply.Agg 3) (called layout 1 (call.AggJoin 1 2)).after
    × (text (called layout 1 (call.AggJoin 1 2)).after 1 3 ≡ labelled 1 (7 ∷ 8 ∷ []) ++ labelled 2 (3 ∷ []))
    × (text (called layout 1 (call.AggCut 1 1 2)).after 1 3 ≡ labelled 1 (8 ∷ []))
unfolding domain pool file content pipe_at conn_at with_domain with_pipe with_conn with_content
shared_places = ((refl, refl, refl), refl, refl)
