-- `IsAwaiting` holds for each connection that is not idle, and a connection for which it holds is ready unchanged.
use Rattle.std.proofs.Common.{◌≢◌, ℕ, List, refl, inl}
use Rattle.flash_http.specs.Request.{Answer}
use Rattle.flash_laws.specs.Conn.{IsAwaiting, Readies}
use Rattle.flash_laws.specs.declared.phase.Phase.{Phase}
use Rattle.flash_laws.specs.declared.phase.Phase.TheVariants.{Receiving}

pub busy_awaits : (buffered : List ℕ) (q : Answer) (d : Phase) → d ≢ Receiving
    → IsAwaiting (record { buffered = buffered; request = q; phase = d })
busy_awaits buffered q Receiving busy = absurd (busy refl)
busy_awaits buffered q d busy = tt

-- a connection for which `IsAwaiting` holds is ready unchanged
pub awaits_ready : (buffered : List ℕ) (q : Answer) (d : Phase)
    → IsAwaiting (record { buffered = buffered; request = q; phase = d })
    → Readies (record { buffered = buffered; request = q; phase = d })
    (record { buffered = buffered; request = q; phase = d })
awaits_ready buffered q Receiving waits = inl (waits, refl)
awaits_ready buffered q d waits = refl
