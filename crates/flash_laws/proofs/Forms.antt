-- A connection and a client, by their parts.
use Rattle.std.proofs.Common.{ℕ, List, Option}
use Rattle.flash_http.specs.Request.{Answer}
use Rattle.flash_laws.specs.Client.{Client}
use Rattle.flash_laws.specs.Conn.{Conn}
use Rattle.flash_laws.specs.declared.phase.Phase.{Phase}
use Rattle.flash_laws.specs.declared.script_run.Running.{Running}

abbrev pub at : List ℕ → Answer → Phase → Conn
at buffered q d = record { buffered = buffered; request = q; phase = d }

abbrev pub of : Conn → Option Running → List ℕ → Client
of c run script = record { conn = c; run = run; script = script }
