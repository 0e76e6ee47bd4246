-- The bytes that a turn of the server offers to a client.
use Rattle.std.specs.Prelude.{◌≡◌, ◌⊎◌, ℕ, Some}
use Rattle.iol_core.specs.NumberedLists.{in_place}
use Rattle.iol_core.specs.State.{State}
use Rattle.iol_core.specs.declared.events.Call.TheVariants as call
use Rattle.iol_proc.specs.declared.process.Turn.{Turn}
use Rattle.iol_proc.specs.declared.process.Turn.TheVariants as turn
use Rattle.flash_laws.specs.Client.{Client}
use Rattle.flash_laws.specs.Client.OfferedBytes.{taken_by, HandsJob}
use Rattle.flash_laws.specs.Client.ResponseState.{Known, HasKnown, IsNextOf}
use Rattle.flash_laws.specs.Site.Places.{runs_scripts}
use Rattle.flash_laws.specs.Serves.{Server}
use Rattle.flash_laws.specs.declared.phase.PendingCall.TheVariants.{At}

-- A write goes to the connection of the client that was picked, and its bytes are the next bytes of the response to the
-- request in progress, with the known results; or it writes the job of that client's script to a worker. This holds
-- over any machine that has what this response needs.
abbrev pub OffersNext : Server → Turn → Type 0
OffersNext t made = (m : State) (fd g a : ℕ) (x : Client) (known : Known) → t.pending_call ≡ At fd
    → in_place t.clients fd ≡ Some x
    → made ≡ turn.Make (call.IolWrite g a) → HasKnown (runs_scripts t.workers) m x known
    → ((g ≡ fd) × IsNextOf m x.conn.request known a (taken_by x)) ⊎ HandsJob x g a
