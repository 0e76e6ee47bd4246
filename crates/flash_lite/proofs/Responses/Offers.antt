-- The offered bytes are the next bytes of the response.
use Rattle.std.proofs.Common.{◌≡◌, ℕ, List, Option, Some, sym, ap, subst, ◌∙◌}
use Rattle.iol_core.specs.NumberedLists.{in_place}
use Rattle.iol_core.specs.declared.events.Call.TheVariants as call
use Rattle.iol_proc.specs.declared.process.Turn.{Turn}
use Rattle.iol_proc.specs.declared.process.Turn.TheVariants as turn
use Rattle.flash_laws.specs.Client.{Client, next_call}
use Rattle.flash_laws.specs.Client.OfferedBytes.{ClientsAreOfferedTheResponse}
use Rattle.flash_laws.specs.Site.Places.{runs_scripts}
use Rattle.flash_laws.specs.Serves.{Server, Picks, PicksAt}
use Rattle.flash_laws.specs.declared.phase.PendingCall.{PendingCall}
use Rattle.flash_laws.specs.declared.phase.PendingCall.TheVariants.{At}
use Rattle.flash_laws.proofs.Site.InPlaces.{at-same}
use Rattle.flash_lite.specs.Offers.{OffersNext}

-- for every pick
pub offers_next : ClientsAreOfferedTheResponse
    → (workers : ℕ) (clients : List (Option Client)) (t : Server) (made : Turn) → t.workers ≡ workers
    → Picks workers clients t.pending_call made t.clients → OffersNext t made
offers_next law workers clients t made hired p m fd g a x known flies there writes has =
    let picked : PicksAt workers clients fd made t.clients =
    subst (λ (f : PendingCall). Picks workers clients f made t.clients) flies p in
    let same : Some picked.ready ≡ Some x = sym (at-same clients fd (Some picked.ready))
    ∙ (ap (λ (l : List (Option Client)). in_place l fd) (sym picked.after_is) ∙ there) in
    let ready : picked.ready ≡ x = cc in
    let scripts : runs_scripts workers ≡ runs_scripts t.workers = ap (λ k. runs_scripts k) (sym hired) in
    let asked : turn.Make (next_call (runs_scripts t.workers) fd x) ≡ turn.Make (call.IolWrite g a) =
    ap (λ b. turn.Make (next_call b fd x)) (sym scripts)
    ∙ (ap (λ (y : Client). turn.Make (next_call (runs_scripts workers) fd y)) (sym ready)
    ∙ (sym picked.call_is ∙ writes)) in
    let asks : next_call (runs_scripts t.workers) fd x ≡ call.IolWrite g a = cc in
    (law (runs_scripts t.workers)).offers m fd g a x known has asks
