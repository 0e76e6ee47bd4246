-- Reads of a script's output.
use Rattle.std.proofs.Common.{◌≡◌, ℕ, ◌==◌, Bool, false, List, [], ◌∷◌, Option, refl, ap, sym, arith, cond}
use Rattle.std.proofs.lemmas.Bool.Decides.{nat_tests}
use Rattle.iol_core.specs.declared.events.Reply.TheVariants as reply
use Rattle.flash_http.specs.Request.{Wanted}
use Rattle.flash_laws.specs.Conn.{Following, count_of}
use Rattle.flash_laws.specs.Run.{on_output, after_output}
use Rattle.flash_laws.specs.declared.script_run.Run.{Run}
use Rattle.flash_laws.specs.declared.script_run.Step.TheVariants.{DroppingEnd}
use Rattle.flash_laws.specs.declared.script_run.Running.TheVariants.{InProgress}
use Rattle.flash_lite.specs.Runs.{reading}

-- ---- the bytes read

pub receives_read : (w : Wanted) (run : Run) (held : Following) (frame : Option ℕ) (n : ℕ) (received : List ℕ)
    → after_output w run held frame (reply.Agg n) received
    ≡ InProgress run (reading run.broken w.chunked held frame n (count_of received))
receives_read w run held frame n [] = refl
receives_read w run held frame n (b ∷ received) =
    let e : (count_of (b ∷ received) == 0) ≡ false = grind (arith, nat_tests) in
    sym
    (ap
    (λ (t : Bool).
    InProgress run
    (cond t (DroppingEnd n held frame) (on_output run.broken w.chunked held frame n (count_of (b ∷ received))))) e)
