use Rattle.std.proofs.Common.{rules, ℕ, ◌+◌, List, subst, sym}
use Rattle.flash_cgi.specs.declared.worker.Worker.{Worker}
use Rattle.flash_laws.specs.World.Consistency.{Actor}
use Rattle.flash_lite.specs.Setup.{HasWorkers}
use Rattle.flash_lite.proofs.World.Apart.{none_yet, one_more}
use Rattle.flash_lite.proofs.setup.add_workers.Goals as goal

pub loop-k-init : goal.loop-k-init
loop-k-init c = none_yet c.args.actors.now.items

pub loop-k-preserved : goal.loop-k-preserved
loop-k-preserved c =
    let P : List (ℕ × Actor Worker) → Type 0 = λ ps. HasWorkers c.args.actors.now.items (c.loop-k.k + 1) ps in
    subst P (sym c.in_ok-push.ensures.items)
    (one_more c.args.actors.now.items c.loop-k.actors.items c.loop-k.k _ c.loop-k.invariant (search rules))
