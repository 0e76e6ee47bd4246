use Rattle.std.proofs.Common.{false, refl, subst, true}
use Rattle.flash_clients.specs.Requests.{IsFirst}
use Rattle.flash_http.specs.Request.{Answer, refuse}
use Rattle.flash_http.specs.declared.windows.Window.{Window}
use Rattle.flash_framing.proofs.frame_of.Goals as goal

pub returns-in-TooLarge-clause-frame : goal.returns-in-TooLarge-clause-frame
returns-in-TooLarge-clause-frame c =
    let q : Answer = refuse 431 false true in
    (q, subst (λ (w : Window). IsFirst w c.args.bytes.now 8192 q) c.in-TooLarge.ensures.window (refl, refl), refl)
