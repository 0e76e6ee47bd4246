use Rattle.std.proofs.Common.{◌∙◌, ap, refl, sym}
use Rattle.iol_core.specs.declared.events.Reply.{Reply}
use Rattle.flash_http.specs.Request.{serve, wanted}
use Rattle.flash_laws.specs.Conn.{after_taken}
use Rattle.flash_lite.proofs.run.parts.after_taken.Goals as goal

pub returns-in-Done-clause-after_reply : goal.returns-in-Done-clause-after_reply
returns-in-Done-clause-after_reply c =
    c.proceeds.ensures.goes (serve (wanted c.args.request.now)) refl
    ∙ ap (λ (r : Reply). after_taken (serve (wanted c.args.request.now)) c.args.agg c.args.taken c.args.more r)
    (sym c.in-Done.is)
