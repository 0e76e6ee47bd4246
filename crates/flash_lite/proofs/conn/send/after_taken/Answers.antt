use Rattle.std.proofs.Common.{◌∙◌, ap, sym}
use Rattle.iol_core.specs.declared.events.Reply.{Reply}
use Rattle.flash_http.specs.Request.{answer}
use Rattle.flash_laws.specs.Conn.{after_taken}
use Rattle.flash_lite.proofs.conn.send.after_taken.Goals as goal

pub returns-in-Done-clause-after_reply : goal.returns-in-Done-clause-after_reply
returns-in-Done-clause-after_reply c =
    c.proceeds.ensures.goes (answer c.args.asked.now) (sym c.keeps.ensures)
    ∙ ap (λ (r : Reply). after_taken (answer c.args.asked.now) c.args.agg c.args.taken c.args.more r)
    (sym c.in-Done.is)
