use Rattle.std.proofs.Common.{ap, subst, ◌∙◌}
use Rattle.flash_laws.specs.Client.{Client}
use Rattle.flash_lite.specs.ReceivedBytes.{received}
use Rattle.flash_lite.specs.Onward.{IsOnward, Proceeds}
use Rattle.flash_lite.specs.declared.conn.Onward.{Onward}
use Rattle.flash_lite.proofs.Responses.Clients.{asks_alone}
use Rattle.flash_lite.proofs.client.Client.advance_alone.Goals as goal

pub returns-in-Asks : goal.returns-in-Asks
returns-in-Asks c =
    let y : Client =
    record { conn = c.advance.new.self; run = c.self.inside.run; script = c.self.inside.script.items } in
    let onward =
    subst (λ (o : Onward). IsOnward c.args.context.fd c.self.inside.conn c.args.reply.last.now
    (received c.args.reply.parts) o
    c.advance.new.self) c.in-Asks.is c.in_ok-call.ensures.onward in
    let goes =
    subst (λ (s : Client). Proceeds s.conn c.args.reply.last.now (received c.args.reply.parts) c.advance.new.self)
    c.self.view_is onward.0 in
    record {
      course = asks_alone c.args.context.scripts c.args.context.fd c.args.self.now y c.args.reply.last.now
          (received c.args.reply.parts)
          c.file_call.result c.requires goes
          (ap (λ (s : Client). s.run) c.self.view_is ∙ c.requires) (ap (λ (s : Client). s.script) c.self.view_is)
          c.file_call.ensures;
      err = tt;
      wants = tt;
    }
