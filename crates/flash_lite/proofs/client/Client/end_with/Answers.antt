use Rattle.std.proofs.Common.{ℕ, List, ap, ◌∙◌}
use Rattle.flash_laws.specs.Client.{Client}
use Rattle.flash_laws.specs.Conn.{Conn}
use Rattle.flash_lite.proofs.Responses.Clients.{plain, ends_asks}
use Rattle.flash_lite.proofs.client.Client.end_with.Goals as goal

pub returns : goal.returns
returns c =
    let y : Client = plain c.proceed.new.self c.new.result.items in
    let conn = c.in_ok-call.ensures.phase
    ∙ ap (λ (s : Client). record s.conn { phase = c.args.phase }) c.self.view_is in
    let is = ap (λ (z : Conn). plain z c.new.result.items) conn
    ∙ ap (λ (l : List ℕ). plain (record c.args.self.now.conn { phase = c.args.phase }) l) c.new.ensures.items in
    record {
      course = ends_asks c.args.context.scripts c.args.context.fd c.args.self.now y c.args.phase c.file_call.result
          c.requires.0
          c.requires.1 c.requires.3 is c.file_call.ensures;
      err = tt;
      wants = tt;
    }
