use Rattle.std.proofs.Common.{List, Option, Some, rules, subst, sym, ℕ}
use Rattle.flash_log.specs.declared.lines.Entry.{Entry}
use Rattle.flashd.specs.Records.{LogsTo}
use Rattle.flashd.proofs.service.SiteService.log.Goals as goal

pub returns-clause-line : goal.returns-clause-line
returns-clause-line g c =
    let entry : Entry = record {
      host = c.as_bytes.result;
      date = c.deref.result;
      request_line = c.request_line.result;
      status = c.status_of.result;
      body = c.saturating_sub.result;
    } in
    subst (λ (log : Option (List ℕ)). LogsTo c.args.exchange.now log (Some c.add_line.new.log)) (sym c.in-Some.is)
    (record {
      entry = entry;
      is = record {
        request-is = c.request_line.ensures;
        status-is = c.status_of.ensures;
        body-is = search rules;
      };
      added = c.in_ok-add_line.ensures.added;
    })
