use Rattle.std.proofs.Common.{rules, ◌≡◌, ◌∙◌, ap, subst}
use Rattle.flash_laws.specs.Site.Places.{runs_scripts}
use Rattle.flash_lite.specs.Table.{Table}
use Rattle.flash_lite.specs.ServerTurn.{PicksFrom, has_in}
use Rattle.flash_lite.specs.declared.server.TheConstants.{MAX_CONNS}
use Rattle.flash_lite.proofs.table.Table.pick_from.Goals as goal

pub returns : goal.returns
returns c =
    let scripts : c.scripts-scripts.result ≡ runs_scripts c.args.self.now.workers = c.scripts-scripts.ensures in
    let free : c.has_free-has_free.result ≡ has_in c.args.self.now.workers c.self.inside.free =
    c.has_free-has_free.ensures in
    record {
      picks =
          subst
          (λ l. PicksFrom (runs_scripts c.args.self.now.workers)
          (has_in c.args.self.now.workers c.args.self.now.free) l c.args.from MAX_CONNS
          c.in_ok-pending_call.pending_call c.in_ok-pending_call.turn)
          (ap (λ (u : Table). u.clients) c.self.view_is)
          (subst (λ b. PicksFrom (runs_scripts c.args.self.now.workers) b c.self.inside.clients c.args.from MAX_CONNS
          c.in_ok-pending_call.pending_call c.in_ok-pending_call.turn)
          (free ∙ ap (λ (u : Table). has_in c.args.self.now.workers u.free) c.self.view_is)
          (subst (λ b. PicksFrom b c.has_free-has_free.result c.self.inside.clients c.args.from MAX_CONNS
          c.in_ok-pending_call.pending_call c.in_ok-pending_call.turn)
          scripts c.in_ok-pending_call.ensures.picks));
      same = search rules;
      err = tt;
      wants = tt;
    }
