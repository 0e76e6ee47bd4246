use Rattle.flash_http.proofs.ScanLemmas.{window_found, window_not_yet}
use Rattle.flash_http.proofs.WindowLaws.{window_fits}
use Rattle.flash_http.specs.declared.windows.Window.TheVariants.{Wait}
use Rattle.flash_http.proofs.scan.window_of.Goals as goal

pub returns-in-Some : goal.returns-in-Some
returns-in-Some c =
    let is = window_found c.args.stream.now c.in-Some.window c.in-Some.ensures.found in
    record { window = is; fits = window_fits c.args.stream.now c.in-Some.window is }

pub returns-in-None : goal.returns-in-None
returns-in-None c =
    let is = window_not_yet c.args.stream.now c.feed_all.new.self c.in-None.ensures.proceeds c.in-None.ensures.room in
    record { window = is; fits = window_fits c.args.stream.now Wait is }
