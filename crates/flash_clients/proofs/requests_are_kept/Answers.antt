use Rattle.flash_clients.proofs.Kept.{requests_kept}
use Rattle.flash_clients.proofs.requests_are_kept.Goals as goal

pub returns : goal.returns
returns c = requests_kept (record { stay = c.window_stays.ensures; fit = c.window_fits.ensures })
