use Rattle.flash_streams.proofs.Follow.{follow}
use Rattle.flash_streams.proofs.streams_follow.Goals as goal

pub returns : goal.returns
returns c = follow (record { stay = c.window_stays.ensures; fit = c.window_fits.ensures })
