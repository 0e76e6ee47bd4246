use Rattle.std.proofs.Common.{refl}
use Rattle.flash_http.specs.Window.{window_in}
use Rattle.flash_http.proofs.WindowLaws as laws
use Rattle.flash_http.proofs.scan.window_fits.Goals as goal

pub returns : goal.returns
returns c = λ stream. laws.window_fits stream (window_in stream) refl
