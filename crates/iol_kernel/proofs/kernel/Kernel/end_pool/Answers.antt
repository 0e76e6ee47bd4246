use Rattle.std.proofs.Common.{[], ◌∙◌, sym}
use Rattle.iol_kernel.specs.Kernel.{state_of}
use Rattle.iol_kernel.specs.Readings.{bytes_over}
use Rattle.iol_kernel.proofs.State.Effects.{pool_closed}
use Rattle.iol_kernel.proofs.State.ReadOf.{idle_held, is_pool-read_of}
use Rattle.iol_kernel.proofs.kernel.Kernel.end_pool.Goals as goal

pub close_pool-requires : goal.close_pool-requires
close_pool-requires c = sym (is_pool-read_of _ (state_of c.args.self.now) c.args.p) ∙ c.requires.there

pub returns : goal.returns
returns c =
    let h = state_of c.args.self.now in
    pool_closed h c.close_pool.new.self c.requires.sound c.close_pool.ensures.moves c.close_pool.ensures.reclaims
    c.close_pool.ensures.pages c.args.p
    (idle_held (bytes_over [] h.store) h c.args.p (c.requires.idle (bytes_over [] h.store)))
    c.close_pool.ensures.closed
