use Rattle.std.proofs.Common.{◌≡◌, length, min, arith}
use Rattle.iol_posix.proofs.Fronts.{over_front}
use Rattle.iol_posix.proofs.copy_out.read.Goals as goal

pub returns : goal.returns
returns g c =
    let memory = c.args.into.now in
    let filled = c.read_front.new.into in
    let n = c.min-most.result in
    let is : n ≡ min (length memory) 4294967295 = omega (arith, c.min-most.ensures) in
    rw (← is) (over_front c.args.by c.args.fd n memory filled g.B.Backing.disk c.args.backing.now
    c.read_front.new.backing c.args.kernel.now c.read_front.new.kernel (omega (arith, is)) c.read_front.result
    c.read_front.ensures)
