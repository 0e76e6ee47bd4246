use Rattle.iol_kernel.specs.Kernel.{state_of}
use Rattle.iol_kernel.proofs.FileCalls.Positions.{extents_short}
use Rattle.iol_kernel.proofs.FileCalls.Overwrites.{in_cache}
use Rattle.iol_kernel.proofs.kernel.Kernel.readable.Goals as goal

pub file_length-end-requires-clause-file : goal.file_length-end-requires-clause-file
file_length-end-requires-clause-file g c =
    in_cache (state_of c.args.self.now) c.args.file c.requires.sound c.requires.there

pub file_length-end-requires-clause-short : goal.file_length-end-requires-clause-short
file_length-end-requires-clause-short g c = extents_short (state_of c.args.self.now) c.args.file c.requires.sound
