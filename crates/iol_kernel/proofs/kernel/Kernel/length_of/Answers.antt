use Rattle.iol_kernel.specs.Kernel.{state_of}
use Rattle.iol_kernel.proofs.FileCalls.Positions.{extents_short, length_is}
use Rattle.iol_kernel.proofs.kernel.Kernel.length_of.Goals as goal

pub file_length-requires-clause-short : goal.file_length-requires-clause-short
file_length-requires-clause-short g c = extents_short (state_of c.args.self.now) c.args.file c.requires.sound

pub returns : goal.returns
returns g c = record {
  is = length_is (g.B.Backing.disk c.args.backing.now) (state_of c.args.self.now) c.args.file c.file_length.result
      c.requires.sound c.requires.there (c.file_length.ensures.length c.args.self.now.store);
  end = c.file_length.ensures.end;
}
