-- The files are those that were passed.
use Rattle.std.proofs.Common.{refl}
use Rattle.iol_ffi.proofs.calls.start_over.Goals as goal

pub returns : goal.returns
returns c = record {
  files = c.args.files;
  has_fds = refl;
  has_lens = refl;
  unfailed = c.requires.unfailed;
  creates = c.start_in.ensures;
}
