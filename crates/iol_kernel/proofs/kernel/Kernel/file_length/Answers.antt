use Rattle.std.proofs.Common.{[], rules}
use Rattle.iol_kernel.specs.Kernel.{state_of}
use Rattle.iol_kernel.specs.Readings.{bytes_over}
use Rattle.iol_kernel.proofs.FileCalls.FileLengths.{ends_file}
use Rattle.iol_kernel.proofs.FileCalls.Positions.{length_refused, length_reported}
use Rattle.iol_kernel.proofs.kernel.Kernel.file_length.Goals as goal

pub returns-in-Err : goal.returns-in-Err
returns-in-Err g c =
    let h = state_of c.args.self.now in
    record {
      reported = length_refused (g.B.Backing.disk c.args.backing.now) h c.args.by c.args.fd c.in-Err.refusal c.requires
          (c.in-Err.ensures.refused (bytes_over [] h.store));
      short = tt;
      ends = tt;
    }

pub returns : goal.returns
returns g c =
    let h = state_of c.args.self.now in
    let disk = g.B.Backing.disk c.args.backing.now in
    let x = c.in-Ok.found in
    let reported =
    length_reported disk h c.args.by c.args.fd x.file x.at c.length_of.result x.mode c.in-Ok.ensures.found.held
    c.length_of.ensures.is in
    record {
      reported = search (rules, reported);
      short = c.length_of.ensures.end.short;
      ends = ends_file disk h c.args.by c.args.fd x.file x.at x.mode c.in-Ok.ensures.found.held c.length_of.result
          c.length_of.ensures.end;
    }
