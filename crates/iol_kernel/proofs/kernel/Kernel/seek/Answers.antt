use Rattle.std.proofs.Common.{[], arith, rules, sym}
use Rattle.iol_desc.specs.Tables.{domains_of}
use Rattle.iol_kernel.specs.Kernel.{state_of}
use Rattle.iol_kernel.specs.Readings.{bytes_over}
use Rattle.iol_kernel.proofs.Queues.PipeEnds.{not_none}
use Rattle.iol_kernel.proofs.State.ReadOf.{descriptor-read_of, open_row}
use Rattle.iol_kernel.proofs.FileCalls.FileLengths.{seeks_file, seeks_nothing}
use Rattle.iol_kernel.proofs.FileCalls.Positions.{moved-places, seek_beyond, seek_refused, sought}
use Rattle.iol_kernel.proofs.kernel.Kernel.seek.Goals as goal

pub returns-in-Err-clause-looks : goal.returns-in-Err-clause-looks
returns-in-Err-clause-looks g c =
    let h = state_of c.args.self.now in
    seek_refused (g.B.Backing.disk c.args.backing.now) h c.args.by c.args.fd c.in-Err.refusal c.requires
    (c.in-Err.ensures.refused (bytes_over [] h.store)) c.args.at

pub returns-in-Err-clause-ends : goal.returns-in-Err-clause-ends
returns-in-Err-clause-ends g c =
    let h = state_of c.args.self.now in
    seeks_nothing (g.B.Backing.disk c.args.backing.now) h c.args.by c.args.fd c.args.at _
    (c.in-Err.ensures.none (bytes_over [] h.store))

pub returns-then-at-length_of-clause-looks : goal.returns-then-at-length_of-clause-looks
returns-then-at-length_of-clause-looks g c =
    let x = c.in-Ok.found in
    let reported = seek_beyond (g.B.Backing.disk c.args.backing.now) (state_of c.args.self.now) c.args.by c.args.fd
    x.file x.at c.length_of.result x.mode c.in-Ok.ensures.found.held c.length_of.ensures.is c.args.at
    (omega (arith, c.if-at-length_of.true)) in
    search (rules, reported)

pub returns-then-at-length_of-clause-ends : goal.returns-then-at-length_of-clause-ends
returns-then-at-length_of-clause-ends g c =
    let x = c.in-Ok.found in
    seeks_file (g.B.Backing.disk c.args.backing.now) (state_of c.args.self.now) c.args.by c.args.fd x.file x.at x.mode
    c.in-Ok.ensures.found.held c.args.at _
    (record {
      end = c.length_of.result;
      ends = c.length_of.ensures.end;
      within = tt;
      beyond =
          λ is. omega (arith, c.if-at-length_of.true);
    })

pub set_fd-requires-clause-live : goal.set_fd-requires-clause-live
set_fd-requires-clause-live g c = open_row c.in-Ok.ensures.found.held

pub set_fd-requires-clause-there : goal.set_fd-requires-clause-there
set_fd-requires-clause-there g c =
    let h = state_of c.args.self.now in
    not_none _ _ _ (c.in-Ok.ensures.found.held.from (bytes_over [] h.store))
    (sym (descriptor-read_of (bytes_over [] h.store) h c.args.by c.args.fd))

pub returns-clause-looks : goal.returns-clause-looks
returns-clause-looks g c =
    let x = c.in-Ok.found in
    let is = c.length_of.ensures.is in
    let ds = domains_of c.set_fd.new.self in
    let reported = sought (g.B.Backing.disk c.args.backing.now) (state_of c.args.self.now) c.args.by c.args.fd x.file
    x.at c.length_of.result x.mode c.in-Ok.ensures.found.held is c.args.at ds
    (omega (arith, c.if-at-length_of.false)) c.length_of.ensures.end.short c.set_fd.ensures.set in
    let lies = moved-places (g.B.Backing.disk c.args.backing.now) (state_of c.args.self.now) c.args.by c.args.fd x.file
    x.at c.length_of.result x.mode c.in-Ok.ensures.found.held is c.args.at ds c.set_fd.ensures.set in
    search (rules, reported, lies)

pub returns-clause-ends : goal.returns-clause-ends
returns-clause-ends g c =
    let x = c.in-Ok.found in
    seeks_file (g.B.Backing.disk c.args.backing.now) (state_of c.args.self.now) c.args.by c.args.fd x.file x.at x.mode
    c.in-Ok.ensures.found.held c.args.at _
    (record {
      end = c.length_of.result;
      ends = c.length_of.ensures.end;
      within = omega (arith, c.if-at-length_of.false);
      beyond = λ is. absurd (cc is);
    })
