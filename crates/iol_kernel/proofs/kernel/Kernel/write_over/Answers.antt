use Rattle.std.proofs.Common.{ap, arith, sym, ◌∙◌, [], Err}
use Rattle.std.specs.Option.{option_copied}
use Rattle.iol_desc.specs.Tables.{domains_of}
use Rattle.iol_cache.specs.Cache.{cached_of}
use Rattle.iol_kernel.specs.Kernel.{state_of}
use Rattle.iol_kernel.specs.Readings.{bytes_over}
use Rattle.iol_kernel.proofs.FileCalls.FileReads.{set_to}
use Rattle.iol_kernel.proofs.FileCalls.FileNames.{cache_sound}
use Rattle.iol_kernel.proofs.FileCalls.Positions.{open_file}
use Rattle.iol_kernel.proofs.State.ReadOf.{descriptor-read_of, live_held}
use Rattle.iol_kernel.proofs.State.Sound.{agg_readable}
use Rattle.iol_kernel.proofs.FileCalls.Overwrites.{agg_beside, agg_fits, counts_below, in_cache, overwritten, unwritten}
use Rattle.iol_kernel.proofs.kernel.Kernel.write_over.Goals as goal

pub write-requires : goal.write-requires
write-requires c =
    let h = state_of c.args.self.now in
    let held = c.requires.held in
    let r = bytes_over [] h.store in
    let xs = c.in-Some.source.now in
    record {
      sound = cache_sound h held.sound;
      file = in_cache h c.args.found.file held.sound (open_file held).there;
      short = agg_fits c.requires (sym (ap option_copied c.in-Some.is) ∙ c.agg.ensures);
      held = agg_beside h c.args.by c.args.agg xs held.sound (live_held r h c.args.by (held.live r))
          (sym (ap option_copied c.in-Some.is) ∙ c.agg.ensures);
      readable = agg_readable h c.args.by c.args.agg xs held.sound (sym (ap option_copied c.in-Some.is)
          ∙ c.agg.ensures);
      few = counts_below h held.sound;
    }

pub moved_by-requires : goal.moved_by-requires
moved_by-requires c =
    omega (arith, agg_fits c.requires (sym (ap option_copied c.in-Some.is) ∙ c.agg.ensures), c.len-len.ensures)

pub returns-in-Err : goal.returns-in-Err
returns-in-Err c =
    let w = c.in-Err.ensures in
    unwritten (state_of c.args.self.now) c.write.new.store (cached_of c.write.new.self) c.args.by c.args.fd c.args.agg
    c.args.found.file c.args.found.at c.args.found.mode c.in-Some.source.now c.requires
    (sym (ap option_copied c.in-Some.is) ∙ c.agg.ensures)
    w.moves w.lists w.reclaims w.pages w.sound w.mirrors c.in-Err.refusal w.evicts w.refused
    (λ p e. w.no_room p (ap Err e)) (λ p e. w.kept p (ap Err e)) w.late

pub returns : goal.returns
returns c =
    let w = c.in_default-write.ensures in
    overwritten (state_of c.args.self.now) c.write.new.store (cached_of c.write.new.self) c.args.by c.args.fd c.args.agg
    c.args.found.file c.args.found.at c.args.found.mode c.in-Some.source.now c.requires
    (sym (ap option_copied c.in-Some.is) ∙ c.agg.ensures)
    w.moves w.lists w.reclaims w.pages w.sound w.mirrors w.lies w.writes w.nothing (domains_of c.set_fd.new.self)
    c.len-len.result w.written w.others c.len-len.ensures w.room
    (set_to (domains_of c.args.self.now.domains) c.args.by c.args.fd c.set_fd.ensures.set c.moved_by.ensures)

pub set_fd-requires-clause-there : goal.set_fd-requires-clause-there
set_fd-requires-clause-there c none =
    let h = state_of c.args.self.now in
    let r = bytes_over [] h.store in
    let is = sym (descriptor-read_of r h c.args.by c.args.fd) ∙ c.requires.held.from r in
    absurd (cc (none, is))
