use Rattle.std.proofs.Common.{◌≡◌, ◌∙◌, ap, refl, sym, arith, length}
use Rattle.iol_arena.specs.State.{pages_for}
use Rattle.iol_core.specs.Calls.Writes as writing
use Rattle.iol_core.specs.declared.descriptors.Descriptor.TheVariants as on
use Rattle.iol_kernel.specs.Kernel.{state_of}
use Rattle.iol_kernel.specs.Room.{can_fit}
use Rattle.iol_kernel.proofs.FileCalls.FilledServes.{file_count, held_short, on_ok, roomed_serves}
use Rattle.iol_kernel.proofs.FileCalls.CopyingWrites.{laid_none, laid_roomed, puts_none, puts_roomed}
use Rattle.iol_kernel.proofs.Queues.WritesAfterRoom.{may_place, may_still, write_none}
use Rattle.iol_kernel.proofs.kernel.Kernel.put_in_file.Goals as goal
use Rattle.iol_kernel.proofs.kernel.Kernel.put_in_file.Goals.{After-min-count}

pub make_room_for-requires : goal.make_room_for-requires
make_room_for-requires c = may_place c.requires

-- all of the bytes are written
counted : (c : After-min-count) → c.min-count.result ≡ length c.args.bytes.now
counted c =
    omega (
      arith,
      c.min-count.ensures,
      held_short (state_of c.args.self.now) c.args.by c.args.fd c.args.found.file
          c.args.found.at c.args.pool c.args.found.mode c.args.bytes.now c.requires,
    )

pub returns-then-not-make_room_for : goal.returns-then-not-make_room_for
returns-then-not-make_room_for c =
    let h = state_of c.args.self.now in
    let k = state_of c.make_room_for.new.self in
    let x = c.args.found in
    let count = counted (goal.at.returns-then-not-make_room_for c).After-min-count in
    let room = c.make_room_for.ensures in
    let no = c.if-not-make_room_for.true in
    record {
      serves =
          (write_none c.args.by c.args.fd (on.File x.file x.at x.mode) c.args.pool c.min-count.result c.args.bytes.now h
          k c.requires room.made (λ f. file_count h c.args.by c.args.fd x.file x.at c.args.pool x.mode c.args.bytes.now
          c.requires f ∙ sym count) (room.refused no) (room.fits ∙ no)).serves;
      room = tt;
      no_room = λ p e. ap (can_fit h c.args.pool) (sym count) ∙ room.fits ∙ no;
      memory = λ e. absurd (cc e);
      late = refl;
      puts = puts_none x.file x.at c.args.pool c.min-count.result (length c.args.bytes.now) h k count room.made _;
      lays = laid_none x.file x.at c.args.pool c.min-count.result c.args.bytes.now h k count room.made _
          (room.refused no);
    }

pub fill_file-requires : goal.fill_file-requires
fill_file-requires c = may_still c.args.by c.args.fd (on.File c.args.found.file c.args.found.at c.args.found.mode)
    c.args.pool c.min-count.result c.args.bytes.now (state_of c.args.self.now) (state_of c.make_room_for.new.self)
    c.requires c.make_room_for.ensures.made

pub returns : goal.returns
returns c =
    let h = state_of c.args.self.now in
    let k = state_of c.make_room_for.new.self in
    let l = state_of c.fill_file.new.self in
    let x = c.args.found in
    let count = counted (goal.at.returns c).After-min-count in
    let room = c.make_room_for.ensures in
    let fits = room.fits ∙ c.if-not-make_room_for.false in
    let e = c.fill_file.ensures in
    record {
      serves = λ disk. roomed_serves (λ s. writing.write s c.args.by c.args.fd c.args.bytes.now) c.args.pool
          (pages_for c.min-count.result) h k l c.fill_file.result room.made disk disk (e.serves disk);
      room = on_ok c.fill_file.result (ap (can_fit h c.args.pool) (sym count) ∙ fits);
      no_room = λ p is. absurd (e.roomy p is);
      memory = λ is. ap (can_fit h c.args.pool) (sym count) ∙ fits;
      late = e.late;
      puts = puts_roomed x.file x.at c.args.pool c.min-count.result (length c.args.bytes.now) h k count room.made l
          c.fill_file.result e.fills e.beside;
      lays = laid_roomed x.file x.at c.args.pool c.min-count.result c.args.bytes.now h k count room.made l
          c.fill_file.result fits e.lays e.leaves e.late e.roomy;
    }
