use Rattle.std.proofs.Common.{inl, inr, ◌∙◌, ◌+◌, ap, refl, arith, length, map}
use Rattle.iol_core.specs.declared.descriptors.Descriptor.TheVariants as on
use Rattle.iol_hold.specs.StoreState.{Stored}
use Rattle.iol_hold.specs.Moves.{pool_meant}
use Rattle.iol_hold.proofs.PageChanges.{keeps_pages_frees, keeps_pages_made}
use Rattle.iol_cache.specs.Cache.{cached_of}
use Rattle.iol_kernel.specs.Kernel.{state_of}
use Rattle.iol_kernel.specs.KernelState.{KernelState}
use Rattle.iol_kernel.proofs.FileCalls.FileReads.{set_to}
use Rattle.iol_kernel.proofs.FileCalls.FilledOver.{filled_covers, filled_few, filled_sound, put_pools, still_covers}
use Rattle.iol_kernel.proofs.FileCalls.FilledOver.{through, through_files, through_mirrors, through_puts, unput_pools}
use Rattle.iol_kernel.proofs.FileCalls.FilledServes.{filled_len, filled_serves, held_file, held_live, held_short}
use Rattle.iol_kernel.proofs.FileCalls.FilledServes.{held_there, unfilled_serves, unplaced_serves}
use Rattle.iol_kernel.proofs.Queues.WritesAfterRoom.{may_place}
use Rattle.iol_kernel.proofs.FileCalls.CopyingWrites.{files_apart, own_pool, put_beside, put_pages, put_released}
use Rattle.iol_kernel.proofs.FileCalls.CopyingWrites.{room_alone, unput_beside}
use Rattle.iol_kernel.proofs.FileCalls.KeptCover.{beside_same}
use Rattle.iol_kernel.proofs.kernel.Kernel.fill_file.Goals as goal

pub fill-requires : goal.fill-requires
fill-requires c = record { «open» = (may_place c.requires).opened }

pub returns-in_default : goal.returns-in_default
returns-in_default c =
    let h = state_of c.args.self.now in
    let x = c.args.found in
    let same = ap (λ (t : Stored). let k : KernelState = record h { store = t } in k) c.in_default.ensures.err in
    record {
      serves = unplaced_serves h c.args.by c.args.fd x.file x.at c.args.pool x.mode c.args.bytes.now c.requires _ same;
      roomy = λ p e. cc e;
      late = tt;
      fills = tt;
      beside = beside_same x.file x.at (length c.args.bytes.now) c.args.pool ⊥ h.cache h.cache refl;
      lays = tt;
      leaves = inl same;
    }

pub write-requires : goal.write-requires
write-requires c =
    let h = state_of c.args.self.now in
    let x = c.args.found in
    let e = c.in-Ok.ensures in
    let s = c.fill.new.store in
    let xs = c.in-Ok.agg in
    let long = filled_len s xs c.args.pool c.args.bytes.now e.text in
    let short = held_short h c.args.by c.args.fd x.file x.at c.args.pool x.mode c.args.bytes.now c.requires in
    record {
      sound = filled_sound h s xs c.requires.sound e.moves e.pools e.grows.count;
      file = held_there h c.args.by c.args.fd x.file x.at c.args.pool x.mode c.args.bytes.now c.requires;
      short = omega (arith, short, long);
      held = filled_covers h s xs c.requires.sound e.moves e.pools e.grows.count;
      readable = e.readable;
      few = filled_few h s xs c.requires.sound e.moves e.pools e.grows.count (omega (arith, short, long));
    }

pub release-requires : goal.release-requires
release-requires c = let e = c.in-Ok.ensures in
    still_covers (state_of c.args.self.now) c.fill.new.store c.in-Ok.agg c.requires.sound e.moves e.pools e.grows.count
    c.in-Err.ensures.moves

pub release-requires-2 : goal.release-requires-2
release-requires-2 c = let e = c.in-Ok.ensures in
    still_covers (state_of c.args.self.now) c.fill.new.store c.in-Ok.agg c.requires.sound e.moves e.pools e.grows.count
    c.in_default-write.ensures.moves

pub returns-in-Err : goal.returns-in-Err
returns-in-Err c =
    let h = state_of c.args.self.now in
    let x = c.args.found in
    let e = c.in-Ok.ensures in
    let s = c.fill.new.store in
    let t = c.write.new.store in
    let u = c.release.new.store in
    let d = cached_of c.write.new.self in
    let xs = c.in-Ok.agg in
    let w = c.in-Err.ensures in
    let r = c.release.ensures in
    let long = filled_len s xs c.args.pool c.args.bytes.now e.text in
    let own = own_pool h c.args.by c.args.fd x.file x.at c.args.pool x.mode c.args.bytes.now c.requires in
    let apart = files_apart h c.requires.sound in
    let same = unput_pools h s xs c.requires.sound e.moves e.pools e.grows.count t u d x.file e.readable w.moves w.lists
    w.reclaims w.pages w.sound w.mirrors r.moves r.lists r.frees r.reclaims w.evicts in
    record {
      serves = unfilled_serves h c.args.by c.args.fd x.file x.at c.args.pool x.mode c.args.bytes.now c.requires _ u d
          (through h s xs c.requires.sound e.moves e.pools e.grows.count t u d x.file e.readable w.moves w.lists
          w.reclaims w.pages w.sound w.mirrors r.moves r.lists r.frees r.reclaims same e.reclaims)
          (through_files h s xs c.requires.sound e.moves e.pools e.grows.count t u d x.file e.readable w.moves w.lists
          w.reclaims w.pages w.sound w.mirrors r.moves r.lists r.frees r.reclaims w.refused)
          (through_mirrors h s xs c.requires.sound e.moves e.pools e.grows.count t u d x.file e.readable w.moves w.lists
          w.reclaims w.pages w.sound w.mirrors r.moves r.lists r.frees r.reclaims) refl;
      roomy = λ p e. cc e;
      late = tt;
      fills = tt;
      beside = unput_beside h s t d x.file x.at c.args.pool xs c.args.bytes.now apart own long e.text w.evicts;
      lays = tt;
      leaves = inr (record {
        slices = xs;
        placed = s;
        left = t;
        places =
            record {
              text = e.text;
              made = e.made_on;
              moves = e.moves;
              pages =
                  keeps_pages_made e.made_on e.others e.grows e.pools;
              lists = ap (map pool_meant) e.pools;
            };
        room = room_alone h s t d x.file x.at c.args.pool xs c.args.bytes.now apart own long e.text w.evicts;
        released = r.moves;
        frees = r.frees;
        lists = r.lists;
        rest = refl;
      });
    }

pub moved_by-requires : goal.moved_by-requires
moved_by-requires c =
    let h = state_of c.args.self.now in
    let e = c.in-Ok.ensures in
    let s = c.fill.new.store in
    let xs = c.in-Ok.agg in
    omega (
      arith,
      held_short h c.args.by c.args.fd c.args.found.file c.args.found.at c.args.pool c.args.found.mode
          c.args.bytes.now c.requires,
      c.len-len.ensures,
      filled_len s xs c.args.pool c.args.bytes.now e.text,
    )

pub set_fd-requires-clause-live : goal.set_fd-requires-clause-live
set_fd-requires-clause-live c =
    let h = state_of c.args.self.now in
    held_live h c.args.by c.args.fd c.args.found.file c.args.found.at c.args.pool c.args.found.mode c.args.bytes.now
    c.requires

pub set_fd-requires-clause-there : goal.set_fd-requires-clause-there
set_fd-requires-clause-there c none =
    let h = state_of c.args.self.now in
    let is = held_file h c.args.by c.args.fd c.args.found.file c.args.found.at c.args.pool c.args.found.mode
    c.args.bytes.now c.requires in
    absurd (cc (none, is))

pub returns : goal.returns
returns c =
    let h = state_of c.args.self.now in
    let x = c.args.found in
    let e = c.in-Ok.ensures in
    let s = c.fill.new.store in
    let t = c.write.new.store in
    let u = c.release-2.new.store in
    let d = cached_of c.write.new.self in
    let xs = c.in-Ok.agg in
    let w = c.in_default-write.ensures in
    let r = c.release-2.ensures in
    let long = filled_len s xs c.args.pool c.args.bytes.now e.text in
    let len = c.len-len.ensures ∙ long in
    let there = held_there h c.args.by c.args.fd x.file x.at c.args.pool x.mode c.args.bytes.now c.requires in
    let own = own_pool h c.args.by c.args.fd x.file x.at c.args.pool x.mode c.args.bytes.now c.requires in
    let apart = files_apart h c.requires.sound in
    let pages = keeps_pages_made e.made_on e.others e.grows e.pools in
    let same = put_pools h s xs c.requires.sound e.moves e.pools e.grows.count t u d x.file e.readable w.moves w.lists
    w.reclaims w.pages w.sound w.mirrors r.moves r.lists r.frees r.reclaims x.at there w.writes w.nothing in
    let moved =
    set_to h.domains c.args.by c.args.fd c.set_fd.ensures.set (c.moved_by.ensures
    ∙ ap (λ z. on.File x.file (x.at + z) x.mode) len) in
    record {
      serves = filled_serves h c.args.by c.args.fd x.file x.at c.args.pool x.mode c.args.bytes.now c.requires _ u d
          c.len-len.result
          (through h s xs c.requires.sound e.moves e.pools e.grows.count t u d x.file e.readable w.moves w.lists
          w.reclaims w.pages w.sound w.mirrors r.moves r.lists r.frees r.reclaims same e.reclaims)
          (through_puts h s xs c.requires.sound e.moves e.pools e.grows.count t u d x.file e.readable w.moves w.lists
          w.reclaims w.pages w.sound w.mirrors r.moves r.lists r.frees r.reclaims x.at _ w.written w.others e.text)
          len
          (ap (λ ds. let k : KernelState = record h { store = u; cache = d; domains = ds } in k) moved);
      roomy = λ p e. cc e;
      late = tt;
      fills =
          put_released (ap (map pool_meant) e.pools) w.lists pages
          (put_pages h s t d x.file x.at c.args.pool xs c.args.bytes.now apart own long e.text w.writes w.nothing)
          (keeps_pages_frees r.frees);
      beside = put_beside h s t d x.file x.at c.args.pool xs c.args.bytes.now apart own long e.text there w.writes
          w.nothing;
      lays = record {
        slices = xs;
        placed = s;
        written = t;
        places = record {
          text = e.text;
          made = e.made_on;
          moves = e.moves;
          pages = pages;
          lists =
              ap (map pool_meant) e.pools;
        };
        over = λ some. w.writes (omega (arith, some, long));
        nothing = λ none. w.nothing (omega (arith, none, long));
        lies = w.lies;
        released = r.moves;
        frees = r.frees;
        moves = record { domain = c.args.by; fd = c.args.fd; mode = x.mode; is = moved };
        rest = refl;
      };
      leaves = tt;
    }
