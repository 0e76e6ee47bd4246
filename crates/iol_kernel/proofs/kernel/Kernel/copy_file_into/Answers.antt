use Rattle.std.proofs.Common.{rules, ◌≡◌, ◌∙◌, ℕ, List, [], ◌++◌, ◌≤◌, ap, refl, subst, arith, inr, length, take, drop}
use Rattle.std.proofs.Common.{length-append}
use Rattle.std.specs.Prelude.{Result, Err}
use Rattle.std.proofs.lemmas.List.{drop_at, length-drop, length-map}
use Rattle.iol_core.specs.Text.{Text, bytes_of, labelled}
use Rattle.iol_core.specs.declared.refusals.Refusal.{Refusal}
use Rattle.iol_hold.specs.Texts.{text_of}
use Rattle.iol_hold.specs.Places.{byte_len}
use Rattle.iol_hold.specs.declared.slices.Slice.{Slice}
use Rattle.iol_hold.proofs.ReadSlices.{length-text_of}
use Rattle.iol_back.specs.Disk.{Disk}
use Rattle.iol_desc.specs.Tables.{domains_of}
use Rattle.iol_cache.specs.Cache.{cached_of}
use Rattle.iol_kernel.specs.FileCalls.{holding_of}
use Rattle.iol_kernel.specs.FileReads.{CopiesFromFile, CopiesInto, FileRead, IsOpenAt, moved_on, pool_read, read_at}
use Rattle.iol_kernel.specs.Kernel.{state_of}
use Rattle.iol_kernel.specs.KernelState.{KernelState}
use Rattle.iol_kernel.specs.Readings.{bytes_over}
use Rattle.iol_kernel.proofs.FileCalls.FileCopies.{copied_as, copies_refused, covers_read, frees_here}
use Rattle.iol_kernel.proofs.FileCalls.FileReads.{file_for, numbered_here, open_at, open_there, refused_read, row_live}
use Rattle.iol_kernel.proofs.FileCalls.FileReads.{set_to}
use Rattle.iol_kernel.proofs.FileCalls.ReadEffects.{counts_few, read_fits, reads_done, reads_refused}
use Rattle.iol_kernel.proofs.FileCalls.FileTests.{read-first}
use Rattle.iol_kernel.proofs.FileCalls.FileNames.{cache_sound}
use Rattle.iol_kernel.proofs.FileCalls.ShortReads.{bytes_more, reads_more, refuses_more, room_more, reports_room}
use Rattle.iol_kernel.proofs.Queues.CopiedBytes.{front_is}
use Rattle.iol_kernel.proofs.kernel.Kernel.copy_file_into.Given.{Over}
use Rattle.iol_kernel.proofs.kernel.Kernel.copy_file_into.Goals as goal
use Rattle.iol_kernel.proofs.kernel.Kernel.copy_file_into.Goals.{In_ok-test_read}

-- a refusal leaves the memory unchanged
into_refused : (x : FileRead) (memory : List ℕ) (disk after : Disk) (old new : KernelState) (y : Refusal)
    → CopiesFromFile x disk old (Err y) after new → CopiesInto x memory memory disk old (Err y) after new
into_refused x memory disk after old new y refused =
    record { copies = refused; count = tt; len = refl; rest = tt; err = refl }

pub test_read-requires : goal.test_read-requires
test_read-requires g c =
    file_for (open_at (state_of c.args.self.now) c.args.by c.args.fd c.args.found (length c.args.into.now)
    c.requires.open.sound c.requires.open.live c.requires.open.from)

pub returns-in_err-test_read : goal.returns-in_err-test_read
returns-in_err-test_read g c =
    let h = state_of c.args.self.now in
    let disk = g.B.Backing.disk c.args.backing.now in
    let memory = c.args.into.now in
    let x = read_at c.args.by c.args.fd c.args.found (length memory) in
    let held = open_at h c.args.by c.args.fd c.args.found (length memory) c.requires.open.sound c.requires.open.live
    c.requires.open.from in
    let e = c.in_err-test_read.ensures in
    let y = c.in_err-test_read.field-0.0 in
    let is : ◌≡◌ {A = Result ℕ Refusal} (Err y) c.from_residual.result = search (rules) in
    let done =
    subst (λ (r : Result ℕ Refusal). CopiesInto x memory memory disk h r disk h) is
    (into_refused x memory disk disk h h y
    (copies_refused held disk y (e.refused (bytes_over [] h.store)) e.early)) in
    record { copies = done.copies; count = done.count; len = done.len; rest = done.rest; err = done.err }

-- the read passed its tests
held : (g : Over) (c : In_ok-test_read g)
    → IsOpenAt (state_of c.args.self.now) (read_at c.args.by c.args.fd c.args.found (length c.args.into.now))
held g c = open_at (state_of c.args.self.now) c.args.by c.args.fd c.args.found (length c.args.into.now)
    c.requires.open.sound c.requires.open.live c.requires.open.from

pub readable-most-requires : goal.readable-most-requires
readable-most-requires g c = (file_for (held g (goal.at.readable-most-requires g c).In_ok-test_read)).file

pub read-requires : goal.read-requires
read-requires g c =
    let h = state_of c.args.self.now in
    record {
      sound = cache_sound h c.requires.open.sound;
      file = numbered_here (held g (goal.at.read-requires g c).In_ok-test_read);
      few = counts_few h c.requires.open.sound;
    }

pub returns-in_err-agg : goal.returns-in_err-agg
returns-in_err-agg g c =
    let h = state_of c.args.self.now in
    let memory = c.args.into.now in
    let x = read_at c.args.by c.args.fd c.args.found (length memory) in
    let at = held g (goal.at.returns-in_err-agg g c).In_ok-test_read in
    let disk = g.B.Backing.disk c.args.backing.now in
    let after = g.B.Backing.disk c.read.new.backing in
    let m = c.read.new.store in
    let k = cached_of c.read.new.self in
    let reported = c.readable-most.ensures in
    let e = c.in_err-agg.ensures in
    let y = c.in_err-agg.field-0.0 in
    let new : KernelState = record h { store = m; cache = k } in
    let is : ◌≡◌ {A = Result ℕ Refusal} (Err y) c.from_residual-in_err-agg.result = search (rules) in
    let refused : CopiesFromFile x disk h (Err y) after new = record {
      serves = refused_read disk after m k at e.sound e.fault.honest e.fault.slots e.backed e.gone y (read-first at
          ∙ c.in_ok-test_read.ensures.passed (bytes_over [] h.store)) e.late;
      copies = record {
        mid = m;
        reads = reads_refused disk after m k at e.pages e.gone.lists (List Slice) (List ℕ) y h.domains refl
            (refuses_more (holding_of h) reported e.refused)
            (reports_room (holding_of h) reported {A = List Slice} (Err y) e.room) e.fault e.late;
        gives = tt;
        early = inr e.late;
        frees = frees_here m;
        lists = refl;
      };
      short = tt;
    } in
    let done =
    subst (λ (r : Result ℕ Refusal). CopiesInto x memory memory disk h r after new) is
    (into_refused x memory disk after h new y refused) in
    record { copies = done.copies; count = done.count; len = done.len; rest = done.rest; err = done.err }

pub copy_to_front-requires-clause-room : goal.copy_to_front-requires-clause-room
copy_to_front-requires-clause-room g c = omega (arith, c.in_ok-agg.ensures.short, c.readable-most.ensures.fewer)

pub release-requires : goal.release-requires
release-requires g c =
    let e = c.in_ok-agg.ensures in
    covers_read (g.B.Backing.disk c.args.backing.now) c.read.new.store (cached_of c.read.new.self) c.in_ok-agg.agg
    (held g (goal.at.release-requires g c).In_ok-test_read) e.sound e.goes

pub moved_by-requires : goal.moved_by-requires
moved_by-requires g c =
    omega (
      arith,
      read_fits (held g (goal.at.moved_by-requires g c).In_ok-test_read) c.in_ok-agg.ensures.reads,
      c.len-len.ensures,
    )

pub set_fd-requires-clause-live : goal.set_fd-requires-clause-live
set_fd-requires-clause-live g c = row_live (held g (goal.at.set_fd-requires-clause-live g c).In_ok-test_read)

pub set_fd-requires-clause-there : goal.set_fd-requires-clause-there
set_fd-requires-clause-there g c = open_there (held g (goal.at.set_fd-requires-clause-there g c).In_ok-test_read) refl

pub returns : goal.returns
returns g c =
    let h = state_of c.args.self.now in
    let memory = c.args.into.now in
    let filled = c.copy_to_front.new.into in
    let x = read_at c.args.by c.args.fd c.args.found (length memory) in
    let at = held g (goal.at.returns g c).In_ok-test_read in
    let disk = g.B.Backing.disk c.args.backing.now in
    let after = g.B.Backing.disk c.read.new.backing in
    let m = c.read.new.store in
    let k = cached_of c.read.new.self in
    let reported = c.readable-most.ensures in
    let e = c.in_ok-agg.ensures in
    let agg : List Slice = c.in_ok-agg.agg in
    let text : Text = text_of m agg in
    let r = c.release.ensures in
    let ds = domains_of c.set_fd.new.self in
    let len = c.len-len.result in
    let bytes = take len filled in
    let fewer : byte_len agg ≤ x.count = omega (arith, e.short, reported.fewer) in
    let moved : ds ≡ moved_on h.domains x (byte_len agg) =
    set_to h.domains c.args.by c.args.fd c.set_fd.ensures.set c.moved_by.ensures
    ∙ ap (moved_on h.domains x) c.len-len.ensures in
    let long : length (bytes_of text) ≡ byte_len agg = length-map text (λ (b : ℕ × ℕ). b.0) ∙ length-text_of m agg in
    let count : len ≡ length (bytes_of text) = omega (arith, long, c.len-len.ensures) in
    let laid : filled ≡ bytes_of text ++ drop (byte_len agg) memory = c.copy_to_front.ensures in
    let is : bytes ≡ bytes_of text = front_is (bytes_of text) (drop (byte_len agg) memory) filled len laid count in
    record {
      copies = record {
        serves = copied_as disk m k agg at e.sound e.goes after c.release.new.store r.moves r.lists r.frees
            (r.reclaims e.readable) (read-first at ∙ c.in_ok-test_read.ensures.passed (bytes_over [] h.store))
            e.fault.honest e.fault.slots e.backed
            bytes ds is fewer (read_fits at e.reads) (λ b. e.text b
            ∙ ap (labelled (pool_read h x)) (bytes_more (holding_of h) reported b)) moved;
        copies = record {
          mid = m;
          reads =
              reads_done disk after m k at e.pages e.goes.lists {B = List ℕ} bytes agg m ds
              (reads_more (holding_of h) reported e.reads) (room_more (holding_of h) reported e.room) e.fault.counts
              e.fault.honest e.fault.slots;
          gives = record {
            slices = agg;
            copied = is;
            read = reads_more (holding_of h) reported e.reads;
            released =
                r.moves;
            domains = moved;
          };
          early = tt;
          frees = r.frees;
          lists = r.lists;
        };
        short = omega (arith, ap length is, long, fewer);
      };
      count = omega (arith, c.len-len.ensures, fewer);
      len =
          omega (
            arith,
            ap length laid,
            length-append (bytes_of text) (drop (byte_len agg) memory),
            length-drop (byte_len agg) memory,
            long,
            fewer,
          );
      rest = ap (drop len) laid ∙ drop_at (bytes_of text) (drop (byte_len agg) memory) len (omega (arith, count))
          ∙ ap (λ n. drop n memory) (omega (arith, c.len-len.ensures));
      err = tt;
    }
