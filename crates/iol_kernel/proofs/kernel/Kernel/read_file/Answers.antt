use Rattle.std.proofs.Common.{◌≡◌, ◌∙◌, rules, ℕ, List, [], arith, subst}
use Rattle.std.specs.Prelude.{Result, Err}
use Rattle.iol_core.specs.declared.refusals.Refusal.{Refusal}
use Rattle.iol_hold.specs.declared.slices.Slice.{Slice}
use Rattle.iol_desc.specs.Tables.{domains_of}
use Rattle.iol_cache.specs.Cache.{cached_of}
use Rattle.iol_kernel.specs.FileReads.{TakesFromFile, moved_on, read_at}
use Rattle.iol_kernel.specs.Kernel.{state_of, machine}
use Rattle.iol_kernel.specs.Readings.{bytes_over}
use Rattle.iol_kernel.proofs.State.Effects.{few_aggs, few_numbers}
use Rattle.iol_kernel.proofs.FileCalls.FileReads.{agg_added, file_for, given_as, live_moved, live_there, next_moved}
use Rattle.iol_kernel.proofs.FileCalls.FileReads.{numbered_here, open_there, refused_iol_read, row_live, set_to}
use Rattle.iol_kernel.proofs.FileCalls.ReadEffects.{counts_few, read_fits, reads_done, reads_refused, takes_nothing}
use Rattle.iol_kernel.proofs.FileCalls.ReadEffects.{takes_unmade}
use Rattle.iol_kernel.proofs.FileCalls.FileTests.{iol_read-first, read_few}
use Rattle.iol_kernel.proofs.FileCalls.FileNames.{cache_sound}
use Rattle.iol_kernel.proofs.kernel.Kernel.read_file.Given.{Over}
use Rattle.iol_kernel.proofs.kernel.Kernel.read_file.Goals as goal
use Rattle.iol_kernel.proofs.kernel.Kernel.read_file.Goals.{After-set_fd}

pub test_read-requires : goal.test_read-requires
test_read-requires g c = file_for c.requires

pub returns-in_err-test_read : goal.returns-in_err-test_read
returns-in_err-test_read g c =
    let h = state_of c.args.self.now in
    let disk = g.B.Backing.disk c.args.backing.now in
    let x = read_at c.args.by c.args.fd c.args.found c.args.count in
    let y = c.in_err-test_read.field-0.0 in
    let is : ◌≡◌ {A = Result ℕ Refusal} (Err y) c.from_residual.result = search (rules) in
    subst (λ (r : Result ℕ Refusal). TakesFromFile x disk h r disk h) is
    (takes_nothing c.requires disk y (c.in_err-test_read.ensures.refused (bytes_over [] h.store))
    c.in_err-test_read.ensures.early)

pub reserve_aggs-requires : goal.reserve_aggs-requires
reserve_aggs-requires g c = row_live c.requires

pub returns-in_err-reserve_aggs : goal.returns-in_err-reserve_aggs
returns-in_err-reserve_aggs g c =
    let done = takes_unmade c.requires (g.B.Backing.disk c.args.backing.now) c.in_err-reserve_aggs.ensures.same
    (c.in_ok-test_read.ensures.passed (bytes_over [] c.args.self.now.store)) in
    search (rules, done)

pub read-outcome-requires : goal.read-outcome-requires
read-outcome-requires g c =
    let h = state_of c.args.self.now in
    record {
      sound = cache_sound h c.requires.is.sound;
      file = numbered_here c.requires;
      few =
          counts_few h c.requires.is.sound;
    }

pub returns-in-Err : goal.returns-in-Err
returns-in-Err g c =
    let held = c.requires in
    let disk = g.B.Backing.disk c.args.backing.now in
    let after = g.B.Backing.disk c.read-outcome.new.backing in
    let t = c.read-outcome.new.store in
    let k = cached_of c.read-outcome.new.self in
    let ds = domains_of c.reserve_aggs.new.self in
    let same = c.in_ok-reserve_aggs.ensures.same in
    let passed = iol_read-first held ∙ c.in_ok-test_read.ensures.passed (bytes_over [] c.args.self.now.store) in
    let e = c.in-Err.ensures in
    record {
      serves = refused_iol_read disk after t k held e.sound e.fault.honest e.fault.slots e.backed e.gone ds
          c.in-Err.refusal same passed e.late;
      reads = reads_refused disk after t k held e.pages e.gone.lists (List Slice) ℕ c.in-Err.refusal ds same e.refused
          e.room e.fault e.late;
      gives = tt;
    }

pub moved_by-requires : goal.moved_by-requires
moved_by-requires g c = omega (arith, read_fits c.requires c.in-Ok.ensures.reads, c.len.ensures)

pub set_fd-requires-clause-live : goal.set_fd-requires-clause-live
set_fd-requires-clause-live g c = live_there c.requires c.in_ok-reserve_aggs.ensures.same

pub set_fd-requires-clause-there : goal.set_fd-requires-clause-there
set_fd-requires-clause-there g c = open_there c.requires c.in_ok-reserve_aggs.ensures.same

-- the position moved
moved : (g : Over) (c : After-set_fd g)
    → domains_of c.set_fd.new.self ≡ moved_on (domains_of c.reserve_aggs.new.self)
    (read_at c.args.by c.args.fd c.args.found c.args.count) c.len.result
moved g c = set_to (domains_of c.reserve_aggs.new.self) c.args.by c.args.fd c.set_fd.ensures.set c.moved_by.ensures

pub add_agg-requires-clause-live : goal.add_agg-requires-clause-live
add_agg-requires-clause-live g c =
    live_moved c.requires c.len.result c.in_ok-reserve_aggs.ensures.same
    (moved g (goal.at.add_agg-requires-clause-live g c).After-set_fd)

pub add_agg-requires-clause-few : goal.add_agg-requires-clause-few
add_agg-requires-clause-few g c =
    let h = state_of c.args.self.now in
    let few =
    read_few (machine c.args.self.now) c.args.by c.args.found.file c.args.found.mode
    (c.in_ok-test_read.ensures.passed (bytes_over [] h.store)) in
    omega (
      arith,
      few_numbers (bytes_over [] h.store) h c.args.by 1 0 few,
      next_moved c.requires c.len.result c.in_ok-reserve_aggs.ensures.same
          (moved g (goal.at.add_agg-requires-clause-few g c).After-set_fd),
    )

pub returns : goal.returns
returns g c =
    let h = state_of c.args.self.now in
    let held = c.requires in
    let disk = g.B.Backing.disk c.args.backing.now in
    let after = g.B.Backing.disk c.read-outcome.new.backing in
    let t = c.read-outcome.new.store in
    let k = cached_of c.read-outcome.new.self in
    let ds = domains_of c.add_agg.new.self in
    let agg : List Slice = c.in-Ok.agg in
    let e = c.in-Ok.ensures in
    let same = c.in_ok-reserve_aggs.ensures.same in
    let passed = c.in_ok-test_read.ensures.passed (bytes_over [] h.store) in
    let few = read_few (machine c.args.self.now) c.args.by c.args.found.file c.args.found.mode passed in
    let set = moved g (goal.at.returns g c).After-set_fd in
    let added = agg_added held c.len.result same set agg c.add_agg.ensures.added c.len.ensures in
    record {
      serves = given_as disk after t k held e.sound e.fault.honest e.fault.slots e.backed agg e.goes e.short
          (read_fits held e.reads) e.pool ds c.add_agg.result added
          (c.add_agg.ensures.number ∙ next_moved held c.len.result same set) (iol_read-first held ∙ passed)
          (omega (arith, few_aggs (bytes_over [] h.store) h c.args.by 1 0 few)) e.readable e.text;
      reads = reads_done disk after t k held e.pages e.goes.lists {B = ℕ} c.add_agg.result agg t ds e.reads e.room
          e.fault.counts e.fault.honest e.fault.slots;
      gives = record { slices = agg; read = e.reads; domains = added };
    }
