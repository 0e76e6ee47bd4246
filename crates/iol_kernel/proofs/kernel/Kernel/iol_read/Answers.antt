use Rattle.std.proofs.Common.{[], ◌∙◌, ap, Option, rules, Some, subst, sym}
use Rattle.std.specs.Prelude.{OnOk}
use Rattle.iol_core.specs.Calls.Reads as calls
use Rattle.iol_core.specs.declared.descriptors.Descriptor.{Descriptor}
use Rattle.iol_core.specs.declared.descriptors.Descriptor.TheVariants as on
use Rattle.iol_kernel.specs.Kernel.{state_of}
use Rattle.iol_kernel.specs.QueueSlices.{TakesSlices}
use Rattle.iol_kernel.specs.Readings.{bytes_over}
use Rattle.iol_kernel.proofs.Queues.QueueSlices as queue
use Rattle.iol_kernel.specs.OpenDescriptors.{IsOpenOn}
use Rattle.iol_kernel.proofs.Queues.Reads.{reads_file, reads_queue, reads_unopened, serves_unopened}
use Rattle.iol_kernel.proofs.State.CacheUntouched.{carried_serves}
use Rattle.iol_kernel.proofs.kernel.Kernel.iol_read.Given.{Over}
use Rattle.iol_kernel.proofs.kernel.Kernel.iol_read.Goals as goal
use Rattle.iol_kernel.proofs.kernel.Kernel.iol_read.Goals.{In-Some, In_ok-from}

pub returns-in_err-from : goal.returns-in_err-from
returns-in_err-from g c =
    let h = state_of c.args.self.now in
    let disk = g.B.Backing.disk c.args.backing.now in
    let serves =
    serves_unopened h c.args.by c.args.fd c.args.count c.in_err-from.field-0.0 c.requires c.in_err-from.ensures.err
    disk in
    let reads =
    reads_unopened h c.args.by c.args.fd c.args.count c.in_err-from.field-0.0 c.requires c.in_err-from.ensures.err
    disk in
    record { serves = search (rules, serves); reads = search (rules, reads); slices = λ no_file. search (rules) }

-- the descriptor is open
opened : (g : Over) (c : In_ok-from g) → IsOpenOn (state_of c.args.self.now) c.args.by c.args.fd c.in_ok-from.from
opened g c = record { sound = c.requires; live = c.in_ok-from.ensures.live; from = c.in_ok-from.ensures.open }

-- on a file
on_file : (g : Over) (c : In-Some g)
    → IsOpenOn (state_of c.args.self.now) c.args.by c.args.fd
    (on.File c.in-Some.found.file c.in-Some.found.at c.in-Some.found.mode)
on_file g c = record {
  sound = c.requires;
  live = c.in_ok-from.ensures.live;
  from = λ f. c.in_ok-from.ensures.open f
      ∙ ap (λ (x : Descriptor). Some x) c.in-Some.ensures.some;
}

pub read_file-requires : goal.read_file-requires
read_file-requires g c = record { is = on_file g (goal.at.read_file-requires g c).In-Some }

pub returns-in-Some : goal.returns-in-Some
returns-in-Some g c = record {
  serves = c.read_file.ensures.serves;
  reads = reads_file (state_of c.args.self.now) (state_of c.read_file.new.self) c.args.by c.args.fd c.args.count
      c.in-Some.found c.read_file.result (g.B.Backing.disk c.args.backing.now)
      (g.B.Backing.disk c.read_file.new.backing)
      (on_file g (goal.at.returns-in-Some g c).In-Some) c.read_file.ensures;
  slices = queue.on_file ((on_file g (goal.at.returns-in-Some g c).In-Some).from (bytes_over [] c.args.self.now.store));
}

pub read_queue-requires : goal.read_queue-requires
read_queue-requires g c = record {
  held = opened g (goal.at.read_queue-requires g c).In_ok-from;
  no_file =
      search (rules);
}

pub returns-in-None : goal.returns-in-None
returns-in-None g c =
    let h = state_of c.args.self.now in
    let k = state_of c.read_queue.new.self in
    let disk = g.B.Backing.disk c.args.backing.now in
    record {
      serves = carried_serves (λ s. calls.iol_read s c.args.by c.args.fd c.args.count) h k c.read_queue.result
          c.requires c.read_queue.ensures.carries disk;
      reads = reads_queue h k c.args.by c.args.fd c.args.count c.in_ok-from.from c.read_queue.result disk
          (opened g (goal.at.returns-in-None g c).In_ok-from) (search (rules)) c.read_queue.ensures.carries;
      slices = λ no_file. subst (λ (o : Option Descriptor). OnOk c.read_queue.result (TakesSlices c.args.by o h k))
          (sym (c.in_ok-from.ensures.open (bytes_over [] h.store))) c.read_queue.ensures.slices;
    }
