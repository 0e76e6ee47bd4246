use Rattle.iol_core.specs.Calls.Writes as calls
use Rattle.std.specs.Prelude.{OnOk}
use Rattle.std.proofs.Common.{[], inl, ◌≡◌, ◌∙◌, length, Option, refl, subst, sym}
use Rattle.iol_core.specs.declared.descriptors.Descriptor.{Descriptor}
use Rattle.iol_core.specs.State.{descriptor}
use Rattle.iol_core.specs.declared.refusals.Refusal.TheVariants.{NoRoom}
use Rattle.iol_kernel.specs.Kernel.{state_of}
use Rattle.iol_kernel.specs.KernelState.{machine_of}
use Rattle.iol_kernel.specs.QueueSlices.{QueuesFew}
use Rattle.iol_kernel.specs.WritesByCopy.{lands_in, written_to}
use Rattle.iol_kernel.specs.Readings.{bytes_over}
use Rattle.iol_kernel.specs.FileWrites.{LaysOn, PutsOn}
use Rattle.iol_kernel.proofs.Queues.CopyingWrites.{left_placing, put_refused}
use Rattle.iol_kernel.proofs.FileCalls.CopyingWrites.{laid_queue, laid_refused, puts_queue, puts_refused}
use Rattle.iol_kernel.proofs.kernel.Kernel.write_bytes.Goals as goal

pub returns-in-Err : goal.returns-in-Err
returns-in-Err c =
    let h = state_of c.args.self.now in
    let o : Option Descriptor = descriptor (machine_of [] h) c.args.by c.args.fd in
    let pool = lands_in c.args.by c.args.fd (machine_of [] h) in
    let fails = c.in-Err.ensures.refused in
    record {
      serves =
          (put_refused (written_to c.args.by c.args.fd) 0 0 c.args.by c.args.fd c.args.bytes.now h c.in-Err.refusal
          c.requires fails).serves;
      queue = λ no_file. put_refused (written_to c.args.by c.args.fd) _ _ c.args.by c.args.fd c.args.bytes.now h
          c.in-Err.refusal c.requires fails;
      slices = λ no_file. tt;
      room = tt;
      no_room = λ p e. (let is : c.in-Err.refusal ≡ NoRoom p = cc in absurd (fails.roomy p is));
      memory =
          (put_refused (written_to c.args.by c.args.fd) pool
          (calls.write (machine_of [] h) c.args.by c.args.fd c.args.bytes.now).answer c.args.by c.args.fd
          c.args.bytes.now h c.in-Err.refusal c.requires fails).memory;
      refused = inl refl;
      puts = puts_refused o pool (length c.args.bytes.now) h c.in-Err.refusal;
      lays = laid_refused o pool c.args.bytes.now h c.in-Err.refusal;
    }

pub returns : goal.returns
returns c =
    let h = state_of c.args.self.now in
    let k = state_of c.put.new.self in
    let s = machine_of [] h in
    let open' = sym (c.descriptor.ensures (bytes_over [] h.store)) ∙ c.in-Some.is in
    let pool = lands_in c.args.by c.args.fd s in
    let placed = c.put.ensures.places in
    record {
      serves = placed.serves;
      queue = λ no_file. placed;
      slices =
          λ no_file. subst (λ (o : Option Descriptor). OnOk c.put.result (QueuesFew (length c.args.bytes.now) o h k))
          (sym open') c.put.ensures.slices;
      room = placed.room;
      no_room = placed.no_room;
      memory = placed.memory;
      puts = subst (λ (o : Option Descriptor). PutsOn o pool (length c.args.bytes.now) h c.put.result k) (sym open')
          (puts_queue c.in-Some.to c.in_default-to.not-File pool (length c.args.bytes.now) h k c.put.result);
      lays = subst (λ (o : Option Descriptor). LaysOn o pool c.args.bytes.now h c.put.result k) (sym open')
          (laid_queue c.in-Some.to c.in_default-to.not-File pool c.args.bytes.now h k c.put.result);
      refused = left_placing pool (calls.write s c.args.by c.args.fd c.args.bytes.now).answer h k c.put.result
          placed.refused;
    }
