use Rattle.std.proofs.Common.{◌≡◌, [], true, refl, rules}
use Rattle.iol_core.specs.Calls.Writes.{is_file}
use Rattle.iol_kernel.specs.FileReads.{held_by}
use Rattle.iol_kernel.specs.Kernel.{state_of}
use Rattle.iol_kernel.specs.KernelState.{machine_of}
use Rattle.iol_kernel.specs.Readings.{bytes_over}
use Rattle.iol_posix.proofs.copy_out.read_front.Goals as goal

pub returns-in-None : goal.returns-in-None
returns-in-None g c = let serves = c.read_queue.ensures.reads.serves (g.B.Backing.disk c.args.backing.now) in
    search (rules, serves)

pub returns-in-Some : goal.returns-in-Some
returns-in-Some g c =
    let h = state_of c.args.kernel.now in
    let of_bytes = bytes_over [] h.store in
    let e = c.copy_file_into.ensures in
    let on_file : is_file (held_by (machine_of [] h) c.args.by c.args.fd) ≡ true =
    rw (c.in-Some.ensures.live of_bytes, c.in-Some.ensures.from of_bytes) refl in
    record {
      serves = e.copies.serves;
      copies = rw (c.in-Some.ensures.live of_bytes, c.in-Some.ensures.from of_bytes) e.copies.copies;
      not_memory = λ no_file is. absurd (cc (on_file, no_file));
      count = e.count;
      len = e.len;
      rest = e.rest;
      err = e.err;
    }
