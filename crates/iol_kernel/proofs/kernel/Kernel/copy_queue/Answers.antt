use Rattle.std.proofs.Common.{rules, [], ◌≡◌, ◌∙◌, ap, arith, length, take, drop, refl}
use Rattle.std.proofs.lemmas.List.{take_at}
use Rattle.iol_core.specs.Calls.Reads.{read}
use Rattle.iol_kernel.specs.Kernel.{state_of}
use Rattle.iol_kernel.specs.KernelState.{machine_of}
use Rattle.iol_kernel.proofs.Queues.CopiedBytes.{front_is, listed, on_no_file, read_refused, read_unlisted}
use Rattle.iol_kernel.proofs.kernel.Kernel.copy_queue.Goals as goal

pub returns-in_err-most : goal.returns-in_err-most
returns-in_err-most c =
    let h = state_of c.args.self.now in
    let kept = read_refused h h c.args.by c.args.fd c.args.count c.in_err-most.field-0.0 c.requires.sound
    c.in_err-most.ensures.refused refl in
    search (rules, kept)

pub returns-in_err-list : goal.returns-in_err-list
returns-in_err-list c =
    let h = state_of c.args.self.now in
    let kept = read_unlisted h h c.args.by c.args.fd c.args.count c.requires.sound c.in_ok-most.ensures.passed refl in
    search (rules, kept)

pub returns : goal.returns
returns c =
    let h = state_of c.args.self.now in
    let into = c.as_mut_slice.result.now in
    let e = c.take_into-taken.ensures in
    let size : length into ≡ c.in_ok-most.most =
    omega (
      arith,
      ap length c.as_mut_slice.ensures.value,
      c.as_mut_slice.ensures.len,
      c.in_ok-list.ensures.len,
      c.in_ok-list.list.ok.0,
    ) in
    let new = c.take_into-taken.new.into in
    let room : length new ≡ c.in_ok-list.list.len =
    omega (
      arith,
      c.take_into-taken.auto.into,
      ap length c.as_mut_slice.ensures.value,
      c.as_mut_slice.ensures.len,
      c.in_ok-list.list.ok.0,
    ) in
    let back = take_at new (drop (length new) c.in_ok-list.list.items) c.in_ok-list.list.len room in
    let bytes = c.from_vec.ensures ∙ c.truncate.ensures.items ∙ ap (take c.take_into-taken.result) back
    ∙ front_is (read (machine_of [] h) c.args.by c.args.fd (length into)).answer
    (drop c.take_into-taken.result into) c.take_into-taken.new.into c.take_into-taken.result e.copied e.count in
    listed h (state_of c.take_into-taken.new.self) c.args.by c.args.fd c.args.count (length into) c.from_vec.result
    c.requires.sound (on_no_file h c.args.by c.args.fd c.in_ok-most.ensures.live c.requires.no_file)
    c.in_ok-most.ensures.passed (λ f. size ∙ c.in_ok-most.ensures.some f) bytes e.left
