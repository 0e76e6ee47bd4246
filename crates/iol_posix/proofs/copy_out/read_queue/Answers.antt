use Rattle.std.proofs.Common.{rules, arith, ◌≡◌, ℕ, [], length, drop, refl}
use Rattle.std.specs.Prelude.{Result, Err}
use Rattle.std.proofs.lemmas.Grind.{common_steps}
use Rattle.iol_core.specs.Calls.Reads.{read}
use Rattle.iol_core.specs.declared.refusals.Refusal.{Refusal}
use Rattle.iol_core.specs.declared.refusals.Refusal.TheVariants.{Memory}
use Rattle.iol_kernel.specs.Kernel.{state_of}
use Rattle.iol_kernel.specs.KernelState.{machine_of}
use Rattle.iol_kernel.proofs.Queues.CopiedBytes.{front_is, on_no_file, read_refused, taken_out, tests_not_memory}
use Rattle.iol_kernel.proofs.State.TableCalls.{refusal_of}
use Rattle.iol_posix.proofs.copy_out.read_queue.Goals as goal

pub returns-in_err-waiting : goal.returns-in_err-waiting
returns-in_err-waiting c =
    let h = state_of c.args.kernel.now in
    let y = c.in_err-waiting.field-0.0 in
    let refused = c.in_err-waiting.ensures.refused in
    let kept = read_refused h h c.args.by c.args.fd (length c.args.into.now) y c.requires.sound refused refl in
    let never : ◌≡◌ {A = Result ℕ Refusal} (Err y) (Err Memory) → ⊥ =
    λ is. tests_not_memory h c.args.by c.args.fd (length c.args.into.now) y refused (refusal_of y Memory is) in
    search (rules, kept, never)

pub returns : goal.returns
returns c =
    let h = state_of c.args.kernel.now in
    let into = c.args.into.now in
    let e = c.take_into.ensures in
    let front =
    front_is (read (machine_of [] h) c.args.by c.args.fd (length into)).answer (drop c.take_into.result into)
    c.take_into.new.into c.take_into.result e.copied e.count in
    record {
      reads = taken_out h (state_of c.take_into.new.self) c.args.by c.args.fd (length into) _ c.requires.sound
          (on_no_file h c.args.by c.args.fd c.in_ok-waiting.ensures.live c.requires.no_file)
          c.in_ok-waiting.ensures.passed front e.left;
      not_memory = λ is. cc is;
      count = grind (arith, common_steps);
      len = search (rules);
      rest = grind (arith, common_steps);
      err = tt;
    }
