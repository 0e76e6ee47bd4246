use Rattle.std.proofs.Common.{◌≡◌, ◌∙◌, ◌++◌, ℕ, [], Option, Some, ap, drop, length, subst, sym}
use Rattle.std.proofs.lemmas.List.{length-map}
use Rattle.iol_core.specs.State.{descriptor}
use Rattle.iol_core.specs.Text.{bytes_of}
use Rattle.iol_core.specs.Calls.Reads.{can_read, read_text}
use Rattle.iol_core.specs.declared.descriptors.Descriptor.{Descriptor}
use Rattle.iol_hold.proofs.AtPlaces.{keeps_bytes}
use Rattle.iol_kernel.specs.Kernel.{state_of}
use Rattle.iol_kernel.specs.KernelState.{machine_of, read_of}
use Rattle.iol_kernel.specs.Readings.{Reading, bytes_over}
use Rattle.iol_kernel.proofs.Queues.LookUps.{source_held}
use Rattle.iol_kernel.proofs.Queues.TakenBytes.{copied_left}
use Rattle.iol_kernel.proofs.kernel.Kernel.take_into.Goals as goal

pub copy_front-count-requires : goal.copy_front-count-requires
copy_front-count-requires c =
    let h = state_of c.args.self.now in
    let from = sym (c.descriptor.ensures (bytes_over [] h.store)) ∙ c.in-Some.is in
    source_held h c.args.by c.args.fd c.in-Some.from c.requires.queue.sound c.requires.live from
    c.requires.queue.no_file (sym (ap can_read from) ∙ c.requires.readable)

pub skip-requires : goal.skip-requires
skip-requires c =
    let h = state_of c.args.self.now in
    let from = sym (c.descriptor.ensures (bytes_over [] h.store)) ∙ c.in-Some.is in
    source_held h c.args.by c.args.fd c.in-Some.from c.requires.queue.sound c.requires.live from
    c.requires.queue.no_file (sym (ap can_read from) ∙ c.requires.readable)

pub returns : goal.returns
returns c =
    let h = state_of c.args.self.now in
    let s = machine_of [] h in
    let memory = c.args.into.now in
    let count = c.copy_front-count.result in
    let from : (f : Reading) → descriptor (read_of f h) c.args.by c.args.fd ≡ Some c.in-Some.from =
    λ f. sym (c.descriptor.ensures f) ∙ c.in-Some.is in
    let here = sym (from (bytes_over [] h.store)) in
    let e = c.copy_front-count.ensures in
    record {
      copied =
          subst (λ (o : Option Descriptor). c.copy_front-count.new.into
          ≡ bytes_of (read_text s c.args.by o (length memory)) ++ drop count memory) here e.copied;
      count = e.count (bytes_over [] h.store) (keeps_bytes h.store)
          ∙ ap (λ (o : Option Descriptor). length (read_text s c.args.by o (length memory))) here
          ∙ sym (length-map (read_text s c.args.by (descriptor s c.args.by c.args.fd) (length memory))
          (λ (b : ℕ × ℕ). b.0));
      left =
          copied_left h c.args.by c.args.fd (length memory) count c.in-Some.from from e.count (state_of c.skip.new.self)
          (c.skip.ensures c.args.by c.args.fd);
    }
