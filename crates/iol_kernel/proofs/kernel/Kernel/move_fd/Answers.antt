use Rattle.std.proofs.Common.{[], ◌≢◌, ◌∙◌, refl, sym, ap, arith}
use Rattle.std.specs.Prelude.{slice_index_or, List, Option, None}
use Rattle.iol_core.specs.declared.descriptors.Descriptor.{Descriptor}
use Rattle.iol_desc.specs.Tables.{domains_of}
use Rattle.iol_kernel.specs.Kernel.{state_of}
use Rattle.iol_kernel.specs.Readings.{bytes_over}
use Rattle.iol_kernel.proofs.Queues.PipeEnds.{open_in, not_none, few_to, other_live, other_fds, moved_within}
use Rattle.iol_kernel.proofs.Queues.PipeEnds.{moved_across}
use Rattle.iol_kernel.proofs.State.TableCalls.{attempted}
use Rattle.iol_kernel.proofs.State.ReadOf.{open_row}
use Rattle.iol_kernel.proofs.kernel.Kernel.move_fd.Goals as goal

pub move_fd-requires-clause-there : goal.move_fd-requires-clause-there
move_fd-requires-clause-there c = not_none _ _ c.args.given (open_in c.requires.held) refl

pub add_fd-requires-clause-few : goal.add_fd-requires-clause-few
add_fd-requires-clause-few c =
    let differ : c.args.by ≢ c.args.to = λ e. c.if-number.false (c.number.ensures ∙ e ∙ sym c.number-2.ensures) in
    let few = few_to (bytes_over [] c.args.self.now.store) (state_of c.args.self.now) c.args.by c.args.to differ
    c.requires.few in
    omega (arith, few)

pub take_fd-requires-clause-live : goal.take_fd-requires-clause-live
take_fd-requires-clause-live c =
    other_live (domains_of c.args.self.now.domains) (domains_of c.add_fd.new.self) c.args.by c.args.to c.args.given
    (λ e. c.if-number.false (c.number.ensures ∙ sym e ∙ sym c.number-2.ensures)) c.in_ok-number.ensures.opened
    (open_row c.requires.held)

pub take_fd-requires-clause-there : goal.take_fd-requires-clause-there
take_fd-requires-clause-there c =
    not_none _ _ c.args.given (open_in c.requires.held)
    (ap (λ (xs : List (Option Descriptor)). slice_index_or xs c.args.fd None)
    (other_fds (domains_of c.args.self.now.domains) (domains_of c.add_fd.new.self) c.args.by c.args.to c.args.given
    (λ e. c.if-number.false (c.number.ensures ∙ sym e ∙ sym c.number-2.ensures)) c.in_ok-number.ensures.opened))

pub returns-then-number : goal.returns-then-number
returns-then-number c =
    attempted (moved_within (state_of c.args.self.now) (domains_of c.move_fd.new.self) c.args.by c.args.fd c.args.to _
    c.args.given c.requires (sym c.number.ensures ∙ c.if-number.true ∙ c.number-2.ensures) c.move_fd.ensures.number
    c.move_fd.ensures.moved)

pub returns : goal.returns
returns c =
    let differ : c.args.by ≢ c.args.to = λ e. c.if-number.false (c.number.ensures ∙ e ∙ sym c.number-2.ensures) in
    let e = c.in_ok-number.ensures in
    attempted (moved_across (state_of c.args.self.now) (domains_of c.add_fd.new.self) (domains_of c.take_fd.new.self)
    c.args.by c.args.fd c.args.to _ c.args.given c.requires differ e.number e.opened c.take_fd.ensures)
