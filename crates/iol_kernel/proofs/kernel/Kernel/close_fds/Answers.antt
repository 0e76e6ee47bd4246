use Rattle.std.proofs.Common.{◌∙◌, sym, ap, List, []}
use Rattle.std.specs.Prelude.{fold, Option}
use Rattle.iol_core.specs.State.{domain}
use Rattle.iol_core.specs.Calls.Descriptors.{closed_on, with_fds}
use Rattle.iol_core.specs.declared.descriptors.Descriptor.{Descriptor}
use Rattle.iol_desc.specs.Tables.{domains_of}
use Rattle.iol_kernel.specs.KernelState.{read_of}
use Rattle.iol_kernel.specs.Kernel.{state_of}
use Rattle.iol_kernel.proofs.Queues.CloseAll.{pools-with_domain}
use Rattle.iol_kernel.proofs.State.Effects.{fds-changed, leaves_here, leaves_then, leaves_as}
use Rattle.iol_kernel.proofs.State.ReadOf.{fds-read_of}
use Rattle.iol_kernel.proofs.Queues.TakenEnds.{all_let_go}
use Rattle.iol_kernel.proofs.kernel.Kernel.close_fds.Goals as goal

pub close_ends-requires : goal.close_ends-requires
close_ends-requires c =
    all_let_go (state_of c.args.self.now) (domains_of c.take_fds-ends.new.self) c.args.by c.deref.result.now c.requires
    (c.deref.ensures.value ∙ c.take_fds-ends.ensures.given) c.take_fds-ends.ensures.rest

pub returns-clause-closed : goal.returns-clause-closed
returns-clause-closed c =
    let h = state_of c.args.self.now in
    let d = c.args.by in
    let ends : List (Option Descriptor) = c.deref.result.now in
    let one =
    leaves_here (λ s. with_fds s d []) h (domains_of c.take_fds-ends.new.self)
    (λ f. fds-changed f h (domains_of c.take_fds-ends.new.self) d [] c.take_fds-ends.ensures.rest)
    (all_let_go h (domains_of c.take_fds-ends.new.self) d ends c.requires (c.deref.ensures.value
    ∙ c.take_fds-ends.ensures.given) c.take_fds-ends.ensures.rest).sound in
    leaves_as (λ s. fold closed_on (with_fds s d []) ends) (λ s. fold closed_on (with_fds s d []) (domain s d).fds) h
    (state_of c.close_ends.new.self)
    (λ f. ap (λ (xs : List (Option Descriptor)). fold closed_on (with_fds (read_of f h) d []) xs) (c.deref.ensures.value
    ∙ c.take_fds-ends.ensures.given ∙ sym (fds-read_of f h d)))
    (leaves_then (λ s. with_fds s d []) (λ s. fold closed_on s ends) h _ (state_of c.close_ends.new.self)
    (λ s. pools-with_domain s d (record (domain s d) { fds = [] })) one c.close_ends.ensures.closed)
