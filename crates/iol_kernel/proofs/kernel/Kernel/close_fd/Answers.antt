use Rattle.std.proofs.Common.{◌∙◌, ap, refl, sym, List, Option, None}
use Rattle.std.specs.Prelude.{Some, slice_set}
use Rattle.iol_core.specs.State.{domain}
use Rattle.iol_core.specs.Calls.Descriptors.{closed_on, with_fds, freed}
use Rattle.iol_core.specs.declared.descriptors.Descriptor.{Descriptor}
use Rattle.iol_desc.specs.Tables.{domains_of, domain_in}
use Rattle.iol_kernel.specs.Kernel.{state_of}
use Rattle.iol_kernel.specs.KernelState.{read_of}
use Rattle.iol_kernel.proofs.Queues.CloseAll.{closed_on-with_fds, pools-with_domain}
use Rattle.iol_kernel.proofs.State.Effects.{fds-changed, leaves_here, leaves_then, leaves_as}
use Rattle.iol_kernel.proofs.Queues.PipeEnds.{freed-read_of, let_go, not_none, open_in}
use Rattle.iol_kernel.proofs.State.ReadOf.{open_row}
use Rattle.iol_kernel.proofs.kernel.Kernel.close_fd.Goals as goal

pub take_fd-requires-clause-live : goal.take_fd-requires-clause-live
take_fd-requires-clause-live c = open_row c.requires

pub take_fd-requires-clause-there : goal.take_fd-requires-clause-there
take_fd-requires-clause-there c = not_none _ _ c.args.end (open_in c.requires) refl

pub close_end-requires : goal.close_end-requires
close_end-requires c = let_go (state_of c.args.self.now) (domains_of c.take_fd.new.self) c.args.by c.args.fd c.args.end
    c.requires c.take_fd.ensures

pub returns : goal.returns
returns c =
    let h = state_of c.args.self.now in
    let d = c.args.by in
    let xs = slice_set (domain_in h.domains d).fds c.args.fd None in
    let free = let_go h (domains_of c.take_fd.new.self) d c.args.fd c.args.end c.requires c.take_fd.ensures in
    let one =
    leaves_here (λ s. with_fds s d xs) h (domains_of c.take_fd.new.self)
    (λ f. fds-changed f h (domains_of c.take_fd.new.self) d xs c.take_fd.ensures) free.sound in
    leaves_as (λ s. closed_on (with_fds s d xs) (Some c.args.end))
    (λ s. with_fds (closed_on s (Some c.args.end)) d (freed s d c.args.fd)) h (state_of c.close_end.new.self)
    (λ f. closed_on-with_fds (read_of f h) d xs (Some c.args.end)
    ∙ ap (λ (ys : List (Option Descriptor)). with_fds (closed_on (read_of f h) (Some c.args.end)) d ys)
    (sym (freed-read_of f h d c.args.fd)))
    (leaves_then (λ s. with_fds s d xs) (λ s. closed_on s (Some c.args.end)) h _ (state_of c.close_end.new.self)
    (λ s. pools-with_domain s d (record (domain s d) { fds = xs })) one c.close_end.ensures.closed)
