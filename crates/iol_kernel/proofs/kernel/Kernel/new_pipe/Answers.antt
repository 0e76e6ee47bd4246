use Rattle.std.proofs.Common.{[], ◌≡◌, ◌∙◌, ap, arith, List}
use Rattle.std.specs.Prelude.{Option}
use Rattle.iol_core.specs.NumberedLists.{lowest, placed, taken}
use Rattle.iol_desc.specs.Tables.{domains_of, domain_in, with_fds_in, with_ends}
use Rattle.iol_hold.specs.declared.slices.Slice.{Slice}
use Rattle.iol_kernel.specs.Views.{Pipe}
use Rattle.iol_kernel.specs.Kernel.{state_of}
use Rattle.iol_kernel.specs.Queues.{empty_pipe}
use Rattle.iol_kernel.specs.Readings.{bytes_over}
use Rattle.iol_kernel.proofs.State.TableCalls.{attempted}
use Rattle.iol_kernel.proofs.Queues.PipeEnds.{ends_of, few_open_held, piped_answers}
use Rattle.iol_kernel.proofs.State.ReadOf.{taken_pipes-read_of}
use Rattle.iol_kernel.proofs.kernel.Kernel.new_pipe.Goals as goal

pub next-requires : goal.next-requires
next-requires c =
    let h = state_of c.args.self.now in
    omega (
      arith,
      c.requires.few_pipes,
      taken_pipes-read_of (bytes_over [] h.store) h,
      ap (λ (qs : List (Option (Pipe (List Slice)))). taken qs) c.in_ok-reserve.ensures.same,
    )

pub add_ends-requires-clause-few : goal.add_ends-requires-clause-few
add_ends-requires-clause-few c =
    omega (
      arith,
      few_open_held (bytes_over [] c.args.self.now.store) (state_of c.args.self.now) c.args.by 2
          c.requires.few,
    )

pub returns : goal.returns
returns c =
    let h = state_of c.args.self.now in
    let d = c.args.by in
    let xs = (domain_in h.domains d).fds in
    let next : c.next.result ≡ lowest h.pipes = c.next.ensures
    ∙ ap (λ (qs : List (Option (Pipe (List Slice)))). lowest qs) c.in_ok-reserve.ensures.same in
    attempted (piped_answers h (domains_of c.add_ends.new.self) c.add.new.self.places d c.in_ok-ends.ends c.requires
    (c.in_ok-ends.ensures.numbers ∙ ap (ends_of xs) next)
    (c.in_ok-ends.ensures.opened ∙ ap (λ n. with_fds_in h.domains d (with_ends xs n)) next)
    (c.add.ensures ∙ ap (λ (qs : List (Option (Pipe (List Slice)))). placed qs (lowest qs) empty_pipe)
    c.in_ok-reserve.ensures.same))
