use Rattle.std.proofs.Common.{◌≡◌, ℕ, ◌∙◌, ap, List, []}
use Rattle.std.specs.Prelude.{fold, true}
use Rattle.iol_core.specs.NumberedLists.{taken}
use Rattle.iol_core.specs.State as machine
use Rattle.iol_core.specs.State.{State, Domain, no_domain}
use Rattle.iol_core.specs.Calls.Descriptors.{closed_on, with_fds}
use Rattle.iol_hold.specs.declared.slices.Slice.{Slice}
use Rattle.iol_desc.specs.Tables.{domains_of, domain_in, with_aggs_in, with_fds_in}
use Rattle.iol_kernel.specs.KernelState.{KernelState, read_of}
use Rattle.iol_kernel.specs.Kernel.{state_of}
use Rattle.iol_kernel.proofs.State.Effects.{leaves_as, leaves_then, dropped}
use Rattle.iol_kernel.proofs.State.ReadOf.{live_held, is_live-read_of}
use Rattle.iol_kernel.proofs.Queues.CloseAll.{ended_all, pools-fold, pools-with_domain}
use Rattle.iol_kernel.proofs.AggregateCalls.DomainEnd.{domain_ended}
use Rattle.iol_kernel.proofs.State.Rows.{domain_in-changed}
use Rattle.iol_kernel.proofs.kernel.Kernel.end.Goals as goal

pub close_fds-requires : goal.close_fds-requires
close_fds-requires c =
    let h : KernelState = state_of c.args.self.now in
    let k : KernelState = state_of c.drop_aggs.new.self in
    let live = live_held _ h c.args.by c.requires.live in
    let still = is_live-read_of _ k c.args.by
    ∙ ap (λ (x : Domain (List Slice)). x.live)
    (domain_in-changed h.domains k.domains c.args.by _ live c.drop_aggs.ensures.domains) ∙ live in
    record { sound = c.drop_aggs.ensures.dropped.sound; live = still }

-- the domain's row before its end
left_of : (h k l : KernelState) (d : ℕ) → (domain_in h.domains d).live ≡ true → k.domains ≡ with_aggs_in h.domains d []
    → l.domains ≡ with_fds_in k.domains d [] → domain_in l.domains d ≡ record (domain_in h.domains d) {
      aggs = [];
      fds =
          [];
    }
left_of h k l d live dropped closed =
    let x = domain_in-changed h.domains k.domains d (record (domain_in h.domains d) { aggs = [] }) live dropped in
    domain_in-changed k.domains l.domains d (record (domain_in k.domains d) { fds = [] })
    (ap (λ (y : Domain (List Slice)). y.live) x ∙ live) closed
    ∙ ap (λ (y : Domain (List Slice)). record y { fds = [] }) x

pub end_domain-requires-clause-live : goal.end_domain-requires-clause-live
end_domain-requires-clause-live c =
    let h : KernelState = state_of c.args.self.now in
    let live = live_held _ h c.args.by c.requires.live in
    ap (λ (y : Domain (List Slice)). y.live) (left_of h (state_of c.drop_aggs.new.self) (state_of c.close_fds.new.self)
    c.args.by live c.drop_aggs.ensures.domains c.close_fds.ensures.domains) ∙ live

pub end_domain-requires-clause-no_aggs : goal.end_domain-requires-clause-no_aggs
end_domain-requires-clause-no_aggs c =
    let h : KernelState = state_of c.args.self.now in
    ap (λ (y : Domain (List Slice)). y.aggs) (left_of h (state_of c.drop_aggs.new.self) (state_of c.close_fds.new.self)
    c.args.by (live_held _ h c.args.by c.requires.live) c.drop_aggs.ensures.domains c.close_fds.ensures.domains)

pub end_domain-requires-clause-no_fds : goal.end_domain-requires-clause-no_fds
end_domain-requires-clause-no_fds c =
    let h : KernelState = state_of c.args.self.now in
    ap (λ (y : Domain (List Slice)). taken y.fds)
    (left_of h (state_of c.drop_aggs.new.self) (state_of c.close_fds.new.self) c.args.by
    (live_held _ h c.args.by c.requires.live) c.drop_aggs.ensures.domains c.close_fds.ensures.domains)

pub returns : goal.returns
returns c =
    let h : KernelState = state_of c.args.self.now in
    let k : KernelState = state_of c.drop_aggs.new.self in
    let l : KernelState = state_of c.close_fds.new.self in
    let d = c.args.by in
    let live = live_held _ h d c.requires.live in
    let left = left_of h k l d live c.drop_aggs.ensures.domains c.close_fds.ensures.domains in
    let drop' = λ (s : State). machine.with_domain s d (record (machine.domain s d) { aggs = [] }) in
    let close' = λ (s : State). fold closed_on (with_fds s d []) (machine.domain s d).fds in
    let end' = λ (s : State). machine.with_domain s d no_domain in
    let last =
    domain_ended l (domains_of c.end_domain.new.self) d c.close_fds.ensures.closed.sound
    (ap (λ (y : Domain (List Slice)). y.live) left ∙ live) (ap (λ (y : Domain (List Slice)). y.aggs) left)
    c.end_domain.ensures in
    leaves_as (λ s. end' (close' (drop' s)))
    (λ s. machine.with_domain (fold closed_on s (machine.domain s d).fds) d no_domain) h _
    (λ f. ended_all (read_of f h) d (is_live-read_of f h d ∙ live))
    (leaves_then (λ s. close' (drop' s)) end' h l _
    (λ s. pools-fold (with_fds (drop' s) d []) (machine.domain (drop' s) d).fds ∙ pools-with_domain (drop' s) d _
    ∙ pools-with_domain s d _)
    (leaves_then drop' close' h k l (λ s. pools-with_domain s d _) c.drop_aggs.ensures.dropped
    c.close_fds.ensures.closed) last)
