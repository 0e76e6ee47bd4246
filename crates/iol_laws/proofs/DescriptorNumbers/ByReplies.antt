-- A descriptor that is not open is not open after a step that does not give its number, and numbers are below the
-- limit.
use Rattle.std.proofs.Common.{inl, inr, ◌≡◌, ◌≢◌, ℕ, ◌==◌, List, ap, ◌∙◌, refl, sym, subst, arith, Option, Some, None}
use Rattle.std.proofs.Common.{true, false, Bool}
use Rattle.std.specs.Prelude.{option_map, unwrap_or, fold, if◌then◌else◌, ◌&&◌, ◌||◌}
use Rattle.std.specs.Option.{option_map_or}
use Rattle.std.proofs.lemmas.Bool.Decides.{nat_tests}
use Rattle.std.proofs.lemmas.Grind.{common_steps}
use Rattle.iol_core.specs.Text.{Text}
use Rattle.iol_core.specs.NumberedLists.{in_place, lowest, placed}
use Rattle.iol_core.specs.State.{State, Domain, domain, descriptor, text, new_domain, no_domain, with_domain, with_conn}
use Rattle.iol_core.specs.State.{with_content}
use Rattle.iol_core.specs.Run.{called, meaning, StepsTo}
use Rattle.iol_core.specs.Calls.Domains.{domain_new}
use Rattle.iol_core.specs.Calls.Aggregates as aggs
use Rattle.iol_core.specs.Calls.Descriptors as fds
use Rattle.iol_core.specs.Calls.Files as files
use Rattle.iol_core.specs.Calls.Reads as reading
use Rattle.iol_core.specs.Calls.Writes as writing
use Rattle.iol_core.specs.declared.descriptors.Descriptor.{Descriptor}
use Rattle.iol_core.specs.declared.descriptors.Descriptor.TheVariants as on
use Rattle.iol_core.specs.declared.events.Call.{Call}
use Rattle.iol_core.specs.declared.events.Call.TheVariants as call
use Rattle.iol_core.specs.declared.events.Event.{Event}
use Rattle.iol_core.specs.declared.events.Event.TheVariants as event
use Rattle.iol_core.specs.declared.events.Reply.{Reply}
use Rattle.iol_core.specs.declared.events.Reply.TheVariants as reply
use Rattle.iol_core.proofs.Lookups.{domain-with_domain, domain-same, domain-push}
use Rattle.iol_core.proofs.Places.{place-set_other}
use Rattle.iol_laws.proofs.Gives.{agg_given}
use Rattle.iol_laws.specs.DescriptorNumbers.{opens}
use Rattle.iol_laws.proofs.Domains.{domains-all_closed, domains-closed_on, domains-with_conn, domains-with_pipe}
use Rattle.iol_laws.proofs.DescriptorNumbers.Lowest.{free-freed}
use Rattle.iol_laws.proofs.Places.{place-placed_other}
use Rattle.iol_laws.proofs.Tests.{same-number, differs}

-- Descriptors that are not open, after each kind of change.

abbrev Shut : State → (d fd : ℕ) → Type 0
Shut s d fd = descriptor s d fd ≡ None

shut_same : (s t : State) (d fd : ℕ) → t.domains ≡ s.domains → Shut s d fd → Shut t d fd
shut_same s t d fd same none = ap (λ (y : Domain Text). in_place y.fds fd) (domain-same s t d same) ∙ none

shut_domain : (s : State) (by : ℕ) (y : Domain Text) (d fd : ℕ) → (by ≡ d → in_place y.fds fd ≡ None) → Shut s d fd
    → Shut (with_domain s by y) d fd
shut_domain s by y d fd new none = elim (domain-with_domain s by d y) [
  | inl both ↦ ap (λ (z : Domain Text). in_place z.fds fd) both.1 ∙ new both.0
  | inr same ↦ ap (λ (z : Domain Text). in_place z.fds fd) same ∙ none
]

-- the same for an equal number of the domain
own : (s : State) (by d fd : ℕ) → Shut s d fd → by ≡ d → Shut s by fd
own s by d fd none same = subst (λ n. Shut s n fd) (sym same) none

shut_fds : (s : State) (by : ℕ) (xs : List (Option Descriptor)) (d fd : ℕ) → (by ≡ d → in_place xs fd ≡ None)
    → Shut s d fd → Shut (fds.with_fds s by xs) d fd
shut_fds s by xs d fd new none = shut_domain s by (record (domain s by) { fds = xs }) d fd new none

-- a domain changes, but not its descriptors
shut_aggs : (s : State) (by : ℕ) (y : Domain Text) (d fd : ℕ) → y.fds ≡ (domain s by).fds → Shut s d fd
    → Shut (with_domain s by y) d fd
shut_aggs s by y d fd same none =
    shut_domain s by y d fd (λ one. ap (λ (l : List (Option Descriptor)). in_place l fd) same ∙ own s by d fd none one)
    none

shut_opened : (s : State) (by : ℕ) (x : Descriptor) (d fd : ℕ) → ((by == d) && (fds.next_fd s by == fd)) ≡ false
    → Shut s d fd → Shut (fds.opened s by x) d fd
shut_opened s by x d fd un none =
    shut_fds s by _ d fd (λ same. place-placed_other (domain s by).fds fd x (differs by d (fds.next_fd s by) fd un same)
    ∙ own s by d fd none same) none

shut_freed : (s : State) (by f d fd : ℕ) → Shut s d fd → Shut (fds.with_fds s by (fds.freed s by f)) d fd
shut_freed s by f d fd none = shut_fds s by _ d fd (λ same. free-freed (domain s by).fds f fd (own s by d fd none same))
    none

-- an open descriptor is set
shut_moved : (s : State) (by f : ℕ) (x : Descriptor) (o : Option Descriptor) (d fd : ℕ) → descriptor s by f ≡ Some x
    → Shut s d fd → Shut (fds.with_descriptor s by f o) d fd
shut_moved s by f x o d fd is none =
    shut_fds s by _ d fd (λ same. place-set_other (domain s by).fds f fd o (other same) ∙ own s by d fd none same) none
  where
    other : by ≡ d → f ≢ fd
    other same equal = (let e = own s by d fd none same in let i = subst (λ k. descriptor s by k ≡ Some x) equal is in
        cc (e, i))

-- After each call.

shut_given : (s : State) (by f to : ℕ) (x : Descriptor) (d fd : ℕ)
    → ((to == d) && ((if by == to then lowest (fds.freed s by f) else fds.next_fd s to) == fd)) ≡ false → Shut s d fd
    → Shut (fds.given_to s by f to x) d fd
shut_given s by f to x d fd un none = cases (by == to) refl un
  where
    cases : (b : Bool) → (by == to) ≡ b
        → ((to == d) && ((if b then lowest (fds.freed s by f) else fds.next_fd s to) == fd)) ≡ false
        → Shut (if b then fds.with_fds s by (placed (fds.freed s by f) (lowest (fds.freed s by f)) x) else fds.with_fds
        (fds.opened s to x) by (fds.freed s by f)) d fd
    cases true one un =
        let here = subst (λ n. ((n == d) && (lowest (fds.freed s by f) == fd)) ≡ false) (sym (same-number by to one))
        un in
        shut_fds s by _ d fd
        (λ same. place-placed_other (fds.freed s by f) fd x (differs by d (lowest (fds.freed s by f)) fd here same)
        ∙ free-freed (domain s by).fds f fd (own s by d fd none same)) none
    cases false other un =
        shut_fds (fds.opened s to x) by (fds.freed s by f) d fd
        (λ same. free-freed (domain s by).fds f fd (own s by d fd none same)) (shut_opened s to x d fd un none)

shut_handed : (s : State) (by f to : ℕ) (o : Option Descriptor) (d fd : ℕ)
    → ((to == d) && ((if by == to then lowest (fds.freed s by f) else fds.next_fd s to) == fd)) ≡ false → Shut s d fd
    → Shut (option_map_or (fds.given_to s by f to) o s) d fd
shut_handed s by f to None d fd un none = none
shut_handed s by f to (Some x) d fd un none = shut_given s by f to x d fd un none

shut_pipe : (s : State) (by d fd : ℕ)
    → ((by == d) && ((fds.next_fd s by == fd) || (lowest (fds.with_read_end (domain s by).fds (lowest s.pipes)) == fd)))
    ≡ false → Shut s d fd → Shut (fds.pipe s by).after d fd
shut_pipe s by d fd un none =
    shut_same (fds.with_fds s by both) (fds.pipe s by).after d fd refl
    (shut_fds s by both d fd (λ same. place-placed_other ends fd (on.WriteEnd (lowest s.pipes)) (two same).1
    ∙ (place-placed_other (domain s by).fds fd (on.ReadEnd (lowest s.pipes)) (two same).0 ∙ own s by d fd none same))
    none)
  where
    ends : List (Option Descriptor)
    ends = fds.with_read_end (domain s by).fds (lowest s.pipes)

    both : List (Option Descriptor)
    both = placed ends (lowest ends) (on.WriteEnd (lowest s.pipes))

    two : by ≡ d → (fds.next_fd s by ≢ fd) × (lowest ends ≢ fd)
    two same = (
      λ equal. grind (arith, nat_tests, common_steps, un, same, equal),
      λ equal. grind (arith, nat_tests, common_steps, un, same, equal),
    )

shut_closed : (s : State) (by f d fd : ℕ) → Shut s d fd → Shut (fds.close s by f).after d fd
shut_closed s by f d fd none =
    let closed : State = fds.closed_on s (descriptor s by f) in
    shut_fds closed by (fds.freed s by f) d fd (λ same. free-freed (domain s by).fds f fd (own s by d fd none same))
    (shut_same s closed d fd (domains-closed_on s (descriptor s by f)) none)

shut_read : (s : State) (by f : ℕ) (o : Option Descriptor) (n d fd : ℕ) → descriptor s by f ≡ o → Shut s d fd
    → Shut (reading.read_on s by f o n) d fd
shut_read s by f (Some (on.File g at mode)) n d fd is none = shut_moved s by f _ _ d fd is none
shut_read s by f (Some (on.ReadEnd p)) n d fd is none = shut_same s _ d fd (domains-with_pipe s p _) none
shut_read s by f (Some (on.Connection c)) n d fd is none = shut_same s _ d fd (domains-with_conn s c _) none
shut_read s by f o n d fd is none = none

shut_written : (s : State) (by f : ℕ) (o : Option Descriptor) (w : Text) (d fd : ℕ) → descriptor s by f ≡ o
    → Shut s d fd → Shut (writing.written s by f o w) d fd
unfolding with_content
shut_written s by f (Some (on.File g at mode)) w d fd is none =
    let filled : State = with_content s g _ in
    shut_moved filled by f _ _ d fd (ap (λ (y : Domain Text). in_place y.fds f) (domain-same s filled by refl) ∙ is)
    (shut_same s filled d fd refl none)
shut_written s by f (Some (on.WriteEnd p)) w d fd is none = shut_same s _ d fd (domains-with_pipe s p _) none
shut_written s by f (Some (on.Connection c)) w d fd is none = shut_same s _ d fd (domains-with_conn s c _) none
shut_written s by f o w d fd is none = none

shut_sought : (s : State) (by f at : ℕ) (o : Option Descriptor) (d fd : ℕ) → descriptor s by f ≡ o → Shut s d fd
    → Shut (fds.with_descriptor s by f (option_map (λ x. on.File x.0 at x.2) (files.open_on o))) d fd
shut_sought s by f at None d fd is none = shut_freed s by f d fd none
shut_sought s by f at (Some x) d fd is none = shut_moved s by f x _ d fd is none

shut_agg_given : (s : State) (by a to d fd : ℕ) → Shut s d fd → Shut (aggs.agg_give s by a to).after d fd
shut_agg_given s by a to d fd none =
    agg_given (λ t. Shut t d fd) s by a to (λ same. shut_aggs s by _ d fd refl none)
    (λ other. shut_aggs (aggs.with_agg s to (text s by a)) by _ d fd refl (shut_aggs s to _ d fd refl none))

shut_domain_new : (s : State) (by d fd : ℕ) → Shut s d fd → Shut (domain_new s by).after d fd
shut_domain_new s by d fd none = elim (domain-push s new_domain d) [
  | inl same ↦ ap (λ (z : Domain Text). in_place z.fds fd) same ∙ none
  | inr both ↦ ap (λ (z : Domain Text). in_place z.fds fd) both.1
]

shut_called : (s : State) (by : ℕ) (k : Call) (d fd : ℕ) → opens (event.Call by k) (called s by k).answer d fd ≡ false
    → Shut s d fd → Shut (called s by k).after d fd
unfolding with_domain
shut_called s by call.DomainNew d fd un none = shut_domain_new s by d fd none
shut_called s by call.Exit d fd un none =
    shut_domain (fold fds.closed_on s (domain s by).fds) by no_domain d fd (λ same. refl)
    (shut_same s (fold fds.closed_on s (domain s by).fds) d fd (domains-all_closed s (domain s by).fds) none)
shut_called s by (call.PoolCreate chunks list) d fd un none =
    shut_same s (called s by (call.PoolCreate chunks list)).after d fd refl none
shut_called s by (call.PoolClose p) d fd un none = shut_same s (called s by (call.PoolClose p)).after d fd refl none
shut_called s by (call.PoolAdmit p e) d fd un none = shut_same s (called s by (call.PoolAdmit p e)).after d fd refl none
shut_called s by (call.AggGive x to) d fd un none = shut_agg_given s by x to d fd none
shut_called s by (call.Show x) d fd un none = none
shut_called s by (call.FileNew name p) d fd un none =
    shut_same s (called s by (call.FileNew name p)).after d fd refl none
shut_called s by (call.OpenFile name mode) d fd un none = shut_opened s by _ d fd un none
shut_called s by call.Pipe d fd un none = shut_pipe s by d fd un none
shut_called s by (call.GiveFd f to) d fd un none = shut_handed s by f to (descriptor s by f) d fd un none
shut_called s by (call.Close f) d fd un none = shut_closed s by f d fd none
shut_called s by (call.Seek f at) d fd un none = shut_sought s by f at (descriptor s by f) d fd refl none
shut_called s by (call.Length f) d fd un none = none
shut_called s by (call.IolRead f n) d fd un none =
    shut_aggs (reading.read_on s by f (descriptor s by f) _) by _ d fd refl
    (shut_read s by f (descriptor s by f) _ d fd refl none)
shut_called s by (call.IolWrite f x) d fd un none = shut_written s by f (descriptor s by f) _ d fd refl none
shut_called s by call.Accept d fd un none =
    shut_opened (with_conn s (unwrap_or (fds.waiting s by) 0) _) by _ d fd
    (ap (λ n. (by == d) && (n == fd))
    (ap (λ (y : Domain Text). lowest y.fds)
    (domain-same s _ by (domains-with_conn s (unwrap_or (fds.waiting s by) 0) _))) ∙ un)
    (shut_same s (with_conn s (unwrap_or (fds.waiting s by) 0) _) d fd
    (domains-with_conn s (unwrap_or (fds.waiting s by) 0) _) none)
shut_called s by (call.Fsync f) d fd un none = none
shut_called s by (call.Read f n) d fd un none = shut_read s by f (descriptor s by f) _ d fd refl none
shut_called s by (call.Write f bytes) d fd un none = shut_written s by f (descriptor s by f) _ d fd refl none
shut_called s by k d fd un none = shut_aggs s by _ d fd refl none

shut_meant : (s : State) (e : Event) (d fd : ℕ) → opens e (meaning s e).answer d fd ≡ false → Shut s d fd
    → Shut (meaning s e).after d fd
shut_meant s (event.Call by k) d fd un none = shut_called s by k d fd un none
shut_meant s (event.ConnNew p) d fd un none = shut_same s (meaning s (event.ConnNew p)).after d fd refl none
shut_meant s (event.Arrive c bytes) d fd un none = shut_same s _ d fd (domains-with_conn s c _) none
shut_meant s (event.PeerClosed c how) d fd un none = shut_same s _ d fd (domains-with_conn s c _) none
shut_meant s (event.Transmit c max) d fd un none = shut_same s _ d fd (domains-with_conn s c _) none
shut_meant s e d fd un none = none

pub shut_step : (s t : State) (e : Event) (r : Reply) (d fd : ℕ) → StepsTo s e r t → descriptor s d fd ≡ None
    → opens e r d fd ≡ false → descriptor t d fd ≡ None
shut_step s t e (reply.Refused x) d fd step none un = ap (λ u. descriptor u d fd) step.1 ∙ none
shut_step s t e r d fd step none un = ap (λ u. descriptor u d fd) step.2
    ∙ shut_meant s e d fd (sym (ap (λ q. opens e q d fd) step.1) ∙ un) none
