-- Closing, on the machine only: it changes pipes and connections, and no domain.
use Rattle.std.proofs.Common.{◌≡◌, ℕ, List, [], ◌∷◌, ap, ◌∙◌, refl, sym, Option, Some, None, true}
use Rattle.std.specs.Prelude.{fold}
use Rattle.iol_core.specs.Text.{Text}
use Rattle.iol_core.specs.State as machine
use Rattle.iol_core.specs.State.{State, Domain, no_domain}
use Rattle.iol_core.specs.Calls.Descriptors as fds
use Rattle.iol_core.specs.declared.descriptors.Descriptor.{Descriptor}
use Rattle.iol_core.specs.declared.descriptors.Descriptor.TheVariants as on
use Rattle.iol_kernel.proofs.State.Rows.{with_domain-twice, domain-with_same}

-- pools stay

pub pools-with_domain : (s : State) (d : ℕ) (x : Domain Text) → (machine.with_domain s d x).pools ≡ s.pools
unfolding machine.with_domain
pools-with_domain s d x = refl

pools-closed_on : (s : State) (o : Option Descriptor) → (fds.closed_on s o).pools ≡ s.pools
unfolding machine.with_pipe machine.with_conn
pools-closed_on s None = refl
pools-closed_on s (Some (on.File f at mode)) = refl
pools-closed_on s (Some (on.ReadEnd p)) = refl
pools-closed_on s (Some (on.WriteEnd p)) = refl
pools-closed_on s (Some (on.Connection c)) = refl

pub pools-fold : (s : State) (os : List (Option Descriptor)) → (fold fds.closed_on s os).pools ≡ s.pools
pools-fold s [] = refl
pools-fold s (o ∷ os) = pools-fold (fds.closed_on s o) os ∙ pools-closed_on s o

-- and domains

pub closed_on-with_domain : (s : State) (d : ℕ) (x : Domain Text) (o : Option Descriptor)
    → fds.closed_on (machine.with_domain s d x) o ≡ machine.with_domain (fds.closed_on s o) d x
unfolding machine.with_domain machine.with_pipe machine.with_conn machine.pipe_at machine.conn_at
closed_on-with_domain s d x None = refl
closed_on-with_domain s d x (Some (on.File f at mode)) = refl
closed_on-with_domain s d x (Some (on.ReadEnd p)) = refl
closed_on-with_domain s d x (Some (on.WriteEnd p)) = refl
closed_on-with_domain s d x (Some (on.Connection c)) = refl

pub domain-closed_on : (s : State) (d : ℕ) (o : Option Descriptor)
    → machine.domain (fds.closed_on s o) d ≡ machine.domain s d
unfolding machine.domain machine.with_pipe machine.with_conn
domain-closed_on s d None = refl
domain-closed_on s d (Some (on.File f at mode)) = refl
domain-closed_on s d (Some (on.ReadEnd p)) = refl
domain-closed_on s d (Some (on.WriteEnd p)) = refl
domain-closed_on s d (Some (on.Connection c)) = refl

pub closed_on-with_fds : (s : State) (d : ℕ) (xs : List (Option Descriptor)) (o : Option Descriptor)
    → fds.closed_on (fds.with_fds s d xs) o ≡ fds.with_fds (fds.closed_on s o) d xs
closed_on-with_fds s d xs o =
    closed_on-with_domain s d (record (machine.domain s d) { fds = xs }) o
    ∙ ap (λ (y : Domain Text). machine.with_domain (fds.closed_on s o) d (record y { fds = xs }))
    (sym (domain-closed_on s d o))

pub fold-with_domain : (s : State) (d : ℕ) (x : Domain Text) (os : List (Option Descriptor))
    → fold fds.closed_on (machine.with_domain s d x) os ≡ machine.with_domain (fold fds.closed_on s os) d x
fold-with_domain s d x [] = refl
fold-with_domain s d x (o ∷ os) = ap (λ (u : State). fold fds.closed_on u os) (closed_on-with_domain s d x o)
    ∙ fold-with_domain (fds.closed_on s o) d x os

-- the state after a domain's end does not depend on its row before
ended_after : (m s : State) (d : ℕ) (x : Domain Text) (os : List (Option Descriptor)) → s ≡ machine.with_domain m d x
    → machine.with_domain (fold fds.closed_on (fds.with_fds s d []) os) d no_domain
    ≡ machine.with_domain (fold fds.closed_on m os) d no_domain
ended_after m s d x os is =
    ap (λ (u : State). machine.with_domain u d no_domain)
    (fold-with_domain s d (record (machine.domain s d) { fds = [] }) os)
    ∙ with_domain-twice (fold fds.closed_on s os) d (record (machine.domain s d) { fds = [] }) no_domain
    ∙ ap (λ (u : State). machine.with_domain (fold fds.closed_on u os) d no_domain) is
    ∙ ap (λ (u : State). machine.with_domain u d no_domain) (fold-with_domain m d x os)
    ∙ with_domain-twice (fold fds.closed_on m os) d x no_domain

-- all at once: the aggregates are dropped, the descriptors closed, and the domain ended
pub ended_all : (m : State) (d : ℕ) → machine.is_live m d ≡ true
    → (let s : State = machine.with_domain m d (record (machine.domain m d) { aggs = [] }) in
    machine.with_domain (fold fds.closed_on (fds.with_fds s d []) (machine.domain s d).fds) d no_domain)
    ≡ machine.with_domain (fold fds.closed_on m (machine.domain m d).fds) d no_domain
ended_all m d live =
    let x : Domain Text = record (machine.domain m d) { aggs = [] } in
    let s : State = machine.with_domain m d x in
    ap (λ (os : List (Option Descriptor)). machine.with_domain (fold fds.closed_on (fds.with_fds s d []) os) d
    no_domain) (ap (λ (y : Domain Text). y.fds) (domain-with_same m d x live))
    ∙ ended_after m s d x (machine.domain m d).fds refl
