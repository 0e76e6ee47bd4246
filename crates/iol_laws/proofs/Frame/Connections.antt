-- The connections that each event leaves unchanged.
use Rattle.std.proofs.Common.{◌≡◌, ℕ, ◌==◌, ap, ◌∙◌, refl, Option, Some, true, false, Bool}
use Rattle.std.specs.List.{list_any}
use Rattle.iol_core.specs.State.{State, descriptor, conn_at, with_domain, with_pipe, with_content}
use Rattle.iol_core.specs.Run.{called, meaning}
use Rattle.iol_core.specs.declared.descriptors.Descriptor.{Descriptor}
use Rattle.iol_core.specs.declared.descriptors.Descriptor.TheVariants as on
use Rattle.iol_core.specs.declared.events.Call.{Call}
use Rattle.iol_core.specs.declared.events.Call.TheVariants as call
use Rattle.iol_core.specs.declared.events.Event.{Event}
use Rattle.iol_core.specs.declared.events.Event.TheVariants as event
use Rattle.iol_laws.specs.Frame.{is_conn, touches_conn}
use Rattle.iol_laws.proofs.Changes.{Act, Change, OnConn, NewConn, Writes, changed, changes, changes-meant, ends-used}
use Rattle.iol_laws.proofs.Changes.{kept_all, none_changed, none_handed, own, used_as}
use Rattle.iol_laws.proofs.Connections.{KeepsConns, conn-push, conns_conn, conns_same}
use Rattle.iol_laws.proofs.Tests.{apart, both-false, left-false}

-- whether a change is of this connection, or creates one
abbrev pub of_conn : (c : ℕ) → Change → Bool
of_conn c (OnConn e x) = e == c
of_conn c (NewConn p) = true
of_conn c x = false

conn_changed : (c : ℕ) (s : State) (x : Change) → of_conn c x ≡ false → conn_at (changed s x) c ≡ conn_at s c
unfolding with_domain with_pipe with_content
conn_changed c s (OnConn e x) un = conns_conn s e _ c (apart e c un)
conn_changed c s (NewConn p) un = absurd (cc)
conn_changed c s x un = conns_same s (changed s x) (λ e. false) refl c refl

conn_unused : (c : ℕ) (s : State) (by fd : ℕ) (o : Option Descriptor) (act : Act) → is_conn c o ≡ false
    → list_any (of_conn c) (used_as s by fd o act) ≡ false
conn_unused c s by fd (Some (on.Connection e)) act un = both-false _ _ un refl
conn_unused c s by fd (Some (on.File f at mode)) (Writes w) un = refl
conn_unused c s by fd (Some (on.ReadEnd p)) (Writes w) un = refl
conn_unused c s by fd (Some (on.WriteEnd p)) (Writes w) un = refl
conn_unused c s by fd o act un = refl

called_kept : (s : State) (by : ℕ) (k : Call) (c : ℕ) → touches_conn s (event.Call by k) c ≡ false
    → list_any (of_conn c) (own s by k) ≡ false → conn_at (called s by k).after c ≡ conn_at s c
called_kept s by k c un first =
    let e : Event = event.Call by k in
    let none =
    none_changed s by k (λ u. is_conn c u.end) (of_conn c) (λ u none. conn_unused c s u.by u.fd u.end u.act none)
    (ends-used (is_conn c) s by k (left-false _ _ un)) first in
    ap (λ t. conn_at t c) (changes-meant s e)
    ∙ kept_all (λ t. conn_at t c ≡ conn_at s c) (of_conn c) (λ t x un was. conn_changed c t x un ∙ was) s
    (changes s e) none refl

pub conns_meant : (s : State) (e : Event) → KeepsConns s (meaning s e).after (touches_conn s e)
conns_meant s (event.Call by call.Accept) c un = called_kept s by call.Accept c un (both-false _ _ un refl)
conns_meant s (event.Call by (call.GiveFd fd to)) c un =
    called_kept s by (call.GiveFd fd to) c un (none_handed (of_conn c) by fd to (descriptor s by fd) refl (λ x. refl))
conns_meant s (event.Call by k) c un = called_kept s by k c un refl
conns_meant s (event.ConnNew p) c un = conn-push s p c (apart s.next_conn c un)
conns_meant s (event.Arrive e bytes) c un = conns_conn s e _ c (apart e c un)
conns_meant s (event.PeerClosed e how) c un = conns_conn s e _ c (apart e c un)
conns_meant s (event.Transmit e max) c un = conns_conn s e _ c (apart e c un)
conns_meant s e c un = refl
