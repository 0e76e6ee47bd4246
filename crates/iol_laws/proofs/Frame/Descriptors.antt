-- The descriptors that each event leaves unchanged.
use Rattle.std.proofs.Common.{inl, inr, ◌≡◌, ℕ, ◌==◌, ap, ◌∙◌, refl, arith, Option, Some, true, false, Bool}
use Rattle.std.specs.Prelude.{◌&&◌}
use Rattle.std.specs.List.{list_any}
use Rattle.iol_core.specs.Text.{Text}
use Rattle.iol_core.specs.NumberedLists.{in_place}
use Rattle.iol_core.specs.State.{State, Domain, domain, descriptor, new_domain, with_pipe, with_conn, with_content}
use Rattle.iol_core.specs.Run.{called, meaning}
use Rattle.iol_core.specs.Calls.Writes.{is_file}
use Rattle.iol_core.specs.declared.descriptors.Descriptor.{Descriptor}
use Rattle.iol_core.specs.declared.descriptors.Descriptor.TheVariants as on
use Rattle.iol_core.specs.declared.events.Call.{Call}
use Rattle.iol_core.specs.declared.events.Call.TheVariants as call
use Rattle.iol_core.specs.declared.events.Event.{Event}
use Rattle.iol_core.specs.declared.events.Event.TheVariants as event
use Rattle.iol_core.proofs.Lookups.{domain-with_domain, domain-same, domain-push}
use Rattle.iol_core.proofs.Places.{place-set_other}
use Rattle.iol_laws.specs.Frame.{touches_fd}
use Rattle.iol_laws.proofs.Changes.{Act, Change, OfDomain, OnDomain, NewDomain, Ends, Opens, Sets, Reads, Writes, Use}
use Rattle.iol_laws.proofs.Changes.{changed, changes, changes-meant, domain_by, kept_all, none_changed, none_closings}
use Rattle.iol_laws.proofs.Changes.{none_handed, own, used_as, uses}
use Rattle.iol_laws.proofs.Places.{place-placed}
use Rattle.iol_laws.proofs.Tests.{apart, both-false, differs}

-- whether a change closes this descriptor or moves its position
abbrev of_fd : (d fd : ℕ) → Change → Bool
of_fd d fd (OnDomain e Ends) = e == d
of_fd d fd (OnDomain e (Sets f o)) = (e == d) && (f == fd)
of_fd d fd c = false

fd_by : (e d f : ℕ) (x : Descriptor) (y : OfDomain) (z : Domain Text) → of_fd d f (OnDomain e y) ≡ false → e ≡ d
    → in_place z.fds f ≡ Some x → in_place (domain_by y z).fds f ≡ Some x
fd_by e d f x Ends z un same is = absurd (apart e d un same)
fd_by e d f x (Opens w) z un same is = place-placed z.fds w f x is
fd_by e d f x (Sets g o) z un same is = place-set_other z.fds g f o (differs e d g f un same) ∙ is
fd_by e d f x y z un same is = is

fd_changed : (d f : ℕ) (x : Descriptor) (s : State) (c : Change) → of_fd d f c ≡ false → descriptor s d f ≡ Some x
    → descriptor (changed s c) d f ≡ Some x
unfolding with_pipe with_conn with_content
fd_changed d f x s (OnDomain e y) un is = elim (domain-with_domain s e d (domain_by y (domain s e))) [
  | inl both ↦ ap (λ (z : Domain Text). in_place z.fds f) both.1
      ∙ fd_by e d f x y (domain s e) un both.0 (ap (λ n. descriptor s n f) both.0 ∙ is)
  | inr same ↦ ap (λ (z : Domain Text). in_place z.fds f) same ∙ is
]
fd_changed d f x s NewDomain un is = elim (domain-push s new_domain d) [
  | inl same ↦ ap (λ (z : Domain Text). in_place z.fds f) same ∙ is
  | inr both ↦ absurd (let e = ap (λ (z : Domain Text). in_place z.fds f) both.0 in cc (e, is))
]
fd_changed d f x s c un is = ap (λ (z : Domain Text). in_place z.fds f) (domain-same s (changed s c) d refl) ∙ is

true-right : (b : Bool) → (b && true) ≡ false → b ≡ false
true-right b un = grind (arith, un)

and-false : (a b : Bool) → a ≡ false → (a && b) ≡ false
and-false a b un = grind (arith, un)

fd_unused : (d f : ℕ) (s : State) (by fd : ℕ) (o : Option Descriptor) (act : Act)
    → ((by == d) && (fd == f) && is_file o) ≡ false → list_any (of_fd d f) (used_as s by fd o act) ≡ false
fd_unused d f s by fd (Some (on.File g at mode)) (Reads n) un = both-false _ _ (true-right _ un) refl
fd_unused d f s by fd (Some (on.File g at mode)) (Writes w) un = both-false _ _ (true-right _ un) refl
fd_unused d f s by fd (Some (on.ReadEnd p)) (Writes w) un = refl
fd_unused d f s by fd (Some (on.WriteEnd p)) (Writes w) un = refl
fd_unused d f s by fd o act un = refl

abbrev moves : (d f : ℕ) → Use → Bool
moves d f u = (u.by == d) && (u.fd == f) && is_file u.end

-- all open descriptors are unchanged, except those that a test names
abbrev KeepsFds : (s t : State) → (ℕ → ℕ → Bool) → Type 0
KeepsFds s t touched = (d f : ℕ) (x : Descriptor) → descriptor s d f ≡ Some x → touched d f ≡ false
    → descriptor t d f ≡ Some x

called_kept : (s : State) (by : ℕ) (k : Call) (d f : ℕ) (x : Descriptor) → descriptor s d f ≡ Some x
    → list_any (moves d f) (uses s by k) ≡ false → list_any (of_fd d f) (own s by k) ≡ false
    → descriptor (called s by k).after d f ≡ Some x
called_kept s by k d f x is un first =
    let e : Event = event.Call by k in
    let none = none_changed s by k (moves d f) (of_fd d f) (λ u none. fd_unused d f s u.by u.fd u.end u.act none) un
    first in
    ap (λ t. descriptor t d f) (changes-meant s e)
    ∙ kept_all (λ t. descriptor t d f ≡ Some x) (of_fd d f) (fd_changed d f x) s (changes s e) none is

fds_called : (s : State) (by : ℕ) (k : Call) → KeepsFds s (called s by k).after (touches_fd s (event.Call by k))
fds_called s by call.Exit d f x is un =
    called_kept s by call.Exit d f x is
    (none_closings (moves d f) by (λ o. and-false _ _ (and-false _ _ un)) (domain s by).fds)
    (both-false _ _ un refl)
fds_called s by (call.GiveFd fd to) d f x is un =
    called_kept s by (call.GiveFd fd to) d f x is refl
    (none_handed (of_fd d f) by fd to (descriptor s by fd) un (λ x. refl))
fds_called s by (call.Close fd) d f x is un =
    called_kept s by (call.Close fd) d f x is (both-false _ _ (and-false _ _ un) refl) (both-false _ _ un refl)
fds_called s by (call.Seek fd at) d f x is un =
    called_kept s by (call.Seek fd at) d f x is refl (both-false _ _ un refl)
fds_called s by (call.IolRead fd n) d f x is un =
    called_kept s by (call.IolRead fd n) d f x is (both-false _ _ un refl) refl
fds_called s by (call.IolWrite fd a) d f x is un =
    called_kept s by (call.IolWrite fd a) d f x is (both-false _ _ un refl) refl
fds_called s by (call.Read fd n) d f x is un = called_kept s by (call.Read fd n) d f x is (both-false _ _ un refl) refl
fds_called s by (call.Write fd bytes) d f x is un =
    called_kept s by (call.Write fd bytes) d f x is (both-false _ _ un refl) refl
fds_called s by k d f x is un = called_kept s by k d f x is refl refl

pub fds_meant : (s : State) (e : Event) → KeepsFds s (meaning s e).after (touches_fd s e)
unfolding with_conn
fds_meant s (event.Call by k) = fds_called s by k
fds_meant s e = λ d f x is un. ap (λ (y : Domain Text). in_place y.fds f) (domain-same s (meaning s e).after d refl)
    ∙ is
