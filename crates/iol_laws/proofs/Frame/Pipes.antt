-- The pipes that each event leaves unchanged.
use Rattle.std.proofs.Common.{◌≡◌, ◌≢◌, ℕ, ◌==◌, List, ap, ◌∙◌, refl, Option, Some, None, true, false, Bool}
use Rattle.std.specs.Prelude.{unwrap_or, ◌||◌, if◌then◌else◌}
use Rattle.std.specs.List.{list_any}
use Rattle.iol_core.specs.NumberedLists.{in_place, lowest}
use Rattle.iol_core.specs.State.{State, Pipe, Connection, descriptor, pipe_at, no_pipe, new_pipe, with_domain}
use Rattle.iol_core.specs.State.{with_pipe, with_conn, with_content}
use Rattle.iol_core.specs.Run.{called, meaning}
use Rattle.iol_core.specs.Calls.Descriptors as fds
use Rattle.iol_core.specs.declared.descriptors.Descriptor.{Descriptor}
use Rattle.iol_core.specs.declared.descriptors.Descriptor.TheVariants as on
use Rattle.iol_core.specs.declared.events.Call.{Call}
use Rattle.iol_core.specs.declared.events.Call.TheVariants as call
use Rattle.iol_core.specs.declared.events.Event.{Event}
use Rattle.iol_core.specs.declared.events.Event.TheVariants as event
use Rattle.iol_core.proofs.Places.{place-set_other}
use Rattle.iol_laws.specs.Frame.{is_end, touches_pipe}
use Rattle.iol_laws.proofs.Changes.{Act, Change, OnPipe, NewPipe, Reads, Writes, all_changed, changed, changes}
use Rattle.iol_laws.proofs.Changes.{changes-meant, ends-used, kept_all, none_changed, none_handed, own, used_as}
use Rattle.iol_laws.proofs.Places.{place-placed_other}
use Rattle.iol_laws.proofs.Tests.{apart, both-false, left-false}

abbrev pub KeepsPipes : (s t : State) → (ℕ → Bool) → Type 0
KeepsPipes s t touched = (p : ℕ) → touched p ≡ false → pipe_at t p ≡ pipe_at s p

pub pipes_same : (s t : State) (touched : ℕ → Bool) → t.pipes ≡ s.pipes → KeepsPipes s t touched
unfolding pipe_at
pipes_same s t touched same p un = ap (λ (ps : List (Option Pipe)). unwrap_or (in_place ps p) no_pipe) same

pub pipes_pipe : (s : State) (q : ℕ) (x : Pipe) (p : ℕ) → q ≢ p → pipe_at (with_pipe s q x) p ≡ pipe_at s p
unfolding pipe_at with_pipe
pipes_pipe s q x p differ =
    ap (λ o. unwrap_or o no_pipe) (place-set_other s.pipes q p (if x.reading || x.writing then Some x else None) differ)

pub pipes-with_conn : (s : State) (c : ℕ) (x : Connection) → (with_conn s c x).pipes ≡ s.pipes
unfolding with_conn
pipes-with_conn s c x = refl

pub pipe-new : (s : State) (by p : ℕ) → lowest s.pipes ≢ p → pipe_at (fds.pipe s by).after p ≡ pipe_at s p
unfolding pipe_at
pipe-new s by p differ = ap (λ o. unwrap_or o no_pipe) (place-placed_other s.pipes p new_pipe differ)

-- whether a change is of this pipe, or creates one
abbrev pub of_pipe : (p : ℕ) → Change → Bool
of_pipe p (OnPipe q x) = q == p
of_pipe p NewPipe = true
of_pipe p c = false

pipe_changed : (p : ℕ) (s : State) (c : Change) → of_pipe p c ≡ false → pipe_at (changed s c) p ≡ pipe_at s p
unfolding with_domain with_conn with_content
pipe_changed p s (OnPipe q x) un = pipes_pipe s q _ p (apart q p un)
pipe_changed p s NewPipe un = absurd (cc)
pipe_changed p s c un = pipes_same s (changed s c) (λ q. false) refl p refl

pub pipe_kept : (p : ℕ) (s : State) (cs : List Change) → list_any (of_pipe p) cs ≡ false
    → pipe_at (all_changed s cs) p ≡ pipe_at s p
pipe_kept p s cs un = kept_all (λ t. pipe_at t p ≡ pipe_at s p) (of_pipe p) (λ t c none was. pipe_changed p t c none
    ∙ was) s cs un refl

pub pipe_unused : (p : ℕ) (s : State) (by fd : ℕ) (o : Option Descriptor) (act : Act) → is_end p o ≡ false
    → list_any (of_pipe p) (used_as s by fd o act) ≡ false
pipe_unused p s by fd (Some (on.File f at mode)) (Writes w) un = refl
pipe_unused p s by fd (Some (on.ReadEnd q)) (Writes w) un = refl
pipe_unused p s by fd (Some (on.ReadEnd q)) act un = both-false _ _ un refl
pipe_unused p s by fd (Some (on.WriteEnd q)) (Reads n) un = refl
pipe_unused p s by fd (Some (on.WriteEnd q)) act un = both-false _ _ un refl
pipe_unused p s by fd o act un = refl

called_kept : (s : State) (by : ℕ) (k : Call) (p : ℕ) → touches_pipe s (event.Call by k) p ≡ false
    → list_any (of_pipe p) (own s by k) ≡ false → pipe_at (called s by k).after p ≡ pipe_at s p
called_kept s by k p un first =
    ap (λ t. pipe_at t p) (changes-meant s (event.Call by k))
    ∙ pipe_kept p s (changes s (event.Call by k))
    (none_changed s by k (λ u. is_end p u.end) (of_pipe p) (λ u none. pipe_unused p s u.by u.fd u.end u.act none)
    (ends-used (is_end p) s by k (left-false _ _ un)) first)

pub pipes_meant : (s : State) (e : Event) → KeepsPipes s (meaning s e).after (touches_pipe s e)
unfolding with_conn
pipes_meant s (event.Call by call.Pipe) p un = pipe-new s by p (apart (lowest s.pipes) p un)
pipes_meant s (event.Call by (call.GiveFd fd to)) p un =
    called_kept s by (call.GiveFd fd to) p un (none_handed (of_pipe p) by fd to (descriptor s by fd) refl (λ x. refl))
pipes_meant s (event.Call by k) p un = called_kept s by k p un refl
pipes_meant s e p un = pipes_same s (meaning s e).after (λ q. false) refl p refl
