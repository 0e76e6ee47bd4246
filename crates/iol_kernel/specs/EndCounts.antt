-- How often each end of a pipe and each connection is open, over all domains.
use Rattle.std.specs.Prelude.{ℕ, ◌≤◌, List, Option, Some, None, sum_by, if◌then◌else◌, ◌==◌}
use Rattle.iol_core.specs.State.{Domain}
use Rattle.iol_core.specs.declared.descriptors.Descriptor.{Descriptor}
use Rattle.iol_core.specs.declared.descriptors.Descriptor.TheVariants as on

-- 1 if the two are the same end of one pipe, or the same connection; else 0
abbrev pub same_end : (x y : Descriptor) → ℕ
same_end (on.ReadEnd p) (on.ReadEnd q) = if p == q then 1 else 0
same_end (on.WriteEnd p) (on.WriteEnd q) = if p == q then 1 else 0
same_end (on.Connection c) (on.Connection d) = if c == d then 1 else 0
same_end _ _ = 0

-- 1 if the descriptor is open on the end x; else 0
abbrev pub on_end : Descriptor → Option Descriptor → ℕ
on_end x None = 0
on_end x (Some y) = same_end x y

-- the number of these descriptors that are open on the end x
abbrev pub ends_on : (x : Descriptor) → List (Option Descriptor) → ℕ
ends_on x fds = sum_by (on_end x) fds

-- the number of descriptors of all domains that are open on the end x
abbrev pub all_ends_on : {A : Type 0} → (x : Descriptor) → List (Domain A) → ℕ
all_ends_on x domains = sum_by (λ d. ends_on x d.fds) domains

-- each end is open in one descriptor at most, over all domains
pub record IsOpenOnce {A : Type 0} (domains : List (Domain A)) : Type 0 where
  pub each : (x : Descriptor) → all_ends_on x domains ≤ 1
