-- Giving to the same domain or to another: properties of both cases.
use Rattle.std.proofs.Common.{◌≡◌, ℕ, true, false, Bool, refl}
use Rattle.std.specs.Prelude.{◌==◌, if◌then◌else◌}
use Rattle.iol_core.specs.NumberedLists.{without, lowest, placed}
use Rattle.iol_core.specs.State.{State, domain, text}
use Rattle.iol_core.specs.Calls.Aggregates as aggs
use Rattle.iol_core.specs.Calls.Descriptors as fds
use Rattle.iol_core.specs.declared.descriptors.Descriptor.{Descriptor}

pub agg_given : (P : State → Type 0) (s : State) (by a to : ℕ)
    → ((by == to) ≡ true → P (aggs.with_new s by (without (domain s by).aggs a) (text s by a)))
    → ((by == to) ≡ false → P (aggs.without_agg (aggs.with_agg s to (text s by a)) by a))
    → P (aggs.agg_give s by a to).after
agg_given P s by a to itself other = cases (by == to) refl
  where
    cases : (b : Bool) → (by == to) ≡ b
        → P (if b then aggs.with_new s by (without (domain s by).aggs a) (text s by a) else aggs.without_agg
        (aggs.with_agg s to (text s by a)) by a)
    cases true is = itself is
    cases false is = other is

pub fd_given : (P : State → Type 0) (s : State) (by fd to : ℕ) (x : Descriptor)
    → ((by == to) ≡ true → P (fds.with_fds s by (placed (fds.freed s by fd) (lowest (fds.freed s by fd)) x)))
    → ((by == to) ≡ false → P (fds.with_fds (fds.opened s to x) by (fds.freed s by fd))) → P (fds.given_to s by fd to x)
fd_given P s by fd to x itself other = cases (by == to) refl
  where
    cases : (b : Bool) → (by == to) ≡ b
        → P (if b then fds.with_fds s by (placed (fds.freed s by fd) (lowest (fds.freed s by fd)) x) else fds.with_fds
        (fds.opened s to x) by (fds.freed s by fd))
    cases true is = itself is
    cases false is = other is
