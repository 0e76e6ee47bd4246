-- The replies that move a phase. Any other reply leaves it unchanged.
use Rattle.std.specs.Prelude.{ℕ, Option, Some, None}
use Rattle.iol_core.specs.declared.refusals.Refusal.{Refusal}
use Rattle.iol_core.specs.declared.refusals.Refusal.TheVariants as no
use Rattle.iol_core.specs.declared.events.Reply.{Reply}
use Rattle.iol_core.specs.declared.events.Reply.TheVariants as reply

-- the phase to which a reply moves this one, or this one if it does not move it
abbrev pub or_stay : {A : Type 0} → A → Option A → A
or_stay d None = d
or_stay d (Some e) = e

abbrev pub or_else : {A : Type 0} → Option A → Option A → Option A
or_else None y = y
or_else (Some e) y = Some e

abbrev pub on_done : {A : Type 0} → Reply → A → Option A
on_done reply.Done e = Some e
on_done r e = None

abbrev pub on_agg : {A : Type 0} → Reply → (ℕ → A) → Option A
on_agg (reply.Agg n) to = Some (to n)
on_agg r to = None

abbrev pub on_count : {A : Type 0} → Reply → (ℕ → A) → Option A
on_count (reply.Count n) to = Some (to n)
on_count r to = None

abbrev pub on_fd : {A : Type 0} → Reply → (ℕ → A) → Option A
on_fd (reply.Fd f) to = Some (to f)
on_fd r to = None

abbrev pub on_fds : {A : Type 0} → Reply → (ℕ → ℕ → A) → Option A
on_fds (reply.Fds from write) to = Some (to from write)
on_fds r to = None

abbrev pub on_refused : {A : Type 0} → Reply → (Refusal → Option A) → Option A
on_refused (reply.Refused x) to = to x
on_refused r to = None

abbrev pub unless_blocked : {A : Type 0} → A → Refusal → Option A
unless_blocked e no.WouldBlock = None
unless_blocked e x = Some e

abbrev pub if_broken : {A : Type 0} → A → Refusal → Option A
if_broken e no.BrokenPipe = Some e
if_broken e x = None

abbrev pub if_denied : {A : Type 0} → A → Refusal → Option A
if_denied e (no.Denied p) = Some e
if_denied e x = None
