-- Numbers of descriptors are below the limit.
use Rattle.std.proofs.Common.{inl, inr, ◌≡◌, ◌<◌, ◌≤◌, ℕ, ◌+◌, ◌==◌, List, ap, refl, sym, subst, arith, Option, Some}
use Rattle.std.proofs.Common.{None, true, false, Bool}
use Rattle.std.specs.Prelude.{not, nat_le, if◌then◌else◌, ◌&&◌, ◌||◌}
use Rattle.std.proofs.lemmas.Bool.Decides.{nat_tests}
use Rattle.std.proofs.lemmas.Grind.{common_steps}
use Rattle.iol_core.specs.Text.{Text}
use Rattle.iol_core.specs.NumberedLists.{in_place, lowest, taken}
use Rattle.iol_core.specs.State.{State, Domain, domain, descriptor, new_state}
use Rattle.iol_core.specs.Meaning.{first}
use Rattle.iol_core.specs.Run.{called, Run, StepsTo}
use Rattle.iol_core.specs.Calls.Descriptors as fds
use Rattle.iol_core.specs.declared.limits.TheConstants.{MAX_OPEN, MAX_PIPES}
use Rattle.iol_core.specs.declared.refusals.Refusal.TheVariants as refuse
use Rattle.iol_core.specs.declared.descriptors.Descriptor.{Descriptor}
use Rattle.iol_core.specs.declared.descriptors.Descriptor.TheVariants as on
use Rattle.iol_core.specs.declared.events.Call.{Call}
use Rattle.iol_core.specs.declared.events.Call.TheVariants as call
use Rattle.iol_core.specs.declared.events.Event.{Event}
use Rattle.iol_core.specs.declared.events.Event.TheVariants as event
use Rattle.iol_core.specs.declared.events.Reply.{Reply}
use Rattle.iol_core.specs.declared.events.Reply.TheVariants as reply
use Rattle.iol_core.proofs.Lookups.{domain-new_state}
use Rattle.iol_core.proofs.TestedLists.{passed, when-none}
use Rattle.iol_laws.proofs.Runs.{run_keeps}
use Rattle.iol_laws.specs.DescriptorNumbers.{AreLow, opens, gives_number}
use Rattle.iol_laws.proofs.Numbers.{number}
use Rattle.iol_laws.proofs.DescriptorNumbers.ByReplies.{shut_step}
use Rattle.iol_laws.proofs.DescriptorNumbers.Lowest.{lowest-freed, lowest-taken, taken-placed}
use Rattle.iol_laws.proofs.Tests.{left-false, same-number}

-- a domain that may open more descriptors has room for them below the limit
within : (s : State) (d made : ℕ) → fds.too_many_open s d made ≡ false → taken (domain s d).fds + made ≤ MAX_OPEN
within s d made un = grind (arith, nat_tests, un)

low_next : (s : State) (d : ℕ) → fds.too_many_open s d 1 ≡ false → fds.next_fd s d < MAX_OPEN
low_next s d un = (let w = within s d 1 un in let l = lowest-taken (domain s d).fds in omega (arith, w, l))

low_given : (s : State) (by f to g : ℕ) (o : Option Descriptor) → AreLow s → descriptor s by f ≡ o
    → first (fds.give_fd s by f to).refusals ≡ None
    → g ≡ (if by == to then lowest (fds.freed s by f) else fds.next_fd s to) → g < MAX_OPEN
low_given s by f to g None low is passes g_is =
    (let e = when-none refuse.BadFd _ (passed (fds.give_fd s by f to).refusals 1 passes) in absurd (cc (e, is)))
low_given s by f to g (Some x) low is passes g_is = cases (by == to) refl g_is
  where
    few : (not (by == to) && fds.too_many_open s to 1) ≡ false
    few =
        when-none refuse.TooMany (not (by == to) && fds.too_many_open s to 1)
        (passed (fds.give_fd s by f to).refusals 2 passes)

    cases : (b : Bool) → (by == to) ≡ b → g ≡ (if b then lowest (fds.freed s by f) else fds.next_fd s to) → g < MAX_OPEN
    cases true one g_is = (let l = lowest-freed (domain s by).fds f x is in let w = low by f x is in
        omega (arith, l, w, g_is))
    cases false other g_is = (let un : fds.too_many_open s to 1 ≡ false = grind (arith, other, few) in let l =
        low_next s to un in omega (arith, l, g_is))

-- the two numbers of a reply
abbrev first_fd : Reply → ℕ
first_fd (reply.Fds g h) = g
first_fd r = 0

abbrev second_fd : Reply → ℕ
second_fd (reply.Fds g h) = h
second_fd r = 0

low_pipe : (s : State) (by g h fd : ℕ) → first (fds.pipe s by).refusals ≡ None
    → reply.Fds g h ≡ (called s by call.Pipe).answer → ((g == fd) || (h == fd)) ≡ true → fd < MAX_OPEN
low_pipe s by g h fd passes is one =
    let p : ℕ = lowest s.pipes in
    let ends : List (Option Descriptor) = fds.with_read_end (domain s by).fds p in
    let w =
    within s by 2 (left-false (fds.too_many_open s by 2) (nat_le MAX_PIPES (taken s.pipes))
    (when-none refuse.TooMany (fds.too_many_open s by 2 || nat_le MAX_PIPES (taken s.pipes))
    (passed (fds.pipe s by).refusals 1 passes))) in
    let l = lowest-taken (domain s by).fds in
    let m = lowest-taken ends in
    let t = taken-placed (domain s by).fds (on.ReadEnd p) in
    let first_low : g < MAX_OPEN = (let e = ap first_fd is in omega (arith, e, w, l)) in
    let second_low : h < MAX_OPEN = (let e = ap second_fd is in omega (arith, e, w, m, t)) in
    either g h fd one first_low second_low
  where
    either : (g h fd : ℕ) → ((g == fd) || (h == fd)) ≡ true → g < MAX_OPEN → h < MAX_OPEN → fd < MAX_OPEN
    either g h fd one first_low second_low = grind (arith, nat_tests, common_steps, one, first_low, second_low)

low-number : (g fd : ℕ) → (g == fd) ≡ true → g < MAX_OPEN → fd < MAX_OPEN
low-number g fd is low = subst (λ n. n < MAX_OPEN) (same-number g fd is) low

low_called : (s t : State) (by : ℕ) (k : Call) (r : Reply) (fd : ℕ) → AreLow s → StepsTo s (event.Call by k) r t
    → gives_number r fd ≡ true → fd < MAX_OPEN
low_called s t by call.Accept (reply.Fd g) fd low step is =
    low-number g fd is
    (subst (λ n. n < MAX_OPEN) (sym (ap number step.1))
    (low_next s by (when-none refuse.TooMany _ (passed (fds.accept s by).refusals 1 step.0))))
low_called s t by (call.OpenFile name mode) (reply.Fd g) fd low step is =
    low-number g fd is
    (subst (λ n. n < MAX_OPEN) (sym (ap number step.1))
    (low_next s by (when-none refuse.TooMany _ (passed (called s by (call.OpenFile name mode)).refusals 2 step.0))))
low_called s t by (call.GiveFd f to) (reply.Fd g) fd low step is =
    low-number g fd is (low_given s by f to g (descriptor s by f) low refl step.0 (ap number step.1))
low_called s t by call.Pipe (reply.Fds g h) fd low step is = low_pipe s by g h fd step.0 step.1 is
low_called s t by k (reply.Fd g) fd low step is = (let e = step.1 in absurd (cc))
low_called s t by k (reply.Fds g h) fd low step is = (let e = step.1 in absurd (cc))
low_called s t by k r fd low step is = absurd (cc)

pub low_number : (s t : State) (e : Event) (r : Reply) (fd : ℕ) → AreLow s → StepsTo s e r t → gives_number r fd ≡ true
    → fd < MAX_OPEN
low_number s t (event.Call by k) r fd low step is = low_called s t by k r fd low step is
low_number s t e (reply.Fd g) fd low step is = (let i = step.1 in absurd (cc))
low_number s t e (reply.Fds g h) fd low step is = (let i = step.1 in absurd (cc))
low_number s t e r fd low step is = absurd (cc)

-- a number that a domain gets is a number in the reply
given : (e : Event) (r : Reply) (d fd : ℕ) → opens e r d fd ≡ true → gives_number r fd ≡ true
given (event.Call by (call.GiveFd f to)) (reply.Fd g) d fd is = grind (arith, common_steps, is)
given (event.Call by k) (reply.Fd g) d fd is = grind (arith, common_steps, is)
given (event.Call by k) (reply.Fds g h) d fd is = grind (arith, common_steps, is)
given e r d fd is = absurd (cc)

pub low_step : (s t : State) (e : Event) (r : Reply) → AreLow s → StepsTo s e r t → AreLow t
low_step s t e r low step d fd x is = by (descriptor s d fd) refl (opens e r d fd) refl
  where
    by : (o : Option Descriptor) → descriptor s d fd ≡ o → (b : Bool) → opens e r d fd ≡ b → fd < MAX_OPEN
    by (Some y) was b b_is = low d fd y was
    by None was true gives = low_number s t e r fd low step (given e r d fd gives)
    by None was false un = (let none = shut_step s t e r d fd step was un in absurd (cc (none, is)))

pub low_new : (slots : List (List ℕ)) → AreLow (new_state slots)
low_new slots d fd x is = elim (domain-new_state slots d) [
  | inl one ↦ absurd (let e = ap (λ (y : Domain Text). in_place y.fds fd) one in cc (e, is))
  | inr none ↦ absurd (let e = ap (λ (y : Domain Text). in_place y.fds fd) none in cc (e, is))
]

pub low_reached : (slots : List (List ℕ)) (t : State) (es : List Event) (rs : List Reply)
    → Run (new_state slots) es rs t → AreLow t
low_reached slots t es rs run = run_keeps AreLow low_step (new_state slots) t es rs (low_new slots) run
