-- A domain that may read the pools of a pipe's bytes is never denied a read of the pipe.
use Rattle.std.proofs.Common.{◌≡◌, ℕ, [], ◌∷◌, take, refl, sym, subst, arith, Option, Some, true, Bool}
use Rattle.std.specs.Prelude.{⊤, option_map, min, MatchOption}
use Rattle.std.specs.List.{list_all}
use Rattle.std.proofs.lemmas.Grind.{common_steps}
use Rattle.std.proofs.lemmas.List.Sums.{take_while-cons}
use Rattle.iol_core.specs.Text.{Text, admitted}
use Rattle.iol_core.specs.State.{State, descriptor, may_read, pipe_at}
use Rattle.iol_core.specs.Run.{called, StepsTo}
use Rattle.iol_core.specs.Calls.Reads as reading
use Rattle.iol_core.specs.declared.refusals.Refusal.TheVariants as refuse
use Rattle.iol_core.specs.declared.descriptors.Descriptor.{Descriptor}
use Rattle.iol_core.specs.declared.descriptors.Descriptor.TheVariants as on
use Rattle.iol_core.specs.declared.events.Call.TheVariants as call
use Rattle.iol_core.specs.declared.events.Event.TheVariants as event
use Rattle.iol_core.specs.declared.events.Reply.TheVariants as reply
use Rattle.iol_core.proofs.TestedLists.{list_all-take, list_all-weaker}
use Rattle.iol_laws.specs.Sources.{MayReadAll, lie_in}
use Rattle.iol_laws.proofs.Refusals.Calls.{left, may}
use Rattle.iol_laws.proofs.Streams.Labels.{IsOther, barred-none}

-- each of the first n bytes may be read
seen : (pools : ℕ → Bool) (s : State) (d n : ℕ) (t : Text) → MayReadAll s d pools → lie_in pools t ≡ true
    → list_all (λ b. may_read s d b.1) (take n t) ≡ true
seen pools s d n t all lies =
    list_all-take (λ b. may_read s d b.1) n t
    (list_all-weaker (λ b. pools b.1) (λ b. may_read s d b.1) t (λ b is. all b.1 is) lies)

undenied : (pools : ℕ → Bool) (s : State) (d n p : ℕ) (o : Option Descriptor) → MayReadAll s d pools
    → lie_in pools (pipe_at s p).queue ≡ true → o ≡ Some (on.ReadEnd p)
    → MatchOption (reading.read_denied s d o n) ⊤ IsOther
undenied pools s d n p o all lies is =
    let t : Text = (pipe_at s p).queue in
    let none = barred-none (may_read s d) (take (min n 1) t) (seen pools s d (min n 1) t all lies) in
    subst (λ (z : Option Descriptor). MatchOption (reading.read_denied s d z n) ⊤ IsOther) (sym is)
    (subst (λ (z : Option ℕ). MatchOption (option_map refuse.Denied z) ⊤ IsOther) (sym none) tt)

not-late : (s : State) (p q : ℕ) (o : Option Descriptor) → o ≡ Some (on.ReadEnd p)
    → reading.read_late s o (refuse.Denied q) → IsOther (refuse.Denied q)
not-late s p q o is late = absurd (subst (λ (z : Option Descriptor). reading.read_late s z (refuse.Denied q)) is late)

pub pipe_reads : (pools : ℕ → Bool) (s t : State) (d fd p n q : ℕ) → MayReadAll s d pools
    → lie_in pools (pipe_at s p).queue ≡ true → descriptor s d fd ≡ Some (on.ReadEnd p)
    → StepsTo s (event.Call d (call.IolRead fd n)) (reply.Refused (refuse.Denied q)) t → ⊥
pipe_reads pools s t d fd p n q all lies is step =
    let other : IsOther (refuse.Denied q) =
    left IsOther (reading.read_late s (descriptor s d fd)) (called s d (call.IolRead fd n)).refusals
    (refuse.Denied q) (
      may IsOther refuse.NoDomain _ refl,
      (
        may IsOther refuse.BadFd _ refl,
        (
          may IsOther refuse.WrongMode _ refl,
          (
            may IsOther refuse.TooMany _ refl,
            (undenied pools s d n p (descriptor s d fd) all lies is, (may IsOther refuse.WouldBlock _ refl, tt)),
          ),
        ),
      ),
    )
    (not-late s p q (descriptor s d fd) is) step.0 in
    cc (other)

pub pipe_copies : (pools : ℕ → Bool) (s t : State) (d fd p n q : ℕ) → MayReadAll s d pools
    → lie_in pools (pipe_at s p).queue ≡ true → descriptor s d fd ≡ Some (on.ReadEnd p)
    → StepsTo s (event.Call d (call.Read fd n)) (reply.Refused (refuse.Denied q)) t → ⊥
pipe_copies pools s t d fd p n q all lies is step =
    let other : IsOther (refuse.Denied q) =
    left IsOther (reading.read_late s (descriptor s d fd)) (called s d (call.Read fd n)).refusals (refuse.Denied q) (
      may IsOther refuse.NoDomain _ refl,
      (
        may IsOther refuse.BadFd _ refl,
        (
          may IsOther refuse.WrongMode _ refl,
          (undenied pools s d n p (descriptor s d fd) all lies is, (may IsOther refuse.WouldBlock _ refl, tt)),
        ),
      ),
    )
    (not-late s p q (descriptor s d fd) is) step.0 in
    cc (other)

admitted-all : (sees : ℕ → Bool) (t : Text) → list_all (λ b. sees b.1) t ≡ true → admitted sees t ≡ t
admitted-all sees [] all = refl
admitted-all sees (b ∷ t) all =
    let e = take_while-cons (λ (x : ℕ × ℕ). sees x.1) b t in
    let r = admitted-all sees t in
    grind (arith, common_steps, e, r, all)

pub pipe_whole : (pools : ℕ → Bool) (s : State) (d p n : ℕ) → MayReadAll s d pools
    → lie_in pools (pipe_at s p).queue ≡ true
    → admitted (may_read s d) (take n (pipe_at s p).queue) ≡ take n (pipe_at s p).queue
pipe_whole pools s d p n all lies =
    admitted-all (may_read s d) (take n (pipe_at s p).queue) (seen pools s d n (pipe_at s p).queue all lies)
