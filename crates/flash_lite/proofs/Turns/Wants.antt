-- The need for memory of a turn, by that of its parts.
use Rattle.std.proofs.Common.{◌≡◌, inl, inr, ℕ, ◌+◌, List, Bool, true, Option, Some, None, ap, ◌∙◌, refl, sym, subst}
use Rattle.std.specs.Prelude.{min}
use Rattle.iol_core.specs.NumberedLists.{in_place}
use Rattle.iol_core.specs.declared.events.Reply.{Reply}
use Rattle.flash_laws.specs.Client.{Client}
use Rattle.flash_laws.specs.Site.Places.{first_free, has_free, runs_scripts, filed}
use Rattle.flash_laws.specs.Serves.Rounds.{leaves_off}
use Rattle.flash_laws.specs.Serves.Rounds.{next_in}
use Rattle.flash_laws.specs.Serves.Wants.{MayWant, WantsFrom, WantsHere, WantsPast, wants_in, wants_there}
use Rattle.flash_laws.specs.declared.phase.PendingCall.TheVariants.{Nothing, At}
use Rattle.flash_laws.specs.Client.Wants.{WantsOn}
use Rattle.flash_lite.specs.Table.{Table, IsBetweenTurns, ReportsFree}
use Rattle.flash_lite.specs.ServerTurn.{CourseAt, TurnsFree, first_in, has_in, left_as, left_at, worker_at, worker_left}
use Rattle.flash_lite.specs.declared.client.Course.TheVariants.{Leaves}
use Rattle.flash_lite.specs.declared.client.Left.{Left}
use Rattle.flash_lite.proofs.Turns.FreeWorkers.{has_is}
use Rattle.flash_lite.proofs.Places.{SameFrom, filed_none, found_in, next-same, same_left}
use Rattle.flash_lite.proofs.Turns.TurnParts.{by_words, freed_by, left-at, left-reports}

-- the need for memory from an index on is the same in two lists that are equal from there
wants-same : (free : Bool) (from : ℕ) (l clients : List (Option Client)) → SameFrom from l clients
    → WantsFrom free clients from → WantsFrom free l from
wants-same free from l clients same wants = by (next_in free clients from) refl wants
  where
    by : (o : Option ℕ) → next_in free clients from ≡ o → wants_in clients o ≡ true
        → wants_in l (next_in free l from) ≡ true
    by None is wants = absurd (cc (wants))
    by (Some g) is wants =
        ap (λ (o : Option ℕ). wants_in l o) (next-same free from l clients same ∙ is)
        ∙ (ap (λ (o : Option Client). wants_there o) (same.each g (found_in free clients from g is).0) ∙ wants)

pub nothing_wants : (s : Table) (r : Reply) (received : List ℕ) → IsBetweenTurns s → s.pending_call ≡ Nothing
    → WantsFrom (has_in s.workers s.free) s.clients 0
    → MayWant s.workers s.clients s.pending_call r received
nothing_wants s r received between flies wants =
    subst (λ w. MayWant s.workers s.clients w r received) (sym flies)
    (subst (λ b. WantsFrom b s.clients 0) (has_is s.workers s.free s.clients between.reports between.hired) wants)

past-of : (workers : ℕ) (clients l : List (Option Client)) (fd : ℕ) (r : Reply) (received : List ℕ)
    → filed workers clients (At fd) r received ≡ l → WantsPast workers l fd r
    → MayWant workers clients (At fd) r received
past-of workers clients l fd r received is past =
    inr (subst (λ (m : List (Option Client)). WantsPast workers m fd r) (sym is) past)

pub none_wants : (s : Table) (fd : ℕ) (r : Reply) (received : List ℕ) (now : List (Option Client)) → IsBetweenTurns s
    → in_place s.clients fd ≡ None → now ≡ s.clients
    → WantsFrom (has_in s.workers s.free) now (fd + 1) → MayWant s.workers s.clients (At fd) r received
none_wants s fd r received now between none same wants =
    past-of s.workers s.clients s.clients fd r received (filed_none s.workers s.clients fd r received none) (
      ap (λ (o : Option Client). leaves_off o r) none,
      subst (λ b. WantsFrom b s.clients (fd + 1)) (has_is s.workers s.free s.clients between.reports between.hired)
          (subst (λ (l : List (Option Client)). WantsFrom (has_in s.workers s.free) l (fd + 1)) same wants),
    )

module _ (s : Table) (between : IsBetweenTurns s) (fd : ℕ) (flies : s.pending_call ≡ At fd) (r : Reply)
    (received : List ℕ) where
  pub here_wants : (a : ℕ) → a ≡ min (first_in s.workers s.free) 7
      → WantsHere (runs_scripts s.workers) a (in_place s.clients fd) r received
      → MayWant s.workers s.clients (At fd) r received
  here_wants a is wants = inl (by (in_place s.clients fd) refl wants)
    where
      by : (o : Option Client) → in_place s.clients fd ≡ o → WantsHere (runs_scripts s.workers) a o r received
          → WantsHere (runs_scripts s.workers) (first_free s.workers s.clients) o r received
      by None there wants = absurd wants
      by (Some x) there wants =
          subst (λ (t : Client). WantsOn (runs_scripts s.workers) t x r received)
          (by_words s between fd flies r received a x is there) wants

  pub left_wants : (a : ℕ) (l : Left) (now : List (Option Client)) (had has : Option ℕ) (free : List Bool)
      → a ≡ min (first_in s.workers s.free) 7
      → CourseAt (runs_scripts s.workers) a s.clients fd r received (Leaves l) now
      → had ≡ worker_at s.clients fd → has ≡ worker_left l had → TurnsFree s.free had has free
      → WantsFrom (has_in s.workers free) now (fd + 1) → MayWant s.workers s.clients (At fd) r received
  left_wants a l now had has free is course had_is left_is turns wants =
      let turned = freed_by s between fd flies r received l had has free had_is left_is turns in
      let w = left-at s between fd flies r received a l now is course in
      let reports : ReportsFree free (left_at s.clients fd l) =
      left-reports s between fd flies r received l now free w turned in
      let has : has_in s.workers free ≡ has_free s.workers (left_at s.clients fd l) =
      has_is s.workers free (left_at s.clients fd l) reports between.hired in
      let here : WantsFrom (has_free s.workers (left_at s.clients fd l)) s.clients (fd + 1) =
      subst (λ b. WantsFrom b s.clients (fd + 1)) has
      (subst (λ (m : List (Option Client)). WantsFrom (has_in s.workers free) m (fd + 1)) w.same wants) in
      past-of s.workers s.clients (left_at s.clients fd l) fd r received w.filed_is (
        ap (λ (o : Option Client). leaves_off o r) w.in_is ∙ w.by.passed,
        wants-same (has_free s.workers (left_at s.clients fd l)) (fd + 1) (left_at s.clients fd l) s.clients
            (same_left s.clients fd (left_as (in_place s.clients fd) l)) here,
      )

pub ruleset place_rules = (here_wants, none_wants, left_wants)
