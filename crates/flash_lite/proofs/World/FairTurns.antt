-- The turns of a hosted site are fair: if the world's failure flag is clear, if any refusal is allowed, or if those are
-- allowed that they got.
use Rattle.std.proofs.Common.{◌≡◌, ℕ, List, length, map, Bool, false}
use Rattle.iol_core.specs.State.{State}
use Rattle.iol_core.specs.declared.events.Reply.{Reply}
use Rattle.iol_proc.specs.Idle.{rounds}
use Rattle.iol_proc.specs.FailureFree.{FailureFreeRuns}
use Rattle.iol_proc.specs.World.{WorldState, domains_of}
use Rattle.iol_proc.specs.declared.choice.Choice.{Choice}
use Rattle.flash_cgi.specs.declared.worker.Worker.{Worker}
use Rattle.flash_laws.specs.Serves.Rounds.{in_rounds}
use Rattle.flash_laws.specs.World.Consistency.{Actor, actor_turns}
use Rattle.flash_laws.specs.World.Fair.{any_refusal, no_refusal, AnyIsFair, OwnIsFair, FailureFreeIsFair}
use Rattle.flash_lite.specs.HostedSite.{HasFairTurns, Hosts, refusals_of}
use Rattle.flash_lite.specs.Workers.{worker_turns}
use Rattle.flash_lite.specs.declared.site.Site.{Site}
use Rattle.flash_lite.proofs.World.Harmless.{run-even}

module _ (s : Site) (slots : List (List ℕ)) (xs : List Choice) (rs : List Reply) (turns : ℕ) (idle : Bool)
    (after : WorldState State (Actor Worker)) (hosts : Hosts s slots xs rs turns idle after) where
  abbrev in_turns : List Choice
  in_turns = rounds (domains_of hosts.mid.process_slots) 0 (length hosts.ends.went)

  abbrev after_reply : List Reply
  after_reply = map (λ t. t.1) hosts.ends.went

  pub failure_free-turns : FailureFreeIsFair → FailureFreeRuns (actor_turns in_rounds worker_turns)
      → after.resource_failure ≡ false
      → HasFairTurns s slots xs rs turns idle after hosts no_refusal
  failure_free-turns fair runs failure_free =
      let late = runs.machine.never_was hosts.mid after in_turns after_reply hosts.ends.run failure_free in
      let early = runs.machine.never_was hosts.first hosts.mid xs rs hosts.run late.0 in
      (fair xs rs early.1, fair in_turns after_reply late.1)

  pub any-turns : AnyIsFair → HasFairTurns s slots xs rs turns idle after hosts any_refusal
  any-turns fair = (fair xs rs, fair in_turns after_reply)

  pub own-turns : OwnIsFair
      → HasFairTurns s slots xs rs turns idle after hosts (refusals_of s slots xs rs turns idle after hosts)
  own-turns fair =
      fair xs in_turns rs after_reply (run-even (actor_turns in_rounds worker_turns) xs rs hosts.first hosts.mid
      hosts.run)
