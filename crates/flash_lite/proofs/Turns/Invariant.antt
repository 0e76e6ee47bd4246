-- Invariants between two turns of the server, and a turn of its account.
use Rattle.std.proofs.Common.{◌≡◌, ◌≤◌, ℕ, List, Option, sym, subst, ◌∙◌}
use Rattle.iol_core.specs.declared.events.Reply.{Reply}
use Rattle.iol_proc.specs.declared.process.Turn.{Turn}
use Rattle.flash_laws.specs.Serves.Rounds.{in_rounds}
use Rattle.flash_laws.specs.Serves.{received_of, server_turns}
use Rattle.flash_laws.proofs.Site.OwnWorkers.{workers_shared}
use Rattle.flash_lite.specs.Table.{Table, IsBetweenTurns, serving}
use Rattle.flash_lite.specs.ServerTurn.{Turns}
use Rattle.flash_lite.specs.declared.site.TheConstants.{MAX_WORKERS}
use Rattle.flash_lite.proofs.Few.{few_turn}

pub transitions_turn : (s t : Table) (last : Reply) (readable : ℕ → Option (List ℕ)) (received : List ℕ) (made : Turn)
    → received ≡ received_of last readable → Turns s last received made t
    → server_turns in_rounds (serving s) last readable made (serving t)
transitions_turn s t last readable received made receives turns =
    let all : Turns s last (received_of last readable) made t =
    subst (λ (l : List ℕ). Turns s last l made t) receives turns in
    (all.policy, all.picks, all.hired)

pub kept_turn : (s t : Table) (last : Reply) (readable : ℕ → Option (List ℕ)) (received : List ℕ) (made : Turn)
    → received ≡ received_of last readable → IsBetweenTurns s → Turns s last received made t → IsBetweenTurns t
kept_turn s t last readable received made receives between turns =
    let all = transitions_turn s t last readable received made receives turns in record {
      few = few_turn s.workers s.clients s.pending_call last received t.pending_call made t.clients between.few
          turns.picks
          turns.policy;
      hired = subst (λ k. k ≤ MAX_WORKERS) (sym turns.hired) between.hired;
      shared = workers_shared.turns (serving s) (serving t) last readable made between.shared (tt, all.1, all.2);
      reports = turns.reports;
      none = λ zero. let same : s.workers ≡ 0 = sym turns.hired ∙ zero in
          workers_shared.none (serving s) (serving t) last readable made same (between.none same) (tt, all.1, all.2);
    }
