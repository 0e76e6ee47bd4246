-- A drain sends the bytes that were taken, and a refused one none.
use Rattle.std.proofs.Common.{◌≡◌, ℕ, List, [], Option, sym, ap, subst, take}
use Rattle.std.proofs.lemmas.List.{take-map}
use Rattle.std.specs.Io.KnownBytes.{Appends}
use Rattle.iol_core.specs.State.{conn_at}
use Rattle.iol_core.specs.Text.{bytes_of}
use Rattle.iol_proc.specs.Streams.{SendsAs}
use Rattle.iol_proc.specs.Turns.{TransitionRelation}
use Rattle.iol_proc.specs.World.{WorldState, copied}
use Rattle.iol_system.specs.Machine.{SystemState, tables_of}
use Rattle.iol_system.specs.Prelude.{read_of, state_view}
use Rattle.iol_serve.specs.Service.{Sends}
use Rattle.iol_serve.proofs.Steps.{appends_none, goes_sent, sends_none}

module _ {P : Type 0} (turns : TransitionRelation P) where
  pub sends_drained : (c n : ℕ) (held now : Option (List ℕ)) (w after : WorldState SystemState P)
      → SendsAs turns c n (copied w) (copied after)
      → Appends held now (take n (bytes_of (conn_at (tables_of w.machine.kernel) c).outgoing))
      → Sends turns c held now (copied w) (copied after)
  unfolding conn_at read_of state_view
  sends_drained c n held now w after step taken =
      let sent : List ℕ = take n (bytes_of (conn_at (tables_of w.machine.kernel) c).outgoing) in
      record {
        sent = sent;
        taken = taken;
        proceeds = goes_sent turns c n sent (copied w) (copied after) step (sym (take-map (λ b. b.0) n _))
            (λ none. ap (λ (k : ℕ). take k (bytes_of (conn_at (tables_of w.machine.kernel) c).outgoing)) none);
      }

  pub sends_refused : (c : ℕ) (held now : Option (List ℕ)) (w after : WorldState SystemState P) → now ≡ held → after ≡ w
      → Sends turns c held now (copied w) (copied after)
  sends_refused c held now w after still same =
      sends_none turns c held now (copied w) (copied after)
      (subst (λ (o : Option (List ℕ)). Appends held o []) (sym still) (appends_none held))
      (ap (λ (v : WorldState SystemState P). copied v) same)
