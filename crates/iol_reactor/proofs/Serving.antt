-- A world that serves, one step after another.
use Rattle.std.proofs.Common.{◌≡◌, ◌∙◌, inr, ℕ, Bool, false, List, [], ◌∷◌, ◌++◌, length, Option, Some, None, refl}
use Rattle.std.proofs.Common.{append_assoc, ap, sym}
use Rattle.std.proofs.Math.Logic.{∥∥₁_map}
use Rattle.iol_back.specs.Disk.{IfHonest}
use Rattle.iol_core.specs.State.{State}
use Rattle.iol_core.specs.declared.descriptors.How.{How}
use Rattle.iol_core.specs.declared.events.Event.TheVariants as event
use Rattle.iol_core.specs.declared.events.Reply.{Reply}
use Rattle.iol_system.specs.Machine.{SystemState}
use Rattle.iol_proc.specs.Laws.{KeepsHonesty}
use Rattle.iol_proc.specs.Histories.{stream_over, sent_over}
use Rattle.iol_proc.specs.Streams.{ArrivesAs}
use Rattle.iol_proc.specs.Turns.{TransitionRelation}
use Rattle.iol_proc.specs.World.{WorldState, copied, copying, OutsideStep, TurnAt}
use Rattle.iol_proc.specs.declared.activity.Activity.{Activity}
use Rattle.iol_proc.specs.declared.choice.Choice.{Choice}
use Rattle.iol_proc.specs.declared.choice.Choice.TheVariants as choice
use Rattle.iol_proc.proofs.Streams.{runs_follow}
use Rattle.iol_serve.proofs.Steps.{goes_arrived, goes_none, goes_then}
use Rattle.iol_serve.specs.Service.{IsOn, AreOn, Proceeds}
use Rattle.iol_reactor.specs.Serving.{IsServing, AreServing, Arrives, Continues, Ends, HasServed}

serving_on : (pool c : ℕ) (x : Choice) → IsOn c x → IsServing pool x
serving_on pool c (choice.Turn by) on = tt
serving_on pool c (choice.Outside (event.Arrive d bytes)) on = tt
serving_on pool c (choice.Outside (event.PeerClosed d how)) on = tt
serving_on pool c (choice.Outside (event.Transmit d max)) on = tt
serving_on pool c (choice.Outside (event.ConnNew p)) on = absurd on
serving_on pool c (choice.Outside (event.Call d k)) on = absurd on
serving_on pool c (choice.Outside event.Flush) on = absurd on
serving_on pool c (choice.Outside event.DropClean) on = absurd on

pub serving_all : (pool c : ℕ) (xs : List Choice) → AreOn c xs → AreServing pool xs
serving_all pool c [] on = tt
serving_all pool c (x ∷ xs) on = (serving_on pool c x on.0, serving_all pool c xs on.1)

pub serving-append : (pool : ℕ) (xs ys : List Choice) → AreServing pool xs → AreServing pool ys
    → AreServing pool (xs ++ ys)
serving-append pool [] ys first next = next
serving-append pool (x ∷ xs) ys first next = (first.0, serving-append pool xs ys first.1 next)

module _ {P : Type 0} (turns : TransitionRelation P) where
  continues_none : (pool : ℕ) (w : WorldState State P) → Continues turns pool w w
  continues_none pool w = record { choices = []; replies = []; run = refl; serving = tt }

  continues_then : (pool : ℕ) (w mid after : WorldState State P) → Continues turns pool w mid
      → Continues turns pool mid after → Continues turns pool w after
  continues_then pool w mid after a b = record {
    choices = a.choices ++ b.choices;
    replies = a.replies ++ b.replies;
    run = runs_follow copying turns w mid after a.choices b.choices a.replies b.replies a.run b.run;
    serving = serving-append pool a.choices b.choices a.serving b.serving;
  }

  pub continues_same : (pool : ℕ) (w after : WorldState State P) → after ≡ w → Continues turns pool w after
  continues_same pool w after same = record { choices = []; replies = []; run = same; serving = tt }

  pub continues_on : (pool c : ℕ) (came sent : List ℕ) (gone : Bool) (w after : WorldState State P)
      → Proceeds turns c came sent gone w after → Continues turns pool w after
  continues_on pool c came sent gone w after g =
      record { choices = g.choices; replies = g.replies; run = g.run; serving = serving_all pool c g.choices g.alone }

  pub continues_new : (pool : ℕ) (r : Reply) (w after : WorldState State P)
      → OutsideStep copying turns w (event.ConnNew pool) r after → Continues turns pool w after
  continues_new pool r w after step =
      record {
        choices = choice.Outside (event.ConnNew pool) ∷ [];
        replies = r ∷ [];
        run = (after, step, refl);
        serving = (refl, tt);
      }

  -- a turn of one process
  pub goes_turn_at : (c place : ℕ) (a : Option Activity) (w after : WorldState State P)
      → TurnAt copying turns w place a after → Proceeds turns c [] [] false w after
  unfolding stream_over sent_over
  goes_turn_at c place None w after t = goes_none turns c w after t.1
  goes_turn_at c place (Some a) w after t = record {
    choices = choice.Turn t.2.process_slot.by ∷ [];
    replies = t.1 ∷ [];
    run = (after, inr (record { place = place; yields = t.0; turn = t.2; domain = refl }), refl);
    alone = (tt, tt);
    comes = refl;
    goes = refl;
    reports = refl;
  }

  -- bytes that arrive

  pub arrives_none : (c : ℕ) (bytes : List ℕ) (w : WorldState State P) → Arrives turns c bytes bytes w w
  arrives_none c bytes w = record { came = []; split = refl; proceeds = goes_none turns c w w refl }

  pub arrives_refused : (c : ℕ) (bytes rest : List ℕ) (w after : WorldState State P) → rest ≡ bytes → after ≡ w
      → Arrives turns c bytes rest w after
  arrives_refused c bytes rest w after still same =
      record { came = []; split = sym still; proceeds = goes_none turns c w after same }

  pub arrives_page : (c n : ℕ) (bytes rest came : List ℕ) (w after : WorldState State P) → bytes ≡ came ++ rest
      → length came ≡ n → ArrivesAs turns c n came w after → Arrives turns c bytes rest w after
  arrives_page c n bytes rest came w after split count step =
      record { came = came; split = split; proceeds = goes_arrived turns c n came w after count step }

  pub arrives_then : (c : ℕ) (bytes more rest : List ℕ) (w mid after : WorldState State P)
      → Arrives turns c bytes more w mid
      → Arrives turns c more rest mid after → Arrives turns c bytes rest w after
  arrives_then c bytes more rest w mid after a b = record {
    came = a.came ++ b.came;
    split = a.split ∙ (ap (λ (l : List ℕ). a.came ++ l) b.split ∙ sym (append_assoc a.came b.came rest));
    proceeds = goes_then turns c a.came [] b.came [] false false w mid after a.proceeds b.proceeds;
  }

  -- a peer that has ended
  pub ends_reported : (c : ℕ) (how : How) (r : Reply) (w after : WorldState State P)
      → OutsideStep copying turns w (event.PeerClosed c how) r after → Ends turns c how w after
  ends_reported c how r w after step = record { reply = r; step = step }

  served_first : (starts : WorldState SystemState P → Type 0) (pool : ℕ) (w : WorldState SystemState P) → starts w
      → HasServed turns starts pool w
  served_first starts pool w started =
      record {
        begun = w;
        started = started;
        honest = record { same = refl };
        continues = λ honest. continues_none pool (copied w);
      }

  served_next : (starts : WorldState SystemState P → Type 0) (pool : ℕ) (w after : WorldState SystemState P)
      → KeepsHonesty w.machine after.machine
      → IfHonest w.machine.disk (Continues turns pool (copied w) (copied after)) → HasServed turns starts pool w
      → HasServed turns starts pool after
  served_next starts pool w after kept next h = record {
    begun = h.begun;
    started = h.started;
    honest = record { same = kept.same ∙ h.honest.same };
    continues = λ honest. continues_then pool (copied h.begun) (copied w) (copied after) (h.continues honest)
        (next (h.honest.same ∙ honest));
  }

  -- the same, without the witness
  pub began : (starts : WorldState SystemState P → Type 0) (pool : ℕ) (w : WorldState SystemState P) → starts w
      → ∥ HasServed turns starts pool w ∥₁
  began starts pool w started = ∣ served_first starts pool w started ∣₁

  pub proceeds : (starts : WorldState SystemState P → Type 0) (pool : ℕ) (w after : WorldState SystemState P)
      → KeepsHonesty w.machine after.machine
      → IfHonest w.machine.disk (Continues turns pool (copied w) (copied after)) → ∥ HasServed turns starts pool w ∥₁
      → ∥ HasServed turns starts pool after ∥₁
  proceeds starts pool w after kept next h = ∥∥₁_map h (served_next starts pool w after kept next)
