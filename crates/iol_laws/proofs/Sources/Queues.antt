-- The bytes of a pipe stay in their pools, and written bytes are in the pools of their source.
use Rattle.std.proofs.Common.{◌≡◌, ℕ, List, take, refl, sym, subst, Option, Some, true, Bool}
use Rattle.iol_core.specs.Text.{labelled}
use Rattle.iol_core.specs.State.{State, descriptor, text, pipe_at}
use Rattle.iol_core.specs.Run.{StepsTo}
use Rattle.iol_core.specs.Calls.Aggregates.{default_pool}
use Rattle.iol_core.specs.Calls.Writes as writing
use Rattle.iol_core.specs.declared.descriptors.Descriptor.{Descriptor}
use Rattle.iol_core.specs.declared.descriptors.Descriptor.TheVariants as on
use Rattle.iol_core.specs.declared.events.Call.TheVariants as call
use Rattle.iol_core.specs.declared.events.Event.{Event}
use Rattle.iol_core.specs.declared.events.Event.TheVariants as event
use Rattle.iol_core.specs.declared.events.Reply.{Reply}
use Rattle.iol_core.specs.declared.events.Reply.TheVariants as reply
use Rattle.iol_laws.specs.Sources.{is_write_end, taken_from, writes_pipe}
use Rattle.iol_laws.proofs.Frame.Queues.{HoldsWith, queue_meant}
use Rattle.iol_laws.proofs.Sources.NewAggregates.{Lie, lie-both, lie-dropped, lie-labelled, lie-taken}

module _ (pools : ℕ → Bool) (p : ℕ) where
  abbrev LieIn : State → Type 0
  LieIn s = Lie pools (pipe_at s p).queue

  -- bytes that are copied to a pipe are in the writer's default pool
  copied : (s : State) (by : ℕ) (o : Option Descriptor) (n : ℕ) (bytes : List ℕ)
      → Lie pools (labelled (default_pool s by) bytes) → is_write_end p o ≡ true
      → Lie pools (labelled (writing.pool_for s by o) (take n bytes))
  copied s by (Some (on.WriteEnd q)) n bytes lies is = lie-labelled pools (default_pool s by) n 0 bytes lies
  copied s by o n bytes lies is = absurd (cc)

  lies_with : (s : State) (e : Event) → (writes_pipe s e p ≡ true → Lie pools (taken_from s e)) → LieIn s
      → HoldsWith (Lie pools) refl (lie-dropped pools) p s e
  lies_with s (event.Call by (call.IolWrite fd a)) new lies =
      λ is. lie-both pools (pipe_at s p).queue _ lies (lie-taken pools _ (text s by a) (new is))
  lies_with s (event.Call by (call.Write fd bytes)) new lies =
      λ is. lie-both pools (pipe_at s p).queue _ lies (copied s by (descriptor s by fd) _ bytes (new is) is)
  lies_with s e new lies = tt

  pub queued_step : (s t : State) (e : Event) (r : Reply) → StepsTo s e r t
      → (writes_pipe s e p ≡ true → Lie pools (taken_from s e)) → LieIn s → LieIn t
  queued_step s t e (reply.Refused x) step new lies = subst (λ (u : State). LieIn u) (sym step.1) lies
  queued_step s t e r step new lies =
      subst (λ (u : State). LieIn u) (sym step.2)
      (queue_meant (Lie pools) refl (lie-dropped pools) p s e (lies_with s e new lies) lies)
