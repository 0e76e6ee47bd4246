-- Chains of steps: how they are extended and divided, and their consequences.
use Rattle.std.proofs.Common.{◌≡◌, ◌∙◌, true, false, Some, ℕ, ◌+◌, ◌<◌, List, [], ◌∷◌, ◌++◌, length, take, get_or, refl}
use Rattle.std.proofs.Common.{sym, ap, subst}
use Rattle.std.proofs.lemmas.List.{take_more}
use Rattle.std.specs.Prelude.{Bool, ◌||◌}
use Rattle.std.specs.List.{list_any}
use Rattle.std.proofs.lemmas.Bool.{true≢false}
use Rattle.iol_core.specs.declared.events.Event.{Event}
use Rattle.iol_core.specs.declared.events.Reply.{Reply}
use Rattle.iol_hold.specs.Moves.{Stays}
use Rattle.iol_hold.proofs.Moves.{stays_trans}
use Rattle.iol_core.specs.State.{aggregate}
use Rattle.iol_core.specs.Text.{Text}
use Rattle.iol_core.specs.Values.{gives_up}
use Rattle.iol_kernel.specs.KernelState.{layout_of}
use Rattle.iol_system.specs.Machine.{SystemState, machine_of}
use Rattle.iol_kernel.proofs.State.Stay.{stays_here}
use Rattle.iol_system.specs.Promises.{Promises, Chain}
use Rattle.iol_system.specs.Safe.{IsSafe}
use Rattle.iol_system.specs.Laws.{RunsAsTheMachine, Between, RunsInParts, Moment, EachEventIsAStep, RunsStaySafe}
use Rattle.iol_system.specs.Laws.{RunsKeepHonesty, RunsKeepBuffers, RunsKeepValues, SharesOver, RunsShare}

-- a chain is extended by one step
Chain-push : (old mid new : SystemState) (es : List Event) (rs : List Reply) (e : Event) (r : Reply)
    → Chain old es rs mid → Promises mid e r new → Chain old (es ++ e ∷ []) (rs ++ r ∷ []) new
Chain-push old mid new [] [] e r chain step = (new, subst (λ (s : SystemState). Promises s e r new) chain step, refl)
Chain-push old mid new (a ∷ es) (b ∷ rs) e r chain step =
    (chain.0, chain.1, Chain-push chain.0 mid new es rs e r chain.2 step)
Chain-push old mid new [] (b ∷ rs) e r chain step = absurd chain
Chain-push old mid new (a ∷ es) [] e r chain step = absurd chain

pub chain_more : (old mid new : SystemState) (es : List Event) (rs : List Reply) (i : ℕ) (e : Event) (r : Reply)
    → i < length es → e ≡ get_or es i e → Chain old (take i es) rs mid → Promises mid e r new
    → Chain old (take (i + 1) es) (rs ++ r ∷ []) new
chain_more old mid new es rs i e r lt is chain step =
    rw (take_more es i e lt) (subst (λ (x : Event). Chain old (take i es ++ x ∷ []) (rs ++ r ∷ []) new) is
    (Chain-push old mid new (take i es) rs e r chain step))

pub chain_run : RunsAsTheMachine
chain_run old new [] [] chain honest = ap machine_of chain
chain_run old new (e ∷ es) (r ∷ rs) chain honest =
    (machine_of chain.0, chain.1.step honest, chain_run chain.0 new es rs chain.2 (chain.1.honest ∙ honest))
chain_run old new [] (r ∷ rs) chain honest = absurd chain
chain_run old new (e ∷ es) [] chain honest = absurd chain

pub chain_honest : RunsKeepHonesty
chain_honest old new [] [] chain = ap (λ (s : SystemState). s.disk.honest) chain
chain_honest old new (e ∷ es) (r ∷ rs) chain = chain_honest chain.0 new es rs chain.2 ∙ chain.1.honest
chain_honest old new [] (r ∷ rs) chain = absurd chain
chain_honest old new (e ∷ es) [] chain = absurd chain

pub chain_parts : RunsInParts
chain_parts old new [] future rs chain =
    record { now = old; past_replies = []; future_replies = rs; replies = refl; before = refl; after = chain }
chain_parts old new (e ∷ past) future (r ∷ rs) chain =
    let rest : Between chain.0 past future rs new = chain_parts chain.0 new past future rs chain.2 in record {
      now = rest.now;
      past_replies = r ∷ rest.past_replies;
      future_replies = rest.future_replies;
      replies = ap (λ xs. r ∷ xs) rest.replies;
      before = (chain.0, chain.1, rest.before);
      after = rest.after;
    }
chain_parts old new (e ∷ past) future [] chain = absurd chain

-- the first event of a chain, and the rest of it
chain_first : (old new before : SystemState) (past : List Event) (e : Event) (future : List Event)
    (rs past_replies future_replies : List Reply) → rs ≡ past_replies ++ future_replies
    → Chain old past past_replies before → Chain before (e ∷ future) future_replies new
    → Moment old past e future rs new
chain_first old new before past e future rs past_replies (r ∷ future_replies) replies past_runs chain = record {
  before = before;
  after = chain.0;
  past_replies = past_replies;
  reply = r;
  future_replies = future_replies;
  replies = replies;
  past_runs = past_runs;
  promises = chain.1;
  future_runs = chain.2;
}
chain_first old new before past e future rs past_replies [] replies past_runs chain = absurd chain

pub chain_each : EachEventIsAStep
chain_each old new past e future rs chain =
    let at : Between old past (e ∷ future) rs new = chain_parts old new past (e ∷ future) rs chain in
    chain_first old new at.now past e future rs at.past_replies at.future_replies at.replies at.before at.after

pub chain_safe : RunsStaySafe
chain_safe old new [] [] chain safe = subst IsSafe (sym chain) safe
chain_safe old new (e ∷ es) (r ∷ rs) chain safe = chain_safe chain.0 new es rs chain.2 chain.1.safe
chain_safe old new [] (r ∷ rs) chain safe = absurd chain
chain_safe old new (e ∷ es) [] chain safe = absurd chain

pub chain_stays : RunsKeepBuffers
chain_stays old new [] [] chain =
    subst (λ (s : SystemState). Stays old.kernel.store s.kernel.store) (sym chain) (stays_here old.kernel.store)
chain_stays old new (e ∷ es) (r ∷ rs) chain = stays_trans chain.1.stays (chain_stays chain.0 new es rs chain.2)
chain_stays old new [] (r ∷ rs) chain = absurd chain
chain_stays old new (e ∷ es) [] chain = absurd chain

pub neither : (a b : Bool) → (a || b) ≡ false → (a ≡ false) × (b ≡ false)
neither false b e = (refl, e)
neither true b e = absurd (true≢false e)

value_kept : (old new : SystemState) (es : List Event) (rs : List Reply) (d a : ℕ) (t : Text)
    → aggregate (machine_of old) d a ≡ Some t → list_any (λ e. gives_up e d a) es ≡ false → Chain old es rs new
    → aggregate (machine_of new) d a ≡ Some t
value_kept old new [] [] d a t is kept chain =
    subst (λ (s : SystemState). aggregate (machine_of s) d a ≡ Some t) (sym chain) is
value_kept old new (e ∷ es) (r ∷ rs) d a t is kept chain =
    let both = neither (gives_up e d a) (list_any (λ x. gives_up x d a) es) kept in
    value_kept chain.0 new es rs d a t (chain.1.values.each d a t is both.0) both.1 chain.2
value_kept old new [] (r ∷ rs) d a t is kept chain = absurd chain
value_kept old new (e ∷ es) [] d a t is kept chain = absurd chain

pub chain_values : RunsKeepValues
chain_values old new es rs chain = record { each = λ d a t is kept. value_kept old new es rs d a t is kept chain }

pub chain_shares : RunsShare
chain_shares old new [] [] chain all = record {
  places = ap (λ (s : SystemState). layout_of s.kernel) chain;
  arena =
      ap (λ (s : SystemState). s.kernel.store.arena) chain;
  pools = ap (λ (s : SystemState). s.kernel.store.pools) chain;
}
chain_shares old new (e ∷ es) (r ∷ rs) chain all =
    let rest : SharesOver chain.0 es rs new = chain_shares chain.0 new es rs chain.2 all.1 in record {
      places = (layout_of chain.0.kernel, chain.1.shares all.0, rest.places);
      arena = rest.arena ∙ (chain.1.pages all.0).arena;
      pools = rest.pools ∙ (chain.1.pages all.0).pools;
    }
chain_shares old new [] (r ∷ rs) chain all = absurd chain
chain_shares old new (e ∷ es) [] chain all = absurd chain
