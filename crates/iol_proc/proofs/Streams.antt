-- Choices are events of the machine, with the same histories of connections.
use Rattle.std.proofs.Common.{◌≡◌, ◌∙◌, inl, inr, ℕ, List, [], ◌∷◌, ◌++◌, Bool, true, false, refl, sym, subst, ap}
use Rattle.std.proofs.Common.{arith, length}
use Rattle.std.specs.Prelude.{◌||◌}
use Rattle.std.specs.List.{list_any}
use Rattle.iol_core.specs.Text.{bytes_of}
use Rattle.iol_core.specs.State.{State, conn_at}
use Rattle.iol_core.specs.Run.{Run, StepsTo}
use Rattle.iol_core.specs.declared.events.Call.{Call}
use Rattle.iol_core.specs.declared.events.Event.{Event}
use Rattle.iol_core.specs.declared.events.Event.TheVariants as event
use Rattle.iol_core.specs.declared.events.Reply.{Reply}
use Rattle.iol_laws.specs.History.{stream_of, sent_of, drops_unsent, came_by, sent_by, IsEndOf, GoesFirst, IsAllUnread}
use Rattle.iol_laws.specs.Order.{IsOrderly}
use Rattle.iol_laws.proofs.Runs.{Reports, reported-append, reported-more}
use Rattle.iol_laws.proofs.Streams.Histories.{stream-append, sent-append, unread_run, unsent_run}
use Rattle.iol_laws.proofs.Streams.Backlog.{waiting_run}
use Rattle.iol_proc.specs.Histories.{came_with, sent_with, stream_over, sent_over, drops_with, may_be_no_call, RunsAs}
use Rattle.iol_proc.specs.Histories.{Proceeds}
use Rattle.iol_proc.specs.Turns.{Machine, TransitionRelation, Comes, ProcessSlotTurn}
use Rattle.iol_proc.specs.World.{WorldState, copying, DomainTurn, WorldStep, WorldRun}
use Rattle.iol_proc.specs.declared.choice.Choice.{Choice}
use Rattle.iol_proc.specs.declared.choice.Choice.TheVariants as choice
use Rattle.iol_proc.specs.declared.process.Turn.{Turn}
use Rattle.iol_proc.specs.declared.process.Turn.TheVariants as turn
use Rattle.iol_proc.specs.declared.process_slot.ProcessSlot.{ProcessSlot}

-- A machine whose runs are empty, or begin with one of its steps.
module _ {M P : Type 0} (machine : Machine M) (turns : TransitionRelation P) (Runs : M → List Event → List Reply → M
    → Type 0) (none : (old new : M) → new ≡ old → Runs old [] [] new)
    (more : (old mid new : M) (e : Event) (r : Reply) (es : List Event) (rs : List Reply) → machine.Step old e r mid
    → Runs mid es rs new → Runs old (e ∷ es) (r ∷ rs) new) where
  -- a choice that leaves the machine unchanged
  stays_as : (by : ℕ) (r : Reply) (old mid new : M) (xs : List Choice) (rs : List Reply) → may_be_no_call r ≡ true
      → mid ≡ old → RunsAs Runs mid xs rs new → RunsAs Runs old (choice.Turn by ∷ xs) (r ∷ rs) new
  unfolding stream_over sent_over
  stays_as by r old mid new xs rs brings_none same rest = record {
    events = rest.events;
    replies = rest.replies;
    runs = subst (λ (m : M). Runs m rest.events rest.replies new) same rest.runs;
    brought = inl (brings_none, rest.brought);
    stream = rest.stream;
    sent = rest.sent;
    drops = rest.drops;
  }

  -- a call of the domain's process
  calls_as : (by d : ℕ) (k : Call) (r : Reply) (old mid new : M) (xs : List Choice) (rs : List Reply) → d ≡ by
      → machine.Step old (event.Call d k) r mid → RunsAs Runs mid xs rs new
      → RunsAs Runs old (choice.Turn by ∷ xs) (r ∷ rs) new
  unfolding stream_of sent_of stream_over sent_over
  calls_as by d k r old mid new xs rs its step rest = record {
    events = event.Call d k ∷ rest.events;
    replies = r ∷ rest.replies;
    runs = more old mid new (event.Call d k) r rest.events rest.replies step rest.runs;
    brought = inr (k, (ap (λ (n : ℕ). event.Call n k) its, refl, rest.brought));
    stream = rest.stream;
    sent = rest.sent;
    drops = rest.drops;
  }

  comes_as : (by d : ℕ) (t : Turn) (yields : Bool) (r : Reply) (old mid new : M) (xs : List Choice) (rs : List Reply)
      → d ≡ by → Comes machine turns old d t yields r mid → RunsAs Runs mid xs rs new
      → RunsAs Runs old (choice.Turn by ∷ xs) (r ∷ rs) new
  comes_as by d turn.Yield yields r old mid new xs rs its comes rest =
      stays_as by r old mid new xs rs (subst (λ (v : Reply). may_be_no_call v ≡ true) (sym comes.1) refl) comes.2 rest
  comes_as by d (turn.Make k) yields r old mid new xs rs its comes rest =
      calls_as by d k r old mid new xs rs its comes.1 rest

  process_slot_as : (by : ℕ) (process_slot next : ProcessSlot P) (yields : Bool) (r : Reply) (old mid new : M)
      (xs : List Choice) (rs : List Reply) → process_slot.by ≡ by
      → ProcessSlotTurn machine turns old process_slot yields r mid next → RunsAs Runs mid xs rs new
      → RunsAs Runs old (choice.Turn by ∷ xs) (r ∷ rs) new
  process_slot_as by process_slot next yields r old mid new xs rs its t rest =
      elim t [
        | inl starves ↦
            stays_as by r old mid new xs rs (subst (λ (v : Reply). may_be_no_call v ≡ true) (sym starves.answer) refl)
            starves.machine_stays rest
        | inr moves ↦ comes_as by process_slot.by moves.turn yields r old mid new xs rs its moves.comes rest
      ]

  domain_as : (by : ℕ) (r : Reply) (w mid : WorldState M P) (new : M) (xs : List Choice) (rs : List Reply)
      → DomainTurn machine turns w by r mid → RunsAs Runs mid.machine xs rs new
      → RunsAs Runs w.machine (choice.Turn by ∷ xs) (r ∷ rs) new
  domain_as by r w mid new xs rs t rest =
      elim t [
        | inl absent ↦
            stays_as by r w.machine mid.machine new xs rs
            (subst (λ (v : Reply). may_be_no_call v ≡ true) (sym absent.answer) refl)
            (ap (λ (v : WorldState M P). v.machine) absent.stays) rest
        | inr here ↦ process_slot_as by here.turn.process_slot here.turn.next here.yields r w.machine mid.machine new xs
            rs here.domain here.turn.turn rest
      ]

  step_as : (x : Choice) (r : Reply) (w mid : WorldState M P) (new : M) (xs : List Choice) (rs : List Reply)
      → WorldStep machine turns w x r mid → RunsAs Runs mid.machine xs rs new
      → RunsAs Runs w.machine (x ∷ xs) (r ∷ rs) new
  unfolding stream_of sent_of stream_over sent_over
  step_as (choice.Turn by) r w mid new xs rs step rest = domain_as by r w mid new xs rs step rest
  step_as (choice.Outside e) r w mid new xs rs step rest = record {
    events = e ∷ rest.events;
    replies = r ∷ rest.replies;
    runs = more w.machine mid.machine new e r rest.events rest.replies step.step rest.runs;
    brought = (refl, refl, rest.brought);
    stream = λ c. ap (λ (l : List ℕ). came_by c e r ++ l) (rest.stream c);
    sent = λ c. ap (λ (l : List ℕ). sent_by c e r ++ l) (rest.sent c);
    drops = λ c. ap (λ (b : Bool). drops_unsent e c || b) (rest.drops c);
  }

  pub run_as : (w after : WorldState M P) (xs : List Choice) (rs : List Reply) → WorldRun machine turns w xs rs after
      → RunsAs Runs w.machine xs rs after.machine
  unfolding stream_of sent_of stream_over sent_over
  run_as w after [] [] ran =
      record {
        events = [];
        replies = [];
        runs = none w.machine after.machine (ap (λ (v : WorldState M P). v.machine) ran);
        brought = (refl, refl);
        stream = λ c. refl;
        sent = λ c. refl;
        drops = λ c. refl;
      }
  run_as w after (x ∷ xs) (r ∷ rs) ran = step_as x r w ran.0 after.machine xs rs ran.1 (run_as ran.0 after xs rs ran.2)
  run_as w after [] (r ∷ rs) ran = absurd ran
  run_as w after (x ∷ xs) [] ran = absurd ran

-- Runs in parts.
module _ {M P : Type 0} (machine : Machine M) (turns : TransitionRelation P) where
  pub runs_follow : (w mid after : WorldState M P) (past future : List Choice) (rs qs : List Reply)
      → WorldRun machine turns w past rs mid → WorldRun machine turns mid future qs after
      → WorldRun machine turns w (past ++ future) (rs ++ qs) after
  runs_follow w mid after [] future [] qs first next =
      subst (λ (v : WorldState M P). WorldRun machine turns v future qs after) first next
  runs_follow w mid after (x ∷ past) future (r ∷ rs) qs first next =
      (first.0, first.1, runs_follow first.0 mid after past future rs qs first.2 next)
  runs_follow w mid after [] future (r ∷ rs) qs first next = absurd first
  runs_follow w mid after (x ∷ past) future [] qs first next = absurd first

  -- each choice has its reply
  pub world-even : (w after : WorldState M P) (xs : List Choice) (rs : List Reply)
      → WorldRun machine turns w xs rs after
      → length xs ≡ length rs
  world-even w after [] [] ran = refl
  world-even w after (x ∷ xs) (r ∷ rs) ran = (let rest = world-even ran.0 after xs rs ran.2 in omega (arith, rest))
  world-even w after [] (r ∷ rs) ran = absurd ran
  world-even w after (x ∷ xs) [] ran = absurd ran

stream_reports : (c : ℕ) → Reports (λ (x : Choice) (r : Reply). came_with c x r) (λ xs rs. stream_over c xs rs)
unfolding stream_over
stream_reports c = record { none = refl; next = λ x r xs rs. refl }

sent_reports : (c : ℕ) → Reports (λ (x : Choice) (r : Reply). sent_with c x r) (λ xs rs. sent_over c xs rs)
unfolding sent_over
sent_reports c = record { none = refl; next = λ x r xs rs. refl }

module _ {M P : Type 0} (machine : Machine M) (turns : TransitionRelation P) where
  pub stream_over-append : (w mid : WorldState M P) (past future : List Choice) (rs qs : List Reply) (c : ℕ)
      → WorldRun machine turns w past rs mid → stream_over c (past ++ future) (rs ++ qs) ≡ stream_over c past rs
      ++ stream_over c future qs
  stream_over-append w mid past future rs qs c ran =
      reported-append _ _ (stream_reports c) past future rs qs (world-even machine turns w mid past rs ran)

  pub sent_over-append : (w mid : WorldState M P) (past future : List Choice) (rs qs : List Reply) (c : ℕ)
      → WorldRun machine turns w past rs mid → sent_over c (past ++ future) (rs ++ qs) ≡ sent_over c past rs
      ++ sent_over c future qs
  sent_over-append w mid past future rs qs c ran =
      reported-append _ _ (sent_reports c) past future rs qs (world-even machine turns w mid past rs ran)

-- One more choice.
pub stream_over-more : (xs : List Choice) (rs : List Reply) (x : Choice) (r : Reply) (c : ℕ) → length xs ≡ length rs
    → stream_over c (xs ++ x ∷ []) (rs ++ r ∷ []) ≡ stream_over c xs rs ++ came_with c x r
stream_over-more xs rs x r c even = reported-more _ _ (stream_reports c) xs rs x r even

pub sent_over-more : (xs : List Choice) (rs : List Reply) (x : Choice) (r : Reply) (c : ℕ) → length xs ≡ length rs
    → sent_over c (xs ++ x ∷ []) (rs ++ r ∷ []) ≡ sent_over c xs rs ++ sent_with c x r
sent_over-more xs rs x r c even = reported-more _ _ (sent_reports c) xs rs x r even

-- Runs on the copying machine.

run_none : (old new : State) → new ≡ old → Run old [] [] new
run_none old new same = same

run_step : (old mid new : State) (e : Event) (r : Reply) (es : List Event) (rs : List Reply) → StepsTo old e r mid
    → Run mid es rs new → Run old (e ∷ es) (r ∷ rs) new
run_step old mid new e r es rs step rest = (mid, step, rest)

run_then : (old mid new : State) (past future : List Event) (rs qs : List Reply) → Run old past rs mid
    → Run mid future qs new → Run old (past ++ future) (rs ++ qs) new
run_then old mid new [] future [] qs first next = subst (λ (s : State). Run s future qs new) first next
run_then old mid new (e ∷ past) future (r ∷ rs) qs first next =
    (first.0, first.1, run_then first.0 mid new past future rs qs first.2 next)
run_then old mid new [] future (r ∷ rs) qs first next = absurd first
run_then old mid new (e ∷ past) future [] qs first next = absurd first

module _ {P : Type 0} (turns : TransitionRelation P) where
  pub machine_as : (w after : WorldState State P) (xs : List Choice) (rs : List Reply)
      → WorldRun copying turns w xs rs after
      → RunsAs Run w.machine xs rs after.machine
  machine_as w after xs rs ran = run_as copying turns Run run_none run_step w after xs rs ran

  pub history_proceeds : (first : State) (past : List Event) (ps : List Reply) (w after : WorldState State P)
      (xs : List Choice) (rs : List Reply) → Run first past ps w.machine → WorldRun copying turns w xs rs after
      → Proceeds first past ps xs rs after.machine
  history_proceeds first past ps w after xs rs was ran =
      let now = machine_as w after xs rs ran in record {
        events = now.events;
        replies = now.replies;
        run = run_then first w.machine after.machine past now.events ps now.replies was now.runs;
        brought = now.brought;
        stream = λ c. stream-append first w.machine past now.events ps now.replies c was
            ∙ ap (λ (l : List ℕ). stream_of c past ps ++ l) (now.stream c);
        sent = λ c. sent-append first w.machine past now.events ps now.replies c was
            ∙ ap (λ (l : List ℕ). sent_of c past ps ++ l) (now.sent c);
      }

  pub unread_over : (w after : WorldState State P) (xs : List Choice) (rs : List Reply) (c : ℕ) → IsOrderly w.machine
      → WorldRun copying turns w xs rs after
      → IsEndOf (bytes_of (conn_at w.machine c).incoming) (stream_over c xs rs)
      (bytes_of (conn_at after.machine c).incoming)
  unread_over w after xs rs c order ran =
      let now = machine_as w after xs rs ran in
      subst
      (λ (l : List ℕ). IsEndOf (bytes_of (conn_at w.machine c).incoming) l
      (bytes_of (conn_at after.machine c).incoming)) (now.stream c)
      (unread_run w.machine after.machine now.events now.replies c order now.runs)

  pub unsent_over : (w after : WorldState State P) (xs : List Choice) (rs : List Reply) (c : ℕ) → IsOrderly w.machine
      → WorldRun copying turns w xs rs after → list_any (λ x. drops_with x c) xs ≡ false
      → GoesFirst (bytes_of (conn_at w.machine c).outgoing) (sent_over c xs rs)
      (bytes_of (conn_at after.machine c).outgoing)
  unsent_over w after xs rs c order ran kept =
      let now = machine_as w after xs rs ran in
      subst
      (λ (l : List ℕ). GoesFirst (bytes_of (conn_at w.machine c).outgoing) l
      (bytes_of (conn_at after.machine c).outgoing)) (now.sent c)
      (unsent_run w.machine after.machine now.events now.replies c order now.runs (now.drops c ∙ kept))

  pub waiting_over : (w after : WorldState State P) (xs : List Choice) (rs : List Reply) (c : ℕ) → IsOrderly w.machine
      → WorldRun copying turns w xs rs after → (conn_at w.machine c).accepted ≡ false
      → (conn_at after.machine c).accepted ≡ false
      → IsAllUnread w.machine c (stream_over c xs rs) (sent_over c xs rs) after.machine
  waiting_over w after xs rs c order ran was is =
      let now = machine_as w after xs rs ran in
      let all = waiting_run w.machine after.machine now.events now.replies c order now.runs was is in record {
        unread = all.unread ∙ ap (λ (l : List ℕ). bytes_of (conn_at w.machine c).incoming ++ l) (now.stream c);
        none = sym (now.sent c) ∙ all.none;
      }
